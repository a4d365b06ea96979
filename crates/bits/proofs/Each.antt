-- What a test of several says of each.
use mathlib.Core.Path.{◌≡◌, refl}
use mathlib.Core.Bool.{Bool, true, false, ◌&&◌, ◌||◌}
use borrow.Author.Tests.{not-true, not-false}

pub first : (a b : Bool) → a && b ≡ true → a ≡ true
first true b e = refl
first false b e = e

pub second : (a b : Bool) → a && b ≡ true → b ≡ true
second true b e = e
second false b e = cc

pub left : (a b : Bool) → a || b ≡ false → a ≡ false
left true b e = e
left false b e = refl

pub right : (a b : Bool) → a || b ≡ false → b ≡ false
right true b e = cc
right false b e = e

pub ruleset each = (first, second, left, right, not-true, not-false)
