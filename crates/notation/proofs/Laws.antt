-- Each digit that `list` writes is read back as the number it was written for.
use Prim.Native.Nat.{ℕ}
use mathlib.Core.Path.{◌≡◌, refl}
use mathlib.Core.List.{List, [], ◌∷◌, map}
use Rattle.std.proofs.Common.{Some}
use Rattle.text.specs.Text.{digit}
use Rattle.notation.specs.Text.{digit_value}

abbrev pub sixteen : List ℕ
sixteen = 0 ∷ 1 ∷ 2 ∷ 3 ∷ 4 ∷ 5 ∷ 6 ∷ 7 ∷ 8 ∷ 9 ∷ 10 ∷ 11 ∷ 12 ∷ 13 ∷ 14 ∷ 15 ∷ []

pub digits_read_back : map (λ n. digit_value (digit n)) sixteen ≡ map (λ n. Some n) sixteen
digits_read_back = refl
