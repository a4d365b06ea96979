-- Words for what is proved of a comparison. docs/MANUAL.md, "Comparing recordings".
use Rattle.std.specs.Prelude.{◌≡◌, ℕ, cond, ◌≢◌, List, [], ◌∷◌, take, drop, ◌==◌}
use Rattle.recording.specs.declared.Numbers.{Numbers}
use Rattle.compare.specs.declared.Parting.{Parting}

-- What stands behind so many operations of two lists: one of them has ended, or an unequal pair.
pub data Parts (list others : List Numbers) (k : ℕ) : Type 0 where
  first_ended : drop k list ≡ [] → Parts list others k
  second_ended : drop k others ≡ [] → Parts list others k
  unequal : (x y : Numbers) (rest more : List Numbers) → drop k list ≡ x ∷ rest → drop k others ≡ y ∷ more → x ≢ y → Parts list others k

-- The longest common front of two lists has so many: those are the same in both, and there both part.
pub record LongestFront (list others : List Numbers) (k : ℕ) : Type 0 where
  pub same : take k list ≡ take k others
  pub parts : Parts list others k

-- The first where it was the second and the second where it was the first.
abbrev pub exchanged : ℕ → ℕ
exchanged which = cond (which == 1) 2 (cond (which == 2) 1 which)

-- An answer with the two recordings exchanged.
abbrev pub swapped : Parting → Parting
swapped p =
    record {
      number = p.number;
      which = exchanged p.which;
      at = p.at;
      equal = p.equal;
      ending = exchanged p.ending;
      differing = p.differing;
      rest = record { of = exchanged p.rest.of; at = p.rest.at; length = p.rest.length };
    }
