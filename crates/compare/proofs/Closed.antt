-- Answers that the checker computes from the definitions: the manual's example, in which an unequal pair stands before the shorter
-- one's end; the two exchanged; a recording and itself; and two bad numbers, of which that of the second, a code that is none,
-- stands further in front. So what the laws assume is met.
use Rattle.std.proofs.Common.{◌≡◌, ℕ, List, [], ◌∷◌, refl}
use Rattle.number.specs.Number.{number_in, number_at}
use Rattle.recording.specs.Recording.{field_count, numbers_at, operation_at}
use Rattle.recording.specs.Run.{read_from, readings}
use Rattle.compare.specs.Compare.{operations, first_bad, behind, differing, equal_front, first_differing, rest, bad_of, good, parting_of}

-- 1 5 0 0 64 128 / 7 3
abbrev first : List ℕ
first = 1 ∷ 5 ∷ 0 ∷ 0 ∷ 64 ∷ 128 ∷ 1 ∷ 7 ∷ 3 ∷ []

-- 1 5 0 1 64 132 / 7 3 / 4 0 49
abbrev second : List ℕ
second = 1 ∷ 5 ∷ 0 ∷ 1 ∷ 64 ∷ 132 ∷ 1 ∷ 7 ∷ 3 ∷ 4 ∷ 0 ∷ 49 ∷ []

-- 7 3, and a read that is cut off.
abbrev cut : List ℕ
cut = 7 ∷ 3 ∷ 5 ∷ 0 ∷ []

pub closed_parting : (parting_of first second ≡ good 0 1 40 (rest 2 9 12))
    × (parting_of second first ≡ good 0 2 40 (rest 1 9 12))
    × (parting_of first first ≡ good 2 0 0 (rest 1 9 9))
    × (parting_of cut (127 ∷ []) ≡ bad_of 1 1 4)
unfolding number_in number_at field_count numbers_at operation_at read_from readings operations first_bad behind differing equal_front first_differing parting_of
closed_parting = (refl, refl, refl, refl)
