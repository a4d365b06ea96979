-- Where two recordings part. Document 02, "Eight"; docs/MANUAL.md, "Comparing recordings".
use Rattle.std.specs.Prelude.{ℕ, zero, suc, ◌+◌, ◌-◌, cond, List, [], ◌∷◌, length, drop, ◌==◌, nat_lt}
use Rattle.recording.specs.declared.Numbers.{Numbers}
use Rattle.recording.specs.Recording.{Reading}
use Rattle.recording.specs.Run.{readings}
use Rattle.std.specs.Prelude.{Option, Some, None}
use Rattle.recording.specs.declared.Damage.{Damage}
use Rattle.answer.specs.Answer.{refusal_number}
use Rattle.compare.specs.declared.Rest.{Rest}
use Rattle.compare.specs.declared.Parting.{Parting}
use Rattle.std.specs.Prelude.{Ok, Err}

-- ---- what one recording holds

-- The operations of what was read; what could not be read is none, and ends it.
unfoldable pub operations : List Reading → List Numbers
operations [] = []
operations (Ok (x, next) ∷ list) = x ∷ operations list
operations (Err d ∷ list) = []

-- The first bad number of what was read: the number of its refusal, and the byte where it starts.
unfoldable pub first_bad : List Reading → Option Damage
first_bad [] = None
first_bad (Ok (x, next) ∷ list) = first_bad list
first_bad (Err d ∷ list) = Some d

-- The place behind so many of the operations that were read from a place on.
unfoldable pub behind : ℕ → ℕ → List Reading → ℕ
behind zero at list = at
behind (suc k) at [] = at
behind (suc k) at (Ok (x, next) ∷ list) = behind k next list
behind (suc k) at (Err d ∷ list) = at

-- ---- two operations, and two lists of them

-- A bit's weight where two numbers are unlike.
abbrev pub unlike : ℕ → ℕ → ℕ → ℕ
unlike weight m n = cond (m == n) 0 weight

-- What differs in the cycles (bit 1) and the fields, in their order (bits 2 to 5), of two operations of one code. Of two that were
-- read, fields beyond their own are 0 in both.
abbrev pub differing_numbers : Numbers → Numbers → ℕ
differing_numbers x y =
    unlike 2 x.cycles y.cycles + unlike 4 x.a y.a + unlike 8 x.b y.b + unlike 16 x.c y.c + unlike 32 x.d y.d

-- What differs in two operations, as bits: the code alone where the codes do (bit 0).
unfoldable pub differing : Numbers → Numbers → ℕ
differing x y = cond (x.code == y.code) (differing_numbers x y) 1

-- How many are equal at the front.
unfoldable pub equal_front : List Numbers → List Numbers → ℕ
equal_front [] others = 0
equal_front (x ∷ list) [] = 0
equal_front (x ∷ list) (y ∷ others) = cond (differing x y == 0) (suc (equal_front list others)) 0

-- What differs in the first unequal pair; 0 where there is none.
unfoldable pub first_differing : List Numbers → List Numbers → ℕ
first_differing [] others = 0
first_differing (x ∷ list) [] = 0
first_differing (x ∷ list) (y ∷ others) = cond (differing x y == 0) (first_differing list others) (differing x y)

-- Which of two recordings that have so many operations ends first: the first (1), the second (2), or neither (0).
abbrev pub ends_first : ℕ → ℕ → ℕ
ends_first n m = cond (nat_lt n m) 1 (cond (nat_lt m n) 2 0)

-- ---- what is answered

-- What one of the two recordings, which has so many bytes, holds from a place on.
abbrev pub rest : ℕ → ℕ → ℕ → Rest
rest of at size = record { of = of; at = at; length = size - at }

-- The rest of the longer recording: what it holds after as many operations as the other has; the first's where both have as many,
-- which is then empty.
abbrev pub rest_of : List ℕ → List ℕ → ℕ → ℕ → Rest
rest_of a b n m = cond (nat_lt n m) (rest 2 (behind n 0 (readings b)) (length b)) (rest 1 (behind m 0 (readings a)) (length a))

-- A bad number of one of them: only that is told, and the rest is no part of either.
abbrev pub bad_of : ℕ → ℕ → ℕ → Parting
bad_of which number at =
    record { number = number; which = which; at = at; equal = 0; ending = 0; differing = 0; rest = record { of = 0; at = 0; length = 0 } }

-- No bad number in either: how many operations are equal at the front, which one ends first, what differs in the first unequal
-- pair, and the rest.
abbrev pub good : ℕ → ℕ → ℕ → Rest → Parting
good equal ending differing rest = record { number = 0; which = 0; at = 0; equal = equal; ending = ending; differing = differing; rest = rest }

-- The first recording's bad number goes before the second's, wherever the two stand; and either before all else.
abbrev pub unless_bad : Option Damage → Option Damage → Parting → Parting
unless_bad (Some d) second parting = bad_of 1 (refusal_number d.refusal) d.at
unless_bad None (Some d) parting = bad_of 2 (refusal_number d.refusal) d.at
unless_bad None None parting = parting

-- Where two recordings part that can be read, by their operations.
abbrev pub parting_of_good : List ℕ → List ℕ → List Numbers → List Numbers → Parting
parting_of_good a b xs ys =
    good (equal_front xs ys) (ends_first (length xs) (length ys)) (first_differing xs ys) (rest_of a b (length xs) (length ys))

-- Where two recordings part.
unfoldable pub parting_of : List ℕ → List ℕ → Parting
parting_of a b =
    unless_bad (first_bad (readings a)) (first_bad (readings b)) (parting_of_good a b (operations (readings a)) (operations (readings b)))

-- The rest as a part of the recording that it belongs to; where it is of neither, an empty part.
unfoldable pub rest_part : Rest → List ℕ → List ℕ → List ℕ
rest_part r a b = cond (r.of == 2) (drop r.at b) (cond (r.of == 1) (drop r.at a) [])
