-- Laws on comparisons: what is told of two recordings is of the operations that they hold; a recording is equal to itself; and the
-- two may be exchanged, but for the cases that name the first.
use Rattle.std.proofs.Common.{◌≡◌, ℕ, ◌-◌, ◌<◌, ◌≤◌, ◌≢◌, List, length, sym, refl, ap, ◌∙◌, ⊎_elim, arith, le-ltb, lt-ltb}
use Rattle.bits.proofs.Cases.{below_or_not}
use Rattle.recording.specs.declared.Numbers.{Numbers}
use Rattle.recording.specs.Operations.{Holds}
use Rattle.recording.specs.Run.{readings}
use Rattle.std.proofs.Common.{Some, None}
use Rattle.recording.specs.declared.Damage.{Damage}
use Rattle.answer.specs.Answer.{refusal_number}
use Rattle.compare.specs.Compare.{first_bad, behind, good, bad_of, parting_of_good, parting_of}
use Rattle.compare.specs.Parted.{swapped}
use Rattle.compare.proofs.Front.{front_swapped, first_swapped, all_equal, none_differs}
use Rattle.compare.proofs.Held.{held, behind_all}

-- ---- two recordings that can be read

-- What is answered of them, by the operations that they hold.
pub of_operations : {a b : List ℕ} {list others : List Numbers} → Holds a 0 list → Holds b 0 others → parting_of a b ≡ parting_of_good a b list others
unfolding parting_of
of_operations {a} {b} h g = rw ((held a h).0, (held a h).1, (held b g).0, (held b g).1)

-- A recording and itself: all operations are equal, none ends first, nothing differs, and nothing is left.
pub itself : {a : List ℕ} {list : List Numbers} → Holds a 0 list → parting_of a a ≡ good (length list) 0 0 (record { of = 1; at = length a; length = 0 })
itself {a} {list} h =
    let none : length a - length a ≡ 0 = omega arith in
    of_operations h h
    ∙ rw (all_equal list, none_differs list, le-ltb (length list) (length list) (omega arith), behind_all a h, none)

-- ---- the two exchanged

-- Which ends first, and the rest, where one is longer.
longer : (a b : List ℕ) (list others : List Numbers) → length list ≢ length others
    → parting_of_good b a others list ≡ swapped (parting_of_good a b list others)
longer a b list others unlike =
    let n = length list in
    let m = length others in
    ⊎_elim
    (λ (l : n < m). rw (front_swapped others list, first_swapped others list, lt-ltb n m l, le-ltb m n (omega (arith, l))))
    (λ (l : m ≤ n).
    let more : m < n = ⊎_elim (λ (g : m < n). g) (λ (g : n ≤ m). absurd (unlike (omega (arith, l, g)))) (below_or_not m n) in
    rw (front_swapped others list, first_swapped others list, lt-ltb m n more, le-ltb n m l))
    (below_or_not n m)

-- Where both can be read and one is longer, all is exchanged.
pub exchanged-good : {a b : List ℕ} {list others : List Numbers} → Holds a 0 list → Holds b 0 others → length list ≢ length others
    → parting_of b a ≡ swapped (parting_of a b)
exchanged-good {a} {b} {list} {others} h g unlike = of_operations g h ∙ longer a b list others unlike ∙ ap swapped (sym (of_operations h g))

-- Where both have as many, the same is said but for the rest, which is the first's, and empty.
pub exchanged_as_many : {a b : List ℕ} {list others : List Numbers} → Holds a 0 list → Holds b 0 others → length list ≡ length others
    → parting_of b a ≡ good (parting_of a b).equal 0 (parting_of a b).differing (record { of = 1; at = length b; length = 0 })
exchanged_as_many {a} {b} {list} {others} h g same =
    let none : length b - length b ≡ 0 = omega arith in
    let end : behind (length list) 0 (readings b) ≡ length b = ap (λ (k : ℕ). behind k 0 (readings b)) same ∙ behind_all b g in
    of_operations g h
    ∙ rw (of_operations h g, front_swapped others list, first_swapped others list, le-ltb (length others) (length list) (omega (arith, same)), le-ltb (length list) (length others) (omega (arith, same)), end, none)

-- A bad number of one alone is told of that one, whichever place it has.
pub exchanged_bad : (a b : List ℕ) (d : Damage) → first_bad (readings a) ≡ Some d → first_bad (readings b) ≡ None
    → (parting_of a b ≡ bad_of 1 (refusal_number d.refusal) d.at) × (parting_of b a ≡ swapped (parting_of a b))
unfolding parting_of
exchanged_bad a b d e f = rw (e, f) (refl, refl)

-- Of two, the first's is, wherever they stand.
pub first_bad_lem : (a b : List ℕ) (d : Damage) → first_bad (readings a) ≡ Some d → parting_of a b ≡ bad_of 1 (refusal_number d.refusal) d.at
unfolding parting_of
first_bad_lem a b d e = rw e
