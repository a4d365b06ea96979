-- Whether bytes are the same. The loop's invariant: those so far are.
use Rattle.std.proofs.Common.{◌≡◌, ℕ, ◌+◌, ◌-◌, ◌<◌, ◌≤◌, true, false, List, get_or}
use Rattle.compare.proofs.same_bytes.Given as goal

-- So many bytes are the same.
abbrev pub Same : List ℕ → ℕ → List ℕ → ℕ → ℕ → Type 0
Same a at b other i = (j : ℕ) → j < i → get_or a (at + j) 0 ≡ get_or b (other + j) 0

abbrev pub invariant-loop-i : goal.invariant-loop-i
invariant-loop-i l =
    (l.same ≡ true → Same l.a l.at l.b l.other l.i) × (l.same ≡ false → Same l.a l.at l.b l.other l.i → ⊥)
