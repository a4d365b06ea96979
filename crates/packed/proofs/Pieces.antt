-- Bytes inside an operation: no comment starts there, and no piece ends.
use Prim.Native.Nat.{ℕ}
use mathlib.Core.Path.{◌≡◌, refl, ap}
use mathlib.Core.Bool.{Bool, true, false, ◌||◌}
use mathlib.Core.List.{List, [], ◌∷◌, ◌++◌}
use lib.Dec.{eqb}
use Rattle.bits.proofs.Cases.{never}
use Rattle.notation.specs.Words.{ends_operation}
use Rattle.packed.specs.Content.{uncommented, on_first, pieces}
use Rattle.packed.proofs.Lines.{Inside, nothing, more}

neither : (t u : Bool) → t || u ≡ false → (t ≡ false) × (u ≡ false)
neither true u e = never (cc)
neither false u e = (refl, e)

no_comment : (b : ℕ) → ends_operation b ≡ false → eqb b 35 ≡ false
no_comment b e = (neither (eqb b 35) (eqb b 47) (neither (eqb b 35 || eqb b 47) (eqb b 10) e).0).0

pub uncommented_inside : {w : List ℕ} → Inside w → (rest : List ℕ) → uncommented false (w ++ rest) ≡ w ++ uncommented false rest
unfolding uncommented
uncommented_inside nothing rest = refl
uncommented_inside (more {b} {w} e p) rest = rw (no_comment b e) (ap (λ (text : List ℕ). b ∷ text) (uncommented_inside p rest))

pub uncommented_whole : {w : List ℕ} → Inside w → uncommented false w ≡ w
unfolding uncommented
uncommented_whole nothing = refl
uncommented_whole (more {b} {w} e p) = rw (no_comment b e) (ap (λ (text : List ℕ). b ∷ text) (uncommented_whole p))

-- What ends an operation ends a piece, and so does the text's end.
pub pieces_before : {w : List ℕ} → Inside w → (b : ℕ) (rest : List ℕ) → ends_operation b ≡ true → pieces (w ++ (b ∷ rest)) ≡ w ∷ pieces rest
unfolding pieces
pieces_before nothing b rest t = rw t
pieces_before (more {b = a} {w} e p) b rest t = rw e (ap (on_first a) (pieces_before p b rest t))

pub pieces_last : {w : List ℕ} → Inside w → pieces w ≡ w ∷ []
unfolding pieces
pieces_last nothing = refl
pieces_last (more {b} {w} e p) = rw e (ap (on_first b) (pieces_last p))
