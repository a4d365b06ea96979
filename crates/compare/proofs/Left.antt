-- What is left of a recording from a place on, by what stands there: its first bad number, and its operations.
use Rattle.std.proofs.Common.{◌≡◌, ℕ, ◌<◌, ◌≤◌, List, [], ◌∷◌, length, sym, refl, ◌∙◌, arith}
use Rattle.bits.proofs.Cases.{never}
use Rattle.recording.specs.declared.Numbers.{Numbers}
use Rattle.recording.specs.Recording.{Reading}
use Rattle.recording.specs.Recording.{operation_at}
use Rattle.recording.proofs.Run.{left, none_left, one_left}
use Rattle.std.proofs.Common.{Some, None}
use Rattle.recording.specs.declared.Damage.{Damage}
use Rattle.compare.specs.Compare.{operations, first_bad}
use Rattle.compare.specs.Walk.{bad_from}
use Rattle.std.proofs.Common.{Ok, Err}

module _ (bytes : List ℕ) (at : ℕ) where
  -- At the end.
  pub no_bad : length bytes ≤ at → bad_from bytes at ≡ None
  unfolding bad_from first_bad
  no_bad h = rw (none_left bytes at h)

  pub none : length bytes ≤ at → operations (left bytes at) ≡ []
  unfolding operations
  none h = rw (none_left bytes at h)

  module _ (there : at < length bytes) where
    -- Before an operation.
    pub next-left : (x : Numbers) (next : ℕ) → operation_at bytes at ≡ Ok (x, next) → left bytes at ≡ Ok (x, next) ∷ left bytes next
    next-left x next e = one_left bytes at there ∙ rw e

    pub bad_on : (x : Numbers) (next : ℕ) → operation_at bytes at ≡ Ok (x, next) → bad_from bytes at ≡ bad_from bytes next
    unfolding bad_from first_bad
    bad_on x next e = rw (next-left x next e)

    -- Before what cannot be read.
    pub bad_here : (d : Damage) → operation_at bytes at ≡ Err d → bad_from bytes at ≡ Some d
    unfolding bad_from first_bad
    bad_here d e = rw (one_left bytes at there, e)

    -- There is an operation where no bad number is.
    pub some : bad_from bytes at ≡ None → 0 < length (operations (left bytes at))
    unfolding operations
    some none-bad = go (operation_at bytes at) refl
      where
        go : (r : Reading) → operation_at bytes at ≡ r → 0 < length (operations (left bytes at))
        go (Ok (x, next)) e = rw (next-left x next e) (omega arith)
        go (Err d) e = let both : Some d ≡ None = sym (bad_here d e) ∙ none-bad in never (cc)
