-- What the output and the input hold after a write, and after bytes were moved to the front.
use Rattle.std.proofs.Common.{◌≡◌, ℕ, ◌+◌, ◌-◌, ◌^◌, ◌≤◌, ◌<◌, ◌⊎◌, List, [], ◌++◌, length, take, drop, refl, sym, ◌∙◌, arith, append-nil, length-append, append_assoc}
use Rattle.std.specs.List.{copy_within}
use Rattle.std.proofs.lemmas.Slice.{between_is}
use Rattle.std.proofs.lemmas.Bool.{le-leb}
use Rattle.std.proofs.Math.Seq.{slice, length-slice}
use Rattle.std.proofs.lemmas.Bool.Decides.{leb_tells}
use Rattle.std.proofs.lemmas.Grind.{common_steps}
use Rattle.number.specs.Number.{written_if, count_if}
use Rattle.buffer.specs.Buffer.{waiting, moved_down, Put}

-- Nothing behind what waits.
pub no_part : {out : List ℕ} → Put out [] out
no_part {out} = record { held = λ fits. sym (append-nil out) }

-- A part behind another.
pub and_part : {out between after xs ys : List ℕ} → Put out xs between → Put between ys after → Put out (xs ++ ys) after
and_part {out} {between} {after} {xs} {ys} first second =
    record {
      held = λ fits.
          let sum = length-append xs ys in
          let front = first.held (omega arith) in
          let behind = second.held (rw front (simp length-append (omega arith))) in
          behind ∙ rw front (append_assoc out xs ys);
    }

-- A write of all or nothing behind what waits, and the place behind it.
module _ (out : List ℕ) (at : ℕ) (bytes : List ℕ) (whole : length out ≡ 65536) where
  pub one_part : Put (take at out) bytes (take (at + count_if out at bytes) (written_if out at bytes))
  unfolding count_if written_if
  one_part =
      record { held = λ fits. grind (arith, common_steps, leb_tells (at + length bytes) (length out)) }

  pub place_fits : at < 2 ^ 64 → at + count_if out at bytes < 2 ^ 64
  unfolding count_if
  place_fits h = grind (arith, leb_tells (at + length bytes) (length out))

-- Bytes moved to the front.
module _ (input : List ℕ) (at end : ℕ) where
  pub none_moved : (length input < end) ⊎ ((end ≤ length input) × (end < at)) → ((0 ≡ length (waiting input at end)) × (0 ≤ length input)) × (input ≡ moved_down input at end)
  unfolding waiting moved_down
  none_moved h = grind (arith, common_steps, leb_tells end (length input), h)

  pub all_moved : end ≤ length input → at ≤ end
      → (end - at ≡ length (waiting input at end)) × (copy_within input at end 0 ≡ moved_down input at end)
  unfolding waiting moved_down
  all_moved fits h =
      let long : length (slice at end input) ≡ end - at = length-slice at end input fits in
      let between : take (end - at) (drop at input) ≡ slice at end input = between_is input at end in
      let front : 0 + (end - at) ≡ end - at = omega arith in
      rw (le-leb end (length input) fits, front, long, between) (refl, refl)
