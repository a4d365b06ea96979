-- What was unread stands in front of what came behind it.
use Rattle.std.proofs.Common.{◌≡◌, ℕ, ◌+◌, ◌≤◌, min, ◌==◌, List, ◌++◌, length, take, drop, Ok, refl, ap, ◌∙◌, arith, length-take-le, eqb-true, le-leb}
use borrow.Author.Tests.{eqb-false}
use borrow.Rule.Slice.PartMut.{put_mid, post_of}
use lib.Seq.{take-append_seam, take-append-le, take-append-add}
use Rattle.buffer.specs.Buffer.{waiting, moved_down}
use Rattle.input.specs.declared.Window.{Window}
use Rattle.input.specs.Input.{unread_of, refilled_at, Brings}

module _ (bytes : List ℕ) (w : Window) (moved part : List ℕ) (kept came k : ℕ) (fits : w.end ≤ length bytes) (is-moved : moved ≡ moved_down bytes w.start w.end)
    (is-kept : kept ≡ length (waiting bytes w.start w.end))
    (few : came ≤ length part)
  where
    brought : take (kept + came) (put_mid kept k moved part) ≡ unread_of bytes w ++ take came part
    unfolding waiting moved_down
    brought =
        let e = le-leb w.end (length bytes) fits in
        let unread = unread_of bytes w in
        let size : kept ≡ length unread = is-kept ∙ rw e in
        let front : take kept moved ≡ unread =
        ap (λ (n : ℕ). take n moved) size ∙ ap (take (length unread)) (is-moved ∙ rw e) ∙ take-append_seam unread (drop (length unread) bytes)
        in
        let rest = part ++ post_of kept k moved in
        ap (λ (l : List ℕ). take (kept + came) (l ++ rest)) front ∙ ap (λ (n : ℕ). take (n + came) (unread ++ rest)) size
        ∙ take-append-add unread rest came
        ∙ ap (λ (l : List ℕ). unread ++ l) (take-append-le came part (post_of kept k moved) few)

    -- A read brings what came.
    pub filled : {E : Type 0} → kept + came ≤ 65536 → Brings {E = E} bytes w (Ok tt) (put_mid kept k moved part) (refilled_at w kept came (came == 0))
    filled room =
        let end : min (kept + came) 65536 ≡ kept + came = omega arith in
        record {
          operations = refl;
          before = λ is. refl;
          piece = λ is. (
            take came part,
            ap (λ (n : ℕ). take n (put_mid kept k moved part)) end ∙ brought,
            λ none. ap (λ (n : ℕ). take n part) (eqb-true came 0 none),
            λ some. simp (length-take-le came part few) (omega (arith, eqb-false came 0 some)),
          );
        }
