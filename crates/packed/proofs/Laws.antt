-- What `list --numbers` prints of a recording is packed to the recording, byte for byte.
use Prim.Native.Nat.{ℕ}
use mathlib.Core.Path.{◌≡◌, refl, sym, ap, ◌∙◌}
use mathlib.Core.Bool.{false}
use mathlib.Core.List.{List, [], ◌∷◌, ◌++◌, map, append_assoc}
use Rattle.std.proofs.Common.{Ok}
use Rattle.number.proofs.Laws.{Bytes}
use Rattle.text.specs.Text.{decimal}
use Rattle.recording.specs.declared.Numbers.{Numbers}
use Rattle.recording.specs.Recording.{own_numbers}
use Rattle.recording.specs.Operations.{as_read, recording_bytes, Holds, ends, reads}
use Rattle.recording.proofs.Laws.{Writable, AllWritable, what_was_read, whole_recording}
use Rattle.notation.specs.Text.{spaced, numbers_line}
use Rattle.notation.specs.Reading.{none_begun, ended_at, read_from}
use Rattle.notation.specs.declared.Step.TheVariants.{Operation}
use Rattle.packed.specs.Content.{uncommented, pieces, complete, in_front, at_end, content_of_all, content_of, packed_bytes, numbers_lines}
use Rattle.packed.proofs.Pieces.{uncommented_inside, pieces_before}
use Rattle.packed.proofs.Lines.{read_line, line_made, Inside, inside_line}

-- What a text holds that has a line in front of it.
with_line : (w rest : List ℕ) → Inside w
    → content_of (w ++ (10 ∷ rest)) ≡ in_front (content_of rest) (at_end (read_from none_begun [] w 0))
unfolding content_of content_of_all uncommented
with_line w rest p = rw (uncommented_inside p (10 ∷ rest), pieces_before p 10 (uncommented false rest) refl)

read_back : (x : Numbers) → Writable x → at_end (read_from none_begun [] (decimal x.code ++ spaced (own_numbers x)) 0) ≡ Ok (Operation (as_read x) 0)
read_back x w = ap at_end (read_line x w) ∙ line_made x w

nothing_held : content_of [] ≡ record { operations = []; ending = complete }
unfolding content_of content_of_all pieces uncommented read_from ended_at
nothing_held = refl

-- The lines of operations hold these, and nothing is wrong.
pub lines_hold : (list : List Numbers) → AllWritable list
    → content_of (numbers_lines list) ≡ record { operations = map as_read list; ending = complete }
unfolding numbers_lines numbers_line
lines_hold [] w = nothing_held
lines_hold (x ∷ list) w =
    let line = decimal x.code ++ spaced (own_numbers x) in
    ap content_of (append_assoc line (10 ∷ []) (numbers_lines list))
    ∙ with_line line (numbers_lines list) (inside_line x)
    ∙ ap (in_front (content_of (numbers_lines list))) (read_back x w.0)
    ∙ rw (lines_hold list w.1)

-- What is read has only its own fields.
own_only : {s : List ℕ} {at : ℕ} {list : List Numbers} → Bytes s → Holds s at list → map as_read list ≡ list
own_only h (ends f) = refl
own_only {s} {at} h (reads {next = next} {x = x} {list = list} e rest) =
    ap (λ (l : List Numbers). as_read x ∷ l) (own_only h rest)
    ∙ ap (λ (y : Numbers). y ∷ list) (sym (what_was_read s at x next h e).own)

-- `pack` of `list --numbers` is the recording.
pub pack_of_list : (bytes : List ℕ) (list : List Numbers) → Bytes bytes → Holds bytes 0 list
    → (packed_bytes (numbers_lines list) ≡ bytes) × ((content_of (numbers_lines list)).ending ≡ complete)
unfolding packed_bytes
pack_of_list bytes list h r =
    let whole = whole_recording bytes list h r in
    let held = lines_hold list whole.0 in
    (rw held (ap recording_bytes (own_only h r) ∙ sym whole.1), rw held)
