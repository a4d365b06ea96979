-- The names of what differs, one behind another, and how long they are.
use Prim.Native.Nat.{ℕ, ◌+◌, ◌/◌, ◌%◌, ◌≤◌, ◌<◌}
use Prim.Native.String.{String}
use native.Mathlib.Omega.{arith}
use mathlib.Core.Bool.{Bool, true, false, ◌||◌}
use mathlib.Core.List.{List, [], ◌∷◌}
use lib.ListN.{length, drop, get_or, length-append}
use Rattle.std.proofs.Common.{Bor, nat_eq}
use Rattle.std.proofs.lemmas.List.{drop_more}
use Rattle.bits.specs.Bits.{is_set}
use Rattle.buffer.specs.Buffer.{Put}
use Rattle.buffer.proofs.Laws.{and_part}
use Rattle.text.specs.Text.{bytes_of_text}
use Rattle.readable.proofs.Laws.{length-entry}
use Rattle.difference.specs.Difference.{piece, joined, names, named, names_by_code, differing_names}

-- The fields' names, and whether each is told.
abbrev pub told_of : ℕ → List (ℕ × Bor (List ℕ)) → List (Bool × List ℕ)
told_of d [] = []
told_of d ((weight, name) ∷ fields) = (nat_eq (d / weight % 2) 1, name.now) ∷ told_of d fields

-- A field's name in front of the names behind it.
pub next_field : {out between after : List ℕ} (d : ℕ) (fields : List (ℕ × Bor (List ℕ))) (i : ℕ) (other : ℕ × Bor (List ℕ)) (begun : Bool)
    → i < length fields
    → Put out (piece begun (nat_eq (d / (get_or fields i other).0 % 2) 1) (get_or fields i other).1.now) between
    → Put between (joined (begun || nat_eq (d / (get_or fields i other).0 % 2) 1) (told_of d (drop (i + 1) fields))) after
    → Put out (joined begun (told_of d (drop i fields))) after
next_field d fields i other begun h first rest = rw (drop_more fields i other h) (and_part first rest)

short_piece : (begun told : Bool) (name : List ℕ) → length (piece begun told name) ≤ length name + 2
short_piece begun false name = omega arith
short_piece true true name = omega (arith, length-append (bytes_of_text ", ") name)
short_piece false true name = omega arith

short_names : (d : ℕ) (a b c e : List ℕ) → length (names d a b c e) ≤ 22 + (length a + length b + length c + length e)
unfolding names
short_names d a b c e =
    let s0 = is_set 0 d in
    let s1 = is_set 1 d in
    let s2 = is_set 2 d in
    let s3 = is_set 3 d in
    let s4 = is_set 4 d in
    let s5 = is_set 5 d in
    simp length-append
    (omega
    (arith, short_piece false s0 (bytes_of_text "code"), short_piece s0 s1 (bytes_of_text "cycles"), short_piece (s0 || s1) s2 a, short_piece ((s0 || s1) || s2) s3 b, short_piece (((s0 || s1) || s2) || s3) s4 c, short_piece ((((s0 || s1) || s2) || s3) || s4) s5 e))

-- Names that have so many letters together.
short_named : (d : ℕ) (a b c e : String) → length (bytes_of_text a) + length (bytes_of_text b) + length (bytes_of_text c) + length (bytes_of_text e) ≤ 42
    → length (named d a b c e) ≤ 64
short_named d a b c e h = omega (arith, h, short_names d (bytes_of_text a) (bytes_of_text b) (bytes_of_text c) (bytes_of_text e))

pub short_differing : (code d : ℕ) → length (differing_names code d) ≤ 64
unfolding differing_names
short_differing code d =
    length-entry (names_by_code d) code (named d "" "" "" "") 64 (
      short_named d "size" "v1p1" "" "" (omega arith),
      (
        short_named d "type" "mispredicted" "source" "target" (omega arith),
        (
          short_named d "type" "target_level" "source" "target" (omega arith),
          (
            short_named d "target_level" "mispredicted" "source" "target" (omega arith),
            (
              short_named d "P" "" "" "" (omega arith),
              (
                short_named d "register" "" "" "" (omega arith),
                (
                  short_named d "register" "value" "" "" (omega arith),
                  (
                    short_named d "source" "" "" "" (omega arith),
                    (
                      short_named d "target" "target_level" "" "" (omega arith),
                      (short_named d "group" "physical" "virtual_offset" "guest_offset" (omega arith), tt),
                    ),
                  ),
                ),
              ),
            ),
          ),
        ),
      ),
    )
    (short_named d "" "" "" "" (omega arith))
