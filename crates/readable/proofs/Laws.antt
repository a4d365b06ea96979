-- Parts of a line one behind another, and how long a line is.
use Prim.Native.Nat.{ℕ, ◌+◌, ◌*◌, ◌/◌, ◌%◌, ◌≤◌, ◌<◌}
use mathlib.Core.Path.{◌≡◌, sym}
use mathlib.Core.Bool.{Bool, true, false, cond}
use mathlib.Core.List.{List, [], ◌∷◌, ◌++◌}
use native.Mathlib.Omega.{arith}
use lib.Dec.{eqb}
use lib.ListN.{length, take, get_or, length-append, length-take}
use Rattle.std.proofs.Common.{append-nil, append_assoc}
use Rattle.std.proofs.lemmas.List.{take_more}
use Rattle.text.specs.Text.{bytes_of_text, decimal}
use Rattle.text.proofs.Laws.{length-decimal, length-hexadecimal}
use Rattle.recording.specs.declared.Numbers.{Numbers}
use Rattle.recording.specs.Recording.{field_count, own_numbers}
use Rattle.notation.specs.Text.{spaced, numbers_line}
use Rattle.readable.specs.Readable.{entry, branch_types, registers, groups, prefixed, group_register, branch_type_field, register_field, texts, iall_text, readable_text, readable_line, line_of}

-- No line is longer than the longest. What a table has is within a bound where each of its texts is.
abbrev pub Short : ℕ → List (ℕ × List ℕ) → Type 0
Short most [] = Unit {0}
Short most ((k, bytes) ∷ table) = (length bytes ≤ most) × Short most table

pub either : (test : Bool) (x y : List ℕ) (most : ℕ) → length x ≤ most → length y ≤ most → length (cond test x y) ≤ most
either true x y most h g = h
either false x y most h g = g

pub length-entry : (table : List (ℕ × List ℕ)) (n : ℕ) (other : List ℕ) (most : ℕ) → Short most table → length other ≤ most
    → length (entry table n other) ≤ most
length-entry [] n other most s h = h
length-entry ((k, bytes) ∷ table) n other most s h =
    either (eqb n k) bytes (entry table n other) most s.0 (length-entry table n other most s.1 h)

length_type : (n : ℕ) → length (branch_type_field n) ≤ 24
length_type n =
    let long : length (entry branch_types n (prefixed n)) ≤ 18
    = length-entry branch_types n (prefixed n) 18 (omega arith, (omega arith, (omega arith, (omega arith, (omega arith, (omega arith, tt))))))
    (omega (arith, length-hexadecimal n)) in
    omega arith

length_register : (n : ℕ) → length (register_field n) ≤ 36
length_register n =
    let last = length-decimal (n % 32) in
    let own = length-decimal n in
    let group : length (group_register n) ≤ 26 = length-entry (groups n) (n / 32) (decimal n) 26 (omega arith, (omega arith, (omega arith, tt))) (omega arith) in
    let long : length (entry registers n (group_register n)) ≤ 26
    = length-entry registers n (group_register n) 26 (omega arith, (omega arith, (omega arith, (omega arith, (omega arith, tt))))) group in
    omega arith

length_text : (x : Numbers) → length (readable_text x) ≤ 255
unfolding readable_text
length_text x =
    let cycles = length-decimal x.cycles in
    let a = length-decimal x.a in
    let b = length-decimal x.b in
    let address-a = length-hexadecimal x.a in
    let address-b = length-hexadecimal x.b in
    let address-c = length-hexadecimal x.c in
    let address-d = length-hexadecimal x.d in
    let kind = length_type x.a in
    let register = length_register x.a in
    length-entry (texts x) x.code (iall_text x) 255 (
      simp length-append (omega arith),
      (
        simp length-append (omega arith),
        (
          simp length-append (omega arith),
          (
            simp length-append (omega arith),
            (
              simp length-append (omega arith),
              (
                simp length-append (omega arith),
                (
                  simp length-append (omega arith),
                  (simp length-append (omega arith), (simp length-append (omega arith), (simp length-append (omega arith), tt))),
                ),
              ),
            ),
          ),
        ),
      ),
    )
    (omega arith)

pub length-spaced : (list : List ℕ) → length (spaced list) ≤ 21 * length list
unfolding spaced
length-spaced [] = omega arith
length-spaced (n ∷ list) = simp length-append (omega (arith, length-decimal n, length-spaced list))

pub length_line : (numbers : Bool) (x : Numbers) → length (line_of numbers x) ≤ 256
unfolding line_of readable_line numbers_line
length_line true x =
    simp length-append (omega (arith, length-decimal x.code, length-spaced (own_numbers x), length-take (field_count x.code) (x.a ∷ x.b ∷ x.c ∷ x.d ∷ [])))
length_line false x = simp length-append (omega (arith, length_text x))

-- Numbers with a space in front of each, and one more behind them.
spaced_more : (list : List ℕ) (n : ℕ) → spaced (list ++ n ∷ []) ≡ spaced list ++ (bytes_of_text " " ++ decimal n)
unfolding spaced
spaced_more [] n = append-nil (bytes_of_text " " ++ decimal n)
spaced_more (m ∷ list) n = rw (spaced_more list n) (sym (append_assoc (bytes_of_text " " ++ decimal m) (spaced list) (bytes_of_text " " ++ decimal n)))

pub one_more : (list : List ℕ) (i : ℕ) → i < length list → spaced (take (i + 1) list) ≡ spaced (take i list) ++ (bytes_of_text " " ++ decimal (get_or list i 0))
one_more list i h = rw (take_more list i 0 h) (spaced_more (take i list) (get_or list i 0))
