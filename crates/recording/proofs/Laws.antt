-- What is written reads back, and what was read is what is written: an operation, and a whole recording.
use mathlib.Core.Path.{◌≡◌, refl, sym, ap, subst, ◌∙◌}
use mathlib.Core.Logic.{⊎_elim}
use mathlib.Core.List.{List, [], ◌∷◌, ◌++◌, map, append_assoc}
use Prim.Native.Nat.{ℕ, zero, suc, ◌+◌, ◌^◌, ◌≤◌, ◌<◌}
use native.Mathlib.Nat.{add-zero, add_assoc}
use native.Mathlib.Omega.{arith}
use borrow.Author.Tests.{lt-ltb, le-ltb}
use lib.ListN.{length, take, drop, get_or, length-append, length-drop, drop_of_length-le}
use lib.Seq.{drop-drop, drop-append_seam, length-take-le}
use Rattle.bits.proofs.Cases.{below_or_not}
use Rattle.number.specs.Number.{Found}
use Rattle.number.specs.Number.{number_at, bytes_of}
use Rattle.number.proofs.Laws.{read_written, what_reads, Bytes}
use Rattle.operation.specs.Operation.{last_code}
use Rattle.recording.specs.declared.Numbers.{Numbers}
use Rattle.recording.specs.Recording.{read_as, field_count, Several, in_front, then_read, numbers_at, numbers_of, with_fields, after_code, operation_at, bytes_of_all, own_numbers, operation_bytes}
use Rattle.recording.specs.Operations.{as_read, recording_bytes, Holds, ends, reads}
use Rattle.recording.proofs.Cases.{fields_at_most}
use Rattle.std.proofs.Common.{Ok, Err}
use Rattle.bits.proofs.Pairs.{ok_parts}

-- Each element is below 2^64
abbrev pub Words : List ℕ → Type 0
Words list = (i : ℕ) → get_or list i 0 < 2 ^ 64

words_more : (n : ℕ) (list : List ℕ) → n < 2 ^ 64 → Words list → Words (n ∷ list)
words_more n list h w zero = h
words_more n list h w (suc i) = w i

words_take : (k : ℕ) (list : List ℕ) → Words list → Words (take k list)
words_take zero list w i = omega arith
words_take (suc k) [] w i = omega arith
words_take (suc k) (n ∷ list) w zero = w 0
words_take (suc k) (n ∷ list) w (suc i) = words_take k list (λ j. w (suc j)) i

-- An operation that reads back: its code is known, and its cycles and its own fields are below 2^64
pub record Writable (x : Numbers) : Type 0 where
  pub known : x.code ≤ last_code
  pub small : Words (own_numbers x)

pub writable : (x : Numbers) → x.code ≤ last_code → x.cycles < 2 ^ 64 → x.a < 2 ^ 64 → x.b < 2 ^ 64 → x.c < 2 ^ 64 → x.d < 2 ^ 64
    → Writable x
writable x k n a b c d =
    let none : Words [] = λ i. omega arith in
    let two = words_more x.c (x.d ∷ []) c (words_more x.d [] d none) in
    let four = words_more x.a (x.b ∷ x.c ∷ x.d ∷ []) a (words_more x.b (x.c ∷ x.d ∷ []) b two) in
    let own = words_take (field_count x.code) (x.a ∷ x.b ∷ x.c ∷ x.d ∷ []) four in
    record { known = k; small = words_more x.cycles (take (field_count x.code) (x.a ∷ x.b ∷ x.c ∷ x.d ∷ [])) n own }

past : (s : List ℕ) (at : ℕ) (xs b : List ℕ) → drop at s ≡ xs ++ b → drop (at + length xs) s ≡ b
past s at xs b e = sym (drop-drop (length xs) at s) ∙ ap (drop (length xs)) e ∙ drop-append_seam xs b

-- Several numbers, written, read back
read_all : (list s : List ℕ) (at : ℕ) (b : List ℕ) → Words list → drop at s ≡ bytes_of_all list ++ b
    → numbers_at (length list) s at ≡ Ok (list, at + length (bytes_of_all list))
unfolding numbers_at bytes_of_all
read_all [] s at b w e = rw add-zero
read_all (n ∷ list) s at b w e =
    let front : drop at s ≡ bytes_of n ++ (bytes_of_all list ++ b) = e ∙ append_assoc (bytes_of n) (bytes_of_all list) b in
    let first = read_written s at n (bytes_of_all list ++ b) (w 0) front in
    let rest = read_all list s (at + length (bytes_of n)) b (λ i. w (suc i)) (past s at (bytes_of n) (bytes_of_all list ++ b) front) in
    rw (first, rest, length-append, add_assoc)

own_length : (x : Numbers) → length (own_numbers x) ≡ suc (field_count x.code)
own_length x = ap suc (length-take-le (field_count x.code) (x.a ∷ x.b ∷ x.c ∷ x.d ∷ []) (fields_at_most x.code))

pub read_written_operation : (s : List ℕ) (at : ℕ) (x : Numbers) (b : List ℕ) → Writable x → drop at s ≡ operation_bytes x ++ b
    → operation_at s at ≡ Ok (as_read x, at + length (operation_bytes x))
unfolding operation_at operation_bytes bytes_of_all
read_written_operation s at x b w e =
    let own = bytes_of_all (own_numbers x) in
    let front : drop at s ≡ bytes_of x.code ++ (own ++ b) = e ∙ append_assoc (bytes_of x.code) own b in
    let first = read_written s at x.code (own ++ b) (omega arith) front in
    let rest = read_all (own_numbers x) s (at + length (bytes_of x.code)) b w.small (past s at (bytes_of x.code) (own ++ b) front) in
    rw (first, le-ltb last_code x.code w.known, ← own_length x, rest, length-append (bytes_of x.code) own, add_assoc)

-- Several numbers that were read
record ReadAll (k : ℕ) (s : List ℕ) (at : ℕ) (list : List ℕ) (next : ℕ) : Type 0 where
  count : length list ≡ k
  small : Words list
  place : next ≡ at + length (bytes_of_all list)
  bytes : drop at s ≡ bytes_of_all list ++ drop next s
  within : next ≤ length s

never : {A : Type 0} → ◌≡◌ {A = ℕ} 0 1 → A
never e = absurd (omega arith)

pub front_inv : (n : ℕ) (r : Several) (list : List ℕ) (next : ℕ) → in_front n r ≡ Ok (list, next)
    → (l : List ℕ) × (r ≡ Ok (l, next)) × (list ≡ n ∷ l)
front_inv n (Ok (l, p)) list next e = let parts = ok_parts (n ∷ l) list p next e in (l, rw parts.1 refl, sym parts.0)
front_inv n (Err d) list next e = never (cc)

pub then_inv : (rest : ℕ → Several) (at : ℕ) (f : Found) (list : List ℕ) (next : ℕ) → then_read rest (read_as at f) ≡ Ok (list, next)
    → (n : ℕ) × (p : ℕ) × (f ≡ Ok (n, p)) × (in_front n (rest p) ≡ Ok (list, next))
then_inv rest at (Ok (n, p)) list next e = (n, p, refl, e)
then_inv rest at (Err fault) list next e = never (cc)

reads_all : (k : ℕ) (s : List ℕ) (at : ℕ) (list : List ℕ) (next : ℕ) → Bytes s → at ≤ length s
    → numbers_at k s at ≡ Ok (list, next) → ReadAll k s at list next
unfolding numbers_at bytes_of_all
reads_all zero s at list next h f e =
    let parts = ok_parts [] list at next e in
    rw (← parts.0, ← parts.1)
    (record { count = refl; small = λ i. omega arith; place = sym (add-zero at); bytes = refl; within = f })
reads_all (suc k) s at list next h f e =
    let i = then_inv (numbers_at k s) at (number_at s at) list next e in
    let one = what_reads s at i.0 i.1 h i.2 in
    let j = front_inv i.0 (numbers_at k s i.1) list next i.3 in
    let more = reads_all k s i.1 j.0 next h one.within j.1 in
    let sum = length-append (bytes_of i.0) (bytes_of_all j.0) in
    rw j.2
    (record {
      count = ap suc more.count;
      small = words_more i.0 j.0 one.small more.small;
      place = omega arith;
      bytes = one.bytes ∙ ap (λ (r : List ℕ). bytes_of i.0 ++ r) more.bytes ∙ sym (append_assoc (bytes_of i.0) (bytes_of_all j.0) (drop next s));
      within = more.within;
    })

-- Of up to four numbers, with 0 after them, as many as there were
take_back : (l : List ℕ) → length l ≤ 4 → take (length l) (get_or l 0 0 ∷ get_or l 1 0 ∷ get_or l 2 0 ∷ get_or l 3 0 ∷ []) ≡ l
take_back [] h = refl
take_back (a ∷ []) h = refl
take_back (a ∷ b ∷ []) h = refl
take_back (a ∷ b ∷ c ∷ []) h = refl
take_back (a ∷ b ∷ c ∷ d ∷ []) h = refl
take_back (a ∷ b ∷ c ∷ d ∷ e ∷ l) h = absurd (omega arith)

own_back : (code : ℕ) (list : List ℕ) → length list ≡ suc (field_count code) → own_numbers (numbers_of code list) ≡ list
own_back code [] e = never (omega arith)
own_back code (n ∷ l) e =
    let count : field_count code ≡ length l = omega arith in
    ap (λ (r : List ℕ). n ∷ r) (rw count (take_back l (omega (arith, fields_at_most code))))

-- An operation that was read
pub record ReadOperation (s : List ℕ) (at : ℕ) (x : Numbers) (next : ℕ) : Type 0 where
  pub again : Writable x
  pub own : x ≡ as_read x
  pub place : next ≡ at + length (operation_bytes x)
  pub bytes : drop at s ≡ operation_bytes x ++ drop next s
  pub further : at < next
  pub within : next ≤ length s

pub fields_inv : (code : ℕ) (r : Several) (x : Numbers) (next : ℕ) → with_fields code r ≡ Ok (x, next)
    → (list : List ℕ) × (r ≡ Ok (list, next)) × (numbers_of code list ≡ x)
fields_inv code (Ok (list, p)) x next e = let parts = ok_parts (numbers_of code list) x p next e in (list, rw parts.1 refl, parts.0)
fields_inv code (Err d) x next e = never (cc)

code_inv : (s : List ℕ) (at : ℕ) (f : Found) (x : Numbers) (next : ℕ) → after_code s at (read_as at f) ≡ Ok (x, next)
    → (code : ℕ) × (p : ℕ) × (f ≡ Ok (code, p)) × (code ≤ last_code)
    × (with_fields code (numbers_at (suc (field_count code)) s p) ≡ Ok (x, next))
code_inv s at (Ok (code, p)) x next e =
    ⊎_elim (λ g. let v = rw (lt-ltb last_code code g) at e in never (cc))
    (λ l. (code, p, refl, l, rw (le-ltb last_code code l) at e))
    (below_or_not last_code code)
code_inv s at (Err fault) x next e = never (cc)

read_bytes : (code : ℕ) (list : List ℕ) → length list ≡ suc (field_count code)
    → operation_bytes (numbers_of code list) ≡ bytes_of code ++ bytes_of_all list
unfolding operation_bytes bytes_of_all
read_bytes code list e = ap (λ (l : List ℕ). bytes_of code ++ bytes_of_all l) (own_back code list e)

was_read : (s : List ℕ) (at code p : ℕ) (list : List ℕ) (next : ℕ) → Bytes s → number_at s at ≡ Ok (code, p) → code ≤ last_code
    → numbers_at (suc (field_count code)) s p ≡ Ok (list, next) → ReadOperation s at (numbers_of code list) next
was_read s at code p list next h e k v =
    let one = what_reads s at code p h e in
    let more = reads_all (suc (field_count code)) s p list next h one.within v in
    let own = own_back code list more.count in
    let same = read_bytes code list more.count in
    let sum = length-append (bytes_of code) (bytes_of_all list) in
    record {
      again = record { known = k; small = subst Words (sym own) more.small };
      own = ap (numbers_of code) (sym own);
      place = rw same (omega arith);
      bytes = rw same (one.bytes ∙ ap (λ (r : List ℕ). bytes_of code ++ r) more.bytes ∙ sym (append_assoc (bytes_of code) (bytes_of_all list) (drop next s)));
      further = omega arith;
      within = more.within;
    }

pub what_was_read : (s : List ℕ) (at : ℕ) (x : Numbers) (next : ℕ) → Bytes s → operation_at s at ≡ Ok (x, next)
    → ReadOperation s at x next
unfolding operation_at
what_was_read s at x next h e =
    let i = code_inv s at (number_at s at) x next e in
    let j = fields_inv i.0 (numbers_at (suc (field_count i.0)) s i.1) x next i.4 in
    rw (← j.2) (was_read s at i.0 i.1 j.0 next h i.2 i.3 j.1)

-- A recording that was written from operations holds them, with nothing left over
abbrev pub AllWritable : List Numbers → Type 0
AllWritable [] = Unit {0}
AllWritable (x ∷ list) = Writable x × AllWritable list

written_from : (list : List Numbers) (s : List ℕ) (at : ℕ) → AllWritable list → drop at s ≡ recording_bytes list
    → Holds s at (map as_read list)
unfolding recording_bytes
written_from [] s at w e = let sizes = simp length-drop at (ap length e) in ends {at = at} (omega arith)
written_from (x ∷ list) s at w e =
    reads (read_written_operation s at x (recording_bytes list) w.0 e)
    (written_from list s (at + length (operation_bytes x)) w.1 (past s at (operation_bytes x) (recording_bytes list) e))

pub list_round_trip : (list : List Numbers) → AllWritable list → Holds (recording_bytes list) 0 (map as_read list)
list_round_trip list w = written_from list (recording_bytes list) 0 w refl

-- A recording that reads to the end of input is what its operations are written as
pub reads_from : {s : List ℕ} {at : ℕ} {list : List Numbers} → Bytes s → Holds s at list → AllWritable list × (drop at s ≡ recording_bytes list)
unfolding recording_bytes
reads_from {s} h (ends f) = (tt, drop_of_length-le s f)
reads_from {s} {at} h (reads {next = next} {x = x} e rest) =
    let one = what_was_read s at x next h e in
    let more = reads_from h rest in
    ((one.again, more.0), one.bytes ∙ ap (λ (b : List ℕ). operation_bytes x ++ b) more.1)

pub whole_recording : (s : List ℕ) (list : List Numbers) → Bytes s → Holds s 0 list → AllWritable list × (s ≡ recording_bytes list)
whole_recording s list h r = reads_from h r

-- A recording holds one list
pub one_content : {s : List ℕ} {at : ℕ} {l m : List Numbers} → Bytes s → Holds s at l → Holds s at m → l ≡ m
one_content h (ends f) (ends g) = refl
one_content {s} {at} h (ends f) (reads {next = next} {x = x} e r) = let one = what_was_read s at x next h e in absurd (omega arith)
one_content {s} {at} h (reads {next = next} {x = x} e r) (ends f) = let one = what_was_read s at x next h e in absurd (omega arith)
one_content {s} h (reads {next = n} {x = x} {list = l} e r) (reads {next = m} {x = y} d t) =
    let (same, place) = ok_parts x y n m (sym e ∙ d) in
    rw same (ap (λ (list : List Numbers). y ∷ list) (one_content h (subst (λ (i : ℕ). Holds s i l) place r) t))
