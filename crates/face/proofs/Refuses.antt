-- Demand 1 of the exported functions: which number each answers, for any words, room and bytes; and where it refuses, the value is 0 and
-- nothing that was lent to be changed is.
use Prim.Native.Nat.{ℕ, zero, suc, ◌+◌, ◌*◌, ◌/◌, ◌%◌, ◌≤◌, ◌<◌}
use native.Mathlib.Omega.{arith}
use mathlib.Core.Path.{◌≡◌, refl}
use mathlib.Core.Bool.{Bool, true, false, cond, ◌&&◌, ◌||◌, not}
use mathlib.Core.Logic.{◌≢◌, ⊎_elim}
use mathlib.Core.List.{List, [], ◌∷◌, ◌++◌}
use lib.Dec.{eqb, ltb, leb}
use lib.ListN.{length, drop}
use borrow.Author.Tests.{lt-ltb, le-ltb, lt-leb, le-leb}
use Rattle.bits.proofs.Cases.{either, below_or_not}
use Rattle.answer.specs.declared.Answer.{Answer}
use Rattle.answer.specs.Answer.{refusal_number, returned}
use Rattle.bits.specs.Bits.{one_of}
use Rattle.count.specs.declared.Decoded.{Decoded}
use Rattle.count.specs.declared.Decoded.TheVariants.{Known, Exceeded}
use Rattle.count.specs.declared.Spread.{Spread}
use Rattle.count.specs.Count.{exceeded, smallest_of, largest_of, decoded, from_to, at_least, refused_with, spread_of}
use Rattle.sum.specs.Sum.{low_sum, high_sum, all_listed, all_bounded, largest_number, sum_of, summed}
use Rattle.number.specs.Number.{Found}
use Rattle.number.specs.Number.{number_at, written, written_if}
use Rattle.state.specs.declared.State.{State}
use Rattle.state.specs.Named.{sizes}
use Rattle.state.specs.Parts.{state_numbers, state_of}
use Rattle.state.specs.Sound.{sound}
use Rattle.state.specs.Words.{judged, loaded, if_sound}
use Rattle.room.specs.declared.Record.{Record}
use Rattle.room.specs.Room.{needed}
use Rattle.bank.specs.Bank.{bank_refusal, view_shows, bank_shows}
use Rattle.operation.specs.Operation.{last_code, operation_of}
use Rattle.operation.specs.Refusal.{unknown_code, table}
use Rattle.recorder.specs.Step.{step_of}
use Rattle.recorder.specs.Lent.{lent_step}
use Rattle.recording.specs.declared.Numbers.{Numbers}
use Rattle.recording.specs.Recording.{Reading}
use Rattle.recording.specs.Recording.{read_as, field_count, Several, in_front, then_read, numbers_at, numbers_of, operation_at, operation_bytes, writing_of, written_operation}
use Rattle.recording.specs.RecordedStep.{step_of_reading}
use Rattle.brb.specs.Face.{step_result}
use Rattle.recording.specs.Run.{readings}
use Rattle.batch.specs.Batch.{Batch, batched, steps, done_all, batch_of}
use Rattle.brb.specs.Recordings.{read_into, of_reading, read_result, recorded_result, batch_in_numbers, batch_result}
use Rattle.demands.specs.First.{First, here, later, none, AnswersBy, refuses, accepts}
use Rattle.demands.proofs.Demand1.{step_number}
use Rattle.face.specs.Lines.{Lines, too_few, batch_lines, step_lines, code_at, values_of, rest_at, reading_lines, recorded_lines, read_lines, write_lines, bank_lines, decode_lines, sum_lines}
use Rattle.std.proofs.Common.{Some, None, Option}
use Rattle.std.proofs.Common.{Ok, Err}
use Rattle.number.specs.declared.Fault.TheVariants.{Malformed, Ended}
use Rattle.answer.specs.declared.Refusal.TheVariants.{MalformedNumber}
use Rattle.recording.specs.Recording.{damage}

-- ---- lines one after another

-- A line whose condition holds is answered, and one whose condition does not is passed over.
record InOrder (R : Lines → ℕ → Type 0) : Type 0 where
  stop : {n : ℕ} {lines : Lines} → R ((suc n, true) ∷ lines) (suc n)
  pass : {n m : ℕ} {lines : Lines} → R lines m → R ((n, false) ∷ lines) m

stopped : {n : ℕ} {lines : Lines} → AnswersBy ((suc n, true) ∷ lines) (suc n)
stopped = refuses here (λ e. omega arith)

passed_over : {n m : ℕ} {lines : Lines} → AnswersBy lines m → AnswersBy ((n, false) ∷ lines) m
passed_over (refuses f h) = refuses (later f) h
passed_over (accepts f a) = accepts (later f) a

answers : InOrder AnswersBy
answers = record { stop = stopped; pass = passed_over }

finds : InOrder First
finds = record { stop = here; pass = later }

-- ---- brb_step

-- Lent numbers are too few; or they are enough and the state that they hold is sound, or is not.
data Judged (words : List ℕ) : Type 0 where
  few : length words < state_numbers → Judged words
  unsound : state_numbers ≤ length words → sound (state_of words) ≡ false → Judged words
  holds : state_numbers ≤ length words → sound (state_of words) ≡ true → Judged words

judge : (words : List ℕ) → Judged words
judge words =
    ⊎_elim few (λ enough. ⊎_elim (holds enough) (unsound enough) (either (sound (state_of words)))) (below_or_not (length words) state_numbers)

-- Which number `brb_step` answers, whatever is lent and handed in.
pub step_answers : (words room : List ℕ) (code cycles a b c d : ℕ)
    → AnswersBy (step_lines words (operation_of code a b c d) (length room)) (step_result words code cycles a b c d room).answer.number
unfolding step_result lent_step loaded judged
step_answers words room code cycles a b c d = go (judge words)
  where
    go : Judged words → AnswersBy (step_lines words (operation_of code a b c d) (length room)) (step_result words code cycles a b c d room).answer.number
    go (few h) = rw (lt-ltb (length words) state_numbers h, lt-leb state_numbers (length words) h) stopped
    go (unsound h e) = rw (le-ltb (length words) state_numbers h, le-leb state_numbers (length words) h, e) (passed_over stopped)
    go (holds h e) =
        rw (le-ltb (length words) state_numbers h, le-leb state_numbers (length words) h, e)
        (passed_over (rw e at (step_number (state_of words) (operation_of code a b c d) cycles room)))

-- ---- reading an operation

-- Numbers that are not all there are refused with 1.
data OneIfBad : Several → Type 0 where
  all : {list : List ℕ} {next : ℕ} → OneIfBad (Ok (list, next))
  one : {place : ℕ} → OneIfBad (Err (damage MalformedNumber place))

in_front_lem : {x : Several} (n : ℕ) → OneIfBad x → OneIfBad (in_front n x)
in_front_lem n all = all
in_front_lem n one = one

several : (k : ℕ) (bytes : List ℕ) (at : ℕ) → OneIfBad (numbers_at k bytes at)
unfolding numbers_at
several zero bytes at = all
several (suc k) bytes at = go (several k bytes) (number_at bytes at)
  where
    go : ((next : ℕ) → OneIfBad (numbers_at k bytes next)) → (found : Found) → OneIfBad (then_read (numbers_at k bytes) (read_as at found))
    go rest (Ok (n, next)) = in_front_lem n (rest next)
    go rest (Err fault) = one

-- The number that comes of what was read: the refusal's, or one by the operation.
abbrev by_reading : (Numbers → ℕ) → Reading → ℕ
by_reading after (Ok (x, next)) = after x
by_reading after (Err d) = refusal_number d.refusal

-- Reading answers by its lines, and, where all of them are passed over, by more.
module _ {R : Lines → ℕ → Type 0} (by : InOrder R) (bytes : List ℕ) (at : ℕ) (more : Lines) (after : Numbers → ℕ)
    (rest : code_at bytes at ≤ last_code → R more (after (numbers_of (code_at bytes at) (values_of (rest_at bytes at))))) where
  abbrev Reads : Type 0
  Reads = R (reading_lines bytes at ++ more) (by_reading after (operation_at bytes at))

  fields : (code next : ℕ) → number_at bytes at ≡ Ok (code, next) → code ≤ last_code → (x : Several)
      → numbers_at (suc (field_count code)) bytes next ≡ x → OneIfBad x → Reads
  unfolding operation_at
  fields code next e h (Ok (list, last)) f b =
      rw (e, le-ltb last_code code h, f) (by.pass (by.pass (by.pass (rw (e, f) at (rest (rw e h))))))
  fields code next e h (Err d) f one = rw (e, le-ltb last_code code h, f) (by.pass (by.pass by.stop))

  reading_then : Reads
  unfolding operation_at
  reading_then = go (number_at bytes at) refl
    where
      go : (found : Found) → number_at bytes at ≡ found → Reads
      go (Ok (code, next)) e =
          ⊎_elim (λ (above : last_code < code). rw (e, lt-ltb last_code code above) (by.pass by.stop))
          (λ (known : code ≤ last_code). fields code next e known _ refl (several (suc (field_count code)) bytes next)) (below_or_not last_code code)
      go (Err Malformed) e = rw e by.stop
      go (Err Ended) e = rw e by.stop

-- ---- brb_step_recorded

pub known_code : (code a b c d : ℕ) → code ≤ last_code → unknown_code (operation_of code a b c d) ≡ false
unfolding unknown_code operation_of
known_code zero a b c d h = refl
known_code (suc zero) a b c d h = refl
known_code (suc (suc zero)) a b c d h = refl
known_code (suc (suc (suc zero))) a b c d h = refl
known_code (suc (suc (suc (suc zero)))) a b c d h = refl
known_code (suc (suc (suc (suc (suc zero))))) a b c d h = refl
known_code (suc (suc (suc (suc (suc (suc zero)))))) a b c d h = refl
known_code (suc (suc (suc (suc (suc (suc (suc zero))))))) a b c d h = refl
known_code (suc (suc (suc (suc (suc (suc (suc (suc zero)))))))) a b c d h = refl
known_code (suc (suc (suc (suc (suc (suc (suc (suc (suc zero))))))))) a b c d h = refl
known_code (suc (suc (suc (suc (suc (suc (suc (suc (suc (suc zero)))))))))) a b c d h = refl
known_code (suc (suc (suc (suc (suc (suc (suc (suc (suc (suc (suc code))))))))))) a b c d h = absurd (omega arith)

-- What answers by lines of which the first does not hold answers by the others.
behind : {n m : ℕ} {lines : Lines} → AnswersBy ((n, false) ∷ lines) m → AnswersBy lines m
behind (refuses (later f) h) = refuses f h
behind (accepts (later f) a) = accepts f a

-- Which number `brb_step_recorded` answers: 7; then 1, 2, 1 of reading; then the rest; else an accepted operation's.
pub recorded_answers : (words room bytes : List ℕ) (at : ℕ)
    → AnswersBy (recorded_lines words bytes at (length room)) (recorded_result words room bytes at).answer.number
unfolding recorded_result loaded judged
recorded_answers words room bytes at = go (judge words)
  where
    s : State
    s = state_of words

    after : Numbers → ℕ
    after x = (returned (step_of s (operation_of x.code x.a x.b x.c x.d) x.cycles room).answer).number

    by_reading_lem : (found : Reading) → (returned (step_of_reading s room found).result.answer).number ≡ by_reading after found
    by_reading_lem (Ok (x, next)) = refl
    by_reading_lem (Err d) = refl

    stepped : sound s ≡ true → (x : Numbers) → x.code ≤ last_code
        → AnswersBy (drop 2 (table s (operation_of x.code x.a x.b x.c x.d) (length room))) (after x)
    stepped e x known =
        behind (rw (known_code x.code x.a x.b x.c x.d known) at (behind (rw e at (step_number s (operation_of x.code x.a x.b x.c x.d) x.cycles room))))

    go : Judged words → AnswersBy (recorded_lines words bytes at (length room)) (recorded_result words room bytes at).answer.number
    go (few h) = rw (lt-ltb (length words) state_numbers h, lt-leb state_numbers (length words) h) stopped
    go (unsound h e) = rw (le-ltb (length words) state_numbers h, le-leb state_numbers (length words) h, e) (passed_over stopped)
    go (holds h e) =
        rw (le-ltb (length words) state_numbers h, le-leb state_numbers (length words) h, e, by_reading_lem (operation_at bytes at))
        (passed_over (passed_over (reading_then answers bytes at _ after (stepped e _))))

-- ---- brb_recording_read

-- Which number it answers.
pub read_answers : (bytes : List ℕ) (at : ℕ) (place : List ℕ) → First (read_lines bytes at place) (read_result bytes at place).answer.number
unfolding read_result
read_answers bytes at place = ⊎_elim (λ (few : length place < 6). rw (lt-ltb (length place) 6 few) here) (λ (enough : 6 ≤ length place).
    rw (le-ltb (length place) 6 enough, by_reading_lem (operation_at bytes at)) (later (reading_then finds bytes at [] (λ x. 0) (λ known. none))))
    (below_or_not (length place) 6)
  where
    by_reading_lem : (found : Reading) → (of_reading place found).answer.number ≡ by_reading (λ x. 0) found
    by_reading_lem (Ok (x, next)) = refl
    by_reading_lem (Err d) = refl

-- Where it refuses, the value is 0 and the place is as it was.
pub read_refused : (bytes : List ℕ) (at : ℕ) (place : List ℕ) → (read_result bytes at place).answer.number ≢ 0
    → ((read_result bytes at place).answer.value ≡ 0) × ((read_result bytes at place).lent ≡ place)
unfolding read_result
read_refused bytes at place = go (ltb (length place) 6) (operation_at bytes at)
  where
    go : (t : Bool) (found : Reading) → (cond t (read_into (returned (Answer.Refused 6)) place) (of_reading place found)).answer.number ≢ 0
        → ((cond t (read_into (returned (Answer.Refused 6)) place) (of_reading place found)).answer.value ≡ 0)
        × ((cond t (read_into (returned (Answer.Refused 6)) place) (of_reading place found)).lent ≡ place)
    go true found h = (refl, refl)
    go false (Ok (x, next)) h = absurd (h refl)
    go false (Err d) h = (refl, refl)

-- ---- brb_batch

-- Which number it answers.
pub batch_answers : (words room bytes answers : List ℕ)
    → First (batch_lines words bytes answers) (batch_result words room bytes answers).answer.number
unfolding batch_result batch_of loaded judged
batch_answers words room bytes answers = go (judge words) (ltb (length answers) (2 * length (readings bytes)))
  where
    go : Judged words → (t : Bool)
        → First (too_few words ∷ (7, not (sound (state_of words))) ∷ (6, t) ∷ [])
        (returned (if_sound (cond (leb state_numbers (length words)) (cond (sound (state_of words)) (Some (state_of words)) None) None) (λ s. cond t (batched (Answer.Refused 6) words room answers) (done_all (steps (readings bytes) words room) answers)) (λ n. batched (Answer.Refused n) words room answers)).answer).number
    go (few h) t = rw (lt-ltb (length words) state_numbers h, lt-leb state_numbers (length words) h) here
    go (unsound h e) t = rw (le-ltb (length words) state_numbers h, le-leb state_numbers (length words) h, e) (later here)
    go (holds h e) true = rw (le-ltb (length words) state_numbers h, le-leb state_numbers (length words) h, e) (later (later here))
    go (holds h e) false = rw (le-ltb (length words) state_numbers h, le-leb state_numbers (length words) h, e) (later (later (later none)))

-- Where it refuses, the value is 0 and state, room and answers are as they were.
pub batch_refused : (words room bytes answers : List ℕ) → (batch_result words room bytes answers).answer.number ≢ 0
    → batch_result words room bytes answers ≡ batched (record { number = (batch_result words room bytes answers).answer.number; value = 0 }) words room answers
unfolding batch_result batch_of
batch_refused words room bytes answers = go (loaded words) (ltb (length answers) (2 * length (readings bytes)))
  where
    of : Option State → Bool → Batch Answer
    of l t = if_sound l (λ s. cond t (batched (Answer.Refused 6) words room answers) (done_all (steps (readings bytes) words room) answers)) (λ n. batched (Answer.Refused n) words room answers)

    go : (l : Option State) (t : Bool) → (batch_in_numbers (of l t)).answer.number ≢ 0
        → batch_in_numbers (of l t) ≡ batched (record { number = (batch_in_numbers (of l t)).answer.number; value = 0 }) words room answers
    go (Some s) true h = refl
    go (Some s) false h = absurd (h refl)
    go None t h = refl

-- ---- brb_recording_write

-- The bytes have room at the position or not, beside what the code says.
pub data Fits (x : Numbers) (at : ℕ) (out : List ℕ) : Type 0 where
  above : last_code < x.code → Fits x at out
  short : x.code ≤ last_code → length out < at + length (operation_bytes x) → Fits x at out
  fits : x.code ≤ last_code → at + length (operation_bytes x) ≤ length out → Fits x at out

pub fitted : (x : Numbers) (at : ℕ) (out : List ℕ) → Fits x at out
fitted x at out =
    ⊎_elim above (λ known. ⊎_elim (short known) (fits known) (below_or_not (length out) (at + length (operation_bytes x)))) (below_or_not last_code x.code)

-- Which number it answers.
pub write_answers : (x : Numbers) (at : ℕ) (out : List ℕ) → First (write_lines x at out) (returned (writing_of x at out)).number
unfolding writing_of
write_answers x at out = go (fitted x at out)
  where
    size : ℕ
    size = at + length (operation_bytes x)

    go : Fits x at out → First (write_lines x at out) (returned (writing_of x at out)).number
    go (above h) = rw (lt-ltb last_code x.code h) here
    go (short known h) = rw (le-ltb last_code x.code known, lt-ltb (length out) size h, lt-leb size (length out) h) (later here)
    go (fits known h) = rw (le-ltb last_code x.code known, le-ltb (length out) size h, le-leb size (length out) h) (later (later none))

-- Where it refuses, the value is 0 and the bytes are as they were.
pub write_refused : (x : Numbers) (at : ℕ) (out : List ℕ) → (returned (writing_of x at out)).number ≢ 0
    → ((returned (writing_of x at out)).value ≡ 0) × (written_operation x at out ≡ out)
unfolding writing_of written_operation written_if
write_refused x at out = go (ltb last_code x.code) (leb (at + length (operation_bytes x)) (length out))
  where
    answer : Bool → Bool → Answer
    answer t u = cond t (Answer.Refused 2) (cond u (Answer.Value (length (operation_bytes x))) (Answer.Refused 6))

    go : (t u : Bool) → (returned (answer t u)).number ≢ 0
        → ((returned (answer t u)).value ≡ 0) × (cond t out (cond u (written out at (operation_bytes x)) out) ≡ out)
    go true u h = (refl, refl)
    go false true h = absurd (h refl)
    go false false h = (refl, refl)

-- ---- the bank view, decoding and adding up, which only read what is lent

pub bank_answers : (register : Record → ℕ) (size start bank m : ℕ) (room : List ℕ)
    → First (bank_lines size start bank m room) (returned (bank_shows register size start bank m room)).number
unfolding bank_shows bank_refusal
bank_answers register size start bank m room = go (not (one_of sizes size)) (ltb 3 bank) (ltb 31 m) (leb size start) (ltb (length room) (needed size))
  where
    go : (a b c d e : Bool) → First ((4, a) ∷ (4, b) ∷ (4, c) ∷ (7, d) ∷ (6, e) ∷ [])
        (returned (cond (eqb (cond (a || b || c) 4 (cond d 7 (cond e 6 0))) 0) (Answer.Value (register (view_shows size start (32 * bank) m room))) (Answer.Refused (cond (a || b || c) 4 (cond d 7 (cond e 6 0)))))).number
    go true b c d e = here
    go false true c d e = later here
    go false false true d e = later (later here)
    go false false false true e = later (later (later here))
    go false false false false true = later (later (later (later here)))
    go false false false false false = later (later (later (later (later none))))

pub bank_refused : (register : Record → ℕ) (size start bank m : ℕ) (room : List ℕ) → (returned (bank_shows register size start bank m room)).number ≢ 0
    → (returned (bank_shows register size start bank m room)).value ≡ 0
unfolding bank_shows
bank_refused register size start bank m room = go (eqb (bank_refusal size start bank m room) 0)
  where
    go : (t : Bool) → (returned (cond t (Answer.Value (register (view_shows size start (32 * bank) m room))) (Answer.Refused (bank_refusal size start bank m room)))).number ≢ 0
        → (returned (cond t (Answer.Value (register (view_shows size start (32 * bank) m room))) (Answer.Refused (bank_refusal size start bank m room)))).value ≡ 0
    go true h = absurd (h refl)
    go false h = refl

pub decode_answers : (cc : ℕ) → First (decode_lines cc) (spread_of (decoded cc)).number
unfolding decoded
decode_answers cc = go (eqb cc exceeded)
  where
    go : (t : Bool) → First ((4, not t && ltb 12 (cc / 256)) ∷ [])
        (spread_of (cond t Exceeded (cond (leb (cc / 256) 12) (Known (smallest_of (cc / 256) (cc % 256)) (largest_of (cc / 256) (cc % 256))) Decoded.Refused))).number
    go true = later none
    go false =
        ⊎_elim (λ (high : 12 < cc / 256). rw (lt-ltb 12 (cc / 256) high, lt-leb (cc / 256) 12 high) here)
        (λ (low : cc / 256 ≤ 12). rw (le-ltb 12 (cc / 256) low, le-leb (cc / 256) 12 low) (later none)) (below_or_not 12 (cc / 256))

-- Where it refuses, all else is 0.
pub decode_refused : (cc : ℕ) → (spread_of (decoded cc)).number ≢ 0 → spread_of (decoded cc) ≡ refused_with (spread_of (decoded cc)).number
decode_refused cc = go (decoded cc)
  where
    go : (d : Decoded) → (spread_of d).number ≢ 0 → spread_of d ≡ refused_with (spread_of d).number
    go (Known low high) h = absurd (h refl)
    go Exceeded h = absurd (h refl)
    go Decoded.Refused h = refl

-- The sum by its four tests.
abbrev sum_by : List ℕ → Bool → Bool → Bool → Bool → Spread
sum_by run listed low bounded high =
    cond (not listed) (refused_with 4)
    (cond low (refused_with 9) (cond (not bounded) (at_least (low_sum run)) (cond high (refused_with 9) (from_to (low_sum run) (high_sum run)))))

pub sum_answers : (run : List ℕ) → First (sum_lines run) (summed run).number
unfolding summed sum_of
sum_answers run = go (all_listed run) (ltb largest_number (low_sum run)) (all_bounded run) (ltb largest_number (high_sum run))
  where
    go : (listed low bounded high : Bool) → First ((4, not listed) ∷ (9, low) ∷ (9, bounded && high) ∷ []) (sum_by run listed low bounded high).number
    go false low bounded high = here
    go true true bounded high = later here
    go true false false high = later (later (later none))
    go true false true true = later (later here)
    go true false true false = later (later (later none))

-- Where it refuses, all else is 0.
pub sum-refused : (run : List ℕ) → (summed run).number ≢ 0 → summed run ≡ refused_with (summed run).number
unfolding summed sum_of
sum-refused run = go (all_listed run) (ltb largest_number (low_sum run)) (all_bounded run) (ltb largest_number (high_sum run))
  where
    go : (listed low bounded high : Bool) → (sum_by run listed low bounded high).number ≢ 0
        → sum_by run listed low bounded high ≡ refused_with (sum_by run listed low bounded high).number
    go false low bounded high h = refl
    go true true bounded high h = refl
    go true false false high h = absurd (h refl)
    go true false true true h = refl
    go true false true false h = absurd (h refl)
