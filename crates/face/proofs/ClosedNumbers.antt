-- Closed: each number is answered for some input, by the step, by the recorded step, by a batch, and by decoding and sums, whose 9 no
-- computed run reaches (`sum.proofs.Laws.nine_is_met`).
use Prim.Native.Nat.{ℕ, suc}
use mathlib.Core.Path.{◌≡◌, refl}
use mathlib.Core.List.{List, [], ◌∷◌, map}
use lib.ListN.{replicate}
use Rattle.answer.specs.declared.Returned.{Returned}
use Rattle.count.specs.declared.Spread.{Spread}
use Rattle.count.specs.Count.{smallest_of, largest_of, decoded, from_to, at_least, refused_with, spread_of}
use Rattle.sum.specs.Sum.{added, every, sum_of, summed}
use Rattle.number.specs.Number.{number_in, number_at}
use Rattle.state.specs.Parts.{state_numbers}
use Rattle.state.specs.Sound.{unavailable, sound}
use Rattle.state.specs.Words.{loaded, judged, stored}
use Rattle.room.specs.Room.{in_place, records, cleared, room_after, start_after}
use Rattle.region.specs.Region.{enabled, prohibited}
use Rattle.access.specs.Access.{n_bit, trapped2, outcome, read_outcome, write_outcome, register_written, register_value}
use Rattle.operation.specs.Operation.{last_code, operation_of}
use Rattle.operation.specs.Refusal.{unknown_code, not_reset, outside_list, wrong_halted, wrong_level, room_too_short, refusal_of}
use Rattle.operation.specs.Clause.{changed}
use Rattle.change.specs.Change.{occasion, passed, effect_of, answer_of}
use Rattle.recorder.specs.Step.{accepted, step_of}
use Rattle.recorder.specs.Lent.{lent_step}
use Rattle.recording.specs.Recording.{field_count, numbers_at, operation_at}
use Rattle.brb.specs.Face.{step_result}
use Rattle.recording.specs.Run.{read_from, readings}
use Rattle.batch.specs.Batch.{Batch, batched, steps, in_numbers, batch_of}
use Rattle.brb.specs.Recordings.{recorded_result, batch_result}

-- The numbers of a state with a level, size 8 and a P, that is not halted and was not frozen.
abbrev words : ℕ → ℕ → List ℕ
words level p = level ∷ 8 ∷ 0 ∷ p ∷ 0 ∷ 0 ∷ 0 ∷ 0 ∷ 1 ∷ 0 ∷ 0 ∷ 0 ∷ []

abbrev fresh : List ℕ
fresh = replicate state_numbers 0

-- The number of one step without cycles, in a room of so many zeros.
abbrev number : List ℕ → ℕ → ℕ → ℕ → ℕ → ℕ
number state room code a b = (step_result state code 0 a b 0 0 (replicate room 0)).answer.number

-- The number of one recorded step.
abbrev recorded : List ℕ → List ℕ → ℕ
recorded state bytes = (recorded_result state [] bytes 0).answer.number

-- 7 for too few numbers and for a level 4; 2 for the first code past the last; 3 for BRB IALL before a reset; 4 for the size 9 and
-- for the group 2; 8 for a resume of what is not halted; 5 for an exception to EL0; 6 for too short a room. Accepted: a reset; a write at EL0; a write
-- of BRBTS_EL1 at EL3; a write at EL1 that nBRBCTL traps; one that SBRBE 0 traps.
pub each_number : number [] 24 0 8 0 ∷ number (words 4 0) 24 0 8 0 ∷ number fresh 24 (suc last_code) 0 0 ∷ number fresh 24 7 0 0 ∷ number fresh 24 0 9 0
    ∷ number (words 3 0) 24 10 2 0
    ∷ number (words 3 0) 24 9 0 0
    ∷ number (words 3 0) 24 2 0x22 0
    ∷ number fresh 23 0 8 0
    ∷ number fresh 24 0 8 0
    ∷ number (words 0 1) 24 6 1 0
    ∷ number (words 3 0) 24 6 4 0
    ∷ number (words 1 0x101) 24 6 1 0
    ∷ number (words 1 1) 24 6 1 0
    ∷ []
    ≡ 7 ∷ 7 ∷ 2 ∷ 3 ∷ 4 ∷ 4 ∷ 8 ∷ 5 ∷ 6 ∷ 0 ∷ 100 ∷ 100 ∷ 102 ∷ 103 ∷ []
unfolding loaded judged stored unavailable sound cleared room_after start_after enabled prohibited n_bit trapped2 outcome read_outcome write_outcome register_written operation_of unknown_code not_reset outside_list wrong_halted wrong_level room_too_short refusal_of changed occasion passed effect_of answer_of accepted step_of lent_step step_result
each_number = refl

-- 7 with nothing read; 1 at the end of the input; 2 for the first code past the last, whose cycles are not there; 1 for code 0 without cycles; 3 for BRB IALL
-- before a reset.
pub each_recorded : recorded [] [] ∷ recorded fresh [] ∷ recorded fresh (suc last_code ∷ []) ∷ recorded fresh (0 ∷ []) ∷ recorded fresh (7 ∷ 0 ∷ []) ∷ []
    ≡ 7 ∷ 1 ∷ 2 ∷ 1 ∷ 3 ∷ []
unfolding number_in number_at loaded judged stored unavailable sound operation_of unknown_code not_reset outside_list wrong_halted wrong_level room_too_short refusal_of changed step_of field_count numbers_at operation_at recorded_result
each_recorded = refl

-- A run of a BRB IALL before a reset, a reset, a read of BRBIDR0_EL1 and a code past the last, which ends it before its last byte: 3 is answered and the
-- batch goes on, and 2 is its last answer. Nine numbers have room for the eight; seven have not, and then nothing is changed; nor where there
-- is no state.
abbrev batch : List ℕ → ℕ → Batch Returned
batch state size = batch_result state (replicate 24 5) (7 ∷ 0 ∷ 0 ∷ 0 ∷ 8 ∷ 0 ∷ 5 ∷ 0 ∷ 0 ∷ suc last_code ∷ 0 ∷ []) (replicate size 9)

pub closed_batch : (batch fresh 9 ≡ batched (record { number = 0; value = 4 }) (words 3 0) (replicate 24 0) (3 ∷ 0 ∷ 0 ∷ 0 ∷ 0 ∷ 0x5008 ∷ 2 ∷ 0 ∷ 9 ∷ []))
    × (batch fresh 7 ≡ batched (record { number = 6; value = 0 }) fresh (replicate 24 5) (replicate 7 9))
    × (batch [] 9 ≡ batched (record { number = 7; value = 0 }) [] (replicate 24 5) (replicate 9 9))
unfolding number_in number_at loaded judged stored unavailable sound cleared room_after start_after in_place records enabled prohibited n_bit trapped2 outcome read_outcome register_value operation_of unknown_code not_reset outside_list wrong_halted wrong_level room_too_short refusal_of changed occasion passed effect_of answer_of accepted step_of lent_step field_count numbers_at operation_at read_from readings steps in_numbers batch_of batch_result
closed_batch = (refl, refl, refl)

-- What single encodings are answered: one count, four counts, those of P8, one that exceeded, and no encoding.
pub closed_spreads : map {B = Spread} (λ (cc : ℕ). spread_of (decoded cc)) (0xFF ∷ 0x300 ∷ 0xCFF ∷ 0x3FFF ∷ 0xD00 ∷ [])
    ≡ from_to 255 255 ∷ from_to 1024 1027 ∷ from_to 1046528 1048575 ∷ at_least 1048576 ∷ refused_with 4 ∷ []
unfolding smallest_of largest_of decoded
closed_spreads = refl

-- Sums: of nothing; of two known counts; of one that exceeded and a known one; and 4, which one that exceeded does not hide.
pub closed_sums : map summed ([] ∷ (0x7C4 ∷ 0x12C ∷ []) ∷ (0x3FFF ∷ 0x12C ∷ []) ∷ (0x3FFF ∷ 0xD00 ∷ []) ∷ [])
    ≡ from_to 0 0 ∷ from_to 29228 29291 ∷ at_least 1048876 ∷ refused_with 4 ∷ []
unfolding smallest_of largest_of decoded added every sum_of summed
closed_sums = refl
