-- A closed run: records of a stretch that are counted, one of them rounded, BRB IALL before them, a refused operation in their midst; one with a halt and a resume; and one with a freeze.
use Prim.Native.Nat.{ℕ, ◌+◌}
use mathlib.Core.Path.{◌≡◌, refl}
use mathlib.Core.Bool.{Bool, true, false}
use mathlib.Core.List.{List, [], ◌∷◌, ◌++◌, map}
use lib.ListN.{length, replicate, take}
use Rattle.bits.specs.Bits.{part}
use Rattle.state.specs.Named.{fresh}
use Rattle.room.specs.declared.Record.{Record}
use Rattle.operation.specs.Operation.{operation_of}
use Rattle.filter.specs.Filter.{filter_bit, passes_filter}
use Rattle.count.specs.Count.{bit_length, exponent, mantissa, encoded, smallest_of, largest_of, decoded}
use Rattle.state.specs.Sound.{unavailable, sound}
use Rattle.room.specs.Room.{in_place, records, numbered, pushed, cleared, room_after, start_after}
use Rattle.region.specs.Region.{enabled, prohibited}
use Rattle.event.specs.Event.{controlled, valid, count_unknown, MPRED, BRBINF, record_of, becomes_record}
use Rattle.freeze.specs.Freeze.{freezes, time, overflowed}
use Rattle.access.specs.Access.{n_bit, trapped2, outcome, read_outcome, write_outcome, iall_outcome, register_written}
use Rattle.operation.specs.Refusal.{unknown_code, not_reset, outside_list, wrong_halted, wrong_level, room_too_short, refusal_of}
use Rattle.operation.specs.Clause.{changed}
use Rattle.change.specs.Change.{occasion, passed, effect_of, answer_of}
use Rattle.recorder.specs.Step.{accepted, step_of}
use Rattle.history.specs.History.{Timed, Machine, stepped, run, shown, CCU, CC, noted_step, noted_run, history, notes_of, stretch, end_sum, S, U, T, accepted_cycles, just_made}
use Rattle.history.specs.Events.{makes_record, restarts, how_many, Between}
use Rattle.history.proofs.Clock.{exact_time}
use Rattle.history.proofs.Frozen.{clears, FreezesIn}

abbrev operation : ℕ → ℕ → ℕ → ℕ → ℕ → ℕ → Timed
operation code cycles a b c d = record { operation = operation_of code a b c d; cycles = cycles }

-- Session S1's operations up to its first branch; then BRB IALL and a branch, whose record will be the oldest of the stretch.
abbrev earlier : List Timed
earlier =
    operation 0 0 8 0 0 0
    ∷ operation 4 0 49 0 0 0
    ∷ operation 6 0 1 10 0 0
    ∷ operation 6 0 2 8 0 0
    ∷ operation 6 0 3 65536 0 0
    ∷ operation 3 0 1 0 128 4096
    ∷ operation 1 300 0 0 4100 4112
    ∷ operation 7 5 0 0 0 0
    ∷ []

abbrev before : List Timed
before = earlier ++ (operation 1 295 8 1 4112 4096 ∷ [])

-- A branch, a branch of no such type (refused 4), a read, and a branch, whose record is the newest.
abbrev between : List Timed
between = operation 1 300 0 0 4100 4112 ∷ operation 1 1000 7 0 4100 4112 ∷ operation 5 13 32 0 0 0 ∷ []

abbrev after : List Timed
after = between ++ (operation 1 1013 0 0 4100 4112 ∷ [])

abbrev session : List Timed
session = before ++ after

abbrev start : Machine
start = record { state = fresh; room = replicate 24 0 }

abbrev seen : List Record
seen = shown (run start session)

-- Records 0 to 2 are such a stretch: the counts 1024 to 1027 (of 1026 cycles) and 300, over 1326 cycles. Record 3 was cleared.
-- What `exact_time` assumes holds of the two parts of the session.
pub closed_run : (◌≡◌ {A = Bool × Bool × ℕ × ℕ × ℕ × ℕ} (stretch seen 0 2, stretch seen 0 3, S seen 0 2, U seen 0 2, T (notes_of start session) 0 2, accepted_cycles (run start before) after)
    (true, false, 1324, 1327, 1326, 1326))
    × (how_many restarts (run start before) after ≡ 0) × just_made (history start before) × just_made (history start session)
    × (length (notes_of start session) ≡ 2 + length (notes_of start before))
unfolding bit_length exponent mantissa encoded smallest_of largest_of decoded unavailable sound in_place records numbered pushed cleared room_after start_after enabled prohibited filter_bit passes_filter controlled valid count_unknown MPRED BRBINF record_of becomes_record n_bit trapped2 outcome read_outcome write_outcome iall_outcome register_written operation_of unknown_code not_reset outside_list wrong_halted wrong_level room_too_short refusal_of changed occasion passed effect_of answer_of accepted step_of stepped run noted_step noted_run stretch end_sum accepted_cycles how_many
closed_run = (refl, refl, refl, refl, refl)

closed_time : T (notes_of start session) 0 2 ≡ accepted_cycles (run start before) after
closed_time = exact_time start before after 2 closed_run.1 closed_run.2 closed_run.3 closed_run.4

-- The same stretch is records 1 to 3 of a run that goes on, with one record more: what `demand_3_exact` says there is of the same two events.
abbrev more : List Timed
more = operation 1 40 0 0 4100 4112 ∷ operation 5 7 32 0 0 0 ∷ []

abbrev longer : List Timed
longer = before ++ (after ++ more)

pub closed_stretch : stretch (shown (run start longer)) 1 2 ≡ true
unfolding bit_length exponent mantissa encoded smallest_of largest_of decoded unavailable sound in_place records numbered pushed cleared room_after start_after enabled prohibited filter_bit passes_filter controlled valid count_unknown MPRED BRBINF record_of becomes_record n_bit trapped2 outcome read_outcome write_outcome iall_outcome register_written operation_of unknown_code not_reset outside_list wrong_halted wrong_level room_too_short refusal_of changed occasion passed effect_of answer_of accepted step_of stepped run noted_step noted_run stretch end_sum accepted_cycles how_many
closed_stretch = refl

pub closed_between : Between start longer 1 2
unfolding bit_length exponent mantissa encoded smallest_of largest_of decoded unavailable sound in_place records numbered pushed cleared room_after start_after enabled prohibited filter_bit passes_filter controlled valid count_unknown MPRED BRBINF record_of becomes_record n_bit trapped2 outcome read_outcome write_outcome iall_outcome register_written operation_of unknown_code not_reset outside_list wrong_halted wrong_level room_too_short refusal_of changed occasion passed effect_of answer_of accepted step_of stepped run noted_step noted_run stretch end_sum accepted_cycles how_many
closed_between =
    record {
      before = before;
      middle = after;
      after = more;
      whole = refl;
      oldest = record {
        event = record { earlier = earlier; event = operation 1 295 8 1 4112 4096; ends = refl; makes = (refl, refl) };
        moved = refl;
        kept = refl;
      };
      newest = record {
        event = record { earlier = before ++ between; event = operation 1 1013 0 0 4100 4112; ends = refl; makes = (refl, refl) };
        moved = refl;
        kept = refl;
      };
    }

-- Each of the listed occasions, and after it a record whose count is known again: BRB IALL, in `before`; PAUSED set and cleared; counting
-- turned off and on; an exception to EL3, which is prohibited, and back. Then a BRB IALL that traps to EL2, by the P handed in there: the count
-- after it is known, and has its cycles.
abbrev occasions : List Timed
occasions =
    before
    ++ (operation 6 1 3 65664 0 0
    ∷ operation 6 1 3 65536 0 0
    ∷ operation 1 10 0 0 4100 4112
    ∷ operation 1 20 0 0 4100 4112
    ∷ operation 6 1 1 2 0 0
    ∷ operation 6 1 1 10 0 0
    ∷ operation 1 30 0 0 4100 4112
    ∷ operation 1 40 0 0 4100 4112
    ∷ operation 2 5 0x22 3 4100 4112
    ∷ operation 4 1 0x131 0 0 0
    ∷ operation 3 6 1 0 4100 4112
    ∷ operation 1 50 0 0 4100 4112
    ∷ operation 1 60 0 0 4100 4112
    ∷ operation 7 5 0 0 0 0
    ∷ operation 1 70 0 0 4100 4112
    ∷ [])

-- CCU and CC of the records, newest first.
pub closed_occasions : map {B = ℕ × ℕ} (λ (r : Record). (CCU r, CC r)) (shown (run start occasions))
    ≡ (0, 75) ∷ (0, 60) ∷ (1, 0) ∷ (0, 40) ∷ (1, 0) ∷ (0, 20) ∷ (1, 0) ∷ (1, 0) ∷ []
unfolding bit_length exponent mantissa encoded smallest_of largest_of decoded unavailable sound in_place records numbered pushed cleared room_after start_after enabled prohibited filter_bit passes_filter controlled valid count_unknown MPRED BRBINF record_of becomes_record n_bit trapped2 outcome read_outcome write_outcome iall_outcome register_written operation_of unknown_code not_reset outside_list wrong_halted wrong_level room_too_short refusal_of changed occasion passed effect_of answer_of accepted step_of stepped run noted_step noted_run stretch end_sum accepted_cycles how_many
closed_occasions = refl

-- A halt 100 cycles after the record of `before`, a read and 5,000 cycles in Debug state, a resume to EL1, and a branch.
abbrev halts : List Timed
halts =
    before
    ++ (operation 8 100 4112 0 0 0 ∷ operation 5 7 32 0 0 0 ∷ operation 9 5000 4096 1 0 0 ∷ operation 1 60 0 0 4100 4112 ∷ [])

-- CCU, CC, TYPE, VALID and the addresses of the four newest records: the branch's count is known again, the resume's is not, and the halt's is.
-- Demand 3 speaks of the branch after the resume and of the halt, and of no stretch over the resume.
pub closed_halts : (map {B = ℕ × ℕ × ℕ × ℕ × ℕ × ℕ} (λ (r : Record). (CCU r, CC r, part 13 8 r.inf, part 1 0 r.inf, r.source, r.target))
    (take 4 (shown (run start halts)))
    ≡ (0, 60, 0, 3, 4100, 4112) ∷ (1, 0, 0x39, 1, 0, 4096) ∷ (0, 100, 0x21, 2, 4112, 0) ∷ (1, 0, 8, 3, 4112, 4096) ∷ [])
    × (◌≡◌ {A = Bool × ℕ × ℕ} (stretch (shown (run start halts)) 0 1, S (shown (run start halts)) 0 1, T (notes_of start halts) 0 1) (true, 60, 60))
    × (◌≡◌ {A = Bool × ℕ × ℕ} (stretch (shown (run start halts)) 2 1, S (shown (run start halts)) 2 1, T (notes_of start halts) 2 1) (true, 100, 100))
    × (stretch (shown (run start halts)) 0 2 ≡ false)
unfolding bit_length exponent mantissa encoded smallest_of largest_of decoded unavailable sound in_place records numbered pushed cleared room_after start_after enabled prohibited filter_bit passes_filter controlled valid count_unknown MPRED BRBINF record_of becomes_record n_bit trapped2 outcome read_outcome write_outcome iall_outcome register_written operation_of unknown_code not_reset outside_list wrong_halted wrong_level room_too_short refusal_of changed occasion passed effect_of answer_of accepted step_of stepped run noted_step noted_run stretch end_sum accepted_cycles how_many
closed_halts = (refl, refl, refl, refl)

-- After `before` BRBCR_EL1 gets FZP and TS 1, and a counter of group 0 overflows, at 1000 with the virtual offset 1500. Then a branch and a second overflow; then
-- PAUSED is cleared, and two branches.
abbrev ready : List Timed
ready = before ++ (operation 6 1 1 0x12A 0 0 ∷ [])

abbrev freeze : Timed
freeze = operation 10 40 0 1000 1500 0

abbrev paused : List Timed
paused = operation 1 5 0 0 4100 4112 ∷ operation 10 3 0 7000 0 0 ∷ []

abbrev resumed : List Timed
resumed = operation 6 2 3 65536 0 0 ∷ operation 1 50 0 0 4100 4112 ∷ operation 1 60 0 0 4100 4112 ∷ []

-- What `frozen_until` assumes holds: the overflow freezes, and none of the two operations clears PAUSED. They make no record and leave the time, which
-- is 1000 less 1500; the two branches make one each, with an unknown count and a known one.
pub closed_freeze : FreezesIn (run start ready) freeze
    × (how_many clears (run start (ready ++ (freeze ∷ []))) paused ≡ 0)
    × (how_many makes_record (run start (ready ++ (freeze ∷ []))) paused ≡ 0)
    × ((run start (ready ++ (freeze ∷ paused))).state.brbts ≡ 0xFFFFFFFFFFFFFE0C)
    × (how_many makes_record (run start (ready ++ (freeze ∷ paused))) resumed ≡ 2)
    × (map {B = ℕ × ℕ} (λ (r : Record). (CCU r, CC r)) (take 3 (shown (run start (ready ++ (freeze ∷ (paused ++ resumed)))))) ≡ (0, 60) ∷ (1, 0) ∷ (1, 0) ∷ [])
unfolding bit_length exponent mantissa encoded smallest_of largest_of decoded unavailable sound in_place records numbered pushed cleared room_after start_after enabled prohibited filter_bit passes_filter controlled valid count_unknown MPRED BRBINF record_of becomes_record n_bit trapped2 outcome read_outcome write_outcome iall_outcome register_written operation_of unknown_code not_reset outside_list wrong_halted wrong_level room_too_short refusal_of changed occasion passed effect_of answer_of accepted step_of stepped run noted_step noted_run stretch end_sum accepted_cycles how_many freezes time overflowed
closed_freeze = (
  record { group = 0; physical = 1000; virtual_offset = 1500; guest_offset = 0; is_freeze = refl; is_accepted_lem = refl; it_freezes = refl },
  refl,
  refl,
  refl,
  refl,
  refl,
)
