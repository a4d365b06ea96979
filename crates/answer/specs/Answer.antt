-- What is answered, as two numbers: document 01, "Refusal numbers, in order of checking", the paragraph under the table;
-- docs/MANUAL.md, "Refusals".
use Rattle.std.specs.Prelude.{ℕ, Bool, Option, Some, None, eqb}
use Rattle.answer.specs.declared.Answer.{Answer}
use Rattle.answer.specs.declared.Answer.TheVariants.{Done, Value, Undefined, Trap2, Trap3, Refused}
use Rattle.answer.specs.declared.Refusal.{Refusal}
use Rattle.answer.specs.declared.Refusal.TheVariants.{MalformedNumber, UnknownCode, NotReset, OutsideList, WrongLevel, RoomTooShort, NotSound, WrongHalted, SumPasses}
use Rattle.answer.specs.declared.Returned.{Returned}

-- The number of each refusal: 1 to 7 are those of document 01's table, 8 is document 02's, "Five", and 9 its, "Four".
abbrev pub refusal_number : Refusal → ℕ
refusal_number MalformedNumber = 1
refusal_number UnknownCode = 2
refusal_number NotReset = 3
refusal_number OutsideList = 4
refusal_number WrongLevel = 5
refusal_number RoomTooShort = 6
refusal_number NotSound = 7
refusal_number WrongHalted = 8
refusal_number SumPasses = 9

-- The number of a refusal, or 0 where nothing is refused.
abbrev pub number_or_0 : Option Refusal → ℕ
number_or_0 None = 0
number_or_0 (Some refusal) = refusal_number refusal

-- The number and the value of each answer. Refusals have the numbers of the table, 1 to 7; what is accepted has 0 where it
-- was done and, where an access was not performed, 100 (undefined), 102 (trapped to EL2) or 103 (trapped to EL3). Only `Value`
-- has a value: what a read shows, how many bytes were written, or where reading goes on.
abbrev pub returned : Answer → Returned
returned Done = record { number = 0; value = 0 }
returned (Value v) = record { number = 0; value = v }
returned Undefined = record { number = 100; value = 0 }
returned Trap2 = record { number = 102; value = 0 }
returned Trap3 = record { number = 103; value = 0 }
returned (Refused n) = record { number = n; value = 0 }

-- The answer says that it was done: its number is 0.
abbrev pub is_done : Answer → Bool
is_done a = eqb (returned a).number 0
