-- The number of a refusal, or 0 where there is none: never 0 where there is one, and what it makes of a choice.
use Rattle.std.proofs.Common.{◌≡◌, Bool, true, false, cond, refl, Option}
use lib.Dec.{eqb}
use Rattle.answer.specs.declared.Refusal.{Refusal}
use Rattle.answer.specs.declared.Refusal.TheVariants.{MalformedNumber, UnknownCode, NotReset, OutsideList, WrongLevel, RoomTooShort, NotSound, WrongHalted, SumPasses}
use Rattle.answer.specs.Answer.{refusal_number, number_or_0}

-- The number of a choice is the choice of the numbers.
pub number-cond : (test : Bool) (a b : Option Refusal) → number_or_0 (cond test a b) ≡ cond test (number_or_0 a) (number_or_0 b)
number-cond true a b = refl
number-cond false a b = refl

-- A refusal's number is not 0.
pub not_0 : (r : Refusal) → eqb (refusal_number r) 0 ≡ false
not_0 MalformedNumber = refl
not_0 UnknownCode = refl
not_0 NotReset = refl
not_0 OutsideList = refl
not_0 WrongLevel = refl
not_0 RoomTooShort = refl
not_0 NotSound = refl
not_0 WrongHalted = refl
not_0 SumPasses = refl
