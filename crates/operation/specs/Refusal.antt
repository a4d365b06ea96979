-- Which operations are refused: document 01, "Refusal numbers, in order of checking", each line of its table as a condition;
-- document 02, Five and Six; docs/MANUAL.md, "Refusals". (Refusal 1 is the reader's of recordings.)
use Rattle.std.specs.Prelude.{ℕ, Bool, false, cond, ◌&&◌, ◌||◌, not, List, [], ◌∷◌, eqb, ltb}
use Rattle.bits.specs.Bits.{within, one_of}
use Rattle.state.specs.declared.State.{State}
use Rattle.state.specs.Named.{is_halted, sizes}
use Rattle.state.specs.Sound.{platform_mask, unavailable, sound}
use Rattle.room.specs.Room.{needed}
use Rattle.filter.specs.Filter.{branch_types, exception_types}
use Rattle.access.specs.Access.{is_register}
use Rattle.operation.specs.Operation.{last_code, code_of}
use Rattle.operation.specs.Clause.{changed}
use Rattle.operation.specs.declared.Operation.{Operation}
use Rattle.operation.specs.declared.Operation.TheVariants.{Reset, Branch, Exception, Return, Platform, Read, Write, Iall, Halt, Resume, Freeze, Unknown}

-- Refusal 2: no operation has the code.
unfoldable pub unknown_code : Operation → Bool
unknown_code o = ltb last_code (code_of o)

-- Refusal 3: there was no reset yet, which the size 0 tells, and this is none.
unfoldable pub not_reset : State → Operation → Bool
not_reset s o = eqb s.size 0 && not (eqb (code_of o) 0)

-- Refusal 4: a field of the operation is not one of those that it can be: a size, a flag, a type, a level, a register, P, a
-- group. Addresses, a written value, a count, its offsets and cycles can be any number. (A count encoding outside its list is `Count.decoded`'s.)
unfoldable pub outside_list : Operation → Bool
outside_list (Reset size v1p1) = not (one_of sizes size) || ltb 1 v1p1
outside_list (Branch kind mispredicted source target) = not (one_of branch_types kind) || ltb 1 mispredicted
outside_list (Exception kind level source target) = not (one_of exception_types kind) || ltb 3 level
outside_list (Return level mispredicted source target) = ltb 3 level || ltb 1 mispredicted
outside_list (Platform p) = not (within platform_mask p)
outside_list (Read r) = not (is_register r)
outside_list (Write r value) = not (is_register r)
outside_list Iall = false
outside_list (Halt source) = false
outside_list (Resume target level) = ltb 3 level
outside_list (Freeze group physical virtual_offset guest_offset) = ltb 1 group
outside_list Unknown = false

-- Refusal 8: while the processor is halted nothing runs, so that no branch, exception, return or second halt happens (codes 1, 2,
-- 3 and 8); and only a processor that is halted resumes (code 9). Document 02, Five.
unfoldable pub wrong_halted : State → Operation → Bool
wrong_halted s o = is_halted s && one_of (1 ∷ 2 ∷ 3 ∷ 8 ∷ []) (code_of o) || not (is_halted s) && eqb (code_of o) 9

-- Refusal 5: the level does not let the operation happen. An exception goes neither down nor to EL0; a return does not come
-- from EL0 and does not go up; neither goes to a level that is not there, nor does a resume; and P is set at EL3 alone.
unfoldable pub wrong_level : State → Operation → Bool
wrong_level s (Reset size v1p1) = false
wrong_level s (Branch kind mispredicted source target) = false
wrong_level s (Exception kind level source target) = ltb level s.level || eqb level 0 || unavailable s level
wrong_level s (Return level mispredicted source target) = eqb s.level 0 || ltb s.level level || unavailable s level
wrong_level s (Platform p) = not (eqb s.level 3)
wrong_level s (Read r) = false
wrong_level s (Write r value) = false
wrong_level s Iall = false
wrong_level s (Halt source) = false
wrong_level s (Resume target level) = unavailable s level
wrong_level s (Freeze group physical virtual_offset guest_offset) = false
wrong_level s Unknown = false

-- Refusal 6: the lent room, of so many numbers, has too few for the size after the operation.
unfoldable pub room_too_short : State → Operation → ℕ → Bool
room_too_short s o roomLength = ltb roomLength (needed (changed s o).size)

-- The number of the first of some lines whose condition holds; 0 if none does.
abbrev pub first_that : List (ℕ × Bool) → ℕ
first_that [] = 0
first_that (line ∷ lines) = cond line.1 line.0 (first_that lines)

-- The lines in their order, each with its number and its condition. (7 is for a state handed in as a struct: a lent one is
-- judged when it is loaded.)
abbrev pub table : State → Operation → ℕ → List (ℕ × Bool)
table s o roomLength =
    (7, not (sound s)) ∷ (2, unknown_code o) ∷ (3, not_reset s o) ∷ (4, outside_list o) ∷ (8, wrong_halted s o) ∷ (5, wrong_level s o) ∷ (6, room_too_short s o roomLength) ∷ []

-- The number of an operation's refusal, or 0 where it is accepted.
unfoldable pub refusal_of : State → Operation → ℕ → ℕ
refusal_of s o roomLength = first_that (table s o roomLength)
