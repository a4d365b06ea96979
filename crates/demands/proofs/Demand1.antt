-- Demand 1: bad input is refused with the number of the first line of the table that it meets, and a refused operation changes
-- neither the state nor any lent number.
use Prim.Native.Nat.{ℕ, ◌≤◌}
use mathlib.Core.Path.{◌≡◌, refl}
use mathlib.Core.Bool.{Bool, true, false, cond, ◌||◌}
use mathlib.Core.List.{List, [], ◌∷◌}
use native.Mathlib.Omega.{arith}
use native.Mathlib.Decide.{ℕ_discrete}
use lib.Dec.{eqb}
use lib.ListN.{length}
use Rattle.state.specs.declared.State.{State}
use Rattle.state.specs.Words.{loaded}
use Rattle.state.proofs.Laws.{kept}
use Rattle.answer.specs.declared.Answer.{Answer}
use Rattle.answer.specs.declared.Answer.TheVariants.{Done, Value, Undefined, Trap2, Trap3}
use Rattle.answer.specs.Answer.{returned, is_done}
use Rattle.access.specs.Access.{trapped2, trapped3, outcome, read_outcome, write_outcome, iall_outcome}
use Rattle.operation.specs.declared.Operation.{Operation}
use Rattle.operation.specs.declared.Operation.TheVariants.{Reset, Branch, Exception, Return, Platform, Read, Write, Iall, Halt, Resume, Freeze, Unknown}
use Rattle.operation.specs.Operation.{operation_of}
use Rattle.operation.specs.Refusal.{first_that, table, refusal_of}
use Rattle.change.specs.Change.{answer_of}
use Rattle.recorder.specs.Step.{accepted, refused, step_of}
use Rattle.recorder.proofs.Laws.{accepted_step, refused_step}
use Rattle.recording.specs.Recording.{Reading}
use Rattle.recording.specs.Recording.{operation_at}
use Rattle.recorder.specs.Lent.{lent_step}
use Rattle.brb.specs.Face.{step_result}
use Rattle.brb.specs.Recordings.{recorded_result}
use Rattle.demands.specs.Unchanged.{unchanged, unchanged_recorded}
use Rattle.demands.specs.First.{First, here, later, none, Accepted, done, undefined, trap2, trap3, AnswersBy, refuses, accepts}
use Rattle.std.proofs.Common.{Some, None, Option}
use Rattle.std.proofs.Common.{Ok, Err}

-- ---- refusal_exact: the number is that of the first line of the table whose condition holds, and 0 if none does

pub first : (lines : List (ℕ × Bool)) → First lines (first_that lines)
first [] = none
first (line ∷ lines) = go line.0 line.1 (first lines)
  where
    go : (n : ℕ) (t : Bool) → First lines (first_that lines) → First ((n, t) ∷ lines) (first_that ((n, t) ∷ lines))
    go n true rest = here
    go n false rest = later rest

pub refusal_exact : (s : State) (o : Operation) (room : ℕ) → First (table s o room) (refusal_of s o room)
unfolding refusal_of
refusal_exact s o room = first (table s o room)

-- ---- the number of a step

-- What an accepted operation answers is no refusal.
ended : (undefined trap2 trap3 : Bool) → Accepted (returned (cond undefined Undefined (cond trap2 Trap2 (cond trap3 Trap3 Done)))).number
ended true b c = undefined
ended false true c = trap2
ended false false true = trap3
ended false false false = done

access_number : (s : State) (u n : Bool) → Accepted (returned (outcome s u n)).number
unfolding outcome
access_number s u n = ended (eqb s.level 0 || u) (trapped2 s n) (trapped3 s)

read_number : (a : Answer) (v : ℕ) → Accepted (returned a).number → Accepted (returned (cond (is_done a) (Value v) a)).number
read_number a v h = go (is_done a)
  where
    go : (t : Bool) → Accepted (returned (cond t (Value v) a)).number
    go true = done
    go false = h

accepted_number : (s : State) (o : Operation) (room : List ℕ) → Accepted (returned (answer_of s o room)).number
unfolding answer_of read_outcome write_outcome iall_outcome
accepted_number s (Reset size v1p1) room = done
accepted_number s (Branch kind m source target) room = done
accepted_number s (Exception kind level source target) room = done
accepted_number s (Return level m source target) room = done
accepted_number s (Platform p) room = done
accepted_number s (Read r) room = read_number (read_outcome s r) _ (access_number s _ _)
accepted_number s (Write r value) room = access_number s _ _
accepted_number s Iall room = access_number s _ _
accepted_number s (Halt source) room = done
accepted_number s (Resume target level) room = done
accepted_number s (Freeze group physical virtual_offset guest_offset) room = done
accepted_number s Unknown room = done

-- Which number a step answers: that of the first line of the table whose condition holds, else an accepted operation's.
pub step_number : (s : State) (o : Operation) (cycles : ℕ) (room : List ℕ)
    → AnswersBy (table s o (length room)) (returned (step_of s o cycles room).answer).number
unfolding accepted
step_number s o cycles room = go (ℕ_discrete (refusal_of s o (length room)) 0)
  where
    go : Dec (refusal_of s o (length room) ≡ 0) → AnswersBy (table s o (length room)) (returned (step_of s o cycles room).answer).number
    go (yes h) = rw (accepted_step s o cycles room h) (accepts (rw h at (refusal_exact s o (length room))) (accepted_number s o room))
    go (no h) = rw (refused_step s o cycles room h) (refuses (refusal_exact s o (length room)) h)

-- ---- refused_changes_nothing

no_refusal : {n : ℕ} → Accepted n → 1 ≤ n → n ≤ 8 → ⊥
no_refusal done l u = omega arith
no_refusal undefined l u = omega arith
no_refusal trap2 l u = omega arith
no_refusal trap3 l u = omega arith

-- A step whose answer's number is a refusal's is the refusal: state and room are as they were.
pub refusal_answered : (s : State) (o : Operation) (cycles : ℕ) (room : List ℕ) → 1 ≤ (returned (step_of s o cycles room).answer).number
    → (returned (step_of s o cycles room).answer).number ≤ 8 → step_of s o cycles room ≡ refused (refusal_of s o (length room)) s room
unfolding accepted
refusal_answered s o cycles room l u = go (ℕ_discrete (refusal_of s o (length room)) 0)
  where
    go : Dec (refusal_of s o (length room) ≡ 0) → step_of s o cycles room ≡ refused (refusal_of s o (length room)) s room
    go (yes h) =
        let e = accepted_step s o cycles room h in
        absurd (no_refusal (accepted_number s o room) (rw e at l) (rw e at u))
    go (no h) = refused_step s o cycles room h

-- `refused_changes_nothing`: whatever is lent and handed in, if the number is 1 to 8, then every state number and every room
-- number is as it was, and the value is 0.
pub refused_changes_nothing : (words room : List ℕ) (code cycles a b c d : ℕ)
    → 1 ≤ (step_result words code cycles a b c d room).answer.number
    → (step_result words code cycles a b c d room).answer.number ≤ 8
    → step_result words code cycles a b c d room ≡ unchanged words room (step_result words code cycles a b c d room)
unfolding step_result lent_step
refused_changes_nothing words room code cycles a b c d l u = go (loaded words) refl
  where
    go : (found : Option State) → loaded words ≡ found
        → step_result words code cycles a b c d room ≡ unchanged words room (step_result words code cycles a b c d room)
    go None e = rw e
    go (Some s) e =
        rw (e, refusal_answered s (operation_of code a b c d) cycles room (rw e at l) (rw e at u), kept words s e)

-- The same of a recorded step.
pub refused_recorded : (words room bytes : List ℕ) (at : ℕ) → 1 ≤ (recorded_result words room bytes at).answer.number
    → (recorded_result words room bytes at).answer.number ≤ 8
    → recorded_result words room bytes at ≡ unchanged_recorded words room (recorded_result words room bytes at)
unfolding recorded_result
refused_recorded words room bytes at l u = go (loaded words) refl
  where
    read : (s : State) → loaded words ≡ Some s → (found : Reading) → operation_at bytes at ≡ found
        → recorded_result words room bytes at ≡ unchanged_recorded words room (recorded_result words room bytes at)
    read s e (Ok (x, next)) f =
        rw (e, f, refusal_answered s (operation_of x.code x.a x.b x.c x.d) x.cycles room (rw (e, f) at l) (rw (e, f) at u), kept words s e)
    read s e (Err d) f = rw (e, f, kept words s e)

    go : (found : Option State) → loaded words ≡ found
        → recorded_result words room bytes at ≡ unchanged_recorded words room (recorded_result words room bytes at)
    go None e = rw e
    go (Some s) e = read s e (operation_at bytes at) refl
