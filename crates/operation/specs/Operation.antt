-- The operations and their codes: document 01, "Operations"; document 02, Five and Six; docs/MANUAL.md, "Operations".
use Rattle.std.specs.Prelude.{ℕ, suc, cond, eqb}
use Rattle.operation.specs.declared.Operation.{Operation}
use Rattle.operation.specs.declared.Operation.TheVariants.{Reset, Branch, Exception, Return, Platform, Read, Write, Iall, Halt, Resume, Freeze, Unknown}

-- The largest code that an operation has: refusal 2, the reader and the writer of recordings go by it.
abbrev pub last_code : ℕ
last_code = 10

-- The operation of a code and four numbers, of which it takes its own fields, in order, and no more.
unfoldable pub operation_of : ℕ → ℕ → ℕ → ℕ → ℕ → Operation
operation_of code a b c d =
    cond (eqb code 0) (Reset a b)
    (cond (eqb code 1) (Branch a b c d)
    (cond (eqb code 2) (Exception a b c d)
    (cond (eqb code 3) (Return a b c d)
    (cond (eqb code 4) (Platform a)
    (cond (eqb code 5) (Read a)
    (cond (eqb code 6) (Write a b)
    (cond (eqb code 7) Iall
    (cond (eqb code 8) (Halt a)
    (cond (eqb code 9) (Resume a b)
    (cond (eqb code 10) (Freeze a b c d) Unknown))))))))))

-- The code of an operation. One of an unknown code counts as having the first past the last, so that refusal 2 is one
-- comparison.
abbrev pub code_of : Operation → ℕ
code_of (Reset size v1p1) = 0
code_of (Branch kind mispredicted source target) = 1
code_of (Exception kind level source target) = 2
code_of (Return level mispredicted source target) = 3
code_of (Platform p) = 4
code_of (Read r) = 5
code_of (Write r value) = 6
code_of Iall = 7
code_of (Halt source) = 8
code_of (Resume target level) = 9
code_of (Freeze group physical virtual_offset guest_offset) = 10
code_of Unknown = suc last_code
