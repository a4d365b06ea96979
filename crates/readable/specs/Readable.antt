-- What `list` prints: an operation as a line that can be read, or as its own numbers. docs/MANUAL.md, "Programs".
use Rattle.std.specs.Prelude.{ℕ, ◌+◌, ◌/◌, ◌%◌, Bool, cond, List, [], ◌∷◌, ◌++◌, eqb, leb, length}
use Prim.Native.String.{String}
use Rattle.text.specs.Text.{bytes_of_text, decimal, hexadecimal}
use Rattle.recording.specs.declared.Numbers.{Numbers}
use Rattle.notation.specs.Text.{numbers_line}

-- What a table has beside a number, or else what is given for the numbers that it does not have.
abbrev pub entry : List (ℕ × List ℕ) → ℕ → List ℕ → List ℕ
entry [] n other = other
entry ((k, bytes) ∷ table) n other = cond (eqb n k) bytes (entry table n other)

-- Branch types.
abbrev pub branch_types : List (ℕ × List ℕ)
branch_types =
    (0, bytes_of_text "DIRECT")
    ∷ (1, bytes_of_text "INDIRECT")
    ∷ (2, bytes_of_text "DIRCALL")
    ∷ (3, bytes_of_text "INDCALL")
    ∷ (5, bytes_of_text "RTN")
    ∷ (8, bytes_of_text "CONDDIR")
    ∷ []

-- Registers with a name of their own.
abbrev pub registers : List (ℕ × List ℕ)
registers =
    (0, bytes_of_text "BRBIDR0_EL1")
    ∷ (1, bytes_of_text "BRBCR_EL1")
    ∷ (2, bytes_of_text "BRBCR_EL2")
    ∷ (3, bytes_of_text "BRBFCR_EL1")
    ∷ (4, bytes_of_text "BRBTS_EL1")
    ∷ []

-- The other registers stand in three groups of 32, each numbered from 0: 32 is BRBINF0, and 127 is BRBTGT31.
abbrev pub groups : ℕ → List (ℕ × List ℕ)
groups n =
    (1, bytes_of_text "BRBINF" ++ decimal (n % 32))
    ∷ (2, bytes_of_text "BRBSRC" ++ decimal (n % 32))
    ∷ (3, bytes_of_text "BRBTGT" ++ decimal (n % 32))
    ∷ []

-- A number in hexadecimal, after 0x.
abbrev pub prefixed : ℕ → List ℕ
prefixed n = bytes_of_text "0x" ++ hexadecimal n

-- A register of a group, or its number where it is in none.
abbrev pub group_register : ℕ → List ℕ
group_register n = entry (groups n) (n / 32) (decimal n)

-- A field with its name, behind others: ` name=value`.
abbrev pub field : String → List ℕ → List ℕ
field name value = bytes_of_text " " ++ bytes_of_text name ++ bytes_of_text "=" ++ value

-- The cycles, which every operation has.
abbrev pub cycles_field : Numbers → List ℕ
cycles_field x = field "cycles" (decimal x.cycles)

-- A branch type by its name, or its number where it has none.
abbrev pub branch_type_field : ℕ → List ℕ
branch_type_field n = field "type" (entry branch_types n (prefixed n))

-- A register of a group, as a field.
abbrev pub group_field : ℕ → List ℕ
group_field n = field "register" (group_register n)

-- A register by its name, or its number where it has none.
abbrev pub register_field : ℕ → List ℕ
register_field n = field "register" (entry registers n (group_register n))

-- The two addresses of an event.
abbrev pub address_fields : Numbers → List ℕ
address_fields x = field "source" (prefixed x.c) ++ field "target" (prefixed x.d)

-- A reset.
abbrev pub reset_text : Numbers → List ℕ
reset_text x = bytes_of_text "reset" ++ cycles_field x ++ field "size" (decimal x.a) ++ field "v1p1" (decimal x.b)

-- A taken branch.
abbrev pub branch_text : Numbers → List ℕ
branch_text x = bytes_of_text "branch" ++ cycles_field x ++ branch_type_field x.a ++ field "mispredicted" (decimal x.b) ++ address_fields x

-- An exception.
abbrev pub exception_text : Numbers → List ℕ
exception_text x = bytes_of_text "exception" ++ cycles_field x ++ field "type" (prefixed x.a) ++ field "target_level" (decimal x.b) ++ address_fields x

-- An exception return.
abbrev pub return_text : Numbers → List ℕ
return_text x = bytes_of_text "return" ++ cycles_field x ++ field "target_level" (decimal x.a) ++ field "mispredicted" (decimal x.b) ++ address_fields x

-- A platform word.
abbrev pub platform_text : Numbers → List ℕ
platform_text x = bytes_of_text "platform" ++ cycles_field x ++ field "P" (prefixed x.a)

-- A read.
abbrev pub read_text : Numbers → List ℕ
read_text x = bytes_of_text "read" ++ cycles_field x ++ register_field x.a

-- A write.
abbrev pub write_text : Numbers → List ℕ
write_text x = bytes_of_text "write" ++ cycles_field x ++ register_field x.a ++ field "value" (prefixed x.b)

-- BRB IALL.
abbrev pub iall_text : Numbers → List ℕ
iall_text x = bytes_of_text "iall" ++ cycles_field x

-- A halt.
abbrev pub halt_text : Numbers → List ℕ
halt_text x = bytes_of_text "halt" ++ cycles_field x ++ field "source" (prefixed x.a)

-- A resume.
abbrev pub resume_text : Numbers → List ℕ
resume_text x = bytes_of_text "resume" ++ cycles_field x ++ field "target" (prefixed x.a) ++ field "target_level" (decimal x.b)

-- The processor's count at an overflow, and its two offsets.
abbrev pub clock_fields : Numbers → List ℕ
clock_fields x = field "physical" (prefixed x.b) ++ field "virtual_offset" (prefixed x.c) ++ field "guest_offset" (prefixed x.d)

-- A freeze.
abbrev pub freeze_text : Numbers → List ℕ
freeze_text x = bytes_of_text "freeze" ++ cycles_field x ++ field "group" (decimal x.a) ++ clock_fields x

-- The operations by their code.
abbrev pub texts : Numbers → List (ℕ × List ℕ)
texts x =
    (0, reset_text x)
    ∷ (1, branch_text x)
    ∷ (2, exception_text x)
    ∷ (3, return_text x)
    ∷ (4, platform_text x)
    ∷ (5, read_text x)
    ∷ (6, write_text x)
    ∷ (8, halt_text x)
    ∷ (9, resume_text x)
    ∷ (10, freeze_text x)
    ∷ []

-- The text of an operation; a code that is none of these is an IALL's.
unfoldable pub readable_text : Numbers → List ℕ
readable_text x = entry (texts x) x.code (iall_text x)

-- The same as a line, its end included.
unfoldable pub readable_line : Numbers → List ℕ
readable_line x = readable_text x ++ bytes_of_text "\n"

-- The line of an operation, as its own numbers or readable.
unfoldable pub line_of : Bool → Numbers → List ℕ
line_of numbers x = cond numbers (numbers_line x) (readable_line x)

-- What waits in an output's room of 65536 bytes after an operation's line. A line has at most 256 bytes; where so many have no
-- room, nothing is written.
unfoldable pub line_written : List ℕ → Bool → Numbers → List ℕ
line_written out numbers x = cond (leb (length out + 256) 65536) (out ++ line_of numbers x) out
