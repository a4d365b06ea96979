-- The types of branches and exceptions, and the branch filter: document 01, "Which events become records"; docs/MANUAL.md,
-- "Branch types and the filter"; Arm D19.2.1, BRBINF<n>_EL1.TYPE, BRBFCR_EL1.
use Rattle.std.specs.Prelude.{ℕ, Bool, cond, not, List, [], ◌∷◌, eqb}
use Rattle.bits.specs.Bits.{bit}
use Rattle.filter.specs.declared.BranchType.{BranchType}

-- An unconditional direct branch.
abbrev pub DIRECT : ℕ
DIRECT = 0

-- An indirect branch that is none of the following.
abbrev pub INDIRECT : ℕ
INDIRECT = 1

-- A direct branch with link.
abbrev pub DIRCALL : ℕ
DIRCALL = 2

-- An indirect branch with link.
abbrev pub INDCALL : ℕ
INDCALL = 3

-- A return from subroutine.
abbrev pub RTN : ℕ
RTN = 5

-- A conditional direct branch.
abbrev pub CONDDIR : ℕ
CONDDIR = 8

-- An exception return: a type that no filter bit belongs to.
abbrev pub exception_return : ℕ
exception_return = 7

-- Debug halt: what the record of a halt shows. No filter bit belongs to it either.
abbrev pub debug_halt : ℕ
debug_halt = 0x21

-- Debug state exit: what the record of a resume shows.
abbrev pub debug_exit : ℕ
debug_exit = 0x39

-- The six branch types.
abbrev pub branch_types : List ℕ
branch_types = DIRECT ∷ INDIRECT ∷ DIRCALL ∷ INDCALL ∷ RTN ∷ CONDDIR ∷ []

-- The exception types: call, trap, SError, instruction debug, data debug, alignment, instruction fault, data fault, IRQ, FIQ.
abbrev pub exception_types : List ℕ
exception_types = 0x22 ∷ 0x23 ∷ 0x24 ∷ 0x26 ∷ 0x27 ∷ 0x2A ∷ 0x2B ∷ 0x2C ∷ 0x2E ∷ 0x2F ∷ []

-- The bit of BRBFCR_EL1 that a type answers to: R_FJYVT (DIRECT), R_KKLDV (INDIRECT), R_CKNBH (RTN), R_VBGTZ (INDCALL),
-- R_RBDXK (DIRCALL), R_BBNSZ (CONDDIR, and what is left: refusal 4 keeps every other type away).
unfoldable pub filter_bit : BranchType → ℕ
filter_bit t =
    cond (eqb t.code DIRECT) 17
    (cond (eqb t.code INDIRECT) 18
    (cond (eqb t.code RTN) 19
    (cond (eqb t.code INDCALL) 20
    (cond (eqb t.code DIRCALL) 21 22))))

-- BRBFCR_EL1 bit 16, EnI: it inverts what the filter bits mean.
abbrev pub EnI : ℕ → ℕ
EnI brbfcr = bit 16 brbfcr

-- The filter lets a branch of this type through: its filter bit differs from EnI. So a word with EnI alone lets all six
-- through (S_XZRTW), and the word 0 none.
unfoldable pub passes_filter : ℕ → BranchType → Bool
passes_filter brbfcr t = not (eqb (bit (filter_bit t) brbfcr) (EnI brbfcr))
