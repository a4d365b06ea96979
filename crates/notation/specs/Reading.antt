-- An operation in a text: words with white space between them, up to a byte that ends operations. docs/MANUAL.md, "Programs".
use Rattle.std.specs.Prelude.{ℕ, ◌+◌, ◌-◌, ◌^◌, ◌≤◌, min, ◌≡◌, cond, List, [], ◌∷◌, ◌++◌, ltb, eqb, length, get_or, drop, set, Result, Ok, Err}
use Rattle.operation.specs.Operation.{last_code}
use Rattle.recording.specs.declared.Numbers.{Numbers}
use Rattle.recording.specs.Recording.{field_count, numbers, numbers_of}
use Rattle.notation.specs.declared.Problem.{Problem}
use Rattle.notation.specs.declared.Problem.TheVariants.{Code, Count}
use Rattle.notation.specs.declared.Begun.{Begun}
use Rattle.notation.specs.declared.Step.{Step}
use Rattle.notation.specs.declared.Step.TheVariants.{More, Operation, Nothing}
use Rattle.notation.specs.declared.Wrong.{Wrong}
use Rattle.notation.specs.Words.{is_blank, ends_operation, Meaning, meaning_of}

-- An operation of which nothing was read.
abbrev pub none_begun : Begun
none_begun = record { numbers = numbers 0 0 0 0 0 0; count = 0 }

-- The six numbers of an operation, as a list.
abbrev pub six_of : Numbers → List ℕ
six_of x = x.code ∷ x.cycles ∷ x.a ∷ x.b ∷ x.c ∷ x.d ∷ []

-- Six numbers of a list, as an operation.
abbrev pub of_six : List ℕ → Numbers
of_six list = numbers_of (get_or list 0 0) (drop 1 list)

-- An operation with a number more. Those past the sixth are only counted.
unfoldable pub added : Begun → ℕ → Begun
added begun n =
    record { numbers = of_six (set (six_of begun.numbers) begun.count n); count = min (begun.count + 1) (2 ^ 64 - 1) }

-- What reading on comes to: a step, or what is wrong and where.
abbrev pub Outcome : Type 0
Outcome = Result Step Wrong

-- What is wrong at a place.
abbrev pub wrong : Problem → ℕ → Outcome
wrong problem at = Err (record { problem = problem; at = at })

-- An operation that ends at a place: it may have no number, and else needs a known code and all of its numbers.
unfoldable pub ended_at : Begun → ℕ → Outcome
ended_at begun at =
    cond (eqb begun.count 0) (Ok (Nothing at))
    (cond (ltb last_code begun.numbers.code) (wrong (Code begun.numbers.code) at)
    (cond (eqb begun.count (field_count begun.numbers.code + 2)) (Ok (Operation begun.numbers at))
    (wrong (Count begun.numbers.code begun.count) at)))

-- What follows a word at a place, which is the operation's next number.
abbrev pub with_meaning : Begun → ℕ → (Begun → Outcome) → Meaning → Outcome
with_meaning begun at rest (Ok n) = rest (added begun n)
with_meaning begun at rest (Err problem) = wrong problem at

-- The same, where the word may have no bytes.
abbrev pub with_word : Begun → List ℕ → ℕ → (Begun → Outcome) → Outcome
with_word begun [] at rest = rest begun
with_word begun (b ∷ word) at rest = with_meaning begun at rest (meaning_of (b ∷ word))

-- Reading on in a text, behind the bytes so far of a word that starts at a place.
unfoldable pub read_from : Begun → List ℕ → List ℕ → ℕ → Outcome
read_from begun word [] at = with_word begun word at (λ more. Ok (More more))
read_from begun word (b ∷ text) at =
    cond (is_blank b) (with_word begun word at (λ more. read_from more [] text (at + length word + 1)))
    (cond (ends_operation b) (with_word begun word at (λ more. ended_at more (at + length word)))
    (read_from begun (word ++ (b ∷ [])) text at))

-- What was read has a code that is known.
abbrev pub Known : Outcome → Type 0
Known outcome = (x : Numbers) (at : ℕ) → outcome ≡ Ok (Operation x at) → x.code ≤ last_code
