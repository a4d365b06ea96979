-- What a program's arguments ask for, each by its bytes. docs/MANUAL.md, "Programs".
use Rattle.std.specs.Prelude.{ℕ, Bool, true, false, cond, ◌&&◌, not, List, [], ◌∷◌, eqb, length, get_or, Some, None, is_none, position, slice_set}
use Rattle.std.specs.Prelude as std
use Rattle.std.specs.Str.{bytes_eq}
use Rattle.text.specs.Text.{bytes_of_text}
use Rattle.arguments.specs.declared.words.Word.{Word}
use Rattle.arguments.specs.declared.words.Word.TheVariants.{Help, Version, Numbers, Rest, Dash, Option, Name}
use Rattle.arguments.specs.declared.told.Seen.{Seen}
use Rattle.arguments.specs.declared.Source.{Source}
use Rattle.arguments.specs.declared.Source.TheVariants.{Standard, Unnamed, File}
use Rattle.arguments.specs.declared.told.Next.{Next}
use Rattle.arguments.specs.declared.told.Next.TheVariants.{Stop, Usage, Open}
use Rattle.arguments.specs.declared.told.Next.TheVariants as next

-- Whether two texts are the same, byte for byte.
abbrev pub same_text : List ℕ → List ℕ → Bool
same_text = bytes_eq

-- What an argument is that starts with -: an option that is known, `-` itself, or an option that is not known.
unfoldable pub option_of : List ℕ → Word
option_of text =
    cond (same_text text (bytes_of_text "--help")) Help
    (cond (same_text text (bytes_of_text "-h")) Help
    (cond (same_text text (bytes_of_text "--version")) Version
    (cond (same_text text (bytes_of_text "--numbers")) Numbers
    (cond (same_text text (bytes_of_text "--")) Rest (cond (same_text text (bytes_of_text "-")) Dash Option)))))

-- What one argument is: where it does not start with - (45), a name.
abbrev pub word_of : List ℕ → Word
word_of text = cond (eqb (length text) 0) Name (cond (eqb (get_or text 0 0) 45) (option_of text) Name)

-- What the arguments so far say to a program that takes n inputs, with help asked for.
abbrev pub with_help : {n : ℕ} → Seen n → Seen n
with_help s = record s { help = true }

-- The same with the version asked for.
abbrev pub with_version : {n : ℕ} → Seen n → Seen n
with_version s = record s { version = true }

-- The same with --numbers given.
abbrev pub with_numbers : {n : ℕ} → Seen n → Seen n
with_numbers s = record s { numbers = true }

-- The same with -- given.
abbrev pub with_rest : {n : ℕ} → Seen n → Seen n
with_rest s = record s { rest = true }

-- The same with something wrong.
abbrev pub with_wrong : {n : ℕ} → Seen n → Seen n
with_wrong s = record s { wrong = true }

-- With an input's name at place i, put to a place of the inputs; where none is free it is one too many.
abbrev pub with_input_at : {n : ℕ} → std.Option ℕ → ℕ → Seen n → Seen n
with_input_at None i s = with_wrong s
with_input_at (Some k) i s = record s { places = slice_set s.places k (Some i) }

-- With an input's name at place i: the first that is missing.
abbrev pub with_input : {n : ℕ} → ℕ → Seen n → Seen n
with_input i s = with_input_at (position is_none s.places) i s

-- With a word at place i. `numbers`: the program has the option `--numbers`.
abbrev pub with_word : {n : ℕ} → Bool → ℕ → Word → Seen n → Seen n
with_word numbers i Help s = with_help s
with_word numbers i Version s = with_version s
with_word numbers i Numbers s = cond numbers (with_numbers s) (with_wrong s)
with_word numbers i Rest s = with_rest s
with_word numbers i Dash s = with_input i s
with_word numbers i Option s = with_wrong s
with_word numbers i Name s = with_input i s

-- With an argument's text at place i: behind -- it is a name, whatever it looks like.
abbrev pub with_text : {n : ℕ} → Bool → ℕ → List ℕ → Seen n → Seen n
with_text numbers i text s = cond s.rest (with_input i s) (with_word numbers i (word_of text) s)

-- What a program does once it has seen its arguments: nothing where one is wrong, then help, then the version, and else it
-- opens its inputs.
abbrev pub next_of : {n : ℕ} → Seen n → Next n
next_of s = cond s.wrong Stop (cond s.help Usage (cond s.version next.Version (Open s.places)))

-- What the argument at a place names: standard input is `-`, or where there is no name, and so no place.
abbrev pub source_of : std.Option ℕ → List ℕ → Source
source_of place name = cond (is_none place) Standard (cond (same_text name (bytes_of_text "-")) Standard (cond (eqb (length name) 0) Unnamed File))

-- Whether a program that would open its two inputs has no second.
abbrev pub lacks_second : Seen 2 → Bool
lacks_second s = not s.wrong && not s.help && not s.version && is_none (get_or s.places 1 None)
