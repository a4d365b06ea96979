-- What the proofs here cite.
use Rattle.std.proofs.Common.{◌≡◌, ℕ, ◌+◌, Bool, true, List, leb, length, arith, Some}
use Rattle.std.proofs.lemmas.Bool.Decides.{leb_tells}
use Rattle.recording.specs.declared.Numbers.{Numbers}
use Rattle.readable.specs.Readable.{line_written}
use Rattle.input.specs.declared.Window.{Window}
use Rattle.input.specs.Input.{passed_at}
use Rattle.list.specs.List.{lines_before, Listed, with_line}

-- An operation that is listed behind the lines before it, which have room for the longest line, or are none.
pub is_listed : {q : Window} {before after : List ℕ} (out : List ℕ) (numbers : Bool) (p : Window) (x : Numbers) (next : ℕ)
    → before ≡ lines_before out → q ≡ passed_at next 1 p → after ≡ line_written before numbers x → Listed out numbers p x next (Some q) after
unfolding line_written
is_listed {before = before} out numbers p x next front place content =
    let room : leb (length before + 256) 65536 ≡ true = rw front (grind (arith, leb_tells (length out + 256) 65536)) in
    rw (place, content, room, front) with_line
