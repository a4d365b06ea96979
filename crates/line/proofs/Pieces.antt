-- However the input is cut into pieces, what the turns of a replay print is what the replay of the whole prints; and there are
-- always turns that end, no more than the input has bytes for.
use Prim.Native.Nat.{ℕ, zero, suc, ◌+◌, ◌*◌, ◌-◌, ◌≤◌, ◌<◌}
use native.Mathlib.Omega.{arith}
use mathlib.Core.Path.{◌≡◌, refl, sym, ap, subst, ◌∙◌}
use mathlib.Core.Bool.{true, false, cond}
use mathlib.Core.Logic.{inr, ⊎_elim}
use mathlib.Core.List.{List, [], ◌∷◌, ◌++◌, append_assoc, append-nil}
use lib.Dec.{leb}
use lib.ListN.{length, drop, length-drop, length-append, replicate}
use lib.Seq.{drop-append-le}
use borrow.Author.Tests.{le-leb, lt-leb}
use Rattle.bits.proofs.Cases.{never, either, below_or_not}
use Rattle.state.specs.declared.State.{State}
use Rattle.state.specs.Named.{fresh}
use Rattle.state.specs.Words.{judged, if_sound}
use Rattle.recorder.specs.Step.{refused}
use Rattle.recording.specs.Recording.{Reading}
use Rattle.recording.specs.Recording.{operation_at}
use Rattle.recording.specs.RecordedStep.{Recorded, step_of_reading, recorded_step, stops_reading}
use Rattle.recording.proofs.Window.{moved_reading, operation_moved, end_moved, operation_window, operation_reach, refused_by}
use Rattle.line.specs.Line.{line_of, replay_from, replay_of}
use Rattle.line.specs.Pieces.{Enough, Turns, brings, replays, stops, ends, turn_count}
use Rattle.answer.specs.Answer.{refusal_number}
use Rattle.std.proofs.Common.{Some, None, Option}
use Rattle.std.proofs.Common.{Ok, Err}

-- ---- one operation of the input, seen through the unread bytes

abbrev pub moved_step : ℕ → Recorded → Recorded
moved_step d r = record { result = r.result; next = d + r.next }

read_moved : (s : State) (room : List ℕ) (d : ℕ) (r : Reading) → step_of_reading s room (moved_reading d r) ≡ moved_step d (step_of_reading s room r)
read_moved s room d (Ok (x, next)) = refl
read_moved s room d (Err b) = refl

-- The bytes before a place only move it.
pub step_moved : (s : State) (room bytes : List ℕ) (d at : ℕ) → recorded_step s room bytes (d + at) ≡ moved_step d (recorded_step s room (drop d bytes) at)
unfolding recorded_step
step_moved s room bytes d at = go (judged s)
  where
    go : (l : Option State) → if_sound l (λ x. step_of_reading x room (operation_at bytes (d + at))) (λ n. record { result = refused n s room; next = d + at })
        ≡ moved_step d (if_sound l (λ x. step_of_reading x room (operation_at (drop d bytes) at)) (λ n. record { result = refused n s room; next = at }))
    go (Some x) = rw (operation_moved bytes d at) (read_moved x room d (operation_at (drop d bytes) at))
    go None = refl

-- What is still to come is not looked at.
step_window : (s : State) (room unread input : List ℕ) → Enough unread input → recorded_step s room (unread ++ input) 0 ≡ recorded_step s room unread 0
unfolding recorded_step
step_window s room unread input enough =
    ⊎_elim (λ (h : 60 ≤ length unread). rw (operation_window unread input 0 (omega arith)))
    (λ (none : input ≡ []). let same : unread ++ input ≡ unread = rw none (append-nil unread) in rw same)
    enough

-- Where reading goes on, it goes on past a byte at least, and within the input.
goes_on : (s : State) (room bytes : List ℕ) (at : ℕ) → at ≤ length bytes → stops_reading (recorded_step s room bytes at).result.answer ≡ false
    → (at < (recorded_step s room bytes at).next) × ((recorded_step s room bytes at).next ≤ length bytes)
unfolding recorded_step
goes_on s room bytes at h = go (judged s)
  where
    read : (x : State) (r : Reading) → operation_at bytes at ≡ r → stops_reading (step_of_reading x room r).result.answer ≡ false
        → (at < (step_of_reading x room r).next) × ((step_of_reading x room r).next ≤ length bytes)
    read x (Ok (n, next)) e g = let (further, within) = operation_reach bytes at n next h e in (omega arith, within)
    read x (Err d) e g =
        ⊎_elim (λ (one : refusal_number d.refusal ≡ 1). never (cc (rw one at g))) (λ (two : refusal_number d.refusal ≡ 2). never (cc (rw two at g))) (refused_by bytes at d e)

    go : (l : Option State)
        → stops_reading (if_sound l (λ x. step_of_reading x room (operation_at bytes at)) (λ n. record { result = refused n s room; next = at })).result.answer ≡ false
        → (at < (if_sound l (λ x. step_of_reading x room (operation_at bytes at)) (λ n. record { result = refused n s room; next = at })).next)
        × ((if_sound l (λ x. step_of_reading x room (operation_at bytes at)) (λ n. record { result = refused n s room; next = at })).next ≤ length bytes)
    go (Some x) g = read x (operation_at bytes at) refl g
    go None g = never (cc)

-- ---- the replay, by the bytes that are left

replay_moved : (k : ℕ) (s : State) (room bytes : List ℕ) (d at : ℕ) → replay_from k s room bytes (d + at) ≡ replay_from k s room (drop d bytes) at
unfolding replay_from
replay_moved zero s room bytes d at = refl
replay_moved (suc k) s room bytes d at =
    let r = recorded_step s room (drop d bytes) at in
    let rest = replay_moved k r.result.state r.result.room bytes d r.next in
    rw (step_moved s room bytes d at, end_moved (length bytes) at d, ← length-drop d bytes, rest)

-- A turn's line, and what comes behind it where reading goes on.
abbrev headed : State → List ℕ → List ℕ → ℕ → List ℕ → List ℕ
headed s room bytes at rest =
    let answer = (recorded_step s room bytes at).result.answer in
    cond (leb (length bytes) at) [] (line_of answer ++ cond (stops_reading answer) [] rest)

same_rest : (s : State) (room bytes : List ℕ) (at : ℕ) (a b : List ℕ)
    → (at < length bytes → stops_reading (recorded_step s room bytes at).result.answer ≡ false → a ≡ b)
    → headed s room bytes at a ≡ headed s room bytes at b
same_rest s room bytes at a b same =
    ⊎_elim
    (λ (h : at < length bytes).
    ⊎_elim (λ (stop : stops_reading (recorded_step s room bytes at).result.answer ≡ true). rw stop)
    (λ (goes : stops_reading (recorded_step s room bytes at).result.answer ≡ false). rw (same h goes))
    (either (stops_reading (recorded_step s room bytes at).result.answer)))
    (λ (h : length bytes ≤ at). rw (le-leb (length bytes) at h))
    (below_or_not at (length bytes))

-- Where as many operations are allowed as bytes are left, one more changes nothing.
one_more : (k : ℕ) (s : State) (room bytes : List ℕ) (at : ℕ) → length bytes ≤ at + k
    → replay_from k s room bytes at ≡ replay_from (suc k) s room bytes at
unfolding replay_from
one_more zero s room bytes at h = rw (le-leb (length bytes) at (omega arith))
one_more (suc k) s room bytes at h =
    let r = recorded_step s room bytes at in
    same_rest s room bytes at (replay_from k r.result.state r.result.room bytes r.next)
    (replay_from (suc k) r.result.state r.result.room bytes r.next)
    (λ l goes.
    one_more k r.result.state r.result.room bytes r.next (omega (arith, (goes_on s room bytes at (omega arith) goes).0)))

more : (j k : ℕ) (s : State) (room bytes : List ℕ) (at : ℕ) → length bytes ≤ at + k
    → replay_from k s room bytes at ≡ replay_from (j + k) s room bytes at
more zero k s room bytes at h = ap (λ (n : ℕ). replay_from n s room bytes at) (omega arith)
more (suc j) k s room bytes at h =
    let same : suc (j + k) ≡ suc j + k = omega arith in
    more j k s room bytes at h ∙ one_more (j + k) s room bytes at (omega arith) ∙ ap (λ (n : ℕ). replay_from n s room bytes at) same

-- What is printed of all the bytes that are left.
abbrev left : State → List ℕ → List ℕ → List ℕ
left s room rest = replay_from (length rest) s room rest 0

-- It is the front operation's line and, where reading goes on, what is printed of the bytes behind it.
goes_left : (s : State) (room rest : List ℕ) → 0 < length rest → stops_reading (recorded_step s room rest 0).result.answer ≡ false
    → (let r = recorded_step s room rest 0 in left s room rest ≡ line_of r.result.answer ++ left r.result.state r.result.room (drop r.next rest))
unfolding replay_from
goes_left s room rest some goes =
    let r = recorded_step s room rest 0 in
    let k = length rest - 1 in
    let size : length rest ≡ suc k = omega arith in
    let within = goes_on s room rest 0 (omega arith) goes in
    let behind = length-drop r.next rest in
    let place : r.next ≡ r.next + 0 = omega arith in
    let spare = k - length (drop r.next rest) in
    let all : k ≡ spare + length (drop r.next rest) = omega (arith, within.0, within.1, behind) in
    let moves : replay_from k r.result.state r.result.room rest r.next ≡ replay_from k r.result.state r.result.room (drop r.next rest) 0 =
    ap (replay_from k r.result.state r.result.room rest) place ∙ replay_moved k r.result.state r.result.room rest r.next 0
    in
    let same : left r.result.state r.result.room (drop r.next rest) ≡ replay_from k r.result.state r.result.room (drop r.next rest) 0 =
    more spare (length (drop r.next rest)) r.result.state r.result.room (drop r.next rest) 0 (omega arith)
    ∙ ap (λ (n : ℕ). replay_from n r.result.state r.result.room (drop r.next rest) 0) (sym all)
    in
    ap (λ (n : ℕ). replay_from n s room rest 0) size ∙ rw (lt-leb (length rest) 0 some, goes, moves, same)

stops_left : (s : State) (room rest : List ℕ) → 0 < length rest → stops_reading (recorded_step s room rest 0).result.answer ≡ true
    → left s room rest ≡ line_of (recorded_step s room rest 0).result.answer
unfolding replay_from
stops_left s room rest some stop =
    let size : length rest ≡ suc (length rest - 1) = omega arith in
    ap (λ (n : ℕ). replay_from n s room rest 0) size ∙ rw (lt-leb (length rest) 0 some, stop) (append-nil (line_of (recorded_step s room rest 0).result.answer))

-- ---- the turns

in_turns : {s : State} {room unread lines input : List ℕ} → Turns s room unread lines input → lines ≡ left s room (unread ++ input)
unfolding replay_from
in_turns {s} {room} {unread} (brings {input = input} piece some turns) =
    in_turns turns ∙ ap (left s room) (append_assoc unread piece input)
in_turns {s} {room} {unread} {input = input} (replays {lines = lines} {r = r} is some enough goes turns) =
    let window = step_window s room unread input enough in
    let at_all : recorded_step s room (unread ++ input) 0 ≡ r = window ∙ sym is in
    let within = goes_on s room unread 0 (omega arith) (rw is at goes) in
    let next-within : r.next ≤ length unread = rw is within.1 in
    let there : 0 < length (unread ++ input) = simp length-append (omega arith) in
    ap (λ (l : List ℕ). line_of r.result.answer ++ l) (in_turns turns ∙ ap (left r.result.state r.result.room) (sym (drop-append-le r.next unread input next-within)))
    ∙ sym (rw at_all at (goes_left s room (unread ++ input) there (rw at_all goes)))
in_turns {s} {room} {unread} {input = input} (stops {r = r} is some enough stop) =
    let at_all : recorded_step s room (unread ++ input) 0 ≡ r = step_window s room unread input enough ∙ sym is in
    let there : 0 < length (unread ++ input) = simp length-append (omega arith) in
    sym (rw at_all at (stops_left s room (unread ++ input) there (rw at_all stop)))
in_turns ends = refl

-- However the input is cut into pieces, the turns print what the replay of the whole prints.
pub in_pieces : (lines input : List ℕ) → Turns fresh (replicate 192 0) [] lines input → lines ≡ replay_of input
unfolding replay_of
in_pieces lines input turns = in_turns turns

-- There are turns for every input, and they end: the bound in `replay_of` suffices.
one_there : (k : ℕ) → ((s : State) (room rest : List ℕ) → length rest ≤ k → Turns s room rest (left s room rest) [])
    → (s : State) (room rest : List ℕ)
    → length rest ≤ suc k
    → Turns s room rest (left s room rest) []
unfolding replay_from
one_there k further s room [] h = ends
one_there k further s room (b ∷ rest) h =
    let r = recorded_step s room (b ∷ rest) 0 in
    ⊎_elim
    (λ (stop : stops_reading r.result.answer ≡ true).
    subst (λ (l : List ℕ). Turns s room (b ∷ rest) l []) (sym (stops_left s room (b ∷ rest) (omega arith) stop))
    (stops refl (omega arith) (inr refl) stop))
    (λ (goes : stops_reading r.result.answer ≡ false).
    let shorter : length (drop r.next (b ∷ rest)) ≤ k =
    simp length-drop (omega (arith, (goes_on s room (b ∷ rest) 0 (omega arith) goes).0))
    in
    subst (λ (l : List ℕ). Turns s room (b ∷ rest) l []) (sym (goes_left s room (b ∷ rest) (omega arith) goes))
    (replays refl (omega arith) (inr refl) goes (further r.result.state r.result.room (drop r.next (b ∷ rest)) shorter)))
    (either (stops_reading r.result.answer))

none_there : (s : State) (room rest : List ℕ) → length rest ≤ 0 → Turns s room rest (left s room rest) []
unfolding replay_from
none_there s room [] h = ends
none_there s room (b ∷ rest) h = absurd (omega arith)

there_are : (k : ℕ) (s : State) (room rest : List ℕ) → length rest ≤ k → Turns s room rest (left s room rest) []
there_are zero = none_there
there_are (suc k) = one_there k (there_are k)

pub always_ends : (input : List ℕ) → Turns fresh (replicate 192 0) [] (replay_of input) input
unfolding replay_of replay_from
always_ends [] = ends
always_ends (b ∷ input) =
    subst (Turns fresh (replicate 192 0) [] (replay_of (b ∷ input))) (append-nil (b ∷ input))
    (brings (b ∷ input) (omega arith) (there_are (length (b ∷ input)) fresh (replicate 192 0) (b ∷ input) (omega arith)))

-- No replay has more turns than its bytes have use for: each brings a byte, uses one up, or is the last.
pub turns_bounded : {s : State} {room unread lines input : List ℕ} (t : Turns s room unread lines input)
    → turn_count t ≤ length unread + 2 * length input + 1
unfolding turn_count
turns_bounded {unread = unread} (brings {input = input} piece some turns) =
    let rest = turns_bounded turns in
    let longer = length-append unread piece in
    let whole = length-append piece input in
    omega arith
turns_bounded {s} {room} {unread} {input = input} (replays {r = r} is some enough goes turns) =
    let rest = turns_bounded turns in
    let within = goes_on s room unread 0 (omega arith) (rw is at goes) in
    let further : 0 < r.next = rw is within.0 in
    let behind = length-drop r.next unread in
    omega arith
turns_bounded (stops is some enough stop) = omega arith
turns_bounded ends = omega arith
