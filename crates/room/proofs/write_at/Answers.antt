-- `room::write_at` meets its contract: three stores in a row. Assumes nothing.
use Prim.Native.Nat.{suc, ◌+◌, ◌*◌}
use native.Mathlib.Omega.{arith}
use mathlib.Core.Path.{◌≡◌, ◌∙◌}
use mathlib.Core.List.{[], ◌∷◌, append_assoc}
use lib.ListN.{take, drop}
use lib.Seq.{sets-eq}
use Rattle.room.proofs.write_at.Goals as goal

pub returns : goal.returns
returns c =
    let a = c.args in
    let room = a.room.now in
    let numbers = a.r.inf ∷ a.r.source ∷ a.r.target ∷ [] in
    let one : 3 * a.place + 1 ≡ suc (3 * a.place) = omega arith in
    let two : 3 * a.place + 2 ≡ suc (suc (3 * a.place)) = omega arith in
    rw (one, two) (sets-eq numbers room (3 * a.place) (omega arith) ∙ append_assoc (take (3 * a.place) room) numbers (drop (3 * a.place + 3) room))
