-- Carriage returns in a text: one that ends no line is told to whoever wrote it.
use Rattle.std.specs.Prelude.{Bool, true, false, cond, ◌&&◌, not, ℕ, List, [], ◌∷◌, eqb}

-- A carriage return stands in the bytes, or just before them where that is told, and the byte after it is no line feed.
unfoldable pub lone_return : Bool → List ℕ → Bool
lone_return after [] = false
lone_return after (b ∷ bytes) = cond (after && not (eqb b 10)) true (lone_return (eqb b 13) bytes)
