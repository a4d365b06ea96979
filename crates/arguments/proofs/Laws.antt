-- What the names of a program's one input and of its two inputs come to, and what stands behind `--`.
use Rattle.std.specs.Prelude.{ℕ, Bool, true, false, List, ◌≡◌, cond, [], ◌∷◌, Some, None, is_none, refl}
use Rattle.std.proofs.Common.{ap, sym}
use Rattle.std.specs.Prelude as std
use Rattle.arguments.specs.declared.told.Seen.{Seen}
use Rattle.arguments.specs.Arguments.{word_of, with_input, with_wrong, with_word, with_text}

-- Of one input, a second name is wrong.
pub input_of_one : (p : std.Option ℕ) (i : ℕ) (s : Seen 1) → s.places ≡ p ∷ []
    → with_input i s ≡ cond (is_none p) (record s { places = Some i ∷ [] }) (with_wrong s)
input_of_one None i s h = rw h refl
input_of_one (Some j) i s h = rw h refl

-- Of two, a name is the first's, or the second's, and a third is wrong.
pub input_of_two : (p q : std.Option ℕ) (i : ℕ) (s : Seen 2) → s.places ≡ p ∷ q ∷ []
    → with_input i s
    ≡ cond (is_none p) (record s { places = Some i ∷ q ∷ [] }) (cond (is_none q) (record s { places = p ∷ Some i ∷ [] }) (with_wrong s))
input_of_two None q i s h = rw h refl
input_of_two (Some j) None i s h = rw h refl
input_of_two (Some j) (Some k) i s h = rw h refl

-- Behind -- and elsewhere, of any number of inputs.
module _ {n : ℕ} (numbers : Bool) (i : ℕ) (text : List ℕ) (s : Seen n) where
  chosen : {t : Bool} → s.rest ≡ t → with_text numbers i text s ≡ cond t (with_input i s) (with_word numbers i (word_of text) s)
  chosen h = ap (λ t. cond t (with_input i s) (with_word numbers i (word_of text) s)) h

  pub a_name : s.rest ≡ true → with_input i s ≡ with_text numbers i text s
  a_name h = sym (chosen h)

  pub a_word : s.rest ≡ false → with_word numbers i (word_of text) s ≡ with_text numbers i text s
  a_word h = sym (chosen h)
