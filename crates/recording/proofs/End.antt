-- Where several numbers end, and an operation: number by number, without what they are.
use Prim.Native.Nat.{ℕ, suc}
use mathlib.Core.Path.{◌≡◌, refl, sym, ap, ◌∙◌}
use mathlib.Core.List.{List}
use Rattle.number.specs.Number.{Found}
use Rattle.number.specs.Number.{number_at, end_of_number}
use Rattle.recording.specs.Recording.{read_as, Several, in_front, then_read, numbers_at, with_fields}
use Rattle.recording.specs.Run.{end_of, end_of_several}
use Rattle.std.proofs.Common.{rules, Some, None, Ok, Err}

in_front_lem : (n : ℕ) (r : Several) → end_of_several (in_front n r) ≡ end_of_several r
in_front_lem n (Ok (list, next)) = refl
in_front_lem n (Err d) = refl

-- By where the next number ends: those behind it are read from there on; and where there is none, there are not so many.
module _ (k : ℕ) (bytes : List ℕ) (at : ℕ) where
  read_on : (f : Found) (next : ℕ) → Some next ≡ end_of_number f → end_of_several (then_read (numbers_at k bytes) (read_as at f)) ≡ end_of_several (numbers_at k bytes next)
  read_on (Ok (n, there)) next e = in_front_lem n (numbers_at k bytes there) ∙ ap (λ (m : ℕ). end_of_several (numbers_at k bytes m)) (sym (search rules))
  read_on (Err fault) next e = absurd (search rules)

  read_none : (f : Found) → None ≡ end_of_number f → end_of_several (then_read (numbers_at k bytes) (read_as at f)) ≡ None
  read_none (Ok (n, next)) e = absurd (search rules)
  read_none (Err fault) e = refl

  pub end_on : (next : ℕ) → Some next ≡ end_of_number (number_at bytes at) → end_of_several (numbers_at (suc k) bytes at) ≡ end_of_several (numbers_at k bytes next)
  unfolding numbers_at
  end_on next e = read_on (number_at bytes at) next e

  pub end_none : None ≡ end_of_number (number_at bytes at) → end_of_several (numbers_at (suc k) bytes at) ≡ None
  unfolding numbers_at
  end_none e = read_none (number_at bytes at) e

pub end_of_fields : (code : ℕ) (r : Several) → end_of (with_fields code r) ≡ end_of_several r
end_of_fields code (Ok (list, next)) = refl
end_of_fields code (Err d) = refl
