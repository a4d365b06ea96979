-- Numbers read one by one: those read so far stand in front of what is read after them, and a bad one ends them.
use Prim.Native.Nat.{ℕ, zero, suc, ◌+◌, ◌-◌, ◌<◌}
use mathlib.Core.Path.{◌≡◌, refl, sym, ap, ◌∙◌}
use mathlib.Core.List.{List, [], ◌∷◌, ◌++◌}
use native.Mathlib.Omega.{arith}
use lib.ListN.{length, get_or, set, length-append}
use Rattle.std.proofs.Common.{Result, Ok, Err}
use Rattle.recording.specs.declared.Damage.{Damage}
use Rattle.recording.specs.Recording.{Several, in_front, number_from, numbers_at, numbers_of, with_fields}

abbrev in_front_of : List ℕ → Several → Several
in_front_of [] rest = rest
in_front_of (n ∷ list) rest = in_front n (in_front_of list rest)

one_more : (list : List ℕ) (n : ℕ) (rest : Several) → in_front_of list (in_front n rest) ≡ in_front_of (list ++ (n ∷ [])) rest
one_more [] n rest = refl
one_more (m ∷ list) n rest = ap (in_front m) (one_more list n rest)

all : (list : List ℕ) (next : ℕ) → in_front_of list (Ok ([], next)) ≡ Ok (list, next)
all [] next = refl
all (m ∷ list) next = ap (in_front m) (all list next)

ended : (list : List ℕ) (d : Damage) → in_front_of list (Err d) ≡ Err d
ended [] d = refl
ended (m ∷ list) d = ap (in_front m) (ended list d)

-- Numbers of a recording that were read from a place on, and the place where reading goes on.
pub record SoFar (bytes : List ℕ) (start : ℕ) : Type 0 where
  pub list : List ℕ
  pub at : ℕ
  pub rest : (k count : ℕ) → count ≡ length list + k → numbers_at count bytes start ≡ in_front_of list (numbers_at k bytes at)

pub none_rest : (bytes : List ℕ) (start k count : ℕ) → count ≡ 0 + k → numbers_at count bytes start ≡ numbers_at k bytes start
none_rest bytes start k count e = ap (λ (n : ℕ). numbers_at n bytes start) (omega arith)

abbrev pub none_yet : (bytes : List ℕ) (start : ℕ) → SoFar bytes start
none_yet bytes start = record { list = []; at = start; rest = none_rest bytes start }

module _ {bytes : List ℕ} {start : ℕ} (h : SoFar bytes start) {found : Result (ℕ × ℕ) Damage} (e : found ≡ number_from bytes h.at) where
  pub next-rest : {n next : ℕ} → found ≡ Ok (n, next) → (k count : ℕ) → count ≡ length (h.list ++ (n ∷ [])) + k
      → numbers_at count bytes start ≡ in_front_of (h.list ++ (n ∷ [])) (numbers_at k bytes next)
  unfolding numbers_at
  next-rest {n = n} {next = next} m k count size =
      h.rest (suc k) count (omega (arith, length-append h.list (n ∷ []))) ∙ rw (← e, m) (one_more h.list n (numbers_at k bytes next))

  abbrev pub and_one : {n next : ℕ} → found ≡ Ok (n, next) → SoFar bytes start
  and_one {n = n} {next = next} m = record { list = h.list ++ (n ∷ []); at = next; rest = next-rest m }

  -- It was no number, and more were asked for than were read.
  pub and_none : {d : Damage} → found ≡ Err d → (count : ℕ) → length h.list < count
      → numbers_at count bytes start ≡ Err d
  unfolding numbers_at
  and_none {d = d} m count more =
      h.rest (suc (count - length h.list - 1)) count (omega arith) ∙ rw (← e, m) (ended h.list d)

-- They are all that were asked for.
pub and_all : {bytes : List ℕ} {start : ℕ} (h : SoFar bytes start) (count : ℕ) → count ≡ length h.list
    → numbers_at count bytes start ≡ Ok (h.list, h.at)
unfolding numbers_at
and_all h count e = h.rest 0 count (omega arith) ∙ all h.list h.at

-- They stand in an array of numbers, in front of its zeros.
pub record Held (bytes : List ℕ) (start : ℕ) (array : List ℕ) (next i : ℕ) : Type 0 where
  pub read : SoFar bytes start
  pub size : length read.list ≡ i
  pub place : read.at ≡ next
  pub same : (k : ℕ) → get_or array k 0 ≡ get_or read.list k 0

abbrev five_zeros : List ℕ
five_zeros = 0 ∷ 0 ∷ 0 ∷ 0 ∷ 0 ∷ []

zeros : (k : ℕ) → get_or five_zeros k 0 ≡ 0
zeros zero = refl
zeros (suc zero) = refl
zeros (suc (suc zero)) = refl
zeros (suc (suc (suc zero))) = refl
zeros (suc (suc (suc (suc zero)))) = refl
zeros (suc (suc (suc (suc (suc k))))) = refl

pub held_none : (bytes : List ℕ) (start : ℕ) → Held bytes start five_zeros start 0
held_none bytes start = record { read = none_yet bytes start; size = refl; place = refl; same = zeros }

-- One behind others, as the array has it
behind : (array list : List ℕ) (n : ℕ) → ((k : ℕ) → get_or array k 0 ≡ get_or list k 0) → length list < length array
    → (k : ℕ) → get_or (set array (length list) n) k 0 ≡ get_or (list ++ (n ∷ [])) k 0
behind [] list n same room k = absurd (omega arith)
behind (x ∷ array) [] n same room zero = refl
behind (x ∷ array) [] n same room (suc k) = same (suc k)
behind (x ∷ array) (y ∷ list) n same room zero = same zero
behind (x ∷ array) (y ∷ list) n same room (suc k) = behind array list n (λ j. same (suc j)) (omega arith) k

module _ {bytes : List ℕ} {start : ℕ} {array : List ℕ} {next i : ℕ} (h : Held bytes start array next i) where
  pub held_one : {found : Result (ℕ × ℕ) Damage} → found ≡ number_from bytes next → {n after : ℕ} → found ≡ Ok (n, after) → i < length array
      → Held bytes start (set array i n) after (i + 1)
  held_one {found} e {n} {after} m room =
      let there : found ≡ number_from bytes h.read.at = rw h.place e in
      record {
        read = and_one h.read there m;
        size = omega (arith, length-append h.read.list (n ∷ []), h.size);
        place = refl;
        same = rw (sym h.size) (behind array h.read.list n h.same (omega (arith, h.size)));
      }

  -- One of those that were asked for is none, or they are all.
  pub held_bad : {found : Result (ℕ × ℕ) Damage} → found ≡ number_from bytes next → {d : Damage} → found ≡ Err d → (count : ℕ) → i < count
      → numbers_at count bytes start ≡ Err d
  held_bad {found} e m count more =
      let there : found ≡ number_from bytes h.read.at = rw h.place e in and_none h.read there m count (omega (arith, h.size))

  pub held_all : (code count : ℕ) → count ≡ i → with_fields code (numbers_at count bytes start) ≡ Ok (numbers_of code array, next)
  held_all code count e =
      rw (and_all h.read count (omega (arith, h.size)), h.same 0, h.same 1, h.same 2, h.same 3, h.same 4, h.place)
