-- The occasions on which the next count becomes unknown, as document 01 ("Cycles") and document 02 (One and Five) list them, and that they are those of the definition.
use Prim.Native.Nat.{ℕ}
use mathlib.Core.Path.{◌≡◌, refl, sym, ap, ◌∙◌}
use mathlib.Core.Bool.{Bool, true, false, ◌&&◌, ◌||◌, not}
use mathlib.Core.Logic.{⊎_elim}
use lib.Dec.{eqb}
use Rattle.bits.proofs.Cases.{never, or_true, one_of_two}
use Rattle.bits.proofs.Each.{each}
use Rattle.state.specs.declared.State.{State}
use Rattle.state.specs.Named.{counting, PAUSED, side}
use Rattle.region.specs.Region.{prohibited}
use Rattle.answer.specs.Answer.{is_done}
use Rattle.freeze.proofs.Laws.{no_occasion}
use Rattle.access.specs.Access.{iall_outcome}
use Rattle.operation.specs.declared.Operation.{Operation}
use Rattle.operation.specs.declared.Operation.TheVariants.{Reset, Branch, Exception, Return, Platform, Read, Write, Iall, Halt, Resume, Freeze, Unknown}
use Rattle.operation.specs.Operation.{code_of}
use Rattle.operation.specs.Clause.{changed}
use Rattle.change.specs.Change.{turned_counting_on, cleared_paused, performed_iall, occasion}

-- The listed occasions, one by one (document 01, "Cycles"; document 02, One and Five; R_MJDLC): any operation that began at a prohibited level, or
-- in Debug state; a write that turned counting on; a write that cleared PAUSED; a BRB IALL that was performed.
pub data Occasion (s : State) : Operation → Type 0 where
  began_prohibited : {o : Operation} → prohibited s (side s) ≡ true → Occasion s o
  counting_turned_on : {register value : ℕ} → counting s ≡ false → counting (changed s (Write register value)) ≡ true
      → Occasion s (Write register value)
  PAUSED-cleared : {register value : ℕ} → PAUSED s ≡ true → PAUSED (changed s (Write register value)) ≡ false
      → Occasion s (Write register value)
  iall_performed : is_done (iall_outcome s) ≡ true → Occasion s Iall

-- What is as it was is neither turned on nor cleared.
pub unset : (counts paused t : Bool) → not counts && counts || paused && not paused || t ≡ t
unset true true t = refl
unset true false t = refl
unset false true t = refl
unset false false t = refl

pub or_false : (t : Bool) → t || false ≡ t
or_false true = refl
or_false false = refl

-- The level's line, then the operation's own three.
pub lines : (s : State) (o : Operation) → prohibited s (side s) || (turned_counting_on s o || cleared_paused s o || performed_iall s o) ≡ occasion s o
unfolding occasion
lines s o = go (prohibited s (side s)) (turned_counting_on s o) (cleared_paused s o) (performed_iall s o)
  where
    go : (level a b c : Bool) → level || (a || b || c) ≡ level || a || b || c
    go true a b c = refl
    go false a b c = refl

-- A line that holds makes its part of the whole hold.
by_line : {line : Bool} (whole : Bool → Bool) → whole true ≡ true → line ≡ true → whole line ≡ true
by_line whole holds h = ap whole h ∙ holds

and_not : {a b : Bool} → a ≡ true → b ≡ false → a && not b ≡ true
and_not h k = rw (h, k)

module _ (s : State) where
  abbrev level : Bool
  level = prohibited s (side s)

  -- Each of them is an occasion of the definition, by its line.
  pub is_occasion : {o : Operation} → Occasion s o → occasion s o ≡ true
  unfolding occasion
  is_occasion {o} (began_prohibited h) = by_line (λ t. t || turned_counting_on s o || cleared_paused s o || performed_iall s o) refl h
  is_occasion {o} (counting_turned_on off on) =
      by_line (λ t. level || t || cleared_paused s o || performed_iall s o) (rw (or_true level)) (rw (off, on))
  is_occasion {o} (PAUSED-cleared was is) =
      by_line (λ t. level || turned_counting_on s o || t || performed_iall s o) (rw (or_true (level || turned_counting_on s o))) (and_not was is)
  is_occasion {o} (iall_performed done) =
      by_line (λ t. level || turned_counting_on s o || cleared_paused s o || t) (or_true (level || turned_counting_on s o || cleared_paused s o)) (cc)

  -- What follows from each line of the definition follows from an occasion.
  by_lines : (o : Operation) {P : Type 0} → (level ≡ true → P) → (turned_counting_on s o ≡ true → P) → (cleared_paused s o ≡ true → P)
      → (performed_iall s o ≡ true → P)
      → occasion s o ≡ true
      → P
  unfolding occasion
  by_lines o {P} first second third fourth h = ⊎_elim up_to_third fourth (one_of_two _ (performed_iall s o) h)
    where
      up_to_second : level || turned_counting_on s o ≡ true → P
      up_to_second h = ⊎_elim first second (one_of_two _ (turned_counting_on s o) h)

      up_to_third : level || turned_counting_on s o || cleared_paused s o ≡ true → P
      up_to_third h = ⊎_elim up_to_second third (one_of_two _ (cleared_paused s o) h)

  -- Where both registers are as they were, counting was not turned on and PAUSED not cleared.
  unturned : (o : Operation) {P : Type 0} → counting (changed s o) ≡ counting s → turned_counting_on s o ≡ true → P
  unturned o same h =
      let off : counting s ≡ false = search each in
      let on : counting (changed s o) ≡ true = search each in
      never (cc)

  uncleared : (o : Operation) {P : Type 0} → PAUSED (changed s o) ≡ PAUSED s → cleared_paused s o ≡ true → P
  uncleared o same h =
      let was : PAUSED s ≡ true = search each in
      let is : PAUSED (changed s o) ≡ false = search each in
      never (cc)

  -- ... and only the level can make an occasion, unless it is BRB IALL.
  by_level : (o : Operation) → counting (changed s o) ≡ counting s → PAUSED (changed s o) ≡ PAUSED s → eqb (code_of o) 7 ≡ false
      → occasion s o ≡ true
      → Occasion s o
  by_level o c p k = by_lines o began_prohibited (unturned o c) (uncleared o p) (λ h. never (cc (rw k at h)))

  -- A freeze is none by itself, whether or not it freezes.
  pub freeze_occasion : (group physical virtual_offset guest_offset : ℕ)
      → occasion s (Freeze group physical virtual_offset guest_offset) ≡ prohibited s (side s)
  unfolding changed
  freeze_occasion group physical virtual_offset guest_offset =
      sym (lines s (Freeze group physical virtual_offset guest_offset)) ∙ rw (no_occasion s group physical virtual_offset guest_offset, or_false level)

  -- There is no other. (A reset makes the next count unknown by itself.)
  pub which_occasion : (o : Operation) → eqb (code_of o) 0 ≡ false → occasion s o ≡ true → Occasion s o
  unfolding changed
  which_occasion (Reset size v1p1) k = never (cc)
  which_occasion (Branch kind m source target) k = by_level _ refl refl refl
  which_occasion (Exception kind level source target) k = by_level _ refl refl refl
  which_occasion (Return level m source target) k = by_level _ refl refl refl
  which_occasion (Platform p) k = by_level _ refl refl refl
  which_occasion (Read r) k = by_level _ refl refl refl
  which_occasion (Write r value) k =
      by_lines _ began_prohibited (λ h. counting_turned_on (search each) (search each)) (λ h. PAUSED-cleared (search each) (search each)) (λ h. never (cc))
  which_occasion Iall k = by_lines _ began_prohibited (unturned Iall refl) (uncleared Iall refl) iall_performed
  which_occasion (Halt source) k = by_level _ refl refl refl
  which_occasion (Resume target level) k = by_level _ refl refl refl
  which_occasion (Freeze group physical virtual_offset guest_offset) k =
      λ h. began_prohibited (sym (freeze_occasion group physical virtual_offset guest_offset) ∙ h)
  which_occasion Unknown k = by_level _ refl refl refl

  -- Where the operation sets nothing and is no performed BRB IALL, only its level can be one.
  pub unchanged-occasion : (o : Operation) → changed s o ≡ s → performed_iall s o ≡ false → occasion s o ≡ prohibited s (side s)
  unchanged-occasion o same none = sym (lines s o) ∙ rw (same, none, unset (counting s) (PAUSED s) false, or_false level)
