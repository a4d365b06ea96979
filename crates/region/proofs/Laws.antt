-- Where recording is prohibited, in Arm's own words: "Execution at … is a BRBE Prohibited region when any of the following are true".
use mathlib.Core.Path.{◌≡◌, refl, ◌∙◌}
use mathlib.Core.Bool.{Bool, true, false, cond, ◌&&◌, ◌||◌, not}
use lib.Dec.{eqb}
use Rattle.bits.specs.Bits.{is_set}
use Rattle.state.specs.declared.State.{State}
use Rattle.state.specs.Named.{NS, TGE, SBRBE, EL2Enabled, debug_state}
use Rattle.region.specs.Region.{enabled, prohibited}

-- MDCR_EL3.SBRBE is 0b00; or it is 0b01 and the PE is in Secure state: what R_SFZQD, R_YPHYG and R_DBPCP have in common.
abbrev by_sbrbe : State → Bool
by_sbrbe s = eqb (SBRBE s) 0b00 || eqb (SBRBE s) 0b01 && not (NS s)

-- The bit's rule last in the definition, first on Arm's page.
first_last : (a b : Bool) → a || b ≡ b || a
first_last true true = refl
first_last true false = refl
first_last false true = refl
first_last false false = refl

-- R_LPYBQ: execution in Debug state is a BRBE Prohibited region.
pub in_debug_state_lem : (s : State) → prohibited s debug_state ≡ true
unfolding prohibited
in_debug_state_lem s = refl

-- R_GLKGW: FEAT_BRBEv1p1 is not implemented; or self-hosted EL3 branch recording is disabled.
pub at_el3 : (s : State) → prohibited s 3 ≡ (not (eqb s.v1p1 1) || not (is_set 6 s.p))
unfolding prohibited
at_el3 s = go (eqb s.v1p1 1) (is_set 6 s.p)
  where
    go : (v b : Bool) → not (v && b) ≡ not v || not b
    go true b = refl
    go false b = refl

-- R_SFZQD: BRBCR_EL2.E2BRE is 0; or by SBRBE.
pub at_el2 : (s : State) → prohibited s 2 ≡ (not (is_set 1 s.brbcr2) || by_sbrbe s)
unfolding prohibited enabled
at_el2 s = first_last (by_sbrbe s) (not (is_set 1 s.brbcr2))

-- R_YPHYG: BRBCR_EL1.E1BRE is 0; or by SBRBE.
pub at_el1 : (s : State) → prohibited s 1 ≡ (not (is_set 1 s.brbcr1) || by_sbrbe s)
unfolding prohibited enabled
at_el1 s = first_last (by_sbrbe s) (not (is_set 1 s.brbcr1))

-- R_DBPCP: EL2 is disabled or TGE is 0, and BRBCR_EL1.E0BRE is 0; EL2 is enabled and TGE is 1, and BRBCR_EL2.E0HBRE is 0; or by SBRBE.
pub at_el0 : (s : State)
    → prohibited s 0
    ≡ ((not (EL2Enabled s) || not (TGE s)) && not (is_set 0 s.brbcr1) || EL2Enabled s && TGE s && not (is_set 0 s.brbcr2) || by_sbrbe s)
unfolding prohibited enabled
at_el0 s =
    first_last (by_sbrbe s) _ ∙ governed (EL2Enabled s) (TGE s) (is_set 0 s.brbcr1) (is_set 0 s.brbcr2) (by_sbrbe s)
  where
    governed : (enabled tge one two by : Bool)
        → not (cond (tge && enabled) two one) || by ≡ ((not enabled || not tge) && not one || enabled && tge && not two || by)
    governed true true one two by = refl
    governed true false true two by = refl
    governed true false false two by = refl
    governed false true true two by = refl
    governed false true false two by = refl
    governed false false true two by = refl
    governed false false false two by = refl
