-- What a turn keeps, and that it comes nearer to the end.
use Rattle.std.proofs.Common.{◌≡◌, ℕ, ◌+◌, ◌-◌, ◌*◌, ◌^◌, ◌<◌, ◌≤◌, Bool, true, cond, List, length, sym, refl, ap, subst, arith}
use Rattle.number.proofs.Laws.{Bytes}
use Rattle.recording.specs.Recording.{operation_at}
use Rattle.compare.specs.declared.Leap.{Leap}
use Rattle.compare.specs.Walk.{at_once, Turned, passed, paired, leapt, fewer}
use Rattle.compare.proofs.Together.{Together, turns, lessens}
use Rattle.compare.proofs.Passing.{passes, passes_less}
use Rattle.compare.proofs.Same.{leaps}

-- How far the walk is from its end: bytes of the first, whether it goes on, and how many operations are tried at once.
abbrev pub distance : List ℕ → Leap → ℕ
distance a l = 1025 * ((length a - l.walk.at) + cond l.walk.going 1 0) + l.most

pub record Kept (a b : List ℕ) (l r : Leap) : Type 0 where
  pub together : Together a b r.walk
  pub at_most : r.most ≤ at_once
  pub nearer : distance a r < distance a l

module _ (a b : List ℕ) (bytes : Bytes a) (size : length a < 2 ^ 64) (l : Leap) (t : Together a b l.walk) (few : l.most ≤ at_once) (going : l.walk.going ≡ true) where
  was : cond {A = ℕ} l.walk.going 1 0 ≡ 1
  was = ap (λ (t : Bool). cond t 1 0) going

  pub keeps : (r : Leap) → Turned a b l r → Kept a b l r
  keeps r (passed unequal e) =
      let w = l.walk in
      let less = passes_less a b w t unequal bytes at_once (omega arith) in
      subst (Kept a b l) (sym e)
      (record { together = passes a b w t unequal bytes at_once (omega arith); at_most = few; nearer = omega (arith, less, was) })
  keeps r (paired e) =
      let w = l.walk in
      let less = lessens a b size w t (operation_at a w.at) (operation_at b w.other) refl refl going in
      subst (Kept a b l) (sym e)
      (record { together = turns a b size w t (operation_at a w.at) (operation_at b w.other) refl refl; at_most = omega arith; nearer = omega (arith, less, was) })
  keeps r (leapt none p f s e) =
      let w = l.walk in
      let m = leaps a b bytes size w t none going l.most p f s in
      subst (Kept a b l) (sym e) (record { together = m; at_most = few; nearer = omega (arith, s.some, m.first.within, was) })
  keeps r (fewer some e) =
      subst (Kept a b l) (sym e) (record { together = t; at_most = omega (arith, few); nearer = omega (arith, some) })
