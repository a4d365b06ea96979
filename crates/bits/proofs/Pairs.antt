-- Pairs in a result: what was read, and where.
use Rattle.std.proofs.Common.{◌≡◌, Result, Ok, ap}

-- Two pairs that are equal as results are equal part by part.
pub ok_parts : {A B E : Type 0} (a c : A) (b d : B) → ◌≡◌ {A = Result (A × B) E} (Ok (a, b)) (Ok (c, d)) → (a ≡ c) × (b ≡ d)
ok_parts {A = A} {B = B} a c b d e =
    let p : ◌≡◌ {A = A × B} (a, b) (c, d) = cc in
    (ap (λ (x : A × B). x.0) p, ap (λ (x : A × B). x.1) p)
