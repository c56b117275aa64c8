-- The parts of equal answers.
use Rattle.std.proofs.Common.{◌≡◌, ap}
use Rattle.std.specs.Prelude.{Result, Ok}

pub ok_same : {A E : Type 0} {p q : A} → ◌≡◌ {A = Result A E} (Ok p) (Ok q) → p ≡ q
ok_same is = cc

pub ok_first : {A B E : Type 0} {p q : A × B} → ◌≡◌ {A = Result (A × B) E} (Ok p) (Ok q) → p.0 ≡ q.0
ok_first is = ap (λ r. r.0) (ok_same is)

pub ok_second : {A B E : Type 0} {p q : A × B} → ◌≡◌ {A = Result (A × B) E} (Ok p) (Ok q) → p.1 ≡ q.1
ok_second is = ap (λ r. r.1) (ok_same is)
