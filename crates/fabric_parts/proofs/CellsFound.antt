-- Nets that are set.
use Rattle.std.proofs.Common.{◌≡◌, ℕ, Bool, true, false, [], ◌∷◌, refl, ap}
use Rattle.std.specs.Prelude.{Option, Some, None, if◌then◌else◌}
use Rattle.fabric_model.specs.Cells.{set_with}
use Rattle.fabric_model.specs.declared.cell.CarrySet.{CarrySet}

pub set-missing : (x y : ℕ) (on : Bool) (net : Option ℕ) → None ≡ net → [] ≡ (if on then set_with x y net else [])
set-missing x y true None is = refl
set-missing x y false net is = refl
set-missing x y true (Some other) is = absurd cc

pub set-there : (x y net : ℕ) (on : Bool) (found : Option ℕ) → on ≡ true → Some net ≡ found
    → (let set : CarrySet = record { x = x; y = y; net = net } in set ∷ []) ≡ (if on then set_with x y found else [])
set-there x y net true None on is = absurd cc
set-there x y net true (Some other) on is =
    let same : net ≡ other = cc in
    ap (λ n. let set : CarrySet = record { x = x; y = y; net = n } in set ∷ []) same
set-there x y net false found on is = absurd cc
