-- A step changes no more than the plan has items.
use Rattle.std.proofs.Common.{ℕ, ◌≤◌, Bool, true, false, cond, List, [], ◌∷◌, ap, arith, flat_map, length, length-append, ltb}
use Rattle.std.specs.Prelude.{◌&&◌}
use Rattle.std.proofs.lemmas.List.{length-map}
use Rattle.vlog_semantics.specs.declared.plan.Plan.{Plan}
use Rattle.vlog_engine.specs.StepKinds.{Step, picks}
use Rattle.vlog_engine.specs.declared.groups.Group.{Group}
use Rattle.vlog_engine.specs.Flips.{flip_flop}
use Rattle.vlog_engine.specs.Groups.{IsGroup, flip_at, write_at}
use Rattle.vlog_engine.specs.Resolved.{resolved_flip, resolved_write}

-- lists of at most one item
one : {A : Type 0} (b : Bool) (x : A) → length (cond b (x ∷ []) []) ≤ 1
one true x = omega arith
one false x = omega arith

few : {A B : Type 0} (f : A → List B) (xs : List A) → ((x : A) → length (f x) ≤ 1) → length (flat_map f xs) ≤ length xs
few f [] each = omega arith
few f (x ∷ xs) each = omega (arith, length-append (f x) (flat_map f xs), each x, few f xs each)

module _ (step : Step) (first bits words : ℕ) (roots : List ℕ) (plan : Plan) (group : Group) (grouped : IsGroup step first bits words roots plan group) where
  pub flips-few : length group.flips.items ≤ length plan.flips.items
  flips-few =
      omega (
        arith,
        length-map group.flips.items flip_flop,
        ap length grouped.flips,
        few (flip_at step first bits words roots) plan.flips.items (λ flip. one (picks step flip.edge && ltb flip.target first) (resolved_flip bits words roots flip)),
      )

  pub writes-few : length group.writes.items ≤ length plan.writes.items
  writes-few =
      omega (
        arith,
        ap length grouped.writes,
        few (write_at step bits words roots) plan.writes.items (λ write. one (picks step write.port.edge) (resolved_write bits words roots write)),
      )
