-- The cells of the flip-flops of a step.
use Rattle.std.proofs.Common.{◌≡◌, ℕ, zero, suc, ◌<◌, ◌≤◌, Bool, true, false, cond, List, [], ◌∷◌, arith, flat_map, get_or, ltb, map, refl, subst, sym}
use Rattle.std.specs.Prelude.{◌&&◌}
use Rattle.std.specs.List.{All}
use Rattle.std.proofs.lemmas.Bool.{ltb-true}
use Rattle.std.proofs.lemmas.List.Elements.{All-append, All-cons, All-head, All-nil, All-tail}
use Rattle.vlog_semantics.specs.declared.plan.FlipFlop.{FlipFlop}
use Rattle.vlog_semantics.specs.declared.plan.Operand.{Operand}
use Rattle.vlog_semantics.specs.declared.plan.Operand.TheVariants.{Constant, Slot, Part}
use Rattle.vlog_semantics.specs.declared.plan.Plan.{Plan}
use Rattle.vlog_engine.specs.declared.flips.Flip.{Flip}
use Rattle.vlog_engine.specs.declared.groups.Group.{Group}
use Rattle.vlog_engine.specs.Flips.{IsOver, flip_flop, flip_flops}
use Rattle.vlog_engine.specs.Groups.{IsGroup, flip_at}
use Rattle.vlog_engine.specs.Resolved.{resolved, resolved_flip}
use Rattle.vlog_engine.specs.Roots.{root}
use Rattle.vlog_engine.specs.StepKinds.{Step, picks}

-- the slot of an operand, if it has one
abbrev slot_in : Operand → ℕ
slot_in (Slot slot) = slot
slot_in (Constant bit) = 0
slot_in (Part word k) = 0

-- the slots that a flip-flop has are among the first ones
record IsBelow (first total : ℕ) (flop : FlipFlop) : Type 0 where
  enable : slot_in flop.enable < total
  reset : slot_in flop.reset < total
  target : flop.target < first
  ins : (i : ℕ) → slot_in (get_or flop.table.ins i (Constant false)) < total

ins-below : (bits words total : ℕ) (roots : List ℕ) → 0 < total → ((cell : ℕ) → root roots cell < total) → (ins : List Operand) (i : ℕ)
    → slot_in (get_or (map (resolved bits words roots) ins) i (Constant false)) < total
ins-below bits words total roots some below [] i = some
ins-below bits words total roots some below (operand ∷ ins) zero = below _
ins-below bits words total roots some below (operand ∷ ins) (suc i) = ins-below bits words total roots some below ins i

right-true : (a b : Bool) → (a && b) ≡ true → b ≡ true
right-true true b is = is
right-true false b is = absurd cc

module _ (step : Step) (first bits words total : ℕ) (roots : List ℕ) (some : 0 < total) (below : (cell : ℕ) → root roots cell < total) where
  one-below : (flip : FlipFlop) (b : Bool) → (picks step flip.edge && ltb flip.target first) ≡ b → All (IsBelow first total) (cond b (resolved_flip bits words roots flip ∷ []) [])
  one-below flip true on =
      All-cons (IsBelow first total) (resolved_flip bits words roots flip) [] (record {
        enable = below _;
        reset = below _;
        target = ltb-true flip.target first (right-true (picks step flip.edge) (ltb flip.target first) on);
        ins = ins-below bits words total roots some below flip.table.ins;
      }) (All-nil (IsBelow first total))
  one-below flip false off = All-nil (IsBelow first total)

  all-below : (flips : List FlipFlop) → All (IsBelow first total) (flat_map (flip_at step first bits words roots) flips)
  all-below [] = All-nil (IsBelow first total)
  all-below (flip ∷ flips) =
      All-append (IsBelow first total) (flip_at step first bits words roots flip) (flat_map (flip_at step first bits words roots) flips)
      (one-below flip (picks step flip.edge && ltb flip.target first) refl) (all-below flips)

  over : first ≤ total → (flips : List Flip) → All (IsBelow first total) (flip_flops flips) → All (IsOver total) flips
  over room [] known = All-nil (IsOver total)
  over room (flip ∷ flips) known =
      let head : IsBelow first total (flip_flop flip) = All-head (IsBelow first total) (flip_flop flip) (flip_flops flips) known in
      All-cons (IsOver total) flip flips (record {
        enable = head.enable;
        reset = head.reset;
        target = omega (arith, head.target, room);
        a = head.ins 0;
        b = head.ins 1;
        c = head.ins 2;
        d = head.ins 3;
      }) (over room flips (All-tail (IsBelow first total) (flip_flop flip) (flip_flops flips) known))

  targets : (count : ℕ) → first ≤ count → (flips : List Flip) → All (IsBelow first total) (flip_flops flips) → All (λ (flip : Flip). flip.target < count) flips
  targets count room [] known = All-nil (λ (flip : Flip). flip.target < count)
  targets count room (flip ∷ flips) known =
      let head : IsBelow first total (flip_flop flip) = All-head (IsBelow first total) (flip_flop flip) (flip_flops flips) known in
      All-cons (λ (flip : Flip). flip.target < count) flip flips (omega (arith, head.target, room))
      (targets count room flips (All-tail (IsBelow first total) (flip_flop flip) (flip_flops flips) known))

  module _ (plan : Plan) (group : Group) (grouped : IsGroup step first bits words roots plan group) where
    known-below : All (IsBelow first total) (flip_flops group.flips.items)
    known-below = subst (All (IsBelow first total)) (sym grouped.flips) (all-below plan.flips.items)

    pub group-over : first ≤ total → All (IsOver total) group.flips.items
    group-over room = over room group.flips.items known-below

    pub group-targets : (count : ℕ) → first ≤ count → All (λ (flip : Flip). flip.target < count) group.flips.items
    group-targets count room = targets count room group.flips.items known-below
