use Rattle.std.proofs.Common.{◌≡◌, Bool, true, false, ap, ap₂, cond, refl, ◌∙◌}
use Rattle.std.specs.Prelude.{not}
use Rattle.vlog_semantics.specs.Run.{is_same_bit}
use Rattle.vlog_engine.proofs.changes.changed_lanes.Goals as goal

turned : (bit old : Bool) → cond bit (cond old false true) old ≡ not (is_same_bit bit old)
turned true true = refl
turned true false = refl
turned false true = refl
turned false false = refl

pub returns : goal.returns
returns g c lane within =
    let at = g.V.Value.at in
    c.both.ensures lane within
    ∙ ap (λ b. cond (at c.args.active lane) b false)
    (c.select.ensures lane within
    ∙ ap (λ b. cond (at c.args.bits lane) b (at c.args.old lane))
    (c.select-other.ensures lane within ∙ ap₂ (λ (x y : Bool). cond (at c.args.old lane) x y) (c.every.ensures lane within) (c.every-2.ensures lane within))
    ∙ turned (at c.args.bits lane) (at c.args.old lane))
