use Rattle.std.proofs.Common.{◌≡◌, [], ◌∷◌, Some, sym, ap, ◌∙◌}
use Rattle.std.specs.Prelude.{if◌then◌else◌, slice_get}
use Rattle.ice_image.specs.Either.{configuration_of}
use Rattle.chipdb_reader.specs.Fit.{IsFunctionLine}
use Rattle.chipdb_reader.specs.Kept.{database_in, function_line}
use Rattle.image_explain.specs.Items.{function_here}
use Rattle.image_explain.proofs.Gathered.{all-found, gathered-step, item-found, line-found}
use Rattle.image_explain.proofs.functions.functions_on.Goals as goal

pub is_other_on-is_on-requires-clause-fit : goal.is_other_on-is_on-requires-clause-fit
is_other_on-is_on-requires-clause-fit c =
    all-found IsFunctionLine (function_line c.args.db.now.texts c.args.db.now.bits) c.args.db.now.functions c.loop-index.index c.function-item.result c.functions-function-items.ensures.fit.functions
    (item-found c.args.db.now.functions c.functions-function-items.result.now c.loop-index.index c.function-item.result c.functions-function-items.ensures.functions c.loop-index-test.true c.function-item.is)

pub loop-index-preserved : goal.loop-index-preserved
loop-index-preserved c =
    let functions = (database_in c.args.db.now).functions in
    let found : slice_get functions c.loop-index.index ≡ Some (function_line c.args.db.now.texts c.args.db.now.bits c.function-item.result) =
    line-found (function_line c.args.db.now.texts c.args.db.now.bits) c.args.db.now.functions c.loop-index.index c.function-item.result
    (item-found c.args.db.now.functions c.functions-function-items.result.now c.loop-index.index c.function-item.result c.functions-function-items.ensures.functions c.loop-index-test.true c.function-item.is) in
    gathered-step c.loop-index.index (λ place. function_here (configuration_of c.args.image.now) c.args.at.x c.args.at.y c.args.at.kind functions place (slice_get functions place)) c.loop-index.places.items c.push_where.new.places.items _ c.loop-index.invariant c.in_ok-push_where.ensures
    (ap (λ on. if on then c.loop-index.index ∷ [] else []) c.is_other_on-is_on.ensures ∙ sym (ap (function_here (configuration_of c.args.image.now) c.args.at.x c.args.at.y c.args.at.kind functions c.loop-index.index) found))
