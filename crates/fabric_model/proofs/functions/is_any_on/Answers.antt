use Rattle.std.proofs.Common.{List, sym, ap, ◌∙◌, arith, Bool, subst}
use Rattle.std.specs.Prelude.{All}
use Rattle.std.specs.List.{list_any}
use Rattle.ice_image.specs.Either.{configuration_of}
use Rattle.chipdb_lines.specs.Items.{FunctionLine}
use Rattle.chipdb_reader.specs.declared.items.Function.{Function}
use Rattle.chipdb_reader.specs.Kept.{function_lines}
use Rattle.chipdb_reader.specs.Fit.{IsFunctionLine}
use Rattle.fabric_model.specs.On.{is_any_on}
use Rattle.fabric_model.specs.TilesOfKind.{begins_and_is_on}
use Rattle.fabric_model.proofs.Listed.{any_line-none, any_line-at, line_bits-in}
use Rattle.fabric_model.proofs.functions.is_any_on.Goals as goal

pub begins_and_is_on-requires-clause-in_tile : goal.begins_and_is_on-requires-clause-in_tile
begins_and_is_on-requires-clause-in_tile c =
    let Fit : List Function → Type 0 = λ fs. All IsFunctionLine (function_lines c.args.db.now.texts c.args.db.now.bits fs) in
    let fit = subst Fit (sym c.functions-function-items.ensures.functions) c.functions-function-items.ensures.fit.functions in
    line_bits-in c.args.db.now.texts c.args.db.now.bits c.functions-function-items.result.now c.loop-function.function-index c.function-item.result fit c.loop-function-test.true c.function-item.is

pub returns-then-begins_and_is_on : goal.returns-then-begins_and_is_on
unfolding is_any_on
returns-then-begins_and_is_on c =
    let test : FunctionLine → Bool = λ line. begins_and_is_on (configuration_of c.args.image.now) c.args.kind c.args.x c.args.y c.args.beginning.now line in
    let listed : List Function → Bool = λ fs. list_any test (function_lines c.args.db.now.texts c.args.db.now.bits fs) in
    sym (sym (ap listed c.functions-function-items.ensures.functions)
    ∙ any_line-at test c.args.db.now.texts c.args.db.now.bits c.functions-function-items.result.now c.loop-function.function-index c.function-item.result
    c.loop-function-test.true c.function-item.is (sym c.begins_and_is_on.ensures ∙ c.if-begins_and_is_on.true))

pub returns : goal.returns
unfolding is_any_on
returns c =
    let test : FunctionLine → Bool = λ line. begins_and_is_on (configuration_of c.args.image.now) c.args.kind c.args.x c.args.y c.args.beginning.now line in
    let listed : List Function → Bool = λ fs. list_any test (function_lines c.args.db.now.texts c.args.db.now.bits fs) in
    sym (sym (ap listed c.functions-function-items.ensures.functions)
    ∙ any_line-none test c.args.db.now.texts c.args.db.now.bits c.functions-function-items.result.now
    (λ k d inside. c.loop-function.invariant k d (omega arith)))
