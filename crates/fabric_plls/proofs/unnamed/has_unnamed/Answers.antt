use Rattle.std.proofs.Common.{List, sym, ap, ◌∙◌, arith, Bool, subst}
use Rattle.std.specs.Prelude.{All}
use Rattle.std.specs.List.{list_any}
use Rattle.ice_image.specs.Either.{configuration_of}
use Rattle.chipdb_lines.specs.Items.{FunctionLine}
use Rattle.chipdb_reader.specs.declared.items.Function.{Function}
use Rattle.chipdb_reader.specs.Kept.{database_in, function_lines}
use Rattle.chipdb_reader.specs.Fit.{IsFunctionLine}
use Rattle.fabric_model.specs.Plls.{has_unnamed, is_unnamed_on}
use Rattle.fabric_model.proofs.Listed.{any_line-none, any_line-at, line_bits-in}
use Rattle.fabric_plls.proofs.unnamed.has_unnamed.Goals as goal

pub is_unnamed_on-requires-clause-in_tile : goal.is_unnamed_on-requires-clause-in_tile
is_unnamed_on-requires-clause-in_tile c =
    let Fit : List Function → Type 0 = λ fs. All IsFunctionLine (function_lines c.args.db.now.texts c.args.db.now.bits fs) in
    let fit = subst Fit (sym c.functions-function-items.ensures.functions) c.functions-function-items.ensures.fit.functions in
    line_bits-in c.args.db.now.texts c.args.db.now.bits c.functions-function-items.result.now c.loop-function.function-index c.function-item.result fit c.loop-function-test.true c.function-item.is

pub returns-then-is_unnamed_on : goal.returns-then-is_unnamed_on
unfolding has_unnamed
returns-then-is_unnamed_on c =
    let test : FunctionLine → Bool = λ line. is_unnamed_on (database_in c.args.db.now) (configuration_of c.args.image.now) c.args.x c.args.y line in
    let listed : List Function → Bool = λ fs. list_any test (function_lines c.args.db.now.texts c.args.db.now.bits fs) in
    sym (sym (ap listed c.functions-function-items.ensures.functions)
    ∙ any_line-at test c.args.db.now.texts c.args.db.now.bits c.functions-function-items.result.now c.loop-function.function-index c.function-item.result
    c.loop-function-test.true c.function-item.is (sym c.is_unnamed_on.ensures ∙ c.if-is_unnamed_on.true))

pub returns : goal.returns
unfolding has_unnamed
returns c =
    let test : FunctionLine → Bool = λ line. is_unnamed_on (database_in c.args.db.now) (configuration_of c.args.image.now) c.args.x c.args.y line in
    let listed : List Function → Bool = λ fs. list_any test (function_lines c.args.db.now.texts c.args.db.now.bits fs) in
    sym (sym (ap listed c.functions-function-items.ensures.functions)
    ∙ any_line-none test c.args.db.now.texts c.args.db.now.bits c.functions-function-items.result.now
    (λ k d inside. c.loop-function.invariant k d (omega arith)))
