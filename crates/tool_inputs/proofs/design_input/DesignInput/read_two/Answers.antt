use Rattle.std.proofs.Common.{[], ◌∙◌, subst, sym}
use Rattle.std.specs.Prelude.{get_or, Some}
use Rattle.std.proofs.lemmas.Result.{err_from_is_err_and}
use Rattle.tool_run.specs.Stops.{StopsWith}
use Rattle.tool_run.specs.Tasks.{Answer}
use Rattle.tool_inputs.specs.Databases.{database_read}
use Rattle.tool_inputs.specs.DesignInput.{answer_to_second}
use Rattle.tool_inputs.specs.Images.{image_in, image_read}
use Rattle.tool_inputs.proofs.DesignInputs.{all-taken, in-file, stops-database, stops-first, stops-second, two-read, two_under}
use Rattle.tool_inputs.proofs.design_input.DesignInput.read_two.Goals as goal

pub returns-in_err-database-clause-stops : goal.returns-in_err-database-clause-stops
returns-in_err-database-clause-stops c =
    let p = err_from_is_err_and c.from_residual.result c.from_residual.ensures.1 in
    rw (p.1, p.2) (λ layout texts answer takes.
    let db = get_or texts 0 [] in
    let layouts = c.args.self.layouts in
    let second = image_in (Some c.args.second.now) (image_read layouts (get_or texts 2 [])) in
    subst (λ (told : Answer). StopsWith told c.in_err-database.field-0.0) (sym (two_under answer layout c.args.first.now c.args.second.now texts layouts takes.0))
    (stops-database (λ db image. answer_to_second second (answer db image)) (database_read db) (image_in (Some c.args.first.now) (image_read layouts (get_or texts 1 []))) c.in_err-database.field-0.0
    (c.in_err-database.ensures.stops db (all-taken texts _ _ _ _ takes.1).database)))

pub returns-in_err-one-clause-stops : goal.returns-in_err-one-clause-stops
returns-in_err-one-clause-stops c =
    let p = err_from_is_err_and c.from_residual-in_err-one.result c.from_residual-in_err-one.ensures.1 in
    rw (p.1, p.2) (λ layout texts answer takes.
    let db = get_or texts 0 [] in
    let image = get_or texts 1 [] in
    let layouts = c.args.self.layouts in
    let taken = all-taken texts _ _ _ _ takes.1 in
    subst (λ (told : Answer). StopsWith told c.in_err-one.field-0.0) (sym (two_under answer layout c.args.first.now c.args.second.now texts layouts takes.0))
    (stops-first answer (database_read db) _ (image_in (Some c.args.first.now) (image_read layouts image)) (image_in (Some c.args.second.now) (image_read layouts (get_or texts 2 []))) c.in_err-one.field-0.0
    (c.in_ok-database.ensures.database db taken.database)
    (c.in_err-one.ensures.stops image taken.first)))

pub returns-in_err-two-clause-stops : goal.returns-in_err-two-clause-stops
returns-in_err-two-clause-stops c =
    let p = err_from_is_err_and c.from_residual-in_err-two.result c.from_residual-in_err-two.ensures.1 in
    rw (p.1, p.2) (λ layout texts answer takes.
    let db = get_or texts 0 [] in
    let first = get_or texts 1 [] in
    let second = get_or texts 2 [] in
    let layouts = c.args.self.layouts in
    let taken = all-taken texts _ _ _ _ takes.1 in
    subst (λ (told : Answer). StopsWith told c.in_err-two.field-0.0) (sym (two_under answer layout c.args.first.now c.args.second.now texts layouts takes.0))
    (stops-second answer (database_read db) _ (image_in (Some c.args.first.now) (image_read layouts first)) (image_in (Some c.args.second.now) (image_read layouts second)) _ c.in_err-two.field-0.0
    (c.in_ok-database.ensures.database db taken.database)
    (in-file (Some c.args.first.now) (image_read layouts first) _ (c.in_ok-one.ensures.image first taken.first))
    (c.in_err-two.ensures.stops second taken.other)))

pub returns-clause-read : goal.returns-clause-read
returns-clause-read c = λ layout texts answer takes.
    let db = get_or texts 0 [] in
    let first = get_or texts 1 [] in
    let second = get_or texts 2 [] in
    let layouts = c.args.self.layouts in
    let taken = all-taken texts _ _ _ _ takes.1 in
    two_under answer layout c.args.first.now c.args.second.now texts layouts takes.0
    ∙ two-read answer (database_read db) (image_in (Some c.args.first.now) (image_read layouts first)) (image_in (Some c.args.second.now) (image_read layouts second)) _ _ _
    (c.in_ok-database.ensures.database db taken.database)
    (in-file (Some c.args.first.now) (image_read layouts first) _ (c.in_ok-one.ensures.image first taken.first))
    (in-file (Some c.args.second.now) (image_read layouts second) _ (c.in_ok-two.ensures.image second taken.other))
