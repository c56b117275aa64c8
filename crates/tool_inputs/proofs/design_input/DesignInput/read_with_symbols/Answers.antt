use Rattle.std.proofs.Common.{[], ◌∙◌, subst, sym}
use Rattle.std.specs.Prelude.{get_or}
use Rattle.std.proofs.lemmas.Result.{err_from_is_err_and}
use Rattle.tool_run.specs.Stops.{StopsWith}
use Rattle.tool_run.specs.Tasks.{Answer}
use Rattle.tool_inputs.specs.Databases.{database_read}
use Rattle.tool_inputs.specs.Images.{StopsImage, image_read}
use Rattle.tool_inputs.proofs.DesignInputs.{all-taken, both-read, input_under, stops-database, stops-image, unnamed}
use Rattle.tool_inputs.proofs.design_input.DesignInput.read_with_symbols.Goals as goal

pub returns-in_err-db-clause-stops : goal.returns-in_err-db-clause-stops
returns-in_err-db-clause-stops c =
    let p = err_from_is_err_and c.from_residual.result c.from_residual.ensures.1 in
    rw (p.1, p.2) (λ layout texts answer takes.
    let db = get_or texts 0 [] in
    let layouts = c.args.self.layouts in
    subst (λ (told : Answer). StopsWith told c.in_err-db.field-0.0) (sym (input_under answer layout texts layouts takes.0))
    (stops-database answer (database_read db) (image_read layouts (get_or texts 1 [])) c.in_err-db.field-0.0
    (c.in_err-db.ensures.stops db (all-taken texts _ _ _ _ takes.1).database)))

pub returns-in_err-file-clause-stops : goal.returns-in_err-file-clause-stops
returns-in_err-file-clause-stops c =
    let p = err_from_is_err_and c.from_residual-in_err-file.result c.from_residual-in_err-file.ensures.1 in
    rw (p.1, p.2) (λ layout texts answer takes.
    let db = get_or texts 0 [] in
    let image = get_or texts 1 [] in
    let layouts = c.args.self.layouts in
    subst (λ (told : Answer). StopsWith told c.in_err-file.field-0.0) (sym (input_under answer layout texts layouts takes.0))
    (stops-image answer (database_read db) _ (image_read layouts image) c.in_err-file.field-0.0
    (c.in_ok-db.ensures.database db (all-taken texts _ _ _ _ takes.1).database)
    (subst (λ read. StopsImage read c.in_err-file.field-0.0) (unnamed (image_read layouts image)) (c.in_err-file.ensures.stops image (all-taken texts _ _ _ _ takes.1).first))))

pub returns-clause-read : goal.returns-clause-read
returns-clause-read c = λ layout texts answer takes.
    let db = get_or texts 0 [] in
    let image = get_or texts 1 [] in
    let layouts = c.args.self.layouts in
    input_under answer layout texts layouts takes.0
    ∙ both-read answer (database_read db) (image_read layouts image) _ _
    (c.in_ok-db.ensures.database db (all-taken texts _ _ _ _ takes.1).database)
    (c.in_ok-file.ensures.image image (all-taken texts _ _ _ _ takes.1).first)

pub returns-clause-symbols : goal.returns-clause-symbols
returns-clause-symbols c = λ layout texts takes. c.in_ok-file.ensures.symbols (get_or texts 1 []) (all-taken texts _ _ _ _ takes.1).first
