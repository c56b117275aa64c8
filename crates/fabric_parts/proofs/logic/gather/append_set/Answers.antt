use Rattle.std.proofs.Common.{◌++◌, append-nil, ap, sym, ◌∙◌}
use Rattle.std.specs.Prelude.{codes}
use Rattle.plane_map.specs.declared.tile.TileKind.TheVariants.{Logic}
use Rattle.ice_image.specs.Either.{configuration_of}
use Rattle.chipdb_reader.specs.Kept.{database_in}
use Rattle.fabric_model.specs.Nets.{net_named}
use Rattle.fabric_model.specs.On.{is_function_on}
use Rattle.fabric_parts.proofs.CellsFound.{set-missing, set-there}
use Rattle.fabric_parts.proofs.logic.gather.append_set.Goals as goal

pub returns-in-None : goal.returns-in-None
returns-in-None c =
    let db = database_in c.args.db.now in
    sym (append-nil c.args.sets.now.items)
    ∙ ap (λ more. c.args.sets.now.items ++ more) (set-missing c.args.x c.args.y
    (is_function_on db (configuration_of c.args.image.now) Logic c.args.x c.args.y (codes "CarryInSet"))
    (net_named db c.args.x c.args.y (codes "carry_in_mux")) c.in-None.ensures)

pub returns-in_ok-push-in-Some : goal.returns-in_ok-push-in-Some
returns-in_ok-push-in-Some c =
    let db = database_in c.args.db.now in
    c.in_ok-push-in-Some.ensures.items
    ∙ ap (λ more. c.args.sets.now.items ++ more) (set-there c.args.x c.args.y c.in-Some.net
    (is_function_on db (configuration_of c.args.image.now) Logic c.args.x c.args.y (codes "CarryInSet"))
    (net_named db c.args.x c.args.y (codes "carry_in_mux")) (sym c.is_on.ensures ∙ c.if-not-is_on.false) c.in-Some.ensures)
