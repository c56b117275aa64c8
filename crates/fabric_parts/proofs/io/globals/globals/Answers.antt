use Rattle.std.proofs.Common.{◌≡◌, arith, ap, ◌∙◌}
use Rattle.index_search.specs.Places.{gathered_below}
use Rattle.ice_image.specs.Either.{configuration_of}
use Rattle.chipdb_reader.specs.Kept.{database_in}
use Rattle.fabric_model.specs.Pins.{nets_from, global_source}
use Rattle.fabric_model.proofs.InOrder.{grown_alone-more}
use Rattle.fabric_parts.proofs.io.globals.globals.Goals as goal

pub loop-g-init : goal.loop-g-init
unfolding gathered_below
loop-g-init c = c.new-globals.ensures.items

pub loop-g-preserved : goal.loop-g-preserved
loop-g-preserved c = grown_alone-more _ _ _ _ c.loop-g.invariant c.in_ok-append_global.ensures

pub returns : goal.returns
returns c =
    let db = database_in c.args.db.now in
    let all : c.loop-g.g ≡ 8 = omega arith in
    c.loop-g.invariant ∙ ap (λ n. gathered_below n (λ g. nets_from db g (global_source c.args.sources.now db (configuration_of c.args.image.now) g))) all
