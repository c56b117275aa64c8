use Rattle.std.proofs.Common.{take_all, arith, ap, ◌∙◌}
use Rattle.std.specs.List.{flat_map}
use Rattle.ice_image.specs.Either.{configuration_of}
use Rattle.chipdb_reader.specs.Kept.{database_in}
use Rattle.fabric_plls.specs.Plls.{kept_sources}
use Rattle.fabric_plls.proofs.Firsts.{all-sources}
use Rattle.fabric_plls.proofs.sources.sources.Goals as goal

pub returns : goal.returns
returns c =
    let db = database_in c.args.db.now in
    let image = configuration_of c.args.image.now in
    c.loop-pll.invariant ∙ ap (flat_map (kept_sources db image)) (take_all c.loop-pll.pll-index c.plls-pll-items.result.now (omega arith))
    ∙ all-sources db image c.plls-pll-items.result.now c.plls-pll-items.ensures
