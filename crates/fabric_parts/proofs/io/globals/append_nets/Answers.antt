use Rattle.std.proofs.Common.{◌≡◌, ◌++◌, map, arith, ap, ◌∙◌}
use Rattle.index_search.specs.Places.{gathered_below}
use Rattle.chipdb_reader.specs.Kept.{database_in}
use Rattle.fabric_model.specs.Tiles.{item_if}
use Rattle.fabric_model.specs.Pins.{global_nets, is_global_net}
use Rattle.fabric_parts.specs.Globals.{global_net}
use Rattle.fabric_parts.proofs.Sources.{made-none, made-more}
use Rattle.fabric_parts.proofs.io.globals.append_nets.Goals as goal

pub loop-net-init : goal.loop-net-init
loop-net-init c = made-none _ _ _

pub loop-net-preserved : goal.loop-net-preserved
loop-net-preserved c = made-more _ _ _ _ _ _ c.loop-net.invariant c.in_ok-append_net.ensures

pub returns : goal.returns
unfolding global_nets
returns c =
    let all : c.loop-net.net ≡ c.args.db.now.chip.nets = omega (arith, c.net_count-net-end.ensures) in
    c.loop-net.invariant
    ∙ ap (λ n. c.args.globals.now.items ++ map (global_net c.args.g c.args.from) (gathered_below n (λ net. item_if (is_global_net (database_in c.args.db.now) c.args.g net) net))) all
