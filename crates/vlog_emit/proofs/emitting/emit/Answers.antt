use Rattle.std.proofs.Common.{◌∙◌, ◌++◌, map, ap₂}
use Rattle.std.specs.Prelude.{flat_map}
use Rattle.vlog_emit.specs.Each.{pll_port}
use Rattle.fabric_module.specs.Written.{pin_ports}
use Rattle.vlog_emit.proofs.Made.{made-is, made-well_formed, made-runs}
use Rattle.vlog_emit.proofs.emitting.emit.Goals as goal

pub of-requires : goal.of-requires
of-requires c =
    made-well_formed c.module_is_fabric.ensures c.args.design.now c.args.name.now c.requires
    (record { name = c.in_ok-name.name; ports = c.in_ok-ports.ports.items; items = c.in_ok-items.items.items }) c.in_ok-name.ensures
    (c.in_ok-ports.ensures ∙ ap₂ (λ pins plls. flat_map pin_ports pins ++ map pll_port plls) c.pins.ensures.pins c.plls.ensures) c.in_ok-items.ensures c.pins.ensures.design

pub returns-clause-made : goal.returns-clause-made
returns-clause-made c =
    made-is c.module_is_fabric.ensures c.args.design.now c.args.name.now c.requires c.of.result (c.of.ensures.name ∙ c.in_ok-name.ensures)
    (c.of.ensures.ports ∙ (c.in_ok-ports.ensures ∙ ap₂ (λ pins plls. flat_map pin_ports pins ++ map pll_port plls) c.pins.ensures.pins c.plls.ensures)) (λ fabric kept. c.of.ensures.items ∙ c.in_ok-items.ensures fabric kept)

pub returns-clause-runs : goal.returns-clause-runs
returns-clause-runs c =
    made-runs c.module_is_fabric.ensures c.args.design.now c.args.name.now c.requires c.of.result (c.of.ensures.name ∙ c.in_ok-name.ensures)
    (c.of.ensures.ports ∙ (c.in_ok-ports.ensures ∙ ap₂ (λ pins plls. flat_map pin_ports pins ++ map pll_port plls) c.pins.ensures.pins c.plls.ensures)) (λ fabric kept. c.of.ensures.items ∙ c.in_ok-items.ensures fabric kept)
