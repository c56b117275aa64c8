use Rattle.std.proofs.Common.{◌∙◌, ap, length, subst, sym}
use Rattle.std.specs.Prelude.{None}
use Rattle.ice_image.specs.Configuration.{Configuration}
use Rattle.text_lines.specs.Lines.{lines_of}
use Rattle.chipdb_reader.specs.Kept.{database_in}
use Rattle.image_explain.specs.Explained.{explained}
use Rattle.ice_gen.specs.Events.{generated_events}
use Rattle.fabric_model.specs.declared.options.FabricOptions.{FabricOptions}
use Rattle.fabric_model.specs.Fabric.{fabric_with}
use Rattle.fabric_model.specs.Wiring.{clocked_wiring}
use Rattle.design_answers.specs.Order.{write_order}
use Rattle.design_answers.proofs.Order.{order-is}
use Rattle.selfrun_tool.specs.Counted.{counts_of}
use Rattle.selfrun_tool.specs.Inside.{HasRun}
use Rattle.selfrun_tool.specs.Selfrun.{image_for}
use Rattle.selfrun_tool.proofs.Devices.{taken-device}
use Rattle.selfrun_tool.proofs.SameCounts.{same-counts}
use Rattle.selfrun_tool.proofs.running.counted.Goals as goal

pub explained_lines-requires : goal.explained_lines-requires
explained_lines-requires c =
    taken-device c.args.design.now.parts.options (database_in c.args.db.now) (image_for c.args.request) c.requires.design.taken
    ∙ ap (λ (image : Configuration). image.layout.device) (sym c.requires.image)

pub returns : goal.returns
unfolding counts_of fabric_with
returns c entries run =
    let db = database_in c.args.db.now in
    let image = image_for c.args.request in
    let design = c.args.design.now in
    let kept = c.requires.design.kept in
    let made = generated_events c.args.request.seed c.args.request.events in
    let ran = subst (λ (options : FabricOptions). HasRun options db image made c.in_ok-ran.ran) c.requires.options (c.in_ok-ran.ensures db image c.requires.design) in
    same-counts _ _ c.requires.bytes c.net_count.ensures (ap length (c.lcs.ensures.lcs ∙ kept.parts.lcs)) (ap length (c.rams.ensures.rams ∙ kept.parts.rams))
    (ap length (c.order.ensures.order ∙ order-is (clocked_wiring (fabric_with design.parts.options db image)) design.order kept.order)
    ∙ ap (λ (options : FabricOptions). length (write_order (clocked_wiring (fabric_with options db image)))) c.requires.options)
    ran.events
    (c.in_ok-explained.ensures ∙ ap (λ (one : Configuration). length (lines_of (explained db one None))) c.requires.image) (ran.ones entries run)
