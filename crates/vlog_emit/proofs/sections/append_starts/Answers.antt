use Rattle.std.proofs.Common.{arith}
use Rattle.fabric_module.specs.Written.{start_items}
use Rattle.fabric_model.proofs.Numbered.{numbered-none, numbered-more}
use Rattle.vlog_emit.proofs.sections.append_starts.Goals as goal

pub loop-place-init : goal.loop-place-init
loop-place-init c fabric kept = numbered-none (start_items fabric) c.args.rams.now c.args.items.now.items

pub loop-place-preserved : goal.loop-place-preserved
loop-place-preserved c fabric kept =
    let here = c.in_ok-append_start_words.ensures fabric kept in
    numbered-more (start_items fabric) c.args.rams.now c.loop-place.place _ c.args.items.now.items c.loop-place.items.items c.append_start_words.new.items.items (omega arith)
    (c.loop-place.invariant fabric kept) here
