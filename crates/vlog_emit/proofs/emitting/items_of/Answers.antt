use Rattle.vlog_emit.proofs.Kept.{items-whole}
use Rattle.vlog_emit.proofs.emitting.items_of.Goals as goal

pub returns : goal.returns
returns c fabric kept =
    items-whole fabric c.args.design.now kept c.rams.result.now c.new-items.result.items c.append_state.new.items.items c.append_values.new.items.items
    c.append_changes.new.items.items c.append_starts.new.items.items c.rams.ensures.rams c.new-items.ensures.items
    c.in_ok-append_state.ensures (c.in_ok-append_values.ensures fabric kept) (c.in_ok-append_changes.ensures fabric kept) (c.in_ok-append_starts.ensures fabric kept)
