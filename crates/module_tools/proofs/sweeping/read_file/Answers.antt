use Rattle.vlog_sweep.specs.declared.list.EventList.{EventList}
use Rattle.module_tools.proofs.LastLines.{last_read}
use Rattle.module_tools.proofs.sweeping.read_file.Goals as goal

pub returns-in_ok-heading_of-in-Ok-clause-last : goal.returns-in_ok-heading_of-in-Ok-clause-last
returns-in_ok-heading_of-in-Ok-clause-last c =
    let list : EventList = record { heading = c.in_ok-heading_of-in-Ok.field-0; events = c.in-Ok.events } in
    last_read c.args.«module».now list c.args.name.now c.args.bytes.now c.in_ok-heading_of-in-Ok.ensures c.in-Ok.ensures.read
