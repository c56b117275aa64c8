use Rattle.wire_names.proofs.Free.{free-names-read}
use Rattle.wire_names.proofs.law.free_names_have_no_fault.Goals as goal

pub returns : goal.returns
returns c m wanted whole = free-names-read m wanted whole
