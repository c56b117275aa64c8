use Rattle.vlog_forms.proofs.Spelled.{one-module}
use Rattle.vlog_forms.proofs.Whole.{outcome-spells}
use Rattle.vlog_parser.specs.Seen.{seen_fault}
use Rattle.vlog_parser.proofs.Decided.{decided}
use Rattle.vlog_parser.proofs.Outcomes.{taken, told, not-taken}
use Rattle.vlog_parser.proofs.modules.parse.Goals as goal

pub returns-in-Ok-clause-spells : goal.returns-in-Ok-clause-spells
returns-in-Ok-clause-spells c = outcome-spells c.args.bytes.now c.in-Ok.parsed c.in-Ok.ensures

pub returns-in-Ok-clause-takes : goal.returns-in-Ok-clause-takes
returns-in-Ok-clause-takes c m spells = taken c.args.bytes.now m c.in-Ok.parsed c.in-Ok.ensures spells

pub returns-in-Ok-clause-alone : goal.returns-in-Ok-clause-alone
returns-in-Ok-clause-alone c = one-module c.args.bytes.now

pub returns-in-Err-Fault-clause-takes : goal.returns-in-Err-Fault-clause-takes
returns-in-Err-Fault-clause-takes c m spells = let refused = rw c.in-Err-Fault.field-0-is at c.in-Err-Fault.ensures in not-taken c.args.bytes.now m (seen_fault c.in-Err-Fault.fault) refused spells

pub returns-in-Err-Fault-clause-tells : goal.returns-in-Err-Fault-clause-tells
returns-in-Err-Fault-clause-tells c = let refused = rw c.in-Err-Fault.field-0-is at c.in-Err-Fault.ensures in told c.args.bytes.now (seen_fault c.in-Err-Fault.fault) refused

pub returns-in-Err-Fault-clause-alone : goal.returns-in-Err-Fault-clause-alone
returns-in-Err-Fault-clause-alone c = one-module c.args.bytes.now

pub returns-in-Err-Memory-clause-alone : goal.returns-in-Err-Memory-clause-alone
returns-in-Err-Memory-clause-alone c = one-module c.args.bytes.now

pub returns-in-Ok-clause-decided : goal.returns-in-Ok-clause-decided
returns-in-Ok-clause-decided c = decided c.args.bytes.now

pub returns-in-Err-Fault-clause-decided : goal.returns-in-Err-Fault-clause-decided
returns-in-Err-Fault-clause-decided c = decided c.args.bytes.now

pub returns-in-Err-Memory-clause-decided : goal.returns-in-Err-Memory-clause-decided
returns-in-Err-Memory-clause-decided c = decided c.args.bytes.now
