use Rattle.std.proofs.Common.{ℕ, List, ◌++◌, subst}
use Rattle.std.specs.Prelude.{IfErr, OnOk}
use Rattle.vlog_module.specs.Parts.{Parts}
use Rattle.wire_names.specs.Faults.{Tells, cause_of, fault_with, named_by}
use Rattle.wire_names.specs.Lines.{Line}
use Rattle.wire_names.specs.Naming.{Names}
use Rattle.wire_names.proofs.reading.take_line.Goals as goal

pub returns-in-Named-clause-taken : goal.returns-in-Named-clause-taken
returns-in-Named-clause-taken c =
    subst (λ (line : Line). OnOk c.take_name.result ((m : Parts) (earlier : List (List ℕ × List ℕ)) → Names m earlier c.args.naming.now → Names m (earlier ++ named_by line) c.take_name.new.naming))
    c.in-Named.ensures c.take_name.ensures.taken

pub returns-in-Named-clause-refused : goal.returns-in-Named-clause-refused
returns-in-Named-clause-refused c =
    subst (λ (line : Line). IfErr c.take_name.result (λ fault. (m : Parts) (earlier : List (List ℕ × List ℕ)) → Names m earlier c.args.naming.now → Tells (fault_with c.args.number (cause_of m earlier line)) fault))
    c.in-Named.ensures c.take_name.ensures.refused
