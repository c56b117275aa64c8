use Rattle.std.proofs.Common.{◌≡◌, map, sym, ap, ◌∙◌, subst}
use Rattle.std.specs.Prelude.{IfOk}
use Rattle.fabric_model.specs.Drivers.{nets_read}
use Rattle.graph_order.specs.Wiring.{has}
use Rattle.fabric_model.specs.Links.{class_in}
use Rattle.fabric_wiring.specs.Drives.{rule_of}
use Rattle.fabric_wiring.proofs.ReadRows.{read-input, read-majority}
use Rattle.fabric_wiring.proofs.reading.row_by.Goals as goal

pub classes_of_signals-requires : goal.classes_of_signals-requires
classes_of_signals-requires c = λ net found.
    c.requires net (ap (λ rule. has (nets_read (rule_of rule)) net) c.in-Input.is ∙ (ap (λ l. has l net) (sym (read-input c.in-Input.source)) ∙ found))

pub classes_of-requires : goal.classes_of-requires
classes_of-requires c = λ net found.
    c.requires net (ap (λ rule. has (nets_read (rule_of rule)) net) c.in-MajorityOf.is ∙ (ap (λ l. has l net) (sym (read-majority c.in-MajorityOf.a c.in-MajorityOf.b c.in-MajorityOf.c)) ∙ found))

pub returns-in-Input : goal.returns-in-Input
returns-in-Input c =
    subst (λ l. IfOk c.classes_of_signals.result (λ row. row.items ≡ map (class_in c.args.links.now) l))
    (read-input c.in-Input.source ∙ ap (λ rule. nets_read (rule_of rule)) (sym c.in-Input.is)) c.classes_of_signals.ensures

pub returns-in-MajorityOf : goal.returns-in-MajorityOf
returns-in-MajorityOf c =
    subst (λ l. IfOk c.classes_of.result (λ row. row.items ≡ map (class_in c.args.links.now) l))
    (read-majority c.in-MajorityOf.a c.in-MajorityOf.b c.in-MajorityOf.c ∙ ap (λ rule. nets_read (rule_of rule)) (sym c.in-MajorityOf.is)) c.classes_of.ensures
