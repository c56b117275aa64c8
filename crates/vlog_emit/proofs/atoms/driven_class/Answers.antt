use Rattle.vlog_emit.proofs.Kept.{driven-some, driven-none}
use Rattle.vlog_emit.proofs.atoms.driven_class.Goals as goal

pub returns-in-None : goal.returns-in-None
returns-in-None c fabric kept =
    driven-none fabric c.args.design.now kept c.args.net c.requires c.class_of-class.result c.class_of-class.ensures c.drive.result c.drive.ensures c.in-None.is

pub returns-in-Some : goal.returns-in-Some
returns-in-Some c fabric kept =
    driven-some fabric c.args.design.now kept c.args.net c.requires c.class_of-class.result c.class_of-class.ensures c.drive.result c.in-Some.field-0 c.drive.ensures c.in-Some.is
