use Rattle.wire_names.proofs.Declaring.{declares-nothing}
use Rattle.wire_names.proofs.naming.Naming.declare_item.Goals as goal

pub returns-in_default : goal.returns-in_default
returns-in_default c =
    declares-nothing c.args.item.now c.args.self.now c.in_default.not-Register c.in_default.not-Word c.in_default.not-Memory c.in_default.not-Wire
