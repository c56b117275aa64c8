use Rattle.std.proofs.Common.{sym, ◌∙◌}
use Rattle.std.proofs.lemmas.Result.{IfOk-weaker}
use Rattle.vlog_emit.proofs.Kept.{right-some, right-none}
use Rattle.vlog_emit.proofs.Within.{driver-within}
use Rattle.vlog_emit.proofs.rights.class_right.Goals as goal

pub right_of-requires : goal.right_of-requires
right_of-requires c =
    driver-within c.args.design.now c.requires.design c.args.class c.requires.within c.in-Some.drive (sym c.drive.ensures ∙ c.in-Some.is)

pub returns-in-None : goal.returns-in-None
returns-in-None c fabric kept = sym (right-none fabric c.args.design.now kept c.args.class c.requires.within (sym c.drive.ensures ∙ c.in-None.is))

pub returns-in-Some : goal.returns-in-Some
returns-in-Some c =
    IfOk-weaker c.right_of.result _ _ (λ right is fabric kept.
    is fabric kept ∙ sym (right-some fabric c.args.design.now kept c.args.class c.requires.within c.in-Some.drive (sym c.drive.ensures ∙ c.in-Some.is))) c.right_of.ensures
