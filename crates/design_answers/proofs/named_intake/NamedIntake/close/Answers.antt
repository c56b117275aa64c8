use Rattle.std.proofs.Common.{inl, inr, subst}
use Rattle.design_answers.specs.Taken.{HasNamedTexts}
use Rattle.design_answers.proofs.NamedIntakes.{closed-database, closed-other, closed-pins}
use Rattle.design_answers.proofs.named_intake.NamedIntake.close.Goals as goal

pub returns-in-PinFile-clause-closed : goal.returns-in-PinFile-clause-closed
returns-in-PinFile-clause-closed c package_name layout texts bytes taken =
    let old = c.args.self.now in
    let was = subst (λ at. HasNamedTexts package_name layout texts bytes old.file old.input old.pins at) c.in-PinFile.is taken in
    closed-pins package_name layout texts bytes old.file old.input old.pins was

pub returns-in-Database-clause-closed : goal.returns-in-Database-clause-closed
returns-in-Database-clause-closed c package_name layout texts bytes taken =
    let old = c.args.self.now in
    elim c.in-Database.is [
      | inl is ↦
          let was = subst (λ at. HasNamedTexts package_name layout texts bytes old.file old.input old.pins at) is taken in
          closed-database package_name layout texts bytes old.file old.input old.pins c.close.new.self (c.close.ensures.closed layout) was
      | inr is ↦
          let was = subst (λ at. HasNamedTexts package_name layout texts bytes old.file old.input old.pins at) is taken in
          closed-other package_name layout texts bytes old.file old.input old.pins c.close.new.self (c.close.ensures.closed layout) was
    ]
