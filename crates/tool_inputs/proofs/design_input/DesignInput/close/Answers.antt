use Rattle.std.proofs.Common.{subst}
use Rattle.tool_inputs.specs.DesignInput.{HasTexts}
use Rattle.tool_inputs.proofs.DesignInputs.{closed-database, closed-image, closed-other, closed-second}
use Rattle.tool_inputs.proofs.design_input.DesignInput.close.Goals as goal

pub returns-in-Database-clause-closed : goal.returns-in-Database-clause-closed
returns-in-Database-clause-closed c = λ layout texts bytes takes.
    let was = subst (λ following. HasTexts texts bytes c.args.self.now.db c.args.self.now.image c.args.self.now.second following) c.in-Database.is takes.1 in
    (takes.0, closed-database texts bytes _ _ _ was)

pub returns-in-Image-clause-closed : goal.returns-in-Image-clause-closed
returns-in-Image-clause-closed c = λ layout texts bytes takes.
    let was = subst (λ following. HasTexts texts bytes c.args.self.now.db c.args.self.now.image c.args.self.now.second following) c.in-Image.is takes.1 in
    (takes.0, closed-image texts bytes _ _ _ was)

pub returns-in-Second-clause-closed : goal.returns-in-Second-clause-closed
returns-in-Second-clause-closed c = λ layout texts bytes takes.
    let was = subst (λ following. HasTexts texts bytes c.args.self.now.db c.args.self.now.image c.args.self.now.second following) c.in-Second.is takes.1 in
    (takes.0, closed-second texts bytes _ _ _ was)

pub returns-in-Other-clause-closed : goal.returns-in-Other-clause-closed
returns-in-Other-clause-closed c = λ layout texts bytes takes.
    let was = subst (λ following. HasTexts texts bytes c.args.self.now.db c.args.self.now.image c.args.self.now.second following) c.in-Other.is takes.1 in
    (takes.0, rw c.in-Other.is (closed-other texts bytes _ _ _ was))
