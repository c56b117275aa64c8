use Rattle.std.proofs.Common.{refl, sym, subst}
use Rattle.std.proofs.lemmas.Result.{on_ok_weaker}
use Rattle.vlog_module.specs.Uses.Use.{Assigns, AssignsAsync}
use Rattle.vlog_parser.specs.Scopes.{Known, Holds}
use Rattle.vlog_parser.proofs.Entering.{holds-declared, holds-assigned, holds-started}
use Rattle.vlog_parser.proofs.names.Names.enter_use.Goals as goal

pub returns-in-Declares : goal.returns-in-Declares
returns-in-Declares c =
    let known : Known = record { declared = c.self.inside.declared; read = c.self.inside.read; assigned = c.self.inside.assigned; started = c.self.inside.started } in
    rw c.in-Declares.is
    (on_ok_weaker c.push.result (λ is scope holds. holds-declared known scope c.args.wire c.in-Declares.sort c.in-Declares.name.now c.push.new.self is (subst (λ (k : Known). Holds k scope) (sym c.self.view_is) holds)) c.push.ensures)

pub returns-in-Assigns : goal.returns-in-Assigns
returns-in-Assigns c =
    let known : Known = record { declared = c.self.inside.declared; read = c.self.inside.read; assigned = c.self.inside.assigned; started = c.self.inside.started } in
    rw c.in-Assigns.is
    (on_ok_weaker c.push-in-Assigns.result (λ is scope holds. holds-assigned known scope c.args.wire (Assigns c.in-Assigns.field-0 c.in-Assigns.name.now) c.in-Assigns.name.now c.push-in-Assigns.new.self refl refl refl refl is (subst (λ (k : Known). Holds k scope) (sym c.self.view_is) holds)) c.push-in-Assigns.ensures)

pub returns-in-AssignsAsync : goal.returns-in-AssignsAsync
returns-in-AssignsAsync c =
    let known : Known = record { declared = c.self.inside.declared; read = c.self.inside.read; assigned = c.self.inside.assigned; started = c.self.inside.started } in
    rw c.in-AssignsAsync.is
    (on_ok_weaker c.push-in-AssignsAsync.result (λ is scope holds. holds-assigned known scope c.args.wire (AssignsAsync c.in-AssignsAsync.field-0.wire.now c.in-AssignsAsync.field-0.set c.in-AssignsAsync.name.now) c.in-AssignsAsync.name.now c.push-in-AssignsAsync.new.self refl refl refl refl is (subst (λ (k : Known). Holds k scope) (sym c.self.view_is) holds)) c.push-in-AssignsAsync.ensures)

pub returns-in-Starts : goal.returns-in-Starts
returns-in-Starts c =
    let known : Known = record { declared = c.self.inside.declared; read = c.self.inside.read; assigned = c.self.inside.assigned; started = c.self.inside.started } in
    rw c.in-Starts.is
    (on_ok_weaker c.push-in-Starts.result (λ is scope holds. holds-started known scope c.args.wire c.in-Starts.name.now c.in-Starts.k c.push-in-Starts.new.self is (subst (λ (k : Known). Holds k scope) (sym c.self.view_is) holds)) c.push-in-Starts.ensures)
