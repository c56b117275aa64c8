use Rattle.std.proofs.Common.{◌≡◌, ◌∙◌, None, subst}
use Rattle.std.specs.Prelude.{IfErr, OnOk}
use Rattle.pin_file.specs.Faults.{cause_of, name_by, place_by}
use Rattle.pin_file.specs.Feeding.{kept_in}
use Rattle.pin_file.specs.Lines.{Line, line_of}
use Rattle.pin_file.specs.inside.Reading.{Grows, RefusesFor, said_by}
use Rattle.pin_file.proofs.LineSteps.{line-said}
use Rattle.pin_file.proofs.ports.Ports.accept.Goals as goal

pub returns-clause-taken : goal.returns-clause-taken
returns-clause-taken c =
    let said : said_by c.line_kind.result ≡ line_of c.args.line.now = line-said c.args.line.now c.deref.result.now (said_by c.line_kind.result) (c.deref.ensures.value ∙ c.in_ok-plain.ensures) c.line_kind.ensures in
    subst (λ (line : Line). OnOk c.accept_kind.result (Grows c.args.self.now c.accept_kind.new.self (place_by (kept_in c.args.chosen.now) line) (λ pins earlier named. name_by (kept_in c.args.chosen.now) pins earlier named line)))
    said c.accept_kind.ensures.taken

pub returns-clause-fits : goal.returns-clause-fits
returns-clause-fits c =
    let said : said_by c.line_kind.result ≡ line_of c.args.line.now = line-said c.args.line.now c.deref.result.now (said_by c.line_kind.result) (c.deref.ensures.value ∙ c.in_ok-plain.ensures) c.line_kind.ensures in
    subst (λ (line : Line). OnOk c.accept_kind.result (cause_of (kept_in c.args.chosen.now) line ≡ None)) said c.accept_kind.ensures.fits

pub returns-clause-refused : goal.returns-clause-refused
returns-clause-refused c =
    let said : said_by c.line_kind.result ≡ line_of c.args.line.now = line-said c.args.line.now c.deref.result.now (said_by c.line_kind.result) (c.deref.ensures.value ∙ c.in_ok-plain.ensures) c.line_kind.ensures in
    subst (λ (line : Line). IfErr c.accept_kind.result (RefusesFor (cause_of (kept_in c.args.chosen.now) line))) said c.accept_kind.ensures.refused
