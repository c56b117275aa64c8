use Rattle.std.proofs.Common.{◌≡◌, ◌∙◌, None, subst}
use Rattle.std.specs.Prelude.{IfErr, OnOk}
use Rattle.index_search.specs.Places.{or_else}
use Rattle.pin_file.specs.declared.place.PinPlace.{PinPlace}
use Rattle.pin_file.specs.Faults.{cause_of}
use Rattle.pin_file.specs.Feeding.{kept_in}
use Rattle.pin_file.specs.GivenNames.{name_in_line, name_kept}
use Rattle.pin_file.specs.Lines.{Line, line_of}
use Rattle.pin_file.specs.inside.Reading.{RefusesFor, said_by}
use Rattle.pin_file.proofs.LineSteps.{line-said}
use Rattle.pin_file.proofs.given.GivenNames.accept.Goals as goal

pub returns-clause-taken : goal.returns-clause-taken
returns-clause-taken c =
    let said : said_by c.line_kind.result ≡ line_of c.args.line.now = line-said c.args.line.now c.deref.result.now (said_by c.line_kind.result) (c.deref.ensures.value ∙ c.in_ok-plain.ensures) c.line_kind.ensures in
    subst (λ (line : Line). OnOk c.accept_kind.result ((place : PinPlace) → name_kept c.accept_kind.new.self place ≡ or_else (name_kept c.args.self.now place) (name_in_line (kept_in c.args.chosen.now) place line)))
    said c.accept_kind.ensures.taken

pub returns-clause-fits : goal.returns-clause-fits
returns-clause-fits c =
    let said : said_by c.line_kind.result ≡ line_of c.args.line.now = line-said c.args.line.now c.deref.result.now (said_by c.line_kind.result) (c.deref.ensures.value ∙ c.in_ok-plain.ensures) c.line_kind.ensures in
    subst (λ (line : Line). OnOk c.accept_kind.result (cause_of (kept_in c.args.chosen.now) line ≡ None)) said c.accept_kind.ensures.fits

pub returns-clause-refused : goal.returns-clause-refused
returns-clause-refused c =
    let said : said_by c.line_kind.result ≡ line_of c.args.line.now = line-said c.args.line.now c.deref.result.now (said_by c.line_kind.result) (c.deref.ensures.value ∙ c.in_ok-plain.ensures) c.line_kind.ensures in
    subst (λ (line : Line). IfErr c.accept_kind.result (RefusesFor (cause_of (kept_in c.args.chosen.now) line))) said c.accept_kind.ensures.refused
