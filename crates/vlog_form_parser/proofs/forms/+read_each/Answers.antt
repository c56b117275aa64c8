use Rattle.std.proofs.Common.{◌≡◌, [], ◌-◌, length, ap, ◌∙◌, subst, arith}
use Rattle.std.specs.Prelude.{Err}
use Rattle.vlog_tokens.specs.Tokens.{spots_at}
use Rattle.vlog_forms.specs.Reading.{read_slots}
use Rattle.vlog_form_parser.specs.Found.{all_found}
use Rattle.vlog_form_parser.specs.Readings.{StopsAt}
use Rattle.std.proofs.Common.{take, drop, get_or}
use Rattle.std.proofs.lemmas.List.{nil_from_length}
use Rattle.vlog_forms.specs.Reading.{read_forms, first_whole, or_further}
use Rattle.vlog_forms.specs.declared.form.Form.TheVariants as form
use Rattle.vlog_forms.specs.Layout.{slots_of}
use Rattle.vlog_form_parser.specs.Readings.{further}
use Rattle.vlog_form_parser.proofs.Steps.{cut, further-reads, form-along, form-result}
use Rattle.vlog_form_parser.proofs.forms.+read_each.Goals as goal

pub returns-in-empty-clause-reads : goal.returns-in-empty-clause-reads
unfolding read_forms
returns-in-empty-clause-reads t c =
    let none : c.args.forms.now ≡ [] = nil_from_length c.args.forms.now (omega (arith, c.in-empty.len_below)) in
    ap (λ forms. read_forms (length c.args.bytes.now) (all_found c.args.given.now) forms (spots_at c.args.bytes.now c.args.from)) none

pub returns-in-Ok-clause-reads : goal.returns-in-Ok-clause-reads
unfolding read_forms
returns-in-Ok-clause-reads t c =
    let end = length c.args.bytes.now in
    let given = all_found c.args.given.now in
    let forms = c.args.forms.now in
    let spots = spots_at c.args.bytes.now c.args.from in
    let others = read_forms end given (take (length forms - 1) (drop 1 forms)) spots in
    ap (λ list. read_forms end given list spots) (cut forms form.Input c.in-len1-up.len_at_least)
    ∙ ap (λ reading. first_whole (get_or forms 0 form.Input) reading others) c.in-Ok.ensures.reads

pub returns-in-Err-Stuck-clause-reads : goal.returns-in-Err-Stuck-clause-reads
unfolding read_forms
returns-in-Err-Stuck-clause-reads t c =
    let end = length c.args.bytes.now in
    let given = all_found c.args.given.now in
    let forms = c.args.forms.now in
    let spots = spots_at c.args.bytes.now c.args.from in
    let found = all_found c.read_each.new.values.items in
    let one = get_or forms 0 form.Input in
    let stuck = c.in-Err-Stuck.stuck in
    let others = read_forms end given (take (length forms - 1) (drop 1 forms)) spots in
    let result : c.further.result ≡ further stuck c.read_each.result = c.further.ensures ∙ ap (λ at. further at c.read_each.result) c.in-Err-Stuck.stuck-is in
    let stops : read_slots end (slots_of one) given spots ≡ Err stuck = subst (StopsAt (read_slots end (slots_of one) given spots)) c.in-Err-Stuck.field-0-is c.in-Err-Stuck.ensures.reads in
    form-result (read_forms end given forms spots) c.args.bytes.now found c.further.result (further stuck c.read_each.result) result
    (form-along (read_forms end given forms spots) (or_further stuck others) c.args.bytes.now found (further stuck c.read_each.result)
    (ap (λ list. read_forms end given list spots) (cut forms form.Input c.in-len1-up.len_at_least) ∙ ap (λ reading. first_whole one reading others) stops)
    (further-reads stuck others c.args.bytes.now found c.read_each.result c.read_each.ensures.reads))
