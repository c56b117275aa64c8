use Rattle.std.proofs.Common.{◌≡◌, [], ◌-◌, length, flat_map, ap, ◌∙◌, arith}
use Rattle.vlog_tokens.specs.Tokens.{spots_at}
use Rattle.vlog_forms.specs.declared.slot.Slot.TheVariants as slot
use Rattle.vlog_forms.specs.Layout.{parts_of}
use Rattle.vlog_forms.specs.Reading.{read_slots}
use Rattle.vlog_form_parser.specs.Found.{all_found}
use Rattle.std.proofs.Common.{take, drop, get_or}
use Rattle.std.proofs.lemmas.List.{nil_from_length}
use Rattle.vlog_forms.specs.Reading.{and_then}
use Rattle.vlog_form_parser.proofs.Steps.{slots-append, slots-none, stops-then, stops-along, reads-along, cut}
use Rattle.vlog_form_parser.proofs.slots.+read_slots.Goals as goal

pub returns-in-empty-clause-reads : goal.returns-in-empty-clause-reads
returns-in-empty-clause-reads t c =
    let none : c.args.slots.now ≡ [] = nil_from_length c.args.slots.now (omega (arith, c.in-empty.len_below)) in
    ap (λ slots. read_slots (length c.args.bytes.now) (flat_map parts_of slots) (all_found c.args.values.now.items) (spots_at c.args.bytes.now c.args.from)) none
    ∙ slots-none (length c.args.bytes.now) (all_found c.args.values.now.items) (spots_at c.args.bytes.now c.args.from)

pub returns-in-Ok-clause-reads : goal.returns-in-Ok-clause-reads
returns-in-Ok-clause-reads t c =
    let end = length c.args.bytes.now in
    let slots = c.args.slots.now in
    let found = all_found c.args.values.now.items in
    let spots = spots_at c.args.bytes.now c.args.from in
    let more = flat_map parts_of (take (length slots - 1) (drop 1 slots)) in
    reads-along _ _ c.args.bytes.now (all_found c.read_slots.new.values.items) c.read_slots.result
    (ap (λ list. read_slots end (flat_map parts_of list) found spots) (cut slots slot.Space c.in-len1-up.len_at_least)
    ∙ slots-append end (parts_of (get_or slots 0 slot.Space)) more found spots
    ∙ ap (λ reading. and_then reading (read_slots end more)) c.in-Ok.ensures.reads)
    c.read_slots.ensures.reads

pub returns-in-Err-clause-reads : goal.returns-in-Err-clause-reads
returns-in-Err-clause-reads t c =
    let end = length c.args.bytes.now in
    let slots = c.args.slots.now in
    let found = all_found c.args.values.now.items in
    let spots = spots_at c.args.bytes.now c.args.from in
    let more = flat_map parts_of (take (length slots - 1) (drop 1 slots)) in
    stops-along _ _ c.in-Err.stop
    (ap (λ list. read_slots end (flat_map parts_of list) found spots) (cut slots slot.Space c.in-len1-up.len_at_least)
    ∙ slots-append end (parts_of (get_or slots 0 slot.Space)) more found spots)
    (stops-then (read_slots end (parts_of (get_or slots 0 slot.Space)) found spots) (read_slots end more) c.in-Err.stop c.in-Err.ensures.reads)
