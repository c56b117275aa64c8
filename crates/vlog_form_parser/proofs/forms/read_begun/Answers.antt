use Rattle.std.proofs.Common.{◌≡◌, ◌∷◌, true, false, length, flat_map, drop, ap, sym, ◌∙◌}
use Rattle.vlog_tokens.specs.Tokens.{TokenValue as token}
use Rattle.vlog_tokens.specs.Tokens.{seen, spot, spots_at}
use Rattle.vlog_forms.specs.declared.slot.Slot.TheVariants as slot
use Rattle.vlog_forms.specs.Layout.{parts_of}
use Rattle.vlog_forms.specs.Reading.{read_slots}
use Rattle.vlog_forms.specs.Values.{is_same_token}
use Rattle.vlog_form_parser.specs.Found.{all_found}
use Rattle.vlog_form_parser.proofs.Steps.{first-stuck, first-then, reads-along, rest-whole}
use Rattle.vlog_form_parser.proofs.forms.read_begun.Goals as goal

pub returns-then-is_fixed-clause-reads : goal.returns-then-is_fixed-clause-reads
returns-then-is_fixed-clause-reads c =
    let end = length c.args.bytes.now in
    let given = all_found c.args.given.now in
    let slots = c.args.slots.now in
    let first = c.args.first in
    let fixed = c.in-Some.fixed in
    let more = flat_map parts_of (drop 1 slots) in
    let following = spots_at c.args.bytes.now first.end in
    let begins : slots ≡ slot.Fixed fixed ∷ drop 1 slots = c.in-Some.ensures in
    let same : is_same_token (token.fixed fixed) (seen first.token) ≡ true = sym c.is_fixed.ensures ∙ c.if-is_fixed.true in
    reads-along _ _ c.args.bytes.now (all_found c.read_after-then-is_fixed.new.values.items) c.read_after-then-is_fixed.result
    (ap (λ list. read_slots end (flat_map parts_of list) given (spots_at c.args.bytes.now c.args.from)) begins
    ∙ ap (λ spots. read_slots end (slot.Fixed fixed ∷ more) given spots) c.requires.first
    ∙ first-then end fixed more given (spot first.at (seen first.token)) following same
    ∙ ap (λ list. read_slots end (flat_map parts_of list) given following) (sym (rest-whole slots)))
    c.read_after-then-is_fixed.ensures.reads

pub returns-else-is_fixed-clause-reads : goal.returns-else-is_fixed-clause-reads
returns-else-is_fixed-clause-reads c =
    let end = length c.args.bytes.now in
    let given = all_found c.args.given.now in
    let slots = c.args.slots.now in
    let first = c.args.first in
    let fixed = c.in-Some.fixed in
    let more = flat_map parts_of (drop 1 slots) in
    let begins : slots ≡ slot.Fixed fixed ∷ drop 1 slots = c.in-Some.ensures in
    let apart : is_same_token (token.fixed fixed) (seen first.token) ≡ false = sym c.is_fixed.ensures ∙ c.if-is_fixed.false in
    ap (λ list. read_slots end (flat_map parts_of list) given (spots_at c.args.bytes.now c.args.from)) begins
    ∙ ap (λ spots. read_slots end (slot.Fixed fixed ∷ more) given spots) c.requires.first
    ∙ first-stuck end fixed more given (spot first.at (seen first.token)) (spots_at c.args.bytes.now first.end) apart
