use Rattle.std.proofs.Common.{◌≡◌, ◌∷◌, [], length, ap, sym, ◌∙◌}
use Rattle.vlog_tokens.specs.Tokens.{spots_at}
use Rattle.vlog_tokens.specs.Tokens.{TokenValue as token}
use Rattle.vlog_forms.specs.declared.slot.Slot.TheVariants as slot
use Rattle.vlog_forms.specs.Layout.{parts_of}
use Rattle.vlog_forms.specs.Values.{tokens_at}
use Rattle.vlog_forms.specs.Reading.{values_of, read_tokens, read_slots, after_tokens}
use Rattle.vlog_form_parser.specs.Found.{all_found}
use Rattle.vlog_form_parser.proofs.Steps.{slots-one, single-one, is_single, reads-along, stop-over}
use Rattle.vlog_form_parser.proofs.slots.read_slot.Goals as goal

pub returns-in-Space-clause-reads : goal.returns-in-Space-clause-reads
returns-in-Space-clause-reads c =
    ap (λ one. read_slots (length c.args.bytes.now) (parts_of one) (all_found c.args.values.now.items) (spots_at c.args.bytes.now c.args.from)) c.in-Space.is
    ∙ slots-one (length c.args.bytes.now) slot.Space (all_found c.args.values.now.items) (spots_at c.args.bytes.now c.args.from)

pub returns-in-Fixed-clause-reads : goal.returns-in-Fixed-clause-reads
returns-in-Fixed-clause-reads c =
    let end = length c.args.bytes.now in
    let found = all_found c.args.values.now.items in
    let spots = spots_at c.args.bytes.now c.args.from in
    reads-along _ _ c.args.bytes.now found c.stop_at.result
    (ap (λ one. read_slots end (parts_of one) found spots) c.in-Fixed.is ∙ slots-one end (slot.Fixed c.in-Fixed.fixed) found spots)
    (stop-over _ c.args.bytes.now found c.expect_token.result c.stop_at.result c.expect_token.ensures.reads c.stop_at.ensures)

pub returns-in-Literal-clause-reads : goal.returns-in-Literal-clause-reads
returns-in-Literal-clause-reads c =
    let end = length c.args.bytes.now in
    let found = all_found c.args.values.now.items in
    let spots = spots_at c.args.bytes.now c.args.from in
    let same : c.in-Literal.number ≡ c.from.result = cc in
    reads-along _ _ c.args.bytes.now found c.stop_at-in-Literal.result
    (ap (λ one. read_slots end (parts_of one) found spots) c.in-Literal.is ∙ slots-one end (slot.Literal c.in-Literal.number) found spots
    ∙ ap (λ n. after_tokens found (read_tokens end (token.number n ∷ []) spots)) same)
    (stop-over _ c.args.bytes.now found c.expect_token-in-Literal.result c.stop_at-in-Literal.result c.expect_token-in-Literal.ensures.reads c.stop_at-in-Literal.ensures)

pub returns-in-Again-clause-reads : goal.returns-in-Again-clause-reads
returns-in-Again-clause-reads c =
    let end = length c.args.bytes.now in
    let found = all_found c.args.values.now.items in
    let spots = spots_at c.args.bytes.now c.args.from in
    let same : c.in-Again.place ≡ c.from-in-Again.result = cc in
    reads-along _ _ c.args.bytes.now found c.stop_at-in-Again.result
    (ap (λ one. read_slots end (parts_of one) found spots) c.in-Again.is ∙ slots-one end (slot.Again c.in-Again.place) found spots
    ∙ ap (λ items. after_tokens found (read_tokens end (tokens_at (values_of (all_found items)) c.in-Again.place) spots)) (sym c.as_slice.ensures.value)
    ∙ ap (λ place. after_tokens found (read_tokens end (tokens_at (values_of (all_found c.as_slice.result.now)) place) spots)) same)
    (stop-over _ c.args.bytes.now found c.read_again.result c.stop_at-in-Again.result c.read_again.ensures.reads c.stop_at-in-Again.ensures)

pub returns-in-Atom-clause-reads : goal.returns-in-Atom-clause-reads
returns-in-Atom-clause-reads c =
    let end = length c.args.bytes.now in
    let found = all_found c.args.values.now.items in
    let spots = spots_at c.args.bytes.now c.args.from in
    reads-along _ _ c.args.bytes.now (all_found c.read_atom.new.values.items) c.read_atom.result
    (ap (λ one. read_slots end (parts_of one) found spots) c.in-Atom.is ∙ slots-one end slot.Atom found spots) c.read_atom.ensures.reads

pub returns-in-Name-clause-reads : goal.returns-in-Name-clause-reads
returns-in-Name-clause-reads c =
    reads-along _ _ c.args.bytes.now (all_found c.read_single.new.values.items) c.read_single.result
    (single-one (length c.args.bytes.now) c.args.slot (all_found c.args.values.now.items) (spots_at c.args.bytes.now c.args.from) (ap is_single c.in-Name.is)) c.read_single.ensures.reads

pub returns-in-Edge-clause-reads : goal.returns-in-Edge-clause-reads
returns-in-Edge-clause-reads c =
    reads-along _ _ c.args.bytes.now (all_found c.read_single-in-Edge.new.values.items) c.read_single-in-Edge.result
    (single-one (length c.args.bytes.now) c.args.slot (all_found c.args.values.now.items) (spots_at c.args.bytes.now c.args.from) (ap is_single c.in-Edge.is)) c.read_single-in-Edge.ensures.reads

pub returns-in-Bit-clause-reads : goal.returns-in-Bit-clause-reads
returns-in-Bit-clause-reads c =
    reads-along _ _ c.args.bytes.now (all_found c.read_single-in-Bit.new.values.items) c.read_single-in-Bit.result
    (single-one (length c.args.bytes.now) c.args.slot (all_found c.args.values.now.items) (spots_at c.args.bytes.now c.args.from) (ap is_single c.in-Bit.is)) c.read_single-in-Bit.ensures.reads

pub returns-in-Word-clause-reads : goal.returns-in-Word-clause-reads
returns-in-Word-clause-reads c =
    reads-along _ _ c.args.bytes.now (all_found c.read_single-in-Word.new.values.items) c.read_single-in-Word.result
    (single-one (length c.args.bytes.now) c.args.slot (all_found c.args.values.now.items) (spots_at c.args.bytes.now c.args.from) (ap is_single c.in-Word.is)) c.read_single-in-Word.ensures.reads

pub returns-in-Index-clause-reads : goal.returns-in-Index-clause-reads
returns-in-Index-clause-reads c =
    reads-along _ _ c.args.bytes.now (all_found c.read_single-in-Index.new.values.items) c.read_single-in-Index.result
    (single-one (length c.args.bytes.now) c.args.slot (all_found c.args.values.now.items) (spots_at c.args.bytes.now c.args.from) (ap is_single c.in-Index.is)) c.read_single-in-Index.ensures.reads
