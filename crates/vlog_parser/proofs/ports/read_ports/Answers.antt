use Rattle.std.proofs.Common.{◌≡◌, ◌+◌, List, [], length, drop, ap, ◌∙◌, arith}
use Rattle.std.proofs.lemmas.List.{drop_all}
use Rattle.vlog_tokens.specs.Tokens.{spots_at}
use Rattle.vlog_forms.specs.Outcome.{ports_outcome}
use Rattle.vlog_forms.specs.Reading.{Found}
use Rattle.vlog_form_parser.specs.Found.{all_found}
use Rattle.vlog_parser.proofs.ItemSteps.{refuses-same}
use Rattle.vlog_parser.proofs.PortSteps.{named-at, found-at, ports-none}
use Rattle.vlog_parser.proofs.ports.read_ports.Goals as goal

pub read_port-requires-clause-named : goal.read_port-requires-clause-named
read_port-requires-clause-named c = named-at c.args.names.now c.loop-one.one-index _ c.requires.named c.loop-one-test.true

pub returns-in-Err-clause-declares : goal.returns-in-Err-clause-declares
returns-in-Err-clause-declares c next =
    let rest : List Found = all_found (drop (c.loop-one.one-index + 1) c.args.names.now) in
    refuses-same _ _ c.in-Err.refusal
    (c.loop-one.invariant.same next
    ∙ ap (λ (list : List Found). ports_outcome (length c.args.bytes.now) list c.loop-one.draft.ports.items (spots_at c.args.bytes.now c.loop-one.from) next)
    (found-at c.args.names.now c.loop-one.one-index _ c.loop-one-test.true))
    (c.in-Err.ensures.declares rest next)

pub returns-clause-declares : goal.returns-clause-declares
returns-clause-declares c next =
    let none : drop c.loop-one.one-index c.args.names.now ≡ [] = drop_all c.loop-one.one-index c.args.names.now (omega arith) in
    c.loop-one.invariant.same next
    ∙ ap (λ names. ports_outcome (length c.args.bytes.now) (all_found names) c.loop-one.draft.ports.items (spots_at c.args.bytes.now c.loop-one.from) next) none
    ∙ ports-none (length c.args.bytes.now) c.loop-one.draft.ports.items (spots_at c.args.bytes.now c.loop-one.from) next
