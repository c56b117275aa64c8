use Rattle.vlog_tokens.specs.Tokens.{spots_at}
use Rattle.vlog_forms.specs.Outcome.{Header}
use Rattle.vlog_form_parser.specs.Found.{all_found}
use Rattle.vlog_parser.proofs.Outcomes.{header-good, header-stuck, names-twice, names-once}
use Rattle.vlog_parser.proofs.modules.parse_module.Goals as goal

pub returns-in-Err : goal.returns-in-Err
returns-in-Err c = rw c.refusal_of.ensures (header-stuck c.args.bytes.now c.in-Err.stop c.in-Err.ensures.reads)

pub returns-in-Ok-Some : goal.returns-in-Ok-Some
returns-in-Ok-Some c =
    let header : Header = record { head = all_found c.read_header.new.head.items; names = all_found c.read_header.new.names.items; spots = spots_at c.args.bytes.now c.in-Ok.end } in
    let twice = rw c.deref.ensures.value at c.in-Ok-Some.ensures in
    names-twice c.args.bytes.now header c.in-Ok-Some.field-0 c.in-Ok-Some.fault c.in-Ok.ensures.reads twice c.in-Ok-Some.field-0-is

pub parse_named-requires-clause-head : goal.parse_named-requires-clause-head
parse_named-requires-clause-head c =
    let header : Header = record { head = all_found c.read_header.new.head.items; names = all_found c.read_header.new.names.items; spots = spots_at c.args.bytes.now c.in-Ok.end } in
    rw c.deref-in-Ok-None.ensures.value (header-good c.args.bytes.now header c.in-Ok.ensures.reads).head

pub parse_named-requires-clause-names : goal.parse_named-requires-clause-names
parse_named-requires-clause-names c =
    let header : Header = record { head = all_found c.read_header.new.head.items; names = all_found c.read_header.new.names.items; spots = spots_at c.args.bytes.now c.in-Ok.end } in
    rw c.deref-in-Ok-None-2.ensures.value (header-good c.args.bytes.now header c.in-Ok.ensures.reads).names

pub parse_named-requires-clause-outcome : goal.parse_named-requires-clause-outcome
parse_named-requires-clause-outcome c =
    let header : Header = record { head = all_found c.read_header.new.head.items; names = all_found c.read_header.new.names.items; spots = spots_at c.args.bytes.now c.in-Ok.end } in
    let twice = rw c.deref.ensures.value at c.in-Ok-None.ensures in
    rw (c.deref-in-Ok-None.ensures.value, c.deref-in-Ok-None-2.ensures.value) (names-once c.args.bytes.now header c.in-Ok-None.field-0 c.in-Ok.ensures.reads twice c.in-Ok-None.field-0-is)
