use Rattle.std.proofs.Common.{length, ap}
use Rattle.vlog_tokens.specs.Tokens.{spots_at}
use Rattle.vlog_module.specs.Parts.{Parts}
use Rattle.vlog_forms.specs.Values.{seen}
use Rattle.vlog_forms.specs.Reading.{found_at}
use Rattle.vlog_form_parser.specs.Found.{all_found}
use Rattle.vlog_form_parser.specs.Readings.{whole_of}
use Rattle.vlog_parser.proofs.PortSteps.{value-named, port-refused, port-declared}
use Rattle.vlog_parser.proofs.ports.read_port.Goals as goal

pub push_port-requires-clause-named : goal.push_port-requires-clause-named
push_port-requires-clause-named c = rw c.text_of.ensures.name (value-named (seen c.args.one.value) c.requires.named)

pub returns-in-Err-clause-declares : goal.returns-in-Err-clause-declares
returns-in-Err-clause-declares c names next =
    rw c.refusal_of.ensures
    (port-refused (length c.args.bytes.now) (found_at c.args.one.at (seen c.args.one.value)) names c.args.draft.now.ports.items (spots_at c.args.bytes.now c.args.from) next c.port_forms.result.now c.in-Err.stop
    c.port_forms.ensures c.in-Err.ensures.reads)

pub returns-in-Ok-push_port-clause-declares : goal.returns-in-Ok-push_port-clause-declares
returns-in-Ok-push_port-clause-declares c names next =
    port-declared (length c.args.bytes.now) (found_at c.args.one.at (seen c.args.one.value)) names c.args.draft.now.ports.items c.push_port.new.draft.ports.items (spots_at c.args.bytes.now c.args.from) next c.port_forms.result.now
    (whole_of c.in-Ok.whole c.args.bytes.now (all_found c.read_forms.new.values.items)) c.text_of.result.now c.is_output.result
    c.port_forms.ensures c.in-Ok.ensures.reads c.text_of.ensures.name c.is_output.ensures (ap (λ (m : Parts). m.ports) c.in-Ok-push_port.ensures.parts)
