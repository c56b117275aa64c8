use Rattle.std.proofs.Common.{sym, ap, subst, ◌∙◌}
use Rattle.asc_text.specs.Faults.{Tells, asc_fault_of}
use Rattle.asc_text.specs.Meaning.{asc_image_of}
use Rattle.tool_run.specs.Tasks.{Refused}
use Rattle.bitstream_tools.specs.Pack.{packed}
use Rattle.bitstream_tools.proofs.Packed.{packed_is}
use Rattle.bitstream_tools.proofs.packing.packed.Goals as goal

pub returns-in-Ok-clause-bytes : goal.returns-in-Ok-clause-bytes
returns-in-Ok-clause-bytes c = λ layouts text stands.
    packed_is layouts c.args.no_sleep text c.in-Ok.bytes.items (c.in-Ok.ensures.packed layouts text stands)

pub returns-in-Err-At-clause-stops : goal.returns-in-Err-At-clause-stops
returns-in-Err-At-clause-stops c = λ layouts text stands.
    ap (packed c.args.no_sleep (asc_image_of layouts text)) (subst (Tells (asc_fault_of layouts text)) c.in-Err-At.field-0-is (c.in-Err-At.ensures.refused layouts text stands)) ∙ ap Refused (sym c.asc_refusal.ensures.text)
