use Rattle.std.proofs.Common.{◌/◌, rules}
use Rattle.bin_stream.specs.Commands.{number_of}
use Rattle.bin_stream.specs.inside.Heads.{first_byte, payload_in, IsOf}
use Rattle.bin_stream.proofs.Entered.{shows-first}
use Rattle.bin_stream.proofs.reading.head.Cursor.head.Goals as goal

pub returns-in-Some-clause-first : goal.returns-in-Some-clause-first
returns-in-Some-clause-first c = λ commands.
    let bytes = c.args.self.bytes.now in
    let says : IsOf (first_byte bytes / 16) (number_of (payload_in bytes)) c.in-Some.command = search rules in
    shows-first commands c.args.self.offset bytes c.in-Some.command c.in_ok-payload.ensures.allowed says
