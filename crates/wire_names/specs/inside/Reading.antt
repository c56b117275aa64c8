-- How the code represents lines.
use Rattle.wire_names.specs.declared.line.LineKind.{LineKind}
use Rattle.wire_names.specs.declared.line.LineKind.TheVariants as kind
use Rattle.wire_names.specs.Lines.{Line, Passed, Named, Unknown}

-- what a line says, as the code represents it
abbrev pub said_by : LineKind → Line
said_by kind.Passed = Passed
said_by (kind.Named wire name) = Named wire.now name.now
said_by kind.Unknown = Unknown
