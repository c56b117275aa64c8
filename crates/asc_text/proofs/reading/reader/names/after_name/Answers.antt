use Rattle.asc_text.proofs.NameLines.{takes-name}
use Rattle.asc_text.proofs.reading.reader.names.after_name.Goals as goal

pub returns-in-Some-plain_symbol_in : goal.returns-in-Some-plain_symbol_in
returns-in-Some-plain_symbol_in c s expected outside =
    let line = c.in-Some.line in
    let net = c.in-Some-plain_symbol_in.field-0 in
    takes-name s c.args.text.now line.content.now line.rest.now net expected outside c.in-Some.ensures.lines c.in-Some.ensures.shorter c.in-Some-plain_symbol_in.ensures
