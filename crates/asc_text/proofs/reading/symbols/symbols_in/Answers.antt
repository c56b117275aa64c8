use Rattle.text_lines.specs.Lines.{lines_of}
use Rattle.asc_text.specs.inside.Symbols.{symbols_in}
use Rattle.asc_text.proofs.Symbols.{symbols-more, symbols-all}
use Rattle.asc_text.proofs.reading.symbols.symbols_in.Goals as goal

pub loop-line-preserved : goal.loop-line-preserved
loop-line-preserved c =
    symbols-more (symbols_in (lines_of c.args.text.now)) c.loop-line.symbols.items c.add_symbol.new.symbols.items c.in-Some.line.content.now c.loop-line.left.now c.in-Some.line.rest.now c.loop-line.invariant c.in-Some.ensures.lines c.in_ok-add_symbol.ensures

pub returns : goal.returns
returns c = symbols-all c.args.text.now c.loop-line.left.now c.loop-line.symbols.items c.loop-line.invariant c.in_default.ensures.lines
