use Rattle.std.proofs.Common.{◌++◌, [], ℕ, List, codes, ap, subst}
use Rattle.tool_run.specs.Lines.{line_of, phrase_text}
use Rattle.tool_run.specs.Effects.{Writes}
use Rattle.tool_run.proofs.performing.write_out_of_memory.Goals as goal

pub returns : goal.returns
returns g c =
    let writes : List ℕ → Type 0 = λ said. Writes (line_of c.args.tool_name.now said) (g.E.Sink.held c.args.errors.now) (g.E.Sink.held c.write_named.new.errors) (g.E.Sink.faults c.args.errors.now) (g.E.Sink.faults c.write_named.new.errors) in
    subst writes (ap (λ phrase. codes "out of memory" ++ [] ++ phrase_text phrase) c.text.ensures) c.write_named.ensures
