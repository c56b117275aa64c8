use Rattle.std.proofs.Common.{◌++◌, ◌∙◌, ℕ, List, codes, ap, subst, refl}
use Rattle.std.proofs.lemmas.List.{append-nil}
use Rattle.tool_run.specs.Lines.{line_of, phrase_text}
use Rattle.tool_run.specs.Effects.{Writes}
use Rattle.tool_run.proofs.performing.tell_stop.Goals as goal

pub returns-in-Failed : goal.returns-in-Failed
returns-in-Failed g c =
    let writes : List ℕ → Type 0 = λ said. Writes (line_of c.args.tool_name.now said) (g.E.Sink.held c.args.errors.now) (g.E.Sink.held c.write_named.new.errors) (g.E.Sink.faults c.args.errors.now) (g.E.Sink.faults c.write_named.new.errors) in
    let said = codes "read failed: " ++ c.source_name-name.result.now in
    rw c.in-Failed.is (refl, subst writes (ap (λ phrase. said ++ phrase_text phrase) c.text.ensures ∙ append-nil said ∙ ap (λ name. codes "read failed: " ++ name) c.source_name-name.ensures) c.write_named.ensures)
