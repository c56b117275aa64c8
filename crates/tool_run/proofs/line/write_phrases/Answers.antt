use Rattle.std.proofs.Common.{◌≡◌, List, ℕ, [], ◌++◌, append_assoc, append-nil, subst}
use Rattle.std.specs.Prelude.{codes}
use Rattle.tool_run.specs.Effects.{Writes}
use Rattle.tool_run.specs.Lines.{number_text, phrases_text}
use Rattle.tool_run.specs.declared.line.Phrase.{Phrase}
use Rattle.tool_run.specs.declared.line.Refusal.{Refusal}
use Rattle.tool_run.proofs.line.write_phrases.Goals as goal

-- the parts of a line, one after the other
parts-joined : (tool colon name space end : List ℕ) (refusal : Refusal)
    → (let phrase : Phrase → List ℕ → List ℕ = λ phrase rest. phrase.text.now ++ (number_text phrase.number ++ rest) in
    tool ++ (colon ++ (name ++ (space ++ phrase refusal.first (phrase refusal.second (phrase refusal.third (phrase refusal.fourth (end ++ []))))))))
    ≡ tool ++ colon ++ (name ++ space ++ phrases_text refusal) ++ end
parts-joined tool colon name space end refusal = simp (append_assoc, append-nil)

pub returns : goal.returns
returns g c =
    subst (λ line. Writes line (g.E.Sink.held c.args.errors.now) (g.E.Sink.held c.write_parts.new.errors) (g.E.Sink.faults c.args.errors.now) (g.E.Sink.faults c.write_parts.new.errors))
    (parts-joined c.args.tool_name.now (codes ": ") c.args.name.now c.args.space.now (codes "\n") c.args.refusal) c.write_parts.ensures
