use Rattle.std.proofs.Common.{◌≡◌, ◌-◌, ◌<◌, take, drop, length, List, ℕ, sym, subst, ◌∙◌, true}
use Rattle.std.specs.Prelude.{codes, bytes_eq, IfSome}
use Rattle.std.proofs.lemmas.List.{take_rest}
use Rattle.std.proofs.lemmas.Slice.Eq.{bytes_eq-Decides}
use Rattle.text_lines.specs.Numbers.{StartsWithNumber}
use Rattle.asc_text.proofs.SymbolLines.{spells-after}
use Rattle.asc_text.proofs.reading.spelling.plain_symbol.Goals as goal

pub returns-then-eq : goal.returns-then-eq
returns-then-eq c =
    let line = c.args.line.now in
    let found = c.number_before_name.result in
    let same : bytes_eq (take 5 line) c.as_slice.result.now ≡ true = sym c.eq.ensures ∙ c.if-eq.true in
    let front : take 5 line ≡ codes ".sym " = (bytes_eq-Decides (take 5 line) c.as_slice.result.now).0 same ∙ c.as_slice.ensures in
    let rest : take (length line - 5) (drop 5 line) ≡ drop 5 line = take_rest line 5 in
    spells-after line found front
    (subst (λ (text : List ℕ). IfSome found (λ number. (name : List ℕ) × StartsWithNumber 32 text number name × (0 < length name))) rest c.number_before_name.ensures)
