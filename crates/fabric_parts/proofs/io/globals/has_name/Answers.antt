use Rattle.std.proofs.Common.{◌≡◌, ◌<◌, ℕ, Bool, List, sym, ap, ◌∙◌, arith, get_or, length, false, true}
use Rattle.std.specs.Prelude.{bytes_eq}
use Rattle.std.specs.List.{list_any}
use Rattle.chipdb_lines.specs.Items.{NameLine}
use Rattle.chipdb_reader.specs.Kept.{database_in}
use Rattle.chipdb_reader.specs.declared.items.NetName.{NetName}
use Rattle.chipdb_reader.specs.Texts.{text_at}
use Rattle.fabric_parts.proofs.Named.{any_named, any_listed-at, any_listed-none}
use Rattle.fabric_parts.proofs.io.globals.has_name.Goals as goal

pub returns-then-eq : goal.returns-then-eq
returns-then-eq c =
    let passes : List NameLine → Bool = list_any (λ (line : NameLine). bytes_eq c.args.name.now line.name) in
    let is_name : NetName → Bool = λ name. bytes_eq c.args.name.now (text_at c.args.db.now.texts name.name) in
    let here : is_name (get_or c.names_of-named-items.result.now c.loop-named.named-index c.named-item.result) ≡ true =
    ap is_name (sym c.named-item.is) ∙ ap (bytes_eq c.args.name.now) (sym c.text.ensures) ∙ sym c.eq.ensures ∙ c.if-eq.true in
    sym (any_named c.args.net c.args.name.now (database_in c.args.db.now).names ∙ ap passes (sym c.names_of-named-items.ensures)
    ∙ any_listed-at c.args.db.now.texts c.args.net c.args.name.now c.names_of-named-items.result.now c.loop-named.named-index c.named-item.result c.loop-named-test.true here)

pub returns : goal.returns
returns c =
    let passes : List NameLine → Bool = list_any (λ (line : NameLine). bytes_eq c.args.name.now line.name) in
    let none : (k : ℕ) (d : NetName) → k < length c.names_of-named-items.result.now
    → bytes_eq c.args.name.now (text_at c.args.db.now.texts (get_or c.names_of-named-items.result.now k d).name) ≡ false =
    λ k d inside. c.loop-named.invariant k d (omega arith) in
    sym (any_named c.args.net c.args.name.now (database_in c.args.db.now).names ∙ ap passes (sym c.names_of-named-items.ensures)
    ∙ any_listed-none c.args.db.now.texts c.args.net c.args.name.now c.names_of-named-items.result.now none)
