use Rattle.std.proofs.Common.{◌∙◌, ℕ, List, [], ◌∷◌, ◌++◌, Vec, Global, ap, ap₂, map}
use Rattle.std.specs.Prelude.{bytes_eq}
use Rattle.std.specs.Map.{lookup}
use Rattle.std.proofs.lemmas.Result.{on_ok_weaker}
use Rattle.vlog_module.specs.Maps.{value_in}
use Rattle.wire_names.proofs.Entries.{entries-push, none-unmapped, value-entries}
use Rattle.wire_names.proofs.wire_names.WireNames.push.Goals as goal

pub insert-requires : goal.insert-requires
insert-requires c =
    ap (λ (bytes : List ℕ). lookup (λ (key : Vec ℕ Global). bytes_eq bytes key.items) c.self.inside.by_wire.entries) c.in_ok-wire.ensures.items
    ∙ none-unmapped (λ (name : Vec ℕ Global). name.items) _
    (value-entries (λ (key : Vec ℕ Global). key.items) (λ (name : Vec ℕ Global). name.items) c.args.wire.now c.self.inside.by_wire.entries
    ∙ ap (λ names. value_in names c.args.wire.now) c.self.view_is ∙ c.requires)

pub returns : goal.returns
returns c =
    on_ok_weaker c.insert.result (λ added.
    ap (map (λ (entry : Vec ℕ Global × Vec ℕ Global). (entry.0.items, entry.1.items))) added
    ∙ entries-push (λ (key : Vec ℕ Global). key.items) (λ (name : Vec ℕ Global). name.items) c.self.inside.by_wire.entries c.in_ok-wire.wire c.in_ok-name.name
    ∙ ap (λ (names : List (List ℕ × List ℕ)). names ++ (c.in_ok-wire.wire.items, c.in_ok-name.name.items) ∷ []) c.self.view_is
    ∙ ap₂ (λ (wire name : List ℕ). c.args.self.now ++ (wire, name) ∷ []) c.in_ok-wire.ensures.items c.in_ok-name.ensures.items) c.insert.ensures
