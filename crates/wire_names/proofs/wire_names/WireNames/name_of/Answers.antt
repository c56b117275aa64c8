use Rattle.std.proofs.Common.{◌∙◌, ℕ, List, Vec, Global, Some, ap}
use Rattle.std.specs.Option.{option_map}
use Rattle.vlog_module.specs.Maps.{value_in}
use Rattle.wire_names.proofs.Entries.{value-entries}
use Rattle.wire_names.proofs.wire_names.WireNames.name_of.Goals as goal

pub returns-in-Some : goal.returns-in-Some
returns-in-Some c =
    ap (λ (bytes : List ℕ). Some bytes) c.deref.ensures.value
    ∙ ap (option_map (λ (name : Vec ℕ Global). name.items)) c.in-Some.ensures.value
    ∙ value-entries (λ (key : Vec ℕ Global). key.items) (λ (name : Vec ℕ Global). name.items) c.args.wire.now c.self.inside.by_wire.entries
    ∙ ap (λ names. value_in names c.args.wire.now) c.self.view_is

pub returns-in-None : goal.returns-in-None
returns-in-None c =
    ap (option_map (λ (name : Vec ℕ Global). name.items)) c.in-None.ensures.value
    ∙ value-entries (λ (key : Vec ℕ Global). key.items) (λ (name : Vec ℕ Global). name.items) c.args.wire.now c.self.inside.by_wire.entries
    ∙ ap (λ names. value_in names c.args.wire.now) c.self.view_is
