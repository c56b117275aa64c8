use Rattle.std.proofs.Common.{ℕ, cond, List, Some, None, Vec, Global, sym, ap, ◌∙◌}
use Rattle.std.specs.Prelude.{bytes_eq, is_some}
use Rattle.std.specs.Map.{lookup}
use Rattle.std.proofs.lemmas.Result.{on_ok_weaker}
use Rattle.shared_lemmas.proofs.Options.{none_from_is_some}
use Rattle.shared_lemmas.proofs.Bytes.{bytes_eq-turned}
use Rattle.index_search.specs.Places.{or_else}
use Rattle.vlog_module.specs.Maps.{value_in}
use Rattle.vlog_semantics.specs.Slots.{Finds, slot_of}
use Rattle.vlog_semantics.proofs.Lookups.{lookup-push, value_in-push, value_in-known}
use Rattle.vlog_semantics.proofs.slots.Slots.add.Goals as goal

pub returns-then-is_some : goal.returns-then-is_some
unfolding Finds
returns-then-is_some c entries finds name =
    let known = ap is_some (sym (c.slot.ensures ∙ finds c.args.name.now)) ∙ sym c.is_some.ensures ∙ c.if-is_some.true in
    finds name ∙ sym (value_in-known entries c.args.name.now c.args.slot name known)

pub insert-requires : goal.insert-requires
insert-requires c =
    let none = none_from_is_some (slot_of c.args.self.now c.args.name.now) (ap is_some (sym c.slot.ensures) ∙ sym c.is_some.ensures ∙ c.if-is_some.false) in
    ap (λ (bytes : List ℕ). lookup (λ (key : Vec ℕ Global). bytes_eq bytes key.items) c.args.self.now.by_name.entries) c.in_ok-name.ensures.items ∙ none

pub returns : goal.returns
unfolding Finds
returns c entries finds =
    on_ok_weaker c.insert.result (λ added name.
    ap (lookup (λ (key : Vec ℕ Global). bytes_eq name key.items)) added
    ∙ lookup-push (λ (key : Vec ℕ Global). bytes_eq name key.items) c.args.self.now.by_name.entries c.in_ok-name.name c.args.slot
    ∙ ap (λ found. or_else found (cond (bytes_eq name c.in_ok-name.name.items) (Some c.args.slot) None)) (finds name)
    ∙ ap (λ b. or_else (value_in entries name) (cond b (Some c.args.slot) None)) (ap (bytes_eq name) c.in_ok-name.ensures.items ∙ bytes_eq-turned name c.args.name.now)
    ∙ sym (value_in-push entries c.args.name.now c.args.slot name)) c.insert.ensures
