use Rattle.std.proofs.Common.{ℕ, cond, List, Some, None, Vec, Global, sym, ap, ap₂, ◌∙◌}
use Rattle.std.specs.Prelude.{bytes_eq, is_some}
use Rattle.std.specs.Map.{lookup}
use Rattle.std.proofs.lemmas.Result.{on_ok_weaker}
use Rattle.shared_lemmas.proofs.Options.{none_from_is_some}
use Rattle.shared_lemmas.proofs.Bytes.{bytes_eq-turned}
use Rattle.index_search.specs.Places.{or_else}
use Rattle.vlog_module.specs.Maps.{value_in}
use Rattle.vlog_semantics.proofs.Lookups.{lookup-push, value_in-push, value_in-known}
use Rattle.port_names.specs.Listed.{Lists, listed_in}
use Rattle.port_names.proofs.renaming.Renaming.add.Goals as goal

pub returns-then-lists-clause-lists : goal.returns-then-lists-clause-lists
unfolding Lists
returns-then-lists-clause-lists c pairs lists name =
    let known = ap is_some (sym (lists c.args.pair.now.0)) ∙ sym c.lists.ensures ∙ c.if-lists.true in
    lists name ∙ sym (value_in-known pairs c.args.pair.now.0 c.args.pair.now.1 name known)

pub insert-requires : goal.insert-requires
insert-requires c =
    let none = none_from_is_some (listed_in c.args.self.now c.args.pair.now.0) (sym c.lists.ensures ∙ c.if-lists.false) in
    ap (λ (bytes : List ℕ). lookup (λ (key : Vec ℕ Global). bytes_eq bytes key.items) c.args.self.now.by_name.entries) (c.in_ok-key.ensures.items ∙ c.bytes-old.ensures.bytes) ∙ none

pub returns-clause-lists : goal.returns-clause-lists
unfolding Lists
returns-clause-lists c pairs lists =
    on_ok_weaker c.insert.result (λ added name.
    ap (lookup (λ (key : Vec ℕ Global). bytes_eq name key.items)) added
    ∙ lookup-push (λ (key : Vec ℕ Global). bytes_eq name key.items) c.args.self.now.by_name.entries c.in_ok-key.key c.in_ok-name.name
    ∙ ap (λ found. or_else found (cond (bytes_eq name c.in_ok-key.key.items) (Some c.in_ok-name.name) None)) (lists name)
    ∙ ap₂ (λ b (value : List ℕ). or_else (value_in pairs name) (cond b (Some value) None))
    (ap (bytes_eq name) (c.in_ok-key.ensures.items ∙ c.bytes-old.ensures.bytes) ∙ bytes_eq-turned name c.args.pair.now.0) (c.in_ok-name.ensures ∙ c.bytes-new.ensures.bytes)
    ∙ sym (value_in-push pairs c.args.pair.now.0 c.args.pair.now.1 name)) c.insert.ensures
