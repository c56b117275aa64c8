use Rattle.std.proofs.Common.{ℕ, cond, List, Some, None, Vec, Global, sym, ap, ◌∙◌}
use Rattle.std.specs.Prelude.{is_some, option_map}
use Rattle.std.specs.Map.{lookup}
use Rattle.std.proofs.lemmas.Result.{on_ok_weaker}
use Rattle.shared_lemmas.proofs.Options.{none_from_is_some}
use Rattle.index_search.specs.Places.{or_else}
use Rattle.pin_file.specs.GivenNames.{name_kept}
use Rattle.pin_file.specs.PortNames.{is_place}
use Rattle.pin_file.proofs.GivenSteps.{is_some-map, name_more, none-kept}
use Rattle.pin_file.proofs.PinSteps.{lookup-push, value-stays}
use Rattle.pin_file.proofs.given.GivenNames.give.Goals as goal

pub returns-then-is_some : goal.returns-then-is_some
returns-then-is_some c = λ other.
    value-stays (name_kept c.args.self.now) c.args.name.now c.args.place other
    (ap is_some (sym c.name_at.ensures) ∙ is_some-map _ c.name_at.result ∙ sym c.is_some.ensures ∙ c.if-is_some.true)

pub insert-requires : goal.insert-requires
insert-requires c =
    none-kept c.args.self.now c.args.place
    (none_from_is_some (name_kept c.args.self.now c.args.place) (ap is_some (sym c.name_at.ensures) ∙ is_some-map _ c.name_at.result ∙ sym c.is_some.ensures ∙ c.if-is_some.false))

pub returns : goal.returns
unfolding name_kept
returns c =
    on_ok_weaker c.insert.result (λ added other.
    ap (λ entries. option_map (λ (name : Vec ℕ Global). name.items) (lookup (is_place other) entries)) added
    ∙ ap (option_map (λ (name : Vec ℕ Global). name.items)) (lookup-push (is_place other) c.args.self.now.names.entries c.args.place c.in_ok-name.name)
    ∙ name_more (lookup (is_place other) c.args.self.now.names.entries) (is_place other c.args.place) c.in_ok-name.name
    ∙ ap (λ (name : List ℕ). or_else (option_map (λ (name : Vec ℕ Global). name.items) (lookup (is_place other) c.args.self.now.names.entries)) (cond (is_place other c.args.place) (Some name) None)) c.in_ok-name.ensures.items)
    c.insert.ensures
