use Rattle.std.proofs.Common.{ℕ, cond, List, Some, None, Vec, Global, sym, ap, ◌∙◌}
use Rattle.std.specs.Prelude.{bytes_eq, is_some}
use Rattle.std.specs.Map.{lookup}
use Rattle.std.proofs.lemmas.Result.{on_ok_weaker}
use Rattle.shared_lemmas.proofs.Options.{none_from_is_some}
use Rattle.shared_lemmas.proofs.Bytes.{bytes_eq-turned}
use Rattle.index_search.specs.Places.{or_else}
use Rattle.pin_file.specs.Feeding.{place_kept}
use Rattle.pin_file.proofs.PinSteps.{lookup-push, place-stays}
use Rattle.pin_file.proofs.package_pins.PackagePins.add.Goals as goal

pub returns-then-is_some-clause-places : goal.returns-then-is_some-clause-places
returns-then-is_some-clause-places c = λ other.
    place-stays c.args.self.now c.args.pin.now other c.args.place (ap is_some (sym c.find.ensures) ∙ sym c.is_some.ensures ∙ c.if-is_some.true)

pub insert-requires : goal.insert-requires
insert-requires c =
    let none = none_from_is_some (place_kept c.args.self.now c.args.pin.now) (ap is_some (sym c.find.ensures) ∙ sym c.is_some.ensures ∙ c.if-is_some.false) in
    ap (λ (bytes : List ℕ). lookup (λ (key : Vec ℕ Global). bytes_eq bytes key.items) c.args.self.now.places.entries) c.in_ok-pin.ensures.items ∙ none

pub returns-clause-places : goal.returns-clause-places
returns-clause-places c =
    on_ok_weaker c.insert.result (λ added other.
    ap (lookup (λ (key : Vec ℕ Global). bytes_eq other key.items)) added
    ∙ lookup-push (λ (key : Vec ℕ Global). bytes_eq other key.items) c.args.self.now.places.entries c.in_ok-pin.pin c.args.place
    ∙ ap (λ b. or_else (place_kept c.args.self.now other) (cond b (Some c.args.place) None)) (ap (bytes_eq other) c.in_ok-pin.ensures.items ∙ bytes_eq-turned other c.args.pin.now)) c.insert.ensures
