use Rattle.std.proofs.Common.{◌≡◌, ◌∙◌, ℕ, List, ap, not, sym, subst}
use Rattle.std.specs.Prelude.{None}
use Rattle.std.proofs.lemmas.Result.{on_ok_weaker}
use Rattle.shared_lemmas.proofs.Options.{none_from_is_some}
use Rattle.wire_names.specs.Faults.{cause_for}
use Rattle.wire_names.specs.Naming.{Names}
use Rattle.wire_names.proofs.Giving.{offered-free}
use Rattle.wire_names.proofs.naming.Naming.offer.Goals as goal

pub returns-then-is_none : goal.returns-then-is_none
returns-then-is_none c =
    on_ok_weaker c.give.result (λ gives m earlier known.
    let fine : cause_for m earlier c.args.wire.now c.args.name.now ≡ None = sym (c.cause_for.ensures.cause m earlier known) ∙ none_from_is_some c.cause_for.result (c.is_none.ensures ∙ ap not c.if-is_none.true) in
    subst (λ (names : List (List ℕ × List ℕ)). Names m names c.give.new.self) (sym (offered-free m earlier c.args.wire.now c.args.name.now (sym c.is_label.ensures ∙ c.if-is_label.true) fine))
    (gives m earlier known)) c.give.ensures
