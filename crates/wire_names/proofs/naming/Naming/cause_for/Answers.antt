use Rattle.std.proofs.Common.{◌∙◌, ℕ, List, Bor, true, false, sym, refl}
use Rattle.wire_names.proofs.Giving.{cause-told, found-known}
use Rattle.wire_names.proofs.naming.Naming.cause_for.Goals as goal

pub returns-then-is_some-clause-cause : goal.returns-then-is_some-clause-cause
returns-then-is_some-clause-cause c m earlier known =
    cause-told m earlier c.args.self.now known c.args.wire.now c.args.name.now true true _
    (sym c.contains.ensures ∙ c.if-not-contains.false)
    (found-known (λ (name : Bor (List ℕ)). name.now) c.args.self.now.names c.args.wire.now c.name_of.result true c.name_of.ensures (sym c.is_some.ensures ∙ c.if-is_some.true)) refl

pub returns-then-contains-clause-cause : goal.returns-then-contains-clause-cause
returns-then-contains-clause-cause c m earlier known =
    cause-told m earlier c.args.self.now known c.args.wire.now c.args.name.now true false true
    (sym c.contains.ensures ∙ c.if-not-contains.false)
    (found-known (λ (name : Bor (List ℕ)). name.now) c.args.self.now.names c.args.wire.now c.name_of.result false c.name_of.ensures (sym c.is_some.ensures ∙ c.if-is_some.false))
    (sym c.contains-else-is_some.ensures ∙ c.if-contains.true)

pub returns-else-contains-clause-cause : goal.returns-else-contains-clause-cause
returns-else-contains-clause-cause c m earlier known =
    cause-told m earlier c.args.self.now known c.args.wire.now c.args.name.now true false false
    (sym c.contains.ensures ∙ c.if-not-contains.false)
    (found-known (λ (name : Bor (List ℕ)). name.now) c.args.self.now.names c.args.wire.now c.name_of.result false c.name_of.ensures (sym c.is_some.ensures ∙ c.if-is_some.false))
    (sym c.contains-else-is_some.ensures ∙ c.if-contains.false)
