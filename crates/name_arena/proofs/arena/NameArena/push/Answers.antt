use Rattle.std.proofs.Common.{◌≡◌, [], ◌∷◌, ◌++◌, length, sym, ap, ◌∙◌, arith, length-append}
use Rattle.std.proofs.lemmas.List.{length-map}
use Rattle.name_arena.proofs.Kept.{names_pushed, spans_pushed, pushed}
use Rattle.name_arena.proofs.arena.NameArena.push.Goals as goal

pub invariant_of-self-2 : goal.invariant_of-self-2
invariant_of-self-2 c =
    let fits = c.push-fits.ensures.succeeds (omega (arith, c.in_ok-reserve.ensures.ok)) in
    let items : c.push-fits.new.self.items ≡ c.self.inside.spans.items ++ c.in_ok-span.span ∷ [] =
    pushed _ _ _ _ fits c.push-fits.ensures.items ∙ ap (λ spans. spans ++ c.in_ok-span.span ∷ []) c.in_ok-reserve.ensures.items in
    let count : length c.args.self.now ≡ length c.self.inside.spans.items = ap (λ names. length names) (sym c.self.view_is) ∙ length-map c.self.inside.spans.items _ in
    rw items (
      omega (arith, count, c.requires, length-append c.self.inside.spans.items (c.in_ok-span.span ∷ [])),
      spans_pushed c.self.inside.chunks c.keep.new.self c.self.inside.spans.items c.in_ok-span.span c.in_ok-span.ensures.others c.self.invariant.1 c.in_ok-span.ensures.kept.0,
    )

pub returns-clause-pushed : goal.returns-clause-pushed
returns-clause-pushed c =
    let fits = c.push-fits.ensures.succeeds (omega (arith, c.in_ok-reserve.ensures.ok)) in
    let items : c.push-fits.new.self.items ≡ c.self.inside.spans.items ++ c.in_ok-span.span ∷ [] =
    pushed _ _ _ _ fits c.push-fits.ensures.items ∙ ap (λ spans. spans ++ c.in_ok-span.span ∷ []) c.in_ok-reserve.ensures.items in
    rw (items, ← c.self.view_is)
    (names_pushed c.self.inside.chunks c.keep.new.self c.self.inside.spans.items c.in_ok-span.span c.args.name.now c.in_ok-span.ensures.others c.self.invariant.1 c.in_ok-span.ensures.kept.1)
