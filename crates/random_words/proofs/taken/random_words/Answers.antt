use Rattle.std.proofs.Common.{refl, sym, ap, ◌∙◌, arith}
use Rattle.index_search.specs.Places.{first_below}
use Rattle.random_words.specs.Taken.{is_taken}
use Rattle.random_words.proofs.Chosen.{chosen-here, chosen-later, chosen-none}
use Rattle.random_words.proofs.taken.random_words.Goals as goal

pub loop-draw-init : goal.loop-draw-init
unfolding first_below
loop-draw-init c = refl

pub loop-draw-preserved : goal.loop-draw-preserved
loop-draw-preserved c =
    let size = c.args.size in
    chosen-later size.width size.depth c.args.seed c.loop-draw.draw c.in_ok-text.text.items c.loop-draw.invariant c.in_ok-text.ensures.text
    (ap is_taken (sym c.as_slice.ensures.value) ∙ sym c.in_ok-is_taken.ensures ∙ c.if-branch.false)

pub returns-then-branch-clause-words : goal.returns-then-branch-clause-words
returns-then-branch-clause-words c =
    let size = c.args.size in
    chosen-here size.width size.depth c.args.seed c.loop-draw.draw c.in_ok-text.text.items (omega arith) c.loop-draw.invariant c.in_ok-text.ensures.text
    (ap is_taken (sym c.as_slice.ensures.value) ∙ sym c.in_ok-is_taken.ensures ∙ c.if-branch.true)

pub returns-then-branch-clause-size : goal.returns-then-branch-clause-size
returns-then-branch-clause-size c = c.in_ok-text.ensures.size

pub returns-clause-refused : goal.returns-clause-refused
returns-clause-refused c = chosen-none c.args.size.width c.args.size.depth c.args.seed c.loop-draw.draw (omega arith) c.loop-draw.invariant
