use Rattle.std.proofs.Common.{true, sym, ap, ◌∙◌, arith}
use Rattle.std.specs.Prelude.{not}
use Rattle.index_search.proofs.Places.{least_below-first, least_below-none}
use Rattle.boot_file.specs.Headers.{entry_address, is_within}
use Rattle.boot_file.proofs.Below.{below-more}
use Rattle.boot_file.proofs.headers.outside_entry.Goals as goal

pub returns-then-not-is_within-clause-is : goal.returns-then-not-is_within-clause-is
returns-then-not-is_within-clause-is c =
    sym (least_below-first 4 c.loop-entry.entry (λ entry. not (is_within c.args.bytes.now (entry_address c.args.bytes.now entry))) c.loop-entry-test.true
    (λ k below. ap not (c.loop-entry.invariant k below))
    (ap (λ address. not (is_within c.args.bytes.now address)) (sym c.entry_address.ensures) ∙ ap not (sym c.is_within.ensures ∙ c.if-not-is_within.true)))

pub loop-entry-preserved : goal.loop-entry-preserved
loop-entry-preserved c =
    below-more c.loop-entry.entry (λ entry. is_within c.args.bytes.now (entry_address c.args.bytes.now entry)) true c.loop-entry.invariant
    (ap (is_within c.args.bytes.now) (sym c.entry_address.ensures) ∙ sym c.is_within.ensures ∙ c.if-not-is_within.false)

pub returns-clause-is : goal.returns-clause-is
returns-clause-is c =
    sym (least_below-none 4 (λ entry. not (is_within c.args.bytes.now (entry_address c.args.bytes.now entry)))
    (λ k below. ap not (c.loop-entry.invariant k (omega (arith, c.loop-entry-test.false)))))
