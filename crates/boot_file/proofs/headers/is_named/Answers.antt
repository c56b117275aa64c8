use Rattle.std.proofs.Common.{false, sym, ◌∙◌, ◌==◌, arith}
use Rattle.std.proofs.lemmas.Bool.{eq-eqb, ne_eqb}
use Rattle.index_search.proofs.Places.{any_below-at, any_below-none}
use Rattle.boot_file.specs.Headers.{entry_address}
use Rattle.boot_file.proofs.Below.{below-more}
use Rattle.boot_file.proofs.headers.is_named.Goals as goal

pub returns-then-entry_address-address : goal.returns-then-entry_address-address
returns-then-entry_address-address c =
    sym (any_below-at 4 c.loop-entry.entry (λ entry. entry_address c.args.bytes.now entry == c.args.address) c.loop-entry-test.true
    (eq-eqb _ _ (sym c.entry_address.ensures ∙ c.if-entry_address-address.true)))

pub loop-entry-preserved : goal.loop-entry-preserved
loop-entry-preserved c =
    below-more c.loop-entry.entry (λ entry. entry_address c.args.bytes.now entry == c.args.address) false c.loop-entry.invariant
    (ne_eqb _ _ (λ same. c.if-entry_address-address.false (c.entry_address.ensures ∙ same)))

pub returns : goal.returns
returns c =
    sym (any_below-none 4 (λ entry. entry_address c.args.bytes.now entry == c.args.address)
    (λ k below. c.loop-entry.invariant k (omega (arith, c.loop-entry-test.false))))
