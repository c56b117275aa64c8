use Rattle.std.proofs.Common.{true, sym, ap, ◌∙◌, arith}
use Rattle.std.specs.Prelude.{not}
use Rattle.index_search.proofs.Places.{least_below-first, least_below-none}
use Rattle.boot_file.specs.Headers.{is_formed}
use Rattle.boot_file.proofs.Below.{below-more}
use Rattle.boot_file.proofs.headers.unformed_offset.Goals as goal

pub returns-then-not-is_header_byte-clause-is : goal.returns-then-not-is_header_byte-clause-is
returns-then-not-is_header_byte-clause-is c =
    sym (least_below-first 160 c.loop-offset.offset (λ offset. not (is_formed c.args.bytes.now offset)) c.loop-offset-test.true
    (λ k below. ap not (c.loop-offset.invariant k below)) (ap not (sym c.is_header_byte.ensures ∙ c.if-not-is_header_byte.true)))

pub loop-offset-preserved : goal.loop-offset-preserved
loop-offset-preserved c =
    below-more c.loop-offset.offset (is_formed c.args.bytes.now) true c.loop-offset.invariant (sym c.is_header_byte.ensures ∙ c.if-not-is_header_byte.false)

pub returns-clause-is : goal.returns-clause-is
returns-clause-is c =
    sym (least_below-none 160 (λ offset. not (is_formed c.args.bytes.now offset))
    (λ k below. ap not (c.loop-offset.invariant k (omega (arith, c.loop-offset-test.false)))))
