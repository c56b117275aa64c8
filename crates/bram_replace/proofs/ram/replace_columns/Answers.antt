use Rattle.std.proofs.Common.{◌≡◌, ◌+◌, length, get_or, refl, ap, ◌∙◌, inl, inr, arith}
use Rattle.std.proofs.lemmas.Bool.{cases_lt, le-ltb}
use Rattle.index_search.specs.Places.{gathered_below}
use Rattle.index_search.proofs.Places.{gathered_below-none}
use Rattle.bram_replace.specs.Replaced.{column_found}
use Rattle.std.proofs.lemmas.List.{get_or_past}
use Rattle.bram_replace.specs.Columns.{column_count}
use Rattle.bram_replace.specs.Rams.{listed}
use Rattle.bram_replace.proofs.Putting.{bits-more, bits-ended, counts-more, count-one}
use Rattle.bram_replace.proofs.ram.replace_columns.Goals as goal

pub loop-bit-init : goal.loop-bit-init
loop-bit-init c =
    let from = c.args.columns.now.file.now in
    record {
      bits = λ word place few low. rw (le-ltb place 0 (omega arith)) refl;
      counts = λ column few. omega (arith, ap length (gathered_below-none 0 (column_found from (listed c.args.bits.now) column) (λ k below. absurd (omega arith))));
      room = λ column. omega (arith, c.requires.room column);
    }

pub loop-bit-preserved : goal.loop-bit-preserved
loop-bit-preserved c =
    let i = c.loop-bit.invariant in
    let from = c.args.columns.now.file.now in
    let to = c.args.to.now in
    let bits = c.loop-bit.bits in
    let start = c.args.bits.now in
    let bit = c.loop-bit.bit in
    record {
      bits = bits-more from to bits c.replace_column.new.bits start bit (omega arith) i.bits c.replace_column.ensures.bits;
      counts = λ column few. counts-more from bits start to bit column _ _ _ (omega arith) i.bits (i.counts column few) (c.replace_column.ensures.found column few);
      room = λ column. elim (cases_lt column (column_count from)) [
        | inl few ↦ omega (arith, i.room column, c.replace_column.ensures.found column few, count-one from (listed bits) column bit)
        | inr past ↦ omega (arith, get_or_past c.replace_column.new.found column 0 (omega (arith, c.requires.counts)))
      ];
    }

pub returns-clause-bits : goal.returns-clause-bits
returns-clause-bits c = bits-ended c.args.columns.now.file.now c.args.to.now c.loop-bit.bits c.args.bits.now c.loop-bit.bit (omega arith) c.loop-bit.invariant.bits

pub returns-clause-found : goal.returns-clause-found
returns-clause-found c column few =
    let from = c.args.columns.now.file.now in
    let all : c.loop-bit.bit ≡ 16 = omega arith in
    c.loop-bit.invariant.counts column few ∙ ap (λ n. get_or c.args.found.now column 0 + length (gathered_below n (column_found from (listed c.args.bits.now) column))) all
