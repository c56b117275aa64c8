use Rattle.std.proofs.Common.{◌+◌, ◌*◌, ◌/◌, ◌%◌, ◌<◌, length, get_or, false, sym, ap, ◌∙◌, subst, arith}
use Rattle.bram_replace.specs.HexText.{Contents}
use Rattle.bram_replace.specs.Columns.{column_bit, column_count}
use Rattle.bram_replace.proofs.Memory.{word-fits, bit-within, column_bit-is}
use Rattle.bram_replace.proofs.hex_file.HexFile.column_bit.Goals as goal

pub overflow_mul-row : goal.overflow_mul-row
overflow_mul-row c =
    let within = subst (λ v. c.args.column < column_count v) (sym c.self.view_is) c.requires.column in
    omega (arith, word-fits c.self.inside.digits c.self.inside.bits.items c.args.column c.args.word c.self.invariant.some_digits within c.requires.word, c.self.invariant.few_bits)

pub overflow_add-row : goal.overflow_add-row
overflow_add-row c =
    let within = subst (λ v. c.args.column < column_count v) (sym c.self.view_is) c.requires.column in
    omega (arith, word-fits c.self.inside.digits c.self.inside.bits.items c.args.column c.args.word c.self.invariant.some_digits within c.requires.word, c.self.invariant.few_bits)

pub overflow_mul-at : goal.overflow_mul-at
overflow_mul-at c =
    let within = subst (λ v. c.args.column < column_count v) (sym c.self.view_is) c.requires.column in
    omega (arith, bit-within c.self.inside.digits c.self.inside.bits.items c.args.column c.args.word c.self.invariant.some_digits within c.requires.word, c.self.invariant.few_bits)

pub overflow_add-at : goal.overflow_add-at
overflow_add-at c =
    let within = subst (λ v. c.args.column < column_count v) (sym c.self.view_is) c.requires.column in
    omega (arith, bit-within c.self.inside.digits c.self.inside.bits.items c.args.column c.args.word c.self.invariant.some_digits within c.requires.word, c.self.invariant.few_bits)

pub bounds-bits-at : goal.bounds-bits-at
bounds-bits-at c =
    let within = subst (λ v. c.args.column < column_count v) (sym c.self.view_is) c.requires.column in
    omega (arith, bit-within c.self.inside.digits c.self.inside.bits.items c.args.column c.args.word c.self.invariant.some_digits within c.requires.word, ap length c.as_slice-bits.ensures.value)

pub returns : goal.returns
returns c =
    let within = subst (λ v. c.args.column < column_count v) (sym c.self.view_is) c.requires.column in
    let width = 4 * c.self.inside.digits in
    ap (λ bits. get_or bits ((256 * (c.args.column / width) + c.args.word) * width + c.args.column % width) false) c.as_slice-bits.ensures.value
    ∙ column_bit-is c.self.inside.digits c.self.inside.bits.items c.args.column c.args.word c.self.invariant.some_digits within c.requires.word
    ∙ ap (λ (v : Contents). column_bit v c.args.column c.args.word) c.self.view_is
