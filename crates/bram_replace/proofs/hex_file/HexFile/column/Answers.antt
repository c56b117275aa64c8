use Rattle.std.proofs.Common.{◌+◌, ◌*◌, ◌/◌, ◌%◌, ◌<◌, length, get_or, false, sym, ap, ◌∙◌, subst, arith}
use Rattle.bram_replace.specs.HexText.{Contents}
use Rattle.bram_replace.specs.Columns.{column_bit, column_count}
use Rattle.bram_replace.specs.Packed.{packed}
use Rattle.bram_replace.proofs.Memory.{word-fits, column-within, column-is}
use Rattle.bram_replace.proofs.hex_file.HexFile.column.Goals as goal

pub overflow_mul-column : goal.overflow_mul-column
overflow_mul-column c =
    let within = subst (λ v. c.args.column < column_count v) (sym c.self.view_is) c.requires in
    omega (arith, word-fits c.self.inside.digits c.self.inside.bits.items c.args.column 0 c.self.invariant.some_digits within (omega arith), c.self.invariant.few_bits)

pub overflow_mul-column-2 : goal.overflow_mul-column-2
overflow_mul-column-2 c =
    let within = subst (λ v. c.args.column < column_count v) (sym c.self.view_is) c.requires in
    omega (arith, column-within c.self.inside.digits c.self.inside.bits.items c.args.column c.self.invariant.some_digits within, c.self.invariant.few_bits)

pub overflow_add-column : goal.overflow_add-column
overflow_add-column c =
    let within = subst (λ v. c.args.column < column_count v) (sym c.self.view_is) c.requires in
    omega (arith, column-within c.self.inside.digits c.self.inside.bits.items c.args.column c.self.invariant.some_digits within, c.self.invariant.few_bits)

pub column_of-requires : goal.column_of-requires
column_of-requires c =
    let within = subst (λ v. c.args.column < column_count v) (sym c.self.view_is) c.requires in
    omega (arith, column-within c.self.inside.digits c.self.inside.bits.items c.args.column c.self.invariant.some_digits within, ap length c.as_slice.ensures.value)

pub returns : goal.returns
returns c =
    let within = subst (λ v. c.args.column < column_count v) (sym c.self.view_is) c.requires in
    let width = 4 * c.self.inside.digits in
    let first = 256 * (c.args.column / width) * width + c.args.column % width in
    c.column_of.ensures ∙ ap (λ bits. packed (λ place. get_or bits (first + place * width) false)) c.as_slice.ensures.value
    ∙ column-is c.self.inside.digits c.self.inside.bits.items c.args.column c.self.invariant.some_digits within
    ∙ ap (λ (v : Contents). packed (column_bit v c.args.column)) c.self.view_is
