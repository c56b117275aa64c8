use Rattle.std.proofs.Common.{◌≡◌, ℕ, ◌+◌, ◌-◌, ◌*◌, ◌^◌, ◌<◌, false, get_or, length, sym, ap₂, ◌∙◌, subst, arith}
use Rattle.std.specs.Prelude.{map}
use Rattle.std.specs.List.{range_with_len}
use Rattle.bit_plane.specs.BitList.{word_of}
use Rattle.bit_plane.proofs.Words.{bool_byte-is}
use Rattle.bram_replace.proofs.Packing.{word_from-none, word_from-next, word_from-fits, word_from-lt, at-within}
use Rattle.bram_replace.proofs.columns.word_of.Goals as goal

pub loop-place-init : goal.loop-place-init
loop-place-init c = sym (word_from-none (λ place. get_or c.args.bits.now (c.args.first + place * c.args.step) false) c.args.count)

pub overflow_mul-at : goal.overflow_mul-at
overflow_mul-at c = omega (arith, at-within c.args.first c.args.step c.args.count (c.loop-place.place - 1) (length c.args.bits.now) (omega arith) c.requires.within)

pub overflow_add-at : goal.overflow_add-at
overflow_add-at c = omega (arith, at-within c.args.first c.args.step c.args.count (c.loop-place.place - 1) (length c.args.bits.now) (omega arith) c.requires.within)

pub bounds-bits-at : goal.bounds-bits-at
bounds-bits-at c = at-within c.args.first c.args.step c.args.count (c.loop-place.place - 1) (length c.args.bits.now) (omega arith) c.requires.within

pub overflow_mul-word : goal.overflow_mul-word
overflow_mul-word c =
    let bit = λ (place : ℕ). get_or c.args.bits.now (c.args.first + place * c.args.step) false in
    let i = c.loop-place.place in
    let next = word_from-next bit i c.args.count c.loop-place.word c.from-bit.result (omega arith) (omega arith) c.loop-place.invariant (c.from-bit.ensures ∙ bool_byte-is _) in
    omega (arith, next, word_from-fits bit (i - 1) (c.args.count - (i - 1)) (omega arith))

pub overflow_add-word : goal.overflow_add-word
overflow_add-word c =
    let bit = λ (place : ℕ). get_or c.args.bits.now (c.args.first + place * c.args.step) false in
    let i = c.loop-place.place in
    let next = word_from-next bit i c.args.count c.loop-place.word c.from-bit.result (omega arith) (omega arith) c.loop-place.invariant (c.from-bit.ensures ∙ bool_byte-is _) in
    omega (arith, next, word_from-fits bit (i - 1) (c.args.count - (i - 1)) (omega arith))

pub loop-place-preserved : goal.loop-place-preserved
loop-place-preserved c =
    let bit = λ (place : ℕ). get_or c.args.bits.now (c.args.first + place * c.args.step) false in
    word_from-next bit c.loop-place.place c.args.count c.loop-place.word c.from-bit.result (omega arith) (omega arith) c.loop-place.invariant (c.from-bit.ensures ∙ bool_byte-is _)

pub returns-clause-small : goal.returns-clause-small
returns-clause-small c =
    let bit = λ (place : ℕ). get_or c.args.bits.now (c.args.first + place * c.args.step) false in
    let count = c.args.count in
    let first : c.loop-place.place ≡ 0 = omega arith in
    let all : count - c.loop-place.place ≡ count = omega arith in
    let is : c.loop-place.word ≡ word_of (map bit (range_with_len 0 count)) =
    c.loop-place.invariant ∙ ap₂ (λ from size. word_of (map bit (range_with_len from size))) first all in
    subst (λ word. word < 2 ^ count) (sym is) (word_from-lt bit 0 count)
