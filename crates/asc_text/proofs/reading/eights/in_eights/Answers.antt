use Rattle.std.proofs.Common.{◌≡◌, ℕ, ◌∙◌, ◌-◌, drop, map, subst, arith}
use Rattle.std.specs.List.{list_all}
use Rattle.bit_plane.specs.BitList.{word_of}
use Rattle.asc_text.specs.inside.RowNumbers.{is_bit, is_odd}
use Rattle.asc_text.proofs.Packed.{odds-none, bits-none, odds-eight, odds-eight_fits, bits-eight, odds-fits}
use Rattle.asc_text.proofs.reading.eights.in_eights.Goals as goal

pub loop-place-init : goal.loop-place-init
loop-place-init c = record {
  following = c.requires.within;
  within = omega arith;
  whole = c.requires.whole;
  ones = odds-none c.args.line.now;
  bits = bits-none c.args.line.now;
}

pub overflow_sub-place : goal.overflow_sub-place
overflow_sub-place c = omega (arith, c.loop-place.invariant.whole)

pub eight_at-eight-requires : goal.eight_at-eight-requires
eight_at-eight-requires c = omega (arith, c.loop-place.invariant.whole, c.loop-place.invariant.within)

pub overflow_mul-ones : goal.overflow_mul-ones
overflow_mul-ones c = omega (arith, odds-eight_fits c.args.line.now c.loop-place.place c.loop-place.ones (omega (arith, c.loop-place.invariant.whole)) c.loop-place.invariant.within c.requires.short c.loop-place.invariant.ones)

pub overflow_add-ones : goal.overflow_add-ones
overflow_add-ones c =
    let here = c.from.ensures ∙ c.eight_at-eight.ensures.ones in
    omega (arith, odds-eight c.args.line.now c.loop-place.place c.loop-place.ones c.from.result (omega (arith, c.loop-place.invariant.whole)) c.loop-place.invariant.within c.loop-place.invariant.ones here, odds-fits c.args.line.now (c.loop-place.place - 8) c.requires.short)

pub loop-place-preserved : goal.loop-place-preserved
loop-place-preserved c = record {
  following = omega (arith, c.loop-place.invariant.whole);
  within = omega (arith, c.loop-place.invariant.within);
  whole = omega (arith, c.loop-place.invariant.whole);
  ones = odds-eight c.args.line.now c.loop-place.place c.loop-place.ones c.from.result (omega (arith, c.loop-place.invariant.whole)) c.loop-place.invariant.within c.loop-place.invariant.ones (c.from.ensures ∙ c.eight_at-eight.ensures.ones);
  bits = bits-eight c.args.line.now c.loop-place.place c.loop-place.are_bits c.eight_at-eight.result.are_bits (omega (arith, c.loop-place.invariant.whole)) c.loop-place.invariant.within c.loop-place.invariant.bits c.eight_at-eight.ensures.bits;
}

pub returns-clause-ones : goal.returns-clause-ones
returns-clause-ones c =
    let first : c.loop-place.place ≡ c.args.start = omega (arith, c.loop-place.invariant.following) in
    subst (λ (n : ℕ). c.loop-place.ones ≡ word_of (drop n (map is_odd c.args.line.now))) first c.loop-place.invariant.ones

pub returns-clause-bits : goal.returns-clause-bits
returns-clause-bits c =
    let first : c.loop-place.place ≡ c.args.start = omega (arith, c.loop-place.invariant.following) in
    subst (λ (n : ℕ). c.loop-place.are_bits ≡ list_all is_bit (drop n c.args.line.now)) first c.loop-place.invariant.bits
