use Rattle.std.proofs.Common.{◌≡◌, ℕ, ◌*◌, ◌+◌, ◌∙◌, refl, arith, subst}
use Rattle.ice_image.specs.Either.{configuration_of}
use Rattle.ice_image.specs.Bits.{Gains, word_ones}
use Rattle.asc_text.specs.inside.Gains.{word_in, bytes_set, bytes_set_below}
use Rattle.asc_text.proofs.Gains.{Gains-none, Gains-more, Gains-same, bytes-none, bytes-more, bytes-all}
use Rattle.asc_text.proofs.reading.bits.set_memory_line.Goals as goal

pub loop-index-init : goal.loop-index-init
loop-index-init c =
    (refl, Gains-none (bytes_set_below c.args.x c.args.y c.args.row c.args.bytes.now 0) (configuration_of c.args.image.now) c.device-device.ensures.whole (bytes-none c.args.x c.args.y c.args.row c.args.bytes.now))

pub loop-index-preserved : goal.loop-index-preserved
loop-index-preserved c =
    let args = c.args in
    let n = c.loop-index.index in
    let before = configuration_of c.loop-index.image in
    let after = configuration_of c.set_word_ones.new.self in
    let next = subst (λ (value : ℕ). Gains (word_ones args.x args.y (16 * args.row + n) value) before after) c.word_in.ensures c.set_word_ones.ensures.bits in (
      c.set_word_ones.ensures.device ∙ c.loop-index.invariant.0,
      Gains-more (bytes_set_below args.x args.y args.row args.bytes.now n) (word_ones args.x args.y (16 * args.row + n) (word_in args.bytes.now n)) (bytes_set_below args.x args.y args.row args.bytes.now (n + 1))
          (configuration_of args.image.now) before after c.loop-index.invariant.1 next (λ bit. bytes-more args.x args.y args.row args.bytes.now n bit (omega arith)),
    )

pub returns-clause-bits : goal.returns-clause-bits
returns-clause-bits c =
    let args = c.args in
    let before = configuration_of args.image.now in
    let after = configuration_of c.loop-index.image in
    let last : c.loop-index.index ≡ 16 = omega arith in
    let all = subst (λ (n : ℕ). Gains (bytes_set_below args.x args.y args.row args.bytes.now n) before after) last c.loop-index.invariant.1 in
    Gains-same (bytes_set_below args.x args.y args.row args.bytes.now 16) (bytes_set args.x args.y args.row args.bytes.now) before after all (λ bit is. bytes-all args.x args.y args.row args.bytes.now bit)
