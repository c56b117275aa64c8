use Rattle.std.proofs.Common.{◌≡◌, ◌%◌, subst}
use Rattle.narrow_words.proofs.Bits.{high-inside}
use Rattle.narrow_words.proofs.got_bit.Goals as goal

pub bit_at-requires : goal.bit_at-requires
bit_at-requires c =
    record {
      few = high-inside c.args.mode c.args.high c.args.b c.requires.mode c.requires.high c.requires.few
          (subst (λ s. c.args.b % s ≡ 0) c.share.ensures.is c.if-b-share-eq0.true);
    }
