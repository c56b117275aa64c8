-- Images that gain bits, by any test of them: none, one, or one gain after the other.
use Rattle.std.proofs.Common.{◌≡◌, Bool, true, false, ◌||◌, refl, sym, ap, ◌∙◌, subst, inl, inr}
use Rattle.std.proofs.lemmas.Bool.{cases_Bool, both_ways}
use Rattle.std.proofs.Math.Bool.{or-false, or-true, or_assoc}
use Rattle.plane_map.specs.Layout.{Layout}
use Rattle.ice_image.specs.Bits.{Bit, IsBit, bit_of, IsSet, Gains}
use Rattle.ice_image.specs.Configuration.{Configuration, IsWhole}

-- nothing is set
pub Gains-none : (test : Bit → Bool) (before : Configuration) → IsWhole before → ((bit : Bit) → IsBit before.layout bit → test bit ≡ false) → Gains test before before
Gains-none test before whole none = record { layout = refl; comment = refl; settings = refl; whole = whole; bits = λ bit is. sym (or-false (bit_of before bit)) ∙ ap (λ t. bit_of before bit || t) (sym (none bit is)) }

-- a test that only the bit passes that was set
pub Gains-set : (bit : Bit) (test : Bit → Bool) (before after : Configuration) → ((other : Bit) → test other ≡ true → other ≡ bit) → test bit ≡ true → IsSet bit true before after → Gains test before after
Gains-set bit test before after only passes set = record {
  layout = set.others.layout;
  comment = set.others.comment;
  settings = set.others.settings;
  whole = set.others.whole;
  bits = λ other is. elim (cases_Bool (test other)) [
    | inl here ↦
        let same : other ≡ bit = only other here in
        ap (bit_of after) same ∙ set.set ∙ sym (or-true (bit_of before other)) ∙ ap (λ t. bit_of before other || t) (sym here)
    | inr none ↦
        set.others.bits other is (λ same. both_ways (test other) none (ap test same ∙ passes))
        ∙ sym (or-false (bit_of before other)) ∙ ap (λ t. bit_of before other || t) (sym none)
  ];
}

-- one gain more
pub Gains-more : (one more both : Bit → Bool) (before now after : Configuration) → Gains one before now → Gains more now after → ((bit : Bit) → (one bit || more bit) ≡ both bit) → Gains both before after
Gains-more one more both before now after first next sum = record {
  layout = next.layout ∙ first.layout;
  comment = next.comment ∙ first.comment;
  settings = next.settings ∙ first.settings;
  whole = next.whole;
  bits = λ bit is.
      let P : Layout → Type 0 = λ layout. IsBit layout bit in
      next.bits bit (subst P (sym first.layout) is) ∙ ap (λ b. b || more bit) (first.bits bit is) ∙ or_assoc (bit_of before bit) (one bit) (more bit) ∙ ap (λ t. bit_of before bit || t) (sum bit);
}

-- the same bits by another test
pub Gains-same : (one other : Bit → Bool) (before after : Configuration) → Gains one before after → ((bit : Bit) → IsBit before.layout bit → one bit ≡ other bit) → Gains other before after
Gains-same one other before after gains same = record {
  layout = gains.layout;
  comment = gains.comment;
  settings = gains.settings;
  whole = gains.whole;
  bits = λ bit is. gains.bits bit is ∙ ap (λ t. bit_of before bit || t) (same bit is);
}
