-- The image of which all bits are set.
use Rattle.std.proofs.Common.{◌≡◌, ◌≢◌, ℕ, Bool, true, false, ◌&&◌, refl, sym, ap, ◌∙◌, subst, inl, inr, arith, None}
use Rattle.std.proofs.lemmas.Bool.{cases_Bool, both_ways, lt-ltb}
use Rattle.plane_map.specs.Layout.{Layout, standard_layout, grid_height, IsWordBit}
use Rattle.plane_map.specs.declared.device.DeviceName.{DeviceName}
use Rattle.plane_map.specs.declared.tile.Place.{Place}
use Rattle.plane_map.specs.declared.tile.WordBit.{WordBit}
use Rattle.ice_image.specs.Configuration.{Configuration, IsWhole, usual_settings}
use Rattle.ice_image.specs.Owned.{is_same_place, is_extra}
use Rattle.ice_image.specs.Bits.{Bit, OfTile, OfWord, Extra, IsBit, bit_of, IsSet}
use Rattle.ice_image.proofs.Bits.{image_from-is}
use Rattle.ice_image.proofs.Owned.{is_same_place-same, is_same_place-self}
use Rattle.ice_gen.specs.Database.{pad_drive}
use Rattle.ice_gen.specs.Image.{is_generated, generated_image}
use Rattle.ice_gen.specs.Inside.{IsFilled, word_turn, is_word_before}
use Rattle.plane_map.specs.declared.tile.TileKind.TheVariants.{RamB}
use Rattle.plane_map.proofs.Grids.{kind_of-inside}
use Rattle.ice_gen.proofs.Filled.{lower-narrow}

module _ (device : DeviceName) (seed : ℕ) where
  -- the bits that count when all tiles and all words are filled
  abbrev pub is_filled : Bit → Bool
  is_filled bit = is_word_before (word_turn 0 (grid_height device) 0 0) bit

  -- all bits of words are among them
  word-filled : (bit : WordBit) → IsWordBit device bit → is_filled (OfWord bit) ≡ true
  word-filled bit is =
      let inside = (kind_of-inside device bit.x bit.y RamB is.lower).1 in
      let narrow = (lower-narrow device bit.x bit.y is.lower).0 in
      lt-ltb (word_turn bit.x bit.y bit.word bit.bit) (word_turn 0 (grid_height device) 0 0) (omega (arith, is.bit_in, is.word_in, inside, narrow))

  -- an image whose extra bits are right too is the generated one
  generated-from : (before after : Configuration) → after.layout ≡ standard_layout device → after.comment ≡ None → after.settings ≡ usual_settings → IsWhole after
      → ((bit : Bit) → IsBit (standard_layout device) bit → bit_of before bit ≡ (is_filled bit && is_generated device seed bit))
      → ((bit : Bit) → IsBit (standard_layout device) bit → (is_filled bit ≡ true) → bit_of after bit ≡ bit_of before bit)
      → ((at : Place) → is_extra (standard_layout device) at ≡ true → bit_of after (Extra at) ≡ is_generated device seed (Extra at))
      → after ≡ generated_image device seed
  unfolding generated_image
  generated-from before after layout_is comment settings whole filled kept extra =
      image_from-is after (standard_layout device) None usual_settings (is_generated device seed) whole layout_is comment settings each
    where
      each : (bit : Bit) → IsBit (standard_layout device) bit → bit_of after bit ≡ is_generated device seed bit
      each (OfTile bit) is = kept (OfTile bit) is refl ∙ filled (OfTile bit) is
      each (OfWord bit) is = kept (OfWord bit) is (word-filled bit is) ∙ filled (OfWord bit) is ∙ ap (λ b. b && is_generated device seed (OfWord bit)) (word-filled bit is)
      each (Extra at) is = extra at is

  -- the bit of the pad is set
  pub generated-set : (at : Place) (before after : Configuration) → at ≡ pad_drive device → IsSet (Extra at) true before after → IsFilled device seed is_filled before → after ≡ generated_image device seed
  generated-set at before after at_is set filled =
      generated-from before after (set.others.layout ∙ filled.layout_is) (set.others.comment ∙ filled.comment) (set.others.settings ∙ filled.settings) set.others.whole filled.bits kept extra
    where
      in_before : (bit : Bit) → IsBit (standard_layout device) bit → IsBit before.layout bit
      in_before bit is = let P : Layout → Type 0 = λ l. IsBit l bit in subst P (sym filled.layout_is) is

      apart : (bit : Bit) → is_filled bit ≡ true → bit ≢ Extra at
      apart bit is same = both_ways (is_filled bit) (ap is_filled same) is

      kept : (bit : Bit) → IsBit (standard_layout device) bit → is_filled bit ≡ true → bit_of after bit ≡ bit_of before bit
      kept bit is counts = set.others.bits bit (in_before bit is) (apart bit counts)

      other_than : (other : Place) → is_same_place other at ≡ false → Extra other ≢ Extra at
      other_than other differs same = both_ways (is_same_place other at) differs (ap at_place same ∙ is_same_place-self at)
        where
          at_place : Bit → Bool
          at_place (Extra o) = is_same_place o at
          at_place bit = true

      extra : (other : Place) → is_extra (standard_layout device) other ≡ true → bit_of after (Extra other) ≡ is_generated device seed (Extra other)
      extra other is =
          let known : bit_of after (Extra other) ≡ is_same_place other at = elim (cases_Bool (is_same_place other at)) [
            | inr apart_from ↦ set.others.bits (Extra other) (in_before (Extra other) is) (other_than other apart_from) ∙ filled.bits (Extra other) is ∙ sym apart_from
            | inl same ↦ ap (λ o. bit_of after (Extra o)) (is_same_place-same other at same) ∙ set.set ∙ sym same
          ] in
          known ∙ ap (is_same_place other) at_is

  -- or there is no such bit
  pub generated-unset : (image : Configuration) → is_extra (standard_layout device) (pad_drive device) ≡ false → IsFilled device seed is_filled image → image ≡ generated_image device seed
  generated-unset image none filled =
      generated-from image image filled.layout_is filled.comment filled.settings filled.whole filled.bits (λ bit is counts. refl) extra
    where
      extra : (other : Place) → is_extra (standard_layout device) other ≡ true → bit_of image (Extra other) ≡ is_generated device seed (Extra other)
      extra other is = filled.bits (Extra other) is ∙ elim (cases_Bool (is_same_place other (pad_drive device))) [
        | inr apart_from ↦ sym apart_from
        | inl same ↦ absurd (both_ways (is_extra (standard_layout device) other) (ap (is_extra (standard_layout device)) (is_same_place-same other (pad_drive device) same) ∙ none) is)
      ]
