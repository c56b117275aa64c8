-- The bits of an image, with one line more.
use Rattle.std.proofs.Common.{◌≡◌, ℕ, ◌+◌, Bool, false, ◌||◌, List, refl, sym, ap, ◌∙◌, subst}
use Rattle.std.specs.Prelude.{Option, Some, None}
use Rattle.std.proofs.Math.Bool.{or-false}
use Rattle.text_lines.specs.Lines.{line_at, trimmed}
use Rattle.index_search.specs.Places.{any_below}
use Rattle.index_search.proofs.Places.{any_below-more}
use Rattle.layout_file.specs.declared.layouts.Layouts.{Layouts}
use Rattle.plane_map.specs.Layout.{Layout}
use Rattle.plane_map.specs.declared.device.DeviceName.{DeviceName}
use Rattle.ice_image.specs.Bits.{Bit, IsBit, bit_of}
use Rattle.ice_image.specs.Configuration.{Configuration}
use Rattle.ice_image.specs.Either.{device_of}
use Rattle.layout_file.specs.Layouts.{layout_for, AreLayouts}
use Rattle.ice_image.specs.declared.any.AnyImage.{AnyImage}
use Rattle.ice_image.proofs.Bits.{bit_of-blank}
use Rattle.asc_text.specs.Blocks.{depth_at, statement_over}
use Rattle.asc_text.specs.Meaning.{sets_bit, is_set_before}
use Rattle.asc_text.specs.inside.Reading.{ImageGains, IsBlank}
use Rattle.asc_text.proofs.HasRead.{SetsNone, HasImage}

-- what a line sets
abbrev pub set_here : List (List ℕ) → ℕ → Bit → Bool
set_here lines n bit = sets_bit (statement_over lines n) (depth_at lines n) (trimmed (line_at lines n)) bit

abbrev pub SetsNo : List (List ℕ) → ℕ → Type 0
SetsNo lines n = (bit : Bit) → set_here lines n bit ≡ false

set-more : (lines : List (List ℕ)) (n : ℕ) (bit : Bit) → is_set_before lines (n + 1) bit ≡ (is_set_before lines n bit || set_here lines n bit)
unfolding is_set_before
set-more lines n bit = any_below-more n (λ k. set_here lines k bit)

set-same : (lines : List (List ℕ)) (n : ℕ) → SetsNo lines n → (bit : Bit) → is_set_before lines (n + 1) bit ≡ is_set_before lines n bit
set-same lines n none bit = set-more lines n bit ∙ ap (λ b. is_set_before lines n bit || b) (none bit) ∙ or-false (is_set_before lines n bit)

-- a line that sets no bit
pub image-stays : (layouts : Layouts) (lines : List (List ℕ)) (n : ℕ) (image : Option AnyImage) → HasImage layouts lines n image → SetsNo lines n → HasImage layouts lines (n + 1) image
image-stays layouts lines n None has none = λ bit. set-same lines n none bit ∙ has bit
image-stays layouts lines n (Some image) has none = record {
  layout = has.layout;
  whole = has.whole;
  bits = λ bit is. has.bits bit is ∙ sym (set-same lines n none bit);
}

-- a blank image under a device's layout is for the device
pub blank-device : (layouts : Layouts) (device : DeviceName) (image : AnyImage) → AreLayouts layouts → IsBlank layouts (Some device) (Some image) → device_of image ≡ device
blank-device layouts device image are blank = ap (λ (c : Configuration). c.layout.device) blank.0 ∙ are device

-- the statement of the device
pub image-begins : (layouts : Layouts) (lines : List (List ℕ)) (n : ℕ) (device : Option DeviceName) (image : Option AnyImage) → AreLayouts layouts → HasImage layouts lines n None → IsBlank layouts device image → SetsNo lines n → HasImage layouts lines (n + 1) image
image-begins layouts lines n None image are has blank none = absurd blank
image-begins layouts lines n (Some device) None are has blank none = absurd blank
image-begins layouts lines n (Some device) (Some image) are has blank none =
    let layout = layout_for layouts device in
    record {
      layout = ap (λ (c : Configuration). c.layout) blank.0 ∙ ap (layout_for layouts) (sym (blank-device layouts device image are blank));
      whole = blank.1;
      bits = λ bit is.
          let P : Configuration → Type 0 = λ c. IsBit c.layout bit in
          ap (λ (c : Configuration). bit_of c bit) blank.0 ∙ bit_of-blank layout bit (subst P blank.0 is) ∙ sym (set-same lines n none bit ∙ has bit);
    }

-- a line that sets bits
pub image-gains : (layouts : Layouts) (lines : List (List ℕ)) (n : ℕ) (before after : Option AnyImage) (is_set : Bit → Bool) → HasImage layouts lines n before → ImageGains before after is_set
    → ((bit : Bit) → is_set bit ≡ set_here lines n bit) → HasImage layouts lines (n + 1) after
image-gains layouts lines n None after is_set has gains same = absurd gains
image-gains layouts lines n (Some before) None is_set has gains same = absurd gains
image-gains layouts lines n (Some before) (Some after) is_set has gains same = record {
  layout = gains.gains.layout ∙ has.layout ∙ ap (layout_for layouts) (sym gains.device);
  whole = gains.gains.whole;
  bits = λ bit is.
      let P : Layout → Type 0 = λ layout. IsBit layout bit in
      let there = subst P gains.gains.layout is in
      gains.gains.bits bit there
      ∙ ap (λ b. b || is_set bit) (has.bits bit there)
      ∙ ap (λ b. is_set_before lines n bit || b) (same bit)
      ∙ sym (set-more lines n bit);
}

-- nothing was read
pub SetsNone-none : (lines : List (List ℕ)) → SetsNone lines 0
unfolding is_set_before any_below
SetsNone-none lines = λ bit. refl
