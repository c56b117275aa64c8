-- What a text configures has the layout of its device.
use Rattle.std.proofs.Common.{◌≡◌, ℕ, ◌∙◌, Bool, true, false, List, length, Option, Some, None, refl, sym, ap, subst}
use Rattle.text_lines.specs.Lines.{lines_of}
use Rattle.plane_map.specs.declared.device.DeviceName.{DeviceName}
use Rattle.layout_file.specs.declared.layouts.Layouts.{Layouts}
use Rattle.layout_file.specs.Layouts.{AreLayouts, HasLayout, layout_for}
use Rattle.layout_file.proofs.ByDevice.{own-layout}
use Rattle.ice_image.specs.Bits.{image_from}
use Rattle.ice_image.specs.Configuration.{Configuration}
use Rattle.asc_text.specs.Blocks.{device_before}
use Rattle.asc_text.specs.Meaning.{asc_image_of, image_for}
use Rattle.ice_pack.specs.Packed.{awake_where}

has_layout-for : (layouts : Layouts) → AreLayouts layouts → (lines : List (List ℕ)) (image : Configuration) (device : Option DeviceName) → image_for layouts device lines ≡ Some image → HasLayout layouts image.layout
unfolding image_from
has_layout-for layouts are lines image None is = absurd cc
has_layout-for layouts are lines image (Some device) is =
    let layout_is : layout_for layouts device ≡ image.layout = cc in
    ap (λ layout. layout_for layouts layout.device) (sym layout_is) ∙ own-layout layouts device are ∙ layout_is

has_layout : (layouts : Layouts) → AreLayouts layouts → (text : List ℕ) (image : Configuration) → asc_image_of layouts text ≡ Some image → HasLayout layouts image.layout
unfolding asc_image_of
has_layout layouts are text image is = has_layout-for layouts are (lines_of text) image (device_before (lines_of text) (length (lines_of text))) is

-- a flash that stays awake changes no layout
awake_layout : (no_sleep : Bool) (image : Configuration) → (awake_where no_sleep image).layout ≡ image.layout
awake_layout true image = refl
awake_layout false image = refl

pub has_layout_awake : (layouts : Layouts) → AreLayouts layouts → (text : List ℕ) (image awake : Configuration) (no_sleep : Bool) → asc_image_of layouts text ≡ Some image → awake ≡ awake_where no_sleep image → HasLayout layouts awake.layout
has_layout_awake layouts are text image awake no_sleep is same =
    let layout_is : image.layout ≡ awake.layout = sym (ap (λ (image : Configuration). image.layout) same ∙ awake_layout no_sleep image) in
    subst (HasLayout layouts) layout_is (has_layout layouts are text image is)
