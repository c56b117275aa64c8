-- The image of a generated design has the standard layout.
use Rattle.std.proofs.Common.{ℕ, refl}
use Rattle.plane_map.specs.declared.device.DeviceName.{DeviceName}
use Rattle.plane_map.specs.declared.device.DeviceName.TheVariants.{Lp384, Hx1k, Hx8k}
use Rattle.plane_map.specs.Layout.{standard_layout}
use Rattle.layout_file.specs.Layouts.{HasLayout, standard_layouts}
use Rattle.ice_image.specs.Bits.{image_from}
use Rattle.ice_gen.specs.Image.{generated_image}

has-standard : (device : DeviceName) → HasLayout standard_layouts (standard_layout device)
has-standard Lp384 = refl
has-standard Hx1k = refl
has-standard Hx8k = refl

pub image-standard : (device : DeviceName) (seed : ℕ) → HasLayout standard_layouts (generated_image device seed).layout
unfolding generated_image image_from
image-standard device seed = has-standard device
