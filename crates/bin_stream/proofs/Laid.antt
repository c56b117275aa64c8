-- The layout of a device is one for it.
use Rattle.std.proofs.Common.{◌≡◌, Option, Some, None}
use Rattle.index_search.specs.Places.{or_else}
use Rattle.plane_map.specs.declared.device.DeviceName.{DeviceName}
use Rattle.layout_file.specs.declared.layouts.Layouts.{Layouts}
use Rattle.layout_file.specs.Layouts.{AreLayouts, layout_for}
use Rattle.ice_image.specs.declared.any.AnyImage.{AnyImage}
use Rattle.bin_stream.specs.inside.Step.{device_if, image_or_blank}

-- the image so far, or one without a bit, is for the device that is fixed
pub device_kept : (layouts : Layouts) (device : DeviceName) (image : Option AnyImage) (other : Option DeviceName) → AreLayouts layouts → or_else (device_if image) other ≡ Some device → (image_or_blank (layout_for layouts device) image).layout.device ≡ device
device_kept layouts device None other are chosen = are device
device_kept layouts device (Some image) other are chosen = cc
