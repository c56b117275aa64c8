-- How much memory is reserved. Only contracts within this crate cite this.
use Rattle.std.specs.Prelude.{ℕ, ◌+◌, ◌*◌, ◌/◌}
use Rattle.plane_map.specs.declared.device.DeviceName.{DeviceName}
use Rattle.ice_image.specs.declared.planes.PlaneKind.{PlaneKind}
use Rattle.ice_image.specs.declared.planes.PlaneKind.TheVariants.{Cram, Bram}
use Rattle.ice_image.specs.Planes.{plane_width, plane_height}

-- how many bytes the rows of the four planes of a kind have
abbrev pub kind_size : PlaneKind → DeviceName → ℕ
kind_size kind device = 4 * (plane_width kind device * plane_height kind device / 8)

-- how many bytes the rows of all planes of a device have, each of which is written
abbrev pub planes_size : DeviceName → ℕ
planes_size device = kind_size Cram device + kind_size Bram device
