-- An image of any device as data.
use Rattle.ice_image.specs.Configuration.{Configuration}
use Rattle.ice_image.specs.declared.any.AnyImage.{AnyImage}
use Rattle.ice_image.specs.declared.any.AnyImage.TheVariants.{Lp384, Hx1k, Hx8k}
use Rattle.plane_map.specs.declared.device.DeviceName.{DeviceName}

-- what the image configures
abbrev pub configuration_of : AnyImage → Configuration
configuration_of (Lp384 image) = image
configuration_of (Hx1k image) = image
configuration_of (Hx8k image) = image

-- the device that it is for
abbrev pub device_of : AnyImage → DeviceName
device_of image = (configuration_of image).layout.device
