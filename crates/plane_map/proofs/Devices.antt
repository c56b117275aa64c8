-- When two devices are one.
use Rattle.std.proofs.Common.{◌≡◌, true, false, refl}
use Rattle.plane_map.specs.declared.device.DeviceName.{DeviceName}
use Rattle.plane_map.specs.declared.device.DeviceName.TheVariants.{Lp384, Hx1k, Hx8k}
use Rattle.plane_map.specs.Devices.{is_same_device}

-- a device is the same as itself
pub same-device : (device : DeviceName) → is_same_device device device ≡ true
same-device Lp384 = refl
same-device Hx1k = refl
same-device Hx8k = refl

-- devices that are the same are one
pub one-device : (a b : DeviceName) → is_same_device a b ≡ true → a ≡ b
one-device Lp384 Lp384 same = refl
one-device Lp384 Hx1k same = absurd cc
one-device Lp384 Hx8k same = absurd cc
one-device Hx1k Lp384 same = absurd cc
one-device Hx1k Hx1k same = refl
one-device Hx1k Hx8k same = absurd cc
one-device Hx8k Lp384 same = absurd cc
one-device Hx8k Hx1k same = absurd cc
one-device Hx8k Hx8k same = refl

-- of two devices neither is the same as the other
pub other-device : (a b : DeviceName) → ¬ (a ≡ b) → is_same_device a b ≡ false
other-device Lp384 Lp384 other = absurd (other refl)
other-device Lp384 Hx1k other = refl
other-device Lp384 Hx8k other = refl
other-device Hx1k Lp384 other = refl
other-device Hx1k Hx1k other = absurd (other refl)
other-device Hx1k Hx8k other = refl
other-device Hx8k Lp384 other = refl
other-device Hx8k Hx1k other = refl
other-device Hx8k Hx8k other = absurd (other refl)
