-- Why images aren't joined: the first cause that applies.
use Rattle.std.specs.Prelude.{◌≡◌, ℕ, ◌^◌, List, length, find, nat_lt, nat_le, ◌==◌, if◌then◌else◌, Option, Some, None}
use Rattle.std.specs.List.{range_with_len}
use Rattle.std.specs.Option.{option_or, option_map}
use Rattle.boot_file.specs.declared.options.Options.{Options}
use Rattle.boot_file.specs.declared.multi_fault.MultiFault.{MultiFault}
use Rattle.boot_file.specs.declared.multi_fault.MultiFault.TheVariants.{NoImage, TooMany, Align, PowerOn, Address, Memory}
use Rattle.boot_file.specs.BootFile.{place_of}

-- no alignment is above 2 ^ 24
abbrev pub align_fault : Option ℕ → Option MultiFault
align_fault None = None
align_fault (Some n) = if nat_lt 24 n then Some (Align n) else None

-- the causes that follow from the number of images and the options alone
unfoldable pub check_fault : ℕ → Options → Option MultiFault
check_fault count options =
    if count == 0 then Some NoImage
    else if nat_lt 4 count then Some (TooMany count)
    else option_or (align_fault options.align)
    (if nat_lt options.power_on count then None else Some (PowerOn options.power_on))

-- the first image whose address doesn't fit three bytes
abbrev pub address_fault : List (List ℕ) → Options → Option MultiFault
address_fault images options =
    option_map Address (find (λ index. nat_le (2 ^ 24) (place_of images options index)) (range_with_len 0 (length images)))

-- the first cause of all
abbrev pub join_fault : List (List ℕ) → Options → Option MultiFault
join_fault images options = option_or (check_fault (length images) options) (address_fault images options)

-- a refusal is this one, unless memory ran out
abbrev pub Tells : Option MultiFault → MultiFault → Type 0
Tells fault (Memory e) = Unit {0}
Tells fault told = fault ≡ Some told
