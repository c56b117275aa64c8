-- The commands of an image's canonical bytes.
use Rattle.std.proofs.Common.{◌≡◌, ℕ, ◌+◌, ◌-◌, ◌*◌, Bool, true, false, List, [], ◌∷◌, ◌++◌, take, length, drop, refl, sym, ap, ap₂, ◌∙◌, append_assoc, append-nil}
use Rattle.std.proofs.lemmas.List.Concat.{flat_map-append}
use Rattle.std.specs.Prelude.{flat_map, if◌then◌else◌}
use Rattle.bit_plane.specs.BitList.{bit_value}
use Rattle.plane_map.specs.Layout.{cram_width, cram_height, bram_width}
use Rattle.plane_map.specs.declared.device.DeviceName.{DeviceName}
use Rattle.ice_image.specs.Configuration.{Configuration, bank_rows}
use Rattle.ice_image.specs.declared.planes.PlaneKind.TheVariants.{Cram, Bram}
use Rattle.bin_stream.specs.Commands.{Command, spelling, spelled, Short, Data, control_opcode, bank_opcode, check_opcode, range_opcode, width_opcode, height_opcode, offset_opcode, mode_opcode}
use Rattle.bin_stream.specs.State.{has_rows}
use Rattle.bin_stream.specs.CanonicalBytes.{two_bytes, row_bytes, reset_command, mode_command, bank_command, width_command, height_command, offset_command, wake_up_command, cram_bank, bram_half, bram_bank, four_banks, check_head, checked_bytes, cram_bytes, ram_bytes, bram_bytes}

-- a bank's configuration plane, by its bytes
abbrev pub cram_part : (ℕ → List ℕ) → ℕ → List Command
cram_part cram number = Short bank_opcode (number ∷ []) ∷ Data Cram (1 ∷ []) (cram number) ∷ []

-- a bank's RAM plane, by the bytes of the halves that begin at an offset
abbrev pub bram_part : (ℕ → ℕ → List ℕ) → ℕ → List Command
bram_part bram number =
    Short bank_opcode (number ∷ [])
    ∷ Short offset_opcode (two_bytes 0) ∷ Data Bram (3 ∷ []) (bram number 0)
    ∷ Short offset_opcode (two_bytes 128) ∷ Data Bram (3 ∷ []) (bram number 128)
    ∷ []

-- the commands of the mode and the configuration planes
abbrev pub cram_commands : DeviceName → ℕ → (ℕ → List ℕ) → List Command
cram_commands device mode_value cram =
    Short mode_opcode (0 ∷ mode_value ∷ [])
    ∷ Short width_opcode (two_bytes (cram_width device - 1)) ∷ Short height_opcode (two_bytes (cram_height device)) ∷ Short offset_opcode (two_bytes 0)
    ∷ flat_map (cram_part cram) four_banks

-- the commands of the RAM planes, if there is RAM
abbrev pub ram_commands : Bool → DeviceName → (ℕ → ℕ → List ℕ) → List Command
ram_commands false device bram = []
ram_commands true device bram =
    Short width_opcode (two_bytes (bram_width device - 1)) ∷ Short height_opcode (two_bytes 128)
    ∷ flat_map (bram_part bram) four_banks

-- the commands between the reset and the check
abbrev pub checked_commands : DeviceName → ℕ → (ℕ → List ℕ) → (ℕ → ℕ → List ℕ) → List Command
checked_commands device mode_value cram bram = cram_commands device mode_value cram ++ ram_commands (has_rows Bram device) device bram

-- the commands before those of the RAM planes
abbrev pub before_ram : DeviceName → ℕ → ℕ → (ℕ → List ℕ) → List Command
before_ram device range_value mode_value cram = Short range_opcode (range_value ∷ []) ∷ Short control_opcode (5 ∷ []) ∷ cram_commands device mode_value cram

-- the commands before the check
abbrev pub before_check : DeviceName → ℕ → ℕ → (ℕ → List ℕ) → (ℕ → ℕ → List ℕ) → List Command
before_check device range_value mode_value cram bram = before_ram device range_value mode_value cram ++ ram_commands (has_rows Bram device) device bram

-- the commands before the wake-up
abbrev pub before_wake_up : DeviceName → ℕ → ℕ → (ℕ → List ℕ) → (ℕ → ℕ → List ℕ) → List ℕ → List Command
before_wake_up device range_value mode_value cram bram check_payload = before_check device range_value mode_value cram bram ++ Short check_opcode check_payload ∷ []

abbrev pub wake_up : Command
wake_up = Short control_opcode (6 ∷ [])

-- all commands
abbrev pub all_commands : DeviceName → ℕ → ℕ → (ℕ → List ℕ) → (ℕ → ℕ → List ℕ) → List ℕ → List Command
all_commands device range_value mode_value cram bram check_payload = before_wake_up device range_value mode_value cram bram check_payload ++ wake_up ∷ []

-- the bytes of an image's configuration planes
abbrev pub cram_bodies : Configuration → ℕ → List ℕ
cram_bodies c number = row_bytes (bank_rows c.cram number)

-- the bytes of the halves of an image's RAM planes
abbrev pub bram_bodies : Configuration → ℕ → ℕ → List ℕ
bram_bodies c number first = row_bytes (take 128 (drop first (bank_rows c.bram number)))

-- the mode of an image
abbrev pub mode_bits : Configuration → ℕ
mode_bits c = 32 * bit_value c.settings.warm_boot + bit_value c.settings.no_sleep

-- ---- their bytes

-- parts that are spelled one by one are spelled as a whole
spelled-parts : (part : ℕ → List Command) (bytes : ℕ → List ℕ) → ((n : ℕ) → flat_map spelling (part n) ≡ bytes n) → (ns : List ℕ) → flat_map spelling (flat_map part ns) ≡ flat_map bytes ns
spelled-parts part bytes same [] = refl
spelled-parts part bytes same (n ∷ ns) =
    flat_map-append spelling (part n) (flat_map part ns)
    ∙ ap₂ (λ (first more : List ℕ). first ++ more) (same n) (spelled-parts part bytes same ns)

-- a bank's configuration plane
spelled-cram : (c : Configuration) (number : ℕ) → flat_map spelling (cram_part (cram_bodies c) number) ≡ cram_bank c.cram number
spelled-cram c number =
    ap (λ more. bank_command number ++ (1 ∷ 1 ∷ more)) (append-nil (cram_bodies c number ++ 0 ∷ 0 ∷ []))

-- a bank's RAM plane
spelled-bram : (c : Configuration) (number : ℕ) → flat_map spelling (bram_part (bram_bodies c) number) ≡ bram_bank c.bram number
spelled-bram c number =
    ap (λ more. bank_command number ++ bram_half c.bram number 0 ++ (offset_command 128 ++ (1 ∷ 3 ∷ more))) (append-nil (bram_bodies c number 128 ++ 0 ∷ 0 ∷ []))

-- the RAM planes, if there is RAM
spelled-ram : (c : Configuration) (ram : Bool) → flat_map spelling (ram_commands ram c.layout.device (bram_bodies c)) ≡ (if ram then ram_bytes c.layout.device c.bram else [])
spelled-ram c false = refl
spelled-ram c true =
    ap (λ more. width_command (bram_width c.layout.device) ++ height_command 128 ++ more) (spelled-parts (bram_part (bram_bodies c)) (bram_bank c.bram) (spelled-bram c) four_banks)

-- an image's commands between the reset and the check are spelled by the checked bytes
pub checked-is : (c : Configuration) → spelled (checked_commands c.layout.device (mode_bits c) (cram_bodies c) (bram_bodies c)) ++ check_head ≡ checked_bytes c
unfolding spelled checked_bytes cram_bytes bram_bytes
checked-is c =
    let device = c.layout.device in
    let crams = cram_commands device (mode_bits c) (cram_bodies c) in
    let rams = ram_commands (has_rows Bram device) device (bram_bodies c) in
    let cram_is : flat_map spelling crams ≡ mode_command c.settings.warm_boot c.settings.no_sleep ++ cram_bytes device c.cram =
    ap (λ more. mode_command c.settings.warm_boot c.settings.no_sleep ++ width_command (cram_width device) ++ height_command (cram_height device) ++ offset_command 0 ++ more) (spelled-parts (cram_part (cram_bodies c)) (cram_bank c.cram) (spelled-cram c) four_banks) in
    ap (λ bytes. bytes ++ check_head) (flat_map-append spelling crams rams ∙ ap₂ (λ (first more : List ℕ). first ++ more) cram_is (spelled-ram c (has_rows Bram device)))

-- all commands
pub spelled-all_commands : (c : Configuration) (range_value : ℕ) (check_payload : List ℕ) → length check_payload ≡ 2 → spelled (all_commands c.layout.device range_value (mode_bits c) (cram_bodies c) (bram_bodies c) check_payload) ≡ spelling (Short range_opcode (range_value ∷ [])) ++ reset_command ++ checked_bytes c ++ check_payload ++ wake_up_command
unfolding spelled
spelled-all_commands c range_value check_payload long =
    let inside = checked_commands c.layout.device (mode_bits c) (cram_bodies c) (bram_bodies c) in
    let head : flat_map spelling (Short check_opcode check_payload ∷ wake_up ∷ []) ≡ check_head ++ (check_payload ++ wake_up_command) = ap (λ n. (16 * 2 + n) ∷ (check_payload ++ wake_up_command)) long in
    let rest : flat_map spelling (inside ++ Short check_opcode check_payload ∷ wake_up ∷ []) ≡ checked_bytes c ++ (check_payload ++ wake_up_command) =
    flat_map-append spelling inside (Short check_opcode check_payload ∷ wake_up ∷ [])
    ∙ ap (λ more. flat_map spelling inside ++ more) head
    ∙ sym (append_assoc (flat_map spelling inside) check_head (check_payload ++ wake_up_command))
    ∙ ap (λ bytes. bytes ++ (check_payload ++ wake_up_command)) (checked-is c) in
    ap (λ more. spelling (Short range_opcode (range_value ∷ [])) ++ reset_command ++ more) (ap (flat_map spelling) (append_assoc inside (Short check_opcode check_payload ∷ []) (wake_up ∷ [])) ∙ rest)
    ∙ sym (append_assoc (spelling (Short range_opcode (range_value ∷ [])) ++ reset_command ++ checked_bytes c) check_payload wake_up_command)
