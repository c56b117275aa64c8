-- The canonical bytes of an image spell that image.
use Rattle.std.proofs.Common.{◌≡◌, ℕ, ◌+◌, ◌*◌, ◌/◌, ◌%◌, ◌<◌, ◌==◌, Bool, true, false, not, List, [], ◌∷◌, ◌++◌, take, drop, refl, sym, ap, ◌∙◌, subst, arith, append_assoc}
use Rattle.std.specs.Prelude.{Some}
use Rattle.std.specs.List.{list_all}
use Rattle.std.proofs.lemmas.Bool.{not-true}
use Rattle.std.proofs.lemmas.List.Concat.{flat_map-append}
use Rattle.std.proofs.lemmas.List.Elements.{All-weaker}
use Rattle.std.proofs.lemmas.List.Sums.{AllPass-from_list_all}
use Rattle.index_search.specs.Places.{last_below, first_below}
use Rattle.bit_plane.specs.BitList.{bit_value, bits_of, byte_bits}
use Rattle.bit_plane.specs.Rows.{IsGrid}
use Rattle.plane_map.specs.declared.device.DeviceName.{DeviceName}
use Rattle.plane_map.specs.declared.device.DeviceName.TheVariants.{Lp384, Hx1k, Hx8k}
use Rattle.layout_file.specs.declared.layouts.Layouts.{Layouts}
use Rattle.layout_file.specs.Layouts.{HasLayout}
use Rattle.ice_image.specs.Configuration.{Configuration, IsWhole, bank_rows}
use Rattle.ice_image.specs.declared.settings.Range.{Range}
use Rattle.ice_image.specs.declared.settings.Range.TheVariants.{Low, Medium, High}
use Rattle.plane_map.specs.Layout.{cram_width, cram_height, bram_width}
use Rattle.bin_stream.specs.CheckValue.{check_value}
use Rattle.bin_stream.specs.Commands.{Command, Short, spelled, spelling, check_opcode, is_wake_up, number_of}
use Rattle.bin_stream.specs.State.{last_of, width_after, device_after, covered, range_after, mode_after}
use Rattle.bin_stream.specs.Refusals.{check_found, is_mode}
use Rattle.bin_stream.specs.Front.{preamble}
use Rattle.bin_stream.specs.Meaning.{meaning, range_of, settings_of}
use Rattle.bin_stream.specs.Spelling.{Spells, IsFront, NoWakeUp}
use Rattle.bin_stream.specs.CanonicalBytes.{canonical_bytes, checked_bytes, comment_bytes, two_bytes, range_number, check_head, reset_command, wake_up_command, range_command}
use Rattle.bin_stream.proofs.CanonicalCommands.{checked_commands, before_check, before_wake_up, wake_up, all_commands, mode_bits, cram_bodies, bram_bodies, checked-is, spelled-all_commands}
use Rattle.bin_stream.proofs.CheckLaw.{check_value-own}
use Rattle.bin_stream.proofs.FrontPlace.{front_place}
use Rattle.bin_stream.proofs.CommentBack.{HasCommentLines, comment_of-bytes, front-clear}
use Rattle.bin_stream.proofs.PlanesBack.{length-row_bytes, bram-tall, cram_back, bram_back}
use Rattle.bin_stream.proofs.CanonicalAllowed.{AreFit, allowed}
use Rattle.bin_stream.proofs.Runs.{IsGrid-run}

-- ---- settings

-- the range that was written is read
range-back : (range : Range) → range_of (number_of (range_number range ∷ [])) ≡ range
range-back Low = refl
range-back Medium = refl
range-back High = refl

range_number-below : (range : Range) → range_number range < 3
range_number-below Low = omega arith
range_number-below Medium = omega arith
range_number-below High = omega arith

-- the mode that was written is read
mode-known : (warm_boot no_sleep : Bool) → is_mode (32 * bit_value warm_boot + bit_value no_sleep) ≡ true
mode-known false false = refl
mode-known false true = refl
mode-known true false = refl
mode-known true true = refl

warm_boot-back : (warm_boot no_sleep : Bool) → ((32 * bit_value warm_boot + bit_value no_sleep) / 32 % 2 == 1) ≡ warm_boot
warm_boot-back false false = refl
warm_boot-back false true = refl
warm_boot-back true false = refl
warm_boot-back true true = refl

no_sleep-back : (warm_boot no_sleep : Bool) → ((32 * bit_value warm_boot + bit_value no_sleep) % 2 == 1) ≡ no_sleep
no_sleep-back false false = refl
no_sleep-back false true = refl
no_sleep-back true false = refl
no_sleep-back true true = refl

-- what the canonical commands leave
range-after : (device : DeviceName) (range_value mode_value : ℕ) (cram : ℕ → List ℕ) (bram : ℕ → ℕ → List ℕ) (check_payload : List ℕ) → range_after (all_commands device range_value mode_value cram bram check_payload) ≡ number_of (range_value ∷ [])
unfolding last_below last_of
range-after Lp384 range_value mode_value cram bram check_payload = refl
range-after Hx1k range_value mode_value cram bram check_payload = refl
range-after Hx8k range_value mode_value cram bram check_payload = refl

mode-after : (device : DeviceName) (range_value mode_value : ℕ) (cram : ℕ → List ℕ) (bram : ℕ → ℕ → List ℕ) (check_payload : List ℕ) → mode_after (all_commands device range_value mode_value cram bram check_payload) ≡ mode_value
unfolding last_below last_of
mode-after Lp384 range_value mode_value cram bram check_payload = let e : number_of (0 ∷ mode_value ∷ []) ≡ mode_value = omega arith in e
mode-after Hx1k range_value mode_value cram bram check_payload = let e : number_of (0 ∷ mode_value ∷ []) ≡ mode_value = omega arith in e
mode-after Hx8k range_value mode_value cram bram check_payload = let e : number_of (0 ∷ mode_value ∷ []) ≡ mode_value = omega arith in e

-- the device is that of the first data
device-after : (device : DeviceName) (range_value mode_value : ℕ) (cram : ℕ → List ℕ) (bram : ℕ → ℕ → List ℕ) (check_payload : List ℕ) → device_after (before_wake_up device range_value mode_value cram bram check_payload) ≡ Some device
unfolding last_below first_below last_of width_after device_after
device-after Lp384 range_value mode_value cram bram check_payload = refl
device-after Hx1k range_value mode_value cram bram check_payload = refl
device-after Hx8k range_value mode_value cram bram check_payload = refl

-- ---- the wake-up

-- no command before it is one
none_wakes : (device : DeviceName) (range_value mode_value : ℕ) (cram : ℕ → List ℕ) (bram : ℕ → ℕ → List ℕ) (check_payload : List ℕ) → list_all (λ command. not (is_wake_up command)) (before_wake_up device range_value mode_value cram bram check_payload) ≡ true
none_wakes Lp384 range_value mode_value cram bram check_payload = refl
none_wakes Hx1k range_value mode_value cram bram check_payload = refl
none_wakes Hx8k range_value mode_value cram bram check_payload = refl

no_wake_up-before : (device : DeviceName) (range_value mode_value : ℕ) (cram : ℕ → List ℕ) (bram : ℕ → ℕ → List ℕ) (check_payload : List ℕ) → NoWakeUp (before_wake_up device range_value mode_value cram bram check_payload)
no_wake_up-before device range_value mode_value cram bram check_payload =
    let commands = before_wake_up device range_value mode_value cram bram check_payload in
    let none = none_wakes device range_value mode_value cram bram check_payload in
    All-weaker (λ command. not (is_wake_up command) ≡ true) (λ command. is_wake_up command ≡ false) (λ command. not-true (is_wake_up command)) commands (AllPass-from_list_all (λ command. not (is_wake_up command)) commands none)

-- ---- the check

-- the check covers what stands after the reset
covered-is : (device : DeviceName) (range_value mode_value : ℕ) (cram : ℕ → List ℕ) (bram : ℕ → ℕ → List ℕ) → covered (before_check device range_value mode_value cram bram) ≡ spelled (checked_commands device mode_value cram bram)
unfolding last_below covered
covered-is Lp384 range_value mode_value cram bram = refl
covered-is Hx1k range_value mode_value cram bram = refl
covered-is Hx8k range_value mode_value cram bram = refl

-- the two bytes of an image's check
abbrev pub value_bytes : Configuration → List ℕ
value_bytes c = two_bytes (check_value (bits_of (checked_bytes c)))

-- the check passes
check-passes : (c : Configuration) (range_value : ℕ) → check_found (before_check c.layout.device range_value (mode_bits c) (cram_bodies c) (bram_bodies c)) (Short check_opcode (value_bytes c)) ≡ 0
check-passes c range_value =
    let inside = spelled (checked_commands c.layout.device (mode_bits c) (cram_bodies c) (bram_bodies c)) in
    let bytes : covered (before_check c.layout.device range_value (mode_bits c) (cram_bodies c) (bram_bodies c)) ++ spelling (Short check_opcode (value_bytes c)) ≡ checked_bytes c ++ value_bytes c =
    ap (λ before. before ++ (check_head ++ value_bytes c)) (covered-is c.layout.device range_value (mode_bits c) (cram_bodies c) (bram_bodies c))
    ∙ sym (append_assoc inside check_head (value_bytes c))
    ∙ ap (λ before. before ++ value_bytes c) (checked-is c) in
    ap (λ bytes. check_value (bits_of bytes)) bytes
    ∙ ap check_value (flat_map-append byte_bits (checked_bytes c) (value_bytes c))
    ∙ check_value-own (bits_of (checked_bytes c))

-- ---- all together

-- the commands of an image
abbrev pub commands_of : Configuration → List Command
commands_of c = before_wake_up c.layout.device (range_number c.settings.range) (mode_bits c) (cram_bodies c) (bram_bodies c) (value_bytes c)

-- payloads and bodies are as they are to be
fit-is : (c : Configuration) → IsWhole c → AreFit c.layout.device (range_number c.settings.range) (mode_bits c) (cram_bodies c) (bram_bodies c) (value_bytes c)
fit-is c is = record {
  range_in = range_number-below c.settings.range;
  mode_in = mode-known c.settings.warm_boot c.settings.no_sleep;
  cram_sizes = λ bank in_bank. length-row_bytes (cram_width c.layout.device) (cram_height c.layout.device) (bank_rows c.cram bank) (is.cram.grids bank in_bank);
  bram_sizes = λ has bank first in_bank low.
      let grid : IsGrid (bram_width c.layout.device) 256 (bank_rows c.bram bank) = subst (λ height. IsGrid (bram_width c.layout.device) height (bank_rows c.bram bank)) (bram-tall c.layout.device has) (is.bram.grids bank in_bank) in
      length-row_bytes (bram_width c.layout.device) 128 (take 128 (drop first (bank_rows c.bram bank))) (IsGrid-run (bram_width c.layout.device) 256 first 128 (bank_rows c.bram bank) grid (omega arith));
  check_long = refl;
  check_passes = check-passes c (range_number c.settings.range);
}

-- parts of a stream, grouped otherwise
after_front : (front a b c d e : List ℕ) → front ++ a ++ b ++ c ++ d ++ e ≡ front ++ (a ++ b ++ c ++ d ++ e)
after_front front a b c d e = simp append_assoc

four_parts : (a b c d : List ℕ) → a ++ b ++ c ++ d ≡ a ++ (b ++ (c ++ d))
four_parts a b c d = simp append_assoc

-- the canonical bytes are what stands before the preamble, the preamble, the commands and a byte 00
bytes-are : (c : Configuration) → canonical_bytes c ≡ comment_bytes c.comment ++ preamble ++ spelled (commands_of c ++ wake_up ∷ []) ++ 0 ∷ []
unfolding canonical_bytes
bytes-are c =
    let front = comment_bytes c.comment ++ preamble in
    let first = range_command c.settings.range in
    ap (λ bytes. bytes ++ 0 ∷ []) (after_front front first reset_command (checked_bytes c) (value_bytes c) wake_up_command ∙ ap (λ bytes. front ++ bytes) (sym (spelled-all_commands c (range_number c.settings.range) (value_bytes c) refl)))

-- the settings that were written are read
settings-back : (c : Configuration) → settings_of (commands_of c ++ wake_up ∷ []) ≡ c.settings
settings-back c =
    let commands = commands_of c ++ wake_up ∷ [] in
    let range_value = range_number c.settings.range in
    let mode-is : mode_after commands ≡ mode_bits c = mode-after c.layout.device range_value (mode_bits c) (cram_bodies c) (bram_bodies c) (value_bytes c) in
    let range-is : range_of (range_after commands) ≡ c.settings.range = ap range_of (range-after c.layout.device range_value (mode_bits c) (cram_bodies c) (bram_bodies c) (value_bytes c)) ∙ range-back c.settings.range in
    let warm-is : (mode_after commands / 32 % 2 == 1) ≡ c.settings.warm_boot = ap (λ n. n / 32 % 2 == 1) mode-is ∙ warm_boot-back c.settings.warm_boot c.settings.no_sleep in
    let sleep-is : (mode_after commands % 2 == 1) ≡ c.settings.no_sleep = ap (λ n. n % 2 == 1) mode-is ∙ no_sleep-back c.settings.warm_boot c.settings.no_sleep in
    λ i. record { range = range-is i; warm_boot = warm-is i; no_sleep = sleep-is i }

-- the image that was written is read
means-image : (c : Configuration) → IsWhole c → HasCommentLines c.comment → meaning c.layout (comment_bytes c.comment) (commands_of c ++ wake_up ∷ []) ≡ c
unfolding meaning
means-image c is lines =
    let range_value = range_number c.settings.range in
    let comment-is = comment_of-bytes c.comment lines in
    let settings-is = settings-back c in
    let cram-is = cram_back c range_value (value_bytes c) is in
    let bram-is = bram_back c range_value (value_bytes c) is in
    λ i. record { layout = c.layout; comment = comment-is i; settings = settings-is i; cram = cram-is i; bram = bram-is i }

-- the canonical bytes of an image spell that image under all layouts that have the image's
pub spells_canonical : (layouts : Layouts) (image : Configuration) → IsWhole image → HasCommentLines image.comment → HasLayout layouts image.layout → Spells layouts (canonical_bytes image) image
spells_canonical layouts image is lines layout =
    let range_value = range_number image.settings.range in
    let front = comment_bytes image.comment in
    let rest = spelled (commands_of image ++ wake_up ∷ []) ++ 0 ∷ [] in
    let parts : canonical_bytes image ≡ front ++ (preamble ++ rest) = bytes-are image ∙ four_parts front preamble (spelled (commands_of image ++ wake_up ∷ [])) (0 ∷ []) in
    record {
      front = front;
      commands = commands_of image;
      wake_up = wake_up;
      tail = 0 ∷ [];
      spelled_is = bytes-are image;
      front_is = subst (IsFront front) (sym parts) (front_place front rest (front-clear image.comment lines));
      allowed = allowed image.layout.device range_value (mode_bits image) (cram_bodies image) (bram_bodies image) (value_bytes image) (fit-is image is);
      before = no_wake_up-before image.layout.device range_value (mode_bits image) (cram_bodies image) (bram_bodies image) (value_bytes image);
      last = refl;
      device = device-after image.layout.device range_value (mode_bits image) (cram_bodies image) (bram_bodies image) (value_bytes image);
      layout = layout;
      means = sym (means-image image is lines);
    }
