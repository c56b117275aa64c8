-- The canonical commands are allowed.
use Rattle.std.proofs.Common.{◌≡◌, ℕ, zero, suc, ◌*◌, ◌/◌, ◌<◌, ◌≤◌, Bool, true, false, not, List, [], ◌∷◌, ◌++◌, ◌==◌, length, take, drop, refl, sym, ap, ◌∙◌, subst, arith, append_assoc, append-nil}
use Rattle.std.specs.Prelude.{Some, None, slice_get}
use Rattle.std.proofs.lemmas.Bool.{le-ltb}
use Rattle.index_search.specs.Places.{any_below, last_below, first_below}
use Rattle.plane_map.specs.Layout.{cram_width, cram_height, bram_width}
use Rattle.plane_map.specs.declared.device.DeviceName.{DeviceName}
use Rattle.plane_map.specs.declared.device.DeviceName.TheVariants.{Lp384, Hx1k, Hx8k}
use Rattle.ice_image.specs.declared.planes.PlaneKind.TheVariants.{Cram, Bram}
use Rattle.bin_stream.specs.Commands.{Command, Short, number_of, range_opcode, mode_opcode, check_opcode}
use Rattle.bin_stream.specs.State.{has_rows, last_of, width_after, device_after, size_after}
use Rattle.bin_stream.specs.Refusals.{data_cause, wake_up_cause, IsAllowedAfter, check_found, is_mode, cause_if}
use Rattle.bin_stream.specs.declared.fault.BinCause.TheVariants.{Check, BadRange, BadMode}
use Rattle.bin_stream.specs.Spelling.{IsAllowed}
use Rattle.bin_stream.proofs.CanonicalCommands.{ram_commands, before_ram, before_check, before_wake_up, wake_up, all_commands}

-- each command of a list may stand after these and those before it
abbrev pub AllowedFrom : List Command → List Command → Type 0
AllowedFrom before [] = Unit {0}
AllowedFrom before (command ∷ commands) = IsAllowedAfter before command × AllowedFrom (before ++ command ∷ []) commands

-- one by one, or by places
allowed-at : (before commands : List Command) → AllowedFrom before commands → (k : ℕ) (command : Command) → slice_get commands k ≡ Some command → IsAllowedAfter (before ++ take k commands) command
allowed-at before [] are k command is = absurd cc
allowed-at before (first ∷ commands) are zero command is =
    let same : first ≡ command = cc in
    subst (λ list. IsAllowedAfter list command) (sym (append-nil before)) (subst (IsAllowedAfter before) same are.0)
allowed-at before (first ∷ commands) are (suc k) command is =
    subst (λ list. IsAllowedAfter list command) (append_assoc before (first ∷ []) (take k commands)) (allowed-at (before ++ first ∷ []) commands are.1 k command is)

-- commands that are allowed one after the other, and more after them
allowed-append : (before first more : List Command) → AllowedFrom before first → AllowedFrom (before ++ first) more → AllowedFrom before (first ++ more)
allowed-append before [] more are following = subst (λ list. AllowedFrom list more) (append-nil before) following
allowed-append before (command ∷ first) more are following =
    (are.0, allowed-append (before ++ command ∷ []) first more are.1 (subst (λ list. AllowedFrom list more) (sym (append_assoc before (command ∷ []) first)) following))

-- ---- data

-- the configuration planes
cram_causes : (device : DeviceName) (range_value mode_value : ℕ) (cram : ℕ → List ℕ) →
    (data_cause (take 7 (before_ram device range_value mode_value cram)) Cram ≡ None)
    × (data_cause (take 9 (before_ram device range_value mode_value cram)) Cram ≡ None)
    × (data_cause (take 11 (before_ram device range_value mode_value cram)) Cram ≡ None)
    × (data_cause (take 13 (before_ram device range_value mode_value cram)) Cram ≡ None)
unfolding last_below first_below last_of width_after device_after
cram_causes Lp384 range_value mode_value cram = (refl, refl, refl, refl)
cram_causes Hx1k range_value mode_value cram = (refl, refl, refl, refl)
cram_causes Hx8k range_value mode_value cram = (refl, refl, refl, refl)

-- their sizes
cram_sizes : (device : DeviceName) (range_value mode_value : ℕ) (cram : ℕ → List ℕ) →
    (size_after (take 7 (before_ram device range_value mode_value cram)) ≡ cram_width device * cram_height device / 8)
    × (size_after (take 9 (before_ram device range_value mode_value cram)) ≡ cram_width device * cram_height device / 8)
    × (size_after (take 11 (before_ram device range_value mode_value cram)) ≡ cram_width device * cram_height device / 8)
    × (size_after (take 13 (before_ram device range_value mode_value cram)) ≡ cram_width device * cram_height device / 8)
unfolding last_below last_of width_after
cram_sizes Lp384 range_value mode_value cram = (refl, refl, refl, refl)
cram_sizes Hx1k range_value mode_value cram = (refl, refl, refl, refl)
cram_sizes Hx8k range_value mode_value cram = (refl, refl, refl, refl)

-- the RAM planes
bram_causes : (device : DeviceName) (range_value mode_value : ℕ) (cram : ℕ → List ℕ) (bram : ℕ → ℕ → List ℕ) → has_rows Bram device ≡ true →
    (data_cause (before_ram device range_value mode_value cram ++ take 4 (ram_commands true device bram)) Bram ≡ None)
    × (data_cause (before_ram device range_value mode_value cram ++ take 6 (ram_commands true device bram)) Bram ≡ None)
    × (data_cause (before_ram device range_value mode_value cram ++ take 9 (ram_commands true device bram)) Bram ≡ None)
    × (data_cause (before_ram device range_value mode_value cram ++ take 11 (ram_commands true device bram)) Bram ≡ None)
    × (data_cause (before_ram device range_value mode_value cram ++ take 14 (ram_commands true device bram)) Bram ≡ None)
    × (data_cause (before_ram device range_value mode_value cram ++ take 16 (ram_commands true device bram)) Bram ≡ None)
    × (data_cause (before_ram device range_value mode_value cram ++ take 19 (ram_commands true device bram)) Bram ≡ None)
    × (data_cause (before_ram device range_value mode_value cram ++ take 21 (ram_commands true device bram)) Bram ≡ None)
unfolding last_below first_below last_of width_after device_after
bram_causes Lp384 range_value mode_value cram bram has = absurd cc
bram_causes Hx1k range_value mode_value cram bram has = (refl, refl, refl, refl, refl, refl, refl, refl)
bram_causes Hx8k range_value mode_value cram bram has = (refl, refl, refl, refl, refl, refl, refl, refl)

-- their sizes
bram_sizes : (device : DeviceName) (range_value mode_value : ℕ) (cram : ℕ → List ℕ) (bram : ℕ → ℕ → List ℕ) → has_rows Bram device ≡ true →
    (size_after (before_ram device range_value mode_value cram ++ take 4 (ram_commands true device bram)) ≡ bram_width device * 128 / 8)
    × (size_after (before_ram device range_value mode_value cram ++ take 6 (ram_commands true device bram)) ≡ bram_width device * 128 / 8)
    × (size_after (before_ram device range_value mode_value cram ++ take 9 (ram_commands true device bram)) ≡ bram_width device * 128 / 8)
    × (size_after (before_ram device range_value mode_value cram ++ take 11 (ram_commands true device bram)) ≡ bram_width device * 128 / 8)
    × (size_after (before_ram device range_value mode_value cram ++ take 14 (ram_commands true device bram)) ≡ bram_width device * 128 / 8)
    × (size_after (before_ram device range_value mode_value cram ++ take 16 (ram_commands true device bram)) ≡ bram_width device * 128 / 8)
    × (size_after (before_ram device range_value mode_value cram ++ take 19 (ram_commands true device bram)) ≡ bram_width device * 128 / 8)
    × (size_after (before_ram device range_value mode_value cram ++ take 21 (ram_commands true device bram)) ≡ bram_width device * 128 / 8)
unfolding last_below last_of width_after
bram_sizes Lp384 range_value mode_value cram bram has = absurd cc
bram_sizes Hx1k range_value mode_value cram bram has = (refl, refl, refl, refl, refl, refl, refl, refl)
bram_sizes Hx8k range_value mode_value cram bram has = (refl, refl, refl, refl, refl, refl, refl, refl)

-- the wake-up
wakes : (device : DeviceName) (range_value mode_value : ℕ) (cram : ℕ → List ℕ) (bram : ℕ → ℕ → List ℕ) (check_payload : List ℕ) → wake_up_cause (before_wake_up device range_value mode_value cram bram check_payload) ≡ None
unfolding any_below last_below first_below last_of width_after device_after
wakes Lp384 range_value mode_value cram bram check_payload = refl
wakes Hx1k range_value mode_value cram bram check_payload = refl
wakes Hx8k range_value mode_value cram bram check_payload = refl

-- what the payloads and the bodies of the canonical commands are
pub record AreFit (device : DeviceName) (range_value mode_value : ℕ) (cram : ℕ → List ℕ) (bram : ℕ → ℕ → List ℕ) (check_payload : List ℕ) : Type 0 where
  pub range_in : range_value < 3
  pub mode_in : is_mode mode_value ≡ true
  pub cram_sizes : (bank : ℕ) → bank < 4 → length (cram bank) ≡ cram_width device * cram_height device / 8
  pub bram_sizes : has_rows Bram device ≡ true → (bank offset : ℕ) → bank < 4 → offset ≤ 128 → length (bram bank offset) ≡ bram_width device * 128 / 8
  pub check_long : length check_payload ≡ 2
  pub check_passes : check_found (before_check device range_value mode_value cram bram) (Short check_opcode check_payload) ≡ 0

-- the commands of the configuration planes, and those before them
crams_allowed : (device : DeviceName) (range_value mode_value : ℕ) (cram : ℕ → List ℕ) (bram : ℕ → ℕ → List ℕ) (check_payload : List ℕ) → AreFit device range_value mode_value cram bram check_payload → AllowedFrom [] (before_ram device range_value mode_value cram)
crams_allowed device range_value mode_value cram bram check_payload fit =
    let one : 1 < 5 = omega arith in
    let two : 2 < 5 = omega arith in
    let causes = cram_causes device range_value mode_value cram in
    let sizes = cram_sizes device range_value mode_value cram in
    let commands = before_ram device range_value mode_value cram in
    let range_is : IsAllowedAfter [] (Short range_opcode (range_value ∷ [])) = (one, refl, ap (λ over. cause_if over BadRange) (le-ltb 2 (number_of (range_value ∷ [])) (omega (arith, fit.range_in)))) in
    let mode_number : number_of (0 ∷ mode_value ∷ []) ≡ mode_value = omega arith in
    let mode_is : IsAllowedAfter (take 2 commands) (Short mode_opcode (0 ∷ mode_value ∷ [])) = (two, refl, ap (λ known. cause_if (not known) BadMode) (ap is_mode mode_number ∙ fit.mode_in)) in
    let cram3 : AllowedFrom (take 12 commands) (drop 12 commands) = ((one, refl, refl), ((one, refl, causes.3, fit.cram_sizes 3 (omega arith) ∙ sym sizes.3), tt)) in
    let cram2 : AllowedFrom (take 10 commands) (drop 10 commands) = ((one, refl, refl), ((one, refl, causes.2, fit.cram_sizes 2 (omega arith) ∙ sym sizes.2), cram3)) in
    let cram1 : AllowedFrom (take 8 commands) (drop 8 commands) = ((one, refl, refl), ((one, refl, causes.1, fit.cram_sizes 1 (omega arith) ∙ sym sizes.1), cram2)) in
    let cram0 : AllowedFrom (take 6 commands) (drop 6 commands) = ((one, refl, refl), ((one, refl, causes.0, fit.cram_sizes 0 (omega arith) ∙ sym sizes.0), cram1)) in
    (range_is, ((one, refl, refl), (mode_is, ((two, refl, refl), ((two, refl, refl), ((two, refl, refl), cram0))))))

-- those of the RAM planes
rams_allowed : (device : DeviceName) (range_value mode_value : ℕ) (cram : ℕ → List ℕ) (bram : ℕ → ℕ → List ℕ) (check_payload : List ℕ) (ram : Bool) → AreFit device range_value mode_value cram bram check_payload → has_rows Bram device ≡ ram → AllowedFrom (before_ram device range_value mode_value cram) (ram_commands ram device bram)
rams_allowed device range_value mode_value cram bram check_payload false fit has = tt
rams_allowed device range_value mode_value cram bram check_payload true fit has =
    let one : 1 < 5 = omega arith in
    let two : 2 < 5 = omega arith in
    let causes = bram_causes device range_value mode_value cram bram has in
    let sizes = bram_sizes device range_value mode_value cram bram has in
    let first = before_ram device range_value mode_value cram in
    let commands = ram_commands true device bram in
    let bram3 : AllowedFrom (first ++ take 17 commands) (drop 17 commands) = ((one, refl, refl), ((two, refl, refl), ((one, refl, causes.6, fit.bram_sizes has 3 0 (omega arith) (omega arith) ∙ sym sizes.6), ((two, refl, refl), ((one, refl, causes.7, fit.bram_sizes has 3 128 (omega arith) (omega arith) ∙ sym sizes.7), tt))))) in
    let bram2 : AllowedFrom (first ++ take 12 commands) (drop 12 commands) = ((one, refl, refl), ((two, refl, refl), ((one, refl, causes.4, fit.bram_sizes has 2 0 (omega arith) (omega arith) ∙ sym sizes.4), ((two, refl, refl), ((one, refl, causes.5, fit.bram_sizes has 2 128 (omega arith) (omega arith) ∙ sym sizes.5), bram3))))) in
    let bram1 : AllowedFrom (first ++ take 7 commands) (drop 7 commands) = ((one, refl, refl), ((two, refl, refl), ((one, refl, causes.2, fit.bram_sizes has 1 0 (omega arith) (omega arith) ∙ sym sizes.2), ((two, refl, refl), ((one, refl, causes.3, fit.bram_sizes has 1 128 (omega arith) (omega arith) ∙ sym sizes.3), bram2))))) in
    let bram0 : AllowedFrom (first ++ take 2 commands) (drop 2 commands) = ((one, refl, refl), ((two, refl, refl), ((one, refl, causes.0, fit.bram_sizes has 0 0 (omega arith) (omega arith) ∙ sym sizes.0), ((two, refl, refl), ((one, refl, causes.1, fit.bram_sizes has 0 128 (omega arith) (omega arith) ∙ sym sizes.1), bram1))))) in
    ((two, refl, refl), ((two, refl, refl), bram0))

-- all canonical commands
pub allowed : (device : DeviceName) (range_value mode_value : ℕ) (cram : ℕ → List ℕ) (bram : ℕ → ℕ → List ℕ) (check_payload : List ℕ) → AreFit device range_value mode_value cram bram check_payload → IsAllowed (all_commands device range_value mode_value cram bram check_payload)
allowed device range_value mode_value cram bram check_payload fit =
    let one : 1 < 5 = omega arith in
    let first = before_ram device range_value mode_value cram in
    let commands = before_check device range_value mode_value cram bram in
    let planes : AllowedFrom [] commands = allowed-append [] first (ram_commands (has_rows Bram device) device bram) (crams_allowed device range_value mode_value cram bram check_payload fit) (rams_allowed device range_value mode_value cram bram check_payload (has_rows Bram device) fit refl) in
    let check_is : IsAllowedAfter commands (Short check_opcode check_payload) = (omega (arith, fit.check_long), refl, ap (λ found. cause_if (not (found == 0)) (Check found)) fit.check_passes) in
    let checked : AllowedFrom [] (commands ++ Short check_opcode check_payload ∷ []) = allowed-append [] commands (Short check_opcode check_payload ∷ []) planes (check_is, tt) in
    let woken : AllowedFrom [] (all_commands device range_value mode_value cram bram check_payload) = allowed-append [] (before_wake_up device range_value mode_value cram bram check_payload) (wake_up ∷ []) checked ((one, refl, wakes device range_value mode_value cram bram check_payload), tt) in
    allowed-at [] (all_commands device range_value mode_value cram bram check_payload) woken
