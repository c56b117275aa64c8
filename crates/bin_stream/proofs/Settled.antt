-- What is wrong with a command stays wrong when bytes follow, unless it is that the input ends.
use Rattle.std.proofs.Common.{◌≡◌, ℕ, suc, ◌+◌, ◌/◌, ◌%◌, ◌≤◌, Bool, true, false, not, ◌⊎◌, List, [], ◌∷◌, ◌++◌, length, take, drop, refl, sym, ap, subst, ◌∙◌, arith, inl, inr, length-append, length-drop, length-take-le}
use Rattle.std.specs.Prelude.{Option, Some, None, nat_lt, ◌==◌, if◌then◌else◌}
use Rattle.std.proofs.lemmas.Bool.{cases_Bool, cases_lt, lt-ltb, le-ltb}
use Rattle.std.proofs.lemmas.List.{take-append-le, drop-append-le}
use Rattle.index_search.specs.Places.{or_else}
use Rattle.ice_image.specs.declared.planes.PlaneKind.{PlaneKind}
use Rattle.bin_stream.specs.Commands.{Command, Short, number_of, control_opcode, bank_opcode, check_opcode, boot_address_opcode, range_opcode, width_opcode, height_opcode, offset_opcode, mode_opcode, reset_number, wake_up_number}
use Rattle.bin_stream.specs.State.{size_after, first_row_after, height_after, width_after}
use Rattle.bin_stream.specs.Refusals.{Fault, fault_at, fault_where, cause_if, is_mode, is_bad_height, width_cause, height_cause, device_for, data_cause, control_cause, check_found, reached_in, short_cause, short_cause_where, end_fault, body_fault, data_kind, payload_fault, first_fault}
use Rattle.bin_stream.specs.Settled.{is_unfinished}
use Rattle.bin_stream.specs.declared.fault.BinCause.{BinCause}
use Rattle.bin_stream.specs.declared.fault.BinCause.TheVariants.{Truncated, BadWidth, BadHeight, BadBank, BadRange, BadMode, NoDevice, UnknownCommand, Check}
use Rattle.plane_map.specs.declared.device.DeviceName.{DeviceName}
use Rattle.bin_stream.proofs.OneCommand.{fault-head}

-- ---- causes other than that the input ended early

abbrev pub IsFirmCause : Option BinCause → Type 0
IsFirmCause None = Unit {0}
IsFirmCause (Some cause) = is_unfinished cause ≡ false

abbrev pub IsFirm : Option Fault → Type 0
IsFirm None = Unit {0}
IsFirm (Some fault) = is_unfinished fault.cause ≡ false

if-firm : (test : Bool) (first second : Option BinCause) → IsFirmCause first → IsFirmCause second → IsFirmCause (if test then first else second)
if-firm true first second holds other = holds
if-firm false first second other holds = holds

cause_if-firm : (test : Bool) (cause : BinCause) → is_unfinished cause ≡ false → IsFirmCause (cause_if test cause)
cause_if-firm true cause firm = firm
cause_if-firm false cause firm = tt

control-firm : (reached : Bool) (n : ℕ) → IsFirmCause (control_cause reached n)
control-firm reached n =
    if-firm (n == reset_number) None (if n == wake_up_number then cause_if (not reached) NoDevice else Some UnknownCommand) tt
    (if-firm (n == wake_up_number) (cause_if (not reached) NoDevice) (Some UnknownCommand) (cause_if-firm (not reached) NoDevice refl) refl)

-- those of commands that aren't data
pub short-firm : (reached : Bool) (found opcode n : ℕ) → IsFirmCause (short_cause_where reached found opcode n)
short-firm reached found opcode n =
    elim (cases_Bool (opcode == control_opcode)) [
      | inl is ↦ rw is (control-firm reached n)
      | inr no_control ↦ elim (cases_Bool (opcode == bank_opcode)) [
        | inl is ↦ rw (no_control, is) (cause_if-firm (nat_lt 3 n) BadBank refl)
        | inr no_bank ↦ elim (cases_Bool (opcode == check_opcode)) [
          | inl is ↦ rw (no_control, no_bank, is) (cause_if-firm (not (found == 0)) (Check found) refl)
          | inr no_check ↦ elim (cases_Bool (opcode == boot_address_opcode)) [
            | inl is ↦ rw (no_control, no_bank, no_check, is) tt
            | inr no_boot ↦ elim (cases_Bool (opcode == range_opcode)) [
              | inl is ↦ rw (no_control, no_bank, no_check, no_boot, is) (cause_if-firm (nat_lt 2 n) BadRange refl)
              | inr no_range ↦ rw (no_control, no_bank, no_check, no_boot, no_range)
                  (if-firm (opcode == width_opcode) None (if opcode == height_opcode then None else if opcode == offset_opcode then None else if opcode == mode_opcode then cause_if (not (is_mode n)) BadMode else Some UnknownCommand) tt
                  (if-firm (opcode == height_opcode) None (if opcode == offset_opcode then None else if opcode == mode_opcode then cause_if (not (is_mode n)) BadMode else Some UnknownCommand) tt
                  (if-firm (opcode == offset_opcode) None (if opcode == mode_opcode then cause_if (not (is_mode n)) BadMode else Some UnknownCommand) tt
                  (if-firm (opcode == mode_opcode) (cause_if (not (is_mode n)) BadMode) (Some UnknownCommand) (cause_if-firm (not (is_mode n)) BadMode refl) refl))))
            ]
          ]
        ]
      ]
    ]

width-firm : (kind : PlaneKind) (device : Option DeviceName) (columns : ℕ) → IsFirmCause (width_cause kind device columns)
width-firm kind None columns = refl
width-firm kind (Some device) columns = cause_if-firm _ BadWidth refl

height-firm : (kind : PlaneKind) (device : Option DeviceName) (first rows columns : ℕ) → IsFirmCause (height_cause kind device first rows columns)
height-firm kind None first rows columns = tt
height-firm kind (Some device) first rows columns = cause_if-firm (is_bad_height kind device first rows columns) BadHeight refl

or_else-firm : (first second : Option BinCause) → IsFirmCause first → IsFirmCause second → IsFirmCause (or_else first second)
or_else-firm None second first_firm firm = firm
or_else-firm (Some cause) second firm second_firm = firm

-- those of data
pub data-firm : (before : List Command) (kind : PlaneKind) → IsFirmCause (data_cause before kind)
data-firm before kind =
    or_else-firm (width_cause kind (device_for before kind) (width_after before)) (height_cause kind (device_for before kind) (first_row_after before) (height_after before) (width_after before))
    (width-firm kind (device_for before kind) (width_after before))
    (height-firm kind (device_for before kind) (first_row_after before) (height_after before) (width_after before))

fault_where-firm : (place : ℕ) (cause : Option BinCause) → IsFirmCause cause → IsFirm (fault_where place cause)
fault_where-firm place None firm = tt
fault_where-firm place (Some cause) firm = firm

-- ---- bytes that others follow

-- what is reported of bytes and of longer ones: that the first end too early, or the same
abbrev Stays : Option Fault → Option Fault → ℕ → Type 0
Stays found longer end = (found ≡ Some (fault_at end Truncated)) ⊎ ((found ≡ longer) × IsFirm found)

-- the two bytes after data
end-stays : (place : ℕ) (bytes more : List ℕ) → Stays (end_fault place bytes) (end_fault place (bytes ++ more)) (place + length bytes)
end-stays place [] more =
    let there : place ≡ place + 0 = omega arith in
    inl (ap (λ place. Some (fault_at place Truncated)) there)
end-stays place (byte ∷ []) [] =
    elim (cases_Bool (byte == 0)) [
      | inl nothing ↦ inl (rw nothing refl)
      | inr other ↦ inr (rw other (refl, refl))
    ]
end-stays place (byte ∷ []) (next ∷ more) =
    elim (cases_Bool (byte == 0)) [
      | inl nothing ↦ inl (rw nothing refl)
      | inr other ↦ inr (rw other (refl, refl))
    ]
end-stays place (byte ∷ next ∷ rest) more =
    elim (cases_Bool (byte == 0)) [
      | inl nothing ↦ elim (cases_Bool (next == 0)) [
        | inl nothing_next ↦ inr (rw (nothing, nothing_next) (refl, tt))
        | inr other ↦ inr (rw (nothing, other) (refl, refl))
      ]
      | inr other ↦ inr (rw other (refl, refl))
    ]

-- the same of an equal end
stays-at : (found longer : Option Fault) (end other : ℕ) → end ≡ other → Stays found longer end → Stays found longer other
stays-at found longer end other is stays = subst (Stays found longer) is stays

-- data and the two bytes after them
body-stays : (size place : ℕ) (bytes more : List ℕ) → Stays (body_fault size place bytes) (body_fault size place (bytes ++ more)) (place + length bytes)
body-stays size place bytes more =
    elim (cases_lt (length bytes) size) [
      | inl lacks ↦ inl (rw (lt-ltb (length bytes) size lacks) refl)
      | inr within ↦
          let longer : size ≤ length (bytes ++ more) = omega (arith, length-append bytes more) in
          let end : place + size + length (drop size bytes) ≡ place + length bytes = omega (arith, length-drop size bytes) in
          rw (le-ltb (length bytes) size within, le-ltb (length (bytes ++ more)) size longer, drop-append-le size bytes more within)
          (stays-at (end_fault (place + size) (drop size bytes)) (end_fault (place + size) (drop size bytes ++ more)) (place + size + length (drop size bytes)) (place + length bytes) end (end-stays (place + size) (drop size bytes) more))
    ]

-- a cause, or what is reported if there is none
or_else-stays : (place : ℕ) (cause : Option BinCause) (found longer : Option Fault) (end : ℕ) → IsFirmCause cause → Stays found longer end → Stays (or_else (fault_where place cause) found) (or_else (fault_where place cause) longer) end
or_else-stays place None found longer end firm stays = stays
or_else-stays place (Some cause) found longer end firm stays = inr (refl, firm)

payload-stays : (before : List Command) (place opcode : ℕ) (payload : List ℕ) (kind : Option PlaneKind) (bytes more : List ℕ) → Stays (payload_fault before place opcode payload kind bytes) (payload_fault before place opcode payload kind (bytes ++ more)) (place + 1 + length payload + length bytes)
payload-stays before place opcode payload None bytes more =
    inr (refl, fault_where-firm place (short_cause before opcode payload) (short-firm (reached_in before) (check_found before (Short opcode payload)) opcode (number_of payload)))
payload-stays before place opcode payload (Some kind) bytes more =
    or_else-stays place (data_cause before kind) (body_fault (size_after before) (place + 1 + length payload) bytes) (body_fault (size_after before) (place + 1 + length payload) (bytes ++ more)) (place + 1 + length payload + length bytes) (data-firm before kind) (body-stays (size_after before) (place + 1 + length payload) bytes more)

-- the first command
first-stays : (before : List Command) (place : ℕ) (bytes more : List ℕ) → Stays (first_fault before place bytes) (first_fault before place (bytes ++ more)) (place + length bytes)
first-stays before place [] more =
    let there : place ≡ place + 0 = omega arith in
    inl (ap (λ place. Some (fault_at place Truncated)) there)
first-stays before place (head ∷ rest) more =
    let count = head % 16 in
    let payload = take count rest in
    let following = drop count rest in
    elim (cases_lt 4 count) [
      | inl long ↦ inr (rw (lt-ltb 4 count long) (refl, refl))
      | inr short ↦ elim (cases_lt (length rest) count) [
        | inl lacks ↦
            let there : place + 1 + length rest ≡ place + suc (length rest) = omega arith in
            inl (rw (le-ltb 4 count short, lt-ltb (length rest) count lacks) (ap (λ place. Some (fault_at place Truncated)) there))
        | inr within ↦
            let longer : count ≤ length (rest ++ more) = omega (arith, length-append rest more) in
            let end : place + 1 + length payload + length following ≡ place + suc (length rest) = omega (arith, length-take-le count rest within, length-drop count rest) in
            let here = fault-head before place head count (head / 16) rest payload following refl refl (omega arith) within refl refl in
            let there = fault-head before place head count (head / 16) (rest ++ more) payload (following ++ more) refl refl (omega arith) longer (take-append-le count rest more within) (drop-append-le count rest more within) in
            let stays = payload-stays before place (head / 16) payload (data_kind (head / 16) (number_of payload)) following more in
            subst (Stays (first_fault before place (head ∷ rest)) (first_fault before place (head ∷ rest ++ more))) end
            (subst (λ (found : Option Fault). Stays found (first_fault before place (head ∷ rest ++ more)) (place + 1 + length payload + length following)) (sym here)
            (subst (λ (longer : Option Fault). Stays (payload_fault before place (head / 16) payload (data_kind (head / 16) (number_of payload)) following) longer (place + 1 + length payload + length following)) (sym there) stays))
      ]
    ]

-- a fault stays, unless it is that the input ended early
pub first_fault-stays : (before : List Command) (place : ℕ) (bytes more : List ℕ) (fault : Fault) → first_fault before place bytes ≡ Some fault → is_unfinished fault.cause ≡ false → first_fault before place (bytes ++ more) ≡ Some fault
first_fault-stays before place bytes more fault wrong firm =
    elim (first-stays before place bytes more) [
      | inl ends ↦
          let same : Some fault ≡ Some (fault_at (place + length bytes) Truncated) = sym wrong ∙ ends in
          let is : fault ≡ fault_at (place + length bytes) Truncated = cc in
          let bad : true ≡ false = ap (λ (f : Fault). is_unfinished f.cause) (sym is) ∙ firm in
          absurd cc
      | inr stays ↦ sym stays.0 ∙ wrong
    ]

-- another is that the input ends
pub first_fault-ends : (before : List Command) (place : ℕ) (bytes : List ℕ) (fault : Fault) → first_fault before place bytes ≡ Some fault → is_unfinished fault.cause ≡ true → first_fault before place bytes ≡ Some (fault_at (place + length bytes) Truncated)
first_fault-ends before place bytes fault wrong open_cause =
    elim (first-stays before place bytes []) [
      | inl ends ↦ ends
      | inr stays ↦
          let firm : is_unfinished fault.cause ≡ false = subst IsFirm wrong stays.1 in
          let bad : true ≡ false = sym open_cause ∙ firm in
          absurd cc
    ]
