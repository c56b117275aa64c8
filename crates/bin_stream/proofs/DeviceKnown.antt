-- Where a wake-up is allowed, data have fixed a device.
use Rattle.std.proofs.Common.{◌≡◌, ℕ, zero, suc, ◌<◌, Bool, true, false, not, List, [], ◌∷◌, ◌++◌, length, take, slice_get, Option, Some, None, ◌==◌, ◌⊎◌, refl, sym, ap, ap₂, ◌∙◌, inl, inr, arith}
use Rattle.std.proofs.lemmas.Bool.{cases_eq, and_parts, eqb-true, ne_eqb}
use Rattle.std.proofs.lemmas.List.{take-append-le, length_push}
use Rattle.shared_lemmas.proofs.Pushes.{slice_get-append, slice_get-after}
use Rattle.index_search.specs.Places.{first_below, any_below, or_else}
use Rattle.index_search.proofs.Places.{first_below-more, first_below-same, any_below-place, or_else-none}
use Rattle.plane_map.specs.declared.device.DeviceName.{DeviceName}
use Rattle.ice_image.specs.declared.planes.PlaneKind.TheVariants.{Cram, Bram}
use Rattle.bin_stream.specs.Commands.{Command, Short, Data, number_of, is_wake_up}
use Rattle.bin_stream.specs.State.{device_in, device_after, device_with, width_after}
use Rattle.bin_stream.specs.Refusals.{IsAllowedAfter, cause_if, gives_last_row, wake_up_cause}
use Rattle.bin_stream.specs.declared.fault.BinCause.{BinCause}
use Rattle.bin_stream.specs.declared.fault.BinCause.TheVariants.{NoDevice}

-- ---- the first value

-- the first of two values
or_else-some : {A : Type 0} (first : Option A) (value : A) → (found : A) × (or_else first (Some value) ≡ Some found)
or_else-some None value = (value, refl)
or_else-some (Some first) value = (first, refl)

-- if a place gives a value, there is a first one
first_below-some : {A : Type 0} (n k : ℕ) (given : ℕ → Option A) (value : A) → k < n → given k ≡ Some value → (found : A) × (first_below n given ≡ Some found)
unfolding first_below
first_below-some zero k given value within here = absurd (omega arith)
first_below-some (suc n) k given value within here =
    elim (cases_eq k n) [
      | inl last ↦
          let found = or_else-some (first_below n given) value in
          (found.0, ap (or_else (first_below n given)) (ap given (sym last) ∙ here) ∙ found.1)
      | inr before ↦
          let found = first_below-some n k given value (omega arith) here in
          (found.0, ap (λ first. or_else first (given n)) found.1)
    ]

-- ---- the device

-- a wake-up alone fixes no device
device_in-wake_up : (before : List Command) (wake_up : Command) → is_wake_up wake_up ≡ true → device_in before (Some wake_up) ≡ None
device_in-wake_up before (Short opcode payload) wakes = refl
device_in-wake_up before (Data kind payload body) wakes = absurd cc

-- a wake-up after commands fixes no device
pub device_after-woken : (commands : List Command) (wake_up : Command) → is_wake_up wake_up ≡ true → device_after (commands ++ wake_up ∷ []) ≡ device_after commands
unfolding device_after
device_after-woken commands wake_up wakes =
    let n = length commands in
    let all = commands ++ wake_up ∷ [] in
    let given : ℕ → Option DeviceName = λ k. device_in (take k all) (slice_get all k) in
    let earlier : ℕ → Option DeviceName = λ k. device_in (take k commands) (slice_get commands k) in
    let last : given n ≡ None = ap (device_in (take n all)) (slice_get-after commands wake_up []) ∙ device_in-wake_up (take n all) wake_up wakes in
    let same = λ (k : ℕ) (within : k < n). ap₂ device_in (take-append-le k commands (wake_up ∷ []) (omega arith)) (slice_get-append commands (wake_up ∷ []) k within) in
    ap (λ m. first_below m given) (length_push commands wake_up)
    ∙ first_below-more n given
    ∙ ap (or_else (first_below n given)) last
    ∙ or_else-none (first_below n given)
    ∙ first_below-same n given earlier same

-- no cause if a test has to pass
passes : (b : Bool) (cause : BinCause) → cause_if (not b) cause ≡ None → b ≡ true
passes true cause is = refl
passes false cause is = absurd cc

-- a device or none
cases_device : (device : Option DeviceName) → (device ≡ None) ⊎ ((found : DeviceName) × (device ≡ Some found))
cases_device None = inl refl
cases_device (Some device) = inr (device, refl)

-- what gives a plane's last row fixes a device
device_in-last_row : (before : List Command) (command : Option Command) → gives_last_row before command ≡ true → (device : DeviceName) × (device_in before command ≡ Some device)
device_in-last_row before None gives = absurd cc
device_in-last_row before (Some (Short opcode payload)) gives = absurd cc
device_in-last_row before (Some (Data Bram payload body)) gives = absurd cc
device_in-last_row before (Some (Data Cram payload body)) gives =
    elim (cases_device (device_with Cram (width_after before))) [
      | inr found ↦ found
      | inl none ↦ let wrong : false ≡ true = rw none at gives in absurd cc
    ]

-- a wake-up that is allowed has the cause of one
wake_up-clear : (before : List Command) (wake_up : Command) → is_wake_up wake_up ≡ true → IsAllowedAfter before wake_up → wake_up_cause before ≡ None
wake_up-clear before (Data kind payload body) wakes allowed = absurd cc
wake_up-clear before (Short opcode payload) wakes allowed =
    let n = number_of payload in
    let parts = and_parts (opcode == 0) (n == 6) wakes in
    let other : (n == 5) ≡ false = ne_eqb n 5 (omega (arith, eqb-true n 6 parts.1)) in
    rw (parts.0, other, parts.1) at allowed.2

-- if a wake-up is allowed, there is a device
pub device_after-known : (commands : List Command) (wake_up : Command) → is_wake_up wake_up ≡ true → IsAllowedAfter commands wake_up → (device : DeviceName) × (device_after commands ≡ Some device)
unfolding device_after
device_after-known commands wake_up wakes allowed =
    let gives : ℕ → Bool = λ k. gives_last_row (take k commands) (slice_get commands k) in
    let some : any_below (length commands) gives ≡ true = passes (any_below (length commands) gives) NoDevice (wake_up-clear commands wake_up wakes allowed) in
    let place = any_below-place (length commands) gives some in
    let device = device_in-last_row (take place.0 commands) (slice_get commands place.0) place.2 in
    first_below-some (length commands) place.0 (λ k. device_in (take k commands) (slice_get commands k)) device.0 place.1 device.1
