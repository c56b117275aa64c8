-- What holds after one command more.
use Rattle.std.proofs.Common.{◌≡◌, ℕ, ◌+◌, ◌<◌, Bool, true, false, ◌||◌, cond, List, [], ◌∷◌, ◌++◌, length, take, refl, ap, ◌∙◌, arith}
use Rattle.std.specs.Prelude.{Option, Some, None, slice_get}
use Rattle.std.proofs.lemmas.List.{take-append-le, drop-append-le, drop_all, length_push}
use Rattle.std.proofs.Math.Seq.{take-append_seam}
use Rattle.bin_stream.proofs.ManyCommands.{spelled-push}
use Rattle.shared_lemmas.proofs.Pushes.{slice_get-append, slice_get-after}
use Rattle.index_search.specs.Places.{any_below, last_below, first_below, or_else}
use Rattle.index_search.proofs.Places.{any_below-more, any_below-same, last_below-more, last_below-same, last_below-place, first_below-more, first_below-same}
use Rattle.plane_map.specs.declared.device.DeviceName.{DeviceName}
use Rattle.plane_map.specs.declared.tile.Place.{Place}
use Rattle.ice_image.specs.declared.planes.PlaneKind.{PlaneKind}
use Rattle.bin_stream.specs.Commands.{Command, spelling, spelled, is_reset, width_opcode}
use Rattle.bin_stream.specs.State.{has_opcode, number_in, last_index, given_or, last_of, width_given, width_after, device_in, device_after, after_reset, covered}
use Rattle.bin_stream.specs.Refusals.{gives_last_row, reached_in}
use Rattle.bin_stream.specs.Meaning.{gives, bit_given, bit_where, plane_bit}

-- ---- the last place of a test on an element and those before it

module _ (test : List Command → Option Command → Bool) where
  abbrev at : List Command → ℕ → Bool
  at commands k = test (take k commands) (slice_get commands k)

  at-before : (commands : List Command) (command : Command) (k : ℕ) → k < length commands → at (commands ++ command ∷ []) k ≡ at commands k
  at-before commands command k lt =
      ap (λ before. test before (slice_get (commands ++ command ∷ []) k)) (take-append-le k commands (command ∷ []) (omega arith)) ∙ ap (test (take k commands)) (slice_get-append commands (command ∷ []) k lt)

  at-last : (commands : List Command) (command : Command) → at (commands ++ command ∷ []) (length commands) ≡ test commands (Some command)
  at-last commands command =
      ap (λ before. test before (slice_get (commands ++ command ∷ []) (length commands))) (take-append_seam commands (command ∷ [])) ∙ ap (test commands) (slice_get-after commands command [])

  pub last-more : (commands : List Command) (command : Command) → last_below (length (commands ++ command ∷ [])) (λ k. test (take k (commands ++ command ∷ [])) (slice_get (commands ++ command ∷ []) k)) ≡ cond (test commands (Some command)) (Some (length commands)) (last_below (length commands) (λ k. test (take k commands) (slice_get commands k)))
  last-more commands command =
      let all = commands ++ command ∷ [] in
      let n = length commands in
      ap (λ n. last_below n (at all)) (length_push commands command)
      ∙ last_below-more n (at all)
      ∙ ap (λ b. cond b (Some n) (last_below n (at all))) (at-last commands command)
      ∙ ap (cond (test commands (Some command)) (Some n)) (last_below-same n (at all) (at commands) (at-before commands command))

  pub any-more : (commands : List Command) (command : Command) → any_below (length (commands ++ command ∷ [])) (λ k. test (take k (commands ++ command ∷ [])) (slice_get (commands ++ command ∷ []) k)) ≡ (any_below (length commands) (λ k. test (take k commands) (slice_get commands k)) || test commands (Some command))
  any-more commands command =
      let all = commands ++ command ∷ [] in
      let n = length commands in
      ap (λ n. any_below n (at all)) (length_push commands command)
      ∙ any_below-more n (at all)
      ∙ ap (λ b. any_below n (at all) || b) (at-last commands command)
      ∙ ap (λ b. b || test commands (Some command)) (any_below-same n (at all) (at commands) (at-before commands command))

-- ---- the number of the last command of an opcode

-- where the last one stands
pub last_index-more : (commands : List Command) (command : Command) (opcode : ℕ) → last_index (commands ++ command ∷ []) opcode ≡ cond (has_opcode opcode (Some command)) (Some (length commands)) (last_index commands opcode)
last_index-more commands command opcode = last-more (λ before here. has_opcode opcode here) commands command

-- the last place is one of the list
pub last_index-within : (commands : List Command) (opcode k : ℕ) → last_index commands opcode ≡ Some k → k < length commands
last_index-within commands opcode k is = (last_below-place (length commands) k (λ k. has_opcode opcode (slice_get commands k)) is).0

given_or-before : (commands : List Command) (command : Command) (start : ℕ) (place : Option ℕ) → ((k : ℕ) → place ≡ Some k → k < length commands) → given_or (commands ++ command ∷ []) place start ≡ given_or commands place start
given_or-before commands command start None within = refl
given_or-before commands command start (Some k) within = ap number_in (slice_get-append commands (command ∷ []) k (within k refl))

chosen : (commands : List Command) (command : Command) (start : ℕ) (here : Bool) (place : Option ℕ) → ((k : ℕ) → place ≡ Some k → k < length commands) → given_or (commands ++ command ∷ []) (cond here (Some (length commands)) place) start ≡ cond here (number_in (Some command)) (given_or commands place start)
chosen commands command start true place within = ap number_in (slice_get-after commands command [])
chosen commands command start false place within = given_or-before commands command start place within

-- the value that it gives, if it has that opcode
pub last_of-more : (commands : List Command) (command : Command) (opcode start : ℕ) → last_of (commands ++ command ∷ []) opcode start ≡ cond (has_opcode opcode (Some command)) (number_in (Some command)) (last_of commands opcode start)
unfolding last_of
last_of-more commands command opcode start =
    ap (λ place. given_or (commands ++ command ∷ []) place start) (last_index-more commands command opcode)
    ∙ chosen commands command start (has_opcode opcode (Some command)) (last_index commands opcode) (last_index-within commands opcode)

-- ---- the width

width_given-before : (commands : List Command) (command : Command) (place : Option ℕ) → ((k : ℕ) → place ≡ Some k → k < length commands) → width_given (commands ++ command ∷ []) place ≡ width_given commands place
width_given-before commands command None within = refl
width_given-before commands command (Some k) within = ap (λ here. number_in here + 1) (slice_get-append commands (command ∷ []) k (within k refl))

width_chosen : (commands : List Command) (command : Command) (here : Bool) (place : Option ℕ) → ((k : ℕ) → place ≡ Some k → k < length commands) → width_given (commands ++ command ∷ []) (cond here (Some (length commands)) place) ≡ cond here (number_in (Some command) + 1) (width_given commands place)
width_chosen commands command true place within = ap (λ here. number_in here + 1) (slice_get-after commands command [])
width_chosen commands command false place within = width_given-before commands command place within

pub width_after-more : (commands : List Command) (command : Command) → width_after (commands ++ command ∷ []) ≡ cond (has_opcode width_opcode (Some command)) (number_in (Some command) + 1) (width_after commands)
unfolding width_after
width_after-more commands command =
    ap (width_given (commands ++ command ∷ [])) (last_index-more commands command width_opcode)
    ∙ width_chosen commands command (has_opcode width_opcode (Some command)) (last_index commands width_opcode) (last_index-within commands width_opcode)

-- ---- the device

pub device_after-more : (commands : List Command) (command : Command) → device_after (commands ++ command ∷ []) ≡ or_else (device_after commands) (device_in commands (Some command))
unfolding device_after
device_after-more commands command =
    let all = commands ++ command ∷ [] in
    let n = length commands in
    let given : List Command → ℕ → Option DeviceName = λ commands k. device_in (take k commands) (slice_get commands k) in
    let last : given all n ≡ device_in commands (Some command) =
    ap (λ before. device_in before (slice_get all n)) (take-append_seam commands (command ∷ [])) ∙ ap (device_in commands) (slice_get-after commands command []) in
    let before : (k : ℕ) → k < n → given all k ≡ given commands k =
    λ k lt. ap (λ before. device_in before (slice_get all k)) (take-append-le k commands (command ∷ []) (omega arith)) ∙ ap (device_in (take k commands)) (slice_get-append commands (command ∷ []) k lt) in
    ap (λ n. first_below n (given all)) (length_push commands command)
    ∙ first_below-more n (given all)
    ∙ ap (or_else (first_below n (given all))) last
    ∙ ap (λ found. or_else found (device_in commands (Some command))) (first_below-same n (given all) (given commands) before)

-- ---- the last row of a configuration plane

pub reached_in-more : (commands : List Command) (command : Command) → reached_in (commands ++ command ∷ []) ≡ (reached_in commands || gives_last_row commands (Some command))
reached_in-more commands command = any-more gives_last_row commands command

-- ---- what the check value covers

after_reset-more : (commands : List Command) (command : Command) (place : Option ℕ) → ((k : ℕ) → place ≡ Some k → k < length commands) → after_reset (commands ++ command ∷ []) place ≡ after_reset commands place ++ command ∷ []
after_reset-more commands command None within = refl
after_reset-more commands command (Some k) within =
    let lt : k < length commands = within k refl in
    drop-append-le (k + 1) commands (command ∷ []) (omega arith)

covered_chosen : (commands : List Command) (command : Command) (here : Bool) (place : Option ℕ) → ((k : ℕ) → place ≡ Some k → k < length commands) → spelled (after_reset (commands ++ command ∷ []) (cond here (Some (length commands)) place)) ≡ cond here [] (spelled (after_reset commands place) ++ spelling command)
unfolding spelled
covered_chosen commands command true place within =
    ap spelled (drop_all (length commands + 1) (commands ++ command ∷ []) (omega (arith, length_push commands command)))
covered_chosen commands command false place within =
    ap spelled (after_reset-more commands command place within) ∙ spelled-push (after_reset commands place) command

pub covered-more : (commands : List Command) (command : Command) → covered (commands ++ command ∷ []) ≡ cond (is_reset (Some command)) [] (covered commands ++ spelling command)
unfolding covered
covered-more commands command =
    let place = last_below (length commands) (λ k. is_reset (slice_get commands k)) in
    ap (λ place. spelled (after_reset (commands ++ command ∷ []) place)) (last-more (λ before here. is_reset here) commands command)
    ∙ covered_chosen commands command (is_reset (Some command)) place (λ k is. (last_below-place (length commands) k (λ k. is_reset (slice_get commands k)) is).0)

-- ---- the planes' bits

bit_where-before : (at : Place) (commands : List Command) (command : Command) (place : Option ℕ) → ((k : ℕ) → place ≡ Some k → k < length commands) → bit_where at (commands ++ command ∷ []) place ≡ bit_where at commands place
bit_where-before at commands command None within = refl
bit_where-before at commands command (Some k) within =
    let lt : k < length commands = within k refl in
    ap (λ before. bit_given at before (slice_get (commands ++ command ∷ []) k)) (take-append-le k commands (command ∷ []) (omega arith)) ∙ ap (bit_given at (take k commands)) (slice_get-append commands (command ∷ []) k lt)

bit_chosen : (at : Place) (commands : List Command) (command : Command) (here : Bool) (place : Option ℕ) → ((k : ℕ) → place ≡ Some k → k < length commands) → bit_where at (commands ++ command ∷ []) (cond here (Some (length commands)) place) ≡ cond here (bit_given at commands (Some command)) (bit_where at commands place)
bit_chosen at commands command true place within =
    ap (λ before. bit_given at before (slice_get (commands ++ command ∷ []) (length commands))) (take-append_seam commands (command ∷ [])) ∙ ap (bit_given at commands) (slice_get-after commands command [])
bit_chosen at commands command false place within = bit_where-before at commands command place within

-- the bit at a place is the bit of the new command if it gives one
pub plane_bit-more : (kind : PlaneKind) (commands : List Command) (command : Command) (at : Place) → plane_bit kind (commands ++ command ∷ []) at ≡ cond (gives kind at commands (Some command)) (bit_given at commands (Some command)) (plane_bit kind commands at)
unfolding plane_bit
plane_bit-more kind commands command at =
    let place = last_below (length commands) (λ k. gives kind at (take k commands) (slice_get commands k)) in
    ap (bit_where at (commands ++ command ∷ [])) (last-more (gives kind at) commands command)
    ∙ bit_chosen at commands command (gives kind at commands (Some command)) place (λ k is. (last_below-place (length commands) k (λ k. gives kind at (take k commands) (slice_get commands k)) is).0)
