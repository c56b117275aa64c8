-- Commands that are read one after the other.
use Rattle.std.proofs.Common.{◌≡◌, ℕ, suc, ◌+◌, ◌-◌, ◌≤◌, Bool, true, false, List, [], ◌∷◌, ◌++◌, length, take, drop, refl, sym, ap, subst, ◌∙◌, arith}
use Rattle.std.specs.Prelude.{Option, Some, None, Result, Ok, Err}
use Rattle.index_search.specs.Places.{any_below, last_below, first_below}
use Rattle.bit_plane.specs.Rows.{Rows}
use Rattle.plane_map.specs.Layout.{Layout}
use Rattle.layout_file.specs.declared.layouts.Layouts.{Layouts}
use Rattle.layout_file.specs.Layouts.{layout_for}
use Rattle.ice_image.specs.Configuration.{Configuration}
use Rattle.ice_image.specs.declared.settings.Settings.{Settings}
use Rattle.ice_image.specs.Either.{configuration_of, device_of}
use Rattle.ice_image.specs.declared.any.AnyImage.{AnyImage}
use Rattle.ice_image.specs.declared.planes.PlaneKind.TheVariants.{Cram}
use Rattle.bin_stream.specs.Commands.{Command, is_wake_up}
use Rattle.bin_stream.specs.State.{device_after}
use Rattle.bin_stream.specs.Refusals.{Fault, fault_at, first_fault, reached_in}
use Rattle.bin_stream.specs.Front.{preamble_offset, comment_of}
use Rattle.bin_stream.specs.Meaning.{meaning, planes_of, plane_bit}
use Rattle.bin_stream.specs.Spelling.{first_command, commands_from, device_or, image_of, read_after, bin_read_of, Tells}
use Rattle.bin_stream.specs.inside.Registers.{Held, held_first, held_after, settings_by}
use Rattle.bin_stream.specs.inside.Step.{Refuses, IsEntered, HasRead, IsFinished, IsDrawn, IsBlank, Holds, Stands}
use Rattle.bin_stream.specs.declared.fault.BinCause.TheVariants.{NoPreamble}
use Rattle.bin_stream.specs.declared.fault.BinFault.{BinFault}
use Rattle.bin_stream.specs.declared.fault.BinFault.TheVariants.{At, Memory}
use Rattle.bin_stream.proofs.Steps.{held_first-is}

-- what holds before the first command
pub Stands-first : (layouts : Layouts) (held : Held) → held ≡ held_first → Stands layouts [] held None
unfolding any_below first_below last_below device_after plane_bit
Stands-first layouts held is = record {
  held_is = is ∙ held_first-is;
  drawn = record { no_device = refl; not_reached = refl; no_bit = λ kind at. refl };
}

-- the wake-up is read
last_from : (most : ℕ) (commands : List Command) (place : ℕ) (bytes : List ℕ) → first_fault commands place bytes ≡ None → is_wake_up (first_command commands bytes) ≡ true → commands_from (suc most) commands place bytes ≡ Ok (commands ++ first_command commands bytes ∷ [])
unfolding commands_from
last_from most commands place bytes fine last = rw (fine, last) refl

fault_from : (most : ℕ) (commands : List Command) (place : ℕ) (bytes : List ℕ) (fault : Fault) → first_fault commands place bytes ≡ Some fault → commands_from (suc most) commands place bytes ≡ Err fault
unfolding commands_from
fault_from most commands place bytes fault wrong = rw wrong refl

-- an image with the settings that are kept is what the commands configure
is_meaning : (layouts : Layouts) (commands : List Command) (front : List ℕ) (held : Held) (before : AnyImage) (finished : Configuration) → IsDrawn layouts commands before → held ≡ held_after commands → finished ≡ record (configuration_of before) { settings = settings_by held } → meaning (layout_for layouts (device_of before)) front commands ≡ record finished { comment = comment_of front }
unfolding meaning
is_meaning layouts commands front held before finished drawn held_is is =
    let b = configuration_of before in
    let make : Layout → Settings → List Rows → List Rows → Configuration = λ layout settings cram bram. record { layout = layout; comment = comment_of front; settings = settings; cram = cram; bram = bram } in
    let changed : record finished { comment = comment_of front } ≡ make b.layout (settings_by held) b.cram b.bram = ap (λ c. make c.layout c.settings c.cram c.bram) is in
    let drawn_is : record finished { comment = comment_of front } ≡ meaning b.layout front commands =
    changed
    ∙ ap (λ held. make b.layout (settings_by held) b.cram b.bram) held_is
    ∙ ap (λ cram. make b.layout (settings_by (held_after commands)) cram b.bram) drawn.cram_is
    ∙ ap (λ bram. make b.layout (settings_by (held_after commands)) (planes_of (device_of before) Cram commands) bram) drawn.bram_is in
    ap (λ layout. meaning layout front commands) drawn.layout_is ∙ sym drawn_is

module _ (layouts : Layouts) (bytes : List ℕ) (start place : ℕ) (held : Held) (image : Option AnyImage) (read : HasRead layouts bytes start place held image) (within : place ≤ length bytes) where
  -- another command can be read
  some_more : (m : ℕ) × (read.most ≡ suc m)
  some_more =
      let e : read.most ≡ suc (read.most - 1) = omega (arith, read.enough) in
      (read.most - 1, e)

  goes_on : (m : ℕ) → read.most ≡ suc m → commands_from (length bytes + 1) [] start (drop start bytes) ≡ commands_from (suc m) read.commands place (drop place bytes)
  goes_on m is = read.goes_on ∙ ap (λ most. commands_from most read.commands place (drop place bytes)) is

  -- a fault
  pub read_refused : (fault : BinFault) → Refuses (first_fault read.commands place (drop place bytes)) fault → (front : List ℕ) → Tells (image_of layouts front (commands_from (length bytes + 1) [] start (drop start bytes))) fault
  read_refused (At offset cause) wrong front =
      let more = some_more in
      ap (image_of layouts front) (goes_on more.0 more.1 ∙ fault_from more.0 read.commands place (drop place bytes) (fault_at offset cause) wrong)
  read_refused (Memory e) wrong front = tt

  -- the wake-up
  module _ (size : ℕ) (is_last : Bool) (after : Held) (shown : Option AnyImage) (entered : IsEntered layouts read.commands place (drop place bytes) size is_last after shown) (last : is_last ≡ true) where
    abbrev all : List Command
    all = read.commands ++ first_command read.commands (drop place bytes) ∷ []

    commands_are : commands_from (length bytes + 1) [] start (drop start bytes) ≡ Ok all
    commands_are =
        let more = some_more in
        goes_on more.0 more.1 ∙ last_from more.0 read.commands place (drop place bytes) entered.fine (sym entered.last_is ∙ last)

    pub read_image : (finished : AnyImage) → IsFinished after shown finished → (front : List ℕ) → image_of layouts front (commands_from (length bytes + 1) [] start (drop start bytes)) ≡ Ok (record (configuration_of finished) { comment = comment_of front })
    read_image finished is front =
        let drawn : IsDrawn layouts all is.before = subst (Holds layouts all) is.drawn_is entered.stands.drawn in
        ap (image_of layouts front) commands_are
        ∙ ap (λ device. Ok (meaning (layout_for layouts (device_or device)) front all)) drawn.device_is
        ∙ ap (λ c. Ok c) (is_meaning layouts all front after is.before (configuration_of finished) drawn entered.stands.held_is is.settings_are)

    -- there is an image
    pub not_missing : shown ≡ None → (front : List ℕ) (fault : BinFault) → Tells (image_of layouts front (commands_from (length bytes + 1) [] start (drop start bytes))) fault
    not_missing none front fault =
        let blank : IsBlank all = subst (Holds layouts all) none entered.stands.drawn in
        let reached : reached_in all ≡ true = sym (ap (λ held. held.reached) entered.stands.held_is) ∙ entered.reached last in
        let bad : true ≡ false = sym reached ∙ blank.not_reached in
        absurd cc

-- ---- the preamble

-- what is read after a preamble
pub read_at : (layouts : Layouts) (bytes : List ℕ) (place : ℕ) → Some place ≡ preamble_offset bytes → bin_read_of layouts bytes ≡ image_of layouts (take place bytes) (commands_from (length bytes + 1) [] (place + 4) (drop (place + 4) bytes))
unfolding bin_read_of
read_at layouts bytes place is = ap (read_after layouts bytes) (sym is)

-- what is read if there is none
pub read_nowhere : (layouts : Layouts) (bytes : List ℕ) → None ≡ preamble_offset bytes → bin_read_of layouts bytes ≡ Err (fault_at (length bytes) NoPreamble)
unfolding bin_read_of
read_nowhere layouts bytes is = ap (read_after layouts bytes) (sym is)

-- a fault that was reported of an equal reading
pub Tells-by : (read other : Result Configuration Fault) (fault : BinFault) → read ≡ other → Tells other fault → Tells read fault
Tells-by read other fault same told = subst (λ (read : Result Configuration Fault). Tells read fault) (sym same) told
