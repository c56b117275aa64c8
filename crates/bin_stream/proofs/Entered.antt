-- A command that was entered, or what is wrong with it.
use Rattle.std.proofs.Common.{◌≡◌, ℕ, suc, ◌+◌, ◌*◌, ◌/◌, ◌%◌, ◌≤◌, Bool, true, false, not, ◌&&◌, List, [], ◌∷◌, ◌++◌, length, take, drop, refl, sym, ap, ap₂, subst, ◌∙◌, arith, inl, inr, append_assoc, length-append, length-take-le, take_at, take-append-drop, drop-drop}
use Rattle.std.specs.Prelude.{Option, Some, None, ◌==◌}
use Rattle.std.proofs.lemmas.Bool.{cases_Bool, eqb-true, and_parts}
use Rattle.index_search.proofs.Found.{or_else-neither}
use Rattle.index_search.specs.Places.{or_else}
use Rattle.layout_file.specs.declared.layouts.Layouts.{Layouts}
use Rattle.layout_file.specs.Layouts.{AreLayouts}
use Rattle.ice_image.specs.declared.any.AnyImage.{AnyImage}
use Rattle.ice_image.specs.declared.planes.PlaneKind.{PlaneKind}
use Rattle.bin_stream.specs.Commands.{Command, Short, Data, number_of, spelling, is_wake_up, control_opcode, wake_up_number}
use Rattle.bin_stream.specs.State.{size_after}
use Rattle.bin_stream.specs.Refusals.{Fault, cause_if, fault_at, head_fault, first_fault, payload_fault, fault_where, body_fault, data_cause, data_fault, data_kind}
use Rattle.bin_stream.specs.Spelling.{first_command, command_of}
use Rattle.bin_stream.specs.inside.Heads.{first_byte, payload_in, head_size, opcode_in, number_in, IsOf, Shows}
use Rattle.bin_stream.specs.declared.reading.command.Command.{Command as Parsed}
use Rattle.bin_stream.specs.declared.reading.command.Command.TheVariants.{Data as ParsedData, Short as ParsedShort}
use Rattle.bin_stream.specs.declared.reading.command.ShortCommand.{ShortCommand}
use Rattle.bin_stream.specs.declared.reading.command.ShortCommand.TheVariants.{Reset, WakeUp, Bank, Check, BootAddress, Range, Width, Height, Offset, Mode}
use Rattle.bin_stream.specs.inside.Registers.{Held, held_after, short_cause_by, checked, after_short, data_cause_by, after_data}
use Rattle.bin_stream.specs.inside.Step.{device_if, Refuses, IsDrawnOn, Stands, IsEntered}
use Rattle.bin_stream.specs.declared.fault.BinCause.{BinCause}
use Rattle.bin_stream.specs.declared.fault.BinFault.{BinFault}
use Rattle.bin_stream.specs.declared.fault.BinCause.TheVariants.{NoDevice}
use Rattle.bin_stream.proofs.OneCommand.{kind-from, body-ends}
use Rattle.bin_stream.proofs.Steps.{after_payload, with_payload, read_fault, read_command, length-payload, spelled_short, short_cause-is, after_short-is, held_after-short, held_after-data}
use Rattle.bin_stream.proofs.Drawn.{device_if-is, Holds-short, Holds-data}

-- a fault that was reported of an equal value
pub Refuses-by : (found other : Option Fault) (fault : BinFault) → found ≡ other → Refuses other fault → Refuses found fault
Refuses-by found other fault same told = subst (λ (found : Option Fault). Refuses found fault) (sym same) told

-- a wake-up that may stand there has a configuration plane's last row before it
wake_up_reached : (held : Held) (opcode n : ℕ) → ((opcode == control_opcode) && (n == wake_up_number)) ≡ true → None ≡ short_cause_by held opcode n → held.reached ≡ true
wake_up_reached held opcode n is allowed =
    let parts = and_parts (opcode == control_opcode) (n == wake_up_number) is in
    let P : ℕ → ℕ → Type 0 = λ opcode n. None ≡ short_cause_by held opcode n in
    let at_control : P control_opcode n = subst (λ (opcode : ℕ). P opcode n) (eqb-true opcode control_opcode parts.0) allowed in
    let here : None ≡ cause_if (not held.reached) NoDevice = subst (P control_opcode) (eqb-true n wake_up_number parts.1) at_control in
    elim (cases_Bool held.reached) [
      | inl reached ↦ reached
      | inr not_reached ↦
          let bad : None ≡ Some NoDevice = rw not_reached at here in
          absurd cc
    ]

-- no command that isn't data begins data
short-no_data : (command : ShortCommand) → data_kind (opcode_in command) (number_in command) ≡ None
short-no_data Reset = refl
short-no_data WakeUp = refl
short-no_data (Bank number) = refl
short-no_data (Check number) = refl
short-no_data (BootAddress number) = refl
short-no_data (Range number) = refl
short-no_data (Width number) = refl
short-no_data (Height number) = refl
short-no_data (Offset number) = refl
short-no_data (Mode number) = refl

-- what was read by an opcode and a number is the first command
pub shows-first : (commands : List Command) (place : ℕ) (bytes : List ℕ) (parsed : Parsed) → head_fault place bytes ≡ None → IsOf (first_byte bytes / 16) (number_of (payload_in bytes)) parsed → Shows (first_command commands bytes) parsed
shows-first commands place bytes (ParsedData kind) fine is =
    let command_is = read_command commands place bytes fine ∙ ap (λ kind. command_of commands (first_byte bytes / 16) (payload_in bytes) kind (after_payload bytes)) is in
    subst (λ (command : Command). Shows command (ParsedData kind)) (sym command_is) refl
shows-first commands place bytes (ParsedShort short) fine is =
    let no_data : data_kind (first_byte bytes / 16) (number_of (payload_in bytes)) ≡ None = ap₂ data_kind is.0 is.1 ∙ short-no_data short in
    let command_is = read_command commands place bytes fine ∙ ap (λ kind. command_of commands (first_byte bytes / 16) (payload_in bytes) kind (after_payload bytes)) no_data in
    subst (λ (command : Command). Shows command (ParsedShort short)) (sym command_is) is

module _ (layouts : Layouts) (commands : List Command) (place size : ℕ) (bytes : List ℕ) (held : Held) (image : Option AnyImage) (fine : head_fault place bytes ≡ None) (size_is : size ≡ head_size bytes) (stands : Stands layouts commands held image) where
  abbrev opcode : ℕ
  opcode = first_byte bytes / 16

  abbrev payload : List ℕ
  payload = payload_in bytes

  abbrev number : ℕ
  number = number_of (payload_in bytes)

  -- ---- commands that aren't data

  abbrev short : Command
  short = Short opcode payload

  module _ (command : ShortCommand) (says : (opcode ≡ opcode_in command) × (number ≡ number_in command)) where
    no_data : data_kind opcode number ≡ None
    no_data = ap₂ data_kind says.0 says.1 ∙ short-no_data command

    spelled_whole : take size bytes ≡ spelling short
    spelled_whole = ap (λ size. take size bytes) size_is ∙ spelled_short place bytes fine

    short_is : first_command commands bytes ≡ short
    short_is = read_command commands place bytes fine ∙ ap (λ kind. command_of commands opcode payload kind (after_payload bytes)) no_data

    short_fault : first_fault commands place bytes ≡ fault_where place (short_cause_by (checked held (take size bytes)) (opcode_in command) (number_in command))
    short_fault =
        read_fault commands place bytes fine
        ∙ ap (λ kind. payload_fault commands place opcode payload kind (after_payload bytes)) no_data
        ∙ ap (fault_where place) (short_cause-is commands opcode payload)
        ∙ ap₂ (λ held spelled. fault_where place (short_cause_by (checked held spelled) opcode number)) (sym stands.held_is) (sym spelled_whole)
        ∙ ap₂ (λ opcode number. fault_where place (short_cause_by (checked held (take size bytes)) opcode number)) says.0 says.1

    pub short_refused : (cause : BinCause) → Some cause ≡ short_cause_by (checked held (take size bytes)) (opcode_in command) (number_in command) → first_fault commands place bytes ≡ Some (fault_at place cause)
    short_refused cause is = short_fault ∙ ap (fault_where place) (sym is)

    pub short_entered : (is_last : Bool) (after : Held) → None ≡ short_cause_by (checked held (take size bytes)) (opcode_in command) (number_in command) → after ≡ after_short (checked held (take size bytes)) (opcode_in command) (number_in command) → is_last ≡ ((opcode_in command == control_opcode) && (number_in command == wake_up_number)) → IsEntered layouts commands place bytes size is_last after image
    short_entered is_last after allowed after_is last_is =
        let kept : after ≡ held_after (commands ++ short ∷ []) =
        after_is
        ∙ ap₂ (λ opcode number. after_short (checked held (take size bytes)) opcode number) (sym says.0) (sym says.1)
        ∙ ap₂ (λ held spelled. after_short (checked held spelled) opcode number) stands.held_is spelled_whole
        ∙ held_after-short commands opcode payload in
        let P : Command → Type 0 = λ command. Stands layouts (commands ++ command ∷ []) after image in
        let now : P short = record { held_is = kept; drawn = Holds-short layouts commands opcode payload image stands.drawn } in
        record {
          fine = short_fault ∙ ap (fault_where place) (sym allowed);
          size_is =
              let e : size ≡ suc (length payload) = omega (arith, size_is) in
              e ∙ ap (λ command. length (spelling command)) (sym short_is);
          last_is = last_is ∙ ap₂ (λ opcode number. (opcode == control_opcode) && (number == wake_up_number)) (sym says.0) (sym says.1) ∙ ap is_wake_up (sym short_is);
          reached = λ last. ap (λ held. held.reached) (after_is ∙ after_short-is (checked held (take size bytes)) (opcode_in command) (number_in command)) ∙ wake_up_reached (checked held (take size bytes)) (opcode_in command) (number_in command) (sym last_is ∙ last) allowed;
          stands = subst P (sym short_is) now;
        }

  -- ---- data

  module _ (kind : PlaneKind) (is_data : data_kind opcode number ≡ Some kind) where
    following : after_payload bytes ≡ drop size bytes
    following =
        let count : first_byte bytes % 16 ≡ length payload = sym (length-payload place bytes fine) in
        ap (λ count. drop count (drop 1 bytes)) count ∙ drop-drop (length payload) 1 bytes ∙ ap (λ n. drop n bytes) (omega (arith, size_is))

    size_is_after : held.width * held.height / 8 ≡ size_after commands
    size_is_after = ap (λ held. held.width * held.height / 8) stands.held_is

    abbrev body : List ℕ
    body = take (size_after commands) (after_payload bytes)

    abbrev command : Command
    command = Data kind payload body

    data_is : first_command commands bytes ≡ command
    data_is = read_command commands place bytes fine ∙ ap (λ kind. command_of commands opcode payload kind (after_payload bytes)) is_data

    pub data_fault-is : first_fault commands place bytes ≡ or_else (fault_where place (data_cause_by held (device_if image) kind)) (body_fault (held.width * held.height / 8) (place + size) (drop size bytes))
    data_fault-is =
        let start : place + 1 + length payload ≡ place + size = omega (arith, size_is) in
        read_fault commands place bytes fine
        ∙ ap (λ kind. payload_fault commands place opcode payload kind (after_payload bytes)) is_data
        ∙ ap (λ fixed. or_else (fault_where place (data_cause_by (held_after commands) fixed kind)) (body_fault (size_after commands) (place + 1 + length payload) (after_payload bytes))) (sym (device_if-is layouts commands image stands.drawn))
        ∙ ap₂ (λ start bytes. or_else (fault_where place (data_cause_by (held_after commands) (device_if image) kind)) (body_fault (size_after commands) start bytes)) start following
        ∙ ap (λ held. or_else (fault_where place (data_cause_by held (device_if image) kind)) (body_fault (held.width * held.height / 8) (place + size) (drop size bytes))) (sym stands.held_is)

    module _ (allowed : first_fault commands place bytes ≡ None) where
      ended : (size_after commands ≤ length (after_payload bytes)) × (drop (size_after commands) (after_payload bytes) ≡ 0 ∷ 0 ∷ drop 2 (drop (size_after commands) (after_payload bytes)))
      ended =
          let none : data_fault commands kind place (place + 1 + length payload) (after_payload bytes) ≡ None = ap (λ kind. payload_fault commands place opcode payload kind (after_payload bytes)) (sym is_data) ∙ sym (read_fault commands place bytes fine) ∙ allowed in
          body-ends (size_after commands) (place + 1 + length payload) (after_payload bytes) (or_else-neither (fault_where place (data_cause commands kind)) (body_fault (size_after commands) (place + 1 + length payload) (after_payload bytes)) none).1

      length-spelling : length (spelling command) ≡ size + size_after commands + 2
      length-spelling =
          let body_long : length body ≡ size_after commands = length-take-le (size_after commands) (after_payload bytes) ended.0 in
          omega (arith, size_is, length-append (payload ++ body) (0 ∷ 0 ∷ []), length-append payload body)

      whole : bytes ≡ spelling command ++ drop 2 (drop (size_after commands) (after_payload bytes))
      whole =
          let more = drop 2 (drop (size_after commands) (after_payload bytes)) in
          let no_opcode : first_byte bytes / 16 ≡ 0 = (kind-from opcode number kind is_data).0 in
          let head : first_byte bytes ≡ length payload = omega (arith, length-payload place bytes fine) in
          let back : after_payload bytes ≡ body ++ (0 ∷ 0 ∷ more) = sym (take-append-drop (size_after commands) (after_payload bytes)) ∙ ap (λ rest. body ++ rest) ended.1 in
          let rest : drop 1 bytes ≡ payload ++ (body ++ (0 ∷ 0 ∷ more)) = sym (take-append-drop (first_byte bytes % 16) (drop 1 bytes)) ∙ ap (λ rest. payload ++ rest) back in
          (with_payload place bytes fine).0
          ∙ ap₂ (λ head rest. head ∷ rest) head (rest ∙ sym (append_assoc payload body (0 ∷ 0 ∷ more)) ∙ sym (append_assoc (payload ++ body) (0 ∷ 0 ∷ []) more))

      pub data_entered : AreLayouts layouts → (end : ℕ) (after : Held) (shown : Option AnyImage) → end ≡ size + held.width * held.height / 8 + 2 → after ≡ after_data held kind (take end bytes) → IsDrawnOn layouts kind held (take (held.width * held.height / 8) (drop size bytes)) image shown → IsEntered layouts commands place bytes end false after shown
      data_entered are end after shown end_is after_is drawn =
          let exact : length (spelling command) ≡ end = omega (arith, length-spelling, size_is_after) in
          let spelled_is : take end bytes ≡ spelling command = ap (take end) whole ∙ take_at (spelling command) (drop 2 (drop (size_after commands) (after_payload bytes))) end exact in
          let kept : after ≡ held_after (commands ++ command ∷ []) =
          after_is
          ∙ ap₂ (λ held bytes. after_data held kind bytes) stands.held_is spelled_is
          ∙ held_after-data commands kind payload body in
          let body_is : take (held.width * held.height / 8) (drop size bytes) ≡ body = ap₂ take size_is_after (sym following) in
          let D : Held → List ℕ → Type 0 = λ held body. IsDrawnOn layouts kind held body image shown in
          let drawn_on : IsDrawnOn layouts kind (held_after commands) body image shown = subst (λ (held : Held). D held body) stands.held_is (subst (λ (body : List ℕ). D held body) body_is drawn) in
          let P : Command → Type 0 = λ command. Stands layouts (commands ++ command ∷ []) after shown in
          let now : P command = record { held_is = kept; drawn = Holds-data layouts are commands kind payload body image shown stands.drawn drawn_on } in
          record {
            fine = allowed;
            size_is = sym exact ∙ ap (λ command. length (spelling command)) (sym data_is);
            last_is = ap is_wake_up (sym data_is);
            reached = λ last. absurd cc;
            stands = subst P (sym data_is) now;
          }
