-- What a decoder keeps, as commands are taken and bytes follow.
use Rattle.std.proofs.Common.{◌≡◌, ℕ, ◌+◌, ◌-◌, ◌<◌, ◌≤◌, Bool, true, false, List, [], ◌∷◌, ◌++◌, length, take, drop, Option, Some, None, Result, Ok, Err, length-append, append_assoc, drop-drop, refl, sym, ap, ap₂, subst, ◌∙◌, arith}
use Rattle.std.proofs.lemmas.List.{take_at, drop_at, length-take-le}
use Rattle.std.proofs.lemmas.List.Elements.{All-nil, All-cons, All-append}
use Rattle.layout_file.specs.declared.layouts.Layouts.{Layouts}
use Rattle.layout_file.specs.Layouts.{AreLayouts}
use Rattle.ice_image.specs.Configuration.{Configuration}
use Rattle.ice_image.specs.Either.{configuration_of}
use Rattle.ice_image.specs.declared.any.AnyImage.{AnyImage}
use Rattle.bin_stream.specs.Commands.{Command, spelling, spelled, is_wake_up}
use Rattle.bin_stream.specs.Refusals.{Fault, fault_at, first_fault}
use Rattle.bin_stream.specs.Front.{preamble, preamble_offset, comment_of}
use Rattle.bin_stream.specs.Spelling.{Spells, FailsAt, IsRefused, first_command, commands_from, image_of, bin_read_of, IsDecided, Tells}
use Rattle.bin_stream.specs.Settled.{is_unfinished, Settles, IsOpen}
use Rattle.bin_stream.specs.Decoding.{StandsFor}
use Rattle.bin_stream.specs.declared.reading.decoder.Decoder.{Decoder}
use Rattle.bin_stream.specs.inside.Registers.{Held, held_first}
use Rattle.bin_stream.specs.inside.Step.{Refuses, IsEntered, HasRead, Stands}
use Rattle.bin_stream.specs.inside.Stages.{is_cut, KeepsPlain, IsReading, IsCut, IsWoken, IsStage, fault_in}
use Rattle.bin_stream.specs.declared.fault.BinCause.TheVariants.{NoPreamble, Truncated}
use Rattle.bin_stream.specs.declared.fault.BinFault.{BinFault}
use Rattle.bin_stream.specs.declared.fault.BinFault.TheVariants.{At, Memory}
use Rattle.bin_stream.specs.declared.reading.stage.Stage.{Stage}
use Rattle.bin_stream.specs.declared.reading.stage.Stage.TheVariants.{Front, Plain, Commands, Image, Refused}
use Rattle.bin_stream.proofs.Allowed.{Follows-from_IsAllowed, IsAllowed-from_Follows, Follows-push}
use Rattle.bin_stream.proofs.OneCommand.{first_fault-begins, first_command-is}
use Rattle.bin_stream.proofs.ManyCommands.{length-spelled, spelled-push, commands_from-run}
use Rattle.bin_stream.proofs.PreamblePlace.{preamble_offset-splits}
use Rattle.bin_stream.proofs.FrontGrown.{preamble_offset-grown, found-plain, plain-found}
use Rattle.bin_stream.proofs.Settled.{first_fault-stays, first_fault-ends}
use Rattle.bin_stream.proofs.ReadSoFar.{Stands-first, read_refused, read_image, not_missing, read_at, read_nowhere}
use Rattle.bin_stream.proofs.Decided.{decided}

-- ---- the first command

-- nothing is read after the preamble
reading-first : (layouts : Layouts) (bytes : List ℕ) (place : ℕ) (comment : Option (List (List ℕ))) (held : Held) → preamble_offset bytes ≡ Some place → comment ≡ comment_of (take place bytes) → held ≡ held_first → IsReading layouts bytes comment held None (place + 4) (drop (place + 4) bytes)
unfolding spelled
reading-first layouts bytes place comment held is comment_is held_is =
    let splits = preamble_offset-splits bytes place is in
    let long : length (take place bytes) ≡ place = length-take-le place bytes (omega (arith, splits.0)) in
    record {
      front = take place bytes;
      commands = [];
      spelled_is = splits.1;
      front_is = is ∙ ap (λ n. Some n) (sym long);
      comment_is = comment_is;
      allowed = IsAllowed-from_Follows [] tt;
      before = All-nil (λ c. is_wake_up c ≡ false);
      stands = Stands-first layouts held held_is;
      offset_is = omega (arith, long);
    }

-- the same rest at the same offset
pub reading-at : (layouts : Layouts) (all : List ℕ) (comment : Option (List (List ℕ))) (held : Held) (image : Option AnyImage) (offset there : ℕ) (bytes rest : List ℕ) → there ≡ offset → rest ≡ bytes → IsReading layouts all comment held image offset bytes → IsReading layouts all comment held image there rest
reading-at layouts all comment held image offset there bytes rest there_is rest_is reading =
    subst (λ (offset : ℕ). IsReading layouts all comment held image offset rest) (sym there_is)
    (subst (λ (bytes : List ℕ). IsReading layouts all comment held image offset bytes) (sym rest_is) reading)

-- nothing is read at a cursor after the preamble
pub reading-begins : (layouts : Layouts) (bytes : List ℕ) (place : ℕ) (comment : Option (List (List ℕ))) (held : Held) → preamble_offset bytes ≡ Some place → comment ≡ comment_of (take place bytes) → held ≡ held_first → (there : ℕ) (rest : List ℕ) → there ≡ place + 4 → rest ≡ drop (place + 4) bytes → IsReading layouts bytes comment held None there rest
reading-begins layouts bytes place comment held is comment_is held_is there rest there_is rest_is =
    reading-at layouts bytes comment held None (place + 4) there (drop (place + 4) bytes) rest there_is rest_is (reading-first layouts bytes place comment held is comment_is held_is)

module _ (layouts : Layouts) (bytes : List ℕ) (comment : Option (List (List ℕ))) (held : Held) (image : Option AnyImage) (offset : ℕ) (rest : List ℕ) (reading : IsReading layouts bytes comment held image offset rest) where
  abbrev commands : List Command
  commands = reading.commands

  abbrev front : List ℕ
  front = reading.front

  -- where the rest begins
  pub offset-rest : offset + length rest ≡ length bytes
  offset-rest = omega (arith, reading.offset_is, ap length reading.spelled_is, length-append (front ++ preamble) (spelled commands ++ rest), length-append front preamble, length-append (spelled commands) rest)

  rest-is : drop offset bytes ≡ rest
  rest-is =
      ap (drop offset) (reading.spelled_is ∙ sym (append_assoc (front ++ preamble) (spelled commands) rest))
      ∙ drop_at (front ++ preamble ++ spelled commands) rest offset (omega (arith, reading.offset_is, length-append (front ++ preamble) (spelled commands), length-append front preamble))

  start-is : drop (length front + 4) bytes ≡ spelled commands ++ rest
  start-is = ap (drop (length front + 4)) reading.spelled_is ∙ drop_at (front ++ preamble) (spelled commands ++ rest) (length front + 4) (length-append front preamble)

  -- the same by places
  has-read : HasRead layouts bytes (length front + 4) offset held image
  has-read =
      let m = length bytes + 1 - length commands in
      let few = length-spelled commands in
      let long = offset-rest in
      let count : length bytes + 1 ≡ length commands + m = omega (arith, reading.offset_is) in
      record {
        commands = commands;
        most = m;
        enough = omega (arith, reading.offset_is);
        goes_on =
            ap₂ (λ n following. commands_from n [] (length front + 4) following) count start-is
            ∙ commands_from-run m [] commands (length front + 4) rest (Follows-from_IsAllowed commands reading.allowed) reading.before
            ∙ ap₂ (λ offset following. commands_from m commands offset following) (sym reading.offset_is) (sym rest-is);
        stands = reading.stands;
      }

  -- what is read
  read-is : bin_read_of layouts bytes ≡ image_of layouts front (commands_from (length bytes + 1) [] (length front + 4) (drop (length front + 4) bytes))
  read-is =
      let before : take (length front) bytes ≡ front = ap (take (length front)) (reading.spelled_is ∙ append_assoc front preamble (spelled commands ++ rest)) ∙ take_at front (preamble ++ (spelled commands ++ rest)) (length front) refl in
      read_at layouts bytes (length front) (sym reading.front_is)
      ∙ ap (λ front. image_of layouts front (commands_from (length bytes + 1) [] (length reading.front + 4) (drop (length reading.front + 4) bytes))) before

  within : offset ≤ length bytes
  within = omega (arith, offset-rest)

  -- a fault of the next command is that of the bytes
  pub reading-refused : (fault : BinFault) → Refuses (first_fault commands offset rest) fault → Tells (bin_read_of layouts bytes) fault
  unfolding has-read
  reading-refused fault wrong =
      let here : Refuses (first_fault commands offset (drop offset bytes)) fault = subst (λ (rest : List ℕ). Refuses (first_fault commands offset rest) fault) (sym rest-is) wrong in
      subst (λ (read : Result Configuration Fault). Tells read fault) (sym read-is) (read_refused layouts bytes (length front + 4) offset held image has-read within fault here front)

  -- and it is settled if it isn't that the input ended early
  pub reading-settled : (fault : BinFault) → Refuses (first_fault commands offset rest) fault → is_cut fault ≡ false → Settles (bin_read_of layouts bytes) fault
  reading-settled (At place cause) wrong firm = (reading-refused (At place cause) wrong, firm)
  reading-settled (Memory e) wrong firm = tt

  -- bytes that follow come to the rest
  pub reading-grown : (piece : List ℕ) → IsReading layouts (bytes ++ piece) comment held image offset (rest ++ piece)
  reading-grown piece = record {
    front = front;
    commands = commands;
    spelled_is =
        ap (λ bytes. bytes ++ piece) reading.spelled_is
        ∙ append_assoc (front ++ preamble) (spelled commands ++ rest) piece
        ∙ ap (λ following. front ++ preamble ++ following) (append_assoc (spelled commands) rest piece);
    front_is = preamble_offset-grown bytes piece (length front) reading.front_is;
    comment_is = reading.comment_is;
    allowed = reading.allowed;
    before = reading.before;
    stands = reading.stands;
    offset_is = reading.offset_is;
  }

  module _ (size : ℕ) (is_last : Bool) (after : Held) (shown : Option AnyImage) (entered : IsEntered layouts commands offset rest size is_last after shown) where
    -- another command
    pub reading-more : is_last ≡ false → IsReading layouts bytes comment after shown (offset + size) (drop size rest)
    reading-more goes =
        let begins = first_fault-begins commands offset rest entered.fine in
        let command = begins.command in
        let same : first_command commands rest ≡ command = ap (first_command commands) begins.spelled_is ∙ first_command-is commands command begins.rest begins.allowed in
        let size_is : size ≡ length (spelling command) = entered.size_is ∙ ap (λ command. length (spelling command)) same in
        let left : drop size rest ≡ begins.rest = ap (drop size) begins.spelled_is ∙ drop_at (spelling command) begins.rest size (sym size_is) in
        let push = spelled-push commands command in
        record {
          front = front;
          commands = commands ++ command ∷ [];
          spelled_is =
              reading.spelled_is
              ∙ ap (λ rest. front ++ preamble ++ (spelled commands ++ rest)) begins.spelled_is
              ∙ ap (λ following. front ++ preamble ++ following) (sym (append_assoc (spelled commands) (spelling command) begins.rest) ∙ ap₂ (λ spelled rest. spelled ++ rest) (sym push) (sym left));
          front_is = reading.front_is;
          comment_is = reading.comment_is;
          allowed = IsAllowed-from_Follows (commands ++ command ∷ []) (Follows-push [] commands command (Follows-from_IsAllowed commands reading.allowed) begins.allowed);
          before = All-append (λ c. is_wake_up c ≡ false) commands (command ∷ []) reading.before (All-cons (λ c. is_wake_up c ≡ false) command [] (ap is_wake_up (sym same) ∙ sym entered.last_is ∙ goes) (All-nil (λ c. is_wake_up c ≡ false)));
          stands = subst (λ (command : Command). Stands layouts (commands ++ command ∷ []) after shown) same entered.stands;
          offset_is = omega (arith, reading.offset_is, size_is, ap length push, length-append (spelled commands) (spelling command));
        }

    -- the wake-up
    pub reading-woken : is_last ≡ true → IsWoken layouts bytes comment after shown
    unfolding has-read
    reading-woken last =
        let here : IsEntered layouts commands offset (drop offset bytes) size is_last after shown = subst (λ (rest : List ℕ). IsEntered layouts commands offset rest size is_last after shown) (sym rest-is) entered in
        let fault_is : (cause_place : ℕ) → shown ≡ None → Tells (bin_read_of layouts bytes) (At cause_place Truncated) = λ place none.
        subst (λ (read : Result Configuration Fault). Tells read (At place Truncated)) (sym read-is) (not_missing layouts bytes (length front + 4) offset held image has-read within size is_last after shown here last none front (At place Truncated)) in
        record {
          is_there = λ none.
              let told : ℕ → Result Configuration Fault = λ place. Err (fault_at place Truncated) in
              let both : told 0 ≡ told 1 = sym (fault_is 0 none) ∙ fault_is 1 none in
              let same : fault_at 0 Truncated ≡ fault_at 1 Truncated = cc in
              let places : 0 ≡ 1 = ap (λ (fault : Fault). fault.offset) same in
              omega arith;
          read = λ finished is.
              read-is
              ∙ read_image layouts bytes (length front + 4) offset held image has-read within size is_last after shown here last finished is front
              ∙ ap (λ comment. Ok (record (configuration_of finished) { comment = comment })) (sym reading.comment_is);
        }

-- ---- commands that are taken off bytes one after the other

-- The commands are taken under layouts that are those of the start. What is left begins at a cursor.
module _ (layouts taken_layouts : Layouts) (same : taken_layouts ≡ layouts) (all : List ℕ) (comment : Option (List (List ℕ))) (held : Held) (image : Option AnyImage) (offset there : ℕ) (bytes rest : List ℕ) (there_is : there ≡ offset) (rest_is : rest ≡ bytes) (read : IsReading layouts all comment held image offset bytes) where
  abbrev reading : IsReading layouts all comment held image there rest
  reading = reading-at layouts all comment held image offset there bytes rest there_is rest_is read

  stands-here : Stands taken_layouts reading.commands held image
  stands-here = subst (λ (layouts : Layouts). Stands layouts reading.commands held image) (sym same) reading.stands

  pub taken-refused : (fault : BinFault) → ((commands : List Command) → Stands taken_layouts commands held image → Refuses (first_fault commands there rest) fault) → is_cut fault ≡ false → Settles (bin_read_of layouts all) fault
  taken-refused fault wrong firm = reading-settled layouts all comment held image there rest reading fault (wrong reading.commands stands-here) firm

  pub taken-cut : (after : Held) (shown : Option AnyImage) → after ≡ held → shown ≡ image → ((commands : List Command) → Stands taken_layouts commands held image → first_fault commands there rest ≡ Some (fault_at (there + length rest) Truncated)) → IsCut layouts all comment after shown offset bytes
  taken-cut after shown after_is shown_is wrong =
      let here : IsCut layouts all comment held image there rest = record { reading = reading; cut = wrong reading.commands stands-here } in
      let at : IsCut layouts all comment held image offset bytes =
      subst (λ (offset : ℕ). IsCut layouts all comment held image offset bytes) there_is
      (subst (λ (bytes : List ℕ). IsCut layouts all comment held image there bytes) rest_is here) in
      subst (λ (held : Held). IsCut layouts all comment held shown offset bytes) (sym after_is)
      (subst (λ (image : Option AnyImage). IsCut layouts all comment held image offset bytes) (sym shown_is) at)

  module _ (size : ℕ) (is_last : Bool) (after : Held) (shown : Option AnyImage) (entered : (commands : List Command) → Stands taken_layouts commands held image → IsEntered taken_layouts commands there rest size is_last after shown) where
    entered-here : IsEntered layouts reading.commands there rest size is_last after shown
    entered-here =
        subst (λ (layouts : Layouts). IsEntered layouts reading.commands there rest size is_last after shown) same (entered reading.commands stands-here)

    pub taken-more : is_last ≡ false → IsReading layouts all comment after shown (offset + size) (drop size bytes)
    taken-more goes =
        reading-at layouts all comment after shown (there + size) (offset + size) (drop size rest) (drop size bytes) (ap (λ offset. offset + size) (sym there_is)) (ap (drop size) (sym rest_is))
        (reading-more layouts all comment held image there rest reading size is_last after shown entered-here goes)

    pub taken-woken : is_last ≡ true → IsWoken layouts all comment after shown
    taken-woken last = reading-woken layouts all comment held image there rest reading size is_last after shown entered-here last

-- ---- bytes that are settled

-- an image that is spelled stays spelled
spells-grown : (layouts : Layouts) (bytes more : List ℕ) (image : Configuration) → Spells layouts bytes image → Spells layouts (bytes ++ more) image
spells-grown layouts bytes more image spells = record {
  front = spells.front;
  commands = spells.commands;
  wake_up = spells.wake_up;
  tail = spells.tail ++ more;
  spelled_is = ap (λ bytes. bytes ++ more) spells.spelled_is ∙ append_assoc (spells.front ++ preamble ++ spelled (spells.commands ++ spells.wake_up ∷ [])) spells.tail more;
  front_is = preamble_offset-grown bytes more (length spells.front) spells.front_is;
  allowed = spells.allowed;
  before = spells.before;
  last = spells.last;
  device = spells.device;
  layout = spells.layout;
  means = spells.means;
}

pub read-image_stays : (layouts : Layouts) → AreLayouts layouts → (bytes more : List ℕ) (image : Configuration) → bin_read_of layouts bytes ≡ Ok image → bin_read_of layouts (bytes ++ more) ≡ Ok image
read-image_stays layouts are bytes more image read =
    ((decided layouts are (bytes ++ more)).spelled image).0 (spells-grown layouts bytes more image (((decided layouts are bytes).spelled image).1 read))

-- a fault stays, unless it is that the input ended early
fails-grown : (bytes more : List ℕ) (fault : Fault) → is_unfinished fault.cause ≡ false → FailsAt bytes fault → FailsAt (bytes ++ more) fault
fails-grown bytes more fault firm fails = record {
  front = fails.front;
  commands = fails.commands;
  rest = fails.rest ++ more;
  spelled_is = ap (λ bytes. bytes ++ more) fails.spelled_is ∙ append_assoc (fails.front ++ preamble ++ spelled fails.commands) fails.rest more;
  front_is = preamble_offset-grown bytes more (length fails.front) fails.front_is;
  allowed = fails.allowed;
  before = fails.before;
  wrong = first_fault-stays fails.commands (length fails.front + 4 + length (spelled fails.commands)) fails.rest more fault fails.wrong firm;
}

refused-grown : (bytes more : List ℕ) (fault : Fault) (place : Option ℕ) → is_unfinished fault.cause ≡ false → preamble_offset bytes ≡ place → IsRefused bytes fault → IsRefused (bytes ++ more) fault
refused-grown bytes more fault None firm is refused =
    let e : fault ≡ fault_at (length bytes) NoPreamble = rw is at refused in
    let bad : true ≡ false = ap (λ (f : Fault). is_unfinished f.cause) (sym e) ∙ firm in
    absurd cc
refused-grown bytes more fault (Some place) firm is refused =
    let fails : FailsAt bytes fault = rw is at refused in
    rw (preamble_offset-grown bytes more place is) (fails-grown bytes more fault firm fails)

pub read-fault_stays : (layouts : Layouts) → AreLayouts layouts → (bytes more : List ℕ) (fault : Fault) → bin_read_of layouts bytes ≡ Err fault → is_unfinished fault.cause ≡ false → bin_read_of layouts (bytes ++ more) ≡ Err fault
read-fault_stays layouts are bytes more fault read firm =
    ((decided layouts are (bytes ++ more)).refused fault).0 (refused-grown bytes more fault (preamble_offset bytes) firm refl (((decided layouts are bytes).refused fault).1 read))

pub settles-grown : (layouts : Layouts) → AreLayouts layouts → (bytes more : List ℕ) (fault : BinFault) → Settles (bin_read_of layouts bytes) fault → Settles (bin_read_of layouts (bytes ++ more)) fault
settles-grown layouts are bytes more (At place cause) settles = (read-fault_stays layouts are bytes more (fault_at place cause) settles.0 settles.1, settles.1)
settles-grown layouts are bytes more (Memory e) settles = tt

-- ---- stages

-- what the stages say of the bytes
pub front-told : (layouts : Layouts) (bytes : List ℕ) (fed : ℕ) (fault : BinFault) → preamble_offset bytes ≡ None → fed ≡ length bytes → fault ≡ At fed NoPreamble → Tells (bin_read_of layouts bytes) fault
front-told layouts bytes fed fault none fed_is is =
    subst (Tells (bin_read_of layouts bytes)) (ap (λ n. At n NoPreamble) (sym fed_is) ∙ sym is) (read_nowhere layouts bytes (sym none))

pub cut-told : (layouts : Layouts) (bytes : List ℕ) (comment : Option (List (List ℕ))) (held : Held) (image : Option AnyImage) (offset : ℕ) (rest : List ℕ) (fed : ℕ) (fault : BinFault) → IsCut layouts bytes comment held image offset rest → fed ≡ length bytes → fault ≡ At fed Truncated → Tells (bin_read_of layouts bytes) fault
cut-told layouts bytes comment held image offset rest fed fault cut fed_is is =
    let there : offset + length rest ≡ fed = offset-rest layouts bytes comment held image offset rest cut.reading ∙ sym fed_is in
    subst (Tells (bin_read_of layouts bytes)) (ap (λ n. At n Truncated) there ∙ sym is) (reading-refused layouts bytes comment held image offset rest cut.reading (At (offset + length rest) Truncated) cut.cut)

-- a fault is settled at a refusal
pub stage_settled : (layouts : Layouts) (bytes : List ℕ) (stage : Stage) (fault : BinFault) → IsStage layouts bytes stage → fault_in stage ≡ Some fault → Settles (bin_read_of layouts bytes) fault
stage_settled layouts bytes (Front kept) fault is refused = absurd cc
stage_settled layouts bytes (Plain last) fault is refused = absurd cc
stage_settled layouts bytes (Commands comment registers image pending) fault is refused = absurd cc
stage_settled layouts bytes (Image image) fault is refused = absurd cc
stage_settled layouts bytes (Refused other) fault is refused =
    let same : other ≡ fault = cc in
    subst (Settles (bin_read_of layouts bytes)) same is

-- a fault that was reported
pub settles-tells : (read : Result Configuration Fault) (fault : BinFault) → Settles read fault → Tells read fault
settles-tells read (At place cause) settles = settles.0
settles-tells read (Memory e) settles = tt

-- whatever follows
pub stage_stays : (layouts : Layouts) → AreLayouts layouts → (bytes more : List ℕ) (stage : Stage) (fault : BinFault) → IsStage layouts bytes stage → fault_in stage ≡ Some fault → Tells (bin_read_of layouts (bytes ++ more)) fault
stage_stays layouts are bytes more stage fault is refused =
    settles-tells (bin_read_of layouts (bytes ++ more)) fault (settles-grown layouts are bytes more fault (stage_settled layouts bytes stage fault is refused))

-- and nothing is elsewhere
pub stage_open : (layouts : Layouts) (bytes : List ℕ) (stage : Stage) → IsStage layouts bytes stage → fault_in stage ≡ None → IsOpen (bin_read_of layouts bytes)
stage_open layouts bytes (Front kept) is open_stage =
    subst IsOpen (sym (front-told layouts bytes (length bytes) (At (length bytes) NoPreamble) is.none refl refl)) refl
stage_open layouts bytes (Plain last) is open_stage =
    subst IsOpen (sym (front-told layouts bytes (length bytes) (At (length bytes) NoPreamble) is.none refl refl)) refl
stage_open layouts bytes (Commands comment registers image pending) is open_stage =
    subst IsOpen (sym (cut-told layouts bytes comment registers image (length bytes - length pending.items) pending.items (length bytes) (At (length bytes) Truncated) is refl refl)) refl
stage_open layouts bytes (Image image) is open_stage = subst IsOpen (sym is) tt
stage_open layouts bytes (Refused fault) is open_stage = absurd cc

-- bytes are decided under the layouts of a decoder
pub decided_for : (layouts : Layouts) (bytes more : List ℕ) (decoder : Decoder) → StandsFor layouts bytes decoder → IsDecided layouts more
decided_for layouts bytes more decoder stands = decided layouts (subst AreLayouts stands.layouts_are decoder.laid) more

-- a fault of the input's end
pub refuses-cut : (commands : List Command) (place : ℕ) (bytes : List ℕ) (fault : BinFault) → Refuses (first_fault commands place bytes) fault → is_cut fault ≡ true → first_fault commands place bytes ≡ Some (fault_at (place + length bytes) Truncated)
refuses-cut commands place bytes (At there cause) wrong cut = first_fault-ends commands place bytes (fault_at there cause) wrong cut
refuses-cut commands place bytes (Memory e) wrong cut = absurd cc

-- what is pending stands at the end
pub cut-pending : (layouts : Layouts) (all : List ℕ) (comment : Option (List (List ℕ))) (held : Held) (image : Option AnyImage) (offset : ℕ) (rest pending : List ℕ) → IsCut layouts all comment held image offset rest → pending ≡ rest → IsCut layouts all comment held image (length all - length pending) pending
cut-pending layouts all comment held image offset rest pending cut is =
    let there : offset ≡ length all - length rest = omega (arith, offset-rest layouts all comment held image offset rest cut.reading) in
    subst (λ (rest : List ℕ). IsCut layouts all comment held image (length all - length rest) rest) (sym is)
    (subst (λ (offset : ℕ). IsCut layouts all comment held image offset rest) there cut)

-- ---- a front that ends

-- the preamble is found after the last three bytes, at a place in a piece
pub plain-ends : (layouts : Layouts) (bytes last piece : List ℕ) → KeepsPlain bytes last → (start : ℕ) (held : Held) → 0 < start → preamble_offset (last ++ piece) ≡ Some (start - 1) → held ≡ held_first → IsReading layouts (bytes ++ piece) None held None (length bytes + start) (drop start piece)
plain-ends layouts bytes last piece keeps start held some is held_is =
    let all = bytes ++ piece in
    let three = keeps.plain.0 in
    let place = length bytes - 3 + (start - 1) in
    let reading = reading-first layouts all place None held (found-plain bytes last piece keeps (start - 1) is) (sym (plain-found bytes last piece keeps place)) held_is in
    let e : place + 4 ≡ length bytes + start = omega arith in
    let rest : drop (place + 4) all ≡ drop start piece = ap (λ n. drop n all) (e ∙ omega arith) ∙ sym (drop-drop start (length bytes) all) ∙ ap (drop start) (drop_at bytes piece (length bytes) refl) in
    subst (λ (offset : ℕ). IsReading layouts all None held None offset (drop start piece)) e
    (subst (λ (rest : List ℕ). IsReading layouts all None held None (place + 4) rest) rest reading)

-- bytes that follow those that are pending
pub pending-grown : (layouts : Layouts) (bytes piece : List ℕ) (comment : Option (List (List ℕ))) (held : Held) (image : Option AnyImage) (fed : ℕ) (pending : List ℕ) → IsReading layouts bytes comment held image (fed - length pending) pending → (offset : ℕ) (shown : List ℕ) → offset ≡ fed - length pending → shown ≡ pending ++ piece → IsReading layouts (bytes ++ piece) comment held image offset shown
pending-grown layouts bytes piece comment held image fed pending reading offset shown offset_is shown_is =
    reading-at layouts (bytes ++ piece) comment held image (fed - length pending) offset (pending ++ piece) shown offset_is shown_is
    (reading-grown layouts bytes comment held image (fed - length pending) pending reading piece)

-- what follows if nothing was taken yet
pub begins : (P : Layouts → Type 0) (layouts other : Layouts) (all : List ℕ) (comment : Option (List (List ℕ))) (held : Held) (image : Option AnyImage) (offset : ℕ) (rest : List ℕ) → other ≡ layouts → image ≡ None → IsReading layouts all comment held None offset rest → (IsReading other all comment held image offset rest → P other) → P layouts
begins P layouts other all comment held image offset rest same none reading told =
    subst P same
    (told (subst (λ (l : Layouts). IsReading l all comment held image offset rest) (sym same)
    (subst (λ (image : Option AnyImage). IsReading layouts all comment held image offset rest) (sym none) reading)))

-- nothing is pending
pub nothing-before : (pending piece : List ℕ) → length pending ≡ 0 → piece ≡ pending ++ piece
nothing-before [] piece is = refl
nothing-before (byte ∷ pending) piece is = absurd (omega arith)
