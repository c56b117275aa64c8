-- Each input has exactly one of the two, an image or a fault, and only one: that which the small program gives.
use Rattle.std.proofs.Common.{◌≡◌, ℕ, ◌+◌, ◌<◌, ◌↔◌, ◌⊎◌, List, [], ◌∷◌, ◌++◌, length, take, drop, Option, Some, None, Result, Ok, Err, length-append, length-drop, append_assoc, refl, sym, ap, ap₂, ◌∙◌, inl, inr, arith}
use Rattle.std.proofs.lemmas.List.{take_at, drop_at, length-take-le}
use Rattle.plane_map.specs.Layout.{Layout}
use Rattle.layout_file.specs.declared.layouts.Layouts.{Layouts}
use Rattle.layout_file.specs.Layouts.{AreLayouts, layout_for}
use Rattle.ice_image.specs.Configuration.{Configuration}
use Rattle.bin_stream.specs.Commands.{Command, spelled}
use Rattle.bin_stream.specs.State.{device_after}
use Rattle.bin_stream.specs.Refusals.{Fault, fault_at, first_fault}
use Rattle.bin_stream.specs.Front.{preamble, preamble_offset}
use Rattle.bin_stream.specs.Meaning.{meaning}
use Rattle.bin_stream.specs.Spelling.{Spells, FailsAt, IsRefused, IsFront, commands_from, image_of, read_after, device_or, bin_read_of, IsDecided}
use Rattle.bin_stream.specs.declared.fault.BinCause.TheVariants.{NoPreamble}
use Rattle.bin_stream.proofs.Allowed.{Follows-from_IsAllowed, IsAllowed-from_Follows, Follows-right}
use Rattle.bin_stream.proofs.ManyCommands.{Woken, Failed, length-spelled, commands_from-woken, commands_from-failed, commands_from-Ok, commands_from-Err}
use Rattle.bin_stream.proofs.PreamblePlace.{preamble_offset-splits}
use Rattle.bin_stream.proofs.DeviceKnown.{device_after-woken, device_after-known}

-- what is read after a front and the preamble
read-front : (layouts : Layouts) (bytes front following : List ℕ) → IsFront front bytes → bytes ≡ front ++ preamble ++ following → bin_read_of layouts bytes ≡ image_of layouts front (commands_from (length bytes + 1) [] (length front + 4) following)
unfolding bin_read_of
read-front layouts bytes front following front_is spelled_is =
    let n = length front in
    let before : take n bytes ≡ front = ap (take n) (spelled_is ∙ append_assoc front preamble following) ∙ take_at front (preamble ++ following) n refl in
    let after : drop (n + 4) bytes ≡ following = ap (drop (n + 4)) spelled_is ∙ drop_at (front ++ preamble) following (n + 4) (length-append front preamble) in
    ap (read_after layouts bytes) front_is
    ∙ ap₂ (λ f b. image_of layouts f (commands_from (length bytes + 1) [] (n + 4) b)) before after

-- there are no more commands than bytes
enough : (bytes before : List ℕ) (commands : List Command) (rest : List ℕ) → bytes ≡ before ++ (spelled commands ++ rest) → length commands < length bytes + 1
enough bytes before commands rest is =
    omega (arith, ap length is, length-append before (spelled commands ++ rest), length-append (spelled commands) rest, length-spelled commands)

-- bytes that spell an image are read as it
pub read-spelled : (layouts : Layouts) (bytes : List ℕ) (image : Configuration) → Spells layouts bytes image → bin_read_of layouts bytes ≡ Ok image
read-spelled layouts bytes image spells =
    let commands = spells.commands in
    let wake_up = spells.wake_up in
    let all = commands ++ wake_up ∷ [] in
    let spelled_is : bytes ≡ spells.front ++ preamble ++ (spelled all ++ spells.tail) = spells.spelled_is ∙ append_assoc (spells.front ++ preamble) (spelled all) spells.tail in
    let fewer : length commands < length bytes + 1 = omega (arith, enough bytes (spells.front ++ preamble) all spells.tail spelled_is, length-append commands (wake_up ∷ [])) in
    read-front layouts bytes spells.front (spelled all ++ spells.tail) spells.front_is spelled_is
    ∙ ap (image_of layouts spells.front) (commands_from-woken (length bytes + 1) commands wake_up (length spells.front + 4) spells.tail (Follows-from_IsAllowed all spells.allowed) spells.before spells.last fewer)
    ∙ ap (λ device. Ok (meaning (layout_for layouts (device_or device)) spells.front all)) (device_after-woken commands wake_up spells.last ∙ spells.device)
    ∙ ap (λ layout. Ok (meaning layout spells.front all)) spells.layout
    ∙ ap (λ i. Ok i) (sym spells.means)

-- bytes that fail at a fault are read as it
read-failed : (layouts : Layouts) (bytes : List ℕ) (fault : Fault) → FailsAt bytes fault → bin_read_of layouts bytes ≡ Err fault
read-failed layouts bytes fault fails =
    let commands = fails.commands in
    let spelled_is : bytes ≡ fails.front ++ preamble ++ (spelled commands ++ fails.rest) = fails.spelled_is ∙ append_assoc (fails.front ++ preamble) (spelled commands) fails.rest in
    read-front layouts bytes fails.front (spelled commands ++ fails.rest) fails.front_is spelled_is
    ∙ ap (image_of layouts fails.front) (commands_from-failed (length bytes + 1) commands fault (length fails.front + 4) fails.rest (Follows-from_IsAllowed commands fails.allowed) fails.before fails.wrong (enough bytes (fails.front ++ preamble) commands fails.rest spelled_is))

-- commands or a fault
cases_read : (read : Result (List Command) Fault) → ((all : List Command) × (read ≡ Ok all)) ⊎ ((fault : Fault) × (read ≡ Err fault))
cases_read (Ok all) = inl (all, refl)
cases_read (Err fault) = inr (fault, refl)

-- the layout of what is configured
layout-meant : (layout : Layout) (front : List ℕ) (commands : List Command) → (meaning layout front commands).layout ≡ layout
unfolding meaning
layout-meant layout front commands = refl

-- an image that commands up to a wake-up mean, after a preamble, is spelled
spelled-woken : (layouts : Layouts) → AreLayouts layouts → (bytes : List ℕ) (image : Configuration) (place : ℕ) (all : List Command) → preamble_offset bytes ≡ Some place → Woken [] (drop (place + 4) bytes) all → meaning (layout_for layouts (device_or (device_after all))) (take place bytes) all ≡ image → Spells layouts bytes image
spelled-woken layouts are bytes image place all front_is woken means =
    let front = take place bytes in
    let following = drop (place + 4) bytes in
    let splits = preamble_offset-splits bytes place front_is in
    let commands = woken.commands in
    let wake_up = woken.wake_up in
    let known = device_after-known commands wake_up woken.wakes (Follows-right [] commands (wake_up ∷ []) woken.follows).0 in
    let image_is : image ≡ meaning (layout_for layouts known.0) front (commands ++ wake_up ∷ []) =
    sym means
    ∙ ap (λ c. meaning (layout_for layouts (device_or (device_after c))) front c) woken.all_is
    ∙ ap (λ device. meaning (layout_for layouts (device_or device)) front (commands ++ wake_up ∷ [])) (device_after-woken commands wake_up woken.wakes ∙ known.1) in
    let layout_is : layout_for layouts known.0 ≡ image.layout =
    sym (layout-meant (layout_for layouts known.0) front (commands ++ wake_up ∷ [])) ∙ ap (λ (i : Configuration). i.layout) (sym image_is) in
    let device_is : known.0 ≡ image.layout.device = sym (are known.0) ∙ ap (λ (l : Layout). l.device) layout_is in
    record {
      front = front;
      commands = commands;
      wake_up = wake_up;
      tail = woken.tail;
      spelled_is =
          splits.1 ∙ ap (λ b. front ++ preamble ++ b) woken.spelled_is
          ∙ sym (append_assoc (front ++ preamble) (spelled (commands ++ wake_up ∷ [])) woken.tail);
      front_is = front_is ∙ ap (λ k. Some k) (sym (length-take-le place bytes (omega (arith, splits.0))));
      allowed = IsAllowed-from_Follows (commands ++ wake_up ∷ []) woken.follows;
      before = woken.awake;
      last = woken.wakes;
      device = known.1 ∙ ap (λ d. Some d) device_is;
      layout = ap (layout_for layouts) (sym device_is) ∙ layout_is;
      means = image_is ∙ ap (λ layout. meaning layout front (commands ++ wake_up ∷ [])) layout_is;
    }

-- an image that is read is spelled
spelled-read : (layouts : Layouts) → AreLayouts layouts → (bytes : List ℕ) (image : Configuration) (place : Option ℕ) → preamble_offset bytes ≡ place → read_after layouts bytes place ≡ Ok image → Spells layouts bytes image
spelled-read layouts are bytes image None front_is read = absurd cc
spelled-read layouts are bytes image (Some place) front_is read =
    let following = drop (place + 4) bytes in
    let few : length following < length bytes + 1 = omega (arith, length-drop (place + 4) bytes) in
    elim (cases_read (commands_from (length bytes + 1) [] (place + 4) following)) [
      | inr found ↦ let wrong : Err found.0 ≡ Ok image = sym (ap (image_of layouts (take place bytes)) found.1) ∙ read in absurd cc
      | inl found ↦
          let same : Ok (meaning (layout_for layouts (device_or (device_after found.0))) (take place bytes) found.0) ≡ Ok image = sym (ap (image_of layouts (take place bytes)) found.1) ∙ read in
          spelled-woken layouts are bytes image place found.0 front_is (commands_from-Ok (length bytes + 1) [] (place + 4) following found.0 few found.1) cc
    ]

-- a fault after a preamble and allowed commands
failed-after : (bytes : List ℕ) (fault : Fault) (place : ℕ) → preamble_offset bytes ≡ Some place → Failed [] (place + 4) (drop (place + 4) bytes) fault → FailsAt bytes fault
failed-after bytes fault place front_is failed =
    let front = take place bytes in
    let splits = preamble_offset-splits bytes place front_is in
    let place_is : length front ≡ place = length-take-le place bytes (omega (arith, splits.0)) in
    record {
      front = front;
      commands = failed.commands;
      rest = failed.rest;
      spelled_is =
          splits.1 ∙ ap (λ b. front ++ preamble ++ b) failed.spelled_is
          ∙ sym (append_assoc (front ++ preamble) (spelled failed.commands) failed.rest);
      front_is = front_is ∙ ap (λ k. Some k) (sym place_is);
      allowed = IsAllowed-from_Follows failed.commands failed.follows;
      before = failed.awake;
      wrong = ap (λ k. first_fault failed.commands (k + 4 + length (spelled failed.commands)) failed.rest) place_is ∙ failed.wrong;
    }

-- a fault that is read after the preamble is there
failed-read : (layouts : Layouts) (bytes : List ℕ) (fault : Fault) (place : ℕ) → preamble_offset bytes ≡ Some place → read_after layouts bytes (Some place) ≡ Err fault → FailsAt bytes fault
failed-read layouts bytes fault place front_is read =
    let following = drop (place + 4) bytes in
    let few : length following < length bytes + 1 = omega (arith, length-drop (place + 4) bytes) in
    elim (cases_read (commands_from (length bytes + 1) [] (place + 4) following)) [
      | inl found ↦ let wrong : Ok (meaning (layout_for layouts (device_or (device_after found.0))) (take place bytes) found.0) ≡ Err fault = sym (ap (image_of layouts (take place bytes)) found.1) ∙ read in absurd cc
      | inr found ↦
          let same : Err found.0 ≡ Err fault = sym (ap (image_of layouts (take place bytes)) found.1) ∙ read in
          let fault_is : found.0 ≡ fault = cc in
          failed-after bytes fault place front_is (commands_from-Err (length bytes + 1) [] (place + 4) following fault few (found.1 ∙ ap (λ f. Err f) fault_is))
    ]

-- a fault that the relation has, and the one that is read, by the preamble's place
refused-both : (layouts : Layouts) (bytes : List ℕ) (fault : Fault) (place : Option ℕ) → preamble_offset bytes ≡ place → IsRefused bytes fault ↔ (bin_read_of layouts bytes ≡ Err fault)
unfolding bin_read_of
refused-both layouts bytes fault None front_is =
    let read : bin_read_of layouts bytes ≡ Err (fault_at (length bytes) NoPreamble) = ap (read_after layouts bytes) front_is in (
      λ refused. let is : fault ≡ fault_at (length bytes) NoPreamble = rw front_is at refused in read ∙ ap (λ f. Err f) (sym is),
      λ found. let same : Err (fault_at (length bytes) NoPreamble) ≡ Err fault = sym read ∙ found in
          let is : fault ≡ fault_at (length bytes) NoPreamble = cc in
          rw front_is is,
    )
refused-both layouts bytes fault (Some place) front_is = (
  λ refused. read-failed layouts bytes fault (rw front_is at refused),
  λ found. rw front_is (failed-read layouts bytes fault place front_is (sym (ap (read_after layouts bytes) front_is) ∙ found)),
)

-- An image or a fault, and only one.
pub decided : (layouts : Layouts) → AreLayouts layouts → (bytes : List ℕ) → IsDecided layouts bytes
unfolding bin_read_of
decided layouts are bytes = record {
  spelled = λ image. (read-spelled layouts bytes image, spelled-read layouts are bytes image (preamble_offset bytes) refl);
  refused = λ fault. refused-both layouts bytes fault (preamble_offset bytes) refl;
}
