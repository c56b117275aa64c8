-- The text of runs that go on.
use Rattle.std.proofs.Common.{◌≡◌, ℕ, suc, ◌+◌, ◌*◌, ◌<◌, append-nil, Bool, List, [], ◌∷◌, ◌++◌, Result, Ok, Err, ap, arith, get_or, length, length-append, refl, sym, take, ◌∙◌}
use Rattle.std.specs.Prelude.{OnErr, flat_map, map, if◌then◌else◌}
use Rattle.std.proofs.lemmas.List.{length-map, take_more}
use Rattle.std.proofs.lemmas.List.Concat.{flat_map-append}
use Rattle.vlog_module.specs.Parts.{Parts}
use Rattle.vlog_semantics.specs.declared.event.Event.{Event}
use Rattle.vlog_semantics.specs.Entries.{Entry}
use Rattle.vlog_semantics.specs.Named.{values_of}
use Rattle.vlog_semantics.specs.Run.{followed, run_from}
use Rattle.vlog_semantics.proofs.Runs.{last_entry, run-push}
use Rattle.vlog_run.specs.Text.{bit_digit, entry_line, registers_text, word_text}

-- the text of one event more
pub text-more : (m : Parts) (entry : Entry) (events : List Event) (i : ℕ) (d : Event) (registers : Bool) → i < length events
    → flat_map (entry_line registers) (run_from m entry (take (i + 1) events))
    ≡ flat_map (entry_line registers) (run_from m entry (take i events)) ++ entry_line registers (followed m (last_entry m entry (take i events)) (get_or events i d))
text-more m entry events i d registers within =
    ap (flat_map (entry_line registers)) (ap (run_from m entry) (take_more events i d within) ∙ run-push m entry (take i events) (get_or events i d))
    ∙ flat_map-append (entry_line registers) (run_from m entry (take i events)) (followed m (last_entry m entry (take i events)) (get_or events i d) ∷ [])
    ∙ ap (λ line. flat_map (entry_line registers) (run_from m entry (take i events)) ++ line) (append-nil (entry_line registers (followed m (last_entry m entry (take i events)) (get_or events i d))))

-- ---- how long a line is

-- what holds anyway holds of an error
pub failed : {T E P : Type 0} (result : Result T E) → P → OnErr result P
failed (Ok value) holds = tt
failed (Err e) holds = holds

pub length-words : (words : List ℕ) → length (flat_map word_text words) ≡ 5 * length words
length-words [] = refl
length-words (word ∷ words) =
    let more : 5 * suc (length words) ≡ 5 + 5 * length words = omega arith in
    length-append (word_text word) (flat_map word_text words) ∙ ap (λ n. 5 + n) (length-words words) ∙ sym more

pub length-registers : (entry : Entry) → length (registers_text entry) ≡ 1 + length (values_of entry.registers) + 5 * length (values_of entry.words)
length-registers entry =
    let bits : List ℕ = map bit_digit (values_of entry.registers) in
    let words : List ℕ = flat_map word_text (values_of entry.words) in
    let first : length ((32 ∷ bits) ++ words) ≡ suc (length (bits ++ words)) = refl in
    omega (arith, first, length-append bits words, length-map (values_of entry.registers) bit_digit, length-words (values_of entry.words))

-- the bits of the outputs, what is told of the registers, and the end
pub length-line : (registers : Bool) (entry : Entry) → length (entry_line registers entry) ≡ length (values_of entry.outputs) + length (if registers then registers_text entry else []) + 1
unfolding entry_line
length-line registers entry =
    let bits : List ℕ = map bit_digit (values_of entry.outputs) in
    let more : List ℕ = if registers then registers_text entry else [] in
    omega (arith, length-append (bits ++ more) (10 ∷ []), length-append bits more, length-map (values_of entry.outputs) bit_digit)
