-- How many bytes lines have at most.
use Rattle.std.proofs.Common.{◌≡◌, ◌∙◌, ℕ, suc, ◌+◌, ◌*◌, ◌^◌, ◌<◌, ◌≤◌, Bool, true, false, List, [], ◌∷◌, ◌++◌, length, map, refl, ap, ap₂, arith, length-append}
use Rattle.std.specs.Prelude.{decimal, nat_lt, if◌then◌else◌}
use Rattle.std.proofs.lemmas.Fmt.{length-decimal-le}
use Rattle.std.proofs.lemmas.List.{length-map}
use Rattle.text_lines.specs.Written.{text_of}
use Rattle.vlog_module.specs.Parts.{Parts}
use Rattle.vlog_semantics.specs.Entries.{Entry}
use Rattle.vlog_semantics.specs.Run.{start}
use Rattle.vlog_waves.specs.Sizes.{waves_fit}
use Rattle.vlog_waves.specs.Variables.{Value, values_in}
use Rattle.vlog_waves.specs.Variables.Value.{one_bit, sixteen_bits}
use Rattle.vlog_waves.specs.Waves.{changed_lines, head_lines, identifier, is_same, start_lines, time_line, value_line, word_digits}
use Rattle.vlog_waves.specs.declared.tracer.Tracer.{Tracer}
use Rattle.vlog_waves.specs.declared.values.Values.{Values}
use Rattle.vlog_waves.specs.inside.Tracing.{Traces}
use Rattle.vlog_waves.specs.inside.Values.{event_room, values_held}
use Rattle.vlog_waves.proofs.Identifiers.{identifier-short}
use Rattle.vlog_waves.proofs.Cuts.{length-digits}
use Rattle.vlog_waves.proofs.Texts.{length-one, text_of-append, text_of-none}

value-short : (number : ℕ) (value : Value) → number < 2 ^ 64 → length (text_of (value_line number value ∷ [])) ≤ 32
value-short number (one_bit bit) below =
    let line : length (value_line number (one_bit bit)) ≡ suc (length (identifier number)) = refl in
    omega (arith, length-one (value_line number (one_bit bit)), line, identifier-short number below)
value-short number (sixteen_bits word) below =
    let line : length (value_line number (sixteen_bits word)) ≡ suc (length (word_digits 16 word ++ (32 ∷ identifier number))) = refl in
    let end : length (32 ∷ identifier number) ≡ suc (length (identifier number)) = refl in
    omega (arith, length-one (value_line number (sixteen_bits word)), line, end, identifier-short number below, length-append (word_digits 16 word) (32 ∷ identifier number), length-digits 16 word)

no-text : length (text_of []) ≡ 0
no-text = ap length text_of-none

change-short : (same : Bool) (number : ℕ) (value : Value) → number < 2 ^ 64 → length (text_of (if same then [] else value_line number value ∷ [])) ≤ 32
change-short true number value below = let none : length (text_of []) ≤ 32 = omega (arith, no-text) in none
change-short false number value below = value-short number value below

-- a change has at most 32 bytes
pub changes-short : (number : ℕ) (before after : List Value) → number + length before < 2 ^ 64 → length (text_of (changed_lines number before after)) ≤ 32 * length before
changes-short number [] after below = let none : length (text_of []) ≤ 0 = omega (arith, no-text) in none
changes-short number (old ∷ before) [] below = let none : length (text_of []) ≤ 32 * suc (length before) = omega (arith, no-text) in none
changes-short number (old ∷ before) (new ∷ after) below =
    let few : number + suc (length before) < 2 ^ 64 = below in
    let here : number < 2 ^ 64 = omega (arith, few) in
    let there : suc number + length before < 2 ^ 64 = omega (arith, few) in
    let first : List (List ℕ) = if is_same old new then [] else value_line number new ∷ [] in
    let more : List (List ℕ) = changed_lines (suc number) before after in
    let front : length (text_of first) ≤ 32 = change-short (is_same old new) number new here in
    let rest : length (text_of more) ≤ 32 * length before = changes-short (suc number) before after there in
    let cut : length (text_of (first ++ more)) ≡ length (text_of first) + length (text_of more) = ap length (text_of-append first more) ∙ length-append (text_of first) (text_of more) in
    let whole : length (text_of (first ++ more)) ≤ 32 * suc (length before) = omega (arith, front, rest, cut) in
    whole

-- and so has a time
pub time-short : (time : ℕ) → time < 2 ^ 64 → length (text_of (time_line time ∷ [])) ≤ 32
time-short time below =
    let line : length (time_line time) ≡ suc (length (decimal time)) = refl in
    let within : time < 10 ^ 20 = omega (arith, below) in
    omega (arith, length-one (time_line time), line, length-decimal-le 20 time (omega arith) within below)

-- how many values there are
pub count-held : (values : Values) → length (values_held values) ≡ length values.ports.items + length values.registers.items + length values.words.items + length values.wires.items
count-held values =
    let a = map one_bit values.ports.items in
    let b = map one_bit values.registers.items in
    let c = map sixteen_bits values.words.items in
    let d = map one_bit values.wires.items in
    let whole : length (a ++ (b ++ (c ++ d))) ≡ length values.ports.items + length values.registers.items + length values.words.items + length values.wires.items =
    omega (
      arith,
      length-append a (b ++ (c ++ d)),
      length-append b (c ++ d),
      length-append c d,
      length-map values.ports.items one_bit,
      length-map values.registers.items one_bit,
      length-map values.words.items sixteen_bits,
      length-map values.wires.items one_bit,
    ) in
    whole

-- ---- a whole VCD

-- the room of the lines of an event, by the values that were dumped last
pub room-traced : (tracer : Tracer) (m : Parts) (entry : Entry) → Traces tracer m entry → event_room tracer.values ≡ 32 * length (values_in m entry) + 32
room-traced tracer m entry traces =
    let values = tracer.values in
    omega (arith, count-held values, ap (λ (list : List Value). length list) traces.held, values.ports.ok.0, values.registers.ok.0, values.words.ok.0, values.wires.ok.0)

-- whether the most bytes fit, by the room of the lines of an event
pub fit-counted : (names : List (List ℕ × List ℕ)) (m : Parts) (tracer : Tracer) (beginning : List ℕ) (events size left room : ℕ)
    → Traces tracer m (start m) → beginning ≡ text_of (head_lines names m ++ start_lines (values_in m (start m)))
    → size ≡ length beginning → left ≡ events → room ≡ event_room tracer.values → nat_lt (size + left * room) (2 ^ 64) ≡ waves_fit names m events
unfolding waves_fit
fit-counted names m tracer beginning events size left room traces begun long counted fits =
    ap₂ (λ (first more : ℕ). nat_lt (first + more) (2 ^ 64)) (long ∙ ap (λ (text : List ℕ). length text) begun)
    (ap₂ (λ (n bytes : ℕ). n * bytes) counted (fits ∙ room-traced tracer m (start m) traces))
