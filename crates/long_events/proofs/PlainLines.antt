-- A line of a plain list says the same in a list of the long form.
use Rattle.std.proofs.Common.{◌≡◌, ◌∙◌, ℕ, suc, ◌+◌, ◌-◌, Bool, true, false, cond, List, [], ◌∷◌, ◌++◌, Option, Some, None, Ok, Err, drop, length, take, refl, sym, ap, subst, arith}
use Rattle.std.specs.Prelude.{bytes_eq, codes, ◌==◌, ◌||◌, is_some, not}
use Rattle.std.proofs.lemmas.Bool.{and_from, and_parts}
use Rattle.std.proofs.lemmas.List.{take-append-drop}
use Rattle.std.proofs.lemmas.Slice.Eq.{bytes_eq-Decides}
use Rattle.std.specs.Char.{is_ascii_digit}
use Rattle.std.specs.List.{list_all, position_or_len}
use Rattle.vlog_module.specs.Names.{is_letter, is_name_byte, is_word}
use Rattle.vlog_semantics.specs.declared.event.Event.{Event}
use Rattle.vlog_run.specs.declared.event.EventFault.TheVariants.{Form}
use Rattle.vlog_run.specs.Events.{bit_event, bit_part, bit_written, event_of, name_part}
use Rattle.long_events.specs.declared.step.Step.TheVariants.{Give, End}
use Rattle.long_events.specs.Steps.{after_piece, after_tilde, count_of, first_piece, given_of, input_of, repeat_of, step_of}

-- ---- names have no spaces

solid : (byte : ℕ) → is_name_byte byte ≡ true → (byte == 32) ≡ false
solid byte named = by_test (byte == 32) refl
  where
    by_test : (test : Bool) → (byte == 32) ≡ test → (byte == 32) ≡ false
    by_test false is = is
    by_test true is =
        let same : byte ≡ 32 = grind (arith, is) in
        let wrong : is_name_byte 32 ≡ true = subst (λ (some : ℕ). is_name_byte some ≡ true) same named in
        absurd cc

abbrev is_space : ℕ → Bool
is_space byte = byte == 32

first-more : (byte : ℕ) (line : List ℕ) → (byte == 32) ≡ false → first_piece (byte ∷ line) ≡ byte ∷ first_piece line
first-more byte line other =
    let n = position_or_len is_space line in
    let next : 1 + n ≡ suc n = omega arith in
    let count : position_or_len is_space (byte ∷ line) ≡ suc n = ap (λ (test : Bool). cond (not test) (1 + n) 0) other ∙ next in
    ap (λ (k : ℕ). take k (byte ∷ line)) count

after-more : (byte : ℕ) (line : List ℕ) → (byte == 32) ≡ false → after_piece (byte ∷ line) ≡ after_piece line
after-more byte line other =
    let n = position_or_len is_space line in
    let next : (1 + n) + 1 ≡ suc (n + 1) = omega arith in
    let count : position_or_len is_space (byte ∷ line) + 1 ≡ suc (n + 1) = ap (λ (test : Bool). cond (not test) (1 + n) 0 + 1) other ∙ next in
    ap (λ (k : ℕ). drop k (byte ∷ line)) count

first-name : (name rest : List ℕ) → list_all is_name_byte name ≡ true → first_piece (name ++ 32 ∷ rest) ≡ name
first-name [] rest all = refl
first-name (byte ∷ bytes) rest all =
    let parts = and_parts (is_name_byte byte) (list_all is_name_byte bytes) all in
    first-more byte (bytes ++ 32 ∷ rest) (solid byte parts.0) ∙ ap (λ (piece : List ℕ). byte ∷ piece) (first-name bytes rest parts.1)

after-name : (name rest : List ℕ) → list_all is_name_byte name ≡ true → after_piece (name ++ 32 ∷ rest) ≡ rest
after-name [] rest all = refl
after-name (byte ∷ bytes) rest all =
    let parts = and_parts (is_name_byte byte) (list_all is_name_byte bytes) all in
    after-more byte (bytes ++ 32 ∷ rest) (solid byte parts.0) ∙ after-name bytes rest parts.1

letter-named : (letter digit : Bool) → letter ≡ true → (letter || digit) ≡ true
letter-named true digit is = refl
letter-named false digit is = absurd cc

word-named : (name : List ℕ) → is_word name ≡ true → list_all is_name_byte name ≡ true
word-named [] is = refl
word-named (byte ∷ bytes) is =
    let parts = and_parts (is_letter byte) (list_all is_name_byte bytes) is in
    and_from (is_name_byte byte) (list_all is_name_byte bytes) (letter-named (is_letter byte) (is_ascii_digit byte) parts.0) parts.1

-- ---- the parts of a line that is an event

event-word : (pins : List ℕ → Option ℕ) (line : ℕ) (content : List ℕ) (event : Event) → event_of pins line content ≡ Ok event → is_word (name_part content) ≡ true
unfolding event_of
event-word pins line content event is = by_test (is_word (name_part content)) is
  where
    by_test : (test : Bool) → cond test (bit_event line (pins (name_part content)) (bit_written (bit_part content))) (Err (Form line)) ≡ Ok event → test ≡ true
    by_test true is = refl
    by_test false is = absurd cc

event-bit : (pins : List ℕ → Option ℕ) (line : ℕ) (content : List ℕ) (event : Event) → event_of pins line content ≡ Ok event
    → bit_event line (pins (name_part content)) (bit_written (bit_part content)) ≡ Ok event
unfolding event_of
event-bit pins line content event is = by_test (is_word (name_part content)) is
  where
    by_test : (test : Bool) → cond test (bit_event line (pins (name_part content)) (bit_written (bit_part content))) (Err (Form line)) ≡ Ok event
        → bit_event line (pins (name_part content)) (bit_written (bit_part content)) ≡ Ok event
    by_test true is = is
    by_test false is = absurd cc

bit-some : (line : ℕ) (pin : Option ℕ) (bit : Option Bool) (event : Event) → bit_event line pin bit ≡ Ok event → is_some bit ≡ true
bit-some line pin (Some bit) event is = refl
bit-some line pin None event is = absurd cc

pin-some : (line : ℕ) (pin : Option ℕ) (bit : Option Bool) (event : Event) → bit_event line pin bit ≡ Ok event → is_some pin ≡ true
pin-some line (Some pin) bit event is = refl
pin-some line None (Some bit) event is = absurd cc
pin-some line None None event is = absurd cc

-- a space and a digit
record Spaced (bytes : List ℕ) : Type 0 where
  digit : ℕ
  is : bytes ≡ 32 ∷ digit ∷ []

spaced : (bytes : List ℕ) → is_some (bit_written bytes) ≡ true → Spaced bytes
spaced bytes some = by_low (bytes_eq bytes (32 ∷ 48 ∷ [])) refl some
  where
    by_high : (test : Bool) → bytes_eq bytes (32 ∷ 49 ∷ []) ≡ test → is_some (cond test (Some true) None) ≡ true → Spaced bytes
    by_high true is some = record { digit = 49; is = (bytes_eq-Decides bytes (32 ∷ 49 ∷ [])).0 is }
    by_high false is some = absurd cc

    by_low : (test : Bool) → bytes_eq bytes (32 ∷ 48 ∷ []) ≡ test → is_some (cond test (Some false) (cond (bytes_eq bytes (32 ∷ 49 ∷ [])) (Some true) None)) ≡ true → Spaced bytes
    by_low true is some = record { digit = 48; is = (bytes_eq-Decides bytes (32 ∷ 48 ∷ [])).0 is }
    by_low false is some = by_high (bytes_eq bytes (32 ∷ 49 ∷ [])) refl some

-- ---- the line as a step

no-end : (pins : List ℕ → Option ℕ) (line : ℕ) (content : List ℕ) (event : Event) → event_of pins line content ≡ Ok event → bytes_eq content (codes "end") ≡ false
unfolding event_of
no-end pins line content event is = by_test (bytes_eq content (codes "end")) refl
  where
    by_test : (test : Bool) → bytes_eq content (codes "end") ≡ test → bytes_eq content (codes "end") ≡ false
    by_test false same = same
    by_test true same =
        let wrong : event_of pins line (codes "end") ≡ Ok event = subst (λ (some : List ℕ). event_of pins line some ≡ Ok event) ((bytes_eq-Decides content (codes "end")).0 same) is in
        absurd cc

no-repeat : (pins : List ℕ → Option ℕ) (name : List ℕ) → pins (codes "repeat") ≡ None → is_some (pins name) ≡ true → bytes_eq name (codes "repeat") ≡ false
no-repeat pins name unnamed some = by_test (bytes_eq name (codes "repeat")) refl
  where
    by_test : (test : Bool) → bytes_eq name (codes "repeat") ≡ test → bytes_eq name (codes "repeat") ≡ false
    by_test false same = same
    by_test true same =
        let is : name ≡ codes "repeat" = (bytes_eq-Decides name (codes "repeat")).0 same in
        let none : is_some (pins name) ≡ false = ap (λ (pin : Option ℕ). is_some pin) (ap pins is ∙ unnamed) in
        let wrong : false ≡ true = sym none ∙ some in
        absurd cc

-- an event of a plain list is given in the long form too
pub step-given : (pins : List ℕ → Option ℕ) (line : ℕ) (content : List ℕ) (event : Event) → pins (codes "repeat") ≡ None → event_of pins line content ≡ Ok event
    → step_of pins line content ≡ Ok (Give event)
unfolding step_of
step-given pins line content event unnamed is =
    let name = name_part content in
    let bit = event-bit pins line content event is in
    let end = spaced (bit_part content) (bit-some line (pins name) (bit_written (bit_part content)) event bit) in
    let cut : content ≡ name ++ 32 ∷ end.digit ∷ [] = sym (take-append-drop (length content - 2) content) ∙ ap (λ (rest : List ℕ). name ++ rest) end.is in
    let named = word-named name (event-word pins line content event is) in
    let first : first_piece content ≡ name = ap first_piece cut ∙ first-name name (end.digit ∷ []) named in
    let after : after_piece content ≡ end.digit ∷ [] = ap after_piece cut ∙ after-name name (end.digit ∷ []) named in
    let other : bytes_eq (first_piece content) (codes "repeat") ≡ false =
    ap (λ (piece : List ℕ). bytes_eq piece (codes "repeat")) first ∙ no-repeat pins name unnamed (pin-some line (pins name) (bit_written (bit_part content)) event bit) in
    ap (λ (test : Bool). cond test (Ok End) (cond (bytes_eq (first_piece content) (codes "repeat")) (repeat_of line (count_of (after_piece content))) (input_of pins line content (after_tilde (after_piece content))))) (no-end pins line content event is)
    ∙ ap (λ (test : Bool). cond test (repeat_of line (count_of (after_piece content))) (input_of pins line content (after_tilde (after_piece content)))) other
    ∙ ap (λ (rest : List ℕ). input_of pins line content (after_tilde rest)) after
    ∙ ap given_of is
