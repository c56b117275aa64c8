-- A command in bytes, and what registers hold after it.
use Rattle.std.proofs.Common.{◌≡◌, ℕ, suc, ◌+◌, ◌*◌, ◌/◌, ◌%◌, Bool, true, false, ◌&&◌, ◌||◌, cond, List, [], ◌∷◌, ◌++◌, length, take, drop, refl, sym, ap, subst, ◌∙◌, arith, inl, inr, length-take-le}
use Rattle.std.specs.Prelude.{Some, None, nat_lt, ◌==◌}
use Rattle.std.proofs.lemmas.Bool.{cases_Bool, ltb-false, eqb-true}
use Rattle.std.proofs.lemmas.List.Concat.{flat_map-append}
use Rattle.std.proofs.Math.Bool.{or-false}
use Rattle.index_search.specs.Places.{any_below, last_below}
use Rattle.bit_plane.specs.BitList.{byte_bits, bits_of}
use Rattle.ice_image.specs.declared.planes.PlaneKind.{PlaneKind}
use Rattle.bin_stream.specs.CheckValue.{check_value, powers_from, power, doubled, sum_of}
use Rattle.bin_stream.specs.inside.Register.{entered_all}
use Rattle.bin_stream.specs.Commands.{Command, Short, Data, number_of, spelling, spelled, is_reset, control_opcode, bank_opcode, range_opcode, width_opcode, height_opcode, offset_opcode, mode_opcode, reset_number}
use Rattle.bin_stream.specs.State.{last_of, width_after, covered}
use Rattle.bin_stream.specs.Refusals.{fault_at, head_fault, first_fault, payload_fault, short_cause, short_cause_where, data_kind, reached_in}
use Rattle.bin_stream.specs.Spelling.{first_command, command_of}
use Rattle.bin_stream.specs.inside.Heads.{first_byte, payload_in}
use Rattle.bin_stream.specs.inside.Registers.{Held, held_after, held_first, short_cause_by, checked, after_short, gives_last_by, after_data}
use Rattle.bin_stream.specs.declared.fault.BinCause.TheVariants.{Truncated, LongPayload}
use Rattle.bin_stream.proofs.Powers.{check_value-nil, check_value-append}
use Rattle.bin_stream.proofs.OneMore.{last_of-more, width_after-more, covered-more, reached_in-more}

-- ---- the parts of a command in bytes

-- the bytes after the payload
abbrev pub after_payload : List ℕ → List ℕ
after_payload bytes = drop (first_byte bytes % 16) (drop 1 bytes)

-- bytes with a payload have a first byte and the bytes of the payload
pub with_payload : (place : ℕ) (bytes : List ℕ) → head_fault place bytes ≡ None → (bytes ≡ first_byte bytes ∷ drop 1 bytes) × (nat_lt 4 (first_byte bytes % 16) ≡ false) × (nat_lt (length (drop 1 bytes)) (first_byte bytes % 16) ≡ false)
with_payload place [] none = absurd cc
with_payload place (head ∷ rest) none =
    elim (cases_Bool (nat_lt 4 (head % 16))) [
      | inl long ↦
          let bad : Some (fault_at place LongPayload) ≡ None = rw long at none in
          absurd cc
      | inr fits ↦ elim (cases_Bool (nat_lt (length rest) (head % 16))) [
        | inl short ↦
            let bad : Some (fault_at (place + 1 + length rest) Truncated) ≡ None = rw (fits, short) at none in
            absurd cc
        | inr enough ↦ (refl, fits, enough)
      ]
    ]

-- what is wrong with its command is found after the payload
pub read_fault : (commands : List Command) (place : ℕ) (bytes : List ℕ) → head_fault place bytes ≡ None → first_fault commands place bytes ≡ payload_fault commands place (first_byte bytes / 16) (payload_in bytes) (data_kind (first_byte bytes / 16) (number_of (payload_in bytes))) (after_payload bytes)
read_fault commands place [] none = absurd cc
read_fault commands place (head ∷ rest) none =
    let parts = with_payload place (head ∷ rest) none in
    rw (parts.1, parts.2) refl

pub read_command : (commands : List Command) (place : ℕ) (bytes : List ℕ) → head_fault place bytes ≡ None → first_command commands bytes ≡ command_of commands (first_byte bytes / 16) (payload_in bytes) (data_kind (first_byte bytes / 16) (number_of (payload_in bytes))) (after_payload bytes)
read_command commands place [] none = absurd cc
read_command commands place (head ∷ rest) none = refl

pub length-payload : (place : ℕ) (bytes : List ℕ) → head_fault place bytes ≡ None → length (payload_in bytes) ≡ first_byte bytes % 16
length-payload place bytes none =
    let parts = with_payload place bytes none in
    length-take-le (first_byte bytes % 16) (drop 1 bytes) (ltb-false (length (drop 1 bytes)) (first_byte bytes % 16) parts.2)

-- the bytes up to the end of the payload
pub spelled_short : (place : ℕ) (bytes : List ℕ) → head_fault place bytes ≡ None → take (1 + length (payload_in bytes)) bytes ≡ spelling (Short (first_byte bytes / 16) (payload_in bytes))
spelled_short place bytes none =
    let parts = with_payload place bytes none in
    let long = length-payload place bytes none in
    let head : 16 * (first_byte bytes / 16) + length (payload_in bytes) ≡ first_byte bytes = omega arith in
    let e : 1 + length (payload_in bytes) ≡ suc (first_byte bytes % 16) = omega arith in
    ap (take (1 + length (payload_in bytes))) parts.0 ∙ rw (e, head) refl

-- ---- the check value

pub check_entered : (covers more : List ℕ) → check_value (bits_of (covers ++ more)) ≡ entered_all (check_value (bits_of covers)) (bits_of more)
check_entered covers more = ap check_value (flat_map-append byte_bits covers more) ∙ check_value-append (bits_of covers) (bits_of more)

check_chosen : (covers more : List ℕ) (reset : Bool) → check_value (bits_of (cond reset [] (covers ++ more))) ≡ cond reset 65535 (entered_all (check_value (bits_of covers)) (bits_of more))
check_chosen covers more true = check_value-nil
check_chosen covers more false = check_entered covers more

pub check_after-more : (commands : List Command) (command : Command) → check_value (bits_of (covered (commands ++ command ∷ []))) ≡ cond (is_reset (Some command)) 65535 (entered_all (check_value (bits_of (covered commands))) (bits_of (spelling command)))
check_after-more commands command =
    ap (λ covers. check_value (bits_of covers)) (covered-more commands command) ∙ check_chosen (covered commands) (spelling command) (is_reset (Some command))

-- ---- commands that aren't data

-- what is wrong with one, by the registers
pub short_cause-is : (commands : List Command) (opcode : ℕ) (payload : List ℕ) → short_cause commands opcode payload ≡ short_cause_by (checked (held_after commands) (spelling (Short opcode payload))) opcode (number_of payload)
short_cause-is commands opcode payload =
    ap (λ found. short_cause_where (reached_in commands) found opcode (number_of payload)) (check_entered (covered commands) (spelling (Short opcode payload)))

-- each value that is kept is the command's if it has that opcode
abbrev pub fields_after : Held → ℕ → ℕ → Held
fields_after held opcode n = record {
  bank = cond (opcode == bank_opcode) n held.bank;
  width = cond (opcode == width_opcode) (n + 1) held.width;
  height = cond (opcode == height_opcode) n held.height;
  first_row = cond (opcode == offset_opcode) n held.first_row;
  range = cond (opcode == range_opcode) n held.range;
  mode = cond (opcode == mode_opcode) n held.mode;
  check = cond ((opcode == control_opcode) && (n == reset_number)) 65535 held.check;
  reached = held.reached;
}

fields_control : (held : Held) (n : ℕ) → after_short held control_opcode n ≡ fields_after held control_opcode n
fields_control held n =
    elim (cases_Bool (n == reset_number)) [
      | inl is ↦ rw is refl
      | inr is ↦ rw is refl
    ]

pub after_short-is : (held : Held) (opcode n : ℕ) → after_short held opcode n ≡ fields_after held opcode n
after_short-is held opcode n =
    let P : ℕ → Type 0 = λ o. after_short held o n ≡ fields_after held o n in
    elim (cases_Bool (opcode == control_opcode)) [
      | inl is ↦ subst P (sym (eqb-true opcode control_opcode is)) (fields_control held n)
      | inr not_control ↦ elim (cases_Bool (opcode == bank_opcode)) [
        | inl is ↦ subst P (sym (eqb-true opcode bank_opcode is)) refl
        | inr not_bank ↦ elim (cases_Bool (opcode == range_opcode)) [
          | inl is ↦ subst P (sym (eqb-true opcode range_opcode is)) refl
          | inr not_range ↦ elim (cases_Bool (opcode == width_opcode)) [
            | inl is ↦ subst P (sym (eqb-true opcode width_opcode is)) refl
            | inr not_width ↦ elim (cases_Bool (opcode == height_opcode)) [
              | inl is ↦ subst P (sym (eqb-true opcode height_opcode is)) refl
              | inr not_height ↦ elim (cases_Bool (opcode == offset_opcode)) [
                | inl is ↦ subst P (sym (eqb-true opcode offset_opcode is)) refl
                | inr not_offset ↦ elim (cases_Bool (opcode == mode_opcode)) [
                  | inl is ↦ subst P (sym (eqb-true opcode mode_opcode is)) refl
                  | inr not_mode ↦ rw (not_control, not_bank, not_range, not_width, not_height, not_offset, not_mode) refl
                ]
              ]
            ]
          ]
        ]
      ]
    ]

-- what is kept after one
pub held_after-short : (commands : List Command) (opcode : ℕ) (payload : List ℕ) → after_short (checked (held_after commands) (spelling (Short opcode payload))) opcode (number_of payload) ≡ held_after (commands ++ Short opcode payload ∷ [])
held_after-short commands opcode payload =
    let command = Short opcode payload in
    let reached : reached_in (commands ++ command ∷ []) ≡ reached_in commands = reached_in-more commands command ∙ or-false (reached_in commands) in
    after_short-is (checked (held_after commands) (spelling command)) opcode (number_of payload)
    ∙ sym (rw (last_of-more commands command bank_opcode 0, width_after-more commands command, last_of-more commands command height_opcode 0, last_of-more commands command offset_opcode 0, last_of-more commands command range_opcode 0, last_of-more commands command mode_opcode 32, check_after-more commands command, reached) refl)

-- before the first command
pub held_first-is : held_first ≡ held_after []
unfolding any_below last_below last_of width_after covered spelled check_value powers_from power doubled sum_of
held_first-is = refl

-- ---- data

-- what is kept after data
pub held_after-data : (commands : List Command) (kind : PlaneKind) (payload body : List ℕ) → after_data (held_after commands) kind (spelling (Data kind payload body)) ≡ held_after (commands ++ Data kind payload body ∷ [])
held_after-data commands kind payload body =
    let command = Data kind payload body in
    let reached : reached_in (commands ++ command ∷ []) ≡ (reached_in commands || gives_last_by (held_after commands) kind) = reached_in-more commands command in
    sym (rw (last_of-more commands command bank_opcode 0, width_after-more commands command, last_of-more commands command height_opcode 0, last_of-more commands command offset_opcode 0, last_of-more commands command range_opcode 0, last_of-more commands command mode_opcode 32, check_after-more commands command, reached) refl)
