-- The first command of bytes: an allowed one is read as it is spelled, and bytes without a fault begin with an allowed one.
use Rattle.std.proofs.Common.{◌≡◌, ℕ, ◌+◌, ◌*◌, ◌/◌, ◌%◌, ◌<◌, ◌≤◌, List, [], ◌∷◌, ◌++◌, length, take, drop, Option, Some, None, length-append, append_assoc, take-append-drop, refl, sym, ap, ap₂, ◌∙◌, subst, inl, inr, arith}
use Rattle.std.proofs.lemmas.Bool.{cases_lt, cases_eq, lt-ltb, le-ltb, ne_eqb}
use Rattle.std.proofs.lemmas.List.{take_at, drop_at, length-take-le}
use Rattle.index_search.proofs.Found.{or_else-neither}
use Rattle.index_search.specs.Places.{or_else}
use Rattle.ice_image.specs.declared.planes.PlaneKind.{PlaneKind}
use Rattle.ice_image.specs.declared.planes.PlaneKind.TheVariants.{Cram, Bram}
use Rattle.bin_stream.specs.Commands.{Command, Short, Data, number_of, kind_number, spelling}
use Rattle.bin_stream.specs.State.{size_after}
use Rattle.bin_stream.specs.Refusals.{fault_at, fault_where, end_fault, body_fault, payload_fault, first_fault, short_cause, data_cause, data_kind, IsAllowedAfter}
use Rattle.bin_stream.specs.Spelling.{command_of, first_command}
use Rattle.bin_stream.specs.declared.fault.BinCause.{BinCause}
use Rattle.bin_stream.specs.declared.fault.BinCause.TheVariants.{Truncated, LongPayload, DataEnd}

-- ---- an allowed command

-- what is wrong with a command, by the parts of its first byte
pub fault-head : (before : List Command) (place head count opcode : ℕ) (rest payload following : List ℕ) → head % 16 ≡ count → head / 16 ≡ opcode → count < 5 → count ≤ length rest → take count rest ≡ payload → drop count rest ≡ following → first_fault before place (head ∷ rest) ≡ payload_fault before place opcode payload (data_kind opcode (number_of payload)) following
fault-head before place head count opcode rest payload following count_is opcode_is short within taken dropped =
    rw (count_is, opcode_is, le-ltb 4 count (omega arith), le-ltb (length rest) count within, taken, dropped) refl

-- the first command, by the parts of its first byte
command-head : (before : List Command) (head count opcode : ℕ) (rest payload following : List ℕ) → head % 16 ≡ count → head / 16 ≡ opcode → take count rest ≡ payload → drop count rest ≡ following → first_command before (head ∷ rest) ≡ command_of before opcode payload (data_kind opcode (number_of payload)) following
command-head before head count opcode rest payload following count_is opcode_is taken dropped =
    rw (count_is, opcode_is, taken, dropped) refl

-- the kind that the numbers of data begin
kind-begun : (kind : PlaneKind) (payload : List ℕ) → number_of payload ≡ kind_number kind → data_kind 0 (number_of payload) ≡ Some kind
kind-begun Cram payload is = ap (data_kind 0) is
kind-begun Bram payload is = ap (data_kind 0) is

-- data and the two bytes after them have no fault
body-fits : (size place : ℕ) (body rest : List ℕ) → length body ≡ size → body_fault size place (body ++ 0 ∷ 0 ∷ rest) ≡ None
body-fits size place body rest is =
    let within : size ≤ length (body ++ 0 ∷ 0 ∷ rest) = omega (arith, length-append body (0 ∷ 0 ∷ rest)) in
    rw (le-ltb (length (body ++ 0 ∷ 0 ∷ rest)) size within, drop_at body (0 ∷ 0 ∷ rest) size is) refl

-- the bytes after the payload of data
data-joined : (payload body rest : List ℕ) → (payload ++ body ++ 0 ∷ 0 ∷ []) ++ rest ≡ payload ++ (body ++ 0 ∷ 0 ∷ rest)
data-joined payload body rest =
    append_assoc (payload ++ body) (0 ∷ 0 ∷ []) rest ∙ append_assoc payload body (0 ∷ 0 ∷ rest)

-- an allowed command has no fault at the place where it is spelled
pub first_fault-none : (before : List Command) (command : Command) (place : ℕ) (rest : List ℕ) → IsAllowedAfter before command → first_fault before place (spelling command ++ rest) ≡ None
first_fault-none before (Short opcode payload) place rest allowed =
    fault-head before place (16 * opcode + length payload) (length payload) opcode (payload ++ rest) payload rest (omega (arith, allowed.0)) (omega (arith, allowed.0)) allowed.0 (omega (arith, length-append payload rest)) (take_at payload rest (length payload) refl) (drop_at payload rest (length payload) refl)
    ∙ ap (λ kind. payload_fault before place opcode payload kind rest) allowed.1
    ∙ ap (fault_where place) allowed.2
first_fault-none before (Data kind payload body) place rest allowed =
    let following = body ++ 0 ∷ 0 ∷ rest in
    let start = place + 1 + length payload in
    ap (λ bytes. first_fault before place (length payload ∷ bytes)) (data-joined payload body rest)
    ∙ fault-head before place (length payload) (length payload) 0 (payload ++ following) payload following (omega (arith, allowed.0)) (omega (arith, allowed.0)) allowed.0 (omega (arith, length-append payload following)) (take_at payload following (length payload) refl) (drop_at payload following (length payload) refl)
    ∙ ap (λ kind. payload_fault before place 0 payload kind following) (kind-begun kind payload allowed.1)
    ∙ ap (λ cause. or_else (fault_where place cause) (body_fault (size_after before) start following)) allowed.2
    ∙ body-fits (size_after before) start body rest allowed.3

-- an allowed command is the first one at the place where it is spelled
pub first_command-is : (before : List Command) (command : Command) (rest : List ℕ) → IsAllowedAfter before command → first_command before (spelling command ++ rest) ≡ command
first_command-is before (Short opcode payload) rest allowed =
    command-head before (16 * opcode + length payload) (length payload) opcode (payload ++ rest) payload rest (omega (arith, allowed.0)) (omega (arith, allowed.0)) (take_at payload rest (length payload) refl) (drop_at payload rest (length payload) refl)
    ∙ ap (λ kind. command_of before opcode payload kind rest) allowed.1
first_command-is before (Data kind payload body) rest allowed =
    let following = body ++ 0 ∷ 0 ∷ rest in
    ap (λ bytes. first_command before (length payload ∷ bytes)) (data-joined payload body rest)
    ∙ command-head before (length payload) (length payload) 0 (payload ++ following) payload following (omega (arith, allowed.0)) (omega (arith, allowed.0)) (take_at payload following (length payload) refl) (drop_at payload following (length payload) refl)
    ∙ ap (λ kind. command_of before 0 payload kind following) (kind-begun kind payload allowed.1)
    ∙ ap (λ body. Data kind payload body) (take_at body (0 ∷ 0 ∷ rest) (size_after before) allowed.3)

-- ---- bytes without a fault

-- bytes that begin with an allowed command
pub record Begins (before : List Command) (bytes : List ℕ) : Type 0 where
  pub command : Command
  pub rest : List ℕ
  pub spelled_is : bytes ≡ spelling command ++ rest
  pub allowed : IsAllowedAfter before command

-- no fault comes of no cause
no_cause : (place : ℕ) (cause : Option BinCause) → fault_where place cause ≡ None → cause ≡ None
no_cause place None is = refl
no_cause place (Some cause) is = absurd cc

-- data begin with the number of their kind
number-from : (n : ℕ) (kind : PlaneKind) → data_kind 0 n ≡ Some kind → n ≡ kind_number kind
number-from n kind is =
    elim (cases_eq n 1) [
      | inl cram ↦ let found : Some Cram ≡ Some kind = sym (ap (data_kind 0) cram) ∙ is in
          let same : Cram ≡ kind = cc in
          cram ∙ ap kind_number same
      | inr other ↦ elim (cases_eq n 3) [
        | inl bram ↦ let found : Some Bram ≡ Some kind = sym (ap (data_kind 0) bram) ∙ is in
            let same : Bram ≡ kind = cc in
            bram ∙ ap kind_number same
        | inr neither ↦ let none : None ≡ Some kind = rw (ne_eqb n 1 other, ne_eqb n 3 neither) at is in absurd cc
      ]
    ]

-- data begin with opcode 0 and the number of their kind
pub kind-from : (opcode n : ℕ) (kind : PlaneKind) → data_kind opcode n ≡ Some kind → (opcode ≡ 0) × (n ≡ kind_number kind)
kind-from opcode n kind is =
    elim (cases_eq opcode 0) [
      | inl control ↦ (control, number-from n kind (sym (ap (λ o. data_kind o n) control) ∙ is))
      | inr other ↦ let none : None ≡ Some kind = rw (ne_eqb opcode 0 other) at is in absurd cc
    ]

-- what stands after data without a fault
end-fits : (place : ℕ) (bytes : List ℕ) → end_fault place bytes ≡ None → bytes ≡ 0 ∷ 0 ∷ drop 2 bytes
end-fits place [] is = absurd cc
end-fits place (byte ∷ []) is =
    elim (cases_eq byte 0) [
      | inl nothing ↦ let wrong : Some (fault_at (place + 1) Truncated) ≡ None = sym (ap (λ b. end_fault place (b ∷ [])) nothing) ∙ is in absurd cc
      | inr other ↦ let wrong : Some (fault_at place DataEnd) ≡ None = rw (ne_eqb byte 0 other) at is in absurd cc
    ]
end-fits place (byte ∷ next ∷ rest) is =
    elim (cases_eq byte 0) [
      | inl nothing ↦ elim (cases_eq next 0) [
        | inl nothing_next ↦ ap₂ (λ a b. a ∷ b ∷ rest) nothing nothing_next
        | inr other ↦ let wrong : Some (fault_at (place + 1) DataEnd) ≡ None = rw (ne_eqb next 0 other) at (sym (ap (λ b. end_fault place (b ∷ next ∷ rest)) nothing) ∙ is) in absurd cc
      ]
      | inr other ↦ let wrong : Some (fault_at place DataEnd) ≡ None = rw (ne_eqb byte 0 other) at is in absurd cc
    ]

-- data without a fault
pub body-ends : (size place : ℕ) (bytes : List ℕ) → body_fault size place bytes ≡ None → (size ≤ length bytes) × (drop size bytes ≡ 0 ∷ 0 ∷ drop 2 (drop size bytes))
body-ends size place bytes is =
    elim (cases_lt (length bytes) size) [
      | inl lacks ↦ let wrong : Some (fault_at (place + length bytes) Truncated) ≡ None = rw (lt-ltb (length bytes) size lacks) at is in absurd cc
      | inr within ↦
          let clear : end_fault (place + size) (drop size bytes) ≡ None = rw (le-ltb (length bytes) size within) at is in
          (within, end-fits (place + size) (drop size bytes) clear)
    ]

-- the command of a payload without a fault
payload-begins : (before : List Command) (place opcode : ℕ) (payload following : List ℕ) (kind : Option PlaneKind) → data_kind opcode (number_of payload) ≡ kind → length payload < 5 → payload_fault before place opcode payload kind following ≡ None → Begins before ((16 * opcode + length payload) ∷ payload ++ following)
payload-begins before place opcode payload following None begun short clear = record {
  command = Short opcode payload;
  rest = following;
  spelled_is = refl;
  allowed = (short, begun, no_cause place (short_cause before opcode payload) clear);
}
payload-begins before place opcode payload following (Some kind) begun short clear =
    let start = place + 1 + length payload in
    let size = size_after before in
    let parts = or_else-neither (fault_where place (data_cause before kind)) (body_fault size start following) clear in
    let begins = kind-from opcode (number_of payload) kind begun in
    let body = body-ends size start following parts.1 in
    let whole : following ≡ take size following ++ 0 ∷ 0 ∷ drop 2 (drop size following) = sym (take-append-drop size following) ∙ ap (λ tail. take size following ++ tail) body.1 in
    let head : 16 * opcode + length payload ≡ length payload = omega (arith, begins.0) in
    let tail = drop 2 (drop size following) in
    record {
      command = Data kind payload (take size following);
      rest = tail;
      spelled_is =
          ap₂ (λ first rest. first ∷ payload ++ rest) head whole
          ∙ ap (λ bytes. length payload ∷ bytes) (sym (data-joined payload (take size following) tail));
      allowed = (short, begins.1, no_cause place (data_cause before kind) parts.0, length-take-le size following body.0);
    }

-- bytes without a fault begin with an allowed command
pub first_fault-begins : (before : List Command) (place : ℕ) (bytes : List ℕ) → first_fault before place bytes ≡ None → Begins before bytes
first_fault-begins before place [] clear = absurd cc
first_fault-begins before place (head ∷ rest) clear =
    let count = head % 16 in
    let payload = take count rest in
    let following = drop count rest in
    elim (cases_lt 4 count) [
      | inl long ↦ let wrong : Some (fault_at place LongPayload) ≡ None = rw (lt-ltb 4 count long) at clear in absurd cc
      | inr short ↦ elim (cases_lt (length rest) count) [
        | inl lacks ↦ let wrong : Some (fault_at (place + 1 + length rest) Truncated) ≡ None = rw (le-ltb 4 count short, lt-ltb (length rest) count lacks) at clear in absurd cc
        | inr within ↦
            let as_long : length payload ≡ count = length-take-le count rest within in
            let begins = payload-begins before place (head / 16) payload following (data_kind (head / 16) (number_of payload)) refl (omega (arith, as_long))
            (sym (fault-head before place head count (head / 16) rest payload following refl refl (omega arith) within refl refl) ∙ clear) in
            let whole : 16 * (head / 16) + length payload ≡ head = omega (arith, as_long) in
            let same : (16 * (head / 16) + length payload) ∷ payload ++ following ≡ head ∷ rest = ap₂ (λ first bytes. first ∷ bytes) whole (take-append-drop count rest) in
            subst (Begins before) same begins
      ]
    ]
