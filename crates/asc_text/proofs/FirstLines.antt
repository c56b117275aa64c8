-- The first line of a text, if LF is found right after the bytes of a row or of digits.
use Rattle.std.proofs.Common.{◌≡◌, ℕ, suc, ◌+◌, ◌<◌, ◌≤◌, true, false, ◌&&◌, ◌==◌, List, [], ◌∷◌, ◌++◌, length, get_or, take, drop, length-drop, refl, sym, ap, subst, ◌∙◌, inl, inr, arith}
use Rattle.std.specs.Prelude.{All, nat_lt, None}
use Rattle.std.specs.List.{list_all}
use Rattle.std.proofs.lemmas.Bool.{and_parts, ltb-true, eqb-true, cases_Bool}
use Rattle.std.proofs.lemmas.Bool.Decides.{nat_tests}
use Rattle.std.proofs.lemmas.List.{take-append-drop}
use Rattle.std.proofs.lemmas.List.Elements.{All-cons, All-nil, All-weaker}
use Rattle.std.proofs.Math.Seq.{drop-cons}
use Rattle.hex.specs.Hex.{is_hex_digit}
use Rattle.text_lines.specs.Lines.{lines_of, line_at, trimmed}
use Rattle.text_lines.proofs.Written.{lines_of-plain}
use Rattle.plane_map.specs.Layout.{columns_of}
use Rattle.plane_map.specs.declared.tile.TileKind.{TileKind}
use Rattle.asc_text.specs.declared.reading.reader.Expected.{Expected}
use Rattle.asc_text.specs.declared.reading.reader.Expected.TheVariants.{Row, Memory}
use Rattle.asc_text.specs.Rows.{is_row, is_memory_line}
use Rattle.asc_text.specs.inside.RowNumbers.{is_bit}
use Rattle.asc_text.specs.inside.Reading.{ReaderState, TakesFirst, TakesRow, TakesMemory, Takes, first_line, line_refusal, row_refusal, memory_refusal}
use Rattle.asc_text.proofs.Spelled.{trimmed-word}

-- ---- rows and digits have no byte that ends a line, and no blank

bits-high : (line : List ℕ) → list_all is_bit line ≡ true → All (λ byte. 33 ≤ byte) line
bits-high [] are = All-nil (λ byte. 33 ≤ byte)
bits-high (byte ∷ line) are =
    let parts = and_parts (is_bit byte) (list_all is_bit line) are in
    let here : is_bit byte ≡ true = parts.0 in
    All-cons (λ byte. 33 ≤ byte) byte line (grind (arith, nat_tests)) (bits-high line parts.1)

digit-high : (byte : ℕ) → is_hex_digit byte ≡ true → 33 ≤ byte
digit-high byte is = grind (arith, nat_tests)

digits-high : (line : List ℕ) → list_all is_hex_digit line ≡ true → All (λ byte. 33 ≤ byte) line
digits-high [] are = All-nil (λ byte. 33 ≤ byte)
digits-high (byte ∷ line) are =
    let parts = and_parts (is_hex_digit byte) (list_all is_hex_digit line) are in
    All-cons (λ byte. 33 ≤ byte) byte line (digit-high byte parts.0) (digits-high line parts.1)

row-high : (width : ℕ) (line : List ℕ) → is_row width line ≡ true → All (λ byte. 33 ≤ byte) line
unfolding is_row
row-high width line is = bits-high line (and_parts (length line == width) (list_all is_bit line) is).1

memory_line-high : (line : List ℕ) → is_memory_line line ≡ true → All (λ byte. 33 ≤ byte) line
unfolding is_memory_line
memory_line-high line is = digits-high line (and_parts (length line == 64) (list_all is_hex_digit line) is).1

-- what is not refused
row-accepted : (kind : TileKind) (line : List ℕ) → row_refusal kind line ≡ None → is_row (columns_of kind) line ≡ true
row-accepted kind line none =
    elim (cases_Bool (is_row (columns_of kind) line)) [
      | inl is ↦ is
      | inr other ↦ absurd (cc (rw other at none))
    ]

memory_line-accepted : (line : List ℕ) → memory_refusal line ≡ None → is_memory_line line ≡ true
memory_line-accepted line none =
    elim (cases_Bool (is_memory_line line)) [
      | inl is ↦ is
      | inr other ↦ absurd (cc (rw other at none))
    ]

-- ---- the first line

-- LF after bytes that are above the space
lines_of-lf_at : (text : List ℕ) (len : ℕ) → (nat_lt len (length text) && (get_or text len 0 == 10)) ≡ true → All (λ byte. 33 ≤ byte) (take len text)
    → (lines_of text ≡ take len text ∷ lines_of (drop (len + 1) text)) × (length (drop (len + 1) text) < length text)
lines_of-lf_at text len at high =
    let parts = and_parts (nat_lt len (length text)) (get_or text len 0 == 10) at in
    let within : len < length text = ltb-true len (length text) parts.0 in
    let is : get_or text len 0 ≡ 10 = eqb-true (get_or text len 0) 10 parts.1 in
    let next : suc len ≡ len + 1 = omega arith in
    let following : drop len text ≡ 10 ∷ drop (len + 1) text = drop-cons text len 0 within ∙ (λ i. is i ∷ drop (next i) text) in
    let cut : text ≡ take len text ++ (10 ∷ drop (len + 1) text) = sym (take-append-drop len text) ∙ ap (λ more. take len text ++ more) following in
    let plain = All-weaker (λ byte. 33 ≤ byte) (λ byte. 32 ≤ byte) (λ byte some. omega arith) (take len text) high in
    (ap lines_of cut ∙ lines_of-plain (take len text) (drop (len + 1) text) plain, omega (arith, length-drop (len + 1) text))

-- an empty text
pub is-empty : (text : List ℕ) → (length text == 0) ≡ true → text ≡ []
is-empty [] none = refl
is-empty (byte ∷ bytes) none =
    let long : length (byte ∷ bytes) ≡ 0 = eqb-true (length (byte ∷ bytes)) 0 none in
    absurd (omega arith)

-- any other
pub not-empty : (text : List ℕ) → (length text == 0) ≡ false → 0 < length text
not-empty [] some = absurd cc
not-empty (byte ∷ bytes) some = omega arith

-- a first line that was taken
pub taken-first : (s new : ReaderState) (text line rest : List ℕ) → lines_of text ≡ line ∷ lines_of rest → length rest < length text
    → line_refusal s s.expected line ≡ None → Takes s s.expected line new → TakesFirst s text rest new
taken-first s new text line rest lines shorter fits takes =
    let first : line ≡ first_line text = sym (ap (λ all. line_at all 0) lines) in
    let Fits : List ℕ → Type 0 = λ l. line_refusal s s.expected l ≡ None in
    let Taken : List ℕ → Type 0 = λ l. Takes s s.expected l new in
    record {
      lines = lines ∙ ap (λ l. l ∷ lines_of rest) first;
      shorter = shorter;
      fits = subst Fits first fits;
      takes = subst Taken first takes;
    }

-- a row that LF ends
pub taken-row : (s new : ReaderState) (text : List ℕ) (kind : TileKind) (x y row len : ℕ) → s.expected ≡ Row kind x y row → (nat_lt len (length text) && (get_or text len 0 == 10)) ≡ true
    → row_refusal kind (take len text) ≡ None → TakesRow s kind x y row (take len text) new → TakesFirst s text (drop (len + 1) text) new
taken-row s new text kind x y row len is at fits takes =
    let line : List ℕ = take len text in
    let high = row-high (columns_of kind) line (row-accepted kind line fits) in
    let same : line ≡ trimmed line = sym (trimmed-word line high) in
    let found = lines_of-lf_at text len at high in
    taken-first s new text line (drop (len + 1) text) found.0 found.1
    (ap (λ e. line_refusal s e line) is ∙ ap (row_refusal kind) (sym same) ∙ fits)
    (subst (λ (e : Expected). Takes s e line new) (sym is) (subst (λ (l : List ℕ). TakesRow s kind x y row l new) same takes))

-- digits that LF ends
pub taken-memory : (s new : ReaderState) (text : List ℕ) (x y row len : ℕ) → s.expected ≡ Memory x y row → (nat_lt len (length text) && (get_or text len 0 == 10)) ≡ true
    → memory_refusal (take len text) ≡ None → TakesMemory s x y row (take len text) new → TakesFirst s text (drop (len + 1) text) new
taken-memory s new text x y row len is at fits takes =
    let line : List ℕ = take len text in
    let high = memory_line-high line (memory_line-accepted line fits) in
    let same : line ≡ trimmed line = sym (trimmed-word line high) in
    let found = lines_of-lf_at text len at high in
    taken-first s new text line (drop (len + 1) text) found.0 found.1
    (ap (λ e. line_refusal s e line) is ∙ ap memory_refusal (sym same) ∙ fits)
    (subst (λ (e : Expected). Takes s e line new) (sym is) (subst (λ (l : List ℕ). TakesMemory s x y row l new) same takes))
