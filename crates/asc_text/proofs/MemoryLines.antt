-- A line of 64 hexadecimal digits is one that decodes into 32 bytes.
use Rattle.std.proofs.Common.{◌≡◌, ℕ, ◌==◌, true, false, List, length, refl, sym, ap, ◌∙◌, inl, inr, arith}
use Rattle.std.specs.Prelude.{Result, Ok, Err, IsOk, MatchResult}
use Rattle.std.specs.List.{list_all, AllPass}
use Rattle.std.proofs.lemmas.Bool.{and_parts, cases_Bool}
use Rattle.std.proofs.lemmas.Bool.Decides.{nat_tests}
use Rattle.std.proofs.lemmas.List.Sums.{AllPass-from_list_all, list_all-from_AllPass}
use Rattle.hex.specs.Hex.{decode_of, decode_sized, is_hex_digit}
use Rattle.hex.specs.declared.error.FromHexError.{FromHexError}
use Rattle.hex.proofs.HexLemmas.{IsOk-decode_sized, decode_sized-twice}
use Rattle.asc_text.specs.Rows.{is_memory_line, ram_line_bytes, decoded}

-- what decodes into 32 bytes is such a line
is_memory_line-yes : (line : List ℕ) → length line ≡ 64 → AllPass is_hex_digit line → is_memory_line line ≡ true
unfolding is_memory_line
is_memory_line-yes line size digits = rw (size, list_all-from_AllPass is_hex_digit line digits) refl

-- and such a line decodes
is_memory_line-decodes : (line : List ℕ) → is_memory_line line ≡ true → IsOk (decode_sized line 32)
unfolding is_memory_line
is_memory_line-decodes line is =
    let parts = and_parts (length line == 64) (list_all is_hex_digit line) is in
    let size : length line ≡ 64 = grind (arith, nat_tests) in
    (IsOk-decode_sized line 32).1 (size, AllPass-from_list_all is_hex_digit line parts.1)

-- the line of bytes that were decoded
pub memory_line-decoded : (line bytes : List ℕ) → decode_sized line 32 ≡ Ok bytes → (is_memory_line line ≡ true) × (ram_line_bytes line ≡ bytes)
unfolding ram_line_bytes
memory_line-decoded line bytes is =
    let ok : IsOk (decode_sized line 32) = rw is refl in
    let parts = (IsOk-decode_sized line 32).0 ok in
    let whole : decode_of line ≡ Ok bytes = sym (decode_sized-twice line 32 parts.0) ∙ is in
    (is_memory_line-yes line parts.0 parts.1, ap decoded whole)

-- a line that can't be decoded
pub memory_line-refused : (line : List ℕ) (e : FromHexError) → decode_sized line 32 ≡ Err e → is_memory_line line ≡ false
memory_line-refused line e is =
    elim (cases_Bool (is_memory_line line)) [
      | inl taken ↦ absurd (cc (rw is at (is_memory_line-decodes line taken)))
      | inr refused ↦ refused
    ]

-- what a call that decodes answers, next to what the line decodes to
abbrev pub IsAnswer : Result (List ℕ) FromHexError → Result Unit FromHexError → List ℕ → Type 0
IsAnswer d r out = MatchResult d (λ bytes. (r ≡ Ok tt) × (out ≡ bytes)) (λ e. r ≡ Err e)

-- if it is the bytes
pub decoded-written : (d : Result (List ℕ) FromHexError) (r : Result Unit FromHexError) (out : List ℕ) → IsAnswer d r out → r ≡ Ok tt → d ≡ Ok out
decoded-written (Ok bytes) r out h ok = ap (λ b. Ok b) (sym h.1)
decoded-written (Err e) r out h ok = absurd (cc (sym h ∙ ok))

-- if it is an error
pub decoded-refused : (d : Result (List ℕ) FromHexError) (r : Result Unit FromHexError) (out : List ℕ) (e : FromHexError) → IsAnswer d r out → r ≡ Err e
    → (f : FromHexError) × (d ≡ Err f)
decoded-refused (Ok bytes) r out e h err = absurd (cc (sym h.0 ∙ err))
decoded-refused (Err f) r out e h err = (f, refl)
