-- Pieces of a front, and those that are lines of a comment.
use Rattle.std.proofs.Common.{◌≡◌, ℕ, suc, ◌+◌, ◌<◌, ◌≤◌, Bool, true, false, not, ◌&&◌, List, [], ◌∷◌, ◌++◌, length, take, drop, get_or, refl, sym, ap, ◌∙◌, arith, inl, inr, subst, drop-drop, take_all}
use Rattle.std.specs.Prelude.{filter, nat_le, nat_lt, ◌==◌}
use Rattle.std.specs.List.{position_or_len, list_all}
use Rattle.std.proofs.lemmas.Bool.{cases_Bool, lt-ltb, ltb-true, le-leb, leb-true, ne_eqb, eqb-false, and_from, and_parts, not-true}
use Rattle.std.proofs.lemmas.List.Sums.{AllPass-from_list_all, list_all-from_AllPass}
use Rattle.text_lines.specs.Lines.{with_byte}
use Rattle.ice_image.specs.CommentLines.{IsCommentLine}
use Rattle.bin_stream.specs.Front.{pieces_of, is_comment_line}
use Rattle.bin_stream.specs.inside.Pieces.{is_piece_end}

-- a piece that ends before the bytes do
pub piece_cut : (bytes : List ℕ) → position_or_len is_piece_end bytes < length bytes → pieces_of bytes ≡ take (position_or_len is_piece_end bytes) bytes ∷ pieces_of (drop (position_or_len is_piece_end bytes + 1) bytes)
unfolding pieces_of
piece_cut [] lt = absurd (omega arith)
piece_cut (byte ∷ bytes) lt =
    elim (cases_Bool (is_piece_end byte)) [
      | inl ends ↦ rw ends refl
      | inr goes ↦
          let m = position_or_len is_piece_end bytes in
          let further : 1 + m < suc (length bytes) = rw goes at lt in
          let within : m < length bytes = omega arith in
          let e : 1 + m ≡ suc m = omega arith in
          let next : 1 + m + 1 ≡ suc (m + 1) = omega arith in
          rw (goes, next, e) (ap (with_byte byte) (piece_cut bytes within))
    ]

-- a piece that the bytes end
pub piece_whole : (bytes : List ℕ) → length bytes ≤ position_or_len is_piece_end bytes → pieces_of bytes ≡ bytes ∷ []
unfolding pieces_of
piece_whole [] le = refl
piece_whole (byte ∷ bytes) le =
    elim (cases_Bool (is_piece_end byte)) [
      | inl ends ↦
          let none : suc (length bytes) ≤ 0 = rw ends at le in
          absurd (omega arith)
      | inr goes ↦
          let further : suc (length bytes) ≤ 1 + position_or_len is_piece_end bytes = rw goes at le in
          rw goes (ap (with_byte byte) (piece_whole bytes (omega arith)))
    ]

-- the lines among pieces, with one piece more before the others
pub filter-first : (line : List ℕ) (pieces : List (List ℕ)) → filter is_comment_line (line ∷ pieces) ≡ filter is_comment_line (line ∷ []) ++ filter is_comment_line pieces
filter-first line pieces =
    elim (cases_Bool (is_comment_line line)) [
      | inl fits ↦ rw fits refl
      | inr not_fits ↦ rw not_fits refl
    ]

-- ---- which pieces are lines

abbrev is_seen : ℕ → Bool
is_seen byte = nat_le 0x20 byte && nat_le byte 0x7E

-- a line passes the test
pub line_passes : (line : List ℕ) → IsCommentLine line → is_comment_line line ≡ true
line_passes line fits =
    let some : nat_lt 0 (length line) ≡ true = lt-ltb 0 (length line) fits.some_byte in
    let seen : list_all is_seen line ≡ true = list_all-from_AllPass is_seen line (λ k d lt.
    let here = fits.printable k d lt in
    and_from (nat_le 0x20 (get_or line k d)) (nat_le (get_or line k d) 0x7E) (le-leb 0x20 (get_or line k d) here.from_space) (le-leb (get_or line k d) 0x7E here.to_tilde)) in
    let no_dot : not (get_or line 0 0 == 0x2E) ≡ true = ap not (ne_eqb (get_or line 0 0) 0x2E fits.no_dot) in
    and_from (nat_lt 0 (length line) && list_all is_seen line) (not (get_or line 0 0 == 0x2E)) (and_from (nat_lt 0 (length line)) (list_all is_seen line) some seen) no_dot

-- what passes the test is a line
pub line_from : (line : List ℕ) → is_comment_line line ≡ true → IsCommentLine line
line_from line passes =
    let parts = and_parts (nat_lt 0 (length line) && list_all is_seen line) (not (get_or line 0 0 == 0x2E)) passes in
    let firsts = and_parts (nat_lt 0 (length line)) (list_all is_seen line) parts.0 in
    record {
      some_byte = ltb-true 0 (length line) firsts.0;
      printable = λ k d lt.
          let both = and_parts (nat_le 0x20 (get_or line k d)) (nat_le (get_or line k d) 0x7E) (AllPass-from_list_all is_seen line firsts.1 k d lt) in
          record { from_space = leb-true 0x20 (get_or line k d) both.0; to_tilde = leb-true (get_or line k d) 0x7E both.1 };
      no_dot = eqb-false (get_or line 0 0) 0x2E (not-true (get_or line 0 0 == 0x2E) parts.1);
    }

-- what isn't a line doesn't
pub line_fails : (line : List ℕ) → (IsCommentLine line → ⊥) → is_comment_line line ≡ false
line_fails line no_line =
    elim (cases_Bool (is_comment_line line)) [
      | inl passes ↦ absurd (no_line (line_from line passes))
      | inr fails ↦ fails
    ]

-- ---- pieces from a place on

-- one that ends before the bytes do
pub lines-cut : (bytes : List ℕ) (start n : ℕ) → n ≡ position_or_len is_piece_end (drop start bytes) → n < length (drop start bytes) → filter is_comment_line (pieces_of (drop start bytes)) ≡ filter is_comment_line (take n (drop start bytes) ∷ []) ++ filter is_comment_line (pieces_of (drop (start + (n + 1)) bytes))
lines-cut bytes start n is lt =
    let rest = drop start bytes in
    let within : position_or_len is_piece_end rest < length rest = omega arith in
    let cut : pieces_of rest ≡ take n rest ∷ pieces_of (drop (n + 1) rest) = subst (λ (n : ℕ). pieces_of rest ≡ take n rest ∷ pieces_of (drop (n + 1) rest)) (sym is) (piece_cut rest within) in
    let e : n + 1 + start ≡ start + (n + 1) = omega arith in
    ap (filter is_comment_line) cut ∙ filter-first (take n rest) (pieces_of (drop (n + 1) rest)) ∙ ap (λ bytes. filter is_comment_line (take n rest ∷ []) ++ filter is_comment_line (pieces_of bytes)) (drop-drop (n + 1) start bytes ∙ ap (λ n. drop n bytes) (omega arith))

-- the last one
pub lines-whole : (bytes : List ℕ) (start n : ℕ) → n ≡ position_or_len is_piece_end (drop start bytes) → n ≡ length (drop start bytes) → filter is_comment_line (pieces_of (drop start bytes)) ≡ filter is_comment_line (take n (drop start bytes) ∷ [])
lines-whole bytes start n is all =
    let rest = drop start bytes in
    ap (filter is_comment_line) (piece_whole rest (omega arith) ∙ ap (λ piece. piece ∷ []) (sym (take_all n rest (omega arith))))
