-- What was taken and what is kept of a text that comes in pieces, after one more piece.
use Rattle.std.proofs.Common.{◌≡◌, ℕ, ◌<◌, ◌⊎◌, inl, inr, refl, false, ◌==◌, List, [], ◌∷◌, ◌++◌, length, sym, ap, subst, ◌∙◌, append_assoc, arith}
use Rattle.std.proofs.lemmas.List.{append-nil, nil_from_length}
use Rattle.std.proofs.lemmas.Bool.{cases_lt}
use Rattle.text_lines.specs.Lines.{lines_of}
use Rattle.text_lines.specs.Pieces.{ended_lines, HasWholeLines}
use Rattle.text_lines.specs.Feeding.{TakesLines, RefusesLines, HasFront}
use Rattle.text_lines.proofs.WholeLines.{cut-none, cut-unended, cut-ended}

-- an empty text has no lines
no_lines : (text : List ℕ) → text ≡ [] → lines_of text ≡ []
unfolding lines_of
no_lines text none = ap lines_of none

module _ {Setting T : Type 0} (has_taken : Setting → T → List (List ℕ) → Type 0) (setting : Setting) where
  -- nothing was fed
  pub front-none : (taker : T) (text kept : List ℕ) → text ≡ [] → kept ≡ [] → has_taken setting taker [] → HasFront has_taken setting text taker kept
  front-none taker text kept none empty taken =
      let at : HasFront has_taken setting [] taker [] = record {
        front = [];
        cut = cut-none;
        taken = subst (λ (lines : List (List ℕ)). has_taken setting taker lines) (sym (no_lines [] refl)) taken;
      } in
      subst (λ (k : List ℕ). HasFront has_taken setting text taker k) (sym empty) (subst (λ (t : List ℕ). HasFront has_taken setting t taker []) (sym none) at)

  -- no bytes more
  pub front-nothing : (taker : T) (text bytes kept : List ℕ) → bytes ≡ [] → HasFront has_taken setting text taker kept → HasFront has_taken setting (text ++ bytes) taker kept
  front-nothing taker text bytes kept none has =
      let same : text ≡ text ++ bytes = sym (append-nil text) ∙ ap (λ b. text ++ b) (sym none) in
      subst (λ (t : List ℕ). HasFront has_taken setting t taker kept) same has

  -- more bytes are kept
  pub front-keeps : (taker : T) (text bytes kept : List ℕ) → ended_lines bytes ≡ 0 → HasFront has_taken setting text taker kept → HasFront has_taken setting (text ++ bytes) taker (kept ++ bytes)
  front-keeps taker text bytes kept none has = record {
    front = has.front;
    cut = cut-unended text has.front kept bytes has.cut none;
    taken = has.taken;
  }

  -- the kept bytes and those after them were taken as lines
  pub front-takes : (before after : T) (text bytes kept : List ℕ) → HasWholeLines (kept ++ bytes) → TakesLines has_taken before after (lines_of (kept ++ bytes)) → HasFront has_taken setting text before kept
      → HasFront has_taken setting (text ++ bytes) after []
  front-takes before after text bytes kept whole takes has =
      let lines : lines_of (has.front ++ (kept ++ bytes)) ≡ lines_of has.front ++ lines_of (kept ++ bytes) = has.cut.whole.lines (kept ++ bytes) in
      record {
        front = has.front ++ (kept ++ bytes);
        cut = cut-ended text has.front kept bytes has.cut whole;
        taken = subst (λ (ls : List (List ℕ)). has_taken setting after ls) (sym lines) (takes setting (lines_of has.front) has.taken);
      }

  -- the lines of the bytes were taken; nothing was kept before them, or there are none
  pub front-lines : (before after : T) (text bytes kept : List ℕ) → (kept ≡ []) ⊎ (bytes ≡ []) → HasWholeLines bytes → TakesLines has_taken before after (lines_of bytes) → HasFront has_taken setting text before kept
      → HasFront has_taken setting (text ++ bytes) after kept
  front-lines before after text bytes kept (inl empty) whole takes has =
      let same : bytes ≡ kept ++ bytes = ap (λ k. k ++ bytes) (sym empty) in
      subst (λ (k : List ℕ). HasFront has_taken setting (text ++ bytes) after k) (sym empty)
      (front-takes before after text bytes kept (subst HasWholeLines same whole) (subst (λ (b : List ℕ). TakesLines has_taken before after (lines_of b)) same takes) has)
  front-lines before after text bytes kept (inr none) whole takes has =
      let front : has_taken setting after (lines_of has.front ++ lines_of bytes) = takes setting (lines_of has.front) has.taken in
      let same : lines_of has.front ++ lines_of bytes ≡ lines_of has.front = ap (λ ls. lines_of has.front ++ ls) (no_lines bytes none) ∙ append-nil (lines_of has.front) in
      front-nothing after text bytes kept none (record {
        front = has.front;
        cut = has.cut;
        taken = subst (λ (ls : List (List ℕ)). has_taken setting after ls) same front;
      })

  -- the last line was taken, whether or not LF ends it
  pub front-ends : (before after : T) (text kept : List ℕ) → TakesLines has_taken before after (lines_of kept) → HasFront has_taken setting text before kept → has_taken setting after (lines_of text)
  front-ends before after text kept takes has =
      let all : lines_of text ≡ lines_of has.front ++ lines_of kept = ap lines_of has.cut.parts ∙ has.cut.whole.lines kept in
      subst (λ (ls : List (List ℕ)). has_taken setting after ls) (sym all) (takes setting (lines_of has.front) has.taken)

module _ {Setting T R : Type 0} (has_taken : Setting → T → List (List ℕ) → Type 0) (refuses : Setting → List (List ℕ) → R → Type 0) (setting : Setting) where
  -- one of the lines that the kept bytes and those after them make is refused
  pub front-refuses : (taker : T) (text bytes kept more : List ℕ) (refusal : R) → HasWholeLines (kept ++ bytes) → RefusesLines has_taken refuses taker (lines_of (kept ++ bytes)) refusal
      → HasFront has_taken setting text taker kept → refuses setting (lines_of (text ++ bytes ++ more)) refusal
  front-refuses taker text bytes kept more refusal whole refused has =
      let front = has.front in
      let line = kept ++ bytes in
      let parts : text ++ bytes ++ more ≡ front ++ (line ++ more) =
      ap (λ t. t ++ bytes ++ more) has.cut.parts ∙ ap (λ t. t ++ more) (append_assoc front kept bytes) ∙ append_assoc front line more in
      let all : lines_of (text ++ bytes ++ more) ≡ lines_of front ++ lines_of line ++ lines_of more =
      ap lines_of parts
      ∙ has.cut.whole.lines (line ++ more)
      ∙ ap (λ ls. lines_of front ++ ls) (whole.lines more)
      ∙ sym (append_assoc (lines_of front) (lines_of line) (lines_of more)) in
      subst (λ (ls : List (List ℕ)). refuses setting ls refusal) (sym all) (refused setting (lines_of front) (lines_of more) has.taken)

  -- one of the lines is refused, if nothing is kept or there are none
  pub front-refuses_lines : (taker : T) (text bytes kept more : List ℕ) (refusal : R) → (kept ≡ []) ⊎ (bytes ≡ []) → HasWholeLines bytes → RefusesLines has_taken refuses taker (lines_of bytes) refusal
      → HasFront has_taken setting text taker kept → refuses setting (lines_of (text ++ bytes ++ more)) refusal
  front-refuses_lines taker text bytes kept more refusal (inl empty) whole refused has =
      let same : bytes ≡ kept ++ bytes = ap (λ k. k ++ bytes) (sym empty) in
      front-refuses taker text bytes kept more refusal (subst HasWholeLines same whole) (subst (λ (b : List ℕ). RefusesLines has_taken refuses taker (lines_of b) refusal) same refused) has
  front-refuses_lines taker text bytes kept more refusal (inr none) whole refused has =
      let front = has.front in
      let parts : text ++ bytes ++ more ≡ front ++ (kept ++ more) =
      ap (λ b. text ++ b ++ more) none ∙ ap (λ t. t ++ more) (append-nil text ∙ has.cut.parts) ∙ append_assoc front kept more in
      let all : lines_of (text ++ bytes ++ more) ≡ lines_of front ++ lines_of bytes ++ lines_of (kept ++ more) =
      ap lines_of parts
      ∙ has.cut.whole.lines (kept ++ more)
      ∙ ap (λ ls. ls ++ lines_of (kept ++ more)) (sym (append-nil (lines_of front)) ∙ ap (λ ls. lines_of front ++ ls) (sym (no_lines bytes none))) in
      subst (λ (ls : List (List ℕ)). refuses setting ls refusal) (sym all) (refused setting (lines_of front) (lines_of (kept ++ more)) has.taken)

  -- the last line is refused, whether or not LF ends it
  pub front-refuses_last : (taker : T) (text kept : List ℕ) (refusal : R) → RefusesLines has_taken refuses taker (lines_of kept) refusal → HasFront has_taken setting text taker kept → refuses setting (lines_of text) refusal
  front-refuses_last taker text kept refusal refused has =
      let all : lines_of text ≡ lines_of has.front ++ lines_of kept ++ [] =
      ap lines_of has.cut.parts ∙ has.cut.whole.lines kept ∙ sym (append-nil (lines_of has.front ++ lines_of kept)) in
      subst (λ (ls : List (List ℕ)). refuses setting ls refusal) (sym all) (refused setting (lines_of has.front) [] has.taken)

-- ---- the parts of a piece

-- a text that is not empty
pub not-empty : (text : List ℕ) → (length text == 0) ≡ false → 0 < length text
not-empty [] some = absurd cc
not-empty (byte ∷ bytes) some = omega arith

-- after the end of a line nothing is kept, and if the line hasn't ended the piece has no line
pub none_kept : (end kept now lines : List ℕ) → (0 < length end → now ≡ []) → (length end ≡ 0 → now ≡ kept) → (length end ≡ 0 → 0 < length kept → lines ≡ []) → (now ≡ []) ⊎ (lines ≡ [])
none_kept end kept now lines empty same going_on =
    elim (cases_lt 0 (length end)) [
      | inl some ↦ inl (empty some)
      | inr none ↦ elim (cases_lt 0 (length kept)) [
        | inl begun ↦ inr (going_on (omega arith) begun)
        | inr nothing ↦ inl (same (omega arith) ∙ nil_from_length kept (omega arith))
      ]
    ]

-- a piece is what it was cut in
pub piece-is : (text piece end lines unended : List ℕ) → piece ≡ end ++ lines ++ unended → text ++ end ++ lines ++ unended ≡ text ++ piece
piece-is text piece end lines unended parts =
    append_assoc (text ++ end) lines unended ∙ append_assoc text end (lines ++ unended) ∙ ap (λ t. text ++ t) (sym (append_assoc end lines unended)) ∙ ap (λ t. text ++ t) (sym parts)

-- the parts of a piece if more follows, after its end
pub after-end : (text piece end lines unended more : List ℕ) → piece ≡ end ++ lines ++ unended → text ++ end ++ (lines ++ unended ++ more) ≡ text ++ piece ++ more
after-end text piece end lines unended more parts =
    sym (append_assoc (text ++ end) (lines ++ unended) more)
    ∙ ap (λ t. t ++ more) (sym (append_assoc (text ++ end) lines unended) ∙ piece-is text piece end lines unended parts)

-- and after its lines
pub after-lines : (text piece end lines unended more : List ℕ) → piece ≡ end ++ lines ++ unended → text ++ end ++ lines ++ (unended ++ more) ≡ text ++ piece ++ more
after-lines text piece end lines unended more parts =
    sym (append_assoc (text ++ end ++ lines) unended more) ∙ ap (λ t. t ++ more) (piece-is text piece end lines unended parts)
