-- The canonical comment reads back as itself, and no preamble begins in it.
use Rattle.std.proofs.Common.{◌≡◌, ◌≢◌, ℕ, false, ◌||◌, List, [], ◌∷◌, ◌++◌, length, get_or, ◌==◌, refl, sym, ap, ◌∙◌, arith, length-append, append_assoc}
use Rattle.std.specs.Prelude.{All, Option, Some, None, flat_map, filter, IfSome}
use Rattle.std.proofs.lemmas.Bool.{ne_eqb, or_from}
use Rattle.std.proofs.lemmas.List.Elements.{All-head, All-tail, All-nil, All-cons, All-push, All-append, All-weaker}
use Rattle.std.proofs.lemmas.List.{get_or_push}
use Rattle.bin_stream.proofs.Fronts.{line_passes}
use Rattle.ice_image.specs.CommentLines.{IsPrintable, IsCommentLine}
use Rattle.bin_stream.specs.Front.{pieces_of, is_comment_line, comment_of}
use Rattle.bin_stream.specs.CanonicalBytes.{comment_bytes}
use Rattle.bin_stream.proofs.FrontPlace.{IsClear}

-- the lines of a comment, if there is one, are lines that a comment can have
abbrev pub HasCommentLines : Option (List (List ℕ)) → Type 0
HasCommentLines comment = IfSome comment (All IsCommentLine)

-- the lines of a comment, each with 00 at its end
abbrev pub ended_lines : List (List ℕ) → List ℕ
ended_lines lines = flat_map (λ line. line ++ 0 ∷ []) lines

-- a line and its end are a piece
pieces_of-line : (line rest : List ℕ) → All IsPrintable line → pieces_of (line ++ 0 ∷ rest) ≡ line ∷ pieces_of rest
unfolding pieces_of
pieces_of-line [] rest plain = refl
pieces_of-line (byte ∷ line) rest plain =
    let here : IsPrintable byte = All-head IsPrintable byte line plain in
    let other : ((byte == 0) || (byte == 0xFF)) ≡ false = or_from (byte == 0) (byte == 0xFF) (ne_eqb byte 0 (λ e. omega (arith, here.from_space))) (ne_eqb byte 0xFF (λ e. omega (arith, here.to_tilde))) in
    rw (other, pieces_of-line line rest (All-tail IsPrintable byte line plain)) refl

-- the pieces between the start and the end of a comment
pieces_of-lines : (lines : List (List ℕ)) → All IsCommentLine lines → pieces_of (ended_lines lines ++ 0 ∷ 0xFF ∷ []) ≡ lines ++ [] ∷ [] ∷ [] ∷ []
unfolding pieces_of
pieces_of-lines [] are = refl
pieces_of-lines (line ∷ lines) are =
    let here = All-head IsCommentLine line lines are in
    let following = ended_lines lines ++ 0 ∷ 0xFF ∷ [] in
    ap pieces_of (append_assoc (line ++ 0 ∷ []) (ended_lines lines) (0 ∷ 0xFF ∷ []) ∙ append_assoc line (0 ∷ []) following)
    ∙ pieces_of-line line following here.printable
    ∙ ap (λ more. line ∷ more) (pieces_of-lines lines (All-tail IsCommentLine line lines are))

-- lines pass, and the empty pieces after them don't
kept-lines : (lines : List (List ℕ)) → All IsCommentLine lines → filter is_comment_line (lines ++ [] ∷ [] ∷ [] ∷ []) ≡ lines
kept-lines [] are = refl
kept-lines (line ∷ lines) are =
    rw (line_passes line (All-head IsCommentLine line lines are)) (ap (λ more. line ∷ more) (kept-lines lines (All-tail IsCommentLine line lines are)))

-- the comment that was written is read
pub comment_of-bytes : (comment : Option (List (List ℕ))) → HasCommentLines comment → comment_of (comment_bytes comment) ≡ comment
unfolding comment_of
comment_of-bytes None are = refl
comment_of-bytes (Some lines) are =
    ap (λ found. Some found) (ap (filter is_comment_line) (pieces_of-lines lines are) ∙ kept-lines lines are)

-- ---- no preamble begins in it

-- another byte than the preamble's second
abbrev pub IsOther : ℕ → Type 0
IsOther byte = byte ≢ 0xAA

-- the bytes of the lines
lines-clear : (lines : List (List ℕ)) → All IsCommentLine lines → All IsOther (ended_lines lines)
lines-clear [] are = All-nil IsOther
lines-clear (line ∷ lines) are =
    let here = All-head IsCommentLine line lines are in
    let printed : All IsOther line = All-weaker IsPrintable IsOther (λ byte is e. omega (arith, is.to_tilde)) line here.printable in
    All-append IsOther (line ++ 0 ∷ []) (ended_lines lines) (All-push IsOther line 0 printed (λ e. omega arith)) (lines-clear lines (All-tail IsCommentLine line lines are))

-- no preamble begins in a comment
pub front-clear : (comment : Option (List (List ℕ))) → HasCommentLines comment → IsClear (comment_bytes comment)
front-clear None are = record { no_second = λ k lt. absurd (omega arith); no_first = λ k last. absurd (omega arith) }
front-clear (Some lines) are =
    let front : List ℕ = comment_bytes (Some lines) in
    let before : List ℕ = 0xFF ∷ 0 ∷ (ended_lines lines ++ 0 ∷ []) in
    let parts : front ≡ before ++ 0xFF ∷ [] = ap (λ more. 0xFF ∷ 0 ∷ more) (sym (append_assoc (ended_lines lines) (0 ∷ []) (0xFF ∷ []))) in
    let inside : All IsOther before = All-cons IsOther 0xFF (0 ∷ (ended_lines lines ++ 0 ∷ [])) (λ e. omega arith) (All-cons IsOther 0 (ended_lines lines ++ 0 ∷ []) (λ e. omega arith) (All-push IsOther (ended_lines lines) 0 (lines-clear lines are) (λ e. omega arith))) in
    let all : All IsOther (before ++ 0xFF ∷ []) = All-push IsOther before 0xFF inside (λ e. omega arith) in
    record {
      no_second = λ k lt e. all k 0 (omega (arith, ap length parts)) (ap (λ bytes. get_or bytes k 0) (sym parts) ∙ e);
      no_first = λ k last e.
          let place : length before ≡ k = omega (arith, ap length parts, length-append before (0xFF ∷ [])) in
          let is : 0xFF ≡ 0x7E = sym (get_or_push before 0xFF 0 k place) ∙ ap (λ bytes. get_or bytes k 0) (sym parts) ∙ e in
          omega arith;
    }
