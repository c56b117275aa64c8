use Rattle.std.proofs.Common.{◌≡◌, ◌+◌, ◌-◌, ◌++◌, ◌∙◌, ◌∷◌, [], ◌≤◌, ◌<◌, not, inl, inr, length, take, drop, ap, sym, arith, length-drop, take_all, append_assoc, filter}
use Rattle.std.specs.List.{position_or_len}
use Rattle.std.proofs.lemmas.Bool.{cases_lt}
use Rattle.std.proofs.lemmas.List.Sums.{prefix_len-le-length}
use Rattle.bin_stream.specs.Front.{is_comment_line, pieces_of}
use Rattle.bin_stream.specs.inside.Pieces.{is_piece_end}
use Rattle.bin_stream.proofs.Fronts.{lines-cut, lines-whole}
use Rattle.bin_stream.proofs.reading.front.lines_of.Goals as goal

pub returns-then-end-rest : goal.returns-then-end-rest
returns-then-end-rest c =
    let bytes = c.args.bytes.now in
    let start = c.loop-comment.start in
    let end = c.piece_length-end.result in
    let rest = drop start bytes in
    let all : take (length bytes - start) rest ≡ rest = take_all (length bytes - start) rest (omega (arith, length-drop start bytes)) in
    let is : end ≡ position_or_len is_piece_end rest = c.piece_length-end.ensures ∙ ap (position_or_len is_piece_end) all in
    let full : end ≡ length rest = c.if-end-rest.true ∙ ap length all in
    let told : c.append_piece.new.comment ≡ c.loop-comment.comment ++ filter is_comment_line (take end rest ∷ []) = c.in_ok-append_piece.ensures ∙ ap (λ rest. c.loop-comment.comment ++ filter is_comment_line (take end rest ∷ [])) all in
    told ∙ sym (c.loop-comment.invariant.lines_are ∙ ap (λ lines. c.loop-comment.comment ++ lines) (lines-whole bytes start end is full))

pub loop-comment-preserved : goal.loop-comment-preserved
loop-comment-preserved c =
    let bytes = c.args.bytes.now in
    let start = c.loop-comment.start in
    let end = c.piece_length-end.result in
    let rest = drop start bytes in
    let all : take (length bytes - start) rest ≡ rest = take_all (length bytes - start) rest (omega (arith, length-drop start bytes)) in
    let is : end ≡ position_or_len is_piece_end rest = c.piece_length-end.ensures ∙ ap (position_or_len is_piece_end) all in
    let within : end ≤ length rest = omega (arith, is, prefix_len-le-length (λ byte. not (is_piece_end byte)) rest) in
    let apart : end ≡ length rest → ⊥ = λ e. c.if-end-rest.false (e ∙ sym (ap length all)) in
    let before : end < length rest = elim (cases_lt end (length rest)) [ inl lt ↦ lt | inr le ↦ absurd (apart (omega arith)) ] in
    let told : c.append_piece.new.comment ≡ c.loop-comment.comment ++ filter is_comment_line (take end rest ∷ []) = c.in_ok-append_piece.ensures ∙ ap (λ rest. c.loop-comment.comment ++ filter is_comment_line (take end rest ∷ [])) all in
    let more = filter is_comment_line (pieces_of (drop (start + (end + 1)) bytes)) in
    record {
      within = omega (arith, length-drop start bytes);
      lines_are =
          c.loop-comment.invariant.lines_are
          ∙ ap (λ lines. c.loop-comment.comment ++ lines) (lines-cut bytes start end is before)
          ∙ sym (append_assoc c.loop-comment.comment (filter is_comment_line (take end rest ∷ [])) more)
          ∙ ap (λ lines. lines ++ more) (sym told);
    }
