use Rattle.std.proofs.Common.{◌≡◌, true, false, sym, append-nil, rules}
use Rattle.bin_stream.specs.Front.{is_comment_line}
use Rattle.bin_stream.proofs.Fronts.{line_passes, line_fails}
use Rattle.bin_stream.proofs.reading.front.append_piece.Goals as goal

pub returns-then-is_comment_line : goal.returns-then-is_comment_line
returns-then-is_comment_line c =
    let fits : is_comment_line c.args.piece.now ≡ true = line_passes c.args.piece.now (search rules) in
    rw fits (search rules)

pub returns-else-is_comment_line : goal.returns-else-is_comment_line
returns-else-is_comment_line c =
    let fails : is_comment_line c.args.piece.now ≡ false = line_fails c.args.piece.now (search rules) in
    rw fails (sym (append-nil c.args.comment.now))
