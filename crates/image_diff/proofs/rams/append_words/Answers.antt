use Rattle.std.proofs.Common.{◌∷◌, ◌++◌, ap, ◌∙◌}
use Rattle.std.proofs.lemmas.Result.{on_ok_weaker}
use Rattle.std.specs.Prelude.{codes, decimal}
use Rattle.asc_text.specs.Canonical.{grid_line}
use Rattle.image_diff.specs.Differences.{digits}
use Rattle.image_diff.proofs.Written.{word-written}
use Rattle.image_diff.proofs.rams.append_words.Goals as goal

pub returns : goal.returns
returns c =
    on_ok_weaker c.end_line.result (λ ended.
    word-written c.args.text.now.items c.append_name.new.text.items c.extend_from_slice.new.self.items c.append_number.new.text.items c.extend_from_slice-2.new.self.items c.append_hexadecimal.new.text.items c.extend_from_slice-3.new.self.items c.append_hexadecimal-2.new.text.items c.end_line.new.text.items
    (grid_line (codes "ram") c.args.x c.args.y) (decimal c.args.word) (digits c.args.before) (digits c.args.after)
    c.in_ok-append_name.ensures c.in_ok-extend_from_slice.ensures.items (c.in_ok-append_number.ensures.text ∙ ap (λ number. c.extend_from_slice.new.self.items ++ 32 ∷ decimal number) c.from.ensures) c.in_ok-extend_from_slice-2.ensures.items c.in_ok-append_hexadecimal.ensures.text c.in_ok-extend_from_slice-3.ensures.items c.in_ok-append_hexadecimal-2.ensures.text ended) c.end_line.ensures.text
