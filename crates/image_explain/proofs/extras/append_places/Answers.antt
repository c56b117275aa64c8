use Rattle.std.proofs.Common.{◌<◌, ◌++◌, [], ◌∷◌, length, map, ap, sym, ◌∙◌, arith}
use Rattle.std.specs.Prelude.{codes}
use Rattle.std.proofs.lemmas.List.{nil_from_length}
use Rattle.std.proofs.lemmas.Result.{on_ok_weaker}
use Rattle.text_lines.specs.Written.{text_of}
use Rattle.asc_text.proofs.Pieces.{lines-joined, nothing-written, text_of-one}
use Rattle.chipdb_reader.specs.Kept.{database_in}
use Rattle.image_explain.specs.Explained.{extra_lines, extra_text}
use Rattle.image_explain.proofs.Texts.{some-extras}
use Rattle.image_explain.proofs.extras.append_places.Goals as goal

pub returns-then-places-eq0 : goal.returns-then-places-eq0
returns-then-places-eq0 c =
    nothing-written c.args.text.now.items (extra_lines (database_in c.args.db.now).extras c.args.places.now) (ap (extra_lines (database_in c.args.db.now).extras) (nil_from_length c.args.places.now (omega arith)))

pub returns : goal.returns
returns c =
    let extras = (database_in c.args.db.now).extras in
    let some : 0 < length c.args.places.now = omega arith in
    on_ok_weaker c.append_each.result (λ written.
    lines-joined c.args.text.now.items c.extend_from_slice.new.self.items c.append_each.new.text.items (codes ".extra_bits" ∷ []) (map (extra_text extras) c.args.places.now)
    (c.in_ok-extend_from_slice.ensures.items ∙ ap (λ text. c.args.text.now.items ++ text) (sym (text_of-one (codes ".extra_bits")))) written
    ∙ ap (λ lines. c.args.text.now.items ++ text_of lines) (sym (some-extras extras c.args.places.now some))) c.append_each.ensures
