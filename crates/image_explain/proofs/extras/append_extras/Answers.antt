use Rattle.std.proofs.Common.{◌++◌, ap, ◌∙◌}
use Rattle.std.proofs.lemmas.Result.{on_ok_weaker}
use Rattle.text_lines.specs.Written.{text_of}
use Rattle.chipdb_reader.specs.Kept.{database_in}
use Rattle.image_explain.specs.Explained.{extra_lines}
use Rattle.image_explain.proofs.extras.append_extras.Goals as goal

pub returns : goal.returns
returns c =
    on_ok_weaker c.append_places.result (λ written. written
    ∙ ap (λ places. c.args.text.now.items ++ text_of (extra_lines (database_in c.args.db.now).extras places))
    (c.deref.ensures.value ∙ c.in_ok-places.ensures.bits)) c.append_places.ensures
