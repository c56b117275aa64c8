use Rattle.std.proofs.Common.{◌≡◌, ◌++◌, Some, None, ap, sym, ◌∙◌}
use Rattle.std.specs.Prelude.{find, option_map}
use Rattle.std.proofs.lemmas.Result.{on_ok_weaker}
use Rattle.ice_image.specs.Owned.{is_same_place}
use Rattle.chipdb_lines.specs.Items.{ExtraLine}
use Rattle.chipdb_reader.specs.Kept.{extra_line}
use Rattle.chipdb_reader.specs.declared.items.Extra.{Extra}
use Rattle.image_explain.specs.Explained.{extra_text, name_or_place}
use Rattle.image_explain.proofs.Gathered.{find-map}
use Rattle.image_explain.proofs.extras.append_extra.Goals as goal

pub returns-in_ok-extend_from_slice-in-Some : goal.returns-in_ok-extend_from_slice-in-Some
unfolding extra_text
returns-in_ok-extend_from_slice-in-Some c =
    let line = extra_line c.args.db.now.texts in
    let found : find (λ (extra : Extra). is_same_place extra.at c.args.at) c.args.db.now.extras ≡ Some c.in-Some.extra = sym (c.requires c.args.at) ∙ sym c.in-Some.ensures in
    c.in_ok-extend_from_slice-in-Some.ensures.items ∙ ap (λ name. c.args.text.now.items ++ name)
    (c.text.ensures ∙ sym (ap (name_or_place c.args.at) (find-map line (λ (l : ExtraLine). is_same_place l.at c.args.at) c.args.db.now.extras ∙ ap (option_map line) found)))

pub returns-in-None : goal.returns-in-None
unfolding extra_text
returns-in-None c =
    let line = extra_line c.args.db.now.texts in
    let found : find (λ (extra : Extra). is_same_place extra.at c.args.at) c.args.db.now.extras ≡ None = sym (c.requires c.args.at) ∙ sym c.in-None.ensures in
    on_ok_weaker c.append_place.result (λ written. written ∙ ap (λ name. c.args.text.now.items ++ name)
    (sym (ap (name_or_place c.args.at) (find-map line (λ (l : ExtraLine). is_same_place l.at c.args.at) c.args.db.now.extras ∙ ap (option_map line) found)))) c.append_place.ensures
