use Rattle.std.proofs.Common.{◌≡◌, Bool, Some, get_or, ap, sym, ◌∙◌}
use Rattle.std.specs.Prelude.{find, position, option_map, Option, ◌==◌, ◌&&◌}
use Rattle.std.proofs.lemmas.Option.{slice_get-get_or}
use Rattle.chipdb_lines.specs.Items.{NameLine}
use Rattle.chipdb_reader.specs.Kept.{name_line}
use Rattle.chipdb_reader.specs.Nets.{names_with}
use Rattle.chipdb_reader.specs.declared.items.NetName.{NetName}
use Rattle.fabric_model.proofs.Listed.{find-no_position}
use Rattle.image_explain.specs.Explained.{is_at}
use Rattle.image_explain.proofs.Gathered.{find-map, find-some, position-below}
use Rattle.image_explain.proofs.names.searched_name.Goals as goal

pub returns-in-None : goal.returns-in-None
returns-in-None c =
    let line = name_line c.args.db.now.texts in
    let net = c.args.net in
    let names = c.names_of-names.result.now in
    let passes = is_at c.args.at.x c.args.at.y in
    let found = find-map line passes (names_with net names) ∙ ap (option_map line) (find-map (λ (name : NetName). (name, net)) (λ named. passes (line named)) names) in
    sym (ap (option_map (λ (line : NameLine). line.name)) (ap (find passes) (sym c.names_of-names.ensures) ∙ found
    ∙ ap (λ (name : Option NetName). option_map line (option_map (λ (name : NetName). (name, net)) name)) (find-no_position (λ (name : NetName). (name.x == c.args.at.x) && (name.y == c.args.at.y)) names (sym c.in-None.ensures))))

pub returns-in-Some : goal.returns-in-Some
returns-in-Some c =
    let line = name_line c.args.db.now.texts in
    let net = c.args.net in
    let names = c.names_of-names.result.now in
    let passes = is_at c.args.at.x c.args.at.y in
    let item = get_or names c.in-Some.index c.index-names-index.result in
    let is_here : NetName → Bool = λ name. (name.x == c.args.at.x) && (name.y == c.args.at.y) in
    let first : position is_here names ≡ Some c.in-Some.index = sym c.in-Some.ensures in
    let found = find-map line passes (names_with net names) ∙ ap (option_map line) (find-map (λ (name : NetName). (name, net)) (λ named. passes (line named)) names) in
    let here = find-some is_here names c.in-Some.index item first (slice_get-get_or names c.in-Some.index c.index-names-index.result (position-below is_here names c.in-Some.index first)) in
    ap Some c.text.ensures ∙ sym (ap (option_map (λ (line : NameLine). line.name)) (ap (find passes) (sym c.names_of-names.ensures) ∙ found
    ∙ ap (λ (name : Option NetName). option_map line (option_map (λ (name : NetName). (name, net)) name)) here))
