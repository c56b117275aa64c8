use Rattle.std.proofs.Common.{[], ◌∷◌, ◌++◌, map, ap, ◌∙◌}
use Rattle.text_lines.specs.Written.{text_of}
use Rattle.plane_map.specs.DeviceWords.{device_word}
use Rattle.asc_text.specs.Statements.{device_keyword, tile_keyword}
use Rattle.asc_text.specs.Canonical.{grid_line, with_word}
use Rattle.asc_text.proofs.Pieces.{lines-joined}
use Rattle.ice_image.specs.Either.{configuration_of}
use Rattle.chipdb_reader.specs.Kept.{database_in}
use Rattle.image_explain.specs.Explained.{item_line, tile_lines}
use Rattle.image_explain.proofs.Texts.{items-there}
use Rattle.image_explain.proofs.explaining.text_of_tile.Goals as goal

pub returns : goal.returns
unfolding tile_lines
returns c =
    let database = database_in c.args.db.now in
    let image = configuration_of c.args.image.now in
    let x = c.args.at.x in
    let y = c.args.at.y in
    let device = with_word device_keyword (device_word image.layout.device) in
    let one = c.in_ok-append_device.ensures ∙ ap (λ text. text ++ text_of (with_word device_keyword (device_word c.device.result) ∷ [])) c.new-text.ensures.items ∙ ap (λ d. [] ++ text_of (with_word device_keyword (device_word d) ∷ [])) c.device.ensures.device in
    let items = c.deref-2.ensures.value ∙ c.in_ok-items.ensures ∙ items-there database image x y c.args.at.kind c.requires.tile in
    lines-joined [] c.append_device.new.text.items c.append_tile.new.text.items (device ∷ []) _ one c.in_ok-append_tile.ensures
    ∙ ap (λ items. [] ++ text_of (device ∷ grid_line (tile_keyword c.args.at.kind) x y ∷ map (item_line database x y) items)) items
