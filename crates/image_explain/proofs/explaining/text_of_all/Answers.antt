use Rattle.std.proofs.Common.{[], ◌∷◌, ◌++◌, ap, ◌∙◌}
use Rattle.text_lines.specs.Written.{text_of}
use Rattle.plane_map.specs.DeviceWords.{device_word}
use Rattle.asc_text.specs.Statements.{device_keyword}
use Rattle.asc_text.specs.Canonical.{with_word}
use Rattle.asc_text.proofs.Pieces.{lines-joined}
use Rattle.ice_image.specs.Either.{configuration_of}
use Rattle.chipdb_reader.specs.Kept.{database_in}
use Rattle.ice_image.specs.Bits.{set_extras}
use Rattle.image_explain.specs.Explained.{all_tile_lines, explained, extra_lines}
use Rattle.image_explain.proofs.explaining.text_of_all.Goals as goal

pub returns : goal.returns
unfolding explained
returns c =
    let database = database_in c.args.db.now in
    let image = configuration_of c.args.image.now in
    let device = with_word device_keyword (device_word image.layout.device) in
    let one = c.in_ok-append_device.ensures ∙ ap (λ text. text ++ text_of (with_word device_keyword (device_word c.device.result) ∷ [])) c.new-text.ensures.items ∙ ap (λ d. [] ++ text_of (with_word device_keyword (device_word d) ∷ [])) c.device.ensures.device in
    let two = lines-joined [] c.append_device.new.text.items c.append_tiles.new.text.items (device ∷ []) (all_tile_lines database image) one c.in_ok-append_tiles.ensures in
    lines-joined [] c.append_tiles.new.text.items c.append_extras.new.text.items (device ∷ all_tile_lines database image) (extra_lines database.extras (set_extras image)) two c.in_ok-append_extras.ensures
