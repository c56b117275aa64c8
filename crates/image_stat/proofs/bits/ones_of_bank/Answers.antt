use Rattle.std.proofs.Common.{ap, drop, length, take, ◌∙◌}
use Rattle.bit_plane.specs.BitList.{bytes_of}
use Rattle.bit_plane.specs.Rows.{flat}
use Rattle.plane_map.specs.Layout.{cram_height}
use Rattle.ice_image.specs.Configuration.{bank_rows}
use Rattle.ice_image.specs.Either.{configuration_of}
use Rattle.image_stat.proofs.Ones.{ones-plane}
use Rattle.image_stat.proofs.bits.ones_of_bank.Goals as goal

pub returns-clause-ones : goal.returns-clause-ones
returns-clause-ones c =
    let image = configuration_of c.args.image.now in
    let count = length c.args.bytes.now in
    c.ones_of_bytes.ensures.ones
    ∙ ones-plane image c.args.bank count _ c.device.ensures.whole c.requires.bank c.requires.bytes
    (c.rows.ensures ∙ ap (λ rows. bytes_of count (flat (take rows (drop 0 (bank_rows image.cram c.args.bank))))) (c.rows-rows.ensures ∙ ap cram_height c.device.ensures.device))
