use Rattle.std.proofs.Common.{◌≡◌, Some, None, length, sym, ap, ◌∙◌, subst}
use Rattle.std.specs.Prelude.{slice_get, All, List}
use Rattle.plane_map.specs.declared.tile.RowCol.{RowCol}
use Rattle.bit_plane.specs.BitList.{word_bits}
use Rattle.chipdb_reader.specs.Fit.{IsBitIn, IsLink}
use Rattle.chipdb_reader.specs.Kept.{link_line, link_lines}
use Rattle.image_explain.specs.Items.{is_one_in, is_one_of}
use Rattle.image_explain.proofs.Boards.{Adds-none, Adds-same}
use Rattle.image_explain.proofs.Gathered.{all-found, line-found, line-missing}
use Rattle.image_explain.proofs.TileKinds.{on-board}
use Rattle.image_explain.proofs.known.add_link.Goals as goal

pub add_ones-requires-clause-inside : goal.add_ones-requires-clause-inside
add_ones-requires-clause-inside c =
    let found : slice_get c.args.links.now c.args.place ≡ Some c.in-Some.link = cc c.in-Some.ensures in
    let fit = all-found (IsLink c.args.db.now.chip) (link_line c.args.db.now.bits) c.args.links.now c.args.place c.in-Some.link c.requires.fit found in
    subst (λ (bits : List RowCol). All (IsBitIn 54) bits) (sym c.bits.ensures.bits) (on-board fit.kind _ fit.bits_in)

pub returns-in-None : goal.returns-in-None
returns-in-None c =
    let missing : slice_get c.args.links.now c.args.place ≡ None = cc c.in-None.ensures in
    Adds-none c.args.known.now _ c.requires.grid (λ row col. ap (is_one_in row col) (line-missing (link_line c.args.db.now.bits) c.args.links.now c.args.place missing))

pub returns-in-Some : goal.returns-in-Some
returns-in-Some c =
    let found : slice_get c.args.links.now c.args.place ≡ Some c.in-Some.link = cc c.in-Some.ensures in
    Adds-same c.args.known.now _ (λ row col. is_one_in row col (slice_get (link_lines c.args.db.now.bits c.args.links.now) c.args.place)) c.add_ones.new.known c.add_ones.ensures
    (λ row col. ap (is_one_in row col) (line-found (link_line c.args.db.now.bits) c.args.links.now c.args.place c.in-Some.link found) ∙ ap (λ (bits : List RowCol). is_one_of row col bits (word_bits (length bits) c.in-Some.link.values)) (sym c.bits.ensures.bits))
