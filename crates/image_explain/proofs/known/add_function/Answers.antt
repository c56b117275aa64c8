use Rattle.std.proofs.Common.{◌≡◌, Some, None, sym, ap, ◌∙◌, subst}
use Rattle.std.specs.Prelude.{slice_get, All, List}
use Rattle.std.specs.List.{list_any}
use Rattle.plane_map.specs.declared.tile.RowCol.{RowCol}
use Rattle.chipdb_reader.specs.Fit.{IsBitIn, IsFunctionLine}
use Rattle.chipdb_reader.specs.Kept.{database_in, function_line}
use Rattle.image_explain.specs.Items.{is_bit, is_in_function}
use Rattle.image_explain.proofs.Boards.{Adds-none, Adds-same}
use Rattle.image_explain.proofs.Gathered.{all-found, line-found, line-missing}
use Rattle.image_explain.proofs.TileKinds.{on-board}
use Rattle.image_explain.proofs.known.add_function.Goals as goal

pub add_bits-requires-clause-inside : goal.add_bits-requires-clause-inside
add_bits-requires-clause-inside c =
    let found : slice_get c.args.db.now.functions c.args.place ≡ Some c.in-Some.function = cc (c.in-Some.ensures, c.functions.ensures.functions) in
    let fit = all-found IsFunctionLine (function_line c.args.db.now.texts c.args.db.now.bits) c.args.db.now.functions c.args.place c.in-Some.function c.functions.ensures.fit.functions found in
    subst (λ (bits : List RowCol). All (IsBitIn 54) bits) (sym c.bits.ensures.bits) (on-board c.in-Some.function.kind _ fit.bits_in)

pub returns-in-None : goal.returns-in-None
returns-in-None c =
    let missing : slice_get c.args.db.now.functions c.args.place ≡ None = cc (c.in-None.ensures, c.functions.ensures.functions) in
    Adds-none c.args.known.now _ c.requires (λ row col. ap (is_in_function row col) (line-missing (function_line c.args.db.now.texts c.args.db.now.bits) c.args.db.now.functions c.args.place missing))

pub returns-in-Some : goal.returns-in-Some
returns-in-Some c =
    let found : slice_get c.args.db.now.functions c.args.place ≡ Some c.in-Some.function = cc (c.in-Some.ensures, c.functions.ensures.functions) in
    Adds-same c.args.known.now _ (λ row col. is_in_function row col (slice_get (database_in c.args.db.now).functions c.args.place)) c.add_bits.new.known c.add_bits.ensures
    (λ row col. ap (is_in_function row col) (line-found (function_line c.args.db.now.texts c.args.db.now.bits) c.args.db.now.functions c.args.place c.in-Some.function found) ∙ ap (list_any (is_bit row col)) (sym c.bits.ensures.bits))
