use Rattle.std.proofs.Common.{◌≡◌, Some, sym, subst}
use Rattle.std.specs.Prelude.{slice_get, All, List}
use Rattle.plane_map.specs.declared.tile.RowCol.{RowCol}
use Rattle.chipdb_reader.specs.Fit.{IsBitIn, IsFunctionLine}
use Rattle.chipdb_reader.specs.Kept.{function_line}
use Rattle.image_explain.proofs.Gathered.{all-found}
use Rattle.image_explain.proofs.TileKinds.{on-board}
use Rattle.image_explain.proofs.cells.Cells.bits.Goals as goal

pub returns-in-Some-function_at-clause-inside : goal.returns-in-Some-function_at-clause-inside
returns-in-Some-function_at-clause-inside c =
    let function = c.in-Some-function_at.function in
    let found : slice_get c.args.db.now.functions c.in-Some.place ≡ Some function = cc (c.in-Some-function_at.ensures, c.functions.ensures.functions) in
    let fit = all-found IsFunctionLine (function_line c.args.db.now.texts c.args.db.now.bits) c.args.db.now.functions c.in-Some.place function c.functions.ensures.fit.functions found in
    subst (λ (bits : List RowCol). All (IsBitIn 54) bits) (sym c.bits.ensures.bits) (on-board function.kind _ fit.bits_in)
