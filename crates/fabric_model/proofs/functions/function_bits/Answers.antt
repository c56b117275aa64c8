use Rattle.std.proofs.Common.{◌≡◌, List, length, arith, sym, ap, ◌∙◌, get_or, subst}
use Rattle.std.specs.Prelude.{Option, Some, All}
use Rattle.std.specs.Option.{option_map}
use Rattle.plane_map.specs.declared.tile.RowCol.{RowCol}
use Rattle.plane_map.specs.Layout.{columns_of}
use Rattle.chipdb_reader.specs.Fit.{IsBitIn}
use Rattle.chipdb_lines.specs.Items.{FunctionLine}
use Rattle.chipdb_lines.specs.Kept.{bits_named}
use Rattle.chipdb_reader.specs.declared.items.Function.{Function}
use Rattle.chipdb_reader.specs.Lookups.{function_place}
use Rattle.chipdb_reader.specs.Kept.{function_lines}
use Rattle.fabric_model.proofs.Listed.{IsFound, is_found, place_inside, not_found}
use Rattle.fabric_model.proofs.functions.function_bits.Goals as goal

-- if it was found
placed : (c : goal.After-functions) → function_place c.args.kind c.args.name.now (function_lines c.args.db.now.texts c.args.db.now.bits c.args.db.now.functions) ≡ Some c.in-Some.place
placed c = sym c.function.ensures ∙ c.in-Some.is

pub bounds-functions-place : goal.bounds-functions-place
bounds-functions-place c =
    omega (arith, place_inside c.args.db.now.texts c.args.db.now.bits c.args.db.now.functions c.args.kind c.args.name.now c.in-Some.place (placed c), ap length c.functions.ensures.functions)

pub bounds-functions-place-in-Some : goal.bounds-functions-place-in-Some
bounds-functions-place-in-Some c =
    omega (arith, place_inside c.args.db.now.texts c.args.db.now.bits c.args.db.now.functions c.args.kind c.args.name.now c.in-Some.place (placed c), ap length c.functions.ensures.functions)

pub offset_bounds-functions-place : goal.offset_bounds-functions-place
offset_bounds-functions-place c =
    omega (arith, place_inside c.args.db.now.texts c.args.db.now.bits c.args.db.now.functions c.args.kind c.args.name.now c.in-Some.place (placed c), ap length c.functions.ensures.functions)

bits_in : Option FunctionLine → Option (List RowCol)
bits_in function = option_map (λ (f : FunctionLine). f.bits) function

pub returns-in-None-clause-bits : goal.returns-in-None-clause-bits
unfolding bits_in
returns-in-None-clause-bits c =
    let lines : List FunctionLine = function_lines c.args.db.now.texts c.args.db.now.bits c.args.db.now.functions in
    sym (ap bits_in (not_found c.args.kind c.args.name.now lines (sym c.function.ensures ∙ c.in-None.is)))

-- what was found
found : (c : goal.After-bits) → IsFound c.args.db.now.texts c.args.db.now.bits c.args.db.now.functions c.args.kind c.args.name.now c.index-functions-place.result
found c =
    is_found c.args.db.now.texts c.args.db.now.bits c.args.db.now.functions c.args.kind c.args.name.now c.in-Some.place c.index-functions-place.result
    c.functions.ensures.fit.functions (sym c.function.ensures ∙ c.in-Some.is)
    (c.index-functions-place.is ∙ ap (λ (fs : List Function). get_or fs c.in-Some.place c.index-functions-place.result) c.functions.ensures.functions)

pub returns-in-Some-clause-bits : goal.returns-in-Some-clause-bits
unfolding bits_in
returns-in-Some-clause-bits c =
    let same = ap (λ (f : Function). bits_named c.args.db.now.bits f.bits) (sym c.index-functions-place.is) in
    ap (λ (bits : List RowCol). Some bits) (c.bits.ensures.bits ∙ same) ∙ sym (ap bits_in (found c).named)

pub returns-in-Some-clause-in_tile : goal.returns-in-Some-clause-in_tile
returns-in-Some-clause-in_tile c =
    let same = ap (λ (f : Function). bits_named c.args.db.now.bits f.bits) (sym c.index-functions-place.is) in
    let Fit : List RowCol → Type 0 = λ bits. All (IsBitIn (columns_of c.args.kind)) bits in
    subst Fit (sym (c.bits.ensures.bits ∙ same)) (found c).bits_in
