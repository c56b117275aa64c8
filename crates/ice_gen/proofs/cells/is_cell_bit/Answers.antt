use Rattle.std.proofs.Common.{ℕ, ◌<◌, Bool, ◌&&◌, ◌==◌, refl, sym, ◌∙◌}
use Rattle.std.specs.Prelude.{slice_index}
use Rattle.index_search.specs.Places.{any_below}
use Rattle.index_search.proofs.Places.{any_below-at, any_below-more}
use Rattle.fabric_model.specs.Cells.{entry_bits}
use Rattle.ice_gen.specs.Image.{is_cell_bit, is_entry}
use Rattle.ice_gen.proofs.cells.is_cell_bit.Goals as goal

pub loop-k-init : goal.loop-k-init
unfolding any_below
loop-k-init c = refl

pub returns-then-is_entry_at : goal.returns-then-is_entry_at
unfolding is_cell_bit
returns-then-is_entry_at c =
    let test : ℕ → Bool = λ k. (slice_index entry_bits k == c.args.place) && is_entry c.args.lut k in
    let within : c.loop-k.k < 16 = c.loop-k-test.true in
    rw (any_below-at 16 c.loop-k.k test within (sym c.is_entry_at.ensures ∙ c.if-is_entry_at.true)) refl

pub loop-k-preserved : goal.loop-k-preserved
loop-k-preserved c =
    let test : ℕ → Bool = λ k. (slice_index entry_bits k == c.args.place) && is_entry c.args.lut k in
    any_below-more c.loop-k.k test ∙ rw (c.loop-k.invariant, sym c.is_entry_at.ensures ∙ c.if-is_entry_at.false) refl
