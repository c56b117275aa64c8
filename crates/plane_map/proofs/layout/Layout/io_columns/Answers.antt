use Rattle.std.proofs.Common.{◌≡◌, ◌||◌, Bool, true, false, not, refl, sym, ◌∙◌, subst, arith}
use Rattle.plane_map.specs.Layout.{is_end, is_side}
use Rattle.plane_map.proofs.Offsets.{entry-below, places-from}
use Rattle.plane_map.proofs.RunPlaces.{end-columns, end-length, run_length-few, side-columns, side-length}
use Rattle.plane_map.proofs.layout.Layout.io_columns.Goals as goal

-- an io tile that isn't in the left or the right edge is in an end row
is_end-from : (side end is_io : Bool) → is_io ≡ (side || end) → not is_io ≡ false → side ≡ false → end ≡ true
is_end-from true end is_io is_is is inner = absurd cc
is_end-from false true is_io is_is is inner = refl
is_end-from false false true is_is is inner = absurd cc
is_end-from false false false is_is is inner = absurd cc

pub returns-then-not-runs-clause-few : goal.returns-then-not-runs-clause-few
returns-then-not-runs-clause-few c = omega (arith, c.requires.length, run_length-few c.args.self.now.device c.args.runs.x c.args.runs.y)

pub returns-then-on_side-clause-eighteen : goal.returns-then-on_side-clause-eighteen
returns-then-on_side-clause-eighteen c =
    let side : is_side c.args.self.now.device c.args.runs.x ≡ true = subst (λ l. is_side l.device c.args.runs.x ≡ true) c.self.view_is (sym c.on_side.ensures ∙ c.if-on_side.true) in
    side-columns c.args.self.now.device c.args.runs.x c.args.runs.y side c.requires.some

pub returns-then-on_side-clause-within : goal.returns-then-on_side-clause-within
returns-then-on_side-clause-within c col within =
    let side : is_side c.args.self.now.device c.args.runs.x ≡ true = subst (λ l. is_side l.device c.args.runs.x ≡ true) c.self.view_is (sym c.on_side.ensures ∙ c.if-on_side.true) in
    omega (arith, c.requires.length, side-length c.args.self.now.device c.args.runs.x c.args.runs.y side, entry-below c.self.inside.side_columns 18 18 (places-from c.self.inside.side_columns 18 18 c.self.invariant.layout.side_columns) col within)

pub returns-then-on_side-clause-few : goal.returns-then-on_side-clause-few
returns-then-on_side-clause-few c = omega (arith, c.requires.length, run_length-few c.args.self.now.device c.args.runs.x c.args.runs.y)

pub returns-else-on_side-clause-eighteen : goal.returns-else-on_side-clause-eighteen
returns-else-on_side-clause-eighteen c =
    let device = c.args.self.now.device in
    let runs = c.args.runs in
    let inner : is_side device runs.x ≡ false = subst (λ l. is_side l.device runs.x ≡ false) c.self.view_is (sym c.on_side.ensures ∙ c.if-on_side.false) in
    end-columns device runs.x runs.y (is_end-from (is_side device runs.x) (is_end device runs.y) runs.is_io c.requires.is_io c.if-not-runs.false inner) c.requires.some

pub returns-else-on_side-clause-within : goal.returns-else-on_side-clause-within
returns-else-on_side-clause-within c col within =
    let device = c.args.self.now.device in
    let runs = c.args.runs in
    let inner : is_side device runs.x ≡ false = subst (λ l. is_side l.device runs.x ≡ false) c.self.view_is (sym c.on_side.ensures ∙ c.if-on_side.false) in
    let long = end-length device runs.x runs.y inner (is_end-from (is_side device runs.x) (is_end device runs.y) runs.is_io c.requires.is_io c.if-not-runs.false inner) in
    omega (arith, c.requires.length, long, entry-below c.self.inside.pad_columns 18 42 (places-from c.self.inside.pad_columns 18 42 c.self.invariant.layout.pad_columns) col within)

pub returns-else-on_side-clause-few : goal.returns-else-on_side-clause-few
returns-else-on_side-clause-few c = omega (arith, c.requires.length, run_length-few c.args.self.now.device c.args.runs.x c.args.runs.y)
