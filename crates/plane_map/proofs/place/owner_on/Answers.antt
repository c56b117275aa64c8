use Rattle.std.proofs.Common.{sym, ◌∙◌}
use Rattle.plane_map.proofs.Owners.{Holds, holds-parts, owner-place, owner-only, extra-past, extra-corner, extra-between, turned-found}
use Rattle.plane_map.proofs.place.owner_on.Goals as goal

pub returns-in_err-column-clause-owner : goal.returns-in_err-column-clause-owner
returns-in_err-column-clause-owner c = rw c.from_residual.ensures (extra-past c.args.layout.now c.device-device.ensures.layout c.args.at c.in_err-column.ensures.none)

pub returns-in_err-kind-clause-owner : goal.returns-in_err-kind-clause-owner
returns-in_err-kind-clause-owner c =
    let layout = c.args.layout.now in
    let x = rw c.device-device.ensures.device at c.x_at-x.ensures in
    let y = rw c.device-device.ensures.device at c.y_at-y.ensures in
    let column = c.in_ok-column in
    let kind = rw c.device-device.ensures.device at c.kind_on.ensures.kind in
    let holds : Holds layout c.args.at c.x_at-x.result c.y_at-y.result column.column.inner_px =
    holds-parts layout c.args.at c.quarter-quarter.result c.quarter-quarter.ensures.in_grid c.quarter-quarter.ensures.value column.column.distance column.column.width column.column.inner_px
    column.ensures.width column.ensures.in_column column.ensures.value c.x_at-x.result c.y_at-y.result x.in_grid x.half x.distance y.in_grid y.half y.distance
    in
    rw c.from_residual-in_err-kind.ensures (extra-corner layout c.device-device.ensures.layout c.args.at _ _ _ holds (sym kind ∙ c.in_err-kind.was))

pub returns-in_err-col-clause-owner : goal.returns-in_err-col-clause-owner
returns-in_err-col-clause-owner c =
    let layout = c.args.layout.now in
    let x = rw c.device-device.ensures.device at c.x_at-x.ensures in
    let y = rw c.device-device.ensures.device at c.y_at-y.ensures in
    let column = c.in_ok-column in
    let holds : Holds layout c.args.at c.x_at-x.result c.y_at-y.result column.column.inner_px =
    holds-parts layout c.args.at c.quarter-quarter.result c.quarter-quarter.ensures.in_grid c.quarter-quarter.ensures.value column.column.distance column.column.width column.column.inner_px
    column.ensures.width column.ensures.in_column column.ensures.value c.x_at-x.result c.y_at-y.result x.in_grid x.half x.distance y.in_grid y.half y.distance
    in
    let inner = turned-found layout c.x_at-x.result c.y_at-y.result column.column.distance column.column.width column.column.inner_px c.turned-inner.result c.is_mirrored.result
    c.is_mirrored.ensures column.ensures.width x.distance c.turned-inner.ensures.value
    in
    rw c.from_residual-in_err-col.ensures (extra-between layout c.device-device.ensures.layout c.args.at _ _ _ _ holds inner c.in_err-col.ensures)

pub returns : goal.returns
returns c =
    let layout = c.args.layout.now in
    let x = rw c.device-device.ensures.device at c.x_at-x.ensures in
    let y = rw c.device-device.ensures.device at c.y_at-y.ensures in
    let column = c.in_ok-column in
    let holds : Holds layout c.args.at c.x_at-x.result c.y_at-y.result column.column.inner_px =
    holds-parts layout c.args.at c.quarter-quarter.result c.quarter-quarter.ensures.in_grid c.quarter-quarter.ensures.value column.column.distance column.column.width column.column.inner_px
    column.ensures.width column.ensures.in_column column.ensures.value c.x_at-x.result c.y_at-y.result x.in_grid x.half x.distance y.in_grid y.half y.distance
    in
    let inner = turned-found layout c.x_at-x.result c.y_at-y.result column.column.distance column.column.width column.column.inner_px c.turned-inner.result c.is_mirrored.result
    c.is_mirrored.ensures column.ensures.width x.distance c.turned-inner.ensures.value
    in
    let row = c.row_at-row.ensures in
    let found = owner-place layout c.device-device.ensures.layout c.args.at _ _ _ _ _ _ holds inner (row.in_tile, row.value) c.in_ok-col.ensures in
    record { owner = found; only = owner-only layout c.device-device.ensures.layout c.args.at _ found.0 found.1 }
