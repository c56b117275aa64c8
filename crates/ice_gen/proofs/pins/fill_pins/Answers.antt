use Rattle.std.proofs.Common.{◌≡◌, ℕ, ◌+◌, ◌∙◌, subst, arith}
use Rattle.plane_map.specs.declared.device.DeviceName.{DeviceName}
use Rattle.ice_image.specs.Either.{configuration_of, device_of}
use Rattle.ice_gen.specs.Inside.{Fills, IsFilled, is_tile_before, turn}
use Rattle.ice_gen.proofs.pins.fill_pins.Goals as goal

pub loop-row-preserved : goal.loop-row-preserved
loop-row-preserved c =
    let x = c.args.x in
    let y = c.args.y in
    let row = c.loop-row.row in
    let P : DeviceName → Type 0 = λ d. Fills d (turn x y row 0) (turn x y (row + 1) 0) (configuration_of c.loop-row.image) (configuration_of c.fill_row.new.image) in
    let next : P (device_of c.args.image.now) = subst P c.loop-row.invariant.0 c.fill_row.ensures.filled in
    (c.fill_row.ensures.device ∙ c.loop-row.invariant.0, λ seed filled. next seed (c.loop-row.invariant.1 seed filled))

pub returns-clause-filled : goal.returns-clause-filled
returns-clause-filled c =
    let last : c.loop-row.row ≡ 16 = omega arith in
    λ seed filled.
    let P : ℕ → Type 0 = λ n. IsFilled (device_of c.args.image.now) seed (is_tile_before (turn c.args.x c.args.y n 0)) (configuration_of c.loop-row.image) in
    subst P last (c.loop-row.invariant.1 seed filled)
