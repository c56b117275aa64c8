use Rattle.std.proofs.Common.{◌≡◌, ◌+◌, ◌*◌, ℕ, subst, ◌∙◌, arith}
use Rattle.plane_map.specs.declared.device.DeviceName.{DeviceName}
use Rattle.ice_image.specs.Either.{configuration_of, device_of}
use Rattle.ice_gen.specs.Inside.{IsFilled, is_tile_before, turn}
use Rattle.ice_gen.proofs.cells.fill_cells.Goals as goal

pub loop-i-preserved : goal.loop-i-preserved
loop-i-preserved c =
    let x = c.args.x in
    let y = c.args.y in
    let i = c.loop-i.i in
    let Filled : DeviceName → ℕ → ℕ → Type 0 = λ device seed n. IsFilled device seed (is_tile_before n) (configuration_of c.fill_cell.new.image) in
    let next : turn x y (2 * i + 2) 0 ≡ turn x y (2 * (i + 1)) 0 = omega arith in
    let by_seed = subst (λ seed. Filled (device_of c.loop-i.image) seed (turn x y (2 * i + 2) 0)) c.loop-i.invariant.1 c.fill_cell.ensures.filled in
    let by_device = subst (λ device. Filled device c.args.draws.now.seed (turn x y (2 * i + 2) 0)) c.loop-i.invariant.0 by_seed in (
      c.fill_cell.ensures.device ∙ c.loop-i.invariant.0,
      c.fill_cell.ensures.seed ∙ c.loop-i.invariant.1,
      omega (arith, c.fill_cell.ensures.count, c.loop-i.invariant.2),
      subst (Filled (device_of c.args.image.now) c.args.draws.now.seed) next by_device,
    )

pub returns-clause-filled : goal.returns-clause-filled
returns-clause-filled c =
    let all : c.loop-i.i ≡ 8 = omega arith in
    subst (λ i. IsFilled (device_of c.args.image.now) c.args.draws.now.seed (is_tile_before (turn c.args.x c.args.y (2 * i) 0)) (configuration_of c.loop-i.image)) all c.loop-i.invariant.3
