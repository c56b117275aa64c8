use Rattle.std.proofs.Common.{◌≡◌, ◌+◌, ◌*◌, ◌<◌, ap, sym, ◌∙◌, arith}
use Rattle.std.specs.Prelude.{Some, None}
use Rattle.plane_map.specs.Layout.{kind_of}
use Rattle.plane_map.specs.declared.tile.TileKind.TheVariants.{Io, Logic, RamB, RamT}
use Rattle.ice_image.specs.Either.{configuration_of, device_of}
use Rattle.ice_gen.specs.Numbers.{cells}
use Rattle.ice_gen.proofs.Before.{ram-more, ram-number, ram-same}
use Rattle.plane_map.proofs.Grids.{grid_width-le}
use Rattle.ice_gen.proofs.Filled.{skip-ram}
use Rattle.ice_gen.proofs.rams.fill_place.Goals as goal

pub fill_ram-requires-clause-count : goal.fill_ram-requires-clause-count
fill_ram-requires-clause-count c =
    let device = device_of c.args.image.now in
    let there : kind_of device c.args.x c.args.y ≡ Some RamB = cc (c.in-Some-RamB.ensures.kind, c.device.ensures.device, c.from.ensures, c.from-2.ensures) in
    c.requires.count ∙ ap (λ n. 2 * cells device + 256 * n) (ram-number device c.args.x c.args.y there)

pub returns-in-Some-RamB-clause-count : goal.returns-in-Some-RamB-clause-count
returns-in-Some-RamB-clause-count c =
    let device = device_of c.args.image.now in
    let there : kind_of device c.args.x c.args.y ≡ Some RamB = cc (c.in-Some-RamB.ensures.kind, c.device.ensures.device, c.from.ensures, c.from-2.ensures) in
    omega (arith, c.fill_ram.ensures.count, c.requires.count, ram-more device c.args.x c.args.y there)

pub returns-in-Some-Io-clause-count : goal.returns-in-Some-Io-clause-count
returns-in-Some-Io-clause-count c =
    let device = device_of c.args.image.now in
    let there : kind_of device c.args.x c.args.y ≡ Some Io = cc (c.in-Some-Io.ensures.kind, c.device.ensures.device, c.from.ensures, c.from-2.ensures) in
    c.requires.count ∙ ap (λ n. 2 * cells device + 256 * n) (sym (ram-same device c.args.x c.args.y c.requires.database c.requires.column c.requires.row (λ e. cc (sym there ∙ e))))

pub returns-in-Some-Io-clause-filled : goal.returns-in-Some-Io-clause-filled
returns-in-Some-Io-clause-filled c =
    let device = device_of c.args.image.now in
    let there : kind_of device c.args.x c.args.y ≡ Some Io = cc (c.in-Some-Io.ensures.kind, c.device.ensures.device, c.from.ensures, c.from-2.ensures) in
    let near : c.args.x < 34 = omega (arith, c.requires.column, grid_width-le device) in
    skip-ram device c.args.draws.now.seed (configuration_of c.args.image.now) c.args.x c.args.y near (λ e. cc (sym there ∙ e)) c.requires.filled

pub returns-in-Some-Logic-clause-count : goal.returns-in-Some-Logic-clause-count
returns-in-Some-Logic-clause-count c =
    let device = device_of c.args.image.now in
    let there : kind_of device c.args.x c.args.y ≡ Some Logic = cc (c.in-Some-Logic.ensures.kind, c.device.ensures.device, c.from.ensures, c.from-2.ensures) in
    c.requires.count ∙ ap (λ n. 2 * cells device + 256 * n) (sym (ram-same device c.args.x c.args.y c.requires.database c.requires.column c.requires.row (λ e. cc (sym there ∙ e))))

pub returns-in-Some-Logic-clause-filled : goal.returns-in-Some-Logic-clause-filled
returns-in-Some-Logic-clause-filled c =
    let device = device_of c.args.image.now in
    let there : kind_of device c.args.x c.args.y ≡ Some Logic = cc (c.in-Some-Logic.ensures.kind, c.device.ensures.device, c.from.ensures, c.from-2.ensures) in
    let near : c.args.x < 34 = omega (arith, c.requires.column, grid_width-le device) in
    skip-ram device c.args.draws.now.seed (configuration_of c.args.image.now) c.args.x c.args.y near (λ e. cc (sym there ∙ e)) c.requires.filled

pub returns-in-Some-RamT-clause-count : goal.returns-in-Some-RamT-clause-count
returns-in-Some-RamT-clause-count c =
    let device = device_of c.args.image.now in
    let there : kind_of device c.args.x c.args.y ≡ Some RamT = cc (c.in-Some-RamT.ensures.kind, c.device.ensures.device, c.from.ensures, c.from-2.ensures) in
    c.requires.count ∙ ap (λ n. 2 * cells device + 256 * n) (sym (ram-same device c.args.x c.args.y c.requires.database c.requires.column c.requires.row (λ e. cc (sym there ∙ e))))

pub returns-in-Some-RamT-clause-filled : goal.returns-in-Some-RamT-clause-filled
returns-in-Some-RamT-clause-filled c =
    let device = device_of c.args.image.now in
    let there : kind_of device c.args.x c.args.y ≡ Some RamT = cc (c.in-Some-RamT.ensures.kind, c.device.ensures.device, c.from.ensures, c.from-2.ensures) in
    let near : c.args.x < 34 = omega (arith, c.requires.column, grid_width-le device) in
    skip-ram device c.args.draws.now.seed (configuration_of c.args.image.now) c.args.x c.args.y near (λ e. cc (sym there ∙ e)) c.requires.filled

pub returns-in-None-clause-count : goal.returns-in-None-clause-count
returns-in-None-clause-count c =
    let device = device_of c.args.image.now in
    let there : kind_of device c.args.x c.args.y ≡ None = cc (c.in-None.ensures.kind, c.device.ensures.device, c.from.ensures, c.from-2.ensures) in
    c.requires.count ∙ ap (λ n. 2 * cells device + 256 * n) (sym (ram-same device c.args.x c.args.y c.requires.database c.requires.column c.requires.row (λ e. cc (sym there ∙ e))))

pub returns-in-None-clause-filled : goal.returns-in-None-clause-filled
returns-in-None-clause-filled c =
    let device = device_of c.args.image.now in
    let there : kind_of device c.args.x c.args.y ≡ None = cc (c.in-None.ensures.kind, c.device.ensures.device, c.from.ensures, c.from-2.ensures) in
    let near : c.args.x < 34 = omega (arith, c.requires.column, grid_width-le device) in
    skip-ram device c.args.draws.now.seed (configuration_of c.args.image.now) c.args.x c.args.y near (λ e. cc (sym there ∙ e)) c.requires.filled
