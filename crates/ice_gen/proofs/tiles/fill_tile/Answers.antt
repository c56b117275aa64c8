use Rattle.std.proofs.Common.{◌≡◌, ◌+◌, ◌*◌, ap, sym, ◌∙◌, refl, subst, ℕ, arith}
use Rattle.std.specs.Prelude.{Some, None}
use Rattle.plane_map.specs.Layout.{kind_of}
use Rattle.plane_map.specs.declared.tile.TileKind.TheVariants.{Io, Logic, RamB, RamT}
use Rattle.ice_image.specs.Either.{configuration_of, device_of}
use Rattle.ice_gen.specs.Inside.{IsFilled, is_tile_before, turn}
use Rattle.ice_gen.proofs.Before.{logic-more, logic-number, logic-same}
use Rattle.ice_gen.proofs.Filled.{skip-kind}
use Rattle.ice_gen.proofs.tiles.fill_tile.Goals as goal

pub fill_cells-requires-clause-count : goal.fill_cells-requires-clause-count
fill_cells-requires-clause-count c =
    let device = device_of c.args.image.now in
    let there : kind_of device c.args.x c.args.y ≡ Some Logic = cc (c.in-Some-Logic.ensures.kind, c.device.ensures.device, c.from.ensures, c.from-2.ensures) in
    c.requires.count ∙ logic-number device c.args.x c.args.y there

pub returns-in-Some-Logic-clause-count : goal.returns-in-Some-Logic-clause-count
returns-in-Some-Logic-clause-count c =
    let device = device_of c.args.image.now in
    let there : kind_of device c.args.x c.args.y ≡ Some Logic = cc (c.in-Some-Logic.ensures.kind, c.device.ensures.device, c.from.ensures, c.from-2.ensures) in
    omega (arith, c.fill_cells.ensures.count, c.requires.count, logic-more device c.args.x c.args.y c.requires.database there)

pub returns-in-Some-Io-clause-count : goal.returns-in-Some-Io-clause-count
returns-in-Some-Io-clause-count c =
    let device = device_of c.args.image.now in
    let there : kind_of device c.args.x c.args.y ≡ Some Io = cc (c.in-Some-Io.ensures.kind, c.device.ensures.device, c.from.ensures, c.from-2.ensures) in
    c.requires.count ∙ ap (λ n. 16 * n) (sym (logic-same device c.args.x c.args.y c.requires.database c.requires.column c.requires.row (λ e. cc (sym there ∙ e))))

pub returns-in-Some-Io-clause-filled : goal.returns-in-Some-Io-clause-filled
returns-in-Some-Io-clause-filled c =
    let device = device_of c.args.image.now in
    let seed = c.args.draws.now.seed in
    let P : ℕ → Type 0 = λ n. IsFilled device seed (is_tile_before n) (configuration_of c.fill_pins.new.image) in
    let same : turn c.args.x c.args.y 16 0 ≡ turn (c.args.x + 1) c.args.y 0 0 = omega arith in
    subst P same (c.fill_pins.ensures.filled seed c.requires.filled)

pub returns-in-Some-RamB-clause-count : goal.returns-in-Some-RamB-clause-count
returns-in-Some-RamB-clause-count c =
    let device = device_of c.args.image.now in
    let there : kind_of device c.args.x c.args.y ≡ Some RamB = cc (c.in-Some-RamB.ensures.kind, c.device.ensures.device, c.from.ensures, c.from-2.ensures) in
    c.requires.count ∙ ap (λ n. 16 * n) (sym (logic-same device c.args.x c.args.y c.requires.database c.requires.column c.requires.row (λ e. cc (sym there ∙ e))))

pub returns-in-Some-RamB-clause-filled : goal.returns-in-Some-RamB-clause-filled
returns-in-Some-RamB-clause-filled c =
    let device = device_of c.args.image.now in
    let there : kind_of device c.args.x c.args.y ≡ Some RamB = cc (c.in-Some-RamB.ensures.kind, c.device.ensures.device, c.from.ensures, c.from-2.ensures) in
    skip-kind device c.args.draws.now.seed (configuration_of c.args.image.now) c.args.x c.args.y (Some RamB) c.requires.column there (λ row col. refl) c.requires.filled

pub returns-in-Some-RamT-clause-count : goal.returns-in-Some-RamT-clause-count
returns-in-Some-RamT-clause-count c =
    let device = device_of c.args.image.now in
    let there : kind_of device c.args.x c.args.y ≡ Some RamT = cc (c.in-Some-RamT.ensures.kind, c.device.ensures.device, c.from.ensures, c.from-2.ensures) in
    c.requires.count ∙ ap (λ n. 16 * n) (sym (logic-same device c.args.x c.args.y c.requires.database c.requires.column c.requires.row (λ e. cc (sym there ∙ e))))

pub returns-in-Some-RamT-clause-filled : goal.returns-in-Some-RamT-clause-filled
returns-in-Some-RamT-clause-filled c =
    let device = device_of c.args.image.now in
    let there : kind_of device c.args.x c.args.y ≡ Some RamT = cc (c.in-Some-RamT.ensures.kind, c.device.ensures.device, c.from.ensures, c.from-2.ensures) in
    skip-kind device c.args.draws.now.seed (configuration_of c.args.image.now) c.args.x c.args.y (Some RamT) c.requires.column there (λ row col. refl) c.requires.filled

pub returns-in-None-clause-count : goal.returns-in-None-clause-count
returns-in-None-clause-count c =
    let device = device_of c.args.image.now in
    let there : kind_of device c.args.x c.args.y ≡ None = cc (c.in-None.ensures.kind, c.device.ensures.device, c.from.ensures, c.from-2.ensures) in
    c.requires.count ∙ ap (λ n. 16 * n) (sym (logic-same device c.args.x c.args.y c.requires.database c.requires.column c.requires.row (λ e. cc (sym there ∙ e))))

pub returns-in-None-clause-filled : goal.returns-in-None-clause-filled
returns-in-None-clause-filled c =
    let device = device_of c.args.image.now in
    let there : kind_of device c.args.x c.args.y ≡ None = cc (c.in-None.ensures.kind, c.device.ensures.device, c.from.ensures, c.from-2.ensures) in
    skip-kind device c.args.draws.now.seed (configuration_of c.args.image.now) c.args.x c.args.y (None) c.requires.column there (λ row col. refl) c.requires.filled

pub returns-in-Some-Logic-clause-filled : goal.returns-in-Some-Logic-clause-filled
returns-in-Some-Logic-clause-filled c =
    let P : ℕ → Type 0 = λ n. IsFilled (device_of c.args.image.now) c.args.draws.now.seed (is_tile_before n) (configuration_of c.fill_cells.new.image) in
    let same : turn c.args.x c.args.y 16 0 ≡ turn (c.args.x + 1) c.args.y 0 0 = omega arith in
    subst P same c.fill_cells.ensures.filled
