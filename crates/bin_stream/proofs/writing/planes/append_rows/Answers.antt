use Rattle.std.proofs.Common.{◌≡◌, ◌+◌, ◌-◌, ◌*◌, ◌/◌, ◌%◌, ◌++◌, ◌∙◌, ◌≤◌, length, take, drop, length-take, length-drop, ap, rules, replicate, arith}
use Rattle.bit_plane.specs.BitList.{bytes_of}
use Rattle.bit_plane.specs.Rows.{flat}
use Rattle.ice_image.specs.Either.{configuration_of}
use Rattle.ice_image.specs.Planes.{plane_width, plane_height, rows_of_bank}
use Rattle.bin_stream.proofs.Runs.{tail_written, take-grown, row_bytes-run, whole_rows}
use Rattle.bin_stream.proofs.writing.planes.append_rows.Goals as goal

pub returns : goal.returns
returns c =
    let image = configuration_of c.args.image.now in
    let kind = c.args.kind in
    let device = c.device-device.result in
    let grid = whole_rows kind image device c.args.bank c.device-device.ensures.device c.device-device.ensures.whole c.requires.bank in
    let old = c.args.out.now.items in
    let start = c.len-start.result in
    let whole = c.deref_mut.result.now in
    let items = c.resize.new.self.items in
    let start_is : start ≡ length old = search rules in
    let grown : whole ≡ take (start + c.args.count * c.columns.result / 8) old ++ replicate (start + c.args.count * c.columns.result / 8 - c.args.out.now.len) 0 = search rules in
    let kept : take start whole ≡ old = take-grown (start + c.args.count * c.columns.result / 8) start old (replicate (start + c.args.count * c.columns.result / 8 - c.args.out.now.len) 0) whole start_is (omega arith) grown in
    let len_is : c.resize.new.self.len ≡ length items = search rules in
    let as_long : length whole ≡ length items = search rules in
    let long : length whole ≡ start + c.args.count * c.columns.result / 8 = search rules in
    let within : start ≤ length whole = omega arith in
    let rest : length c.rows.new.out ≡ length whole - start = search rules in
    let part = take (length whole - start) (drop start whole) in
    let n : length part ≡ c.args.count * plane_width kind device / 8 = omega (arith, ap (λ width. c.args.count * width / 8) c.columns.ensures, length-take (length whole - start) (drop start whole), length-drop start whole) in
    tail_written c.resize.new.self.len start old whole items c.rows.new.out len_is as_long within kept rest
    ∙ ap (λ bytes. old ++ bytes) (c.rows.ensures
    ∙ ap (λ bank. bytes_of (length part) (flat (take c.args.count (drop c.args.first (rows_of_bank kind bank image))))) c.from.ensures
    ∙ row_bytes-run (plane_width kind device) (plane_height kind device) c.args.first c.args.count (length part) (rows_of_bank kind c.args.bank image) grid (omega (arith, ap (plane_height kind) c.device-device.ensures.device)) (ap (λ d. c.args.count * plane_width kind d % 8) c.device-device.ensures.device ∙ c.requires.whole) n)
