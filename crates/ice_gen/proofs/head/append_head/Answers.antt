use Rattle.std.proofs.Common.{List, ℕ, [], ◌∷◌, ◌++◌}
use Rattle.std.specs.Prelude.{codes}
use Rattle.std.proofs.lemmas.Result.{on_ok_weaker}
use Rattle.index_search.specs.Places.{gathered_below}
use Rattle.asc_text.proofs.Pieces.{lines-joined}
use Rattle.ice_gen.specs.Database.{cell_line, device_line, head_lines, pad_drive_line, pin_type_line}
use Rattle.ice_gen.proofs.head.append_head.Goals as goal

pub returns : goal.returns
unfolding head_lines
returns c =
    let device = c.args.device in
    let old = c.args.text.now.items in
    let t1 = c.append_device.new.text.items in
    let t2 = c.append_line.new.text.items in
    let t3 = c.append_line-2.new.text.items in
    let t4 = c.append_line-3.new.text.items in
    let t5 = c.append_pin_types.new.text.items in
    let t6 = c.append_line-4.new.text.items in
    let t7 = c.append_cells.new.text.items in
    let t8 = c.append_line-5.new.text.items in
    let pins : List (List ℕ) = gathered_below 6 (λ k. pin_type_line k ∷ []) in
    let cells : List (List ℕ) = gathered_below 8 (λ i. cell_line i ∷ []) in
    let first : List (List ℕ) = device_line device ∷ codes ".gbufpin" ∷ codes "0 1 0 0" ∷ codes ".io_tile_bits 18 16" ∷ [] in
    let two = lines-joined old t1 t2 (device_line device ∷ []) (codes ".gbufpin" ∷ []) c.in_ok-append_device.ensures c.in_ok-append_line.ensures in
    let three = lines-joined old t2 t3 (device_line device ∷ codes ".gbufpin" ∷ []) (codes "0 1 0 0" ∷ []) two c.in_ok-append_line-2.ensures in
    let four = lines-joined old t3 t4 (device_line device ∷ codes ".gbufpin" ∷ codes "0 1 0 0" ∷ []) (codes ".io_tile_bits 18 16" ∷ []) three c.in_ok-append_line-3.ensures in
    let five = lines-joined old t4 t5 first pins four c.in_ok-append_pin_types.ensures in
    let seven = lines-joined t5 t6 t7 (codes ".logic_tile_bits 54 16" ∷ []) cells c.in_ok-append_line-4.ensures c.in_ok-append_cells.ensures in
    let most = lines-joined old t5 t7 (first ++ pins) (codes ".logic_tile_bits 54 16" ∷ cells) five seven in
    on_ok_weaker c.append_pad_drive.result (λ last.
    lines-joined old t7 c.append_pad_drive.new.text.items (first ++ pins ++ codes ".logic_tile_bits 54 16" ∷ cells) (codes ".extra_bits" ∷ pad_drive_line device ∷ []) most
    (lines-joined t7 t8 c.append_pad_drive.new.text.items (codes ".extra_bits" ∷ []) (pad_drive_line device ∷ []) c.in_ok-append_line-5.ensures last)) c.append_pad_drive.ensures
