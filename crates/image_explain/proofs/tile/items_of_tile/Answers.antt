use Rattle.std.proofs.Common.{◌≡◌, ℕ, Bool, ◌||◌, List, ◌++◌, map, ap, ap₂, ◌∙◌}
use Rattle.std.specs.Prelude.{slice_get}
use Rattle.std.specs.List.{list_any}
use Rattle.plane_map.specs.Layout.{columns_of}
use Rattle.ice_image.specs.Either.{configuration_of}
use Rattle.chipdb_reader.specs.Kept.{database_in}
use Rattle.image_explain.specs.declared.item.Active.TheVariants.{Function, Buffer, Routing}
use Rattle.image_explain.specs.Items.{cell_items, is_explained, is_in_cells, is_in_function, is_one_in, on_functions, on_links}
use Rattle.image_explain.proofs.TileKinds.{narrow}
use Rattle.image_explain.proofs.Texts.{unknown-same}
use Rattle.image_explain.proofs.tile.items_of_tile.Goals as goal

pub returns : goal.returns
returns c =
    let database = database_in c.args.db.now in
    let image = configuration_of c.args.image.now in
    let x = c.args.at.x in
    let y = c.args.at.y in
    let kind = c.args.at.kind in
    let functions : c.deref.result.now ≡ on_functions image x y kind database.functions = c.deref.ensures.value ∙ c.in_ok-functions.ensures in
    let functions_2 : c.deref-2.result.now ≡ on_functions image x y kind database.functions = c.deref-2.ensures.value ∙ c.in_ok-functions.ensures in
    let knows : List ℕ → List ℕ → List ℕ → ℕ → ℕ → Bool = λ fs bs rs row col.
    is_in_cells kind database row col
    || list_any (λ place. is_in_function row col (slice_get database.functions place)) fs
    || list_any (λ place. is_one_in row col (slice_get database.buffers place)) bs
    || list_any (λ place. is_one_in row col (slice_get database.routings place)) rs in
    let same : (row col : ℕ) → knows c.deref.result.now c.args.buffers.now c.args.routings.now row col ≡ is_explained database image x y kind row col = λ row col.
    ap (λ fs. knows fs c.args.buffers.now c.args.routings.now row col) functions
    ∙ ap (λ bs. knows (on_functions image x y kind database.functions) bs c.args.routings.now row col) c.requires.buffers
    ∙ ap (λ rs. knows (on_functions image x y kind database.functions) (on_links image x y database.buffers) rs row col) c.requires.routings in
    let cells = c.in_ok-push_cells.ensures ∙ ap (λ items. items ++ cell_items database image x y kind) c.new-items.ensures.items in
    let with_functions = c.in_ok-push_functions.ensures ∙ ap₂ (λ items fs. items ++ map Function fs) cells functions_2 in
    let with_buffers = c.in_ok-push_buffers.ensures ∙ ap₂ (λ items bs. items ++ map Buffer bs) with_functions c.requires.buffers in
    let with_routings = c.in_ok-push_routings.ensures ∙ ap₂ (λ items rs. items ++ map Routing rs) with_buffers c.requires.routings in
    c.in_ok-push_unknown.ensures ∙ ap₂ (λ items unknown. items ++ unknown) with_routings
    (unknown-same image x y (columns_of kind) (knows c.deref.result.now c.args.buffers.now c.args.routings.now) (is_explained database image x y kind) c.known_bits-known.result (narrow kind) c.known_bits-known.ensures same)
