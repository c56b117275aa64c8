-- Each global network that drives a net has one mark.
use Rattle.std.proofs.Common.{◌≡◌, ℕ, Bool, true, false, ◌==◌, List, [], ◌∷◌, length, map, refl, sym, ap, ◌∙◌, subst, inl, inr}
use Rattle.std.specs.Prelude.{All, Option, None, Some, find, option_map, codes, if◌then◌else◌}
use Rattle.std.specs.Option.{option_and_then}
use Rattle.std.specs.List.{list_any}
use Rattle.std.proofs.lemmas.Bool.{cases_Bool, eqb-true}
use Rattle.std.proofs.lemmas.List.{length-map}
use Rattle.std.proofs.lemmas.List.Elements.{All-cons, All-head, All-nil, All-tail}
use Rattle.index_search.proofs.Gathered.{All-gathered_below}
use Rattle.index_search.proofs.Places.{gathered_below-same}
use Rattle.ice_image.specs.Configuration.{Configuration}
use Rattle.chipdb_reader.specs.Database.{Database}
use Rattle.chipdb_reader.specs.Lookups.{input_of, pad_of}
use Rattle.chipdb_reader.specs.declared.items.PinXy.{PinXy}
use Rattle.chipdb_reader.specs.declared.items.TileXy8.{TileXy8}
use Rattle.fabric_model.specs.declared.pin.GlobalFrom.{GlobalFrom}
use Rattle.fabric_model.specs.declared.pin.GlobalFrom.TheVariants.{Fabout}
use Rattle.fabric_model.specs.declared.pin.GlobalNet.{GlobalNet}
use Rattle.fabric_model.specs.declared.pll.PllSource.{PllSource}
use Rattle.fabric_model.specs.Nets.{ending_in, net_named}
use Rattle.fabric_model.specs.On.{is_extra_on}
use Rattle.fabric_model.specs.Pins.{from_pad, from_pll, global_nets, global_source, globals_of, nets_from, source_of_global}
use Rattle.fabric_model.specs.Plls.{is_pin_at, pll_sources}
use Rattle.fabric_model.specs.Tiles.{item_if}
use Rattle.image_stat.specs.Counts.{globals_among}
use Rattle.plan_marks.specs.declared.plan.GlobalMark.{GlobalMark}
use Rattle.floor_plan.specs.Plans.{global_marks, is_global_read, is_of, mark_by, source_mark}
use Rattle.floor_plan.proofs.Kept.{map-gathered}

All-made : {A B : Type 0} (P : B → Type 0) (made : A → B) (items : List A) → ((item : A) → P (made item)) → All P (map made items)
All-made P made [] each = All-nil P
All-made P made (item ∷ items) each = All-cons P (made item) (map made items) (each item) (All-made P made items each)

abbrev number : GlobalMark → ℕ
number global = global.g

module _ (db : Database) where
  -- what drives a net has one mark, with the number of its global network
  abbrev HasMark : GlobalNet → Type 0
  HasMark global = (read : Bool) → map number (source_mark db global.g read global.from) ≡ global.g ∷ []

  -- a global network among these has one mark, and another one none
  marked : (read : Bool) (g : ℕ) (nets : List GlobalNet) → All HasMark nets → map number (mark_by db g read (find (is_of g) nets)) ≡ item_if (list_any (is_of g) nets) g
  marked read g [] all = refl
  marked read g (net ∷ nets) all =
      elim (cases_Bool (net.g == g)) [
        | inl here ↦ rw here (subst (λ n. map number (source_mark db n read net.from) ≡ n ∷ []) (eqb-true net.g g here) (All-head HasMark net nets all read))
        | inr away ↦ rw away (marked read g nets (All-tail HasMark net nets all))
      ]

  -- ---- what drives global network g

  module _ (g : ℕ) where
    made : (from : GlobalFrom) → ((read : Bool) → map number (source_mark db g read from) ≡ g ∷ []) → All HasMark (nets_from db g (Some from))
    made from one = All-made HasMark (λ net. record { g = g; net = net; from = from }) (global_nets db g) (λ net. one)

    pad-marked : (pad : PinXy) → pad_of g db.global_pins ≡ Some pad → (found : Option PllSource) (read : Bool) → map number (source_mark db g read (from_pll pad found)) ≡ g ∷ []
    pad-marked pad is None read = refl
    pad-marked pad is (Some source) read = rw is refl

    net-marked : (tile : TileXy8) → input_of g db.global_inputs ≡ Some tile → (net : Option ℕ) → All HasMark (nets_from db g (option_map (λ net. Fabout net) net))
    net-marked tile is None = All-nil HasMark
    net-marked tile is (Some net) = made (Fabout net) (λ read. rw is refl)

    fabric-marked : (tile : Option TileXy8) → input_of g db.global_inputs ≡ tile
        → All HasMark (nets_from db g (option_map (λ net. Fabout net) (option_and_then (λ (tile : TileXy8). net_named db tile.x tile.y (codes "fabout")) tile)))
    fabric-marked None is = All-nil HasMark
    fabric-marked (Some tile) is = net-marked tile is (net_named db tile.x tile.y (codes "fabout"))

    source-marked : (sources : List PllSource) (on : Bool) (pad : Option PinXy) → pad_of g db.global_pins ≡ pad
        → All HasMark (nets_from db g (source_of_global sources (if on then pad else None) (option_and_then (λ (tile : TileXy8). net_named db tile.x tile.y (codes "fabout")) (input_of g db.global_inputs))))
    source-marked sources true (Some pad) is = made (from_pad sources pad) (pad-marked pad is (find (λ source. is_pin_at pad.x pad.y pad.n source.pin) sources))
    source-marked sources true None is = fabric-marked (input_of g db.global_inputs) refl
    source-marked sources false pad is = fabric-marked (input_of g db.global_inputs) refl

  module _ (all : Bool) (image : Configuration) where
    all-marked : All HasMark (globals_of all db image)
    unfolding globals_of
    all-marked = All-gathered_below HasMark 8 (λ g. nets_from db g (global_source (pll_sources all db image) db image g))
        (λ g lt. source-marked g (pll_sources all db image) (is_extra_on db image (ending_in (codes "padin_glb_netwk.") g)) (pad_of g db.global_pins) refl)

    -- the marks are of the global networks that icebox_stat counts
    pub globals-numbered : (reads : ℕ → Bool) → map number (global_marks db reads (globals_of all db image)) ≡ globals_among (globals_of all db image)
    unfolding global_marks
    globals-numbered reads =
        let nets = globals_of all db image in
        map-gathered number 8 (λ g. mark_by db g (is_global_read reads nets g) (find (is_of g) nets))
        ∙ gathered_below-same 8 (λ g. map number (mark_by db g (is_global_read reads nets g) (find (is_of g) nets))) (λ g. item_if (list_any (is_of g) nets) g)
        (λ g lt. marked (is_global_read reads nets g) g nets all-marked)

    pub globals-marked : (reads : ℕ → Bool) → length (global_marks db reads (globals_of all db image)) ≡ length (globals_among (globals_of all db image))
    globals-marked reads =
        sym (length-map (global_marks db reads (globals_of all db image)) number) ∙ ap length (globals-numbered reads)
