-- The fault of PLLs and pins, from the faults of each.
use Rattle.std.proofs.Common.{◌≡◌, ℕ, Bool, [], ap, ◌∙◌}
use Rattle.std.specs.Prelude.{Some, None, option_map}
use Rattle.ice_image.specs.Configuration.{Configuration}
use Rattle.chipdb_reader.specs.Database.{Database}
use Rattle.index_search.specs.Places.{or_else}
use Rattle.fabric_model.specs.Tiles.{first_of}
use Rattle.fabric_model.specs.Plls.{pll_tile}
use Rattle.fabric_model.specs.Faults.{Fault, pll_at, pin_faults, pins_fault}

module _ (all : Bool) (db : Database) (image : Configuration) where
  -- a PLL goes before the pins
  pub plls-first : (x y : ℕ) → pll_tile all db image ≡ Some (x, y) → pins_fault all db image ≡ Some (Fault.pll x y)
  unfolding pins_fault
  plls-first x y is = ap (λ tile. or_else (option_map pll_at tile) (first_of (pin_faults all db image))) is

  -- if all PLLs are taken, it is that of the pins
  pub pins-left : pll_tile all db image ≡ None → pins_fault all db image ≡ first_of (pin_faults all db image)
  unfolding pins_fault
  pins-left taken = ap (λ tile. or_else (option_map pll_at tile) (first_of (pin_faults all db image))) taken

  -- there is none if all PLLs and pins are taken
  pub pins-taken : pll_tile all db image ≡ None → pin_faults all db image ≡ [] → pins_fault all db image ≡ None
  pins-taken plls pins = pins-left plls ∙ ap first_of pins
