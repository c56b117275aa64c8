-- The ports of PLLs: their names are names, and are apart from each other and from those of pins.
use Rattle.std.proofs.Common.{◌≡◌, ℕ, ◌<◌, Bool, false, List, [], ◌∷◌, ◌++◌, map, refl, arith}
use Rattle.std.specs.Prelude.{All, bytes_eq, codes, flat_map}
use Rattle.std.proofs.lemmas.List.Elements.{All-head, All-tail, All-map, All-weaker}
use Rattle.shared_lemmas.proofs.Lists.{All-both}
use Rattle.shared_lemmas.proofs.Bytes.{bytes_eq-apart}
use Rattle.ice_image.specs.Configuration.{Configuration}
use Rattle.chipdb_reader.specs.Database.{Database}
use Rattle.chipdb_reader.specs.Fit.{IsFit}
use Rattle.vlog_module.specs.Names.{IsName}
use Rattle.fabric_model.specs.declared.pin.Pin.{Pin}
use Rattle.fabric_model.specs.declared.pll.PllSource.{PllSource}
use Rattle.fabric_model.specs.InputPorts.{pll_input}
use Rattle.fabric_model.specs.PllPorts.{pll_ports}
use Rattle.fabric_model.proofs.Apart.{AreApart, apart-map, apart-append}
use Rattle.fabric_model.proofs.Once.{PllsDiffer, plls-apart, plls-placed}
use Rattle.fabric_module.specs.Names.{pll_name}
use Rattle.fabric_module.specs.Written.{input_port, pin_ports}
use Rattle.fabric_module.proofs.Apart.{IsSmall, pll-same}
use Rattle.fabric_module.proofs.Lists.{NamesDiffer, Apart}
use Rattle.fabric_module.proofs.Named.{pll-named}
use Rattle.fabric_module.proofs.Ports.{port_label, of_pins-begin}

abbrev IsPlacedSource : PllSource → Type 0
IsPlacedSource source = (source.x < 1000000000) × (source.y < 1000000000)

few-small : (n : ℕ) → n < 1000000000 → IsSmall n
few-small n few = omega (arith, few)

abbrev source_name : PllSource → List ℕ
source_name source = pll_name source.x source.y source.output

placed-apart : (sources : List PllSource) → All IsPlacedSource sources → AreApart PllsDiffer sources → AreApart (NamesDiffer source_name) sources
placed-apart [] placed apart = tt
placed-apart (one ∷ sources) placed apart =
    let of_one = All-head IsPlacedSource one sources placed in (
      All-both IsPlacedSource (PllsDiffer one) (NamesDiffer source_name one)
          (λ two of_two other. bytes_eq-apart (source_name one) (source_name two)
          (λ same. let parts = pll-same one.x one.y two.x two.y one.output two.output (few-small one.x of_one.0) (few-small one.y of_one.1) (few-small two.x of_two.0) (few-small two.y of_two.1) same in
          other parts.0 parts.1 parts.2)) sources (All-tail IsPlacedSource one sources placed) apart.0,
      placed-apart sources (All-tail IsPlacedSource one sources placed) apart.1,
    )

module _ (db : Database) (image : Configuration) (all : Bool) (fit : IsFit db) where
  -- the names of the ports of PLLs are names
  pub plls-named : All (λ port. IsName (port_label port)) (map input_port (map pll_input (pll_ports all db image)))
  plls-named =
      All-map (λ port. IsName (port_label port)) input_port (map pll_input (pll_ports all db image))
      (All-map (λ port. IsName (port_label (input_port port))) pll_input (pll_ports all db image)
      (All-weaker IsPlacedSource (λ source. IsName (source_name source)) (λ source placed. pll-named source.x source.y source.output (few-small source.x placed.0) (few-small source.y placed.1))
      (pll_ports all db image) (plls-placed db image all fit)))

  -- and are apart
  plls-named_apart : Apart port_label (map input_port (map pll_input (pll_ports all db image)))
  plls-named_apart =
      apart-map (NamesDiffer port_label) input_port (map pll_input (pll_ports all db image))
      (apart-map (λ one two. NamesDiffer port_label (input_port one) (input_port two)) pll_input (pll_ports all db image)
      (placed-apart (pll_ports all db image) (plls-placed db image all fit) (plls-apart db image all fit)))

  -- also from those of pins
  pub with_plls-apart : (pins : List Pin) → Apart port_label (flat_map pin_ports pins) → Apart port_label (flat_map pin_ports pins ++ map input_port (map pll_input (pll_ports all db image)))
  unfolding pll_name
  with_plls-apart pins apart =
      apart-append (NamesDiffer port_label) (flat_map pin_ports pins) (map input_port (map pll_input (pll_ports all db image))) apart plls-named_apart
      (of_pins-begin (λ name. All (λ port. bytes_eq name (port_label port) ≡ false) (map input_port (map pll_input (pll_ports all db image))))
      (λ rest. All-map (λ port. bytes_eq (codes "io_" ++ rest) (port_label port) ≡ false) input_port (map pll_input (pll_ports all db image))
      (All-map (λ port. bytes_eq (codes "io_" ++ rest) (port_label (input_port port)) ≡ false) pll_input (pll_ports all db image)
      (All-weaker IsPlacedSource (λ source. bytes_eq (codes "io_" ++ rest) (source_name source) ≡ false) (λ source placed. refl) (pll_ports all db image) (plls-placed db image all fit)))) pins)
