-- With consistent values the clocks follow their pins and registers.
use Rattle.std.proofs.Common.{◌≡◌, ℕ, Bool, List, refl, sym, ◌∙◌, subst}
use Rattle.std.specs.Prelude.{Contains, Option, Some, None}
use Rattle.ice_image.specs.Configuration.{Configuration}
use Rattle.chipdb_reader.specs.Database.{Database}
use Rattle.chipdb_reader.specs.Fit.{IsFit}
use Rattle.fabric_model.specs.Joins.{class_of}
use Rattle.fabric_model.specs.declared.options.FabricOptions.{FabricOptions}
use Rattle.fabric_model.specs.Fabric.{Fabric, fabric_with, reading_all}
use Rattle.fabric_model.specs.Values.{State, IsConsistent, bit_in}
use Rattle.fabric_model.specs.Clocks.{ClockEnd, LeadsTo, clock_end}
use Rattle.fabric_model.specs.Clocks.ClockEnd.{at_pin, at_register, still, logic}
use Rattle.fabric_model.specs.Faults.{design_fault}
use Rattle.fabric_model.proofs.Chains.{HasEndValue, clock-value, clock_end-leads}
use Rattle.fabric_model.proofs.Taken.{design-taken, taken-order}
use Rattle.fabric_model.proofs.Within.{fabric-within}
use Rattle.fabric_model.proofs.Runs.{IsClockEnd, IsClocked, fabric-placed, register-good, read-good, write-good}
use Rattle.fabric_model.proofs.Paired.{pairs-first}
use Rattle.fabric_model.proofs.Alike.{RegistersAlike, register-field, registers-alike, to-all, from-all, clock_end-with, leads-with}
use Rattle.fabric.specs.Clocks.{HasEndBit, HasClock, HasClocks}

end-bit : (fabric : Fabric) (state : State) (pins v : List Bool) (end : ClockEnd) (bit : Bool) → IsClockEnd end → HasEndValue fabric state pins v end bit
    → HasEndBit fabric state pins v end bit
end-bit fabric state pins v (at_pin place turned) bit good has = has
end-bit fabric state pins v (at_register class place turned) bit good has = has
end-bit fabric state pins v (still it) bit good has = has
end-bit fabric state pins v logic bit good has = absurd good

module _ (options : FabricOptions) (db : Database) (image : Configuration) (fit : IsFit db) (none : design_fault options db image ≡ None) where
  abbrev fabric : Fabric
  fabric = fabric_with options db image

  -- where a clock comes from is the end of its chain
  with-lead : (net : ℕ) → LeadsTo fabric (class_of fabric.joins net) (clock_end fabric net)
  with-lead =
      let within = fabric-within db image fit options in
      let order = taken-order image.layout.device fabric (design-taken options db image none).fabric within in
      clock_end-leads fabric within order.it order.is

  module _ (state : State) (pins v : List Bool) (is : IsConsistent fabric state pins v) where
    has-clock : (net : Option ℕ) → IsClocked fabric net → HasClock fabric state pins v net
    has-clock None good = tt
    has-clock (Some net) good =
        end-bit fabric state pins v (clock_end fabric net) (bit_in v net) good
        (clock-value fabric (fabric-within db image fit options) state pins v is net (clock_end fabric net) (with-lead net))

    has-clocks : HasClocks fabric state pins v
    has-clocks =
        let taken = (design-taken options db image none).fabric in
        let placed = fabric-placed db image options in
        record {
          registers = λ register there. has-clock register.clk (register-good image.layout.device fabric taken placed register there);
          reads = λ ram there. has-clock ram.rclk (read-good image.layout.device fabric taken placed ram there);
          writes = λ ram there. has-clock ram.wclk (write-good image.layout.device fabric taken placed ram there);
        }

  -- ---- the same of the fabric whose LUTs read all inputs

  abbrev all : Fabric
  all = fabric_with (reading_all options) db image

  nets-joined : fabric.joins ≡ all.joins
  unfolding fabric_with
  nets-joined = refl

  rams-all : fabric.rams ≡ all.rams
  unfolding fabric_with
  rams-all = refl

  pub ends-lead : (net : ℕ) → LeadsTo (fabric_with (reading_all options) db image) (class_of (fabric_with (reading_all options) db image).joins net) (clock_end (fabric_with (reading_all options) db image) net)
  ends-lead net =
      subst (λ joins. LeadsTo all (class_of joins net) (clock_end all net)) nets-joined
      (leads-with options db image (class_of fabric.joins net) (clock_end all net)
      (subst (LeadsTo fabric (class_of fabric.joins net)) (clock_end-with options db image net) (with-lead net)))

  module _ (state : State) (pins v : List Bool) where
    end-all : (end : ClockEnd) (bit : Bool) → HasEndBit fabric state pins v end bit → HasEndBit all state pins v end bit
    end-all (at_pin place turned) bit has = has
    end-all (at_register class place turned) bit has = λ settled. has ((to-all options db image).settled (bit_in v) state ∙ settled)
    end-all (still it) bit has = has
    end-all logic bit has = has

    clock-all : (net : Option ℕ) → HasClock fabric state pins v net → HasClock all state pins v net
    clock-all None has = tt
    clock-all (Some net) has =
        subst (λ end. HasEndBit all state pins v end (bit_in v net)) (clock_end-with options db image net) (end-all (clock_end fabric net) (bit_in v net) has)

    clocks-all : HasClocks fabric state pins v → HasClocks all state pins v
    clocks-all has = record {
      registers = λ register there.
          let found = pairs-first RegistersAlike fabric.registers all.registers register (registers-alike options db image) there in
          subst (HasClock all state pins v) (register-field found.0 register found.2 (λ r. r.clk) refl) (clock-all found.0.clk (has.registers found.0 found.1));
      reads = λ ram there. clock-all ram.rclk (has.reads ram (subst (λ rams. Contains rams ram) (sym rams-all) there));
      writes = λ ram there. clock-all ram.wclk (has.writes ram (subst (λ rams. Contains rams ram) (sym rams-all) there));
    }

  pub values-have-clocks : (state : State) (pins v : List Bool) → IsConsistent (fabric_with (reading_all options) db image) state pins v
      → HasClocks (fabric_with (reading_all options) db image) state pins v
  values-have-clocks state pins v is = clocks-all state pins v (has-clocks state pins v ((from-all options db image).consistent state pins v is))
