-- The answer for an image and a database, if they are counted and if they are refused.
use Rattle.std.proofs.Common.{◌≡◌, ℕ, Bool, List, refl, sym, ap, ◌∙◌}
use Rattle.std.specs.Prelude.{Option, None, Some}
use Rattle.ice_image.specs.Configuration.{Configuration}
use Rattle.chipdb_reader.specs.Database.{Database}
use Rattle.fabric_model.specs.Faults.{Fault}
use Rattle.fabric_plls.specs.declared.fault.PllFault.TheVariants as plls
use Rattle.fabric_parts.specs.declared.io.fault.PinFault.TheVariants as pins
use Rattle.fabric_parts.specs.declared.ram.fault.RamFault.TheVariants as rams
use Rattle.image_stat.specs.declared.fault.StatFault.{StatFault}
use Rattle.image_stat.specs.declared.fault.StatFault.TheVariants.{Device, Plls, Pins, Rams, Memory as OutOfMemory}
use Rattle.image_stat.specs.Counts.{counts_of, stat_text}
use Rattle.image_stat.specs.Faults.{IsCause, stat_fault}
use Rattle.tool_run.specs.declared.tool.Stop.{Stop}
use Rattle.tool_run.specs.declared.tool.Stop.TheVariants.{Refused, Quiet, UsageError, Memory}
use Rattle.tool_run.specs.Stops.{StopsWith}
use Rattle.tool_run.specs.Tasks.{Answer, Done, Refused as Refuses}
use Rattle.design_answers.specs.Faults.{StopsFor, design_fault_text, told_fault}
use Rattle.fabric_tools.specs.Faults.{of_counts}
use Rattle.fabric_tools.specs.Stat.{counted, counted_with}

-- the cause of a refusal is the fault that it tells
cause-told : (cause : Option Fault) (fault : StatFault) (one : Fault) → IsCause cause fault → told_fault (of_counts fault) ≡ Some one → cause ≡ Some one
cause-told cause Device one is told = is ∙ told
cause-told cause (Plls (plls.Pll x y)) one is told = is ∙ told
cause-told cause (Plls (plls.Memory failed)) one is told = absurd is
cause-told cause (Pins (pins.PinMode x y pio pintype)) one is told = is ∙ told
cause-told cause (Pins (pins.Memory failed)) one is told = absurd is
cause-told cause (Rams (rams.Cascade x y)) one is told = is ∙ told
cause-told cause (Rams (rams.Memory failed)) one is told = absurd is
cause-told cause (OutOfMemory failed) one is told = cc

module _ (answer : Option Fault → Answer) (refuses : (fault : Fault) → answer (Some fault) ≡ Refuses (design_fault_text fault)) where
  -- a tool that tells the fault stops as it has to
  stops-told : (cause told : Option Fault) (stop : Stop) → ((one : Fault) → told ≡ Some one → cause ≡ Some one) → StopsFor told stop → StopsWith (answer cause) stop
  stops-told cause (Some fault) (Refused refusal) same stops = ap answer (same fault refl) ∙ refuses fault ∙ ap Refuses stops
  stops-told cause None Memory same stops = tt
  stops-told cause (Some fault) Quiet same stops = absurd stops
  stops-told cause (Some fault) (UsageError refusal) same stops = absurd stops
  stops-told cause (Some fault) Memory same stops = tt
  stops-told cause None (Refused refusal) same stops = absurd stops
  stops-told cause None Quiet same stops = absurd stops
  stops-told cause None (UsageError refusal) same stops = absurd stops

  pub stops-caused : (cause : Option Fault) (fault : StatFault) (stop : Stop) → IsCause cause fault → StopsFor (told_fault (of_counts fault)) stop → StopsWith (answer cause) stop
  stops-caused cause fault stop is stops = stops-told cause (told_fault (of_counts fault)) stop (λ one told. cause-told cause fault one is told) stops

module _ (all : Bool) (db : Database) (image : Configuration) where
  pub stops_counted : (cause : Option Fault) (fault : StatFault) (stop : Stop) → IsCause cause fault → StopsFor (told_fault (of_counts fault)) stop → StopsWith (counted_with all db image cause) stop
  stops_counted = stops-caused (counted_with all db image) (λ fault. refl)

  -- the text of the counts, if nothing is wrong
  pub counted_done : (text : List ℕ) → stat_fault all db image ≡ None → text ≡ stat_text (counts_of all db image) → counted all db image ≡ Done text
  counted_done text taken is = ap (counted_with all db image) taken ∙ ap Done (sym is)
