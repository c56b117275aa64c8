-- The answer for an image and a database, if they are drawn and if they are refused.
use Rattle.std.proofs.Common.{◌≡◌, ℕ, Bool, List, refl, subst, sym, ap, ◌∙◌}
use Rattle.std.specs.Prelude.{Option, None, Some}
use Rattle.std.proofs.Math.Path.{fun_ext}
use Rattle.ice_image.specs.Configuration.{Configuration}
use Rattle.chipdb_reader.specs.Database.{Database}
use Rattle.pin_file.specs.declared.fault.PinFileFault.{PinFileFault}
use Rattle.pin_file.specs.declared.fault.PinFileFault.TheVariants.{At, Memory as OutOfMemory}
use Rattle.pin_file.specs.declared.place.PinPlace.{PinPlace}
use Rattle.pin_file.specs.Faults.{Tells, pin_fault_of}
use Rattle.pin_file.specs.GivenNames.{name_given}
use Rattle.pin_file.specs.Packages.{Package}
use Rattle.fabric_model.specs.Faults.{Fault}
use Rattle.image_stat.specs.declared.fault.StatFault.{StatFault}
use Rattle.image_stat.specs.Faults.{IsCause, stat_fault}
use Rattle.plan_marks.specs.Plans.{Plan}
use Rattle.plan_svg.specs.Svg.{plan_svg}
use Rattle.floor_plan.specs.Plans.{floor_plan}
use Rattle.tool_run.specs.declared.tool.Stop.{Stop}
use Rattle.tool_run.specs.Stops.{StopsWith}
use Rattle.tool_run.specs.Tasks.{Answer, Done}
use Rattle.design_answers.specs.Faults.{StopsFor, told_fault}
use Rattle.design_answers.specs.Pins.{StopsForPins}
use Rattle.fabric_tools.specs.Faults.{of_counts}
use Rattle.fabric_tools.specs.Plan.{named_plan, named_where, named_with, planned, planned_named, planned_with}
use Rattle.fabric_tools.proofs.Counted.{stops-caused}

module _ (all : Bool) (db : Database) (image : Configuration) where
  pub stops_planned : (cause : Option Fault) (fault : StatFault) (stop : Stop) → IsCause cause fault → StopsFor (told_fault (of_counts fault)) stop → StopsWith (planned_with all db image cause) stop
  stops_planned = stops-caused (planned_with all db image) (λ fault. refl)

  -- the picture, if nothing is wrong
  pub planned_done : (plan : Plan) (text : List ℕ) → stat_fault all db image ≡ None → plan ≡ floor_plan all db image → text ≡ plan_svg None plan → planned all db image ≡ Done text
  planned_done plan text taken are is = ap (planned_with all db image) taken ∙ ap Done (sym (is ∙ ap (plan_svg None) are))

  -- ---- a pin file

  module _ (chosen : Package) (file : List ℕ) where
    pub stops_named : (cause : Option Fault) (fault : StatFault) (stop : Stop) → IsCause cause fault → StopsFor (told_fault (of_counts fault)) stop
        → StopsWith (named_where all chosen file db image cause) stop
    stops_named = stops-caused (named_where all chosen file db image) (λ fault. refl)

    -- the answer is by the plan, if nothing is wrong
    pub named_taken : (plan : Plan) → stat_fault all db image ≡ None → plan ≡ floor_plan all db image → planned_named all chosen file db image ≡ named_plan plan chosen file
    named_taken plan taken are = ap (named_where all chosen file db image) taken ∙ ap (λ plan. named_plan plan chosen file) (sym are)

module _ (plan : Plan) (chosen : Package) (file : List ℕ) where
  -- the picture with the names that are kept
  pub named_done : (kept : PinPlace → Option (List ℕ)) (text : List ℕ) → pin_fault_of chosen file ≡ None → ((place : PinPlace) → kept place ≡ name_given chosen file place)
      → text ≡ plan_svg (Some kept) plan → named_plan plan chosen file ≡ Done text
  named_done kept text taken are is =
      ap (named_with plan (Some (name_given chosen file))) taken
      ∙ ap Done (sym (is ∙ ap (λ (given : PinPlace → Option (List ℕ)). plan_svg (Some given) plan) (fun_ext are)))

  -- a tool that tells the fault of the file stops as it has to
  pub pins_stop : (fault : PinFileFault) (stop : Stop) → Tells (pin_fault_of chosen file) fault → StopsForPins fault stop → StopsWith (named_plan plan chosen file) stop
  pins_stop (At line cause) stop tells stops = subst (λ (answer : Answer). StopsWith answer stop) (sym (ap (named_with plan (Some (name_given chosen file))) tells)) stops
  pins_stop (OutOfMemory failed) stop tells stops = rw stops tt
