-- What is answered of equal images, and of others.
use Rattle.std.proofs.Common.{◌≡◌, ◌∙◌, ℕ, Bool, true, false, not, List, [], ◌∷◌, refl, sym, ap, subst, inl, inr}
use Rattle.std.specs.Prelude.{◌↔◌, get_or, if◌then◌else◌, Option, Some, None, Ok}
use Rattle.std.proofs.lemmas.Bool.{cases_Bool}
use Rattle.plane_map.specs.declared.device.DeviceName.{DeviceName}
use Rattle.plane_map.specs.Devices.{is_same_device}
use Rattle.plane_map.specs.Layout.{Layout}
use Rattle.plane_map.proofs.Devices.{one-device}
use Rattle.layout_file.specs.declared.layouts.Layouts.{Layouts}
use Rattle.layout_file.specs.Layouts.{HasLayout, layout_for}
use Rattle.ice_image.specs.Configuration.{Configuration}
use Rattle.chipdb_reader.specs.Database.{Database}
use Rattle.image_diff.specs.declared.fault.DiffFault.{DiffFault}
use Rattle.image_diff.specs.declared.fault.DiffFault.TheVariants.{Database as OtherDatabase, Images}
use Rattle.image_diff.specs.Differences.{diff_fault_of, differences}
use Rattle.image_diff.specs.Laws.{AreAlike}
use Rattle.image_diff.proofs.Alike.{nothing-told}
use Rattle.tool_run.specs.Tasks.{Answer, Done, Quiet}
use Rattle.tool_inputs.specs.Databases.{database_read}
use Rattle.tool_inputs.specs.Images.{image_in, image_read}
use Rattle.tool_inputs.proofs.DesignInputs.{in-file, two-read, two_under}
use Rattle.tool_inputs.proofs.ImageLayouts.{for-are, read-layout}
use Rattle.fabric_tools.specs.Diff.{compared, compared_with, diff_answer, told_text}
use Rattle.fabric_tools.specs.Equal.{AreComparable, TellsEqual}

-- ---- one layout

-- images that can be compared are of one device
same-device-by : (database images : Bool) → (if not database then Some OtherDatabase else if not images then Some Images else None) ≡ None → images ≡ true
same-device-by true true none = refl
same-device-by true false none = absurd cc
same-device-by false images none = absurd cc

one-device-of : (database : Database) (first second : Configuration) → diff_fault_of database first second ≡ None → first.layout.device ≡ second.layout.device
unfolding diff_fault_of
one-device-of database first second none =
    one-device first.layout.device second.layout.device
    (same-device-by (is_same_device database.chip.device first.layout.device) (is_same_device first.layout.device second.layout.device) none)

one-layout : (layouts : Layouts) (first second : Layout) → HasLayout layouts first → HasLayout layouts second → first.device ≡ second.device → first ≡ second
one-layout layouts first second has other same = sym has ∙ ap (layout_for layouts) same ∙ other

-- ---- the text

text-done : (text : List ℕ) → (told_text false text ≡ Done []) ↔ (text ≡ [])
text-done text = ((λ done. cc), λ none. ap Done none)

quiet-done : (text : List ℕ) → (told_text true text ≡ Done []) ↔ (text ≡ [])
quiet-done [] = ((λ done. refl), λ none. refl)
quiet-done (byte ∷ text) = ((λ done. absurd cc), λ none. absurd cc)

quiet-some : (text : List ℕ) → (text ≡ [] → ⊥) → told_text true text ≡ Quiet
quiet-some [] some = absurd (some refl)
quiet-some (byte ∷ text) some = refl

quiet-none : (text : List ℕ) → text ≡ [] → told_text true text ≡ Quiet → ⊥
quiet-none [] none quiet = absurd cc
quiet-none (byte ∷ text) none quiet = absurd cc

-- ---- the answer

module _ (layout : Option (List ℕ)) (texts : List (List ℕ)) (first_name second_name : List ℕ) (first second : Configuration) (can : AreComparable layout texts first second) where
  answer-text : (quiet : Bool) → diff_answer quiet first_name second_name layout texts ≡ told_text quiet (differences can.database first second)
  answer-text quiet =
      two_under (compared quiet) layout first_name second_name texts can.layouts can.layouts_are
      ∙ two-read (compared quiet) (database_read (get_or texts 0 [])) (image_in (Some first_name) (image_read can.layouts (get_or texts 1 [])))
      (image_in (Some second_name) (image_read can.layouts (get_or texts 2 []))) can.database first second can.database_is
      (in-file (Some first_name) (image_read can.layouts (get_or texts 1 [])) first can.first_is)
      (in-file (Some second_name) (image_read can.layouts (get_or texts 2 [])) second can.second_is)
      ∙ ap (compared_with quiet (differences can.database first second)) can.faultless

  told-alike : (differences can.database first second ≡ []) ↔ AreAlike first second
  told-alike =
      let are = for-are layout can.layouts can.layouts_are in
      nothing-told can.database first second (one-layout can.layouts first.layout second.layout
      (read-layout can.layouts are (get_or texts 1 []) first can.first_is)
      (read-layout can.layouts are (get_or texts 2 []) second can.second_is)
      (one-device-of can.database first second can.faultless))

  pub equal-told : TellsEqual layout texts first_name second_name first second
  equal-told =
      let text = differences can.database first second in
      record {
        told = (
          (λ done. told-alike.0 ((text-done text).0 (sym (answer-text false) ∙ done))),
          (λ alike. answer-text false ∙ (text-done text).1 (told-alike.1 alike)),
        );
        quiet = (
          (λ done. told-alike.0 ((quiet-done text).0 (sym (answer-text true) ∙ done))),
          (λ alike. answer-text true ∙ (quiet-done text).1 (told-alike.1 alike)),
        );
        other = (
          (λ quiet alike. quiet-none text (told-alike.1 alike) (sym (answer-text true) ∙ quiet)),
          (λ other. answer-text true ∙ quiet-some text (λ none. other (told-alike.0 none))),
        );
      }
