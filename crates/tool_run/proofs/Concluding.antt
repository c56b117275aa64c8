-- From what was made of the needs, and what became of it, to what a run does.
use Rattle.std.proofs.Common.{◌≡◌, ◌⊎◌, ℕ, List, [], refl, sym, ap, subst, ◌∙◌, inl, inr, arith}
use Rattle.std.specs.Prelude.{Option, None, Some, option_map, Result, Ok, Err, IsOkAnd, IsErrAnd}
use Rattle.ice_io.specs.Files.{FileMap}
use Rattle.tool_run.specs.Needs.{need_of}
use Rattle.tool_run.specs.Lines.{line_of, refusal_text}
use Rattle.tool_run.specs.Tasks.{Answer, Both, TooLong as MissesLimit, Outcome, Task}
use Rattle.tool_run.specs.Counts.{Counts}
use Rattle.tool_run.specs.Effects.{Delivers, FailsBeside, FailsToDeliver, FailsToTake, Speaks, TargetRose, DeliversPart, Writes, with_beside}
use Rattle.tool_run.specs.Answering.{Answers, Gives}
use Rattle.tool_run.specs.Concluding.{Concludes, Refuses, TellsStop}
use Rattle.tool_run.specs.Jobs.{RefusesWith}
use Rattle.tool_run.specs.Runs.{Does, HasBytes, IsStatusFor, Outside, scene}
use Rattle.tool_run.specs.declared.load.LoadStop.{LoadStop}
use Rattle.tool_run.specs.declared.load.LoadStop.TheVariants as load_stop
use Rattle.tool_run.specs.declared.tool.Stop.{Stop}
use Rattle.tool_run.specs.declared.tool.Stop.TheVariants.{Refused, Quiet, UsageError, Memory}
use Rattle.tool_run.proofs.Outcomes.{concluded-small, exact-answer, foretold, foretold-texts, foretold_failure, foretold_input, foretold_unread, has_bytes, not-long, not-read, refused-one, refuses, refuses-so, takes-not}
use Rattle.tool_run.proofs.Reaching.{input-reached, long-loaded}

-- no byte for a file beside the target
abbrev pub nothing_beside : {M : Type 0} → M → List ℕ
nothing_beside made = []

-- what a tool made, as an answer
abbrev answer_by : {M : Type 0} → (M → List ℕ) → (M → List ℕ) → M → Answer
answer_by bytes beside product = Both (bytes product) (beside product)

-- the bytes that a tool made are its answer
made_bytes : {M : Type 0} (bytes beside : M → List ℕ) (made : Result M Stop) (answer : Answer) (D : List ℕ → List ℕ → Type 0) → IsOkAnd made (λ product. D (bytes product) (beside product))
    → Gives (answer_by bytes beside) answer made → (text : List ℕ) × (more : List ℕ) × D text more × (answer ≡ Both text more)
made_bytes bytes beside (Ok product) answer D delivers gives = (bytes product, beside product, delivers, gives)
made_bytes bytes beside (Err stop) answer D none gives = absurd none

-- and so is its refusal
made_refusal : {M : Type 0} (answer_with : M → Answer) (made : Result M Stop) (answer : Answer) (status : ℕ) (S : Option (List ℕ) → Type 0) → IsErrAnd made (Refuses status S) → Gives answer_with answer made → (said : Option (List ℕ)) × RefusesWith answer status said × S said
made_refusal answer_with (Ok content) answer status S none gives = absurd none
made_refusal answer_with (Err (Refused refusal)) answer status S refuses gives =
    let said : Option (List ℕ) = Some (refusal_text refusal) in (said, subst (λ a. RefusesWith a status said) (sym gives) (refuses.0, refl), refuses.1)
made_refusal answer_with (Err Quiet) answer status S refuses gives = (None, subst (λ a. RefusesWith a status None) (sym gives) (refuses.0, refl), refuses.1)
made_refusal answer_with (Err (UsageError refusal)) answer status S refuses gives =
    let said : Option (List ℕ) = Some (refusal_text refusal) in (said, subst (λ a. RefusesWith a status said) (sym gives) (refuses.0, refl), refuses.1)
made_refusal answer_with (Err Memory) answer status S none gives = absurd none

-- what failed to be delivered, over files that had not changed
module _ {F O : Type 0} (contents : F → Option FileMap) (stores : F → Counts) (held : O → Option (List ℕ)) (output_faults : O → ℕ) (files middle new_files : F) (output new_output : O) (S : List ℕ → Type 0) where
  take_fails : (before earlier : Option FileMap) (target : Option (List ℕ)) (bytes : List ℕ) → before ≡ earlier → stores middle ≡ stores files
      → FailsToTake contents stores held output_faults middle new_files output new_output S before target bytes
      → FailsToTake contents stores held output_faults files new_files output new_output S earlier target bytes
  take_fails before earlier target bytes same same_stores fails = record {
    part = subst (λ (old : Option FileMap). DeliversPart target bytes old (contents new_files) (held output) (held new_output)) same fails.part;
    rose = subst (λ n. TargetRose target n (stores new_files) (output_faults output) (output_faults new_output)) same_stores fails.rose;
    said = fails.said;
  }

  beside_fails : (beside : Option (List ℕ)) (bytes : List ℕ) → contents middle ≡ contents files → stores middle ≡ stores files
      → FailsBeside contents stores held output_faults middle new_files output new_output S beside bytes
      → FailsBeside contents stores held output_faults files new_files output new_output S beside bytes
  beside_fails None bytes same same_stores fails = absurd fails
  beside_fails (Some name) bytes same same_stores fails =
      (take_fails (contents middle) (contents files) (Some name) bytes same same_stores fails.0, fails.1)

  delivery_fails : (beside : Option (List ℕ)) (more : List ℕ) (target : Option (List ℕ)) (bytes : List ℕ) → contents middle ≡ contents files → stores middle ≡ stores files
      → FailsToDeliver contents stores held output_faults middle new_files output new_output S beside more target bytes
      → FailsToDeliver contents stores held output_faults files new_files output new_output S beside more target bytes
  delivery_fails beside more target bytes same same_stores fails = elim fails [
    | inl first ↦ inl (beside_fails beside more same same_stores first)
    | inr then ↦ inr (take_fails (with_beside (contents middle) beside more) (with_beside (contents files) beside more) target bytes
        (ap (λ (old : Option FileMap). with_beside old beside more) same) same_stores then)
  ]

-- a run in which all was loaded
pub concluded_run : {F I O E M : Type 0} (by : Outside F I O E) (task : Task) (bytes beside : M → List ℕ) (made : Result M Stop) (status : ℕ) (files middle new_files : F) (input new_input : I) (output new_output : O) (errors new_errors : E)
    → Answers by.contents by.steady by.loads by.stores by.left by.reads task.needs task.answer (answer_by bytes beside) (Ok made) files middle input new_input
    → Concludes by.contents by.stores by.held by.output_faults by.said by.error_faults task.tool_name task.beside task.target beside bytes made status middle new_files output new_output errors new_errors
    → Does by task status (scene files input output errors) (scene new_files new_input new_output new_errors)
concluded_run {F = F} by task bytes beside made status files middle new_files input new_input output new_output errors new_errors l k =
    let contents = by.contents files in
    let left = by.left input in
    let texts = l.made.0 in
    let are = l.made.1 in
    let answer = task.answer texts in
    let says : Option (List ℕ) → Type 0 = λ message. Speaks message by.said by.error_faults errors new_errors in
    let spoken : Option (List ℕ) → Type 0 = λ said. says (option_map (line_of task.tool_name) said) in
    let delivered : Option FileMap → List ℕ → List ℕ → Type 0 = λ old text more. Delivers task.target text (with_beside old task.beside more) (by.contents new_files) (by.held output) (by.held new_output) in
    let fails : F → List ℕ → List ℕ → Type 0 = λ old text more. FailsToDeliver by.contents by.stores by.held by.output_faults old new_files output new_output (λ said. spoken (Some said)) task.beside more task.target text in
    let whole : status ≡ 0 → (text : List ℕ) × (more : List ℕ) × delivered (by.contents middle) text more × (answer ≡ Both text more) =
    λ zero_is. made_bytes bytes beside made answer (delivered (by.contents middle)) (k.whole zero_is) l.made.2 in
    let part : status ≡ 4 → (text : List ℕ) × (more : List ℕ) × fails middle text more × (answer ≡ Both text more) =
    λ four_is. made_bytes bytes beside made answer (fails middle) (k.part four_is) l.made.2 in
    let refused : (status ≡ 1) ⊎ (status ≡ 2) → (said : Option (List ℕ)) × RefusesWith answer status said × spoken said =
    λ refusal. made_refusal (answer_by bytes beside) made answer status spoken (k.refused refusal) l.made.2 in
    record {
      statuses = concluded-small status k.statuses;
      whole = λ zero_is.
          let w = whole zero_is in
          (w.0, w.1, subst (λ old. delivered old w.0 w.1) l.same_contents w.2, foretold-texts task contents left texts (HasBytes w.0 w.1) are (λ needs. has_bytes task needs answer w.0 w.1 w.3), (texts, are, w.3));
      end = λ zero_is reads. l.end reads;
      silent = k.silent;
      refusal = λ one_is.
          let r = refused (inl one_is) in
          elim (refuses-so answer status r.0 spoken one_is r.1 r.2) [
            | inl (text, is, said) ↦ inl (text, (texts, are, is), said)
            | inr (is, quiet) ↦ inr ((texts, are, is), quiet)
          ];
      usage = λ two_is.
          let r = refused (inr two_is) in
          let t = takes-not answer status r.0 spoken two_is r.1 r.2 in
          (t.0, (texts, are, t.1), t.2);
      longer = λ six_is. not-long status k.statuses six_is;
      refused = λ refusal.
          let r = refused (refused-one status k.statuses refusal) in
          let refusing : Outcome → Type 0 = λ o. (o.status ≡ status) × says o.message in
          foretold-texts task contents left texts refusing are (λ needs. refuses task needs answer status r.0 says r.1 r.2);
      read = λ three_is. not-read status k.statuses three_is;
      steady = λ three_is. not-read status k.statuses three_is;
      part = λ four_is.
          let w = part four_is in (
            w.0,
            w.1,
            delivery_fails by.contents by.stores by.held by.output_faults files middle new_files output new_output (λ said. spoken (Some said)) task.beside w.1 task.target w.0 l.same_contents l.same_stores w.2,
            foretold-texts task contents left texts (HasBytes w.0 w.1) are (λ needs. has_bytes task needs answer w.0 w.1 w.3),
            (texts, are, w.3),
          );
      memory = k.memory;
      exact = foretold-texts task contents left texts (IsStatusFor status) are (λ needs.
          exact-answer task needs answer status k.statuses (λ zero_is. let w = whole zero_is in (w.0, w.1, w.3)) (λ four_is. let w = part four_is in (w.0, w.1, w.3)) (λ refusal. let r = refused refusal in (r.0, r.1)));
      untouched = k.untouched;
      kept = λ not_zero not_four. k.kept not_zero not_four ∙ l.same_contents;
      unstored = λ why. elim why [
        | inl no_file ↦ ap by.stores (k.unasked no_file.0 no_file.1) ∙ l.same_stores
        | inr not_made ↦ k.unstored not_made.0 not_made.1 ∙ l.same_stores
      ];
      aside = k.aside;
      unread = l.unread;
      unreached = foretold_unread task contents by.left input new_input l.unreached;
      unasked = λ no_need no_file. k.unasked no_file.0 no_file.1 ∙ l.unasked no_need;
    }

-- a run in which loading stopped
pub stopped_run : {F I O E M : Type 0} (by : Outside F I O E) (task : Task) (answer_with : M → Answer) (stop : LoadStop) (status : ℕ) (files new_files : F) (input new_input : I) (output : O) (errors new_errors : E)
    → Answers by.contents by.steady by.loads by.stores by.left by.reads task.needs task.answer answer_with (Err stop) files new_files input new_input
    → TellsStop status (λ said. Writes (line_of task.tool_name said) (by.said errors) (by.said new_errors) (by.error_faults errors) (by.error_faults new_errors)) stop
    → Does by task status (scene files input output errors) (scene new_files new_input output new_errors)
stopped_run by task answer_with (load_stop.Failed load) status files new_files input new_input output errors new_errors l k =
    let contents = by.contents files in
    let left = by.left input in
    let need = need_of load in
    let stops = l.stops in
    let three = k.0 in
    let says : Option (List ℕ) → Type 0 = λ message. Speaks message by.said by.error_faults errors new_errors in
    record {
      statuses = omega (arith, three);
      whole = λ zero_is. absurd (omega (arith, three));
      end = λ zero_is. absurd (omega (arith, three));
      silent = λ zero_is. absurd (omega (arith, three));
      refusal = λ one_is. absurd (omega (arith, three));
      usage = λ two_is. absurd (omega (arith, three));
      longer = λ six_is. absurd (omega (arith, three));
      refused = λ refusal. absurd (grind (arith, three));
      read = λ three_is. (need, record { fails = stops; line = k.1; input = λ stream. foretold_input task contents left (input-reached contents left task.needs need stops.reached stream) });
      steady = λ three_is is_steady. foretold_failure task contents (by.steady files) by.left by.reads (by.loads files) (by.loads new_files) input new_input need says stops k.1 is_steady;
      part = λ four_is. absurd (omega (arith, three));
      memory = λ five_is. absurd (omega (arith, three));
      exact = λ known text tells. inr (inr (inl three));
      untouched = λ not_zero not_four. refl;
      kept = λ not_zero not_four. l.same_contents;
      unstored = λ why. l.same_stores;
      aside = λ no_stream. refl;
      unread = l.unread;
      unreached = foretold_unread task contents by.left input new_input l.unreached;
      unasked = λ no_need no_file. l.unasked no_need;
    }
stopped_run by task answer_with (load_stop.TooLong load) status files new_files input new_input output errors new_errors l k =
    let contents = by.contents files in
    let left = by.left input in
    let need = need_of load in
    let six = k.0 in
    let says : Option (List ℕ) → Type 0 = λ message. Speaks message by.said by.error_faults errors new_errors in
    let refused : Outcome → Type 0 = λ o. (o.status ≡ status) × says o.message in
    let long = long-loaded contents left task.needs need l.stops.longer.0 l.stops.reached l.stops.longer.1 l.stops.longer.2 in
    record {
      statuses = omega (arith, six);
      whole = λ zero_is. absurd (omega (arith, six));
      end = λ zero_is. absurd (omega (arith, six));
      silent = λ zero_is. absurd (omega (arith, six));
      refusal = λ one_is. absurd (omega (arith, six));
      usage = λ two_is. absurd (omega (arith, six));
      longer = λ six_is. (need, l.stops, k.1);
      refused = λ refusal. foretold task contents left (Err (MissesLimit need)) refused long (λ needs. (sym six, k.1));
      read = λ three_is. absurd (omega (arith, six));
      steady = λ three_is. absurd (omega (arith, six));
      part = λ four_is. absurd (omega (arith, six));
      memory = λ five_is. absurd (omega (arith, six));
      exact = foretold task contents left (Err (MissesLimit need)) (IsStatusFor status) long (λ needs. inl six);
      untouched = λ not_zero not_four. refl;
      kept = λ not_zero not_four. l.same_contents;
      unstored = λ why. l.same_stores;
      aside = λ no_stream. refl;
      unread = l.unread;
      unreached = foretold_unread task contents by.left input new_input l.unreached;
      unasked = λ no_need no_file. l.unasked no_need;
    }
stopped_run by task answer_with load_stop.Memory status files new_files input new_input output errors new_errors l k =
    let five = k.0 in
    record {
      statuses = omega (arith, five);
      whole = λ zero_is. absurd (omega (arith, five));
      end = λ zero_is. absurd (omega (arith, five));
      silent = λ zero_is. absurd (omega (arith, five));
      refusal = λ one_is. absurd (omega (arith, five));
      usage = λ two_is. absurd (omega (arith, five));
      longer = λ six_is. absurd (omega (arith, five));
      refused = λ refusal. absurd (grind (arith, five));
      read = λ three_is. absurd (omega (arith, five));
      steady = λ three_is. absurd (omega (arith, five));
      part = λ four_is. absurd (omega (arith, five));
      memory = λ five_is. k.1;
      exact = λ known text tells. inr (inl five);
      untouched = λ not_zero not_four. refl;
      kept = λ not_zero not_four. l.same_contents;
      unstored = λ why. l.same_stores;
      aside = λ no_stream. refl;
      unread = l.unread;
      unreached = foretold_unread task (by.contents files) by.left input new_input l.unreached;
      unasked = λ no_need no_file. l.unasked no_need;
    }
