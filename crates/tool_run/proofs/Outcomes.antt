-- From loading and delivering to what a run does.
use Rattle.std.proofs.Common.{◌≡◌, ◌⊎◌, ◌≤◌, ℕ, Bool, true, false, not, List, [], ◌∷◌, refl, sym, ap, subst, ◌∙◌, inl, inr, arith}
use Rattle.std.specs.Prelude.{Option, None, Some, option_map, Result, Ok, Err, IfOk, IfErr, MatchOption}
use Rattle.std.proofs.lemmas.Bool.{cases_Bool, or_left, or_right}
use Rattle.ice_io.specs.Faults.{Rose}
use Rattle.ice_io.specs.Files.{FileMap}
use Rattle.tool_run.specs.Needs.{Need, is_stream, reads_files, reads_input}
use Rattle.tool_run.specs.Lines.{line_of, read_failed}
use Rattle.tool_run.specs.Tasks.{Answer, Both, Refused, Quiet, UsageError, LoadFault, Missing, TooLong, Outcome, Task, answered, bytes_of, ended, loaded, outcome_of, reached, reached_after}
use Rattle.tool_run.specs.Effects.{Foretells, SourceRose, Tells}
use Rattle.tool_run.specs.Counts.{Counts}
use Rattle.tool_run.specs.Loads.{AreTextsOf, FailsToLoad, IsReached}
use Rattle.tool_run.specs.Stops.{StopsWith}
use Rattle.tool_run.specs.Answering.{Gives}
use Rattle.tool_run.specs.Intakes.{TakesOrStops}
use Rattle.tool_run.specs.declared.tool.Stop.{Stop}
use Rattle.tool_run.specs.Jobs.{RefusesWith}
use Rattle.tool_run.specs.Runs.{HasBytes, IsRefusal, IsStatusFor}
use Rattle.tool_run.proofs.Reaching.{AreTold, NameIsTold, WhereTold, input-reached, missing-loaded, texts-loaded}

-- ---- what the outcome reads is what is reached

answered-reads_files : (task : Task) (needs : List Need) (answer : Answer) → (answered task needs answer).reads_files ≡ reads_files needs
answered-reads_files task needs (Both bytes beside) = refl
answered-reads_files task needs (Refused text) = refl
answered-reads_files task needs Quiet = refl
answered-reads_files task needs (UsageError text) = refl

ended-reads_files : (task : Task) (needs : List Need) (result : Result (List (List ℕ)) LoadFault) → (ended task needs result).reads_files ≡ reads_files needs
ended-reads_files task needs (Ok texts) = answered-reads_files task needs (task.answer texts)
ended-reads_files task needs (Err (Missing need)) = refl
ended-reads_files task needs (Err (TooLong need)) = refl

answered-reads_input : (task : Task) (needs : List Need) (answer : Answer) → (answered task needs answer).reads_input ≡ reads_input needs
answered-reads_input task needs (Both bytes beside) = refl
answered-reads_input task needs (Refused text) = refl
answered-reads_input task needs Quiet = refl
answered-reads_input task needs (UsageError text) = refl

ended-reads_input : (task : Task) (needs : List Need) (result : Result (List (List ℕ)) LoadFault) → (ended task needs result).reads_input ≡ reads_input needs
ended-reads_input task needs (Ok texts) = answered-reads_input task needs (task.answer texts)
ended-reads_input task needs (Err (Missing need)) = refl
ended-reads_input task needs (Err (TooLong need)) = refl

-- what is told as far as it is reached is told one need after the other
told_each : (contents : Option FileMap) (left : Option (List ℕ)) (known : FileMap) (text : List ℕ) (needs : List Need)
    → (reads_files (reached known text needs) ≡ true → contents ≡ Some known) → (reads_input (reached known text needs) ≡ true → left ≡ Some text) → AreTold contents left known text needs
told_each contents left known text [] files input = tt
told_each contents left known text (need ∷ needs) files input = (
  side need.name (λ file. files (or_left (not (is_stream need.name)) (reads_files rest) (ap not file))) (λ stream. input (or_left (is_stream need.name) (reads_input rest) stream)),
  λ bytes gives. told_each contents left known text needs
      (λ reads. files (or_right (not (is_stream need.name)) (reads_files rest) (ap (λ (one : Result (List ℕ) LoadFault). reads_files (reached_after one (reached known text needs))) gives ∙ reads)))
      (λ reads. input (or_right (is_stream need.name) (reads_input rest) (ap (λ (one : Result (List ℕ) LoadFault). reads_input (reached_after one (reached known text needs))) gives ∙ reads))),
)
  where
    rest : List Need
    rest = reached_after (bytes_of known text need) (reached known text needs)

    side : (name : Option (List ℕ)) → (is_stream name ≡ false → contents ≡ Some known) → (is_stream name ≡ true → left ≡ Some text) → NameIsTold contents left known text name
    side None file stream = stream refl
    side (Some name) file stream = file refl

pub told : (task : Task) (contents : Option FileMap) (left : Option (List ℕ)) (known : FileMap) (text : List ℕ) → Tells (outcome_of task known text) contents left known text → AreTold contents left known text task.needs
told task contents left known text tells =
    let needs = reached known text task.needs in
    let result = loaded known text task.needs in
    told_each contents left known text task.needs (λ reads. tells.files_told (ended-reads_files task needs result ∙ reads)) (λ reads. tells.input_told (ended-reads_input task needs result ∙ reads))

-- ---- what the outcome is

-- the outcome, where it is known what was loaded
pub foretold : (task : Task) (contents : Option FileMap) (left : Option (List ℕ)) (result : Result (List (List ℕ)) LoadFault) (P : Outcome → Type 0)
    → WhereTold contents left task.needs (λ known text. loaded known text task.needs ≡ result) → ((needs : List Need) → P (ended task needs result)) → Foretells task contents left P
foretold task contents left result P gives holds = λ known text tells.
    let same = gives known text (told task contents left known text tells) in
    let needs = reached known text task.needs in
    let ends : Result (List (List ℕ)) LoadFault → Type 0 = λ r. P (ended task needs r) in
    subst ends (sym same) (holds needs)

-- the outcome, where the needs have texts
pub foretold-texts : (task : Task) (contents : Option FileMap) (left : Option (List ℕ)) (texts : List (List ℕ)) (P : Outcome → Type 0)
    → AreTextsOf contents left task.needs texts → ((needs : List Need) → P (answered task needs (task.answer texts))) → Foretells task contents left P
foretold-texts task contents left texts P are holds = foretold task contents left (Ok texts) P (λ known text told. texts-loaded contents left known text task.needs texts are told) holds

-- what is read
pub foretold_input : (task : Task) (contents : Option FileMap) (left : Option (List ℕ))
    → WhereTold contents left task.needs (λ known text. reads_input (reached known text task.needs) ≡ true) → Foretells task contents left (λ o. o.reads_input ≡ true)
foretold_input task contents left holds = λ known text tells.
    ended-reads_input task (reached known text task.needs) (loaded known text task.needs) ∙ holds known text (told task contents left known text tells)

-- standard input stays as it was where it isn't read
pub foretold_unread : {I : Type 0} (task : Task) (contents : Option FileMap) (left : I → Option (List ℕ)) (input new_input : I) → IsReached contents left task.needs input new_input
    → Foretells task contents (left input) (λ o. o.reads_input ≡ false → new_input ≡ input)
foretold_unread task contents left input new_input is = λ known text tells unread. elim is [
  | inl same ↦ same
  | inr (need, stream, reaches) ↦
      let both : true ≡ false = sym (foretold_input task contents (left input) (input-reached contents (left input) task.needs need reaches stream) known text tells) ∙ unread in
      absurd cc
]

-- ---- the answer's outcome

pub has_bytes : (task : Task) (needs : List Need) (answer : Answer) (bytes beside : List ℕ) → answer ≡ Both bytes beside → HasBytes bytes beside (answered task needs answer)
has_bytes task needs answer bytes beside done =
    let has : Answer → Type 0 = λ a. HasBytes bytes beside (answered task needs a) in
    subst has (sym done) (refl, refl, refl)

-- what is made is an answer, or the stop is its refusal
pub gives_of : {M : Type 0} (answer_with : M → Answer) (made : Result M Stop) (answer : Answer) → IfOk made (λ product. answer ≡ answer_with product) → IfErr made (StopsWith answer) → Gives answer_with answer made
gives_of answer_with (Ok product) answer done stops = done
gives_of answer_with (Err stop) answer done stops = stops

-- what an intake has taken at first, or why there is none
pub begun : {I : Type 0} (takes : I → List ℕ → Type 0) (answer : List (List ℕ) → Answer) (result : Result I Stop) → IfOk result (λ intake. takes intake [])
    → IfErr result (λ stop. (texts : List (List ℕ)) → StopsWith (answer texts) stop) → TakesOrStops takes answer result []
begun takes answer (Ok intake) taken stops = taken
begun takes answer (Err stop) taken stops = stops

pub refuses : (task : Task) (needs : List Need) (answer : Answer) (status : ℕ) (said : Option (List ℕ)) (S : Option (List ℕ) → Type 0) → RefusesWith answer status said → S (option_map (line_of task.tool_name) said)
    → ((answered task needs answer).status ≡ status) × S (answered task needs answer).message
refuses task needs (Both bytes beside) status said S none says = absurd none
refuses task needs (Refused text) status said S with says = (sym with.0, subst (λ (t : Option (List ℕ)). S (option_map (line_of task.tool_name) t)) with.1 says)
refuses task needs Quiet status said S with says = (sym with.0, subst (λ (t : Option (List ℕ)). S (option_map (line_of task.tool_name) t)) with.1 says)
refuses task needs (UsageError text) status said S with says = (sym with.0, subst (λ (t : Option (List ℕ)). S (option_map (line_of task.tool_name) t)) with.1 says)

-- the tool's refusal, or it is quiet
pub refuses-so : (answer : Answer) (status : ℕ) (said : Option (List ℕ)) (S : Option (List ℕ) → Type 0) → status ≡ 1 → RefusesWith answer status said → S said
    → ((text : List ℕ) × (answer ≡ Refused text) × S (Some text)) ⊎ ((answer ≡ Quiet) × S None)
refuses-so (Both bytes beside) status said S one_is none says = absurd none
refuses-so (Refused text) status said S one_is with says = inl (text, refl, subst S with.1 says)
refuses-so Quiet status said S one_is with says = inr (refl, subst S with.1 says)
refuses-so (UsageError text) status said S one_is with says = absurd (omega (arith, with.0))

-- a command line that isn't taken
pub takes-not : (answer : Answer) (status : ℕ) (said : Option (List ℕ)) (S : Option (List ℕ) → Type 0) → status ≡ 2 → RefusesWith answer status said → S said
    → (text : List ℕ) × (answer ≡ UsageError text) × S (Some text)
takes-not (Both bytes beside) status said S two_is none says = absurd none
takes-not (Refused text) status said S two_is with says = absurd (omega (arith, with.0))
takes-not Quiet status said S two_is with says = absurd (omega (arith, with.0))
takes-not (UsageError text) status said S two_is with says = (text, refl, subst S with.1 says)

-- the statuses of a conclusion
abbrev pub IsConcluded : ℕ → Type 0
IsConcluded status = (status ≡ 0) ⊎ (status ≡ 1) ⊎ (status ≡ 2) ⊎ (status ≡ 4) ⊎ (status ≡ 5)

pub concluded-small : (status : ℕ) → IsConcluded status → status ≤ 6
concluded-small status concluded = grind arith

pub refused-one : (status : ℕ) → IsConcluded status → IsRefusal status → (status ≡ 1) ⊎ (status ≡ 2)
refused-one status concluded refusal = grind arith

pub not-read : {P : Type 0} (status : ℕ) → IsConcluded status → status ≡ 3 → P
not-read status concluded read = absurd (grind arith)

pub not-long : {P : Type 0} (status : ℕ) → IsConcluded status → status ≡ 6 → P
not-long status concluded long = absurd (grind arith)

pub exact-answer : (task : Task) (needs : List Need) (answer : Answer) (status : ℕ) → IsConcluded status → ((status ≡ 0) → (bytes : List ℕ) × (beside : List ℕ) × (answer ≡ Both bytes beside))
    → ((status ≡ 4) → (bytes : List ℕ) × (beside : List ℕ) × (answer ≡ Both bytes beside))
    → ((status ≡ 1) ⊎ (status ≡ 2) → (said : Option (List ℕ)) × RefusesWith answer status said) → IsStatusFor status (answered task needs answer)
exact-answer task needs answer status concluded done part refused = elim concluded [
  | inl zero_is ↦ let d = done zero_is in inl (zero_is ∙ sym (has_bytes task needs answer d.0 d.1 d.2).0)
  | inr (inl one_is) ↦ let r = refused (inl one_is) in inl (sym (refuses task needs answer status r.0 (λ t. Unit {0}) r.1 tt).0)
  | inr (inr (inl two_is)) ↦ let r = refused (inr two_is) in inl (sym (refuses task needs answer status r.0 (λ t. Unit {0}) r.1 tt).0)
  | inr (inr (inr (inl four_is))) ↦ let d = part four_is in inr (inr (inr (four_is, (has_bytes task needs answer d.0 d.1 d.2).0)))
  | inr (inr (inr (inr five_is))) ↦ inr (inl five_is)
]

-- standard input that failed raised the count of the input
pub input-rose : (need : Need) (loads new_loads inputs new_inputs : Counts) → is_stream need.name ≡ true → SourceRose need loads new_loads inputs new_inputs → Rose inputs.faults new_inputs.faults
input-rose need loads new_loads inputs new_inputs stream rose = by_name need.name stream rose
  where
    by_name : (name : Option (List ℕ)) → is_stream name ≡ true → MatchOption name (Rose inputs.faults new_inputs.faults) (λ n. Rose loads.faults new_loads.faults) → Rose inputs.faults new_inputs.faults
    by_name None stream rose = rose
    by_name (Some name) stream rose = absurd cc

-- over steady files a failure is the outcome's, unless standard input failed that the outcome reads
pub foretold_failure : {I : Type 0} (task : Task) (contents : Option FileMap) (steady : Bool) (left : I → Option (List ℕ)) (reads : I → Counts) (loads new_loads : Counts) (input new_input : I) (need : Need) (S : Option (List ℕ) → Type 0)
    → FailsToLoad contents steady left reads task.needs loads new_loads input new_input need → S (Some (line_of task.tool_name (read_failed need))) → steady ≡ true
    → Foretells task contents (left input) (λ o. (o.reads_input ≡ true → Rose (reads input).faults (reads new_input).faults → ⊥) → (o.status ≡ 3) × S o.message)
foretold_failure task contents steady left reads loads new_loads input new_input need S fails says is_steady = λ known text tells.
    let failed : Outcome → Type 0 = λ o. (o.reads_input ≡ true → Rose (reads input).faults (reads new_input).faults → ⊥) → (o.status ≡ 3) × S o.message in
    elim (cases_Bool (is_stream need.name)) [
      | inl stream ↦ λ unread. absurd (unread (foretold_input task contents (left input) (input-reached contents (left input) task.needs need fails.reached stream) known text tells)
          (input-rose need loads new_loads (reads input) (reads new_input) stream fails.rose))
      | inr file ↦ foretold task contents (left input) (Err (Missing need)) failed (missing-loaded contents (left input) task.needs need fails.reached file (fails.lacks is_steady)) (λ needs unread. (refl, says)) known text tells
    ]
