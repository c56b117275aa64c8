-- A layout file that is read before other needs.
use Rattle.std.proofs.Common.{◌≡◌, ◌∙◌, ◌+◌, ℕ, Bool, true, false, List, [], ◌∷◌, ap, subst, inl, inr, arith}
use Rattle.std.specs.Prelude.{Option, Some, Result, Ok, Err, IfOk, IfErr}
use Rattle.ice_io.specs.Files.{FileMap}
use Rattle.tool_run.specs.Answering.{Answers, Gives}
use Rattle.tool_run.specs.Counts.{Counts, NeverFall}
use Rattle.tool_run.specs.Loads.{AreTextsOf, IsReached, IsTextOf, Reaches, StopsLoading}
use Rattle.tool_run.specs.Needs.{Need, layout_need, need_of}
use Rattle.tool_run.specs.Tasks.{Answer, layout_first}
use Rattle.tool_run.specs.declared.load.LoadStop.{LoadStop}
use Rattle.tool_run.specs.declared.load.LoadStop.TheVariants.{Failed, TooLong, Memory}
use Rattle.tool_run.specs.declared.tool.Stop.{Stop}
use Rattle.tool_run.proofs.Loading.{SourceGave-earlier, SourceRose-earlier, stops_after_others, stops_now}

-- a need that is reached is reached after a first one too
reaches_after : (contents : Option FileMap) (left : Option (List ℕ)) (first need : Need) (needs : List Need) (text : List ℕ) → IsTextOf contents left first text
    → Reaches contents left needs need → Reaches contents left (first ∷ needs) need
reaches_after contents left first need needs text is r = record {
  before = first ∷ r.before;
  after = r.after;
  texts = text ∷ r.texts;
  order = ap (λ (all : List Need). first ∷ all) r.order;
  read = (is, r.read);
}

-- loading stopped after a first need was read
stops_after : {I : Type 0} (contents : Option FileMap) (steady : Bool) (left : I → Option (List ℕ)) (reads : I → Counts) (first : Need) (needs : List Need) (text : List ℕ) (loads loads_now new_loads : Counts) (input new_input : I) (stop : LoadStop)
    → IsTextOf contents (left input) first text → NeverFall loads loads_now
    → StopsLoading contents steady left reads needs loads_now new_loads input new_input stop → StopsLoading contents steady left reads (first ∷ needs) loads new_loads input new_input stop
stops_after contents steady left reads first needs text loads loads_now new_loads input new_input (Failed load) is le fails = record {
  reached = reaches_after contents (left input) first (need_of load) needs text is fails.reached;
  rose = SourceRose-earlier (need_of load) loads_now loads new_loads (reads input) (reads new_input) le fails.rose;
  lacks = fails.lacks;
  untried = fails.untried;
}
stops_after contents steady left reads first needs text loads loads_now new_loads input new_input (TooLong load) is le passes = record {
  reached = reaches_after contents (left input) first (need_of load) needs text is passes.reached;
  gave = SourceGave-earlier ((need_of load).limit + 1) (need_of load) loads_now loads new_loads (reads input) (reads new_input) le passes.gave;
  longer = passes.longer;
  untried = passes.untried;
}
stops_after contents steady left reads first needs text loads loads_now new_loads input new_input Memory is le memory = tt

module _ {F I M : Type 0} (contents : F → Option FileMap) (steady : F → Bool) (loads stores : F → Counts) (left : I → Option (List ℕ)) (reads : I → Counts)
    (file : List ℕ) (needs : List Need) (answer : Option (List ℕ) → List (List ℕ) → Answer) (answer_with : M → Answer) where
  -- what is made after the layout file was read
  module _ (files middle : F) (input middle_input : I) (text : List ℕ) (is : IsTextOf (contents files) (left input) (layout_need file) text)
      (same_contents : contents middle ≡ contents files) (same_input : middle_input ≡ input) where
    texts_now : (texts : List (List ℕ)) → AreTextsOf (contents middle) (left middle_input) needs texts → AreTextsOf (contents files) (left input) needs texts
    texts_now texts are =
        subst (λ (c : Option FileMap). AreTextsOf c (left input) needs texts) same_contents
        (subst (λ (i : I). AreTextsOf (contents middle) (left i) needs texts) same_input are)

    reaches_now : (need : Need) → Reaches (contents middle) (left middle_input) needs need → Reaches (contents files) (left input) needs need
    reaches_now need r =
        subst (λ (c : Option FileMap). Reaches c (left input) needs need) same_contents
        (subst (λ (i : I). Reaches (contents middle) (left i) needs need) same_input r)

    made_after : (result : Result (Result M Stop) LoadStop)
        → IfOk result (λ made. (texts : List (List ℕ)) × AreTextsOf (contents middle) (left middle_input) needs texts × Gives answer_with (answer (Some text) texts) made)
        → IfOk result (λ made. (texts : List (List ℕ)) × AreTextsOf (contents files) (left input) (layout_need file ∷ needs) texts × Gives answer_with (layout_first (Some file) answer texts) made)
    made_after (Ok made) m = (text ∷ m.0, (is, texts_now m.0 m.1), m.2)
    made_after (Err stop) m = tt

    stopped_after : (new_files : F) (new_input : I) (result : Result (Result M Stop) LoadStop) → steady middle ≡ steady files → NeverFall (loads files) (loads middle)
        → IfErr result (StopsLoading (contents middle) (steady middle) left reads needs (loads middle) (loads new_files) middle_input new_input)
        → IfErr result (StopsLoading (contents files) (steady files) left reads (layout_need file ∷ needs) (loads files) (loads new_files) input new_input)
    stopped_after new_files new_input (Ok made) same_steady le stops = tt
    stopped_after new_files new_input (Err stop) same_steady le stops =
        stops_after (contents files) (steady files) left reads (layout_need file) needs text (loads files) (loads middle) (loads new_files) input new_input stop is le
        (stops_now (contents files) (contents middle) (steady files) (steady middle) left reads needs (loads middle) (loads new_files) input middle_input new_input stop
        same_contents same_steady same_input stops)

    reached_after : (new_input : I) → IsReached (contents middle) left needs middle_input new_input → IsReached (contents files) left (layout_need file ∷ needs) input new_input
    reached_after new_input reached = elim reached [
      | inl same ↦ inl (same ∙ same_input)
      | inr r ↦ inr (r.0, r.1, reaches_after (contents files) (left input) (layout_need file) r.0 needs text is (reaches_now r.0 r.2))
    ]

    -- the layout file was read, and then the needs
    pub answers_after : (new_files : F) (new_input : I) (result : Result (Result M Stop) LoadStop)
        → steady middle ≡ steady files → NeverFall (loads files) (loads middle) → stores middle ≡ stores files
        → Answers contents steady loads stores left reads needs (answer (Some text)) answer_with result middle new_files middle_input new_input
        → Answers contents steady loads stores left reads (layout_need file ∷ needs) (layout_first (Some file) answer) answer_with result files new_files input new_input
    answers_after new_files new_input result same_steady le same_stores a = record {
      made = made_after result a.made;
      stops = stopped_after new_files new_input result same_steady le a.stops;
      end = a.end;
      same_contents = a.same_contents ∙ same_contents;
      same_stores = a.same_stores ∙ same_stores;
      unread = λ none. a.unread none ∙ same_input;
      unreached = reached_after new_input a.unreached;
      unasked = λ none. let both : true ≡ false = none in absurd cc;
    }

  -- the layout file wasn't read
  pub answers_stopped : (files new_files : F) (input new_input : I) (stop : LoadStop)
      → StopsLoading (contents files) (steady files) left reads (layout_need file ∷ []) (loads files) (loads new_files) input new_input stop
      → contents new_files ≡ contents files → stores new_files ≡ stores files → new_input ≡ input
      → Answers contents steady loads stores left reads (layout_need file ∷ needs) (layout_first (Some file) answer) answer_with (Err stop) files new_files input new_input
  answers_stopped files new_files input new_input stop stops same_contents same_stores same_input = record {
    made = tt;
    stops = stops_after_others (contents files) (steady files) left reads [] needs (layout_need file) [] (loads files) (loads files) (loads new_files) input new_input stop tt (omega arith, omega arith) stops;
    end = tt;
    same_contents = same_contents;
    same_stores = same_stores;
    unread = λ none. same_input;
    unreached = inl same_input;
    unasked = λ none. let both : true ≡ false = none in absurd cc;
  }
