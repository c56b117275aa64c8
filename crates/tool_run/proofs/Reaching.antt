-- What is loaded and reached of needs that have texts, where these are told.
use Rattle.std.proofs.Common.{◌≡◌, ℕ, ◌<◌, true, false, List, [], ◌∷◌, ◌++◌, length, refl, sym, ap, subst, ◌∙◌}
use Rattle.std.specs.Prelude.{Option, None, Some, Result, Ok, Err, MatchOption, nat_lt}
use Rattle.std.specs.FinMap.{get}
use Rattle.std.proofs.lemmas.Bool.{le-ltb, lt-ltb, or_left, or_right}
use Rattle.std.proofs.lemmas.List.{append-nil}
use Rattle.std.proofs.lemmas.List.Folds.{list_any-append}
use Rattle.ice_io.specs.Files.{FileMap, HasFile, LacksFile}
use Rattle.tool_run.specs.Needs.{Need, is_stream, reads_input}
use Rattle.tool_run.specs.Tasks.{LoadFault, Missing, TooLong, bytes_by, bytes_of, limited, loaded, loaded_after, reached, reached_after, with_first}
use Rattle.tool_run.specs.Loads.{AreTextsOf, HasInput, IsTextOf, Reaches, SourceHas}

-- ---- what is told

-- the side of a need is told: the input, or the files
abbrev pub NameIsTold : Option FileMap → Option (List ℕ) → FileMap → List ℕ → Option (List ℕ) → Type 0
NameIsTold contents left known text None = left ≡ Some text
NameIsTold contents left known text (Some name) = contents ≡ Some known

-- the side of the first need is told, and of the others where the first could be read
abbrev pub AreTold : Option FileMap → Option (List ℕ) → FileMap → List ℕ → List Need → Type 0
AreTold contents left known text [] = Unit {0}
AreTold contents left known text (need ∷ needs) =
    NameIsTold contents left known text need.name
    × ((bytes : List ℕ) → bytes_of known text need ≡ Ok bytes → AreTold contents left known text needs)

-- where the needs are told as far as they are read, P holds of files and input
abbrev pub WhereTold : Option FileMap → Option (List ℕ) → List Need → (FileMap → List ℕ → Type 0) → Type 0
WhereTold contents left needs P = (known : FileMap) (text : List ℕ) → AreTold contents left known text needs → P known text

module _ (contents : Option FileMap) (left : Option (List ℕ)) (known : FileMap) (text : List ℕ) where
  -- ---- one need

  -- a need with a text
  one_loaded : (need : Need) (bytes : List ℕ) → NameIsTold contents left known text need.name → IsTextOf contents left need bytes → bytes_of known text need ≡ Ok bytes
  one_loaded need bytes told is = by_name need.name told is.1
    where
      within : limited need bytes ≡ Ok bytes
      within = let short : nat_lt need.limit (length bytes) ≡ false = le-ltb need.limit (length bytes) is.0 in rw short refl

      by_name : (name : Option (List ℕ)) → NameIsTold contents left known text name → SourceHas contents left name bytes → bytes_by known text need name ≡ Ok bytes
      by_name None here has = let same : text ≡ bytes = subst (λ (l : Option (List ℕ)). HasInput l bytes) here has in rw same within
      by_name (Some name) here has = let gives : get known name ≡ Some bytes = subst (λ (c : Option FileMap). HasFile c name bytes) here has in rw gives within

  -- one that passes its limit
  one_long : (need : Need) (bytes : List ℕ) → SourceHas contents left need.name bytes → need.limit < length bytes → NameIsTold contents left known text need.name → bytes_of known text need ≡ Err (TooLong need)
  one_long need bytes has more told = by_name need.name told has
    where
      over : limited need bytes ≡ Err (TooLong need)
      over = let long : nat_lt need.limit (length bytes) ≡ true = lt-ltb need.limit (length bytes) more in rw long refl

      by_name : (name : Option (List ℕ)) → NameIsTold contents left known text name → SourceHas contents left name bytes → bytes_by known text need name ≡ Err (TooLong need)
      by_name None here has = let same : text ≡ bytes = subst (λ (l : Option (List ℕ)). HasInput l bytes) here has in rw same over
      by_name (Some name) here has = let gives : get known name ≡ Some bytes = subst (λ (c : Option FileMap). HasFile c name bytes) here has in rw gives over

  -- a file that is missing
  one_missing : (need : Need) → is_stream need.name ≡ false → MatchOption need.name (Unit {0}) (λ name. LacksFile contents name) → NameIsTold contents left known text need.name → bytes_of known text need ≡ Err (Missing need)
  one_missing need file lacks told = by_name need.name file lacks told
    where
      by_name : (name : Option (List ℕ)) → is_stream name ≡ false → MatchOption name (Unit {0}) (λ n. LacksFile contents n) → NameIsTold contents left known text name → bytes_by known text need name ≡ Err (Missing need)
      by_name None file lacks here = absurd cc
      by_name (Some name) file lacks here = let gone : get known name ≡ None = subst (λ (c : Option FileMap). LacksFile c name) here lacks in rw gone refl

  -- ---- needs before others

  -- texts before what the others give
  abbrev joined : List (List ℕ) → Result (List (List ℕ)) LoadFault → Result (List (List ℕ)) LoadFault
  joined texts (Ok others) = Ok (texts ++ others)
  joined texts (Err fault) = Err fault

  joined-none : (others : Result (List (List ℕ)) LoadFault) → others ≡ joined [] others
  joined-none (Ok others) = refl
  joined-none (Err fault) = refl

  joined-first : (bytes : List ℕ) (texts : List (List ℕ)) (others : Result (List (List ℕ)) LoadFault) → with_first bytes (joined texts others) ≡ joined (bytes ∷ texts) others
  joined-first bytes texts (Ok others) = refl
  joined-first bytes texts (Err fault) = refl

  -- after needs with texts, others are told, loaded and reached
  record After (before others : List Need) (texts : List (List ℕ)) : Type 0 where
    told : AreTold contents left known text others
    loads : loaded known text (before ++ others) ≡ joined texts (loaded known text others)
    reaches : reached known text (before ++ others) ≡ before ++ reached known text others

  after : (before others : List Need) (texts : List (List ℕ)) → AreTextsOf contents left before texts → AreTold contents left known text (before ++ others) → After before others texts
  after [] others [] are told = record { told = told; loads = joined-none (loaded known text others); reaches = refl }
  after [] others (bytes ∷ texts) are told = absurd are
  after (need ∷ before) others [] are told = absurd are
  after (need ∷ before) others (bytes ∷ texts) are told =
      let gives = one_loaded need bytes told.0 are.0 in
      let more = after before others texts are.1 (told.1 bytes gives) in
      record {
        told = more.told;
        loads = ap (λ (one : Result (List ℕ) LoadFault). loaded_after one (loaded known text (before ++ others))) gives
            ∙ ap (with_first bytes) more.loads ∙ joined-first bytes texts (loaded known text others);
        reaches = ap (λ (one : Result (List ℕ) LoadFault). need ∷ reached_after one (reached known text (before ++ others))) gives
            ∙ ap (λ (rest : List Need). need ∷ rest) more.reaches;
      }

  -- all needs have texts
  pub texts-loaded : (needs : List Need) (texts : List (List ℕ)) → AreTextsOf contents left needs texts → AreTold contents left known text needs → loaded known text needs ≡ Ok texts
  texts-loaded needs texts are told =
      let here = after needs [] texts are (subst (λ (all : List Need). AreTold contents left known text all) (sym (append-nil needs)) told) in
      ap (loaded known text) (sym (append-nil needs)) ∙ here.loads ∙ ap (λ (all : List (List ℕ)). Ok all) (append-nil texts)

  -- a need is reached
  reaches : (needs : List Need) (need : Need) (r : Reaches contents left needs need) → AreTold contents left known text needs → After r.before (need ∷ r.after) r.texts
  reaches needs need r told = after r.before (need ∷ r.after) r.texts r.read (subst (λ (all : List Need). AreTold contents left known text all) r.order told)

  stops-at : (needs : List Need) (need : Need) (fault : LoadFault) → Reaches contents left needs need → (NameIsTold contents left known text need.name → bytes_of known text need ≡ Err fault)
      → AreTold contents left known text needs → loaded known text needs ≡ Err fault
  stops-at needs need fault r fails told =
      let here = reaches needs need r told in
      ap (loaded known text) r.order ∙ here.loads
      ∙ ap (λ (one : Result (List ℕ) LoadFault). joined r.texts (loaded_after one (loaded known text r.after))) (fails here.told.0)

-- ---- where loading stops

pub long-loaded : (contents : Option FileMap) (left : Option (List ℕ)) (needs : List Need) (need : Need) (bytes : List ℕ) → Reaches contents left needs need → SourceHas contents left need.name bytes → need.limit < length bytes
    → WhereTold contents left needs (λ known text. loaded known text needs ≡ Err (TooLong need))
long-loaded contents left needs need bytes r has more = λ known text told.
    stops-at contents left known text needs need (TooLong need) r (one_long contents left known text need bytes has more) told

pub missing-loaded : (contents : Option FileMap) (left : Option (List ℕ)) (needs : List Need) (need : Need) → Reaches contents left needs need → is_stream need.name ≡ false → MatchOption need.name (Unit {0}) (λ name. LacksFile contents name)
    → WhereTold contents left needs (λ known text. loaded known text needs ≡ Err (Missing need))
missing-loaded contents left needs need r file lacks = λ known text told.
    stops-at contents left known text needs need (Missing need) r (one_missing contents left known text need file lacks) told

-- standard input is read where it is reached
pub input-reached : (contents : Option FileMap) (left : Option (List ℕ)) (needs : List Need) (need : Need) → Reaches contents left needs need → is_stream need.name ≡ true
    → WhereTold contents left needs (λ known text. reads_input (reached known text needs) ≡ true)
input-reached contents left needs need r stream = λ known text told.
    let rest = reached known text (need ∷ r.after) in
    let others = reached_after (bytes_of known text need) (reached known text r.after) in
    ap (λ (all : List Need). reads_input (reached known text all)) r.order
    ∙ ap reads_input (reaches contents left known text needs need r told).reaches
    ∙ list_any-append (λ (n : Need). is_stream n.name) r.before rest
    ∙ or_right (reads_input r.before) (reads_input rest) (or_left (is_stream need.name) (reads_input others) stream)
