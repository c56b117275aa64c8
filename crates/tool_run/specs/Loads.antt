-- Loading one need after the other.
use Rattle.std.specs.Prelude.{◌≡◌, ◌⊎◌, ℕ, ◌+◌, ◌<◌, ◌≤◌, Bool, true, false, List, ◌∷◌, ◌++◌, length, Option, None, Some, MatchOption, ⊤}
use Rattle.std.specs.List.{AllZip}
use Rattle.ice_io.specs.Files.{FileMap, HasFile, LacksFile}
use Rattle.tool_run.specs.Needs.{Need, is_stream, need_of}
use Rattle.tool_run.specs.Counts.{Counts}
use Rattle.tool_run.specs.Effects.{SourceGave, SourceRose}
use Rattle.tool_run.specs.declared.load.LoadStop.{LoadStop}
use Rattle.tool_run.specs.declared.load.LoadStop.TheVariants.{Failed, TooLong, Memory}

-- if standard input is told, it has these bytes
abbrev pub HasInput : Option (List ℕ) → List ℕ → Type 0
HasInput None bytes = ⊤
HasInput (Some input) bytes = input ≡ bytes

-- if it is told, standard input has these bytes, or the file of that name
abbrev pub SourceHas : Option FileMap → Option (List ℕ) → Option (List ℕ) → List ℕ → Type 0
SourceHas contents left None bytes = HasInput left bytes
SourceHas contents left (Some name) bytes = HasFile contents name bytes

-- bytes that a need may have: no more than its limit, and those that are told if they are told
abbrev pub IsTextOf : Option FileMap → Option (List ℕ) → Need → List ℕ → Type 0
IsTextOf contents left need bytes = (length bytes ≤ need.limit) × SourceHas contents left need.name bytes

-- texts that needs may have: one for each, in their order
abbrev pub AreTextsOf : Option FileMap → Option (List ℕ) → List Need → List (List ℕ) → Type 0
AreTextsOf contents left needs texts = AllZip (IsTextOf contents left) needs texts

-- a need comes after others that have texts
pub record Reaches (contents : Option FileMap) (left : Option (List ℕ)) (needs : List Need) (need : Need) : Type 0 where
  pub before : List Need
  pub after : List Need
  pub texts : List (List ℕ)
  pub order : needs ≡ before ++ need ∷ after
  pub read : AreTextsOf contents left before texts

-- a need failed to be read: it was reached, the count of its side rose, and over steady files there is no such file. If it is
-- a file, standard input wasn't tried
pub record FailsToLoad {I : Type 0} (contents : Option FileMap) (steady : Bool) (left : I → Option (List ℕ)) (reads : I → Counts) (needs : List Need) (loads new_loads : Counts) (input new_input : I) (need : Need) : Type 0 where
  pub reached : Reaches contents (left input) needs need
  pub rose : SourceRose need loads new_loads (reads input) (reads new_input)
  pub lacks : steady ≡ true → MatchOption need.name (Unit {0}) (λ name. LacksFile contents name)
  pub untried : is_stream need.name ≡ false → new_input ≡ input

-- a need passes its limit: it was reached, has more bytes, and more bytes than the limit were read on its side, from the files together or from
-- standard input. If it is a file, standard input wasn't tried
pub record PassesLimit {I : Type 0} (contents : Option FileMap) (left : I → Option (List ℕ)) (reads : I → Counts) (needs : List Need) (loads new_loads : Counts) (input new_input : I) (need : Need) : Type 0 where
  pub reached : Reaches contents (left input) needs need
  pub gave : SourceGave (need.limit + 1) need loads new_loads (reads input) (reads new_input)
  pub longer : (bytes : List ℕ) × SourceHas contents (left input) need.name bytes × (need.limit < length bytes)
  pub untried : is_stream need.name ≡ false → new_input ≡ input

-- why loading stopped
abbrev pub StopsLoading : {I : Type 0} → Option FileMap → Bool → (I → Option (List ℕ)) → (I → Counts) → List Need → Counts → Counts → I → I → LoadStop → Type 0
StopsLoading contents steady left reads needs loads new_loads input new_input (Failed load) =
    FailsToLoad contents steady left reads needs loads new_loads input new_input (need_of load)
StopsLoading contents steady left reads needs loads new_loads input new_input (TooLong load) =
    PassesLimit contents left reads needs loads new_loads input new_input (need_of load)
StopsLoading contents steady left reads needs loads new_loads input new_input Memory = Unit {0}

-- standard input stays as it was, unless it was reached
abbrev pub IsReached : {I : Type 0} → Option FileMap → (I → Option (List ℕ)) → List Need → I → I → Type 0
IsReached contents left needs input new_input =
    (new_input ≡ input) ⊎ ((need : Need) × (is_stream need.name ≡ true) × Reaches contents (left input) needs need)
