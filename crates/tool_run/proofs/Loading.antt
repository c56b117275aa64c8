-- What a load gives, and why it stops.
use Rattle.std.proofs.Common.{◌≡◌, ℕ, zero, suc, ◌+◌, ◌^◌, ◌<◌, ◌≤◌, Bool, true, false, not, ◌||◌, List, [], ◌∷◌, ◌++◌, length, get_or, take, drop, refl, sym, ap, subst, ◌∙◌, inl, inr, arith}
use Rattle.std.specs.Prelude.{Option, None, Some, IsSome, IsErrOf, Err, IsSomeAnd, MatchOption, replicate, map}
use Rattle.std.specs.FinMap.{get}
use Rattle.std.specs.declared.alloc.AllocError.{AllocError}
use Rattle.std.proofs.lemmas.Bool.{cases_Bool, not-false, or_parts}
use Rattle.std.proofs.Math.ListN.{get_or-map}
use Rattle.std.proofs.lemmas.Option.{slice_get-get_or}
use Rattle.std.proofs.lemmas.List.{append-nil, length-append, length-map, length-replicate, take-append-drop, take_all, take_more}
use Rattle.ice_io.specs.Faults.{Rose, RoseAtLeastBy, RoseBy}
use Rattle.ice_io.specs.Taken.{TakesAll, TakesCount}
use Rattle.ice_io.specs.declared.source.TakeFault.{TakeFault}
use Rattle.ice_io.specs.declared.source.TakeFault.TheVariants as take_fault
use Rattle.ice_io.specs.Files.{FileMap, HasFile, HasMore, LacksFile}
use Rattle.tool_run.specs.declared.load.Load.{Load}
use Rattle.tool_run.specs.declared.load.LoadStop.{LoadStop}
use Rattle.tool_run.specs.declared.load.LoadStop.TheVariants.{Failed, TooLong, Memory}
use Rattle.tool_run.specs.Needs.{IsFile, IsSound, Need, is_stream, need_of, reads_files, reads_input, text_of}
use Rattle.tool_run.specs.Effects.{SourceGave, SourceRose}
use Rattle.tool_run.specs.Counts.{Counts, NeverFall}
use Rattle.tool_run.specs.Loads.{AreTextsOf, HasInput, IsReached, Reaches, StopsLoading}

-- ---- one need

-- an error in an answer
pub failed-is : {T E : Type 0} (error other : E) → error ≡ other → IsErrOf {T = T} {E = E} (Err error) other
failed-is error other e = ap (λ x. Err x) e

-- all that was left in standard input
pub input_has : (left new_left : Option (List ℕ)) (bytes : List ℕ) → TakesAll left new_left bytes → HasInput left bytes
input_has None new_left bytes takes = tt
input_has (Some input) None bytes takes = absurd takes.0
input_has (Some input) (Some rest) bytes takes = takes.0 ∙ ap (λ r. bytes ++ r) takes.1 ∙ append-nil bytes

-- more than the limit was taken from it
input_longer : (left new_left : Option (List ℕ)) (limit : ℕ) → TakesCount left new_left (limit + 1) → (bytes : List ℕ) × HasInput left bytes × (limit < length bytes)
input_longer None new_left limit takes = (takes.0, tt, omega (arith, takes.2))
input_longer (Some input) None limit takes = absurd takes.1
input_longer (Some input) (Some rest) limit takes = (input, refl, omega (arith, takes.2, ap length takes.1, length-append takes.0 rest))

-- a file has more than the limit
file_longer : (contents : Option FileMap) (name : List ℕ) (limit : ℕ) → HasMore contents name limit → (bytes : List ℕ) × HasFile contents name bytes × (limit < length bytes)
file_longer None name limit more = (replicate (limit + 1) 0, tt, omega (arith, length-replicate {A = ℕ} (limit + 1) 0))
file_longer (Some known) name limit more = of (get known name) more
  where
    of : (file : Option (List ℕ)) → IsSomeAnd file (λ bytes. limit < length bytes) → (bytes : List ℕ) × (file ≡ Some bytes) × (limit < length bytes)
    of None more = absurd more
    of (Some bytes) more = (bytes, refl, more)

-- one need alone is reached
alone : (contents : Option FileMap) (left : Option (List ℕ)) (need : Need) → Reaches contents left (need ∷ []) need
alone contents left need = record { before = []; after = []; texts = []; order = refl; read = tt }

-- and no other
alone-is : (contents : Option FileMap) (left : Option (List ℕ)) (need other : Need) → Reaches contents left (need ∷ []) other → other ≡ need
alone-is contents left need other r = at r.before r.after r.order
  where
    at : (before after : List Need) → need ∷ [] ≡ before ++ other ∷ after → other ≡ need
    at [] after order = sym (ap (λ (all : List Need). get_or all 0 need) order)
    at (first ∷ before) after order = absurd (omega (arith, ap length order, length-append before (other ∷ after)))

-- why a load of a file stopped
pub file_stops : {I : Type 0} (contents : Option FileMap) (steady : Bool) (left : I → Option (List ℕ)) (reads : I → Counts) (load : Load) (name : List ℕ) (loads new_loads : Counts) (input : I) (fault : TakeFault) (stop : LoadStop) → text_of load.name ≡ Some name
    → (fault ≡ take_fault.Failed → Rose loads.faults new_loads.faults) → (fault ≡ take_fault.TooLong → RoseBy (load.limit + 1) loads.done new_loads.done) → (fault ≡ take_fault.Failed → steady ≡ true → LacksFile contents name) → (fault ≡ take_fault.TooLong → HasMore contents name load.limit)
    → (fault ≡ take_fault.Failed → stop ≡ Failed load) → (fault ≡ take_fault.TooLong → stop ≡ TooLong load) → ((e : AllocError) → fault ≡ take_fault.Memory e → stop ≡ Memory)
    → StopsLoading contents steady left reads (need_of load ∷ []) loads new_loads input input stop
file_stops contents steady left reads load name loads new_loads input take_fault.Failed stop is rose gave lacks more failed long memory =
    rw (failed refl) (record { reached = alone contents (left input) (need_of load); rose = rw is (rose refl); lacks = λ is_steady. rw is (lacks refl is_steady); untried = λ file. refl })
file_stops contents steady left reads load name loads new_loads input take_fault.TooLong stop is rose gave lacks more failed long memory =
    rw (long refl) (record { reached = alone contents (left input) (need_of load); gave = rw is (gave refl).0; longer = rw is (file_longer contents name load.limit (more refl)); untried = λ file. refl })
file_stops contents steady left reads load name loads new_loads input (take_fault.Memory e) stop is rose gave lacks more failed long memory = rw (memory e refl) tt

-- why a load of standard input stopped
pub input_stops : {I : Type 0} (contents : Option FileMap) (steady : Bool) (left : I → Option (List ℕ)) (reads : I → Counts) (load : Load) (loads new_loads : Counts) (input new_input : I) (fault : TakeFault) (stop : LoadStop) → text_of load.name ≡ None
    → (fault ≡ take_fault.Failed → Rose (reads input).faults (reads new_input).faults) → (fault ≡ take_fault.TooLong → RoseBy (load.limit + 1) (reads input).done (reads new_input).done) → (fault ≡ take_fault.TooLong → TakesCount (left input) (left new_input) (load.limit + 1))
    → (fault ≡ take_fault.Failed → stop ≡ Failed load) → (fault ≡ take_fault.TooLong → stop ≡ TooLong load) → ((e : AllocError) → fault ≡ take_fault.Memory e → stop ≡ Memory)
    → StopsLoading contents steady left reads (need_of load ∷ []) loads new_loads input new_input stop
input_stops contents steady left reads load loads new_loads input new_input take_fault.Failed stop is rose gave more failed long memory =
    rw (failed refl) (record { reached = alone contents (left input) (need_of load); rose = rw is (rose refl); lacks = λ is_steady. rw is tt; untried = λ file. let both : true ≡ false = sym (ap is_stream is) ∙ file in absurd cc })
input_stops contents steady left reads load loads new_loads input new_input take_fault.TooLong stop is rose gave more failed long memory =
    rw (long refl) (record { reached = alone contents (left input) (need_of load); gave = rw is (gave refl).0; longer = rw is (input_longer (left input) (left new_input) load.limit (more refl)); untried = λ file. let both : true ≡ false = sym (ap is_stream is) ∙ file in absurd cc })
input_stops contents steady left reads load loads new_loads input new_input (take_fault.Memory e) stop is rose gave more failed long memory = rw (memory e refl) tt

-- ---- one need among others

-- texts of needs, and of others after them
pub texts-append : (contents : Option FileMap) (left : Option (List ℕ)) (needs others : List Need) (texts more : List (List ℕ)) → AreTextsOf contents left needs texts → AreTextsOf contents left others more → AreTextsOf contents left (needs ++ others) (texts ++ more)
texts-append contents left [] others [] more are rest = rest
texts-append contents left [] others (bytes ∷ texts) more are rest = absurd are
texts-append contents left (need ∷ needs) others [] more are rest = absurd are
texts-append contents left (need ∷ needs) others (bytes ∷ texts) more are rest = (are.0, texts-append contents left needs others texts more are.1 rest)

-- a count that rose since later rose since earlier
pub SourceRose-earlier : (need : Need) (loads earlier_loads new_loads inputs new_inputs : Counts) → NeverFall earlier_loads loads → SourceRose need loads new_loads inputs new_inputs → SourceRose need earlier_loads new_loads inputs new_inputs
SourceRose-earlier need loads earlier_loads new_loads inputs new_inputs le rose = by_name need.name rose
  where
    by_name : (name : Option (List ℕ)) → MatchOption name (Rose inputs.faults new_inputs.faults) (λ n. Rose loads.faults new_loads.faults) → MatchOption name (Rose inputs.faults new_inputs.faults) (λ n. Rose earlier_loads.faults new_loads.faults)
    by_name None rose = rose
    by_name (Some name) rose = omega (arith, le.0, rose)

-- what was read since later was read since earlier
pub SourceGave-earlier : (n : ℕ) (need : Need) (loads earlier_loads new_loads inputs new_inputs : Counts) → NeverFall earlier_loads loads → SourceGave n need loads new_loads inputs new_inputs → SourceGave n need earlier_loads new_loads inputs new_inputs
SourceGave-earlier n need loads earlier_loads new_loads inputs new_inputs le gave = by_name need.name gave
  where
    by_name : (name : Option (List ℕ)) → MatchOption name (RoseAtLeastBy n inputs.done new_inputs.done) (λ name. RoseAtLeastBy n loads.done new_loads.done) → MatchOption name (RoseAtLeastBy n inputs.done new_inputs.done) (λ name. RoseAtLeastBy n earlier_loads.done new_loads.done)
    by_name None gave = gave
    by_name (Some name) gave = omega (arith, le.1, gave)

-- it stopped at one after others that have texts
pub stops_after_others : {I : Type 0} (contents : Option FileMap) (steady : Bool) (left : I → Option (List ℕ)) (reads : I → Counts) (before after : List Need) (need : Need) (texts : List (List ℕ)) (loads loads_now new_loads : Counts) (input new_input : I) (stop : LoadStop)
    → AreTextsOf contents (left input) before texts → NeverFall loads loads_now
    → StopsLoading contents steady left reads (need ∷ []) loads_now new_loads input new_input stop → StopsLoading contents steady left reads (before ++ need ∷ after) loads new_loads input new_input stop
stops_after_others contents steady left reads before after need texts loads loads_now new_loads input new_input (Failed load) are le fails = record {
  reached = record { before = before; after = after; texts = texts; order = ap (λ (n : Need). before ++ n ∷ after) (sym (alone-is contents (left input) need (need_of load) fails.reached)); read = are };
  rose = SourceRose-earlier (need_of load) loads_now loads new_loads (reads input) (reads new_input) le fails.rose;
  lacks = fails.lacks;
  untried = fails.untried;
}
stops_after_others contents steady left reads before after need texts loads loads_now new_loads input new_input (TooLong load) are le passes = record {
  reached = record { before = before; after = after; texts = texts; order = ap (λ (n : Need). before ++ n ∷ after) (sym (alone-is contents (left input) need (need_of load) passes.reached)); read = are };
  gave = SourceGave-earlier ((need_of load).limit + 1) (need_of load) loads_now loads new_loads (reads input) (reads new_input) le passes.gave;
  longer = passes.longer;
  untried = passes.untried;
}
stops_after_others contents steady left reads before after need texts loads loads_now new_loads input new_input Memory are le memory = tt

-- a need after others that have texts was tried
pub one-reached : {I : Type 0} (contents : Option FileMap) (left : I → Option (List ℕ)) (before after : List Need) (need : Need) (texts : List (List ℕ)) (input new_input : I) → AreTextsOf contents (left input) before texts
    → (is_stream need.name ≡ false → new_input ≡ input) → IsReached contents left (before ++ need ∷ after) input new_input
one-reached contents left before after need texts input new_input are unread = elim (cases_Bool (is_stream need.name)) [
  | inl stream ↦ inr (need, stream, record { before = before; after = after; texts = texts; order = refl; read = are })
  | inr file ↦ inl (unread file)
]

-- ---- files and standard input

-- a file isn't standard input
pub file-name : (need : Need) → IsFile (Some need) → is_stream need.name ≡ false
file-name need file = named need.name file
  where
    named : (name : Option (List ℕ)) → IsSome name → is_stream name ≡ false
    named None file = absurd cc
    named (Some name) file = refl

-- what is read is read before or here
pub end-here : {P : Type 0} (b c : Bool) → (b ≡ true → c ≡ false → P) → (c ≡ true → P) → (b || c) ≡ true → P
end-here b true before here reads = here refl
end-here true false before here reads = before refl refl
end-here false false before here reads = absurd cc

-- ---- one load among others

-- the need of an index, and those after it
drop-need : (loads : List Load) (k : ℕ) (default : Load) → k < length loads → drop k (map need_of loads) ≡ need_of (get_or loads k default) ∷ drop (k + 1) (map need_of loads)
drop-need [] k default lt = absurd (omega arith)
drop-need (load ∷ loads) zero default lt = refl
drop-need (load ∷ loads) (suc k) default lt =
    let later : suc k + 1 ≡ suc (k + 1) = omega arith in
    rw later (drop-need loads k default (omega arith))

-- the needs before an index, that one, and those after it
pub split-need : (loads : List Load) (k : ℕ) (default : Load) → k < length loads
    → map need_of loads ≡ take k (map need_of loads) ++ need_of (get_or loads k default) ∷ drop (k + 1) (map need_of loads)
split-need loads k default lt =
    sym (take-append-drop k (map need_of loads)) ∙ ap (λ (rest : List Need). take k (map need_of loads) ++ rest) (drop-need loads k default lt)

-- the needs up to an index
pub take-need : (loads : List Load) (k : ℕ) (default : Load) → k < length loads → take (k + 1) (map need_of loads) ≡ take k (map need_of loads) ++ need_of (get_or loads k default) ∷ []
take-need loads k default lt =
    take_more (map need_of loads) k (need_of default) (omega (arith, length-map loads need_of))
    ∙ ap (λ (need : Need). take k (map need_of loads) ++ need ∷ []) (get_or-map need_of loads k default)

pub take-needs : (loads : List Load) (k : ℕ) → length loads ≤ k → take k (map need_of loads) ≡ map need_of loads
take-needs loads k le = take_all k (map need_of loads) (omega (arith, length-map loads need_of))

-- where standard input isn't read, or isn't the last, a need is a file
pub file-at : (loads : List Load) (k : ℕ) (default : Load) → k < length loads → reads_input (map need_of loads) ≡ false → is_stream (need_of (get_or loads k default)).name ≡ false
file-at [] k default lt none = absurd (omega arith)
file-at (load ∷ loads) zero default lt none = (or_parts (is_stream (need_of load).name) (reads_input (map need_of loads)) none).0
file-at (load ∷ loads) (suc k) default lt none = file-at loads k default (omega arith) (or_parts (is_stream (need_of load).name) (reads_input (map need_of loads)) none).1

pub file-before : (loads : List Load) (k : ℕ) (default : Load) → IsSound (map need_of loads) → k + 1 < length loads → is_stream (need_of (get_or loads k default)).name ≡ false
file-before loads k default sound lt =
    let needs = map need_of loads in
    let long = length-map loads need_of in
    file-name (need_of (get_or loads k default))
    (subst (λ (need : Option Need). IsFile need) (slice_get-get_or needs k (need_of default) (omega (arith, long)) ∙ ap (λ (need : Need). Some need) (get_or-map need_of loads k default)) (sound.last k (omega (arith, long))))

-- where no file is read, it is standard input
pub stream-at : (loads : List Load) (k : ℕ) (default : Load) → k < length loads → reads_files (map need_of loads) ≡ false → is_stream (need_of (get_or loads k default)).name ≡ true
stream-at [] k default lt none = absurd (omega arith)
stream-at (load ∷ loads) zero default lt none = not-false (is_stream (need_of load).name) (or_parts (not (is_stream (need_of load).name)) (reads_files (map need_of loads)) none).0
stream-at (load ∷ loads) (suc k) default lt none = stream-at loads k default (omega arith) (or_parts (not (is_stream (need_of load).name)) (reads_files (map need_of loads)) none).1

-- each limit is small
pub limit-at : (loads : List Load) (k : ℕ) (default : Load) → k < length loads → IsSound (map need_of loads) → (get_or loads k default).limit < 2 ^ 32
limit-at loads k default lt sound =
    subst (λ (need : Need). need.limit < 2 ^ 32) (get_or-map need_of loads k default) (sound.limits k (need_of default) (omega (arith, length-map loads need_of)))

-- why loading stopped, over files and an input that are as they were
pub stops_now : {I : Type 0} (contents now : Option FileMap) (steady steady_now : Bool) (left : I → Option (List ℕ)) (reads : I → Counts) (needs : List Need) (loads new_loads : Counts) (input input_now new_input : I) (stop : LoadStop)
    → now ≡ contents → steady_now ≡ steady → input_now ≡ input
    → StopsLoading now steady_now left reads needs loads new_loads input_now new_input stop → StopsLoading contents steady left reads needs loads new_loads input new_input stop
stops_now {I} contents now steady steady_now left reads needs loads new_loads input input_now new_input stop same_contents same_steady same_input stops =
    subst (λ (c : Option FileMap). StopsLoading c steady left reads needs loads new_loads input new_input stop) same_contents
    (subst (λ (b : Bool). StopsLoading now b left reads needs loads new_loads input new_input stop) same_steady
    (subst (λ (i : I). StopsLoading now steady_now left reads needs loads new_loads i new_input stop) same_input stops))
