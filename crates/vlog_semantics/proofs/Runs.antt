-- Runs that go on.
use Rattle.std.proofs.Common.{◌≡◌, ℕ, ◌+◌, ◌<◌, List, [], ◌∷◌, ◌++◌, ap, fold, get_or, length, refl, take}
use Rattle.std.proofs.lemmas.List.Sums.{fold_more}
use Rattle.vlog_module.specs.Parts.{Parts}
use Rattle.vlog_semantics.specs.declared.event.Event.{Event}
use Rattle.vlog_semantics.specs.Entries.{Entry}
use Rattle.vlog_semantics.specs.Run.{followed, last_of, run_from}

-- the last entry of a run
abbrev pub last_entry : Parts → Entry → List Event → Entry
last_entry m entry events = fold (followed m) entry events

pub run-push : (m : Parts) (entry : Entry) (events : List Event) (event : Event) → run_from m entry (events ++ event ∷ []) ≡ run_from m entry events ++ followed m (last_entry m entry events) event ∷ []
unfolding run_from
run-push m entry [] event = refl
run-push m entry (first ∷ events) event = ap (λ entries. entry ∷ entries) (run-push m (followed m entry first) events event)

-- a run ends with its last entry
pub last-run : (m : Parts) (first entry : Entry) (events : List Event) → last_of first (run_from m entry events) ≡ last_entry m entry events
unfolding run_from last_of
last-run m first entry [] = refl
last-run m first entry (event ∷ events) = last-run m entry (followed m entry event) events

-- one event more
pub last-more : (m : Parts) (entry : Entry) (events : List Event) (i : ℕ) (d : Event) → i < length events
    → last_entry m entry (take (i + 1) events) ≡ followed m (last_entry m entry (take i events)) (get_or events i d)
last-more m entry events i d within = fold_more (followed m) entry events i d within
