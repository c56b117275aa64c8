-- What holds of a module whose names are exchanged by a fresh renaming.
use Rattle.std.proofs.Common.{◌≡◌, ℕ, true, false, not, ◌||◌, List, [], ◌∷◌, inl, inr, refl, sym, subst, ap, ap₂, ◌∙◌}
use Rattle.std.specs.Prelude.{All, IsTrue, bytes_eq, map, unwrap_or}
use Rattle.std.proofs.lemmas.Bool.{cases_Bool}
use Rattle.std.proofs.lemmas.List.Elements.{All-head, All-tail, All-weaker}
use Rattle.shared_lemmas.proofs.Bytes.{same_bytes}
use Rattle.shared_lemmas.proofs.Lists.{map-same}
use Rattle.shared_lemmas.proofs.Options.{none_from_is_some}
use Rattle.vlog_module.specs.Maps.{value_in}
use Rattle.vlog_module.specs.Parts.{Parts}
use Rattle.vlog_module.specs.WellFormed.{IsModule}
use Rattle.vlog_semantics.specs.declared.event.Event.{Event}
use Rattle.vlog_semantics.specs.Entries.{Entry}
use Rattle.vlog_semantics.specs.Named.{has_name, names_of}
use Rattle.vlog_semantics.specs.Run.{followed, module_run, start}
use Rattle.port_names.specs.Fresh.{AreNames, IsFresh, NoneIn, OnlyPorts, declared_names, new_names, old_names, port_names}
use Rattle.port_names.specs.Law.{RenamingKeepsRuns, SameState}
use Rattle.port_names.specs.Renamed.{entry_renamed, new_name, renamed, renamed_entry, renamed_parts, renamed_values}
use Rattle.port_names.proofs.Agree.{parts-agree, values-agree}
use Rattle.port_names.proofs.Declared.{found-name, names-declared, names-no_ports, ports-declared}
use Rattle.port_names.proofs.Entries.{HasNames, OfPorts, OfState, of-ports, of-state, run-names, start-names, followed-names}
use Rattle.port_names.proofs.Exchange.{exchanged, exchanged-apart, exchanged-named, exchanged-new_name, not-true}
use Rattle.port_names.proofs.Runs.{followed-renamed, run-renamed, same-entry, start-renamed}
use Rattle.port_names.proofs.Whole.{module-renamed}

-- ---- names

-- a name that stands among others isn't one of those that don't
not-among : (names others : List (List ℕ)) (name : List ℕ) → NoneIn names others → has_name others name ≡ true → has_name names name ≡ false
not-among [] others name none is = refl
not-among (first ∷ names) others name none is =
    let rest : has_name names name ≡ false = not-among names others name (All-tail (λ one. IsTrue (not (has_name others one))) first names none) is in
    let away : has_name others first ≡ false = not-true (has_name others first) (All-head (λ one. IsTrue (not (has_name others one))) first names none) in
    elim (cases_Bool (bytes_eq first name)) [
      | inl same ↦ let here : has_name others name ≡ false = ap (has_name others) (sym (same_bytes first name same)) ∙ away in absurd cc
      | inr other ↦ ap₂ (λ a b. a || b) other rest
    ]

-- a name that isn't among others is none of fewer
not-in-fewer : (names others : List (List ℕ)) (name : List ℕ) → All (λ one. IsTrue (has_name others one)) names → has_name others name ≡ false → has_name names name ≡ false
not-in-fewer [] others name all away = refl
not-in-fewer (first ∷ names) others name all away =
    let rest : has_name names name ≡ false = not-in-fewer names others name (All-tail (λ one. IsTrue (has_name others one)) first names all) away in
    let among : has_name others first ≡ true = All-head (λ one. IsTrue (has_name others one)) first names all in
    elim (cases_Bool (bytes_eq first name)) [
      | inl same ↦ let here : has_name others name ≡ true = ap (has_name others) (sym (same_bytes first name same)) ∙ among in absurd cc
      | inr other ↦ ap₂ (λ a b. a || b) other rest
    ]

-- a name that isn't listed stays
pub new_name-stays : (renaming : List (List ℕ × List ℕ)) (name : List ℕ) → has_name (old_names renaming) name ≡ false → new_name renaming name ≡ name
new_name-stays renaming name unlisted =
    ap (λ found. unwrap_or found name) (none_from_is_some (value_in renaming name) (found-name renaming name ∙ unlisted))

-- the exchange gives each declared name its new one
agrees : (renaming : List (List ℕ × List ℕ)) (m : Parts) → IsFresh renaming m → (name : List ℕ) → has_name (declared_names m) name ≡ true → exchanged renaming name ≡ new_name renaming name
agrees renaming m fresh name declared =
    exchanged-new_name renaming name fresh.apart fresh.unlisted (not-among (new_names renaming) (declared_names m) name fresh.undeclared declared)

exchanged-parts : (renaming : List (List ℕ × List ℕ)) (m : Parts) → IsModule m → IsFresh renaming m → renamed_parts (exchanged renaming) m ≡ renamed renaming m
exchanged-parts renaming m whole fresh = parts-agree (exchanged renaming) (new_name renaming) m whole (agrees renaming m fresh)

-- the name is declared
abbrev Declared : Parts → List ℕ → Type 0
Declared m name = has_name (declared_names m) name ≡ true

values-exchanged : {A : Type 0} (renaming : List (List ℕ × List ℕ)) (m : Parts) → IsFresh renaming m → (entries : List (List ℕ × A)) → All (Declared m) (names_of entries)
    → renamed_values (exchanged renaming) entries ≡ renamed_values (new_name renaming) entries
values-exchanged renaming m fresh entries all =
    values-agree (exchanged renaming) (new_name renaming) entries
    (All-weaker (Declared m) (λ name. exchanged renaming name ≡ new_name renaming name) (agrees renaming m fresh) (names_of entries) all)

exchanged-entry : (renaming : List (List ℕ × List ℕ)) (m : Parts) → IsModule m → IsFresh renaming m → (entry : Entry) → HasNames m entry → renamed_entry (exchanged renaming) entry ≡ entry_renamed renaming entry
exchanged-entry renaming m whole fresh entry names =
    let state : OfState (Declared m) entry = of-state (Declared m) m entry names (names-declared m whole) in
    let ports : OfPorts (Declared m) entry = of-ports (Declared m) m entry names (ports-declared m) in
    same-entry (renamed_entry (exchanged renaming) entry) (entry_renamed renaming entry)
    (values-exchanged renaming m fresh entry.inputs ports.inputs) (values-exchanged renaming m fresh entry.registers state.registers)
    (values-exchanged renaming m fresh entry.words state.words) (values-exchanged renaming m fresh entry.memories state.memories)
    (values-exchanged renaming m fresh entry.wires state.wires) (values-exchanged renaming m fresh entry.outputs ports.outputs)

-- ---- the laws

-- the renamed module is well-formed
pub renamed-whole : (renaming : List (List ℕ × List ℕ)) (m : Parts) → IsModule m → IsFresh renaming m → AreNames renaming → IsModule (renamed renaming m)
renamed-whole renaming m whole fresh names =
    subst IsModule (exchanged-parts renaming m whole fresh) (module-renamed (exchanged renaming) (exchanged-apart renaming) (record { named = exchanged-named renaming names }) m whole)

-- at the start
pub renamed-start : (renaming : List (List ℕ × List ℕ)) (m : Parts) → IsModule m → IsFresh renaming m → start (renamed renaming m) ≡ entry_renamed renaming (start m)
renamed-start renaming m whole fresh =
    ap start (sym (exchanged-parts renaming m whole fresh)) ∙ start-renamed (exchanged renaming) (exchanged-apart renaming) m
    ∙ exchanged-entry renaming m whole fresh (start m) (start-names m)

-- after an event
pub renamed-followed : (renaming : List (List ℕ × List ℕ)) (m : Parts) → IsModule m → IsFresh renaming m → (entry : Entry) → HasNames m entry → (event : Event)
    → followed (renamed renaming m) (entry_renamed renaming entry) event ≡ entry_renamed renaming (followed m entry event)
renamed-followed renaming m whole fresh entry names event =
    ap₂ (λ other before. followed other before event) (sym (exchanged-parts renaming m whole fresh)) (sym (exchanged-entry renaming m whole fresh entry names))
    ∙ followed-renamed (exchanged renaming) (exchanged-apart renaming) m entry event
    ∙ exchanged-entry renaming m whole fresh (followed m entry event) (followed-names m entry event names)

-- at the start and after each event
pub renamed-run : (renaming : List (List ℕ × List ℕ)) (m : Parts) → IsModule m → IsFresh renaming m → (events : List Event) → module_run (renamed renaming m) events ≡ map (entry_renamed renaming) (module_run m events)
renamed-run renaming m whole fresh events =
    ap (λ other. module_run other events) (sym (exchanged-parts renaming m whole fresh)) ∙ run-renamed (exchanged renaming) (exchanged-apart renaming) m events
    ∙ map-same (renamed_entry (exchanged renaming)) (entry_renamed renaming) (module_run m events)
    (All-weaker (HasNames m) (λ entry. renamed_entry (exchanged renaming) entry ≡ entry_renamed renaming entry) (exchanged-entry renaming m whole fresh) (module_run m events) (run-names m events))

-- ---- if only ports are renamed

stay : {A : Type 0} (renaming : List (List ℕ × List ℕ)) (entries : List (List ℕ × A)) → All (λ name. new_name renaming name ≡ name) (names_of entries) → renamed_values (new_name renaming) entries ≡ entries
stay renaming [] all = refl
stay renaming (entry ∷ entries) all =
    ap₂ (λ name rest. (name, entry.1) ∷ rest) (All-head (λ name. new_name renaming name ≡ name) entry.0 (names_of entries) all)
    (stay renaming entries (All-tail (λ name. new_name renaming name ≡ name) entry.0 (names_of entries) all))

-- the name is no port
abbrev NoPort : Parts → List ℕ → Type 0
NoPort m name = has_name (port_names m.ports) name ≡ false

values-stay : {A : Type 0} (renaming : List (List ℕ × List ℕ)) (m : Parts) → OnlyPorts renaming m → (entries : List (List ℕ × A)) → All (NoPort m) (names_of entries)
    → renamed_values (new_name renaming) entries ≡ entries
values-stay renaming m only entries all =
    stay renaming entries
    (All-weaker (NoPort m) (λ name. new_name renaming name ≡ name)
    (λ name away. new_name-stays renaming name (not-in-fewer (old_names renaming) (port_names m.ports) name only away)) (names_of entries) all)

same-state : (renaming : List (List ℕ × List ℕ)) (m : Parts) → IsModule m → OnlyPorts renaming m → (entry : Entry) → HasNames m entry → SameState entry (entry_renamed renaming entry)
same-state renaming m whole only entry names =
    let state : OfState (NoPort m) entry = of-state (NoPort m) m entry names (names-no_ports m whole) in
    record {
      registers = values-stay renaming m only entry.registers state.registers;
      words = values-stay renaming m only entry.words state.words;
      memories = values-stay renaming m only entry.memories state.memories;
      wires = values-stay renaming m only entry.wires state.wires;
    }

-- the state keeps its names
pub renamed-state : (renaming : List (List ℕ × List ℕ)) (m : Parts) → IsModule m → OnlyPorts renaming m → (events : List Event) → All (λ entry. SameState entry (entry_renamed renaming entry)) (module_run m events)
renamed-state renaming m whole only events =
    All-weaker (HasNames m) (λ entry. SameState entry (entry_renamed renaming entry)) (same-state renaming m whole only) (module_run m events) (run-names m events)

-- all of these
pub renaming-keeps-runs : (renaming : List (List ℕ × List ℕ)) (m : Parts) → RenamingKeepsRuns renaming m
renaming-keeps-runs renaming m whole fresh = record {
  whole = λ names. renamed-whole renaming m whole fresh names;
  run = λ events. renamed-run renaming m whole fresh events;
  state = λ only events. renamed-state renaming m whole only events;
}
