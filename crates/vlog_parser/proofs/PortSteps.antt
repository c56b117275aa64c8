-- Declarations of ports one after another.
use Rattle.std.proofs.Common.{◌≡◌, ℕ, zero, suc, ◌+◌, ◌<◌, Bool, List, [], ◌∷◌, ◌++◌, length, get_or, drop, refl, ap, sym, ◌∙◌, add-one, drop-cons, arith}
use Rattle.std.specs.Prelude.{Result, Ok, Err}
use Rattle.vlog_tokens.specs.Tokens.{Spot}
use Rattle.vlog_module.specs.declared.modules.Port.{Port}
use Rattle.vlog_module.specs.Names.{IsName, is_name, reserved_words}
use Rattle.vlog_module.specs.Parts.{Parts}
use Rattle.vlog_forms.specs.declared.fault.VlogCause.TheVariants.{Syntax}
use Rattle.vlog_forms.specs.declared.form.Form.{Form}
use Rattle.vlog_forms.specs.Values.{Value, seen}
use Rattle.vlog_forms.specs.Values.Value.{Name, Edge, Bit, Word, Index, AnAtom}
use Rattle.vlog_forms.specs.Items.{name_in}
use Rattle.vlog_forms.specs.Reading.{Found, found_at, values_of, Whole, read_forms, port_forms}
use Rattle.vlog_forms.specs.Outcome.{Fault, fault, after, is_output, port_of, ports_outcome}
use Rattle.vlog_form_parser.specs.declared.stop.ReadStop.{ReadStop}
use Rattle.vlog_form_parser.specs.declared.stop.ReadStop.TheVariants as stop
use Rattle.vlog_form_parser.specs.Readings.{StopsAt}
use Rattle.vlog_form_parser.specs.declared.found.Found as kept
use Rattle.vlog_form_parser.specs.Found.{all_found}
use Rattle.vlog_form_parser.specs.Named.{IsNamed, AreNamed}
use Rattle.vlog_parser.specs.Answers.{RefusesAt, refusal_of}

-- the name of a value, or `x`, is a name
pub value-named : (value : Value) → IsNamed value → IsName (name_in (value ∷ []))
unfolding is_name reserved_words
value-named (Name role name) named = named
value-named (Edge falling) named = refl
value-named (Bit bit) named = refl
value-named (Word word) named = refl
value-named (Index k) named = refl
value-named (AnAtom one) named = refl

pub ports-none : (end : ℕ) (ports : List Port) (spots : List Spot) (next : List Port → List Spot → Result Parts Fault) → ports_outcome end [] ports spots next ≡ next ports spots
unfolding ports_outcome
ports-none end ports spots next = refl

pub ports-stuck : (end : ℕ) (one : Found) (names : List Found) (ports : List Port) (spots : List Spot) (next : List Port → List Spot → Result Parts Fault) (stuck : ℕ)
    → read_forms end (one ∷ []) port_forms spots ≡ Err stuck → ports_outcome end (one ∷ names) ports spots next ≡ Err (fault stuck Syntax)
unfolding ports_outcome
ports-stuck end one names ports spots next stuck is =
    ap (λ reading. after reading (λ whole. ports_outcome end names (ports ++ port_of (name_in (one.value ∷ [])) (is_output whole.form) ∷ []) whole.spots next)) is

pub ports-next : (end : ℕ) (one : Found) (names : List Found) (ports : List Port) (spots : List Spot) (next : List Port → List Spot → Result Parts Fault) (whole : Whole)
    → read_forms end (one ∷ []) port_forms spots ≡ Ok whole
    → ports_outcome end (one ∷ names) ports spots next ≡ ports_outcome end names (ports ++ port_of (name_in (one.value ∷ [])) (is_output whole.form) ∷ []) whole.spots next
unfolding ports_outcome
ports-next end one names ports spots next whole is =
    ap (λ reading. after reading (λ whole. ports_outcome end names (ports ++ port_of (name_in (one.value ∷ [])) (is_output whole.form) ∷ []) whole.spots next)) is

pub port-refused : (end : ℕ) (one : Found) (names : List Found) (ports : List Port) (spots : List Spot) (next : List Port → List Spot → Result Parts Fault) (forms : List Form) (why : ReadStop)
    → forms ≡ port_forms → StopsAt (read_forms end (one ∷ []) forms spots) why → RefusesAt (ports_outcome end (one ∷ names) ports spots next) (refusal_of why)
port-refused end one names ports spots next forms (stop.Stuck stuck) all stops =
    ports-stuck end one names ports spots next stuck (ap (λ list. read_forms end (one ∷ []) list spots) (sym all) ∙ stops)
port-refused end one names ports spots next forms (stop.Memory refused) all stops = tt

pub port-declared : (end : ℕ) (one : Found) (names : List Found) (ports after : List Port) (spots : List Spot) (next : List Port → List Spot → Result Parts Fault) (forms : List Form) (whole : Whole) (name : List ℕ) (output : Bool)
    → forms ≡ port_forms → read_forms end (one ∷ []) forms spots ≡ Ok whole → name ≡ name_in (one.value ∷ []) → output ≡ is_output whole.form → after ≡ ports ++ port_of name output ∷ []
    → ports_outcome end (one ∷ names) ports spots next ≡ ports_outcome end names after whole.spots next
port-declared end one names ports after spots next forms whole name output all is named declared grown =
    ports-next end one names ports spots next whole (ap (λ list. read_forms end (one ∷ []) list spots) (sym all) ∙ is)
    ∙ ap (λ n. ports_outcome end names (ports ++ port_of n (is_output whole.form) ∷ []) whole.spots next) (sym named)
    ∙ ap (λ o. ports_outcome end names (ports ++ port_of name o ∷ []) whole.spots next) (sym declared)
    ∙ ap (λ list. ports_outcome end names list whole.spots next) (sym grown)

-- ---- the names one after another

pub named-at : (names : List kept.Found) (i : ℕ) (default : kept.Found) → AreNamed (values_of (all_found names)) → i < length names → IsNamed (seen (get_or names i default).value)
named-at [] i default named within = absurd (omega arith)
named-at (one ∷ names) zero default named within = named.0
named-at (one ∷ names) (suc i) default named within = named-at names i default named.1 (omega arith)

pub found-at : (names : List kept.Found) (i : ℕ) (default : kept.Found) → i < length names
    → all_found (drop i names) ≡ found_at (get_or names i default).at (seen (get_or names i default).value) ∷ all_found (drop (i + 1) names)
found-at names i default within = let parts : drop i names ≡ get_or names i default ∷ drop (i + 1) names = rw (add-one, drop-cons names i default) refl in ap all_found parts
