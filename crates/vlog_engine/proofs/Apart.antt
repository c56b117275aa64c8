-- The inputs and registers of a well-formed module have names of their own.
use Rattle.std.proofs.Common.{◌≡◌, ℕ, ◌+◌, Bool, true, false, cond, flat_map, List, [], ◌∷◌, ◌++◌, Option, Some, None, ap, get_or, refl, sym, take}
use Rattle.std.specs.Prelude.{All, IsTrue, bytes_eq, is_none, is_some, map}
use Rattle.std.proofs.lemmas.List.Elements.{All-head, All-tail}
use Rattle.std.proofs.lemmas.Option.{slice_get-get_or}
use Rattle.shared_lemmas.proofs.Bytes.{same_bytes}
use Rattle.vlog_module.specs.declared.item.Item.{Item}
use Rattle.vlog_module.specs.declared.item.Item.TheVariants.{Register}
use Rattle.vlog_module.specs.declared.modules.Port.{Port}
use Rattle.vlog_module.specs.declared.sort.Sort.{Sort}
use Rattle.vlog_module.specs.Maps.{value_in}
use Rattle.vlog_module.specs.Parts.{Parts}
use Rattle.vlog_module.specs.Uses.{uses_of}
use Rattle.vlog_module.specs.Uses.Use.{Declares}
use Rattle.vlog_module.specs.WellFormed.{IsAllowed, IsModule, declared_by, is_first, port_sort, scope_of}
use Rattle.vlog_semantics.specs.ModuleSlots.{register_names}
use Rattle.vlog_semantics.specs.Numbered.{numbered}
use Rattle.vlog_semantics.specs.Run.{input_names}
use Rattle.vlog_semantics.proofs.Edges.{AreApart}

-- what the ports declare
abbrev port_sorts : List Port → List (List ℕ × Sort)
port_sorts ports = map (λ port. (port.name, port_sort port)) ports

-- ---- inputs are ports

some-either : {A : Type 0} (b : Bool) (value : A) (found : Option A) → is_some found ≡ true → is_some (cond b (Some value) found) ≡ true
some-either true value found is = refl
some-either false value found is = is

input-declared : (ports : List Port) (from : ℕ) (name : List ℕ) (pin : ℕ) → value_in (numbered from (input_names ports)) name ≡ Some pin → is_some (value_in (port_sorts ports) name) ≡ true
input-declared [] from name pin = λ is. cc
input-declared (port ∷ ports) from name pin =
    let sort : Sort = port_sort port in
    let known : Option Sort = value_in (port_sorts ports) name in
    elim port.output as (λ output. value_in (numbered from (map (λ (e : List ℕ × Bool). e.0) ((cond output [] ((port.name, false) ∷ [])) ++ flat_map (λ (p : Port). cond p.output [] ((p.name, false) ∷ [])) ports))) name ≡ Some pin
    → is_some (cond (bytes_eq port.name name) (Some sort) known) ≡ true) [
      | true ↦ λ is. some-either (bytes_eq port.name name) sort known (input-declared ports from name pin is)
      | false ↦ elim (bytes_eq port.name name) as (λ b. cond b (Some from) (value_in (numbered (from + 1) (input_names ports)) name) ≡ Some pin → is_some (cond b (Some sort) known) ≡ true) [
        | true ↦ λ is. refl
        | false ↦ λ is. input-declared ports (from + 1) name pin is
      ]
    ]

-- ---- registers are none

-- an item that declares no port's name as a register
abbrev IsNoPort : List Port → Item → Type 0
IsNoPort ports (Register name start) = is_some (value_in (port_sorts ports) name) ≡ false
IsNoPort ports _ = Unit {0}

none-before : {A : Type 0} (some more : List (List ℕ × A)) (name : List ℕ) → is_none (value_in (some ++ more) name) ≡ true → is_some (value_in some name) ≡ false
none-before [] more name none = refl
none-before (entry ∷ some) more name none =
    (elim (bytes_eq entry.0 name) as (λ b. is_none (cond b (Some entry.1) (value_in (some ++ more) name)) ≡ true → is_some (cond b (Some entry.1) (value_in some name)) ≡ false) [
      | true ↦ λ is. cc
      | false ↦ λ is. none-before some more name is
    ]) none

is-true : (b : Bool) → IsTrue b → b ≡ true
is-true true is = refl
is-true false is = cc

no-port : (ports : List Port) (before : List Item) (item : Item) → IsAllowed (scope_of ports before) item → IsNoPort ports item
no-port ports before (Register name start) allowed =
    none-before (port_sorts ports) (flat_map declared_by (flat_map uses_of before)) name
    (is-true (is_none (value_in (scope_of ports before).declared name)) (All-head (λ used. IsTrue (is_first (scope_of ports before) used)) (Declares Sort.Register name) [] allowed.first))
no-port ports before _ allowed = tt

apart-from : (ports : List Port) (items : List Item) (from : ℕ) (name : List ℕ) → All (IsNoPort ports) items → is_some (value_in (port_sorts ports) name) ≡ true
    → value_in (numbered from (register_names items)) name ≡ None
apart-from ports [] from name none known = refl
apart-from ports (Register other start ∷ items) from name none known =
    (elim (bytes_eq other name) as (λ b. bytes_eq other name ≡ b → cond b (Some from) (value_in (numbered (from + 1) (register_names items)) name) ≡ None) [
      | true ↦ λ same. cc (known, sym (All-head (IsNoPort ports) (Register other start) items none), ap (λ one. is_some (value_in (port_sorts ports) one)) (same_bytes other name same))
      | false ↦ λ differ. apart-from ports items (from + 1) name (All-tail (IsNoPort ports) (Register other start) items none) known
    ]) refl
apart-from ports (item ∷ items) from name none known = apart-from ports items from name (All-tail (IsNoPort ports) item items none) known

pub module-apart : (m : Parts) → IsModule m → AreApart m
module-apart m whole name pin is =
    apart-from m.ports m.items _ name
    (λ i d within. no-port m.ports (take i m.items) (get_or m.items i d) (whole.begun.allowed i (get_or m.items i d) (slice_get-get_or m.items i d within)))
    (input-declared m.ports 0 name pin is)
