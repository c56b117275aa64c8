-- Names that a module declares, one after the other.
use Rattle.std.proofs.Common.{◌≡◌, ◌∙◌, ℕ, Bool, ◌||◌, List, [], ◌∷◌, ◌++◌, flat_map, refl, ap, sym}
use Rattle.std.specs.Prelude.{bytes_eq}
use Rattle.std.proofs.Math.Bool.{or-false, or_assoc}
use Rattle.std.proofs.lemmas.List.Folds.{list_any-append}
use Rattle.name_set.specs.Sets.{has_name, with_name}
use Rattle.name_set.proofs.Sets.{has-with}
use Rattle.vlog_module.specs.declared.item.Item.{Item}
use Rattle.vlog_module.specs.declared.item.Item.TheVariants.{Register, Word, Memory, Wire}
use Rattle.vlog_module.specs.declared.item.Right.{Right}
use Rattle.vlog_module.specs.Parts.{Parts}
use Rattle.vlog_semantics.specs.ModuleSlots.{wire_names}
use Rattle.wire_names.specs.declared.naming.Naming.{Naming}
use Rattle.wire_names.specs.Names.{declared_by, declared_names, is_declared, is_wire, names_of_ports}
use Rattle.wire_names.specs.Naming.{Declares, IsWith, Names}

-- ---- sets of names

pub has_name-append : (names more : List (List ℕ)) (name : List ℕ) → has_name (names ++ more) name ≡ (has_name names name || has_name more name)
has_name-append names more name = list_any-append (λ other. bytes_eq other name) names more

-- nothing more
pub with-none : (names : List (List ℕ)) → IsWith [] names names
with-none names = λ name. sym (or-false (has_name names name))

-- one name more
pub with-one : (names : List (List ℕ)) (name : List ℕ) → IsWith (name ∷ []) names (with_name names name)
with-one names name = λ other. has-with names name other ∙ ap (λ b. has_name names other || b) (sym (or-false (bytes_eq name other)))

-- some more, and then more
pub with-more : (some more a b c : List (List ℕ)) → IsWith some a b → IsWith more b c → IsWith (some ++ more) a c
with-more some more a b c one two = λ name.
    two name ∙ ap (λ t. t || has_name more name) (one name) ∙ or_assoc (has_name a name) (has_name some name) (has_name more name)
    ∙ ap (λ t. has_name a name || t) (sym (has_name-append some more name))

-- ---- what is declared

pub declares-none : (naming : Naming) → Declares [] [] naming naming
declares-none naming = record { taken = with-none naming.taken; wires_are = with-none naming.wires; named = refl }

pub declares-more : (names more wires others : List (List ℕ)) (a b c : Naming) → Declares names wires a b → Declares more others b c → Declares (names ++ more) (wires ++ others) a c
declares-more names more wires others a b c one two = record {
  taken = with-more names more a.taken b.taken c.taken one.taken two.taken;
  wires_are = with-more wires others a.wires b.wires c.wires one.wires_are two.wires_are;
  named = two.named ∙ one.named;
}

-- an item that declares no name
pub declares-nothing : (item : Item) (naming : Naming) → ((name : List ℕ) (start : Bool) → item ≡ Register name start → ⊥) → ((name : List ℕ) (start : ℕ) → item ≡ Word name start → ⊥)
    → ((name : List ℕ) → item ≡ Memory name → ⊥) → ((name : List ℕ) (right : Right) → item ≡ Wire name right → ⊥) → Declares (declared_by item) (wire_names (item ∷ [])) naming naming
declares-nothing (Register name start) naming r w m n = absurd (r name start refl)
declares-nothing (Word name start) naming r w m n = absurd (w name start refl)
declares-nothing (Memory name) naming r w m n = absurd (m name refl)
declares-nothing (Wire name right) naming r w m n = absurd (n name right refl)
declares-nothing _ naming r w m n = declares-none naming

-- all that a module declares
pub names-begun : (m : Parts) (a b c : Naming) → a.wires ≡ [] → a.taken ≡ [] → a.names ≡ [] → Declares (names_of_ports m.ports) [] a b → Declares (flat_map declared_by m.items) (wire_names m.items) b c → Names m [] c
unfolding declared_names
names-begun m a b c no_wire no_taken no_name ports items =
    let all = declares-more (names_of_ports m.ports) (flat_map declared_by m.items) [] (wire_names m.items) a b c ports items in
    record {
      wires = λ name. all.wires_are name ∙ ap (λ (names : List (List ℕ)). has_name names name || is_wire m name) no_wire;
      taken = λ name. all.taken name ∙ ap (λ (names : List (List ℕ)). has_name names name || is_declared m name) no_taken ∙ sym (or-false (is_declared m name));
      names = all.named ∙ no_name;
    }
