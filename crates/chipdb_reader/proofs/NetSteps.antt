-- Nets with one more, or with one name more.
use Rattle.std.proofs.Common.{◌≡◌, ℕ, true, ◌&&◌, cond, eqb, List, [], ◌∷◌, ◌++◌, append_assoc, sym, ap, ◌∙◌}
use Rattle.std.specs.Prelude.{Option, Some, None}
use Rattle.std.specs.Ordering.{nat_cmp, is_eq, ordering_then}
use Rattle.std.specs.Cmp.{unsigned_ties}
use Rattle.std.specs.Map.{lookup}
use Rattle.std.proofs.lemmas.Bool.{and_parts, eqb-true}
use Rattle.std.proofs.lemmas.List.{map-append}
use Rattle.std.specs.Cmp.{tied_then}
use Rattle.chipdb_reader.specs.declared.items.NetName.{NetName}
use Rattle.chipdb_reader.specs.NameIndex.{name_cmp}
use Rattle.chipdb_reader.specs.Nets.{is_name, names_with, last_names}
use Rattle.chipdb_reader.proofs.Searches.{index-push}

-- the index takes two names for equal if all their parts are equal
pub name-ties : (name other : NetName) → is_eq (name_cmp name other) ≡ is_name other name
name-ties name other =
    sym (tied_then (nat_cmp name.x other.x) (ordering_then (nat_cmp name.y other.y) (nat_cmp name.name other.name)))
    ∙ ap (λ b. is_eq (nat_cmp name.x other.x) && b) (sym (tied_then (nat_cmp name.y other.y) (nat_cmp name.name other.name)))
    ∙ (λ i. sym (unsigned_ties name.x other.x) i && (sym (unsigned_ties name.y other.y) i && sym (unsigned_ties name.name other.name) i))

-- and names with the same parts are equal
pub name-same : (name other : NetName) → is_name name other ≡ true → name ≡ other
name-same name other is =
    let parts = and_parts (eqb other.x name.x) (eqb other.y name.y && eqb other.name name.name) is in
    let rest = and_parts (eqb other.y name.y) (eqb other.name name.name) parts.1 in
    let x = eqb-true other.x name.x parts.0 in
    let y = eqb-true other.y name.y rest.0 in
    let id = eqb-true other.name name.name rest.1 in
    λ i. record { x = sym x i; y = sym y i; name = sym id i }

-- the index has one name more
pub named-push : (old new : NetName → Option ℕ) (names : List (NetName × ℕ)) (name : NetName) (net : ℕ)
    → ((q : NetName) → new q ≡ cond (is_eq (name_cmp name q)) (Some net) (old q)) → ((q : NetName) → old q ≡ lookup (is_name q) names) → old name ≡ None
    → (q : NetName) → new q ≡ lookup (is_name q) (names ++ (name, net) ∷ [])
named-push old new names name net = index-push is_name (λ key other. is_eq (name_cmp key other)) old new names name net (name-ties name) (λ q is. name-same q name is)

-- the last net has one name more
pub last_names-push : (earlier : List (NetName × ℕ)) (net : ℕ) (names : List NetName) (name : NetName)
    → earlier ++ last_names (Some net) (names ++ name ∷ []) ≡ (earlier ++ last_names (Some net) names) ++ (name, net) ∷ []
last_names-push earlier net names name =
    ap (λ more. earlier ++ more) (map-append (λ (n : NetName). (n, net)) names (name ∷ [])) ∙ sym (append_assoc earlier (names_with net names) ((name, net) ∷ []))
