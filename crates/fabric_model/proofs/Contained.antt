-- What lists that are made from others contain.
use Rattle.std.proofs.Common.{zero, suc, List, [], ◌∷◌, map, sym, ap, subst, arith}
use Rattle.std.specs.Prelude.{Contains, flat_map}
use Rattle.std.proofs.lemmas.List.Elements.{Contains-append_left, Contains-append_right}

pub contains-map : {A B : Type 0} (change : A → B) (list : List A) (item : A) → Contains list item → Contains (map change list) (change item)
contains-map change [] item (k, within, here) = absurd (omega (arith, within))
contains-map change (head ∷ list) item (zero, within, here) = (0, omega arith, ap change here)
contains-map change (head ∷ list) item (suc k, within, here) =
    let rest = contains-map change list item (k, omega (arith, within), here) in (suc rest.0, omega (arith, rest.1), rest.2)

pub contains-flat_map : {A B : Type 0} (given : A → List B) (list : List A) (item : A) (part : B) → Contains list item → Contains (given item) part
    → Contains (flat_map given list) part
contains-flat_map given [] item part (k, within, here) there = absurd (omega (arith, within))
contains-flat_map given (head ∷ list) item part (zero, within, here) there =
    Contains-append_left (given head) (flat_map given list) part (subst (λ i. Contains (given i) part) (sym here) there)
contains-flat_map given (head ∷ list) item part (suc k, within, here) there =
    Contains-append_right (given head) (flat_map given list) part (contains-flat_map given list item part (k, omega (arith, within), here) there)
