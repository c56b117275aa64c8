-- The new names that the code finds, and lists that are exchanged place by place.
use Rattle.std.proofs.Common.{◌≡◌, ℕ, ◌+◌, ◌<◌, Bool, false, ◌||◌, List, [], ◌∷◌, ◌++◌, append_assoc, Some, Vec, Global, length, get_or, set, take, drop, map, refl, sym, ap, ap₂, ◌∙◌, subst, arith, length-append, length-drop}
use Rattle.std.specs.Prelude.{All, is_some, slice_get, unwrap_or}
use Rattle.std.specs.List.{list_any}
use Rattle.std.specs.Vec.{with_items}
use Rattle.std.proofs.lemmas.List.{drop_more, get_or_at, length-map, length-take, length-take-le, map_push, set_at, take_more, with_items_is}
use Rattle.std.proofs.lemmas.List.Elements.{All-push}
use Rattle.std.proofs.lemmas.Option.{get_or_from_slice_get}
use Rattle.shared_lemmas.proofs.Options.{none_from_is_some}
use Rattle.shared_lemmas.proofs.Searches.{list_any-push}
use Rattle.shared_lemmas.proofs.Tests.{first_false, second_false}
use mathlib.Core.Path.{fun_ext}
use Rattle.vlog_module.specs.declared.atoms.Atom.{Atom}
use Rattle.vlog_module.specs.declared.atoms.Atom.TheVariants.{Bit, Whole, Part}
use Rattle.vlog_module.specs.declared.item.Item.{Item}
use Rattle.vlog_module.specs.declared.modules.Port.{Port}
use Rattle.vlog_module.specs.Names.{IsName}
use Rattle.vlog_module.specs.Parts.{Parts}
use Rattle.port_names.specs.declared.renaming.Renaming.{Renaming}
use Rattle.port_names.specs.Fresh.{AreNames, new_names, old_names}
use Rattle.port_names.specs.Listed.{Lists, given_by, has_listed, listed_in}
use Rattle.port_names.specs.Renamed.{new_name, renamed, renamed_atom, renamed_atoms, renamed_item, renamed_port}

-- ---- names

-- a renaming that lists pairs gives each name its new one
pub given-is : (renaming : Renaming) (pairs : List (List ℕ × List ℕ)) → Lists renaming pairs → given_by renaming ≡ new_name pairs
unfolding Lists
given-is renaming pairs lists = fun_ext (λ name. ap (λ found. unwrap_or found name) (lists name))

-- one more pair of names
pub AreNames-push : (pairs : List (List ℕ × List ℕ)) (pair : List ℕ × List ℕ) → AreNames pairs → IsName pair.0 → IsName pair.1 → AreNames (pairs ++ pair ∷ [])
AreNames-push pairs pair names old_named new_named = record {
  old = subst (All IsName) (sym (map_push (λ (e : List ℕ × List ℕ). e.0) pairs pair)) (All-push IsName (old_names pairs) pair.0 names.old old_named);
  «new» = subst (All IsName) (sym (map_push (λ (e : List ℕ × List ℕ). e.1) pairs pair)) (All-push IsName (new_names pairs) pair.1 names.new new_named);
}

-- a name that isn't listed stays
pub unlisted-stays : (renaming : Renaming) (name : List ℕ) → is_some (listed_in renaming name) ≡ false → given_by renaming name ≡ name
unlisted-stays renaming name none = ap (λ found. unwrap_or found name) (none_from_is_some (listed_in renaming name) none)

atom-stays : (renaming : Renaming) (atom : Atom) → has_listed renaming atom ≡ false → renamed_atom (given_by renaming) atom ≡ atom
atom-stays renaming (Bit bit) none = refl
atom-stays renaming (Whole name) none = ap (λ n. Whole n) (unlisted-stays renaming name none)
atom-stays renaming (Part name k) none = ap (λ n. Part n k) (unlisted-stays renaming name none)

-- atoms that name nothing that is listed stay
pub atoms-stay : (renaming : Renaming) (atoms : List Atom) → list_any (has_listed renaming) atoms ≡ false → atoms ≡ renamed_atoms (given_by renaming) atoms
atoms-stay renaming [] none = refl
atoms-stay renaming (atom ∷ atoms) none =
    ap₂ (λ first rest. first ∷ rest) (sym (atom-stays renaming atom (first_false (has_listed renaming atom) (list_any (has_listed renaming) atoms) none)))
    (atoms-stay renaming atoms (second_false (has_listed renaming atom) (list_any (has_listed renaming) atoms) none))

-- ---- lists that are exchanged place by place

-- one more item is exchanged
pub exchanged-next : {A : Type 0} (f : A → A) (xs ys : List A) (i : ℕ) (d y : A) → i < length ys → ys ≡ map f (take i xs) ++ drop i xs → y ≡ f (get_or ys i d)
    → set ys i y ≡ map f (take (i + 1) xs) ++ drop (i + 1) xs
exchanged-next {A = A} f xs ys i d y within is new =
    let size : length ys ≡ length xs = omega (arith, ap length is, length-append (map f (take i xs)) (drop i xs), length-map (take i xs) f, length-take i xs, length-drop i xs) in
    let inside : i < length xs = omega arith in
    let done : length (map f (take i xs)) ≡ i = length-map (take i xs) f ∙ length-take-le i xs (omega arith) in
    let same : ys ≡ map f (take i xs) ++ get_or xs i d ∷ drop (i + 1) xs = is ∙ ap (λ rest. map f (take i xs) ++ rest) (drop_more xs i d inside) in
    let old : get_or ys i d ≡ get_or xs i d = ap (λ list. get_or list i d) same ∙ get_or_at (map f (take i xs)) (get_or xs i d) (drop (i + 1) xs) d i done in
    ap (λ list. set list i y) same ∙ set_at (map f (take i xs)) (get_or xs i d) (drop (i + 1) xs) y i done
    ∙ ap (λ z. map f (take i xs) ++ z ∷ drop (i + 1) xs) (new ∙ ap f old)
    ∙ sym (append_assoc (map f (take i xs)) (f (get_or xs i d) ∷ []) (drop (i + 1) xs))
    ∙ ap (λ list. list ++ drop (i + 1) xs) (sym (ap (map f) (take_more xs i d inside) ∙ map_push f (take i xs) (get_or xs i d)))

-- ---- lists of atoms, place by place

-- an item that stands at a place is that of the place
at-place : {A : Type 0} (xs : List A) (i : ℕ) (x : A) → i < length xs → slice_get xs i ≡ Some x → take (i + 1) xs ≡ take i xs ++ x ∷ []
at-place xs i x within at = take_more xs i x within ∙ ap (λ one. take i xs ++ one ∷ []) (get_or_from_slice_get xs i x x at)

-- one more item fails a test
pub none-next : {A : Type 0} (test : A → Bool) (xs : List A) (i : ℕ) (x : A) → i < length xs → slice_get xs i ≡ Some x → list_any test (take i xs) ≡ false → test x ≡ false
    → list_any test (take (i + 1) xs) ≡ false
none-next test xs i x within at none fails =
    ap (list_any test) (at-place xs i x within at) ∙ list_any-push test (take i xs) x ∙ ap₂ (λ a b. a || b) none fails

-- one more item is made
pub made-next : {A B : Type 0} (f : A → B) (xs : List A) (ys : List B) (i : ℕ) (x : A) (y : B) → i < length xs → slice_get xs i ≡ Some x → ys ≡ map f (take i xs) → y ≡ f x
    → ys ++ y ∷ [] ≡ map f (take (i + 1) xs)
made-next f xs ys i x y within at made is =
    ap₂ (λ first last. first ++ last ∷ []) made is ∙ sym (ap (map f) (at-place xs i x within at) ∙ map_push f (take i xs) x)

-- ---- modules

-- a list that was lent and exchanged
pub written-back : {A : Type 0} (v : Vec A Global) (lent new : List A) (f : A → A) (old : List A) → lent ≡ v.items → length lent ≡ v.len → length new ≡ length lent → new ≡ map f lent → v.items ≡ old
    → (with_items v new).items ≡ map f old
written-back v lent new f old same size kept is was = with_items_is v new (kept ∙ size) ∙ is ∙ ap (map f) (same ∙ was)

-- a module whose ports and items have the names that are given
pub parts-given : (renaming : Renaming) (pairs : List (List ℕ × List ℕ)) → Lists renaming pairs → (m : Parts) (name : List ℕ) (ports : List Port) (items : List Item) → name ≡ m.name
    → ports ≡ map (renamed_port (given_by renaming)) m.ports → items ≡ map (renamed_item (given_by renaming)) m.items
    → (let made : Parts = record { name = name; ports = ports; items = items } in made) ≡ renamed pairs m
parts-given renaming pairs lists m name ports items name_is ports_are items_are =
    let same : given_by renaming ≡ new_name pairs = given-is renaming pairs lists in
    let all_ports : ports ≡ map (renamed_port (new_name pairs)) m.ports = ports_are ∙ ap (λ to. map (renamed_port to) m.ports) same in
    let all_items : items ≡ map (renamed_item (new_name pairs)) m.items = items_are ∙ ap (λ to. map (renamed_item to) m.items) same in
    λ i. record { name = name_is i; ports = all_ports i; items = all_items i }
