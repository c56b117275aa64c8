-- Look-ups by ids find what look-ups by names would.
use Rattle.std.proofs.Common.{◌≡◌, ℕ, suc, ◌+◌, ◌<◌, Bool, true, false, not, ◌&&◌, cond, eqb, ltb, List, [], ◌∷◌, ◌++◌, length, drop, map, append-nil, refl, sym, ap, ◌∙◌, inl, inr, arith, lit≤, true≢false}
use Rattle.std.specs.Prelude.{Option, Some, None, All, bytes_eq, position, find, flat_map, nat_eq}
use Rattle.std.specs.Option.{option_map}
use Rattle.std.specs.List.{prefix_len}
use Rattle.std.proofs.lemmas.List.{length-map, map-append}
use Rattle.std.specs.Map.{lookup}
use Rattle.std.proofs.lemmas.Bool.{cases_Bool, cases_eq, ne_eqb, eq-eqb, le-ltb}
use Rattle.std.proofs.lemmas.List.Elements.{All-head, All-tail, filter-append}
use Rattle.shared_lemmas.proofs.Bytes.{same_bytes}
use Rattle.shared_lemmas.proofs.Numbers.{eqb-turned}
use Rattle.shared_lemmas.proofs.Tests.{and_none}
use Rattle.std.proofs.Math.Bool.{and-false}
use Rattle.plane_map.specs.declared.tile.TileKind.{TileKind}
use Rattle.plane_map.specs.declared.tile.RowCol.{RowCol}
use Rattle.chipdb_lines.specs.Items.{NameLine, ExtraLine}
use Rattle.chipdb_lines.specs.Statements.{is_same_kind}
use Rattle.chipdb_reader.specs.declared.items.NetName.{NetName}
use Rattle.chipdb_reader.specs.declared.items.Function.{Function}
use Rattle.chipdb_reader.specs.declared.items.Extra.{Extra}
use Rattle.chipdb_reader.specs.declared.texts.Texts.{Texts}
use Rattle.chipdb_reader.specs.Kept.{name_line, name_lines, function_line, function_lines, extra_line, extra_lines}
use Rattle.chipdb_reader.specs.Lookups.{is_name_at, net_at, names_of_net, is_function, function_place, extra_place}
use Rattle.std.specs.List.{AllByRecursion, IsDistinct}
use Rattle.std.specs.Map.{keys_of}
use Rattle.chipdb_reader.specs.declared.nets.Nets.{Nets}
use Rattle.chipdb_reader.specs.declared.nets.Span.{Span}
use Rattle.chipdb_reader.specs.Nets.{IsNetIndex, earlier_names, found_names, is_name, last_names, names_in, names_with, net_names}
use Rattle.chipdb_reader.specs.Texts.{IsIndexed, text_at}
use Rattle.chipdb_reader.proofs.NameSteps.{text-tie}

-- ---- names by their ids

-- no two names have the same id
pub id-tie : (texts : Texts) (name : List ℕ) (id i : ℕ) → IsIndexed texts → position (bytes_eq name) texts.arena ≡ Some id → i < length texts.arena → bytes_eq name (text_at texts.arena i) ≡ eqb i id
id-tie texts name id i indexed here lt =
    text-tie texts texts name id i (record { indexed = indexed; here = here; more = []; grown = sym (append-nil texts.arena); few = lit≤ tt }) lt

-- a name without an id is none of them
pub id-none : (texts : Texts) (name : List ℕ) (i : ℕ) → IsIndexed texts → position (bytes_eq name) texts.arena ≡ None → i < length texts.arena → bytes_eq name (text_at texts.arena i) ≡ false
id-none texts name i indexed none lt =
    elim (cases_Bool (bytes_eq name (text_at texts.arena i))) [
      | inl equal ↦
          let place : position (bytes_eq name) texts.arena ≡ Some i = ap (λ t. position (bytes_eq t) texts.arena) (same_bytes name (text_at texts.arena i) equal) ∙ indexed.apart i lt in
          let both : None ≡ Some i = sym none ∙ place in
          absurd cc
      | inr apart ↦ apart
    ]

-- ---- the first that passes

-- tests that agree find the same element
find-map : {A B : Type 0} (P : A → Type 0) (f : A → B) (test : B → Bool) (other : A → Bool) (xs : List A) → ((x : A) → P x → test (f x) ≡ other x) → All P xs → find test (map f xs) ≡ option_map f (find other xs)
find-map P f test other [] same all = refl
find-map P f test other (x ∷ xs) same all = by (test (f x)) (other x) (same x (All-head P x xs all)) (find-map P f test other xs same (All-tail P x xs all))
  where
    by : (b c : Bool) → b ≡ c → find test (map f xs) ≡ option_map f (find other xs) → cond b (Some (f x)) (find test (map f xs)) ≡ option_map f (cond c (Some x) (find other xs))
    by true true same rest = refl
    by false false same rest = rest
    by true false same rest = absurd (true≢false same)
    by false true same rest = absurd (true≢false (sym same))

find-none : {A B : Type 0} (P : A → Type 0) (f : A → B) (test : B → Bool) (xs : List A) → ((x : A) → P x → test (f x) ≡ false) → All P xs → find test (map f xs) ≡ None
find-none P f test [] fails all = refl
find-none P f test (x ∷ xs) fails all = rw (fails x (All-head P x xs all)) (find-none P f test xs fails (All-tail P x xs all))

-- the value that is found belongs to the element that is found
lookup-find : {K X : Type 0} (test : K → Bool) (entries : List (K × X)) → lookup test entries ≡ option_map (λ e. e.1) (find (λ e. test e.0) entries)
lookup-find test [] = refl
lookup-find test (e ∷ entries) = by (test e.0) (lookup-find test entries)
  where
    by : (b : Bool) → lookup test entries ≡ option_map (λ f. f.1) (find (λ f. test f.0) entries) → cond b (Some e.1) (lookup test entries) ≡ option_map (λ f. f.1) (cond b (Some e) (find (λ f. test f.0) entries))
    by true rest = refl
    by false rest = rest

option_map-map : {A B C : Type 0} (f : A → B) (g : B → C) (o : Option A) → option_map g (option_map f o) ≡ option_map (λ x. g (f x)) o
option_map-map f g (Some x) = refl
option_map-map f g None = refl

-- ---- nets

-- the net of a name that has an id
pub net-found : (texts : Texts) (names : List (NetName × ℕ)) (x y : ℕ) (name : List ℕ) (id : ℕ) → IsIndexed texts → All (λ p. p.0.name < length texts.arena) names → position (bytes_eq name) texts.arena ≡ Some id
    → lookup (is_name (record { x = x; y = y; name = id })) names ≡ net_at x y name (name_lines texts.arena names)
unfolding net_at
net-found texts names x y name id indexed all here =
    let key : NetName = record { x = x; y = y; name = id } in
    let agrees : (p : NetName × ℕ) → p.0.name < length texts.arena → is_name_at x y name (name_line texts.arena p) ≡ is_name key p.0 =
    λ p lt. ap (λ b. eqb p.0.x x && (eqb p.0.y y && b)) (id-tie texts name id p.0.name indexed here lt) in
    lookup-find (is_name key) names
    ∙ sym (ap (option_map (λ (line : NameLine). line.net)) (find-map (λ (p : NetName × ℕ). p.0.name < length texts.arena) (name_line texts.arena) (is_name_at x y name) (λ p. is_name key p.0) names agrees all)
    ∙ option_map-map (name_line texts.arena) (λ (line : NameLine). line.net) (find (λ p. is_name key p.0) names))

-- a name without an id has no net
pub net-none : (texts : Texts) (names : List (NetName × ℕ)) (x y : ℕ) (name : List ℕ) → IsIndexed texts → All (λ p. p.0.name < length texts.arena) names → position (bytes_eq name) texts.arena ≡ None
    → net_at x y name (name_lines texts.arena names) ≡ None
unfolding net_at
net-none texts names x y name indexed all none =
    let fails : (p : NetName × ℕ) → p.0.name < length texts.arena → is_name_at x y name (name_line texts.arena p) ≡ false =
    λ p lt. ap (λ b. eqb p.0.x x && (eqb p.0.y y && b)) (id-none texts name p.0.name indexed none lt) ∙ and_none (eqb p.0.x x) (eqb p.0.y y) in
    ap (option_map (λ (line : NameLine). line.net)) (find-none (λ (p : NetName × ℕ). p.0.name < length texts.arena) (name_line texts.arena) (is_name_at x y name) names fails all)

-- ---- extra bits

pub extra-found : (texts : Texts) (extras : List Extra) (name : List ℕ) (id : ℕ) → IsIndexed texts → All (λ e. e.name < length texts.arena) extras → position (bytes_eq name) texts.arena ≡ Some id
    → option_map (λ (e : Extra). e.at) (find (λ e. eqb e.name id) extras) ≡ extra_place name (extra_lines texts.arena extras)
unfolding extra_place
extra-found texts extras name id indexed all here =
    sym (ap (option_map (λ (line : ExtraLine). line.at))
    (find-map (λ (e : Extra). e.name < length texts.arena) (extra_line texts.arena) (λ (line : ExtraLine). bytes_eq name line.name) (λ (e : Extra). eqb e.name id) extras (λ e lt. id-tie texts name id e.name indexed here lt) all)
    ∙ option_map-map (extra_line texts.arena) (λ (line : ExtraLine). line.at) (find (λ (e : Extra). eqb e.name id) extras))

pub extra-none : (texts : Texts) (extras : List Extra) (name : List ℕ) → IsIndexed texts → All (λ e. e.name < length texts.arena) extras → position (bytes_eq name) texts.arena ≡ None
    → extra_place name (extra_lines texts.arena extras) ≡ None
unfolding extra_place
extra-none texts extras name indexed all none =
    ap (option_map (λ (line : ExtraLine). line.at))
    (find-none (λ (e : Extra). e.name < length texts.arena) (extra_line texts.arena) (λ (line : ExtraLine). bytes_eq name line.name) extras (λ e lt. id-none texts name e.name indexed none lt) all)

-- ---- functions

-- tests that agree find the same place
prefix-map : {A B : Type 0} (P : A → Type 0) (f : A → B) (test : B → Bool) (other : A → Bool) (xs : List A) → ((x : A) → P x → test (f x) ≡ other x) → All P xs → prefix_len test (map f xs) ≡ prefix_len other xs
prefix-map P f test other [] same all = refl
prefix-map P f test other (x ∷ xs) same all =
    let here = same x (All-head P x xs all) in
    let rest = prefix-map P f test other xs same (All-tail P x xs all) in
    λ i. cond (here i) (1 + rest i) 0

pub position-map : {A B : Type 0} (P : A → Type 0) (f : A → B) (test : B → Bool) (other : A → Bool) (xs : List A) → ((x : A) → P x → test (f x) ≡ other x) → All P xs → position test (map f xs) ≡ position other xs
position-map P f test other xs same all =
    let places = prefix-map P f (λ y. not (test y)) (λ x. not (other x)) xs (λ x is. ap not (same x is)) all in
    λ i. cond (ltb (places i) (length-map xs f i)) (Some (places i)) None

-- no place passes a test that none passes
prefix-no : {A : Type 0} (xs : List A) → prefix_len (λ (x : A). true) xs ≡ length xs
prefix-no [] = refl
prefix-no (x ∷ xs) = let rest = prefix-no xs in let next : 1 + length xs ≡ suc (length xs) = omega arith in ap (λ n. 1 + n) rest ∙ next

position-no : {A : Type 0} (xs : List A) → position (λ (x : A). false) xs ≡ None
position-no xs =
    let places = prefix-no xs in
    let past : ltb (length xs) (length xs) ≡ false = le-ltb (length xs) (length xs) (omega arith) in
    rw (places, past) refl

pub function-found : (texts : Texts) (bits : List (List RowCol)) (functions : List Function) (kind : TileKind) (name : List ℕ) (id : ℕ) → IsIndexed texts → All (λ f. f.name < length texts.arena) functions → position (bytes_eq name) texts.arena ≡ Some id
    → position (λ f. is_same_kind f.kind kind && eqb f.name id) functions ≡ function_place kind name (function_lines texts.arena bits functions)
unfolding function_place
function-found texts bits functions kind name id indexed all here =
    sym (position-map (λ (f : Function). f.name < length texts.arena) (function_line texts.arena bits) (is_function kind name) (λ (f : Function). is_same_kind f.kind kind && eqb f.name id) functions
    (λ f lt. ap (λ b. is_same_kind f.kind kind && b) (id-tie texts name id f.name indexed here lt)) all)

pub function-none : (texts : Texts) (bits : List (List RowCol)) (functions : List Function) (kind : TileKind) (name : List ℕ) → IsIndexed texts → All (λ f. f.name < length texts.arena) functions → position (bytes_eq name) texts.arena ≡ None
    → function_place kind name (function_lines texts.arena bits functions) ≡ None
unfolding function_place
function-none texts bits functions kind name indexed all none =
    position-map (λ (f : Function). f.name < length texts.arena) (function_line texts.arena bits) (is_function kind name) (λ f. false) functions
    (λ f lt. ap (λ b. is_same_kind f.kind kind && b) (id-none texts name f.name indexed none lt) ∙ and-false (is_same_kind f.kind kind)) all
    ∙ position-no functions

-- ---- the names of a net

-- names of a net alone
filter-one : (texts : List (List ℕ)) (net other : ℕ) (names : List NetName) → eqb other net ≡ true → names_of_net net (name_lines texts (names_with other names)) ≡ name_lines texts (names_with other names)
unfolding names_of_net
filter-one texts net other [] same = refl
filter-one texts net other (name ∷ names) same = rw same (ap (λ ls. name_line texts (name, other) ∷ ls) (filter-one texts net other names same))

filter-no : (texts : List (List ℕ)) (net other : ℕ) (names : List NetName) → eqb other net ≡ false → names_of_net net (name_lines texts (names_with other names)) ≡ []
unfolding names_of_net
filter-no texts net other [] apart = refl
filter-no texts net other (name ∷ names) apart = rw apart (filter-no texts net other names apart)

names_of_net-append : (net : ℕ) (xs ys : List NameLine) → names_of_net net (xs ++ ys) ≡ names_of_net net xs ++ names_of_net net ys
unfolding names_of_net
names_of_net-append net xs ys = filter-append (λ (line : NameLine). eqb line.net net) xs ys

abbrev entry_names : List NetName → ℕ × Span → List (NetName × ℕ)
entry_names all entry = names_with entry.0 (names_in all entry.1)

-- no entry has the net
names-absent : (texts : List (List ℕ)) (all : List NetName) (net : ℕ) (entries : List (ℕ × Span)) → AllByRecursion (λ other. nat_eq net other ≡ false) (keys_of entries) → names_of_net net (name_lines texts (flat_map (entry_names all) entries)) ≡ []
unfolding names_of_net
names-absent texts all net [] none = refl
names-absent texts all net (e ∷ entries) none =
    let apart : eqb e.0 net ≡ false = eqb-turned e.0 net ∙ none.0 in
    ap (names_of_net net) (map-append (name_line texts) (entry_names all e) (flat_map (entry_names all) entries))
    ∙ names_of_net-append net (name_lines texts (entry_names all e)) (name_lines texts (flat_map (entry_names all) entries))
    ∙ ap (λ ls. ls ++ names_of_net net (name_lines texts (flat_map (entry_names all) entries))) (filter-no texts net e.0 (names_in all e.1) apart)
    ∙ names-absent texts all net entries none.1

-- the names of a net are the names of its entry
pub names-found : (texts : List (List ℕ)) (all : List NetName) (net : ℕ) (entries : List (ℕ × Span)) → IsDistinct nat_eq (keys_of entries)
    → names_of_net net (name_lines texts (flat_map (entry_names all) entries)) ≡ name_lines texts (names_with net (found_names all (lookup (nat_eq net) entries)))
unfolding names_of_net IsDistinct
names-found texts all net [] distinct = refl
names-found texts all net (e ∷ entries) distinct =
    let split =
    ap (names_of_net net) (map-append (name_line texts) (entry_names all e) (flat_map (entry_names all) entries))
    ∙ names_of_net-append net (name_lines texts (entry_names all e)) (name_lines texts (flat_map (entry_names all) entries)) in
    elim (cases_eq net e.0) [
      | inl same ↦
          let here : eqb e.0 net ≡ true = eq-eqb e.0 net (sym same) in
          let key : nat_eq net e.0 ≡ true = eq-eqb net e.0 same in
          let others : AllByRecursion (λ other. nat_eq net other ≡ false) (keys_of entries) = rw same distinct.0 in
          let found : found_names all (lookup (nat_eq net) (e ∷ entries)) ≡ (names_in all e.1) = rw key refl in
          split ∙ ap (λ ls. ls ++ names_of_net net (name_lines texts (flat_map (entry_names all) entries))) (filter-one texts net e.0 (names_in all e.1) here)
          ∙ ap (λ ls. name_lines texts (entry_names all e) ++ ls) (names-absent texts all net entries others)
          ∙ append-nil (name_lines texts (entry_names all e))
          ∙ ap (λ n. name_lines texts (names_with n (names_in all e.1))) (sym same) ∙ ap (λ ns. name_lines texts (names_with net ns)) (sym found)
      | inr other ↦
          let apart : eqb e.0 net ≡ false = ne_eqb e.0 net (λ s. other (sym s)) in
          let key : nat_eq net e.0 ≡ false = ne_eqb net e.0 other in
          let found : lookup (nat_eq net) (e ∷ entries) ≡ lookup (nat_eq net) entries = rw key refl in
          split ∙ ap (λ ls. ls ++ names_of_net net (name_lines texts (flat_map (entry_names all) entries))) (filter-no texts net e.0 (names_in all e.1) apart)
          ∙ names-found texts all net entries distinct.1
          ∙ ap (λ o. name_lines texts (names_with net (found_names all o))) (sym found)
    ]

-- the names of a net, if all nets have been moved to the earlier ones
pub net-names-found : (texts : List (List ℕ)) (nets : Nets) (net : ℕ) → IsNetIndex nets → nets.last ≡ None → name_lines texts (names_with net (earlier_names nets net)) ≡ names_of_net net (name_lines texts (net_names nets))
net-names-found texts nets net indexed closed =
    let all : List NetName = nets.names.items in
    let whole : net_names nets ≡ flat_map (entry_names all) nets.earlier.entries =
    ap (λ o. flat_map (entry_names all) nets.earlier.entries ++ last_names o (drop nets.start all)) closed ∙ append-nil (flat_map (entry_names all) nets.earlier.entries) in
    sym (ap (λ ns. names_of_net net (name_lines texts ns)) whole ∙ names-found texts all net nets.earlier.entries indexed.unique)
