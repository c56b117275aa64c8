-- The first item of each key: items that are put into an index from the last to the first.
use Rattle.std.proofs.Common.{◌≡◌, ℕ, ◌+◌, ◌-◌, ◌<◌, ◌≤◌, Bool, ◌&&◌, ◌==◌, true, false, cond, List, [], length, get_or, drop, refl, sym, ap, ◌∙◌, subst, arith}
use Rattle.std.proofs.Math.Bool.{and_assoc}
use Rattle.std.specs.Prelude.{find, option_map, Option, Some, None}
use Rattle.std.specs.declared.cmp.Ordering.{Ordering}
use Rattle.std.specs.declared.cmp.Ordering.TheVariants.{Less, Equal, Greater}
use Rattle.std.specs.Ordering.{nat_cmp, is_eq, ordering_then}
use Rattle.std.specs.Cmp.{unsigned_ties}
use Rattle.std.proofs.lemmas.List.{drop_all, drop_more}
use Rattle.plane_map.specs.declared.tile.Place.{Place}
use Rattle.ice_image.specs.Owned.{is_same_place}
use Rattle.std.specs.BTreeMap.{BTreeMap, get, is_at}
use Rattle.std.specs.Map.{lookup}
use Rattle.chipdb_reader.specs.declared.items.Extra.{Extra}
use Rattle.chipdb_lines.specs.Items.{NameLine}
use Rattle.chipdb_reader.specs.declared.items.NetName.{NetName}
use Rattle.chipdb_reader.specs.Kept.{Kept, database_in, name_line, name_lines}
use Rattle.chipdb_reader.specs.Lookups.{names_of_net}
use Rattle.chipdb_reader.specs.Nets.{names_with}
use Rattle.chipdb_reader.specs.Texts.{text_at}
use Rattle.std.proofs.lemmas.Bool.{eqb-true}
use Rattle.image_explain.specs.declared.keys.PlaceKey.{PlaceKey}
use Rattle.image_explain.specs.declared.keys.TileKey.{TileKey}
use Rattle.image_explain.specs.Explained.{is_at as is_line_at}
use Rattle.image_explain.specs.Keys.{FindsExtras, FindsNames, FindsNet, FindsNets, is_name_in, place_cmp, place_key, tile_cmp, tile_key}
use Rattle.image_explain.proofs.Gathered.{find-map}

is_eq-then : (a b : Ordering) → is_eq (ordering_then a b) ≡ (is_eq a && is_eq b)
is_eq-then Less b = refl
is_eq-then Equal b = refl
is_eq-then Greater b = refl

-- places are equal keys if all their parts are equal
pub place-ties : (a b : Place) → is_eq (place_cmp (place_key a) (place_key b)) ≡ is_same_place a b
place-ties a b =
    is_eq-then (nat_cmp a.bank b.bank) (ordering_then (nat_cmp a.px b.px) (nat_cmp a.py b.py))
    ∙ ap (λ t. is_eq (nat_cmp a.bank b.bank) && t) (is_eq-then (nat_cmp a.px b.px) (nat_cmp a.py b.py))
    ∙ (λ i. sym (unsigned_ties a.bank b.bank) i && (sym (unsigned_ties a.px b.px) i && sym (unsigned_ties a.py b.py) i))
    ∙ sym (and_assoc (a.bank == b.bank) (a.px == b.px) (a.py == b.py))

-- no item so far
finds-none : {A : Type 0} (test : A → Bool) (items : List A) (n : ℕ) (found : Option A) → length items ≤ n → found ≡ None → found ≡ find test (drop n items)
finds-none test items n found past none = none ∙ sym (ap (find test) (drop_all n items past))

-- one item more in front
finds-more : {A : Type 0} (test : A → Bool) (items : List A) (n : ℕ) (d : A) (old new : Option A)
    → 0 < n → n ≤ length items → old ≡ find test (drop n items) → new ≡ cond (test (get_or items (n - 1) d)) (Some (get_or items (n - 1) d)) old → new ≡ find test (drop (n - 1) items)
finds-more test items n d old new some within so_far put =
    let back : n ≡ n - 1 + 1 = omega arith in
    put ∙ ap (cond (test (get_or items (n - 1) d)) (Some (get_or items (n - 1) d))) (so_far ∙ ap (λ n. find test (drop n items)) back)
    ∙ sym (ap (find test) (drop_more items (n - 1) d (omega arith)))

pub extras-none : (extras : List Extra) (n : ℕ) (firsts : BTreeMap PlaceKey Extra) → length extras ≤ n → firsts.entries ≡ [] → (at : Place) → get place_cmp firsts (place_key at) ≡ find (λ extra. is_same_place extra.at at) (drop n extras)
extras-none extras n firsts past empty at =
    finds-none (λ extra. is_same_place extra.at at) extras n (get place_cmp firsts (place_key at)) past (ap (λ entries. lookup (is_at (place_cmp (place_key at))) entries) empty)

pub extras-more : (extras : List Extra) (n : ℕ) (first : Extra) (old new : BTreeMap PlaceKey Extra) → 0 < n → n ≤ length extras → first ≡ get_or extras (n - 1) first
    → ((at : Place) → get place_cmp old (place_key at) ≡ find (λ extra. is_same_place extra.at at) (drop n extras))
    → ((key : PlaceKey) → get place_cmp new key ≡ cond (is_at (place_cmp (place_key first.at)) key) (Some first) (get place_cmp old key))
    → (at : Place) → get place_cmp new (place_key at) ≡ find (λ extra. is_same_place extra.at at) (drop (n - 1) extras)
extras-more extras n first old new some within here so_far put at =
    finds-more (λ extra. is_same_place extra.at at) extras n first (get place_cmp old (place_key at)) (get place_cmp new (place_key at)) some within (so_far at)
    (put (place_key at) ∙ ap (λ here. cond here (Some first) (get place_cmp old (place_key at))) (place-ties first.at at)
    ∙ ap (λ (extra : Extra). cond (is_same_place extra.at at) (Some extra) (get place_cmp old (place_key at))) here)

pub extras-all : (extras : List Extra) (n : ℕ) (firsts : BTreeMap PlaceKey Extra) → n ≤ 0
    → ((at : Place) → get place_cmp firsts (place_key at) ≡ find (λ extra. is_same_place extra.at at) (drop n extras)) → FindsExtras firsts extras
extras-all extras n firsts none so_far at =
    let first : n ≡ 0 = omega arith in
    so_far at ∙ ap (λ n. find (λ extra. is_same_place extra.at at) (drop n extras)) first

-- ---- names of nets

-- tiles are equal keys if both their parts are equal
pub tile-ties : (name : NetName) (x y : ℕ) → is_eq (tile_cmp (tile_key name.x name.y) (tile_key x y)) ≡ is_name_in x y name
tile-ties name x y =
    is_eq-then (nat_cmp name.x x) (nat_cmp name.y y) ∙ (λ i. sym (unsigned_ties name.x x) i && sym (unsigned_ties name.y y) i)

pub names-none : (names : List NetName) (n : ℕ) (firsts : BTreeMap TileKey NetName) → length names ≤ n → firsts.entries ≡ [] → (x y : ℕ) → get tile_cmp firsts (tile_key x y) ≡ find (is_name_in x y) (drop n names)
names-none names n firsts past empty x y =
    finds-none (is_name_in x y) names n (get tile_cmp firsts (tile_key x y)) past (ap (λ entries. lookup (is_at (tile_cmp (tile_key x y))) entries) empty)

pub names-more : (names : List NetName) (n : ℕ) (first : NetName) (old new : BTreeMap TileKey NetName) → 0 < n → n ≤ length names → first ≡ get_or names (n - 1) first
    → ((x y : ℕ) → get tile_cmp old (tile_key x y) ≡ find (is_name_in x y) (drop n names))
    → ((key : TileKey) → get tile_cmp new key ≡ cond (is_at (tile_cmp (tile_key first.x first.y)) key) (Some first) (get tile_cmp old key))
    → (x y : ℕ) → get tile_cmp new (tile_key x y) ≡ find (is_name_in x y) (drop (n - 1) names)
names-more names n first old new some within here so_far put x y =
    finds-more (is_name_in x y) names n first (get tile_cmp old (tile_key x y)) (get tile_cmp new (tile_key x y)) some within (so_far x y)
    (put (tile_key x y) ∙ ap (λ here. cond here (Some first) (get tile_cmp old (tile_key x y))) (tile-ties first x y)
    ∙ ap (λ (name : NetName). cond (is_name_in x y name) (Some name) (get tile_cmp old (tile_key x y))) here)

pub names-all : (names : List NetName) (n : ℕ) (firsts : BTreeMap TileKey NetName) → n ≤ 0
    → ((x y : ℕ) → get tile_cmp firsts (tile_key x y) ≡ find (is_name_in x y) (drop n names)) → FindsNames firsts names
names-all names n firsts none so_far x y =
    let first : n ≡ 0 = omega arith in
    so_far x y ∙ ap (λ n. find (is_name_in x y) (drop n names)) first

-- the bytes of a name that is found or isn't
bytes-found : (texts : List (List ℕ)) (net : ℕ) (found : Option NetName) → option_map (λ (name : NetName). text_at texts name.name) found ≡ option_map (λ (line : NameLine). line.name) (option_map (name_line texts) (option_map (λ (name : NetName). (name, net)) found))
bytes-found texts net None = refl
bytes-found texts net (Some name) = refl

-- an index of the names of a net finds the first one in each tile
pub net-found : (kept : Kept) (net : ℕ) (names : List NetName) (firsts : BTreeMap TileKey NetName)
    → name_lines kept.texts (names_with net names) ≡ names_of_net net (database_in kept).names → FindsNames firsts names → FindsNet kept net firsts
net-found kept net names firsts all finds x y =
    let line = name_line kept.texts in
    ap (option_map (λ (name : NetName). text_at kept.texts name.name)) (finds x y)
    ∙ bytes-found kept.texts net (find (is_name_in x y) names)
    ∙ sym (ap (option_map (λ (line : NameLine). line.name)) (ap (find (is_line_at x y)) (sym all)
    ∙ find-map line (is_line_at x y) (names_with net names) ∙ ap (option_map line) (find-map (λ (name : NetName). (name, net)) (λ named. is_line_at x y (line named)) names)))

some-same : (a b : BTreeMap TileKey NetName) → Some a ≡ Some b → a ≡ b
some-same a b same = cc

-- a net is the one that was put, or it is as before
net-chosen : (kept : Kept) (net other : ℕ) (put found : BTreeMap TileKey NetName) (before : Option (BTreeMap TileKey NetName)) (same : Bool) → (net == other) ≡ same → FindsNet kept net put
    → (before ≡ Some found → FindsNet kept other found) → cond same (Some put) before ≡ Some found → FindsNet kept other found
net-chosen kept net other put found before true is finds as_before there =
    subst (λ net. FindsNet kept net found) (eqb-true net other is) (subst (FindsNet kept net) (some-same put found there) finds)
net-chosen kept net other put found before false is finds as_before there = as_before there

-- one net more
pub nets-more : (kept : Kept) (net : ℕ) (put : BTreeMap TileKey NetName) (old new : BTreeMap ℕ (BTreeMap TileKey NetName)) → FindsNets kept old → FindsNet kept net put
    → ((key : ℕ) → get nat_cmp new key ≡ cond (is_at (nat_cmp net) key) (Some put) (get nat_cmp old key)) → FindsNets kept new
nets-more kept net put old new so_far finds more other found there =
    net-chosen kept net other put found (get nat_cmp old other) (net == other) refl finds (so_far other found)
    (ap (λ same. cond same (Some put) (get nat_cmp old other)) (unsigned_ties net other) ∙ sym (more other) ∙ there)

-- no nets
pub nets-none : (kept : Kept) (nets : BTreeMap ℕ (BTreeMap TileKey NetName)) → nets.entries ≡ [] → FindsNets kept nets
nets-none kept nets empty net firsts there =
    let none : get nat_cmp nets net ≡ None = ap (λ entries. lookup (is_at (nat_cmp net)) entries) empty in
    absurd (cc (sym none ∙ there))
