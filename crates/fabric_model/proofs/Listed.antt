-- What is found in lists that are made from others, and bits that are all set.
use Rattle.std.proofs.Common.{◌≡◌, ℕ, zero, suc, ◌<◌, ◌≤◌, Bool, true, false, cond, List, [], ◌∷◌, length, get_or, nat_lt, subst, refl, sym, ap, ◌∙◌, arith}
use Rattle.std.specs.Prelude.{Some, None, find, position, bytes_eq, All, slice_get}
use Rattle.std.specs.List.{position_or_len, list_all, list_any}
use Rattle.std.proofs.lemmas.List.{get_or-map, length-map}
use Rattle.std.proofs.lemmas.List.Folds.{find_at, list_any_at}
use Rattle.std.proofs.lemmas.List.Quantifiers.{position-Some}
use Rattle.std.proofs.lemmas.Option.{slice_get-get_or, slice_get_past}
use Rattle.std.proofs.lemmas.Bool.{ltb-false, ltb-true}
use Rattle.shared_lemmas.proofs.Tests.{first_true}
use Rattle.plane_map.specs.Layout.{columns_of}
use Rattle.plane_map.specs.declared.tile.RowCol.{RowCol}
use Rattle.plane_map.specs.declared.tile.TileKind.{TileKind}
use Rattle.chipdb_lines.specs.Items.{FunctionLine}
use Rattle.chipdb_lines.specs.Kept.{bits_named}
use Rattle.chipdb_lines.specs.Statements.{is_same_kind}
use Rattle.chipdb_reader.specs.declared.items.Function.{Function}
use Rattle.chipdb_reader.specs.Fit.{IsFunctionLine, IsBitIn}
use Rattle.chipdb_reader.specs.Kept.{function_line, function_lines}
use Rattle.chipdb_reader.specs.Lookups.{function_place, is_function}
use Rattle.ice_image.specs.Configuration.{Configuration}
use Rattle.ice_image.specs.Bits.{tile_bit_of}
use Rattle.fabric_model.specs.On.{bits_at}
use Rattle.fabric_model.proofs.InOrder.{is_same_kind-is}

-- ---- the first that passes

cond-Some : (passes : Bool) (n m : ℕ) → cond passes (Some n) None ≡ Some m → n ≡ m
cond-Some true n m found = cc
cond-Some false n m found = absurd cc

cond-None : (passes : Bool) (n : ℕ) → cond passes (Some n) None ≡ None → passes ≡ false
cond-None true n found = absurd cc
cond-None false n found = refl

pub find-at_position : {X : Type 0} (p : X → Bool) (xs : List X) (place : ℕ) → position p xs ≡ Some place → find p xs ≡ slice_get xs place
find-at_position p xs place found =
    find_at p xs ∙ ap (λ n. slice_get xs n) (cond-Some (nat_lt (position_or_len p xs) (length xs)) (position_or_len p xs) place found)

pub find-position : {X : Type 0} (p : X → Bool) (xs : List X) (place : ℕ) (d : X) → position p xs ≡ Some place → find p xs ≡ Some (get_or xs place d)
find-position p xs place d found = find-at_position p xs place found ∙ slice_get-get_or xs place d (position-Some p xs place d found).0

pub find-no_position : {X : Type 0} (p : X → Bool) (xs : List X) → position p xs ≡ None → find p xs ≡ None
find-no_position p xs none =
    find_at p xs ∙ slice_get_past xs (position_or_len p xs) (ltb-false (position_or_len p xs) (length xs) (cond-None (nat_lt (position_or_len p xs) (length xs)) (position_or_len p xs) none))

-- ---- functions

-- a function that was found by its place
pub record IsFound (texts : List (List ℕ)) (bits : List (List RowCol)) (functions : List Function) (kind : TileKind) (name : List ℕ) (function : Function) : Type 0 where
  pub named : find (is_function kind name) (function_lines texts bits functions) ≡ Some (function_line texts bits function)
  pub bits_in : All (IsBitIn (columns_of kind)) (bits_named bits function.bits)

cond-inside : (passes : Bool) (n m length : ℕ) → (passes ≡ true → n < length) → cond passes (Some n) None ≡ Some m → m < length
cond-inside true n m length inside found = let same : n ≡ m = cc in omega (arith, inside refl)
cond-inside false n m length inside found = absurd cc

pub place_inside : (texts : List (List ℕ)) (bits : List (List RowCol)) (functions : List Function) (kind : TileKind) (name : List ℕ) (place : ℕ)
    → function_place kind name (function_lines texts bits functions) ≡ Some place → place < length functions
unfolding function_place
place_inside texts bits functions kind name place found =
    let lines : List FunctionLine = function_lines texts bits functions in
    omega (arith, cond-inside (nat_lt (position_or_len (is_function kind name) lines) (length lines)) (position_or_len (is_function kind name) lines) place (length lines) (ltb-true (position_or_len (is_function kind name) lines) (length lines)) found, length-map functions (function_line texts bits))

pub is_found : (texts : List (List ℕ)) (bits : List (List RowCol)) (functions : List Function) (kind : TileKind) (name : List ℕ) (place : ℕ) (function : Function)
    → All IsFunctionLine (function_lines texts bits functions)
    → function_place kind name (function_lines texts bits functions) ≡ Some place → function ≡ get_or functions place function
    → IsFound texts bits functions kind name function
unfolding function_place
is_found texts bits functions kind name place function fit found is =
    let lines : List FunctionLine = function_lines texts bits functions in
    let line : FunctionLine = function_line texts bits function in
    let facts = position-Some (is_function kind name) lines place line found in
    let inside : place < length functions = place_inside texts bits functions kind name place found in
    let here : get_or lines place line ≡ line =
    get_or-map (function_line texts bits) functions place function line inside ∙ ap (function_line texts bits) (sym is) in
    let passes : is_function kind name line ≡ true = ap (is_function kind name) (sym here) ∙ facts.1 in
    let kind_is : function.kind ≡ kind = is_same_kind-is function.kind kind (first_true (is_same_kind function.kind kind) (bytes_eq name line.name) passes) in
    let fits : IsFunctionLine line = subst IsFunctionLine here (fit place line facts.0) in
    let Fit : TileKind → Type 0 = λ k. All (IsBitIn (columns_of k)) (bits_named bits function.bits) in
    record {
      named = find-position (is_function kind name) lines place line found ∙ ap (λ l. Some l) here;
      bits_in = subst Fit kind_is fits.bits_in;
    }

-- no function was found
pub not_found : (kind : TileKind) (name : List ℕ) (lines : List FunctionLine) → function_place kind name lines ≡ None → find (is_function kind name) lines ≡ None
unfolding function_place
not_found kind name lines none = find-no_position (is_function kind name) lines none

-- ---- bits that are all set

pub all_set : (bits : List Bool) (count : ℕ) → length bits ≤ count → ((k : ℕ) → k < count → get_or bits k false ≡ true) → list_all (λ bit. bit) bits ≡ true
all_set [] count few each = refl
all_set (bit ∷ bits) zero few each = absurd (omega arith)
all_set (bit ∷ bits) (suc count) few each =
    let first : bit ≡ true = each 0 (omega arith) in
    rw (first, all_set bits count (omega arith) (λ k below. each (suc k) (omega arith))) refl

pub all_set-not : (bits : List Bool) (k : ℕ) → k < length bits → get_or bits k false ≡ false → list_all (λ bit. bit) bits ≡ false
all_set-not [] k inside clear = absurd (omega arith)
all_set-not (bit ∷ bits) zero inside clear = let first : bit ≡ false = clear in rw first refl
all_set-not (true ∷ bits) (suc k) inside clear = all_set-not bits k (omega arith) clear
all_set-not (false ∷ bits) (suc k) inside clear = refl

-- as many bits as places
pub length-bits_at : (image : Configuration) (x y : ℕ) (bits : List RowCol) → length (bits_at image x y bits) ≡ length bits
length-bits_at image x y bits = length-map bits (λ bit. tile_bit_of image x y bit.row bit.col)

-- ---- tests that pass at some place

pub any_line-none : (test : FunctionLine → Bool) (texts : List (List ℕ)) (bits : List (List RowCol)) (functions : List Function)
    → ((k : ℕ) (d : Function) → k < length functions → test (function_line texts bits (get_or functions k d)) ≡ false)
    → list_any test (function_lines texts bits functions) ≡ false
any_line-none test texts bits [] none = refl
any_line-none test texts bits (function ∷ functions) none =
    let first : test (function_line texts bits function) ≡ false = none 0 function (omega arith) in
    rw (first, any_line-none test texts bits functions (λ k d inside. none (suc k) d (omega arith))) refl

-- the function of a place
line_at : (texts : List (List ℕ)) (bits : List (List RowCol)) (functions : List Function) (k : ℕ) (function : Function)
    → k < length functions → function ≡ get_or functions k function
    → get_or (function_lines texts bits functions) k (function_line texts bits function) ≡ function_line texts bits function
line_at texts bits functions k function inside is =
    get_or-map (function_line texts bits) functions k function (function_line texts bits function) inside ∙ ap (function_line texts bits) (sym is)

pub any_line-at : (test : FunctionLine → Bool) (texts : List (List ℕ)) (bits : List (List RowCol)) (functions : List Function) (k : ℕ) (function : Function)
    → k < length functions → function ≡ get_or functions k function → test (function_line texts bits function) ≡ true
    → list_any test (function_lines texts bits functions) ≡ true
any_line-at test texts bits functions k function inside is passes =
    list_any_at test (function_lines texts bits functions) k (function_line texts bits function)
    (omega (arith, length-map functions (function_line texts bits)))
    (ap test (line_at texts bits functions k function inside is) ∙ passes)

-- its bits are those of a tile of its kind
pub line_bits-in : (texts : List (List ℕ)) (bits : List (List RowCol)) (functions : List Function) (k : ℕ) (function : Function)
    → All IsFunctionLine (function_lines texts bits functions) → k < length functions → function ≡ get_or functions k function
    → All (IsBitIn (columns_of function.kind)) (bits_named bits function.bits)
line_bits-in texts bits functions k function fit inside is =
    (subst IsFunctionLine (line_at texts bits functions k function inside is)
    (fit k (function_line texts bits function) (omega (arith, length-map functions (function_line texts bits))))).bits_in

-- ---- bits of which none is set

pub none_set : (bits : List Bool) (count : ℕ) → length bits ≤ count → ((k : ℕ) → k < count → get_or bits k false ≡ false) → list_any (λ bit. bit) bits ≡ false
none_set [] count few each = refl
none_set (bit ∷ bits) zero few each = absurd (omega arith)
none_set (bit ∷ bits) (suc count) few each =
    let first : bit ≡ false = each 0 (omega arith) in
    rw (first, none_set bits count (omega arith) (λ k below. each (suc k) (omega arith))) refl
