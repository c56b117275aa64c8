-- The first PLL of a list that isn't taken.
use Rattle.std.proofs.Common.{◌≡◌, ℕ, zero, suc, ◌<◌, ◌+◌, Bool, List, [], ◌∷◌, ◌++◌, map, take, length, get_or, refl, sym, ap, ◌∙◌, subst, arith}
use Rattle.std.specs.Prelude.{Some}
use Rattle.std.specs.List.{flat_map}
use Rattle.std.proofs.lemmas.List.Folds.{flat_map-map}
use Rattle.ice_image.specs.Configuration.{Configuration}
use Rattle.chipdb_reader.specs.Database.{Database, Pll}
use Rattle.chipdb_reader.specs.declared.items.PllCell.{PllCell}
use Rattle.chipdb_reader.specs.Kept.{pll_of}
use Rattle.fabric_model.specs.declared.pll.PllOutput.TheVariants as output
use Rattle.fabric_model.specs.declared.pll.PllSource.{PllSource}
use Rattle.fabric_model.specs.declared.pll.PllType.{PllType}
use Rattle.fabric_model.specs.Numbered.{numbered_from}
use Rattle.fabric_model.specs.Tiles.{first_of}
use Rattle.fabric_model.specs.Plls.{outputs_in, output_pin, pll_type, source_of, sources_in, is_refused_as, is_pll_refused}
use Rattle.fabric_plls.specs.Plls.{refused_tile, kept_sources, kept_refused}

first-append : {B : Type 0} (one two : List B) (first : B) → first_of one ≡ Some first → first_of (one ++ two) ≡ Some first
first-append [] two first is = absurd cc
first-append (item ∷ one) two first is = is

nothing-first : {B : Type 0} (one two : List B) → one ++ two ≡ [] → one ≡ []
nothing-first [] two none = refl
nothing-first (item ∷ one) two none = absurd cc

nothing-then : {B : Type 0} (one two : List B) → one ++ two ≡ [] → two ≡ []
nothing-then [] two none = none
nothing-then (item ∷ one) two none = absurd cc

-- what the first numbered item gives that gives something
pub first-numbered : {A B : Type 0} (given : ℕ × A → List B) (from : ℕ) (items : List A) (k n : ℕ) (d : A) (first : B) → k < length items → n ≡ from + k
    → flat_map given (numbered_from from (take k items)) ≡ [] → first_of (given (n, get_or items k d)) ≡ Some first → first_of (flat_map given (numbered_from from items)) ≡ Some first
unfolding numbered_from
first-numbered given from [] k n d first inside at none found = absurd (omega (arith, inside))
first-numbered {A} given from (head ∷ items) zero n d first inside at none found =
    let here : n ≡ from = omega (arith, at) in
    first-append (given (from, head)) (flat_map given (numbered_from (suc from) items)) first (subst (λ m. first_of (given (m, head)) ≡ Some first) here found)
first-numbered given from (head ∷ items) (suc k) n d first inside at none found =
    let rest = flat_map given (numbered_from (suc from) (take k items)) in
    let nothing = nothing-first (given (from, head)) rest none in
    rw nothing (first-numbered given (suc from) items k n d first (omega (arith, inside)) (omega (arith, at)) (nothing-then (given (from, head)) rest none) found)

-- items that are made of others have the same numbers
pub numbered-made : {A B C : Type 0} (made : A → B) (given : ℕ × B → List C) (from : ℕ) (items : List A)
    → flat_map (λ (place : ℕ × A). given (place.0, made place.1)) (numbered_from from items) ≡ flat_map given (numbered_from from (map made items))
unfolding numbered_from
numbered-made made given from [] = refl
numbered-made made given from (item ∷ items) = ap (λ rest. given (from, made item) ++ rest) (numbered-made made given (suc from) items)

take-made : {A B : Type 0} (made : A → B) (k : ℕ) (items : List A) → map made (take k items) ≡ take k (map made items)
take-made made zero items = refl
take-made made (suc k) [] = refl
take-made made (suc k) (item ∷ items) = ap (λ rest. made item ∷ rest) (take-made made k items)

-- the outputs of the first PLLs
pub kept-sources : (db : Database) (image : Configuration) (plls : List PllCell) (k : ℕ) → map pll_of plls ≡ db.plls
    → flat_map (kept_sources db image) (take k plls) ≡ flat_map (sources_in db image) (take k db.plls)
kept-sources db image plls k are =
    sym (flat_map-map (sources_in db image) pll_of (take k plls))
    ∙ ap (flat_map (sources_in db image)) (take-made pll_of k plls ∙ ap (take k) are)

pub all-sources : (db : Database) (image : Configuration) (plls : List PllCell) → map pll_of plls ≡ db.plls
    → flat_map (kept_sources db image) plls ≡ flat_map (sources_in db image) db.plls
all-sources db image plls are = sym (flat_map-map (sources_in db image) pll_of plls) ∙ ap (flat_map (sources_in db image)) are

pub all-refused : (db : Database) (image : Configuration) (plls : List PllCell) → map pll_of plls ≡ db.plls
    → flat_map (kept_refused db image) (numbered_from 0 plls) ≡ flat_map (refused_tile db image) (numbered_from 0 db.plls)
all-refused db image plls are =
    numbered-made pll_of (refused_tile db image) 0 plls ∙ ap (λ (list : List Pll). flat_map (refused_tile db image) (numbered_from 0 list)) are

-- the outputs of a PLL by its type
pub sources-by_type : (db : Database) (image : Configuration) (pll : Pll) (kind : PllType) → kind ≡ pll_type db image pll → flat_map (source_of db image pll) (outputs_in kind) ≡ sources_in db image pll
unfolding sources_in
sources-by_type db image pll kind is = ap (λ of. flat_map (source_of db image pll) (outputs_in of)) is

-- whether a kept PLL isn't taken, by what is known of those before it
pub refused-by : (db : Database) (image : Configuration) (plls : List PllCell) (k : ℕ) (pll : PllCell) (sources : List PllSource) (kind : PllType) (refused : Bool) → map pll_of plls ≡ db.plls
    → sources ≡ flat_map (kept_sources db image) (take k plls) → kind ≡ pll_type db image (pll_of pll)
    → refused ≡ is_refused_as sources (output_pin image (pll_of pll) output.A) (output_pin image (pll_of pll) output.B) kind
    → is_pll_refused db image (k, pll_of pll) ≡ refused
unfolding is_pll_refused
refused-by db image plls k pll sources kind refused are before is said =
    let a = output_pin image (pll_of pll) output.A in
    let b = output_pin image (pll_of pll) output.B in
    sym (said ∙ ap (λ of. is_refused_as of a b kind) (before ∙ kept-sources db image plls k are)
    ∙ ap (is_refused_as (flat_map (sources_in db image) (take k db.plls)) a b) is)
