-- Links that are on.
use Rattle.std.proofs.Common.{◌≡◌, ℕ, suc, ◌+◌, Bool, cond, List, [], ◌∷◌, filter, length, refl, sym, ap, ◌∙◌, count_by}
use Rattle.std.proofs.lemmas.List.{length-map}
use Rattle.std.proofs.lemmas.List.Sums.{length-filter, sum_by-cons}
use Rattle.ice_image.specs.Configuration.{Configuration}
use Rattle.chipdb_reader.specs.Database.{Link}
use Rattle.fabric_model.specs.Fabric.{numbered, numbered_from}
use Rattle.fabric_model.specs.Links.{places_on}
use Rattle.fabric_model.specs.On.{is_link_on}

-- pairing items with their indexes doesn't change how many pass a test
count_by-numbered : {A : Type 0} (test : A → Bool) (place : ℕ) (items : List A) → count_by (λ (item : ℕ × A). test item.1) (numbered_from place items) ≡ count_by test items
unfolding numbered_from
count_by-numbered test place [] = refl
count_by-numbered {A} test place (item ∷ items) =
    sum_by-cons (λ (x : ℕ × A). cond (test x.1) 1 0) (place, item) (numbered_from (suc place) items)
    ∙ ap (λ n. cond (test item) 1 0 + n) (count_by-numbered test (suc place) items)
    ∙ sym (sum_by-cons (λ x. cond (test x) 1 0) item items)

-- one index is kept for each link that is on
pub length-places_on : (image : Configuration) (links : List Link) → length (places_on image links) ≡ count_by (is_link_on image) links
unfolding places_on
length-places_on image links =
    let test : ℕ × Link → Bool = λ place. is_link_on image place.1 in
    length-map (filter test (numbered links)) (λ place. place.0)
    ∙ length-filter test (numbered links) ∙ count_by-numbered (is_link_on image) 0 links
