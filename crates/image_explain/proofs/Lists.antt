-- The places of links in lists by their tiles.
use Rattle.std.proofs.Common.{◌≡◌, ℕ, ◌+◌, ◌*◌, ◌<◌, ◌≢◌, Bool, true, false, ◌&&◌, ◌==◌, List, [], ◌∷◌, ◌++◌, length, get_or, set, replicate, Some, refl, sym, ap, ◌∙◌, arith, append-nil, get_or-set_other, get_or-set_same}
use Rattle.std.specs.Prelude.{if◌then◌else◌, slice_get}
use Rattle.std.specs.declared.vec.Vec.{Vec}
use Rattle.std.proofs.lemmas.Bool.{eqb-true, eqb-false}
use Rattle.std.proofs.lemmas.List.{length-set, map-set, get_or-map, get_or-replicate, length-replicate}
use Rattle.index_search.specs.Places.{gathered_below}
use Rattle.index_search.proofs.Places.{gathered_below-more, gathered_below-none}
use Rattle.ice_image.specs.Configuration.{Configuration}
use Rattle.chipdb_reader.specs.Database.{Link}
use Rattle.fabric_model.specs.On.{is_link_on}
use Rattle.image_explain.specs.Items.{link_here, is_on_at}
use Rattle.image_explain.proofs.Ons.{none-where}
use Rattle.image_explain.specs.Inside.{AreLists, lists_of, with_place}

-- a place is added to one of the vectors
pub pushed : {Z : Type 0} (lists : List (Vec ℕ Z)) (at place : ℕ) (lent new : Vec ℕ Z) → at < length lists → lent ≡ get_or lists at lent → new.items ≡ lent.items ++ place ∷ [] → lists_of (set lists at new) ≡ set (lists_of lists) at (get_or (lists_of lists) at [] ++ place ∷ [])
pushed {Z} lists at place lent new within lent_is more =
    map-set (λ places. places.items) lists at new
    ∙ ap (set (lists_of lists) at) (more ∙ ap (λ items. items ++ place ∷ []) (ap (λ (places : Vec ℕ Z). places.items) lent_is ∙ sym (get_or-map (λ places. places.items) lists at lent [] within)))

-- no places yet
pub AreLists-none : (image : Configuration) (links : List Link) (lists : List (List ℕ)) → lists ≡ replicate 4096 [] → AreLists image links 0 lists
AreLists-none image links lists none = record {
  all = ap length none ∙ length-replicate {A = List ℕ} 4096 [];
  places = λ x y x_in y_in.
      let inside : 64 * y + x < 4096 = omega arith in
      ap (λ lists. get_or lists (64 * y + x) []) none ∙ get_or-replicate 4096 (64 * y + x) [] [] inside ∙ sym (gathered_below-none 0 (λ place. link_here image x y place (slice_get links place)) (λ k lt. absurd (omega arith)));
}

-- ---- one link more

no-link : (p q : Bool) → (p && (q && false)) ≡ false
no-link true true = refl
no-link true false = refl
no-link false q = refl

module _ (lists : List (List ℕ)) (lx ly x y n : ℕ) (all : length lists ≡ 4096) (lx_in : lx < 64) (ly_in : ly < 64) (x_in : x < 64) (y_in : y < 64) where
  abbrev added : List (List ℕ)
  added = set lists (64 * ly + lx) (get_or lists (64 * ly + lx) [] ++ n ∷ [])

  other : (64 * y + x) ≢ (64 * ly + lx) → get_or added (64 * y + x) [] ≡ get_or lists (64 * y + x) []
  other ne = get_or-set_other lists (64 * ly + lx) (64 * y + x) (get_or lists (64 * ly + lx) [] ++ n ∷ []) [] ne

  step : (p q : Bool) → (lx == x) ≡ p → (ly == y) ≡ q → get_or added (64 * y + x) [] ≡ get_or lists (64 * y + x) [] ++ (if p && (q && true) then n ∷ [] else [])
  step true true same_x same_y =
      let ex : lx ≡ x = eqb-true lx x same_x in
      let ey : ly ≡ y = eqb-true ly y same_y in
      let e : 64 * ly + lx ≡ 64 * y + x = omega arith in
      let inside : 64 * ly + lx < length lists = omega arith in
      ap (λ k. get_or added k []) (sym e) ∙ get_or-set_same lists (64 * ly + lx) (get_or lists (64 * ly + lx) [] ++ n ∷ []) [] inside ∙ ap (λ k. get_or lists k [] ++ n ∷ []) e
  step true false same_x same_y =
      let ney : ly ≢ y = eqb-false ly y same_y in
      let ne : (64 * y + x) ≢ (64 * ly + lx) = omega arith in
      other ne ∙ sym (append-nil (get_or lists (64 * y + x) []))
  step false q same_x same_y =
      let nex : lx ≢ x = eqb-false lx x same_x in
      let ne : (64 * y + x) ≢ (64 * ly + lx) = omega arith in
      other ne ∙ sym (append-nil (get_or lists (64 * y + x) []))

  pub with-place : (on : Bool) → get_or (with_place on (64 * ly + lx) n lists) (64 * y + x) [] ≡ get_or lists (64 * y + x) [] ++ (if (lx == x) && ((ly == y) && on) then n ∷ [] else [])
  with-place true = step (lx == x) (ly == y) refl refl
  with-place false = none-where ((lx == x) && ((ly == y) && false)) (n ∷ []) (get_or lists (64 * y + x) []) (no-link (lx == x) (ly == y))

length-with : (on : Bool) (at n : ℕ) (lists : List (List ℕ)) → length lists ≡ 4096 → length (with_place on at n lists) ≡ 4096
length-with true at n lists all = length-set lists at (get_or lists at [] ++ n ∷ []) ∙ all
length-with false at n lists all = all

-- the index of a link is added if the link is on
pub AreLists-more : (image : Configuration) (links : List Link) (n : ℕ) (lists new : List (List ℕ)) (link : Link) → slice_get links n ≡ Some link → link.x < 64 → link.y < 64 → AreLists image links n lists → new ≡ with_place (is_link_on image link) (64 * link.y + link.x) n lists → AreLists image links (n + 1) new
AreLists-more image links n lists new link here x_in y_in are new_is = record {
  all = ap length new_is ∙ length-with (is_link_on image link) (64 * link.y + link.x) n lists are.all;
  places = λ x y x_lt y_lt.
      ap (λ lists. get_or lists (64 * y + x) []) new_is
      ∙ with-place lists link.x link.y x y n are.all x_in y_in x_lt y_lt (is_link_on image link)
      ∙ ap (λ list. list ++ (if is_on_at image x y link then n ∷ [] else [])) (are.places x y x_lt y_lt)
      ∙ ap (λ found. gathered_below n (λ place. link_here image x y place (slice_get links place)) ++ link_here image x y n found) (sym here)
      ∙ sym (gathered_below-more n (λ place. link_here image x y place (slice_get links place)));
}
