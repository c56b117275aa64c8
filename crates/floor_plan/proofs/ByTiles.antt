-- Marks and counts of links by their tiles.
use Rattle.std.proofs.Common.{◌≡◌, ◌≢◌, ℕ, zero, suc, ◌+◌, ◌<◌, Bool, true, false, cond, ◌&&◌, ◌==◌, List, [], ◌∷◌, ◌++◌, count_by, filter, get_or, drop, length, map, replicate, set, subst, take, refl, sym, ap, ap₂, ◌∙◌, arith, append-nil, get_or-set_other, get_or-set_same}
use Rattle.std.specs.Prelude.{All, IfSome, None, Option, Some, slice_get}
use Rattle.std.specs.declared.vec.Vec.{Vec}
use Rattle.std.proofs.lemmas.Bool.{and_parts, eqb-true, eqb-false}
use Rattle.std.proofs.lemmas.List.{drop_all, get_or-map, get_or-replicate, length-replicate, length-set, map-set, take_all, take_more}
use Rattle.std.proofs.lemmas.List.Elements.{All-head, All-tail, filter-append}
use Rattle.std.proofs.lemmas.List.Sums.{sum_by-append}
use Rattle.std.proofs.lemmas.Option.{slice_get-get_or}
use Rattle.index_search.specs.Places.{gathered_below}
use Rattle.index_search.proofs.Places.{gathered_below-same}
use Rattle.plane_map.specs.Layout.{kind_of, grid_width, grid_height}
use Rattle.plane_map.specs.declared.tile.RowCol.{RowCol}
use Rattle.plane_map.specs.declared.tile.TileKind.{TileKind}
use Rattle.plane_map.proofs.Grids.{grid_height-le, grid_width-le}
use Rattle.ice_image.specs.Configuration.{Configuration}
use Rattle.chipdb_reader.specs.Database.{Database, Link}
use Rattle.chipdb_reader.specs.Kept.{link_line, link_lines}
use Rattle.chipdb_reader.specs.declared.items.LinkLine.{LinkLine}
use Rattle.fabric_model.specs.Fabric.{numbered, numbered_from}
use Rattle.fabric_model.specs.Links.{AreLinks, LinkSet, places_on}
use Rattle.fabric_model.specs.On.{is_link_on}
use Rattle.fabric_model.specs.Tiles.{over_grid}
use Rattle.plan_marks.specs.declared.plan.Mark.{Mark}
use Rattle.floor_plan.specs.ByTile.{AreByTile, CountsLinks, IsLinkNear, IsNear, Raises, index_of, is_in, is_index_in, lists_of, raised, tile_by, tiles_by}
use Rattle.floor_plan.specs.Marks.{marks_of}
use Rattle.floor_plan.specs.Plans.{is_mark_at, is_on_at, marks_at, tile_of, tiles_of}
use Rattle.floor_plan.proofs.Kept.{count_by-both, count_by-cons, count_by-map}

-- ---- marks

pub by_tile-none : (lists : List (List Mark)) → lists ≡ replicate 4096 [] → AreByTile [] lists
by_tile-none lists none = record {
  all = ap length none ∙ length-replicate {A = List Mark} 4096 [];
  each = λ x y x_in y_in.
      let inside : index_of x y < 4096 = omega arith in
      ap (λ lists. get_or lists (index_of x y) []) none ∙ get_or-replicate 4096 (index_of x y) [] [] inside;
}

-- what a place has if what another place has was changed
module _ {A : Type 0} (lists : List A) (d more : A) (at_x at_y x y : ℕ) (all : length lists ≡ 4096) (at_left : at_x < 64) (at_low : at_y < 64) (left : x < 64) (low : y < 64) where
  abbrev changed : List A
  changed = set lists (index_of at_x at_y) more

  other : (index_of x y) ≢ (index_of at_x at_y) → get_or changed (index_of x y) d ≡ get_or lists (index_of x y) d
  other ne = get_or-set_other lists (index_of at_x at_y) (index_of x y) more d ne

  set-at : (p q : Bool) → (at_x == x) ≡ p → (at_y == y) ≡ q → get_or changed (index_of x y) d ≡ cond (p && q) more (get_or lists (index_of x y) d)
  set-at true true same_x same_y =
      let ex : at_x ≡ x = eqb-true at_x x same_x in
      let ey : at_y ≡ y = eqb-true at_y y same_y in
      let e : index_of at_x at_y ≡ index_of x y = omega arith in
      let inside : index_of at_x at_y < length lists = omega arith in
      ap (λ k. get_or changed k d) (sym e) ∙ get_or-set_same lists (index_of at_x at_y) more d inside
  set-at true false same_x same_y =
      let ney : at_y ≢ y = eqb-false at_y y same_y in
      let ne : (index_of x y) ≢ (index_of at_x at_y) = omega arith in
      other ne
  set-at false q same_x same_y =
      let nex : at_x ≢ x = eqb-false at_x x same_x in
      let ne : (index_of x y) ≢ (index_of at_x at_y) = omega arith in
      other ne

  pub changed-at : get_or changed (index_of x y) d ≡ cond ((at_x == x) && (at_y == y)) more (get_or lists (index_of x y) d)
  changed-at = set-at (at_x == x) (at_y == y) refl refl

-- a mark is pushed to one of the vectors
pub pushed : {Z : Type 0} (lists : List (Vec Mark Z)) (at : ℕ) (mark : Mark) (lent new : Vec Mark Z) → at < length lists → lent ≡ get_or lists at lent → new.items ≡ lent.items ++ mark ∷ []
    → lists_of (set lists at new) ≡ set (lists_of lists) at (get_or (lists_of lists) at [] ++ mark ∷ [])
pushed {Z} lists at mark lent new within lent_is more =
    map-set (λ marks. marks.items) lists at new
    ∙ ap (set (lists_of lists) at) (more ∙ ap (λ items. items ++ mark ∷ []) (ap (λ (marks : Vec Mark Z). marks.items) lent_is ∙ sym (get_or-map (λ marks. marks.items) lists at lent [] within)))

-- a mark is added at its tile
pub by_tile-more : (marks : List Mark) (mark : Mark) (lists new : List (List Mark)) → IsNear mark → AreByTile marks lists
    → new ≡ set lists (index_of mark.x mark.y) (get_or lists (index_of mark.x mark.y) [] ++ mark ∷ []) → AreByTile (marks ++ mark ∷ []) new
by_tile-more marks mark lists new near are new_is = record {
  all = ap length new_is ∙ length-set lists (index_of mark.x mark.y) (get_or lists (index_of mark.x mark.y) [] ++ mark ∷ []) ∙ are.all;
  each = λ x y left low.
      ap (λ lists. get_or lists (index_of x y) []) new_is
      ∙ changed-at lists [] (get_or lists (index_of mark.x mark.y) [] ++ mark ∷ []) mark.x mark.y x y are.all near.0 near.1 left low
      ∙ last x y (is_mark_at x y mark) refl left low
      ∙ sym (filter-append (is_mark_at x y) marks (mark ∷ []));
}
  where
    last : (x y : ℕ) (here : Bool) → is_mark_at x y mark ≡ here → x < 64 → y < 64
        → cond (is_mark_at x y mark) (get_or lists (index_of mark.x mark.y) [] ++ mark ∷ []) (get_or lists (index_of x y) []) ≡ marks_at x y marks ++ filter (is_mark_at x y) (mark ∷ [])
    last x y true is left low =
        let both = and_parts (mark.x == x) (mark.y == y) is in
        let same : index_of mark.x mark.y ≡ index_of x y = ap₂ index_of (eqb-true mark.x x both.0) (eqb-true mark.y y both.1) in
        rw is (ap (λ k. get_or lists k [] ++ mark ∷ []) same ∙ ap (λ list. list ++ mark ∷ []) (are.each x y left low))
    last x y false is left low = rw is (are.each x y left low ∙ sym (append-nil (marks_at x y marks)))

-- the index of a mark is one of a list
pub mark-within : (marks : List Mark) (i at : ℕ) (d : Mark) (lists : List (List Mark)) → All IsNear marks → i < length marks → at ≡ index_of (get_or marks i d).x (get_or marks i d).y
    → length lists ≡ 4096 → at < length lists
mark-within marks i at d lists near lt is all = let here : IsNear (get_or marks i d) = near i d lt in omega (arith, here.0, here.1, is, all)

-- the next mark of a list is added at its tile
pub by_tile-next : (marks : List Mark) (i at : ℕ) (d : Mark) (lists new : List (List Mark)) → All IsNear marks → i < length marks → at ≡ index_of (get_or marks i d).x (get_or marks i d).y
    → AreByTile (take i marks) lists → new ≡ set lists at (get_or lists at [] ++ get_or marks i d ∷ []) → AreByTile (take (i + 1) marks) new
by_tile-next marks i at d lists new near lt is are new_is =
    let mark = get_or marks i d in
    subst (λ list. AreByTile list new) (sym (take_more marks i d lt))
    (by_tile-more (take i marks) mark lists new (near i d lt) are (new_is ∙ ap (λ k. set lists k (get_or lists k [] ++ mark ∷ [])) is))

-- ---- links

pub raises-none : (links : List LinkLine) (counts : List ℕ) → length counts ≡ 4096 → Raises links [] counts counts
raises-none links counts all = record { all = all; each = λ x y left low. omega arith }

length-raised : (link : Option LinkLine) (counts : List ℕ) → length (raised link counts) ≡ length counts
length-raised None counts = refl
length-raised (Some link) counts = length-set counts (index_of link.x link.y) (get_or counts (index_of link.x link.y) 0 + 1)

-- a link of a list, all of whose links are near
pub near-at : (links : List LinkLine) → All IsLinkNear links → (place : ℕ) → IfSome (slice_get links place) IsLinkNear
near-at [] all place = tt
near-at (link ∷ links) all zero = All-head IsLinkNear link links all
near-at (link ∷ links) all (suc place) = near-at links (All-tail IsLinkNear link links all) place

raised-at : (link : Option LinkLine) (counts : List ℕ) (x y : ℕ) → IfSome link IsLinkNear → length counts ≡ 4096 → x < 64 → y < 64
    → get_or (raised link counts) (index_of x y) 0 ≡ get_or counts (index_of x y) 0 + cond (is_in x y link) 1 0
raised-at None counts x y near all left low = omega arith
raised-at (Some link) counts x y near all left low =
    changed-at counts 0 (get_or counts (index_of link.x link.y) 0 + 1) link.x link.y x y all near.0 near.1 left low ∙ here (is_in x y (Some link)) refl
  where
    here : (is : Bool) → is_in x y (Some link) ≡ is
        → cond (is_in x y (Some link)) (get_or counts (index_of link.x link.y) 0 + 1) (get_or counts (index_of x y) 0) ≡ get_or counts (index_of x y) 0 + cond (is_in x y (Some link)) 1 0
    here true is =
        let both = and_parts (link.x == x) (link.y == y) is in
        let same : index_of link.x link.y ≡ index_of x y = ap₂ index_of (eqb-true link.x x both.0) (eqb-true link.y y both.1) in
        rw is (ap (λ k. get_or counts k 0 + 1) same)
    here false is = rw is (omega arith)

-- a link is counted
pub raises-more : (links : List LinkLine) (places : List ℕ) (place : ℕ) (before counts new : List ℕ) → IfSome (slice_get links place) IsLinkNear → Raises links places before counts
    → new ≡ raised (slice_get links place) counts → Raises links (places ++ place ∷ []) before new
raises-more links places place before counts new near raises new_is = record {
  all = ap length new_is ∙ length-raised (slice_get links place) counts ∙ raises.all;
  each = λ x y left low.
      let one = ap (λ counts. get_or counts (index_of x y) 0) new_is ∙ raised-at (slice_get links place) counts x y near raises.all left low in
      let split = sum_by-append (λ place. cond (is_index_in links x y place) 1 0) places (place ∷ []) in
      omega (arith, one, split, raises.each x y left low);
}

-- the next link of a list is counted
pub raises-next : (links : List LinkLine) (places : List ℕ) (i d : ℕ) (found : Option LinkLine) (before counts new : List ℕ) → All IsLinkNear links → i < length places
    → Raises links (take i places) before counts → found ≡ slice_get links (get_or places i d) → new ≡ raised found counts → Raises links (take (i + 1) places) before new
raises-next links places i d found before counts new near lt raises is new_is =
    subst (λ list. Raises links list before new) (sym (take_more places i d lt))
    (raises-more links (take i places) (get_or places i d) before counts new (near-at links near (get_or places i d)) raises (new_is ∙ ap (λ link. raised link counts) is))

-- what a slice that was lent holds afterwards
pub lent-back : (old new : List ℕ) (len : ℕ) → len ≡ length old → length new ≡ length old → take len (new ++ drop (length new) old) ≡ new
lent-back old new len len_is same =
    let nothing : drop (length new) old ≡ [] = drop_all (length new) old (omega arith) in
    ap (λ rest. take len (new ++ rest)) nothing ∙ ap (take len) (append-nil new) ∙ take_all len new (omega arith)

-- two lists of links, one after the other
pub counts-links : (buffers routings : List LinkLine) (links : LinkSet) (none middle counts : List ℕ) → none ≡ replicate 4096 0
    → Raises buffers links.buffers none middle → Raises routings links.routings middle counts → CountsLinks buffers routings links counts
counts-links buffers routings links none middle counts none_is first second = record {
  all = second.all;
  each = λ x y left low.
      let inside : index_of x y < 4096 = omega arith in
      let zero_there : get_or none (index_of x y) 0 ≡ 0 = ap (λ counts. get_or counts (index_of x y) 0) none_is ∙ get_or-replicate 4096 (index_of x y) 0 0 inside in
      omega (arith, first.each x y left low, second.each x y left low, zero_there);
}

-- the same of counts that were lent twice
pub counts-kept : (buffers routings : List LinkLine) (links : LinkSet) (one two none first middle second counts : List ℕ) (len : ℕ) → none ≡ replicate 4096 0 → len ≡ length none
    → one ≡ links.buffers → two ≡ links.routings → first ≡ none → second ≡ take len (middle ++ drop (length middle) none) → Raises buffers one first middle → Raises routings two second counts
    → CountsLinks buffers routings links (take len (counts ++ drop (length counts) (take len (middle ++ drop (length middle) none))))
counts-kept buffers routings links one two none first middle second counts len none_is len_is one_is two_is first_is second_is raised_one raised_two =
    let all : length none ≡ 4096 = ap length none_is ∙ length-replicate {A = ℕ} 4096 0 in
    let again : List ℕ = take len (middle ++ drop (length middle) none) in
    let back : again ≡ middle = lent-back none middle len len_is (raised_one.all ∙ sym all) in
    let size : length again ≡ 4096 = ap length back ∙ raised_one.all in
    let last : take len (counts ++ drop (length counts) again) ≡ counts = lent-back again counts len (omega arith) (raised_two.all ∙ sym size) in
    subst (CountsLinks buffers routings links) (sym last)
    (counts-links buffers routings links none middle counts none_is
    (subst (λ places. Raises buffers places none middle) one_is (subst (λ start. Raises buffers one start middle) first_is raised_one))
    (subst (λ places. Raises routings places middle counts) two_is (subst (λ start. Raises routings two start counts) (second_is ∙ back) raised_two)))

-- ---- links that are on

-- a test for numbered items, and a test for their numbers that says the same of them as a test for the items
count-numbered : {A B : Type 0} (f : B → A) (one test : A → Bool) (look : ℕ → Bool) (from : ℕ) (lines : List B)
    → ((k : ℕ) (d : B) → k < length lines → look (from + k) ≡ test (f (get_or lines k d)))
    → count_by (λ (pair : ℕ × A). one pair.1 && look pair.0) (numbered_from from (map f lines)) ≡ count_by (λ item. one item && test item) (map f lines)
unfolding numbered_from
count-numbered f one test look from [] same = refl
count-numbered {A} f one test look from (line ∷ lines) same =
    let start : from + 0 ≡ from = omega arith in
    let here : look from ≡ test (f line) = ap look (sym start) ∙ same 0 line (omega arith) in
    let next : (k : ℕ) → suc from + k ≡ from + suc k = λ k. omega arith in
    count_by-cons (λ (pair : ℕ × A). one pair.1 && look pair.0) (from, f line) (numbered_from (suc from) (map f lines))
    ∙ ap₂ (λ b n. cond (one (f line) && b) 1 0 + n) here
    (count-numbered f one test look (suc from) lines (λ k d lt. ap look (next k) ∙ same (suc k) d (omega arith)))
    ∙ sym (count_by-cons (λ item. one item && test item) (f line) (map f lines))

-- the links that are on in a tile, by their indexes
on-there : (image : Configuration) (bits : List (List RowCol)) (lines : List LinkLine) (x y : ℕ)
    → count_by (is_index_in lines x y) (places_on image (link_lines bits lines)) ≡ count_by (is_on_at image x y) (link_lines bits lines)
unfolding places_on
on-there image bits lines x y =
    let links = link_lines bits lines in
    let on : ℕ × Link → Bool = λ place. is_link_on image place.1 in
    let looked : ℕ × Link → Bool = λ place. is_index_in lines x y place.0 in
    count_by-map (is_index_in lines x y) (λ (place : ℕ × Link). place.0) (filter on (numbered links))
    ∙ sym (count_by-both (λ place. on place && looked place) on looked (numbered links) (λ place. refl))
    ∙ count-numbered (link_line bits) (is_link_on image) (λ (link : Link). (link.x == x) && (link.y == y)) (is_index_in lines x y) 0 lines
    (λ k d lt. let start : 0 + k ≡ k = omega arith in ap (is_index_in lines x y) start ∙ ap (is_in x y) (slice_get-get_or lines k d lt))

-- ---- tiles

module _ (all : Bool) (db : Database) (image : Configuration) (links : LinkSet) (bits : List (List RowCol)) (buffers routings : List LinkLine)
    (buffers_are : db.buffers ≡ link_lines bits buffers) (routings_are : db.routings ≡ link_lines bits routings) (are : AreLinks db image links)
    (lists : List (List Mark)) (counts : List ℕ) (by_tile : AreByTile (marks_of all db image) lists) (counted : CountsLinks buffers routings links counts) where
  links-there : (x y : ℕ) → x < 64 → y < 64 → get_or counts (index_of x y) 0 ≡ count_by (is_on_at image x y) db.buffers + count_by (is_on_at image x y) db.routings
  links-there x y left low =
      counted.each x y left low
      ∙ ap₂ (λ n m. n + m)
      (ap (count_by (is_index_in buffers x y)) (are.buffers ∙ ap (places_on image) buffers_are) ∙ on-there image bits buffers x y ∙ ap (count_by (is_on_at image x y)) (sym buffers_are))
      (ap (count_by (is_index_in routings x y)) (are.routings ∙ ap (places_on image) routings_are) ∙ on-there image bits routings x y ∙ ap (count_by (is_on_at image x y)) (sym routings_are))

  tile-same : (x y : ℕ) (kind : Option TileKind) → x < 64 → y < 64 → tile_by lists counts x y kind ≡ tile_of all db image x y kind
  tile-same x y None left low = refl
  tile-same x y (Some kind) left low = rw (by_tile.each x y left low, links-there x y left low) refl

  -- what is kept by tiles gives the tiles of the plan
  pub tiles-are : tiles_by image.layout.device lists counts ≡ tiles_of all db image
  unfolding tiles_by tiles_of over_grid
  tiles-are =
      let device = image.layout.device in
      gathered_below-same (grid_height device) (λ y. gathered_below (grid_width device) (λ x. tile_by lists counts x y (kind_of device x y)))
      (λ y. gathered_below (grid_width device) (λ x. tile_of all db image x y (kind_of device x y)))
      (λ y low. gathered_below-same (grid_width device) (λ x. tile_by lists counts x y (kind_of device x y)) (λ x. tile_of all db image x y (kind_of device x y))
      (λ x left. tile-same x y (kind_of device x y) (omega (arith, left, grid_width-le device)) (omega (arith, low, grid_height-le device))))
