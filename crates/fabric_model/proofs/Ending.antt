-- What is kept of the links that are on.
use Rattle.std.proofs.Common.{◌≡◌, ℕ, suc, ◌<◌, ◌≤◌, false, eqb, ◌||◌, List, [], ◌∷◌, length, get_or, map, refl, sym, ap, ap₂, ◌∙◌, subst, arith, inl, inr}
use Rattle.std.specs.Prelude.{filter, All}
use Rattle.std.specs.List.{list_any}
use Rattle.std.proofs.lemmas.Bool.{cases_Bool, cases_lt}
use Rattle.std.proofs.lemmas.List.{get_or_past, get_or_default}
use Rattle.std.proofs.lemmas.List.Elements.{All-head, All-tail, All-cons, All-nil, All-weaker}
use Rattle.ice_image.specs.Configuration.{Configuration}
use Rattle.chipdb_lines.specs.declared.chip.Chip.{Chip}
use Rattle.chipdb_reader.specs.Database.{Database, Link}
use Rattle.chipdb_reader.specs.Fit.{IsLink, IsFit}
use Rattle.fabric_model.specs.On.{is_link_on}
use Rattle.fabric_model.specs.Fabric.{numbered_from, joins_of}
use Rattle.fabric_model.specs.Nets.{is_source, is_end, is_read}
use Rattle.fabric_model.specs.Joins.{class_of}
use Rattle.fabric_model.specs.declared.on.OnLink.{OnLink}
use Rattle.fabric_model.specs.Found.{on_link, links_on, ends_of, IsBelow, comes_from, touches}
use Rattle.fabric_model.specs.Links.{LinkSet, AreLinks, places_on}
use Rattle.fabric_model.proofs.Joined.{AreBelow, class_of-outside}

-- the links that are on, counted from a number
abbrev on_from : Configuration → ℕ → List Link → List OnLink
on_from image n links = map on_link (filter (λ place. is_link_on image place.1) (numbered_from n links))

-- ---- places

places-from : (image : Configuration) (n : ℕ) (links : List Link) → map (λ link. link.place) (on_from image n links) ≡ map (λ place. place.0) (filter (λ place. is_link_on image place.1) (numbered_from n links))
unfolding numbered_from
places-from image n [] = refl
places-from image n (link ∷ links) =
    let rest = places-from image (suc n) links in
    elim (cases_Bool (is_link_on image link)) [
      | inl passes ↦ rw passes (ap (λ places. n ∷ places) rest)
      | inr fails ↦ rw fails rest
    ]

pub places-is : (image : Configuration) (links : List Link) → map (λ link. link.place) (links_on image links) ≡ places_on image links
unfolding links_on places_on
places-is image links = places-from image 0 links

-- ---- nets

below-from : (chip : Chip) (image : Configuration) (n : ℕ) (links : List Link) → All (IsLink chip) links → All (IsBelow chip.nets) (on_from image n links)
unfolding numbered_from
below-from chip image n [] fit = All-nil (IsBelow chip.nets)
below-from chip image n (link ∷ links) fit =
    let rest = below-from chip image (suc n) links (All-tail (IsLink chip) link links fit) in
    let one = All-head (IsLink chip) link links fit in
    let below : IsBelow chip.nets (on_link (n, link)) = record { src_in = one.src_in; dst_in = one.dst_in } in
    elim (cases_Bool (is_link_on image link)) [
      | inl passes ↦ rw passes (All-cons (IsBelow chip.nets) (on_link (n, link)) (on_from image (suc n) links) below rest)
      | inr fails ↦ rw fails rest
    ]

pub below-is : (chip : Chip) (image : Configuration) (links : List Link) → All (IsLink chip) links → All (IsBelow chip.nets) (links_on image links)
unfolding links_on
below-is chip image links fit = below-from chip image 0 links fit

-- the same of a list that is kept of them
pub below-at : (nets : ℕ) (chip : Chip) (image : Configuration) (links : List Link) (kept : List OnLink) → chip.nets ≤ nets → kept ≡ links_on image links → All (IsLink chip) links
    → All (IsBelow nets) kept
below-at nets chip image links kept few kept_are fit =
    All-weaker (IsBelow chip.nets) (IsBelow nets) (λ link is. record { src_in = omega (arith, is.src_in, few); dst_in = omega (arith, is.dst_in, few) }) kept
    (subst (All (IsBelow chip.nets)) (sym kept_are) (below-is chip image links fit))

ends-below : (nets : ℕ) (links : List OnLink) → All (IsBelow nets) links → AreBelow nets (ends_of links)
unfolding AreBelow
ends-below nets [] below = tt
ends-below nets (link ∷ links) below =
    let one = All-head (IsBelow nets) link links below in
    (one.src_in, one.dst_in, ends-below nets links (All-tail (IsBelow nets) link links below))

-- ---- joins

ends-from : (image : Configuration) (n : ℕ) (links : List Link) → ends_of (on_from image n links) ≡ map (λ link. (link.src, link.dst)) (filter (is_link_on image) links)
unfolding numbered_from
ends-from image n [] = refl
ends-from image n (link ∷ links) =
    let rest = ends-from image (suc n) links in
    elim (cases_Bool (is_link_on image link)) [
      | inl passes ↦ rw passes (ap (λ ends. (link.src, link.dst) ∷ ends) rest)
      | inr fails ↦ rw fails rest
    ]

ends-is : (db : Database) (image : Configuration) → ends_of (links_on image db.routings) ≡ joins_of db image
unfolding links_on joins_of
ends-is db image = ends-from image 0 db.routings

-- ---- nets that are read

sources-from : (image : Configuration) (net n : ℕ) (links : List Link) → list_any (comes_from net) (on_from image n links) ≡ list_any (is_source image net) links
unfolding numbered_from
sources-from image net n [] = refl
sources-from image net n (link ∷ links) =
    let rest = sources-from image net (suc n) links in
    elim (cases_Bool (is_link_on image link)) [
      | inl passes ↦ rw passes (ap (λ more. eqb link.src net || more) rest)
      | inr fails ↦ rw fails rest
    ]

touches-from : (image : Configuration) (net n : ℕ) (links : List Link) → list_any (touches net) (on_from image n links) ≡ list_any (is_end image net) links
unfolding numbered_from
touches-from image net n [] = refl
touches-from image net n (link ∷ links) =
    let rest = touches-from image net (suc n) links in
    elim (cases_Bool (is_link_on image link)) [
      | inl passes ↦ rw passes (ap (λ more. (eqb link.src net || eqb link.dst net) || more) rest)
      | inr fails ↦ rw fails rest
    ]

reads-is : (db : Database) (image : Configuration) (net : ℕ) → (list_any (comes_from net) (links_on image db.buffers) || list_any (touches net) (links_on image db.routings)) ≡ is_read db image net
unfolding links_on is_read
reads-is db image net = ap₂ (λ a b. a || b) (sources-from image net 0 db.buffers) (touches-from image net 0 db.routings)

-- ---- the whole

classes-is : (nets : ℕ) (joins : List (ℕ × ℕ)) (classes : List ℕ) → length classes ≡ nets → AreBelow nets joins
    → ((net : ℕ) → net < nets → get_or classes net 0 ≡ class_of joins net) → (net : ℕ) → get_or classes net net ≡ class_of joins net
classes-is nets joins classes size below inside net =
    elim (cases_lt net nets) [
      | inl within ↦ get_or_default classes net net 0 (omega (arith, within, size)) ∙ inside net within
      | inr out ↦ get_or_past classes net net (omega (arith, out, size)) ∙ sym (class_of-outside nets joins net below out)
    ]

-- what is made of the links that are on is of the database and the image
pub are-links : (nets : ℕ) (db : Database) (image : Configuration) (buffers routings : List OnLink) (links : LinkSet) → db.chip.nets ≤ nets → IsFit db
    → buffers ≡ links_on image db.buffers → routings ≡ links_on image db.routings
    → links.buffers ≡ map (λ link. link.place) buffers → links.routings ≡ map (λ link. link.place) routings
    → length links.classes ≡ nets
    → ((net : ℕ) → net < nets → get_or links.classes net 0 ≡ class_of (ends_of routings) net)
    → ((net : ℕ) → get_or links.reads net false ≡ (list_any (comes_from net) buffers || list_any (touches net) routings))
    → AreLinks db image links
are-links nets db image buffers routings links few fit buffers_are routings_are kept_buffers kept_routings size classes reads =
    let joins : ends_of routings ≡ joins_of db image = ap ends_of routings_are ∙ ends-is db image in
    record {
      nets = omega (arith, few, size);
      buffers = kept_buffers ∙ ap (map (λ link. link.place)) buffers_are ∙ places-is image db.buffers;
      routings = kept_routings ∙ ap (map (λ link. link.place)) routings_are ∙ places-is image db.routings;
      classes = classes-is nets (joins_of db image) links.classes size
          (subst (AreBelow nets) (ends-is db image) (ends-below nets (links_on image db.routings) (below-at nets db.chip image db.routings (links_on image db.routings) few refl fit.routings)))
          (λ net within. classes net within ∙ ap (λ joins. class_of joins net) joins);
      reads = λ net. reads net ∙ ap₂ (λ a b. list_any (comes_from net) a || list_any (touches net) b) buffers_are routings_are ∙ reads-is db image net;
    }
