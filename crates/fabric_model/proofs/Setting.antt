-- Links that are on: by their bits, and one after the other.
use Rattle.std.proofs.Common.{◌≡◌, ℕ, ◌+◌, ◌<◌, Bool, true, false, cond, List, [], ◌∷◌, ◌++◌, length, get_or, take, map, refl, sym, ap, ap₂, ◌∙◌, subst, arith, inl, inr, append-nil, zero-add}
use Rattle.std.specs.Prelude.{◌↔◌, IsTrue, filter, All}
use Rattle.std.specs.Bool.{beq}
use Rattle.std.specs.Cmp.Lexicographic.{pointwise}
use Rattle.std.proofs.lemmas.Bool.{cases_Bool}
use Rattle.std.proofs.lemmas.List.{map-append, take_more, length-take-le, length-map, get_or-map}
use Rattle.std.proofs.lemmas.List.Elements.{filter-append}
use Rattle.shared_lemmas.proofs.Bits.{pointwise-told}
use Rattle.bit_plane.specs.BitList.{word_bits}
use Rattle.plane_map.specs.declared.tile.RowCol.{RowCol}
use Rattle.ice_image.specs.Configuration.{Configuration}
use Rattle.ice_image.specs.Bits.{listed_bits}
use Rattle.chipdb_lines.specs.declared.chip.Chip.{Chip}
use Rattle.chipdb_reader.specs.declared.items.LinkLine.{LinkLine}
use Rattle.chipdb_reader.specs.Database.{Link}
use Rattle.chipdb_reader.specs.Fit.{IsLink}
use Rattle.chipdb_reader.specs.Kept.{link_line, link_lines}
use Rattle.fabric_model.specs.On.{bits_at, is_link_on}
use Rattle.fabric_model.specs.Fabric.{numbered, numbered_from}
use Rattle.fabric_model.proofs.Numbered.{numbered_from-push}
use Rattle.fabric_model.specs.declared.on.OnLink.{OnLink}
use Rattle.fabric_model.specs.Found.{on_link, links_on}

-- ---- one link by its bits

-- bits have the values of a number if they are its lowest bits
pub values-tell : (image : Configuration) (x y : ℕ) (bits : List RowCol) (values : ℕ) (result : Bool) → IsTrue result ↔ (listed_bits image x y bits ≡ word_bits (length bits) values)
    → result ≡ pointwise beq (bits_at image x y bits) (word_bits (length bits) values)
values-tell image x y bits values result tells =
    pointwise-told result (listed_bits image x y bits) (word_bits (length bits) values) tells

-- ---- one link after the other

pub links_on-none : (image : Configuration) → links_on image [] ≡ []
unfolding links_on numbered_from
links_on-none image = refl

-- one more link
abbrev last_on : Configuration → ℕ → Link → List OnLink
last_on image n link = cond (is_link_on image link) (on_link (n, link) ∷ []) []

last_on-is : (image : Configuration) (n : ℕ) (link : Link) → map on_link (filter (λ place. is_link_on image place.1) ((n, link) ∷ [])) ≡ last_on image n link
last_on-is image n link =
    elim (cases_Bool (is_link_on image link)) [
      | inl passes ↦ rw passes refl
      | inr fails ↦ rw fails refl
    ]

links_on-push : (image : Configuration) (links : List Link) (link : Link) → links_on image (links ++ link ∷ []) ≡ links_on image links ++ last_on image (length links) link
unfolding links_on
links_on-push image links link =
    let test = λ (place : ℕ × Link). is_link_on image place.1 in
    ap (λ places. map on_link (filter test places)) (numbered_from-push 0 links link ∙ rw zero-add refl)
    ∙ ap (map on_link) (filter-append test (numbered links) ((length links, link) ∷ []))
    ∙ map-append on_link (filter test (numbered links)) (filter test ((length links, link) ∷ []))
    ∙ ap (λ last. map on_link (filter test (numbered links)) ++ last) (last_on-is image (length links) link)

-- the same over the lines that are kept
lines-push : (image : Configuration) (table : List (List RowCol)) (lines : List LinkLine) (i : ℕ) (d : LinkLine) → i < length lines
    → links_on image (link_lines table (take (i + 1) lines)) ≡ links_on image (link_lines table (take i lines)) ++ last_on image i (link_line table (get_or lines i d))
lines-push image table lines i d inside =
    let line = get_or lines i d in
    let count : length (link_lines table (take i lines)) ≡ i = length-map (take i lines) (link_line table) ∙ length-take-le i lines (omega arith) in
    ap (λ taken. links_on image (link_lines table taken)) (take_more lines i d inside)
    ∙ ap (links_on image) (map-append (link_line table) (take i lines) (line ∷ []))
    ∙ links_on-push image (link_lines table (take i lines)) (link_line table line)
    ∙ ap (λ n. links_on image (link_lines table (take i lines)) ++ last_on image n (link_line table line)) count

pub lines-more_on : (image : Configuration) (table : List (List RowCol)) (lines : List LinkLine) (i place : ℕ) (d : LinkLine) (before after : List OnLink) → i < length lines
    → is_link_on image (link_line table (get_or lines i d)) ≡ true → place ≡ i
    → before ≡ links_on image (link_lines table (take i lines))
    → after ≡ before ++ record { place = place; src = (get_or lines i d).src; dst = (get_or lines i d).dst } ∷ []
    → after ≡ links_on image (link_lines table (take (i + 1) lines))
lines-more_on image table lines i place d before after inside passes place_is before_is after_is =
    after_is ∙ ap₂ (λ front n. front ++ record { place = n; src = (get_or lines i d).src; dst = (get_or lines i d).dst } ∷ []) before_is place_is
    ∙ sym (lines-push image table lines i d inside ∙ rw passes refl)

pub lines-more_off : (image : Configuration) (table : List (List RowCol)) (lines : List LinkLine) (i : ℕ) (d : LinkLine) (before : List OnLink) → i < length lines
    → is_link_on image (link_line table (get_or lines i d)) ≡ false
    → before ≡ links_on image (link_lines table (take i lines))
    → before ≡ links_on image (link_lines table (take (i + 1) lines))
lines-more_off image table lines i d before inside off before_is =
    before_is ∙ sym (lines-push image table lines i d inside ∙ rw (off, append-nil) refl)

pub line-fits : (chip : Chip) (table : List (List RowCol)) (lines : List LinkLine) (i : ℕ) (d : LinkLine) → i < length lines → All (IsLink chip) (link_lines table lines) → IsLink chip (link_line table (get_or lines i d))
line-fits chip table lines i d inside fit =
    subst (IsLink chip) (get_or-map (link_line table) lines i d (link_line table d) inside) (fit i (link_line table d) (omega (arith, length-map lines (link_line table))))
