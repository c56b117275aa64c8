-- What the places of links that are on say.
use Rattle.std.proofs.Common.{◌≡◌, ℕ, suc, ◌+◌, ◌<◌, Bool, List, [], ◌∷◌, length, get_or, map, refl, sym, ap, ap₂, ◌∙◌, arith, inl, inr, add-zero, zero-add}
use Rattle.std.specs.Prelude.{filter, All}
use Rattle.std.proofs.lemmas.Bool.{cases_Bool}
use Rattle.std.proofs.lemmas.List.Elements.{All-nil, All-cons, All-weaker}
use Rattle.ice_image.specs.Configuration.{Configuration}
use Rattle.chipdb_reader.specs.Database.{Database, Link}
use Rattle.fabric_model.specs.On.{is_link_on}
use Rattle.fabric_model.specs.Fabric.{buffer_of, buffers_of, numbered, numbered_from}
use Rattle.fabric_model.specs.Links.{places_on}

-- ---- places are those of links

below-from : (test : ℕ × Link → Bool) (links : List Link) (n : ℕ) → All (λ place. place < n + length links) (map (λ place. place.0) (filter test (numbered_from n links)))
unfolding numbered_from
below-from test [] n = All-nil (λ place. place < n + 0)
below-from test (link ∷ links) n =
    let after = below-from test links (suc n) in
    let rest : All (λ place. place < n + suc (length links)) (map (λ place. place.0) (filter test (numbered_from (suc n) links))) =
    All-weaker (λ place. place < suc n + length links) (λ place. place < n + suc (length links)) (λ place less. omega arith) _ after in
    elim (cases_Bool (test (n, link))) [
      | inl passes ↦ rw passes (All-cons (λ place. place < n + suc (length links)) n (map (λ place. place.0) (filter test (numbered_from (suc n) links))) (omega arith) rest)
      | inr fails ↦ rw fails rest
    ]

-- each is the place of a link
pub places-below : (image : Configuration) (links : List Link) → All (λ place. place < length links) (places_on image links)
unfolding places_on
places-below image links =
    All-weaker (λ place. place < 0 + length links) (λ place. place < length links) (λ place less. omega arith) _ (below-from (λ place. is_link_on image place.1) links 0)

-- ---- links by their places

-- a place with the link there
abbrev at_place : List Link → Link → ℕ → ℕ × Link
at_place all d place = (place, get_or all place d)

at-from : (test : ℕ × Link → Bool) (all links : List Link) (n : ℕ) (d : Link) → ((k : ℕ) → get_or links k d ≡ get_or all (n + k) d)
    → map (at_place all d) (map (λ place. place.0) (filter test (numbered_from n links))) ≡ filter test (numbered_from n links)
unfolding numbered_from
at-from test all [] n d same = refl
at-from test all (link ∷ links) n d same =
    let here : get_or all n d ≡ link = sym (same 0 ∙ ap (λ k. get_or all k d) (add-zero n)) in
    let after = λ (k : ℕ). same (suc k) ∙ ap (λ k. get_or all k d) (let e : n + suc k ≡ suc n + k = omega arith in e) in
    let rest = at-from test all links (suc n) d after in
    elim (cases_Bool (test (n, link))) [
      | inl passes ↦ rw passes (ap₂ (λ first more. (n, first) ∷ more) here rest)
      | inr fails ↦ rw fails rest
    ]

places-at : (image : Configuration) (links : List Link) (d : Link) → map (at_place links d) (places_on image links) ≡ filter (λ place. is_link_on image place.1) (numbered links)
unfolding places_on
places-at image links d = at-from (λ place. is_link_on image place.1) links links 0 d (λ k. ap (λ k. get_or links k d) (sym (zero-add k)))

lines-places : (places : List (ℕ × Link)) → map (λ buffer. buffer.line) (map buffer_of places) ≡ map (λ place. place.0) places
lines-places [] = refl
lines-places (place ∷ places) = ap (λ lines. place.0 ∷ lines) (lines-places places)

buffers-at : (all : List Link) (d : Link) (places : List ℕ) → map (λ place. buffer_of (at_place all d place)) places ≡ map buffer_of (map (at_place all d) places)
buffers-at all d [] = refl
buffers-at all d (place ∷ places) = ap (λ buffers. buffer_of (at_place all d place) ∷ buffers) (buffers-at all d places)

-- the places of the buffers that are on are the lines of a fabric's buffers
pub buffers-lines : (db : Database) (image : Configuration) → map (λ buffer. buffer.line) (buffers_of db image) ≡ places_on image db.buffers
unfolding buffers_of places_on
buffers-lines db image = lines-places (filter (λ place. is_link_on image place.1) (numbered db.buffers))

-- a fabric's buffers are the buffers of the database at these places
pub buffers-places : (db : Database) (image : Configuration) (d : Link) → map (λ place. buffer_of (place, get_or db.buffers place d)) (places_on image db.buffers) ≡ buffers_of db image
unfolding buffers_of
buffers-places db image d = buffers-at db.buffers d (places_on image db.buffers) ∙ ap (map buffer_of) (places-at image db.buffers d)
