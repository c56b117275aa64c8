-- The buffers at the places of those that are on are the buffers that are on.
use Rattle.std.proofs.Common.{◌≡◌, ℕ, List, [], ◌∷◌, ◌++◌, map, refl, sym, ap, ◌∙◌}
use Rattle.std.specs.Prelude.{All, Option, Some, None, filter, option_map, slice_get}
use Rattle.std.proofs.lemmas.Option.{slice_get-map}
use Rattle.std.proofs.lemmas.List.Elements.{All-head, All-tail, All-filter}
use Rattle.plane_map.specs.declared.tile.RowCol.{RowCol}
use Rattle.ice_image.specs.Configuration.{Configuration}
use Rattle.chipdb_reader.specs.declared.items.LinkLine.{LinkLine}
use Rattle.chipdb_reader.specs.Database.{Link}
use Rattle.chipdb_reader.specs.Kept.{Kept, link_line, link_lines, database_in}
use Rattle.fabric_model.specs.On.{is_link_on}
use Rattle.fabric_model.specs.Fabric.{buffer_of, buffers_of, numbered}
use Rattle.fabric_model.specs.Links.{places_on}
use Rattle.fabric.specs.Buffers.{buffer_if, buffers_at}
use Rattle.fabric.proofs.Lists.{StandsIn, numbered-stand}

module _ (bits : List (List RowCol)) where
  line-there : (place : ℕ) (found : Option LinkLine) (link : Link) → option_map (link_line bits) found ≡ Some link → buffer_if place found ≡ buffer_of (place, link) ∷ []
  line-there place None link is = absurd cc
  line-there place (Some line) link is = let same : link_line bits line ≡ link = cc in ap (λ l. buffer_of (place, l) ∷ []) same

  lines-there : (lines : List LinkLine) (pairs : List (ℕ × Link)) → All (StandsIn (link_lines bits lines)) pairs
      → buffers_at lines (map (λ pair. pair.0) pairs) ≡ map buffer_of pairs
  lines-there lines [] all = refl
  lines-there lines (pair ∷ pairs) all =
      let here = sym (slice_get-map (link_line bits) lines pair.0) ∙ All-head (StandsIn (link_lines bits lines)) pair pairs all in
      ap (λ first. first ++ buffers_at lines (map (λ p. p.0) pairs)) (line-there pair.0 (slice_get lines pair.0) pair.1 here)
      ∙ ap (λ rest. buffer_of pair ∷ rest) (lines-there lines pairs (All-tail (StandsIn (link_lines bits lines)) pair pairs all))

pub buffers-on : (db : Kept) (image : Configuration) → buffers_at db.buffers (places_on image (database_in db).buffers) ≡ buffers_of (database_in db) image
unfolding places_on buffers_of
buffers-on db image =
    lines-there db.bits db.buffers (filter (λ place. is_link_on image place.1) (numbered (database_in db).buffers))
    (All-filter (λ place. is_link_on image place.1) (StandsIn (database_in db).buffers) (numbered (database_in db).buffers) (numbered-stand (database_in db).buffers))
