-- Links that are on, as the code keeps them.
use Rattle.std.specs.Prelude.{ℕ, ◌<◌, Bool, ◌||◌, List, map, filter, ◌==◌}
use Rattle.ice_image.specs.Configuration.{Configuration}
use Rattle.chipdb_reader.specs.Database.{Link}
use Rattle.fabric_model.specs.On.{is_link_on}
use Rattle.fabric_model.specs.Fabric.{numbered}
use Rattle.fabric_model.specs.declared.on.OnLink.{OnLink}

-- a link with its index
abbrev pub on_link : ℕ × Link → OnLink
on_link place = record { place = place.0; src = place.1.src; dst = place.1.dst }

-- the links that are on, with their indexes
unfoldable pub links_on : Configuration → List Link → List OnLink
links_on image links = map on_link (filter (λ place. is_link_on image place.1) (numbered links))

-- the two nets of each link
abbrev pub ends_of : List OnLink → List (ℕ × ℕ)
ends_of links = map (λ link. (link.src, link.dst)) links

-- both nets are below a bound
pub record IsBelow (nets : ℕ) (link : OnLink) : Type 0 where
  pub src_in : link.src < nets
  pub dst_in : link.dst < nets

-- whether a link comes from the net
abbrev pub comes_from : ℕ → OnLink → Bool
comes_from net link = link.src == net

-- whether a link has the net at one of its ends
abbrev pub touches : ℕ → OnLink → Bool
touches net link = (link.src == net) || (link.dst == net)
