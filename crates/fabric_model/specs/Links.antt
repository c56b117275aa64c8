-- What is kept of links and nets, and when it is what a database and an image configure.
use Rattle.std.specs.Prelude.{◌≡◌, ℕ, ◌≤◌, Bool, false, List, length, map, filter, slice_index_or}
use Rattle.ice_image.specs.Configuration.{Configuration}
use Rattle.chipdb_reader.specs.Database.{Database, Link}
use Rattle.fabric_model.specs.On.{is_link_on}
use Rattle.fabric_model.specs.Nets.{is_read}
use Rattle.fabric_model.specs.Joins.{class_of}
use Rattle.fabric_model.specs.Fabric.{numbered, joins_of}

-- the indexes of the buffers and of the routings that are on, and for each net its class of joined nets and whether it is read
pub record LinkSet : Type 0 where
  pub buffers : List ℕ
  pub routings : List ℕ
  pub classes : List ℕ
  pub reads : List Bool

-- the indexes of the links that are on, in ascending order
unfoldable pub places_on : Configuration → List Link → List ℕ
places_on image links = map (λ place. place.0) (filter (λ place. is_link_on image place.1) (numbered links))

-- the class of joined nets that a net belongs to; the number itself if there is no such net
abbrev pub class_in : LinkSet → ℕ → ℕ
class_in links net = slice_index_or links.classes net net

-- whether a net is read; false if there is no such net
abbrev pub is_read_in : LinkSet → ℕ → Bool
is_read_in links net = slice_index_or links.reads net false

-- What is kept agrees with the rules of a fabric for this database and this image. The nets of the database are among those that classes are
-- kept of; there may be more.
pub record AreLinks (db : Database) (image : Configuration) (links : LinkSet) : Type 0 where
  pub nets : db.chip.nets ≤ length links.classes
  pub buffers : links.buffers ≡ places_on image db.buffers
  pub routings : links.routings ≡ places_on image db.routings
  pub classes : (net : ℕ) → class_in links net ≡ class_of (joins_of db image) net
  pub reads : (net : ℕ) → is_read_in links net ≡ is_read db image net
