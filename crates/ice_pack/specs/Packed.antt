-- Texts as bitstreams, and back.
use Rattle.std.specs.Prelude.{◌≡◌, ℕ, Bool, true, false, List, [], Ok}
use Rattle.ice_image.specs.Configuration.{Configuration}
use Rattle.layout_file.specs.declared.layouts.Layouts.{Layouts}
use Rattle.asc_text.specs.declared.file.Symbol.{Symbol}
use Rattle.asc_text.specs.Canonical.{asc_text_of}
use Rattle.asc_text.specs.Meaning.{AscMeans}
use Rattle.bin_stream.specs.CanonicalBytes.{canonical_bytes}
use Rattle.bin_stream.specs.Spelling.{Spells, bin_read_of}

-- the image, with the flash staying awake after the configuration if that is asked
abbrev pub awake_where : Bool → Configuration → Configuration
awake_where true image = record image { settings = record image.settings { no_sleep = true } }
awake_where false image = image

-- The bytes are the canonical bytes of what the text configures under the layouts, and spell that.
pub record IsPacked (layouts : Layouts) (text : List ℕ) (no_sleep : Bool) (bytes : List ℕ) : Type 0 where
  pub image : Configuration
  pub symbols : List Symbol
  pub means : AscMeans layouts text image symbols
  pub canonical : bytes ≡ canonical_bytes (awake_where no_sleep image)
  pub spells : Spells layouts bytes (awake_where no_sleep image)
  pub read : bin_read_of layouts bytes ≡ Ok (awake_where no_sleep image)

-- The text is the canonical text of what the bytes spell under the layouts, and means that.
pub record IsUnpacked (layouts : Layouts) (bytes text : List ℕ) : Type 0 where
  pub image : Configuration
  pub read : bin_read_of layouts bytes ≡ Ok image
  pub spells : Spells layouts bytes image
  pub canonical : text ≡ asc_text_of image
  pub means : AscMeans layouts text image []

-- ---- both ways

-- Every text of the same image is packed to the same bytes.
abbrev pub PacksAlike : Layouts → List ℕ → Bool → List ℕ → Type 0
PacksAlike layouts text no_sleep bytes =
    (image : Configuration) (symbols others : List Symbol) (other packed : List ℕ) →
    AscMeans layouts text image symbols → AscMeans layouts other image others → IsPacked layouts other no_sleep packed → packed ≡ bytes

-- What is packed is unpacked to a text that means the same image.
abbrev pub UnpacksBack : Layouts → List ℕ → Bool → List ℕ → Type 0
UnpacksBack layouts text no_sleep bytes =
    (image : Configuration) (symbols : List Symbol) (unpacked : List ℕ) →
    AscMeans layouts text image symbols → IsUnpacked layouts bytes unpacked → AscMeans layouts unpacked (awake_where no_sleep image) []

-- What is unpacked is packed to the canonical bytes of the image that was spelled.
abbrev pub PacksBack : Layouts → List ℕ → List ℕ → Type 0
PacksBack layouts bytes text =
    (image : Configuration) (packed : List ℕ) → Spells layouts bytes image → IsPacked layouts text false packed → packed ≡ canonical_bytes image

-- So what was canonical is packed to itself.
abbrev pub PacksToItself : Layouts → List ℕ → List ℕ → Type 0
PacksToItself layouts bytes text =
    (image : Configuration) (packed : List ℕ) →
    Spells layouts bytes image → bytes ≡ canonical_bytes image → IsPacked layouts text false packed → packed ≡ bytes
