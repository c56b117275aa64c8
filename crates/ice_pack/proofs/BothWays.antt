-- Packing and unpacking undo each other.
use Rattle.std.proofs.Common.{◌≡◌, ℕ, Bool, List, [], sym, ap, subst, ◌∙◌}
use Rattle.std.specs.Prelude.{Some, Ok}
use Rattle.layout_file.specs.declared.layouts.Layouts.{Layouts}
use Rattle.ice_image.specs.Configuration.{Configuration}
use Rattle.asc_text.specs.declared.file.Symbol.{Symbol}
use Rattle.asc_text.specs.Meaning.{AscMeans}
use Rattle.bin_stream.specs.CanonicalBytes.{canonical_bytes}
use Rattle.bin_stream.specs.Spelling.{bin_read_of, IsDecided}
use Rattle.ice_pack.specs.Packed.{awake_where, IsPacked, IsUnpacked, PacksAlike, UnpacksBack, PacksBack}

-- a text means one image
image-meant : (layouts : Layouts) (text : List ℕ) (one other : Configuration) (symbols others : List Symbol) → AscMeans layouts text one symbols → AscMeans layouts text other others → one ≡ other
image-meant layouts text one other symbols others means again =
    let same : Some one ≡ Some other = sym means.configures ∙ again.configures in
    cc

-- bytes are read as one image
image-read : (layouts : Layouts) (bytes : List ℕ) (one other : Configuration) → bin_read_of layouts bytes ≡ Ok one → bin_read_of layouts bytes ≡ Ok other → one ≡ other
image-read layouts bytes one other read again =
    let same = sym read ∙ again in
    cc

pub packs_alike : (layouts : Layouts) (text : List ℕ) (no_sleep : Bool) (bytes : List ℕ) → IsPacked layouts text no_sleep bytes → PacksAlike layouts text no_sleep bytes
packs_alike layouts text no_sleep bytes is image symbols others other packed means also again =
    let same : again.image ≡ is.image =
    image-meant layouts other again.image image again.symbols others again.means also
    ∙ image-meant layouts text image is.image symbols is.symbols means is.means in
    again.canonical ∙ ap (λ image. canonical_bytes (awake_where no_sleep image)) same ∙ sym is.canonical

pub unpacks_back : (layouts : Layouts) (text : List ℕ) (no_sleep : Bool) (bytes : List ℕ) → IsPacked layouts text no_sleep bytes → UnpacksBack layouts text no_sleep bytes
unpacks_back layouts text no_sleep bytes is image symbols unpacked means back =
    let same : back.image ≡ awake_where no_sleep image =
    image-read layouts bytes back.image (awake_where no_sleep is.image) back.read is.read
    ∙ ap (awake_where no_sleep) (image-meant layouts text is.image image is.symbols symbols is.means means) in
    subst (λ (image : Configuration). AscMeans layouts unpacked image []) same back.means

pub packs_back : (layouts : Layouts) (bytes text : List ℕ) → IsDecided layouts bytes → IsUnpacked layouts bytes text → PacksBack layouts bytes text
packs_back layouts bytes text decided is image packed spells again =
    let same : again.image ≡ image =
    image-meant layouts text again.image is.image again.symbols [] again.means is.means
    ∙ image-read layouts bytes is.image image is.read ((decided.spelled image).0 spells) in
    again.canonical ∙ ap canonical_bytes same
