-- Nets and places that a database names are its device's.
use Rattle.std.proofs.Common.{◌≡◌, ℕ, suc, ◌<◌, Bool, true, false, cond, List, [], ◌∷◌, refl, subst, arith}
use Rattle.std.specs.Prelude.{Option, Some, None, find, All, IfSome, bytes_eq}
use Rattle.std.specs.Option.{option_map}
use Rattle.plane_map.specs.Layout.{IsInCram}
use Rattle.plane_map.specs.declared.tile.Place.{Place}
use Rattle.ice_image.specs.declared.any.AnyImage.{AnyImage}
use Rattle.ice_image.specs.Either.{configuration_of}
use Rattle.chipdb_lines.specs.Items.{NameLine, ExtraLine}
use Rattle.chipdb_reader.specs.Database.{Database}
use Rattle.chipdb_reader.specs.Fit.{IsFit, IsNameLine, IsExtraLine}
use Rattle.chipdb_reader.specs.Kept.{Kept, database_in}
use Rattle.chipdb_reader.specs.Lookups.{net_at, is_name_at, extra_place}
use Rattle.fabric_model.specs.Nets.{is_some_read, net_named}
use Rattle.fabric_model.specs.Links.{LinkSet}
use Rattle.fabric_model.specs.BelongTogether.{BelongTogether, is_some_read_in}

-- its first item passes or not
find-head : {X : Type 0} (P : X → Type 0) (p : X → Bool) (x : X) (xs : List X) (found : X) → All P (x ∷ xs) → (passes : Bool)
    → cond passes (Some x) (find p xs) ≡ Some found → (find p xs ≡ Some found → P found) → P found
find-head P p x xs found all true is later = let same : x ≡ found = cc in subst P same (all 0 x (omega arith))
find-head P p x xs found all false is later = later is

-- what is found is one of the list
find-all : {X : Type 0} (P : X → Type 0) (p : X → Bool) (xs : List X) (found : X) → All P xs → find p xs ≡ Some found → P found
find-all P p [] found all is = absurd cc
find-all P p (x ∷ xs) found all is = find-head P p x xs found all (p x) is (λ later. find-all P p xs found (λ k d inside. all (suc k) d (omega arith)) later)

-- the net of a name is one of the device's
net_line : (db : Database) (line : Option NameLine) → ((found : NameLine) → line ≡ Some found → found.net < db.chip.nets)
    → IfSome (option_map (λ (l : NameLine). l.net) line) (λ net. net < db.chip.nets)
net_line db None inside = tt
net_line db (Some line) inside = inside line refl

pub net_named-inside : (db : Database) (x y : ℕ) (name : List ℕ) → IsFit db → IfSome (net_named db x y name) (λ net. net < db.chip.nets)
unfolding net_at
net_named-inside db x y name fit =
    net_line db (find (is_name_at x y name) db.names)
    (λ found is. (find-all (IsNameLine db.chip) (is_name_at x y name) db.names found fit.names is).net_in)

-- the place of an extra bit is one of the planes
extra_line : (db : Database) (line : Option ExtraLine) → ((found : ExtraLine) → line ≡ Some found → IsInCram db.chip.device found.at)
    → (at : Place) → option_map (λ (l : ExtraLine). l.at) line ≡ Some at → IsInCram db.chip.device at
extra_line db None inside at is = absurd cc
extra_line db (Some line) inside at is = let same : line.at ≡ at = cc in subst (IsInCram db.chip.device) same (inside line refl)

pub extra_place-inside : (db : Database) (name : List ℕ) (at : Place) → IsFit db → extra_place name db.extras ≡ Some at → IsInCram db.chip.device at
unfolding extra_place
extra_place-inside db name at fit is =
    extra_line db (find (λ line. bytes_eq name line.name) db.extras)
    (λ found found_is. find-all (IsExtraLine db.chip) (λ line. bytes_eq name line.name) db.extras found fit.extras found_is) at is

-- what the links say of a net is what the image says
pub is_some_read-same : (db : Kept) (image : AnyImage) (links : LinkSet) (net : Option ℕ) → BelongTogether db image links
    → is_some_read_in links net ≡ is_some_read (database_in db) (configuration_of image) net
is_some_read-same db image links None together = refl
is_some_read-same db image links (Some net) together = together.linked.reads net
