use Rattle.std.proofs.Common.{◌≡◌, ◌==◌, List, ℕ, [], ◌∷◌, ap₂, ◌∙◌}
use Rattle.std.specs.Prelude.{position, unwrap_or}
use Rattle.boot_file.specs.Parts.{image_addresses}
use Rattle.boot_file.specs.Headers.{entry_address}
use Rattle.boot_file.specs.Reading.{index_at}
use Rattle.boot_file.proofs.splitting.entries.Goals as goal

-- the index that was found of an address
found : (bytes addresses : List ℕ) (entry address index : ℕ) → index ≡ unwrap_or (position (λ named. named == address) addresses) 0
    → addresses ≡ image_addresses bytes → address ≡ entry_address bytes entry → index ≡ index_at bytes (entry_address bytes entry)
found bytes addresses entry address index is are named =
    is ∙ ap₂ (λ (list : List ℕ) (one : ℕ). unwrap_or (position (λ named. named == one) list) 0) are named

pub returns : goal.returns
returns c =
    let bytes = c.args.bytes.now in
    let named = c.args.addresses.now in
    λ at. found bytes named 0 _ _ c.index_of.ensures c.requires.addresses c.entry_address.ensures at
    ∷ found bytes named 1 _ _ c.index_of-2.ensures c.requires.addresses c.entry_address-2.ensures at
    ∷ found bytes named 2 _ _ c.index_of-3.ensures c.requires.addresses c.entry_address-3.ensures at
    ∷ found bytes named 3 _ _ c.index_of-4.ensures c.requires.addresses c.entry_address-4.ensures at ∷ []
