use Rattle.std.proofs.Common.{◌≡◌, ◌==◌, ℕ, List, sym, ap₂, ◌∙◌}
use Rattle.std.specs.Prelude.{position, unwrap_or}
use Rattle.boot_file.specs.Parts.{image_addresses}
use Rattle.boot_file.proofs.Decided.{decided, read-is}
use Rattle.boot_file.proofs.splitting.split.Goals as goal

pub returns-clause-read : goal.returns-clause-read
returns-clause-read c =
    let named : c.as_slice-addresses.result.now ≡ image_addresses c.args.bytes.now = c.as_slice-addresses.ensures.value ∙ c.in_ok-addresses.ensures.are in
    read-is c.args.bytes.now _ (sym c.in_ok-check_headers.ensures.checked) c.in_ok-images.ensures.accepted c.is_cold.ensures
    (c.index_of.ensures ∙ ap₂ (λ (list : List ℕ) (one : ℕ). unwrap_or (position (λ named. named == one) list) 0) named c.power_address.ensures)
    c.entries.ensures c.in_ok-images.ensures.images

pub returns-clause-means : goal.returns-clause-means
returns-clause-means c = ((decided c.args.bytes.now).means _).1 (returns-clause-read c)
