-- What stands before the preamble, the preamble, and what stands after it.
use Rattle.std.proofs.Common.{◌≡◌, ℕ, ◌+◌, ◌<◌, List, ◌++◌, length, take, drop, Some, append_assoc, take-append-drop, drop-drop, sym, ap, ap₂, ◌∙◌}
use Rattle.std.proofs.lemmas.Slice.Eq.{bytes_eq-Decides}
use Rattle.index_search.proofs.Found.{least_below-place}
use Rattle.bin_stream.specs.Front.{preamble, preamble_offset, is_preamble_at}

-- if the preamble is at an offset, the bytes are those before it, the preamble and those after it
pub preamble_offset-splits : (bytes : List ℕ) (place : ℕ) → preamble_offset bytes ≡ Some place → (place < length bytes) × (bytes ≡ take place bytes ++ preamble ++ drop (place + 4) bytes)
unfolding preamble_offset
preamble_offset-splits bytes place is =
    let facts = least_below-place (length bytes) (is_preamble_at bytes) place is in
    let following = drop place bytes in
    let first : take 4 following ≡ preamble = (bytes_eq-Decides (take 4 following) preamble).0 facts.passes in (
      facts.within,
      sym (take-append-drop place bytes)
          ∙ ap (λ b. take place bytes ++ b) (sym (take-append-drop 4 following) ∙ ap₂ (λ a b. a ++ b) first (drop-drop 4 place bytes))
          ∙ sym (append_assoc (take place bytes) preamble (drop (place + 4) bytes)),
    )
