-- Lists of a table after bits were added.
use Rattle.std.proofs.Common.{◌≡◌, ℕ, ◌+◌, ◌≤◌, List, [], ◌∷◌, ◌++◌, length, length-drop, take, drop, map, refl, sym, ap, ◌∙◌, arith}
use Rattle.std.proofs.lemmas.List.{map-append, length-map, take-append-le, drop-append-le, length-take-le}
use Rattle.std.proofs.lemmas.List.Elements.{All-head, All-tail}
use Rattle.std.specs.Prelude.{All}
use Rattle.plane_map.specs.declared.tile.RowCol.{RowCol}
use Rattle.chipdb_lines.specs.declared.bits.Span.{Span}
use Rattle.chipdb_lines.specs.Kept.{AddsList}
use Rattle.chipdb_lines.specs.Spans.{bits_in, AddsSpan, IsSpanOf}

-- a list stays when more bits follow
bits_in-append : (bits more : List RowCol) (span : Span) → IsSpanOf (length bits) span → bits_in (bits ++ more) span ≡ bits_in bits span
bits_in-append bits more span is =
    let inside : span.start + span.count ≤ length bits = is.inside in
    let from : drop span.start (bits ++ more) ≡ drop span.start bits ++ more = drop-append-le span.start bits more (omega arith) in
    let fits : span.count ≤ length (drop span.start bits) = omega (arith, length-drop span.start bits) in
    ap (take span.count) from ∙ take-append-le span.count (drop span.start bits) more fits

-- a list has as many bits as its span says
pub length-bits_in : (bits : List RowCol) (span : Span) → IsSpanOf (length bits) span → length (bits_in bits span) ≡ span.count
length-bits_in bits span is =
    let inside : span.start + span.count ≤ length bits = is.inside in
    length-take-le span.count (drop span.start bits) (omega (arith, length-drop span.start bits))

lists-append : (bits more : List RowCol) (spans : List Span) → All (IsSpanOf (length bits)) spans → map (bits_in (bits ++ more)) spans ≡ map (bits_in bits) spans
lists-append bits more [] all = refl
lists-append bits more (span ∷ spans) all =
    let P : Span → Type 0 = IsSpanOf (length bits) in
    ap (λ list. list ∷ map (bits_in (bits ++ more)) spans) (bits_in-append bits more span (All-head P span spans all))
    ∙ ap (λ lists. bits_in bits span ∷ lists) (lists-append bits more spans (All-tail P span spans all))

-- all lists stay when the bits of a span are added
pub lists-kept : (old new : List RowCol) (spans : List Span) (span : Span) → AddsSpan old new span → All (IsSpanOf (length old)) spans → map (bits_in new) spans ≡ map (bits_in old) spans
lists-kept old new spans span added all = ap (λ bits. map (bits_in bits) spans) added.grown.1 ∙ lists-append old added.grown.0 spans all

-- and the list of that span is the last
pub lists-push : (old new : List RowCol) (spans : List Span) (span : Span) (place : ℕ) → AddsSpan old new span → All (IsSpanOf (length old)) spans → place ≡ length spans
    → AddsList (map (bits_in old) spans) (map (bits_in new) (spans ++ span ∷ [])) (record { place = place })
lists-push old new spans span place added all last =
    let ends : length new ≡ span.start + span.count = added.ends in
    let small : span.count ≤ 64 = added.few in
    let is : IsSpanOf (length new) span = record { inside = omega arith; few = added.few } in
    let count : length (bits_in new span) ≡ span.count = length-bits_in new span is in
    record {
      bits = bits_in new span;
      grown = map-append (bits_in new) spans (span ∷ []) ∙ ap (λ lists. lists ++ bits_in new span ∷ []) (lists-kept old new spans span added all);
      last = last ∙ sym (length-map spans (bits_in old));
      few = omega arith;
    }
