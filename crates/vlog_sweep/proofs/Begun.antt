-- The lists in their lanes before the first event.
use Rattle.std.proofs.Common.{◌≡◌, ℕ, ◌+◌, ◌<◌, List, [], ◌∷◌, ◌++◌, ap, ap₂, get_or, length, map, sym, take, ◌∙◌}
use Rattle.std.proofs.lemmas.List.{map-append, take_more}
use Rattle.vlog_sweep.specs.declared.list.EventList.{EventList}
use Rattle.vlog_sweep.specs.declared.strand.Strand.{Strand}

-- one list more is in its lane
pub lists-more : (lists : List EventList) (strands new : List Strand) (strand : Strand) (i : ℕ) (item : EventList) → new ≡ strands ++ strand ∷ []
    → map (λ strand. strand.list.now) strands ≡ take i lists → strand.list.now ≡ item → item ≡ get_or lists i item → i < length lists
    → map (λ strand. strand.list.now) new ≡ take (i + 1) lists
lists-more lists strands new strand i item new_is lists_are list_is item_is within =
    ap (map (λ (strand : Strand). strand.list.now)) new_is
    ∙ map-append (λ (strand : Strand). strand.list.now) strands (strand ∷ [])
    ∙ ap₂ (λ xs x. xs ++ x ∷ []) lists_are (list_is ∙ item_is)
    ∙ sym (take_more lists i item within)
