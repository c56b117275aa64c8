-- Lanes that take their turns, one after the other.
use Rattle.std.proofs.Common.{◌≡◌, ℕ, ◌+◌, ◌<◌, ◌≤◌, Bool, true, false, cond, List, [], ◌∷◌, inl, inr, ap, ap₂, arith, get_or, length, length-append, refl, set, subst, sym, ◌∙◌}
use Rattle.std.specs.Prelude.{map}
use Rattle.std.proofs.lemmas.Bool.{cases_eq}
use Rattle.std.proofs.lemmas.List.{get_or-set_other, get_or-set_same, get_or_default, length-map, set-get_or}
use Rattle.vlog_module.specs.Parts.{Parts}
use Rattle.vlog_semantics.specs.Values.{bit_of}
use Rattle.vlog_run.specs.Text.{bit_digit, entry_line}
use Rattle.vlog_lanes.specs.Lanes.{lane_of}
use Rattle.vlog_sweep.specs.Strands.{Stands, line_of, line_put, next_entry, stepped, turned}
use Rattle.vlog_sweep.specs.declared.strand.Strand.{Strand}
use Rattle.vlog_sweep.proofs.Texts.{turned-stands}

-- a line has a byte for each output, and one more
pub line-size : (outputs : List ℕ) (lane : ℕ) → length (line_of outputs lane) ≡ length outputs + 1
line-size outputs lane =
    length-append (map bit_digit (lane_of lane outputs)) (10 ∷ [])
    ∙ ap (λ n. n + 1) (length-map (lane_of lane outputs) bit_digit ∙ length-map outputs (λ word. bit_of word lane))

-- one lane more has taken its turn
pub done-more : (width active lane : ℕ) (old now : List Strand) (strand next : Strand) → lane < length now
    → strand ≡ get_or now lane strand → next ≡ turned width active lane strand
    → ((k : ℕ) (d : Strand) → k < lane → k < length old → get_or now k d ≡ turned width active k (get_or old k d))
    → ((k : ℕ) (d : Strand) → lane ≤ k → get_or now k d ≡ get_or old k d)
    → (k : ℕ) (d : Strand) → k < lane + 1 → k < length old → get_or (set now lane next) k d ≡ turned width active k (get_or old k d)
done-more width active lane old now strand next within is next_is done ahead k d below inside =
    elim (cases_eq k lane) [
      | inl same ↦
          let strand_is : strand ≡ get_or old k d = is ∙ get_or_default now lane strand d within ∙ ahead lane d (omega arith) ∙ ap (λ i. get_or old i d) (sym same) in
          ap (λ i. get_or (set now lane next) i d) same ∙ get_or-set_same now lane next d within ∙ next_is ∙ ap₂ (turned width active) (sym same) strand_is
      | inr apart ↦ get_or-set_other now lane k next d apart ∙ done k d (omega (arith, apart, below)) inside
    ]

pub ahead-more : (lane : ℕ) (old now : List Strand) (next : Strand) → ((k : ℕ) (d : Strand) → lane ≤ k → get_or now k d ≡ get_or old k d)
    → (k : ℕ) (d : Strand) → lane + 1 ≤ k → get_or (set now lane next) k d ≡ get_or old k d
ahead-more lane old now next ahead k d above = get_or-set_other now lane k next d (λ same. omega (arith, same, above)) ∙ ahead k d (omega (arith, above))

-- the text with the turn of a lane
pub text-more : (b : Bool) (m : Parts) (line new : List ℕ) (strands : List Strand) (text : List ℕ) (k width : ℕ) (strand : Strand) → Stands m line strands text
    → k < length strands → strand ≡ get_or strands k strand → (b ≡ true → strand.taken < length strand.list.now.events.items)
    → length line ≡ width → length new ≡ width → (b ≡ true → new ≡ entry_line false (next_entry m strand))
    → Stands m line (set strands k (cond b (stepped width strand) strand)) (cond b (line_put text strand.at new) text)
text-more true m line new strands text k width strand stands within is some line_size new_size new_is =
    turned-stands m line new strands text k width strand stands within is (some refl) line_size new_size (new_is refl)
text-more false m line new strands text k width strand stands within is some line_size new_size new_is =
    subst (λ xs. Stands m line xs text) (sym (ap (set strands k) is ∙ set-get_or strands k strand)) stands
