-- Items one after another: what a step makes of them.
use Rattle.std.proofs.Common.{◌≡◌, ℕ, zero, suc, ◌<◌, ◌≤◌, Bool, true, false, List, [], length, refl, ap, sym, ◌∙◌, subst, arith}
use Rattle.std.specs.Prelude.{Result, Ok, Err, if◌then◌else◌}
use Rattle.vlog_tokens.specs.Tokens.{Spot, spots_at}
use Rattle.vlog_module.specs.Parts.{Parts}
use Rattle.vlog_module.specs.WellFormed.{scope_of}
use Rattle.vlog_forms.specs.declared.form.Form.{Form}
use Rattle.vlog_forms.specs.Items.{item_of, tokens_in}
use Rattle.vlog_forms.specs.Reading.{values_of, offset_of, Whole, read_forms, all_forms}
use Rattle.vlog_forms.specs.Outcome.{Fault, after, unless_fault, item_fault, ending, is_end, with_item, item_outcome, items_outcome}
use Rattle.vlog_forms.proofs.Sound.{AreSoundTokens, spots_at-sound}
use Rattle.vlog_forms.proofs.Whole.{WholeStands, whole-stands}
use Rattle.vlog_parser.specs.declared.fault.ParseRefusal.{ParseRefusal}
use Rattle.vlog_parser.specs.Answers.{RefusesAt}
use Rattle.vlog_parser.specs.declared.items.Step.{Step}
use Rattle.vlog_parser.specs.declared.items.Step.TheVariants as step
use Rattle.vlog_parser.specs.Steps.{IsAt, IsAfter, items_from}

-- ---- what follows doesn't depend on how many items there may be at most

item_case : (b : Bool) (most other end : ℕ) (m : Parts) (offset : ℕ) (whole : Whole) → is_end whole.form ≡ b
    → (b ≡ false → (next : Parts) → items_outcome most end next whole.spots ≡ items_outcome other end next whole.spots)
    → item_outcome (items_outcome most end) m offset whole ≡ item_outcome (items_outcome other end) m offset whole
item_case true most other end m offset whole ends more =
    ap (λ b. if b then ending m offset whole.spots
    else unless_fault (item_fault (scope_of m.ports m.items) offset (item_of whole.form (values_of whole.found)) whole.found) (items_outcome most end (with_item m (item_of whole.form (values_of whole.found))) whole.spots)) ends
    ∙ sym (ap (λ b. if b then ending m offset whole.spots
    else unless_fault (item_fault (scope_of m.ports m.items) offset (item_of whole.form (values_of whole.found)) whole.found) (items_outcome other end (with_item m (item_of whole.form (values_of whole.found))) whole.spots)) ends)
item_case false most other end m offset whole ends more =
    ap (λ rest. if is_end whole.form then ending m offset whole.spots
    else unless_fault (item_fault (scope_of m.ports m.items) offset (item_of whole.form (values_of whole.found)) whole.found) rest)
    (more refl (with_item m (item_of whole.form (values_of whole.found))))

forms_case : (reading : Result Whole ℕ) (most other end : ℕ) (m : Parts) (spots : List Spot) → AreSoundTokens (tokens_in spots) → read_forms end [] all_forms spots ≡ reading
    → ((next : Parts) (left : List Spot) → AreSoundTokens (tokens_in left) → length left < length spots → items_outcome most end next left ≡ items_outcome other end next left)
    → after reading (item_outcome (items_outcome most end) m (offset_of end spots)) ≡ after reading (item_outcome (items_outcome other end) m (offset_of end spots))
forms_case (Err stuck) most other end m spots sound is more = refl
forms_case (Ok whole) most other end m spots sound is more =
    let stands = whole-stands end spots whole sound is in
    item_case (is_end whole.form) most other end m (offset_of end spots) whole refl (λ ends next. more next whole.spots stands.left stands.shorter)

enough : (most other end : ℕ) (m : Parts) (spots : List Spot) → AreSoundTokens (tokens_in spots) → length spots < most → length spots < other → items_outcome most end m spots ≡ items_outcome other end m spots
unfolding items_outcome
enough zero other end m spots sound a b = absurd (omega arith)
enough (suc most) zero end m spots sound a b = absurd (omega arith)
enough (suc most) (suc other) end m spots sound a b =
    forms_case (read_forms end [] all_forms spots) most other end m spots sound refl
    (λ next left good shorter. enough most other end next left good (omega (arith, a, shorter)) (omega (arith, b, shorter)))

-- the items from an offset, by their first one
pub items-first : (bytes : List ℕ) (m : Parts) (from : ℕ)
    → items_from bytes m from ≡ after (read_forms (length bytes) [] all_forms (spots_at bytes from)) (item_outcome (items_outcome (length (spots_at bytes from)) (length bytes)) m (offset_of (length bytes) (spots_at bytes from)))
unfolding items_outcome
items-first bytes m from = refl

-- and those after it
pub items-after : (bytes : List ℕ) (m : Parts) (from end : ℕ) → length (spots_at bytes end) < length (spots_at bytes from)
    → items_outcome (length (spots_at bytes from)) (length bytes) m (spots_at bytes end) ≡ items_from bytes m end
items-after bytes m from end shorter =
    let long : length (spots_at bytes end) < suc (length (spots_at bytes end)) = omega arith in
    enough (length (spots_at bytes from)) (suc (length (spots_at bytes end))) (length bytes) m (spots_at bytes end) (spots_at-sound bytes end) shorter long

-- a refusal of an outcome that another one is
pub refuses-same : {A : Type 0} (one other : Result A Fault) (refusal : ParseRefusal) → one ≡ other → RefusesAt other refusal → RefusesAt one refusal
refuses-same one other refusal is refuses = subst (λ (outcome : Result _ Fault). RefusesAt outcome refusal) (sym is) refuses

-- ---- a form that fits

pub form-stands : (bytes : List ℕ) (from : ℕ) (forms : List Form) (one : Whole) → forms ≡ all_forms → read_forms (length bytes) [] forms (spots_at bytes from) ≡ Ok one → WholeStands (spots_at bytes from) one
form-stands bytes from forms one all is =
    whole-stands (length bytes) (spots_at bytes from) one (spots_at-sound bytes from) (ap (λ list. read_forms (length bytes) [] list (spots_at bytes from)) (sym all) ∙ is)

pub step-after : (bytes : List ℕ) (from end : ℕ) (step : Step) → IsAt end step → end ≤ length bytes → length (spots_at bytes end) < length (spots_at bytes from) → IsAfter bytes from step
step-after bytes from end (step.Next following) at within shorter = let same : following ≡ end = at in rw same (within, shorter)
step-after bytes from end step.Done at within shorter = tt
