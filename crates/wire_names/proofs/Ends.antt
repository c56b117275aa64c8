-- The lines of a list of names, taken one after the other, and the first that is faulty.
use Rattle.std.proofs.Common.{◌≡◌, ◌∙◌, ℕ, ◌+◌, ◌<◌, List, [], ◌++◌, arith, length, take, refl, sym, ap, subst}
use Rattle.std.proofs.lemmas.List.{take_all}
use Rattle.std.specs.Prelude.{None}
use Rattle.shared_lemmas.proofs.Lists.{flat_map-more}
use Rattle.text_lines.specs.Lines.{lines_of, line_at}
use Rattle.index_search.specs.Places.{first_below, or_else}
use Rattle.index_search.proofs.Places.{first_below-first, first_below-more}
use Rattle.index_search.proofs.Found.{first_below-clear}
use Rattle.vlog_module.specs.Parts.{Parts}
use Rattle.wire_names.specs.declared.fault.WireNamesFault.{WireNamesFault}
use Rattle.wire_names.specs.declared.fault.WireNamesFault.TheVariants.{At, Memory}
use Rattle.wire_names.specs.declared.naming.Naming.{Naming}
use Rattle.wire_names.specs.Faults.{Tells, cause_of, fault_at, fault_with, named_by, named_in, names_fault_of, wires_named}
use Rattle.wire_names.specs.Lines.{line_of}
use Rattle.wire_names.specs.Naming.{Names}

-- ---- a line more

pub named_in-more : (lines : List (List ℕ)) (k : ℕ) → k < length lines → named_in (take (k + 1) lines) ≡ named_in (take k lines) ++ named_by (line_of (line_at lines k))
unfolding named_in
named_in-more lines k within = flat_map-more (λ line. named_by (line_of line)) lines k [] within

pub names-next : (m : Parts) (lines : List (List ℕ)) (k : ℕ) (line : List ℕ) (naming : Naming) → k < length lines → line_at lines k ≡ line
    → Names m (named_in (take k lines) ++ named_by (line_of line)) naming → Names m (named_in (take (k + 1) lines)) naming
names-next m lines k line naming within at names =
    subst (λ list. Names m list naming) (ap (λ one. named_in (take k lines) ++ named_by (line_of one)) (sym at) ∙ sym (named_in-more lines k within)) names

-- the fault of a line
fault-is : (m : Parts) (lines : List (List ℕ)) (k : ℕ) (line : List ℕ) → line_at lines k ≡ line → fault_at m lines k ≡ fault_with (k + 1) (cause_of m (named_in (take k lines)) (line_of line))
fault-is m lines k line at = ap (λ one. fault_with (k + 1) (cause_of m (named_in (take k lines)) (line_of one))) at

-- there is no fault yet
pub fit-nothing : (m : Parts) (lines : List (List ℕ)) → first_below 0 (fault_at m lines) ≡ None
unfolding first_below
fit-nothing m lines = refl

pub fit-more : (m : Parts) (lines : List (List ℕ)) (k : ℕ) (line : List ℕ) → line_at lines k ≡ line
    → cause_of m (named_in (take k lines)) (line_of line) ≡ None → first_below k (fault_at m lines) ≡ None → first_below (k + 1) (fault_at m lines) ≡ None
fit-more m lines k line at fine fit =
    first_below-more k (fault_at m lines) ∙ ap (λ found. or_else found (fault_at m lines k)) fit ∙ fault-is m lines k line at ∙ ap (fault_with (k + 1)) fine

-- ---- the end

-- a line that is refused is the first faulty one
pub refused : (m : Parts) (text : List ℕ) (k : ℕ) (line : List ℕ) (fault : WireNamesFault) → k < length (lines_of text)
    → line_at (lines_of text) k ≡ line → first_below k (fault_at m (lines_of text)) ≡ None
    → Tells (fault_with (k + 1) (cause_of m (named_in (take k (lines_of text))) (line_of line))) fault → Tells (names_fault_of m text) fault
unfolding names_fault_of
refused m text k line (Memory e) within at fit told = tt
refused m text k line (At number cause) within at fit told =
    let lines = lines_of text in
    first_below-first (length lines) k (fault_at m lines) (At number cause) within
    (λ j before. first_below-clear k j (fault_at m lines) fit before)
    (fault-is m lines k line at ∙ told)

-- if all lines were taken there is none
pub accepted : (m : Parts) (text : List ℕ) (k : ℕ) → k ≡ length (lines_of text) → first_below k (fault_at m (lines_of text)) ≡ None → names_fault_of m text ≡ None
unfolding names_fault_of
accepted m text k all fit = subst (λ n. first_below n (fault_at m (lines_of text)) ≡ None) all fit

-- and the names are those of the text
pub answered : (text : List ℕ) (k : ℕ) → k ≡ length (lines_of text) → named_in (take k (lines_of text)) ≡ wires_named text
unfolding wires_named
answered text k all = ap named_in (take_all k (lines_of text) (omega (arith, all)))
