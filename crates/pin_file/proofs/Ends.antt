-- The lines of a pin file, taken one after the other, and the first that is faulty.
use Rattle.std.proofs.Common.{◌≡◌, ℕ, suc, ◌+◌, ◌<◌, ◌≤◌, List, [], ◌++◌, length, take, drop, refl, sym, ap, ◌∙◌, arith, subst}
use Rattle.std.specs.Prelude.{None}
use Rattle.shared_lemmas.proofs.Cuts.{drop_end}
use Rattle.shared_lemmas.proofs.Lists.{flat_map-more}
use Rattle.text_lines.specs.Lines.{lines_of, line_at}
use Rattle.index_search.specs.Places.{first_below, or_else}
use Rattle.index_search.proofs.Places.{first_below-first, first_below-more}
use Rattle.index_search.proofs.Found.{first_below-clear}
use Rattle.pin_file.specs.declared.fault.PinFileFault.{PinFileFault}
use Rattle.pin_file.specs.declared.fault.PinFileFault.TheVariants.{At, Memory}
use Rattle.pin_file.specs.declared.pin_name.PinName.{PinName}
use Rattle.pin_file.specs.declared.place.PortPin.{PortPin}
use Rattle.pin_file.specs.declared.ports.Ports.{Ports}
use Rattle.pin_file.specs.Lines.{line_of}
use Rattle.pin_file.specs.Packages.{Package}
use Rattle.pin_file.specs.Faults.{Tells, cause_of, fault_at, fault_with, name_by, names_before, pin_fault_of, place_by, places_in, ports_of}
use Rattle.pin_file.specs.inside.Reading.{Grows, Holds}

none-left : (left : List ℕ) (lines : List (List ℕ)) → left ≡ [] → lines_of left ≡ lines → lines ≡ []
unfolding lines_of
none-left left lines none is = sym is ∙ ap lines_of none

-- no line is left
pub cut-end : (lines : List (List ℕ)) (k : ℕ) (left : List ℕ) → left ≡ [] → lines_of left ≡ drop k lines → k ≤ length lines → k ≡ length lines
cut-end lines k left none is within = drop_end lines k (none-left left (drop k lines) none is) within

-- ---- a line more

-- what is kept after the first lines of a file, so many of them
abbrev pub HoldsBefore : Package → List PortPin → List (List ℕ) → ℕ → Ports → Type 0
HoldsBefore chosen pins lines n ports = Holds pins (places_in chosen (take n lines)) (names_before chosen pins lines n) ports

pub holds-nothing : (chosen : Package) (pins : List PortPin) (lines : List (List ℕ)) (ports : Ports) → Holds pins [] [] ports → HoldsBefore chosen pins lines 0 ports
unfolding places_in names_before
holds-nothing chosen pins lines ports holds = holds

pub places-more : (chosen : Package) (lines : List (List ℕ)) (k : ℕ) → k < length lines
    → places_in chosen (take (k + 1) lines) ≡ places_in chosen (take k lines) ++ place_by chosen (line_of (line_at lines k))
unfolding places_in
places-more chosen lines k within = flat_map-more (λ line. place_by chosen (line_of line)) lines k [] within

names-next : (chosen : Package) (pins : List PortPin) (lines : List (List ℕ)) (k : ℕ)
    → names_before chosen pins lines (suc k)
    ≡ names_before chosen pins lines k ++ name_by chosen pins (places_in chosen (take k lines)) (names_before chosen pins lines k) (line_of (line_at lines k))
unfolding names_before
names-next chosen pins lines k = refl

pub names-more : (chosen : Package) (pins : List PortPin) (lines : List (List ℕ)) (k : ℕ)
    → names_before chosen pins lines (k + 1)
    ≡ names_before chosen pins lines k ++ name_by chosen pins (places_in chosen (take k lines)) (names_before chosen pins lines k) (line_of (line_at lines k))
names-more chosen pins lines k = let next : k + 1 ≡ suc k = omega arith in ap (names_before chosen pins lines) next ∙ names-next chosen pins lines k

pub holds-more : (chosen : Package) (pins : List PortPin) (lines : List (List ℕ)) (k : ℕ) (line : List ℕ) (old new : Ports) → k < length lines → line_at lines k ≡ line
    → HoldsBefore chosen pins lines k old
    → Grows old new (place_by chosen (line_of line)) (λ pins earlier named. name_by chosen pins earlier named (line_of line))
    → HoldsBefore chosen pins lines (k + 1) new
holds-more chosen pins lines k line old new within at holds grows =
    let earlier = places_in chosen (take k lines) in
    let named = names_before chosen pins lines k in
    let places : earlier ++ place_by chosen (line_of line) ≡ places_in chosen (take (k + 1) lines)
    = ap (λ l. earlier ++ place_by chosen (line_of l)) (sym at) ∙ sym (places-more chosen lines k within) in
    let names : named ++ name_by chosen pins earlier named (line_of line) ≡ names_before chosen pins lines (k + 1)
    = ap (λ l. named ++ name_by chosen pins earlier named (line_of l)) (sym at) ∙ sym (names-more chosen pins lines k) in
    subst (λ list. Holds pins list (names_before chosen pins lines (k + 1)) new) places
    (subst (λ list. Holds pins (earlier ++ place_by chosen (line_of line)) list new) names (grows pins earlier named holds))

-- the fault of a line
fault-is : (chosen : Package) (lines : List (List ℕ)) (k : ℕ) (line : List ℕ) → line_at lines k ≡ line → fault_at chosen lines k ≡ fault_with (k + 1) (cause_of chosen (line_of line))
fault-is chosen lines k line at = ap (λ l. fault_with (k + 1) (cause_of chosen (line_of l))) at

-- there is no fault yet
pub fit-nothing : (chosen : Package) (lines : List (List ℕ)) → first_below 0 (fault_at chosen lines) ≡ None
unfolding first_below
fit-nothing chosen lines = refl

pub fit-more : (chosen : Package) (lines : List (List ℕ)) (k : ℕ) (line : List ℕ) → line_at lines k ≡ line
    → cause_of chosen (line_of line) ≡ None → first_below k (fault_at chosen lines) ≡ None → first_below (k + 1) (fault_at chosen lines) ≡ None
fit-more chosen lines k line at fine fit =
    first_below-more k (fault_at chosen lines)
    ∙ ap (λ found. or_else found (fault_at chosen lines k)) fit
    ∙ fault-is chosen lines k line at
    ∙ ap (fault_with (k + 1)) fine

-- ---- the end

-- a line that is refused is the first faulty one
pub refused : (chosen : Package) (text : List ℕ) (k : ℕ) (line : List ℕ) (fault : PinFileFault) → k < length (lines_of text)
    → line_at (lines_of text) k ≡ line → first_below k (fault_at chosen (lines_of text)) ≡ None
    → Tells (fault_with (k + 1) (cause_of chosen (line_of line))) fault → Tells (pin_fault_of chosen text) fault
unfolding pin_fault_of
refused chosen text k line (Memory e) within at fit told = tt
refused chosen text k line (At number cause) within at fit told =
    let lines = lines_of text in
    first_below-first (length lines) k (fault_at chosen lines) (At number cause) within
    (λ j before. first_below-clear k j (fault_at chosen lines) fit before)
    (fault-is chosen lines k line at ∙ told)

-- if all lines were taken there is none
pub accepted : (chosen : Package) (text : List ℕ) (k : ℕ) → k ≡ length (lines_of text) → first_below k (fault_at chosen (lines_of text)) ≡ None
    → pin_fault_of chosen text ≡ None
unfolding pin_fault_of
accepted chosen text k all fit = subst (λ n. first_below n (fault_at chosen (lines_of text)) ≡ None) all fit

-- and the names are the names of the text
pub answered : (chosen : Package) (pins : List PortPin) (text : List ℕ) (k : ℕ) (named : List PinName) → k ≡ length (lines_of text)
    → named ≡ names_before chosen pins (lines_of text) k → named ≡ ports_of chosen pins text
unfolding ports_of
answered chosen pins text k named all read = read ∙ ap (names_before chosen pins (lines_of text)) all
