-- The names of pins as they stand in a pin file, one line more at a time.
use Rattle.std.proofs.Common.{◌≡◌, ℕ, ◌+◌, Bool, true, false, cond, List, length, Vec, refl, sym, ap, ◌∙◌}
use Rattle.std.specs.Prelude.{Option, Some, None, is_some, option_map}
use Rattle.std.specs.Map.{lookup}
use Rattle.text_lines.specs.Lines.{lines_of, line_at}
use Rattle.index_search.specs.Places.{first_below, or_else}
use Rattle.index_search.proofs.Places.{first_below-more}
use Rattle.pin_file.specs.declared.given.GivenNames.{GivenNames}
use Rattle.pin_file.specs.declared.place.PinPlace.{PinPlace}
use Rattle.pin_file.specs.GivenNames.{name_given, name_in, name_in_line, name_kept}
use Rattle.pin_file.specs.Lines.{line_of}
use Rattle.pin_file.specs.Packages.{Package}
use Rattle.pin_file.specs.PortNames.{is_place}

-- ---- what is kept

pub is_some-map : {A B : Type 0} (change : A → B) (value : Option A) → is_some (option_map change value) ≡ is_some value
is_some-map change (Some value) = refl
is_some-map change None = refl

none-map : {A B : Type 0} (change : A → B) (value : Option A) → option_map change value ≡ None → value ≡ None
none-map change (Some value) is = absurd cc
none-map change None is = refl

-- a place without a name has no entry
pub none-kept : (names : GivenNames) (place : PinPlace) → name_kept names place ≡ None → lookup (is_place place) names.names.entries ≡ None
unfolding name_kept
none-kept names place none = none-map (λ name. name.items) (lookup (is_place place) names.names.entries) none

-- one name more
pub name_more : {Z : Type 0} (found : Option (Vec ℕ Z)) (here : Bool) (name : Vec ℕ Z)
    → option_map (λ (name : Vec ℕ Z). name.items) (or_else found (cond here (Some name) None)) ≡ or_else (option_map (λ (name : Vec ℕ Z). name.items) found) (cond here (Some name.items) None)
name_more (Some first) here name = refl
name_more None true name = refl
name_more None false name = refl

-- ---- line by line

pub given-nothing : (chosen : Package) (lines : List (List ℕ)) (place : PinPlace) → first_below 0 (name_in chosen lines place) ≡ None
unfolding first_below
given-nothing chosen lines place = refl

pub given-more : (chosen : Package) (lines : List (List ℕ)) (k : ℕ) (line : List ℕ) (place : PinPlace) (now next : Option (List ℕ)) → line_at lines k ≡ line
    → now ≡ first_below k (name_in chosen lines place) → next ≡ or_else now (name_in_line chosen place (line_of line)) → next ≡ first_below (k + 1) (name_in chosen lines place)
given-more chosen lines k line place now next at so_far more =
    more ∙ ap (λ found. or_else found (name_in_line chosen place (line_of line))) so_far
    ∙ ap (λ l. or_else (first_below k (name_in chosen lines place)) (name_in_line chosen place (line_of l))) (sym at)
    ∙ sym (first_below-more k (name_in chosen lines place))

pub given-all : (chosen : Package) (text : List ℕ) (k : ℕ) (place : PinPlace) → k ≡ length (lines_of text)
    → first_below k (name_in chosen (lines_of text) place) ≡ name_given chosen text place
unfolding name_given
given-all chosen text k place all = ap (λ n. first_below n (name_in chosen (lines_of text) place)) all
