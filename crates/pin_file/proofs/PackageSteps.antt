-- The pins of a package, line by line.
use Rattle.std.proofs.Common.{◌≡◌, ℕ, ◌+◌, ◌<◌, ◌≤◌, Bool, true, false, ◌||◌, cond, List, [], ◌∷◌, ◌++◌, length, length-append, append_assoc, append-nil, refl, sym, ap, ◌∙◌, arith, subst}
use Rattle.std.specs.Prelude.{Option, Some, None, Result, Ok, Err, IfErr, bytes_eq, if◌then◌else◌}
use Rattle.std.specs.declared.alloc.AllocError.{AllocError}
use Rattle.std.proofs.Math.Bool.{or-false}
use Rattle.std.proofs.lemmas.Bool.{cond-true, cond-false}
use Rattle.std.proofs.lemmas.List.{get_or_append_left, get_or_at}
use Rattle.text_lines.specs.Lines.{lines_of, line_at}
use Rattle.text_lines.specs.Feeding.{RefusesLines, TakesLines}
use Rattle.index_search.specs.Places.{any_below, first_below, last_below, or_else}
use Rattle.index_search.proofs.Places.{any_below-more, any_below-same, first_below-more, first_below-same, or_else-none, last_below-more, last_below-same, last_below-place}
use Rattle.pin_file.specs.declared.pin_lines.PinLines.{PinLines}
use Rattle.pin_file.specs.declared.place.PinPlace.{PinPlace}
use Rattle.pin_file.specs.Feeding.{HasTaken, TakesLine, kept_in, place_kept, refused_with, taken_by}
use Rattle.pin_file.specs.Packages.{Package, begins_package, is_of_package, is_statement, package_in, package_of, place_given, place_in_line, stands_below}

-- the lines with one more
abbrev grown : List (List ℕ) → List ℕ → List (List ℕ)
grown lines line = lines ++ line ∷ []

line-before : (lines : List (List ℕ)) (line : List ℕ) (k : ℕ) → k < length lines → line_at (grown lines line) k ≡ line_at lines k
line-before lines line k before = get_or_append_left lines (line ∷ []) [] k before

line-last : (lines : List (List ℕ)) (line : List ℕ) → line_at (grown lines line) (length lines) ≡ line
line-last lines line = get_or_at lines line [] [] (length lines) refl

length-grown : (lines : List (List ℕ)) (line : List ℕ) → length (grown lines line) ≡ length lines + 1
length-grown lines line = length-append lines (line ∷ [])

-- the last statement before a line
abbrev statement_before : List (List ℕ) → ℕ → Option ℕ
statement_before lines n = last_below n (λ k. is_statement (line_at lines k))

statement_before-grown : (lines : List (List ℕ)) (line : List ℕ) (n : ℕ) → n ≤ length lines → statement_before (grown lines line) n ≡ statement_before lines n
statement_before-grown lines line n within =
    last_below-same n (λ k. is_statement (line_at (grown lines line) k)) (λ k. is_statement (line_at lines k))
    (λ k below. ap is_statement (line-before lines line k (omega arith)))

-- the statement that a line belongs to is the last one among the lines before it
of_package-grown : (name : List ℕ) (lines : List (List ℕ)) (line : List ℕ) (n : ℕ) (found : Option ℕ) → n ≤ length lines → statement_before lines n ≡ found
    → is_of_package name (grown lines line) found ≡ is_of_package name lines found
of_package-grown name lines line n None within is = refl
of_package-grown name lines line n (Some k) within is =
    let place = last_below-place n k (λ j. is_statement (line_at lines j)) is in
    let below : k < n = place.0 in
    ap (begins_package name) (line-before lines line k (omega arith))

stands_below-grown : (name : List ℕ) (lines : List (List ℕ)) (line : List ℕ) (n : ℕ) → n ≤ length lines → stands_below name (grown lines line) n ≡ stands_below name lines n
unfolding stands_below
stands_below-grown name lines line n within =
    ap (is_of_package name (grown lines line)) (statement_before-grown lines line n within)
    ∙ of_package-grown name lines line n (statement_before lines n) within refl

-- after a line
below-last : (name : List ℕ) (lines : List (List ℕ)) (line : List ℕ) (test : Bool) → is_statement line ≡ test
    → stands_below name (grown lines line) (length lines + 1) ≡ cond test (begins_package name line) (stands_below name lines (length lines))
unfolding stands_below
below-last name lines line true is =
    let n = length lines in
    let here : is_statement (line_at (grown lines line) n) ≡ true = ap is_statement (line-last lines line) ∙ is in
    ap (is_of_package name (grown lines line)) (last_below-more n (λ k. is_statement (line_at (grown lines line) k)) ∙ cond-true _ (Some n) (statement_before (grown lines line) n) here)
    ∙ ap (begins_package name) (line-last lines line)
below-last name lines line false is =
    let n = length lines in
    let here : is_statement (line_at (grown lines line) n) ≡ false = ap is_statement (line-last lines line) ∙ is in
    ap (is_of_package name (grown lines line)) (last_below-more n (λ k. is_statement (line_at (grown lines line) k)) ∙ cond-false _ (Some n) (statement_before (grown lines line) n) here)
    ∙ stands_below-grown name lines line n (omega arith)

known-last : (name : List ℕ) (lines : List (List ℕ)) (line : List ℕ) → (package_in name (grown lines line)).known ≡ ((package_in name lines).known || begins_package name line)
known-last name lines line =
    let n = length lines in
    let test : ℕ → Bool = λ k. begins_package name (line_at (grown lines line) k) in
    ap (λ m. any_below m test) (length-grown lines line)
    ∙ any_below-more n test
    ∙ ap (λ b. b || test n) (any_below-same n test (λ k. begins_package name (line_at lines k)) (λ k below. ap (begins_package name) (line-before lines line k below)))
    ∙ ap (λ b. any_below n (λ k. begins_package name (line_at lines k)) || begins_package name b) (line-last lines line)

-- what a line gives that isn't the last one
given-before : (name : List ℕ) (lines : List (List ℕ)) (line pin : List ℕ) (k : ℕ) → k < length lines → place_given name (grown lines line) pin k ≡ place_given name lines pin k
given-before name lines line pin k before =
    ap (λ b. if b then place_in_line pin (line_at (grown lines line) k) else None) (stands_below-grown name lines line k (omega arith))
    ∙ ap (λ l. if stands_below name lines k then place_in_line pin l else None) (line-before lines line k before)

given-last : (name : List ℕ) (lines : List (List ℕ)) (line pin : List ℕ)
    → place_given name (grown lines line) pin (length lines) ≡ (if stands_below name lines (length lines) then place_in_line pin line else None)
given-last name lines line pin =
    ap (λ b. if b then place_in_line pin (line_at (grown lines line) (length lines)) else None) (stands_below-grown name lines line (length lines) (omega arith))
    ∙ ap (λ l. if stands_below name lines (length lines) then place_in_line pin l else None) (line-last lines line)

place-last : (name : List ℕ) (lines : List (List ℕ)) (line pin : List ℕ)
    → (package_in name (grown lines line)).place_of pin
    ≡ or_else ((package_in name lines).place_of pin) (if stands_below name lines (length lines) then place_in_line pin line else None)
place-last name lines line pin =
    let n = length lines in
    ap (λ m. first_below m (place_given name (grown lines line) pin)) (length-grown lines line)
    ∙ first_below-more n (place_given name (grown lines line) pin)
    ∙ ap (λ found. or_else found (place_given name (grown lines line) pin n))
    (first_below-same n (place_given name (grown lines line) pin) (place_given name lines pin) (λ k below. given-before name lines line pin k below))
    ∙ ap (or_else ((package_in name lines).place_of pin)) (given-last name lines line pin)

-- ---- what was taken

-- no line was taken yet
pub HasTaken-nothing : (name : List ℕ) (taker : PinLines) → taker.name.items ≡ name → taker.below ≡ false → taker.pins.known ≡ false
    → ((pin : List ℕ) → place_kept taker.pins pin ≡ None) → HasTaken name [] taker
unfolding stands_below any_below first_below last_below
HasTaken-nothing name taker named above unknown none = record { name_is = named; below_is = above; known_is = unknown; places_are = none }

-- one line more was taken
HasTaken-more : (name : List ℕ) (lines : List (List ℕ)) (line : List ℕ) (old new : PinLines) → HasTaken name lines old → TakesLine old line new → HasTaken name (lines ++ line ∷ []) new
HasTaken-more name lines line old new has takes = record {
  name_is = takes.name_is ∙ has.name_is;
  below_is =
      takes.below_is
      ∙ ap (λ bytes. if is_statement line then begins_package bytes line else old.below) has.name_is
      ∙ ap (λ b. if is_statement line then begins_package name line else b) has.below_is
      ∙ sym (below-last name lines line (is_statement line) refl)
      ∙ ap (stands_below name (grown lines line)) (sym (length-grown lines line));
  known_is =
      takes.known_is
      ∙ ap (λ bytes. old.pins.known || begins_package bytes line) has.name_is
      ∙ ap (λ b. b || begins_package name line) has.known_is
      ∙ sym (known-last name lines line);
  places_are = λ pin.
      takes.places_are pin
      ∙ ap (λ found. or_else found (if old.below then place_in_line pin line else None)) (has.places_are pin)
      ∙ ap (λ b. or_else ((package_in name lines).place_of pin) (if b then place_in_line pin line else None)) has.below_is
      ∙ sym (place-last name lines line pin);
}

-- What is known while the lines of a text are taken, with the bytes that are left.
pub record Going (text left : List ℕ) (old now : PinLines) : Type 0 where
  pub lines : List (List ℕ)
  pub parts : lines_of text ≡ lines ++ lines_of left
  pub taken : TakesLines taken_by old now lines

pub Going-nothing : (text : List ℕ) (taker : PinLines) → Going text text taker taker
Going-nothing text taker = record {
  lines = [];
  parts = refl;
  taken = λ name before has. subst (λ (ls : List (List ℕ)). HasTaken name ls taker) (sym (append-nil before)) has;
}

pub Going-first : (text left line rest : List ℕ) (old now next : PinLines) → Going text left old now → lines_of left ≡ line ∷ lines_of rest → TakesLine now line next → Going text rest old next
Going-first text left line rest old now next going first takes =
    let lines = going.lines in
    record {
      lines = lines ++ line ∷ [];
      parts = going.parts ∙ ap (λ ls. lines ++ ls) first ∙ sym (append_assoc lines (line ∷ []) (lines_of rest));
      taken = λ name before has.
          subst (λ (ls : List (List ℕ)). HasTaken name ls next) (append_assoc before lines (line ∷ []))
          (HasTaken-more name (before ++ lines) line now next (going.taken name before has) takes);
    }

-- all lines were taken
pub Going-all : (text left : List ℕ) (old now : PinLines) → Going text left old now → left ≡ [] → TakesLines taken_by old now (lines_of text)
unfolding lines_of
Going-all text left old now going none =
    let all : going.lines ≡ lines_of text = sym (append-nil going.lines) ∙ ap (λ l. going.lines ++ lines_of l) (sym none) ∙ sym going.parts in
    subst (λ (ls : List (List ℕ)). TakesLines taken_by old now ls) all going.taken

-- ---- a line of the database

-- a statement places no pin
statement-places : (pin line : List ℕ) → is_statement line ≡ true → place_in_line pin line ≡ None
unfolding place_in_line
statement-places pin line statement = rw statement refl

-- what no statement is begins no package
begins-none : (name line : List ℕ) → is_statement line ≡ false → begins_package name line ≡ false
unfolding begins_package
begins-none name line other = rw other refl

nothing-here : {A : Type 0} (b : Bool) (given : Option A) → given ≡ None → (if b then given else None) ≡ None
nothing-here true given none = none
nothing-here false given none = refl

pub takes-statement : (old new : PinLines) (line : List ℕ) → is_statement line ≡ true → new.name.items ≡ old.name.items
    → new.below ≡ begins_package old.name.items line → new.pins.known ≡ (old.pins.known || begins_package old.name.items line)
    → ((pin : List ℕ) → place_kept new.pins pin ≡ place_kept old.pins pin) → TakesLine old line new
takes-statement old new line statement named below known places = record {
  name_is = named;
  below_is = below ∙ sym (cond-true (is_statement line) (begins_package old.name.items line) old.below statement);
  known_is = known;
  places_are = λ pin.
      places pin ∙ sym (or_else-none (place_kept old.pins pin))
      ∙ ap (or_else (place_kept old.pins pin)) (sym (nothing-here old.below (place_in_line pin line) (statement-places pin line statement)));
}

-- another line
pub takes-other : (old new : PinLines) (line : List ℕ) → is_statement line ≡ false → new.name.items ≡ old.name.items
    → new.below ≡ old.below → new.pins.known ≡ old.pins.known
    → ((pin : List ℕ) → place_kept new.pins pin ≡ or_else (place_kept old.pins pin) (if old.below then place_in_line pin line else None)) → TakesLine old line new
takes-other old new line other named below known places = record {
  name_is = named;
  below_is = below ∙ sym (cond-false (is_statement line) (begins_package old.name.items line) old.below other);
  known_is = known ∙ sym (or-false old.pins.known) ∙ ap (λ b. old.pins.known || b) (sym (begins-none old.name.items line other));
  places_are = places;
}

-- one that gives no place to a pin, or isn't below `.pins` with the package's name
pub takes-nothing : (old : PinLines) (line : List ℕ) → is_statement line ≡ false
    → ((pin : List ℕ) → (if old.below then place_in_line pin line else None) ≡ None) → TakesLine old line old
takes-nothing old line other nothing =
    takes-other old old line other refl refl refl (λ pin. sym (or_else-none (place_kept old.pins pin)) ∙ ap (or_else (place_kept old.pins pin)) (sym (nothing pin)))

pub above-nothing : (old : PinLines) (line : List ℕ) → is_statement line ≡ false → old.below ≡ false → TakesLine old line old
above-nothing old line other above = takes-nothing old line other (λ pin. cond-false old.below (place_in_line pin line) None above)

pub below-nothing : (old : PinLines) (line : List ℕ) → is_statement line ≡ false → ((pin : List ℕ) → place_in_line pin line ≡ None) → TakesLine old line old
below-nothing old line other none = takes-nothing old line other (λ pin. nothing-here old.below (place_in_line pin line) (none pin))

-- one that places a pin
pub takes-pin : (old new : PinLines) (line pin : List ℕ) (place : PinPlace) → is_statement line ≡ false → old.below ≡ true → new.name.items ≡ old.name.items
    → new.below ≡ old.below → new.pins.known ≡ old.pins.known
    → ((other : List ℕ) → place_in_line other line ≡ (if bytes_eq pin other then Some place else None))
    → ((other : List ℕ) → place_kept new.pins other ≡ or_else (place_kept old.pins other) (if bytes_eq pin other then Some place else None))
    → TakesLine old line new
takes-pin old new line pin place other below named still known says places =
    takes-other old new line other named still known (λ q.
    places q ∙ ap (or_else (place_kept old.pins q)) (sym (says q) ∙ sym (cond-true old.below (place_in_line q line) None below)))

-- ---- the end

-- the package that is kept is the package of the lines
pub kept-is : (name : List ℕ) (lines : List (List ℕ)) (taker : PinLines) → HasTaken name lines taker → kept_in taker.pins ≡ package_in name lines
unfolding kept_in
kept-is name lines taker has = λ i. record { known = has.known_is i; place_of = λ pin. has.places_are pin i }

pub package-is : (name text : List ℕ) (pins : Package) → pins ≡ package_in name (lines_of text) → pins ≡ package_of name text
unfolding package_of
package-is name text pins is = is

-- out of memory is reported for all lines
pub lack-told : (taker : PinLines) (lines : List (List ℕ)) (r : Result (Unit {0}) AllocError) → IfErr r (λ lack. RefusesLines taken_by refused_with taker lines lack)
lack-told taker lines (Ok done) = tt
lack-told taker lines (Err lack) = λ name before more has. tt
