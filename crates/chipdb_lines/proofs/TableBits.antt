-- Bits that were added to a table one after another.
use Rattle.std.proofs.Common.{◌≡◌, ℕ, ◌+◌, ◌-◌, ◌<◌, ◌≤◌, Bool, true, false, not, ◌&&◌, cond, ltb, List, [], ◌∷◌, ◌++◌, length, length-append, take, drop, append_assoc, append-nil, refl, sym, ap, ◌∙◌, arith, true≢false}
use Rattle.std.specs.Prelude.{Option, Some, None, Ok, Err, is_some, MatchOption}
use Rattle.std.specs.Result.{result_err}
use Rattle.std.proofs.lemmas.Bool.{le-ltb, lt-ltb}
use Rattle.std.proofs.lemmas.List.{take_all}
use Rattle.std.proofs.lemmas.List.Folds.{list_all-append}
use Rattle.std.proofs.Math.Seq.{drop-append_seam}
use Rattle.chipdb_lines.specs.declared.cause.DbLineRefusal.{DbLineRefusal}
use Rattle.chipdb_lines.specs.declared.cause.DbLineRefusal.TheVariants.{Cause, Memory}
use Rattle.chipdb_lines.specs.Kept.{Reports}
use Rattle.chipdb_lines.specs.Spans.{bits_in, AddsSpan}
use Rattle.std.specs.List.{list_all}
use Rattle.plane_map.specs.declared.tile.RowCol.{RowCol}
use Rattle.chipdb_lines.specs.declared.cause.DbCause.{DbCause}
use Rattle.chipdb_lines.specs.declared.cause.DbCause.TheVariants.{BitName, BitRange, CellBits}
use Rattle.chipdb_lines.specs.Words.{bit_of, bits_of, with_bit}
use Rattle.chipdb_lines.specs.Statements.{is_in_columns, tile_bits_of, checked_bits}

-- bits before others
abbrev pub after_bits : List RowCol → Option (List RowCol) → Option (List RowCol)
after_bits bits (Some more) = Some (bits ++ more)
after_bits bits None = None

-- no bits before others
pub after_bits-nothing : (more : Option (List RowCol)) → after_bits [] more ≡ more
after_bits-nothing (Some more) = refl
after_bits-nothing None = refl

-- one bit more before others
pub after_bits-push : (bits : List RowCol) (bit : RowCol) (more : Option (List RowCol)) → after_bits bits (with_bit (Some bit) more) ≡ after_bits (bits ++ bit ∷ []) more
after_bits-push bits bit (Some more) = ap (λ all. Some all) (sym (append_assoc bits (bit ∷ []) more))
after_bits-push bits bit None = refl

-- What was added of the bits that the words name: exactly the bits of the words before `left`, all of them bits of the tile.
pub record Added (columns : ℕ) (old bits : List RowCol) (words left : List (List ℕ)) : Type 0 where
  pub more : List RowCol
  pub table : bits ≡ old ++ more
  pub inside : list_all (is_in_columns columns) more ≡ true
  pub all : bits_of words ≡ after_bits more (bits_of left)

-- nothing was added
pub Added-nothing : (columns : ℕ) (old : List RowCol) (words : List (List ℕ)) → Added columns old old words words
Added-nothing columns old words = record { more = []; table = sym (append-nil old); inside = refl; all = sym (after_bits-nothing (bits_of words)) }

-- one bit more was added
pub Added-push : (columns : ℕ) (old bits new : List RowCol) (words left rest : List (List ℕ)) (word : List ℕ) (bit : RowCol)
    → Added columns old bits words left → left ≡ word ∷ rest → bit_of word ≡ Some bit → is_in_columns columns bit ≡ true → new ≡ bits ++ bit ∷ []
    → Added columns old new words rest
unfolding bits_of
Added-push columns old bits new words left rest word bit added split named there pushed =
    let more = added.more in
    let next : bits_of left ≡ with_bit (Some bit) (bits_of rest) = rw (split, named) refl in
    record {
      more = more ++ bit ∷ [];
      table = pushed ∙ ap (λ xs. xs ++ bit ∷ []) added.table ∙ append_assoc old more (bit ∷ []);
      inside = list_all-append (is_in_columns columns) more (bit ∷ []) ∙ rw (added.inside, there) refl;
      all = added.all ∙ ap (after_bits more) next ∙ after_bits-push more bit (bits_of rest);
    }

-- all words were taken
pub Added-all : (columns : ℕ) (old bits : List RowCol) (words left : List (List ℕ)) → (added : Added columns old bits words left) → left ≡ [] → bits_of words ≡ Some added.more
unfolding bits_of
Added-all columns old bits words left added none =
    let last : bits_of left ≡ Some [] = rw none refl in
    added.all ∙ ap (after_bits added.more) last ∙ ap (λ all. Some all) (append-nil added.more)

-- a bit outside of the tile, with those after it
outside_by : (columns : ℕ) (more : List RowCol) (bit : RowCol) (others : Option (List RowCol)) → list_all (is_in_columns columns) more ≡ true → is_in_columns columns bit ≡ false
    → checked_bits columns (after_bits more (with_bit (Some bit) others)) ≡ Err (cond (is_some others) BitRange BitName)
outside_by columns more bit None inside outside = refl
outside_by columns more bit (Some others) inside outside =
    let all : list_all (is_in_columns columns) (more ++ bit ∷ others) ≡ false = list_all-append (is_in_columns columns) more (bit ∷ others) ∙ rw (inside, outside) refl in
    rw all refl

-- a bit outside of the tile was found
pub Added-outside : (columns : ℕ) (old bits : List RowCol) (words left rest : List (List ℕ)) (word : List ℕ) (bit : RowCol)
    → Added columns old bits words left → left ≡ word ∷ rest → bit_of word ≡ Some bit → is_in_columns columns bit ≡ false
    → tile_bits_of columns words ≡ Err (cond (is_some (bits_of rest)) BitRange BitName)
unfolding bits_of tile_bits_of
Added-outside columns old bits words left rest word bit added split named outside =
    let next : bits_of left ≡ with_bit (Some bit) (bits_of rest) = rw (split, named) refl in
    ap (checked_bits columns) (added.all ∙ ap (after_bits added.more) next) ∙ outside_by columns added.more bit (bits_of rest) added.inside outside

-- a word that names no bit was found
pub Added-unnamed : (columns : ℕ) (old bits : List RowCol) (words left rest : List (List ℕ)) (word : List ℕ)
    → Added columns old bits words left → left ≡ word ∷ rest → bit_of word ≡ None
    → tile_bits_of columns words ≡ Err BitName
unfolding bits_of tile_bits_of
Added-unnamed columns old bits words left rest word added split named =
    let next : bits_of left ≡ None = rw (split, named) refl in
    ap (checked_bits columns) (added.all ∙ ap (after_bits added.more) next)

-- ---- words, one after another

-- whether words name bits, by the first of them
pub some_bits-more : (word : List ℕ) (words : List (List ℕ)) → is_some (bits_of (word ∷ words)) ≡ (is_some (bit_of word) && is_some (bits_of words))
unfolding bits_of
some_bits-more word words = by (bit_of word) (bits_of words)
  where
    by : (bit : Option RowCol) (bits : Option (List RowCol)) → is_some (with_bit bit bits) ≡ (is_some bit && is_some bits)
    by (Some bit) (Some bits) = refl
    by (Some bit) None = refl
    by None bits = refl

pub some_bits-nothing : is_some (bits_of []) ≡ true
unfolding bits_of
some_bits-nothing = refl

-- what is reported if there is no value
pub none-by : {X : Type 0} (found : Option X) (is : Bool) (P : Type 0) (Q : X → Type 0) → is_some found ≡ not is → is ≡ true → MatchOption found P Q → P
none-by None is P Q answer none_is told = told
none-by (Some x) is P Q answer none_is told = absurd (true≢false (answer ∙ ap not none_is))

-- and of one that is some
pub some-by : {X : Type 0} (found : Option X) (is : Bool) (P : Type 0) (Q : X → Type 0) → is_some found ≡ not is → is ≡ false → MatchOption found P Q → (x : X) × Q x
some-by None is P Q answer none_is told = absurd (true≢false (sym (answer ∙ ap not none_is)))
some-by (Some x) is P Q answer none_is told = (x, told)

-- ---- refusals

told_by : (columns : ℕ) (old bits : List RowCol) (words left rest : List (List ℕ)) (word : List ℕ) (named : Option RowCol) (told : DbCause)
    → Added columns old bits words left → left ≡ word ∷ rest → bit_of word ≡ named → cond (is_some named) None (Some BitName) ≡ Some told
    → result_err (tile_bits_of columns words) ≡ Some told
told_by columns old bits words left rest word (Some bit) told added split is tells = absurd cc
told_by columns old bits words left rest word None told added split is tells = ap result_err (Added-unnamed columns old bits words left rest word added split is) ∙ tells

-- what is reported of a word that names no bit
pub told-unnamed : (columns : ℕ) (old bits : List RowCol) (words left rest : List (List ℕ)) (word : List ℕ) (refusal : DbLineRefusal)
    → Added columns old bits words left → left ≡ word ∷ rest → Reports (cond (is_some (bit_of word)) None (Some BitName)) refusal
    → Reports (result_err (tile_bits_of columns words)) refusal
told-unnamed columns old bits words left rest word (Cause told) added split tells = told_by columns old bits words left rest word (bit_of word) told added split refl tells
told-unnamed columns old bits words left rest word (Memory e) added split tells = tt

-- the bits that were added are the bits of a list
pub list-added : (start count : ℕ) (old bits more : List RowCol) → bits ≡ old ++ more → start ≡ length old → count ≡ length bits - start → bits_in bits (record { start = start; count = count }) ≡ more
list-added start count old bits more table start_is count_is =
    let lengths : length bits ≡ length old + length more = ap length table ∙ length-append old more in
    let from : drop start bits ≡ more = ap (λ n. drop n bits) start_is ∙ ap (drop (length old)) table ∙ drop-append_seam old more in
    ap (take count) from ∙ take_all count more (omega arith)

-- all words were taken, and there are few bits
pub Added-list : (columns start count : ℕ) (old bits : List RowCol) (words left : List (List ℕ)) → Added columns old bits words left → left ≡ [] → start ≡ length old → count ≡ length bits - start → count ≤ 64
    → tile_bits_of columns words ≡ Ok (bits_in bits (record { start = start; count = count }))
unfolding tile_bits_of
Added-list columns start count old bits words left added none start_is count_is few =
    let more = added.more in
    let table : bits ≡ old ++ more = added.table in
    let lengths : length bits ≡ length old + length more = ap length table ∙ length-append old more in
    let all : bits_of words ≡ Some more = Added-all columns old bits words left added none in
    let fits : ltb 64 (length more) ≡ false = le-ltb 64 (length more) (omega arith) in
    let inside : list_all (is_in_columns columns) more ≡ true = added.inside in
    let checked : checked_bits columns (Some more) ≡ Ok more = rw (inside, fits) refl in
    ap (checked_bits columns) all ∙ checked ∙ ap (λ bs. Ok bs) (sym (list-added start count old bits more table start_is count_is))

-- what was added are the bits of a list
pub Added-exact : (columns start count : ℕ) (old bits : List RowCol) (words left : List (List ℕ)) → Added columns old bits words left → start ≡ length old → count ≡ length bits - start → count ≤ 64
    → AddsSpan old bits (record { start = start; count = count })
Added-exact columns start count old bits words left added start_is count_is few =
    let lengths : length bits ≡ length old + length added.more = ap length added.table ∙ length-append old added.more in
    record { starts = start_is; ends = omega arith; few = few; grown = (added.more, added.table) }

-- all words were taken, and there are many bits
pub Added-many : (columns start count : ℕ) (old bits : List RowCol) (words left : List (List ℕ)) → Added columns old bits words left → left ≡ [] → start ≡ length old → count ≡ length bits - start → 64 < count
    → result_err (tile_bits_of columns words) ≡ Some CellBits
unfolding tile_bits_of
Added-many columns start count old bits words left added none start_is count_is many =
    let more = added.more in
    let table : bits ≡ old ++ more = added.table in
    let lengths : length bits ≡ length old + length more = ap length table ∙ length-append old more in
    let all : bits_of words ≡ Some more = Added-all columns old bits words left added none in
    let past : ltb 64 (length more) ≡ true = lt-ltb 64 (length more) (omega arith) in
    let inside : list_all (is_in_columns columns) more ≡ true = added.inside in
    let checked : checked_bits columns (Some more) ≡ Err CellBits = rw (inside, past) refl in
    ap result_err (ap (checked_bits columns) all ∙ checked)
