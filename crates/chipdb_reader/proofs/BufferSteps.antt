-- Lines of `.buffer` statements with one more.
use Rattle.std.proofs.Common.{◌≡◌, ℕ, ◌+◌, ◌%◌, ◌≤◌, Bool, true, false, cond, eqb, List, [], ◌∷◌, ◌++◌, length, length-append, drop, get_or, refl, sym, ap, ◌∙◌, arith, true≢false}
use Rattle.std.specs.Prelude.{◌≢◌, Option, Some, None, find, nat_eq, option_map}
use Rattle.std.specs.Ordering.{nat_cmp, is_eq}
use Rattle.std.specs.Cmp.{unsigned_ties}
use Rattle.std.specs.Map.{lookup}
use Rattle.std.proofs.lemmas.Bool.{eqb-true, ne_eqb}
use Rattle.std.proofs.lemmas.List.{drop-append-le, map-append}
use Rattle.shared_lemmas.proofs.Numbers.{eqb-turned}
use Rattle.chipdb_reader.specs.declared.items.LinkLine.{LinkLine}
use Rattle.std.specs.BTreeMap.{Updates, get}
use Rattle.chipdb_reader.specs.declared.buffers.Buffers.{Buffers}
use Rattle.chipdb_reader.specs.declared.buffers.TheConstants.{MARKS}
use Rattle.chipdb_reader.specs.Buffers.{AddsBuffer, IsChosen, choices_of, chosen_src, with_line}
use Rattle.chipdb_reader.proofs.Searches.{index-push, lookup-push}

-- the index has one line more
pub chosen-push : (old new : ℕ → Option ℕ) (lines : List LinkLine) (start : ℕ) (line : LinkLine) → start ≤ length lines
    → ((q : ℕ) → new q ≡ cond (is_eq (nat_cmp line.values q)) (Some line.src) (old q)) → ((q : ℕ) → old q ≡ lookup (nat_eq q) (choices_of (drop start lines))) → old line.values ≡ None
    → (q : ℕ) → new q ≡ lookup (nat_eq q) (choices_of (drop start (lines ++ line ∷ [])))
chosen-push old new lines start line within updates found none q =
    let pushed = index-push nat_eq (λ key other. is_eq (nat_cmp key other)) old new (choices_of (drop start lines)) line.values line.src
    (λ other. sym (unsigned_ties line.values other) ∙ eqb-turned line.values other) (λ other is. eqb-true other line.values is) updates found none q in
    let more : choices_of (drop start (lines ++ line ∷ [])) ≡ choices_of (drop start lines) ++ (line.values, line.src) ∷ [] =
    ap choices_of (drop-append-le start lines (line ∷ []) within) ∙ map-append (λ (l : LinkLine). (l.values, l.src)) (drop start lines) (line ∷ []) in
    pushed ∙ ap (lookup (nat_eq q)) (sym more)

-- values without a mark are none of the lines', and not the new one's
marked-push : (old new : List Bool) (lines : List LinkLine) (start : ℕ) (line : LinkLine) → start ≤ length lines
    → ((values : ℕ) → get_or old (values % MARKS) true ≡ false → lookup (nat_eq values) (choices_of (drop start lines)) ≡ None)
    → get_or new (line.values % MARKS) true ≡ true → ((k : ℕ) → k ≢ line.values % MARKS → get_or new k true ≡ get_or old k true)
    → (values : ℕ) → get_or new (values % MARKS) true ≡ false → lookup (nat_eq values) (choices_of (drop start (lines ++ line ∷ []))) ≡ None
marked-push old new lines start line within marked here others values none =
    let apart : values % MARKS ≢ line.values % MARKS = λ same. true≢false (sym here ∙ ap (λ k. get_or new k true) (sym same) ∙ none) in
    let before = marked values (sym (others (values % MARKS) apart) ∙ none) in
    let other : nat_eq values line.values ≡ false = ne_eqb values line.values (λ same. apart (ap (λ v. v % MARKS) same)) in
    let more : choices_of (drop start (lines ++ line ∷ [])) ≡ choices_of (drop start lines) ++ (line.values, line.src) ∷ [] =
    ap choices_of (drop-append-le start lines (line ∷ []) within) ∙ map-append (λ (l : LinkLine). (l.values, l.src)) (drop start lines) (line ∷ []) in
    ap (lookup (nat_eq values)) more ∙ lookup-push (nat_eq values) (choices_of (drop start lines)) (line.values, line.src)
    ∙ rw (before, other) refl

-- what a new line changes when the lines are in the index
pub adds-indexed : (old new : Buffers) (line : LinkLine) → IsChosen old → old.is_indexed ≡ true → chosen_src old line.values ≡ None → Updates nat_cmp old.chosen new.chosen line.values (Some line.src)
    → new.lines.items ≡ old.lines.items ++ line ∷ [] → new.start ≡ old.start → new.is_indexed ≡ old.is_indexed
    → get_or new.marks (line.values % MARKS) true ≡ true → ((k : ℕ) → k ≢ line.values % MARKS → get_or new.marks k true ≡ get_or old.marks k true) → AddsBuffer old new line
adds-indexed old new line indexed many none updates pushed start kept here others =
    let within : old.start ≤ length old.lines.items = indexed.within in
    let count : length new.lines.items ≡ length old.lines.items + 1 = ap length pushed ∙ length-append old.lines.items (line ∷ []) in
    record {
      indexed = record {
        marked = λ values unmarked.
            (λ i. lookup (nat_eq values) (choices_of (drop (start i) (pushed i))))
            ∙ marked-push old.marks new.marks old.lines.items old.start line indexed.within indexed.marked here others values unmarked;
        found = λ _ q. chosen-push (get nat_cmp old.chosen) (get nat_cmp new.chosen) old.lines.items old.start line indexed.within updates.0 (indexed.found many) (indexed.found many line.values ∙ none) q
            ∙ (λ i. lookup (nat_eq q) (choices_of (drop (sym start i) (sym pushed i))));
        unused = λ few. let both : true ≡ false = sym (kept ∙ many) ∙ few in absurd cc;
        within = omega arith;
      };
      lines = pushed ∙ ap (λ o. with_line o old.lines.items line) (sym none);
      start = start;
    }

-- what a new line changes when they aren't
pub adds-few : (old new : Buffers) (line : LinkLine) → IsChosen old → old.is_indexed ≡ false → chosen_src old line.values ≡ None
    → new.lines.items ≡ old.lines.items ++ line ∷ [] → new.start ≡ old.start → new.is_indexed ≡ old.is_indexed → new.chosen ≡ old.chosen
    → get_or new.marks (line.values % MARKS) true ≡ true → ((k : ℕ) → k ≢ line.values % MARKS → get_or new.marks k true ≡ get_or old.marks k true) → AddsBuffer old new line
adds-few old new line indexed few none pushed start kept same here others =
    let within : old.start ≤ length old.lines.items = indexed.within in
    let count : length new.lines.items ≡ length old.lines.items + 1 = ap length pushed ∙ length-append old.lines.items (line ∷ []) in
    record {
      indexed = record {
        marked = λ values unmarked.
            (λ i. lookup (nat_eq values) (choices_of (drop (start i) (pushed i))))
            ∙ marked-push old.marks new.marks old.lines.items old.start line indexed.within indexed.marked here others values unmarked;
        found = λ many. let both : false ≡ true = sym (kept ∙ few) ∙ many in absurd cc;
        unused = λ _ q. ap (λ index. get nat_cmp index q) same ∙ indexed.unused few q;
        within = omega arith;
      };
      lines = pushed ∙ ap (λ o. with_line o old.lines.items line) (sym none);
      start = start;
    }

-- the net that the first line with those values has
pub first-lookup : (values : ℕ) (lines : List LinkLine) → option_map (λ (line : LinkLine). line.src) (find (λ (line : LinkLine). eqb values line.values) lines) ≡ lookup (nat_eq values) (choices_of lines)
first-lookup values [] = refl
first-lookup values (line ∷ lines) = by (eqb values line.values) (first-lookup values lines)
  where
    by : (b : Bool) → option_map (λ (l : LinkLine). l.src) (find (λ (l : LinkLine). eqb values l.values) lines) ≡ lookup (nat_eq values) (choices_of lines)
        → option_map (λ (l : LinkLine). l.src) (cond b (Some line) (find (λ (l : LinkLine). eqb values l.values) lines)) ≡ cond b (Some line.src) (lookup (nat_eq values) (choices_of lines))
    by true rest = refl
    by false rest = rest

-- an index of lines with one more before them
pub index-before : (line : LinkLine) (lines : List LinkLine) (old new : ℕ → Option ℕ)
    → ((q : ℕ) → new q ≡ cond (is_eq (nat_cmp line.values q)) (Some line.src) (old q)) → ((q : ℕ) → old q ≡ lookup (nat_eq q) (choices_of lines))
    → (q : ℕ) → new q ≡ lookup (nat_eq q) (choices_of (line ∷ lines))
index-before line lines old new updates found q =
    updates q ∙ ap (λ b. cond b (Some line.src) (old q)) (sym (unsigned_ties line.values q) ∙ eqb-turned line.values q) ∙ ap (λ o. cond (eqb q line.values) (Some line.src) o) (found q)
