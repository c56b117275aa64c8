-- Texts in parts, of which one gets another line.
use Rattle.std.proofs.Common.{◌≡◌, ℕ, zero, suc, ◌+◌, ◌<◌, ◌≤◌, false, List, [], ◌∷◌, ◌++◌, inl, inr, ap, ap₂, append-nil, append_assoc, arith, drop, flat_map, get_or, length, length-append, refl, set, subst, sym, take, take_all, ◌∙◌}
use Rattle.std.specs.Prelude.{map}
use Rattle.std.proofs.lemmas.Bool.{cases_eq, cases_lt}
use Rattle.std.proofs.lemmas.List.{drop-drop, drop_all, drop_at, drop_more, get_or-set_other, get_or-set_same, get_or_append_left, get_or_default, get_or_push, length-set, length_push, set-get_or, take-append-le, take_at}
use Rattle.std.proofs.lemmas.List.Concat.{flat_map-append}
use Rattle.vlog_module.specs.Parts.{Parts}
use Rattle.vlog_semantics.specs.declared.event.Event.{Event}
use Rattle.vlog_semantics.specs.Run.{module_run, run_from, start}
use Rattle.vlog_run.specs.Text.{entry_line, run_text}
use Rattle.vlog_sweep.specs.Strands.{Stands, begun_text, had, left_of, line_put, next_entry, part, stepped, written}
use Rattle.vlog_sweep.specs.Sweep.{list_text}
use Rattle.vlog_sweep.specs.declared.strand.Strand.{Strand}
use Rattle.vlog_sweep.proofs.Runs.{lines-more}

-- ---- lists of parts

-- a line in place of another
put-line : (before old after line : List ℕ) (at : ℕ) → length before ≡ at → length old ≡ length line → line_put (before ++ (old ++ after)) at line ≡ before ++ (line ++ after)
put-line before old after line at is same =
    ap₂ (λ a b. a ++ (line ++ b)) (take_at before (old ++ after) at is)
    (sym (drop-drop (length line) at (before ++ (old ++ after))) ∙ ap (drop (length line)) (drop_at before (old ++ after) at is) ∙ drop_at old after (length line) same)

-- one part is another
part-set : {A : Type 0} (f : A → List ℕ) (xs : List A) (k : ℕ) (x : A) → k < length xs
    → flat_map f (set xs k x) ≡ flat_map f (take k xs) ++ (f x ++ flat_map f (drop (suc k) xs))
part-set f [] k x within = absurd (omega (arith, within))
part-set f (y ∷ xs) zero x within = refl
part-set f (y ∷ xs) (suc k) x within =
    ap (λ rest. f y ++ rest) (part-set f xs k x (omega (arith, within)))
    ∙ sym (append_assoc (f y) (flat_map f (take k xs)) (f x ++ flat_map f (drop (suc k) xs)))

-- the part at a place
part-at : {A : Type 0} (f : A → List ℕ) (xs : List A) (k : ℕ) (x : A) → k < length xs → x ≡ get_or xs k x
    → flat_map f xs ≡ flat_map f (take k xs) ++ (f x ++ flat_map f (drop (suc k) xs))
part-at f xs k x within is = ap (flat_map f) (sym (set-get_or xs k x) ∙ ap (set xs k) (sym is)) ∙ part-set f xs k x within

-- offsets stay if a part keeps its length
same-length : {A : Type 0} (f : A → List ℕ) (xs : List A) (k j : ℕ) (x d : A) → k < length xs → length (f x) ≡ length (f (get_or xs k d))
    → length (flat_map f (take j (set xs k x))) ≡ length (flat_map f (take j xs))
same-length f [] k j x d within same = absurd (omega (arith, within))
same-length f (y ∷ xs) k zero x d within same = refl
same-length f (y ∷ xs) zero (suc j) x d within same =
    omega (arith, same, length-append (f x) (flat_map f (take j xs)), length-append (f y) (flat_map f (take j xs)))
same-length f (y ∷ xs) (suc k) (suc j) x d within same =
    omega (
      arith,
      same-length f xs k j x d (omega (arith, within)) same,
      length-append (f y) (flat_map f (take j (set xs k x))),
      length-append (f y) (flat_map f (take j xs)),
    )

same-parts : {A : Type 0} (f g : A → List ℕ) (xs : List A) → ((k : ℕ) (d : A) → k < length xs → f (get_or xs k d) ≡ g (get_or xs k d)) → flat_map f xs ≡ flat_map g xs
same-parts f g [] same = refl
same-parts f g (x ∷ xs) same =
    ap₂ (λ a b. a ++ b) (same 0 x (omega arith)) (same-parts f g xs (λ k d within. same (suc k) d (omega (arith, within))))

parts-of : {A B : Type 0} (f : B → List ℕ) (g : A → B) (xs : List A) → flat_map (λ x. f (g x)) xs ≡ flat_map f (map g xs)
parts-of f g [] = refl
parts-of f g (x ∷ xs) = ap (λ rest. f (g x) ++ rest) (parts-of f g xs)

-- ---- the part of a list whose lane has an event

abbrev later : List ℕ → Strand → List ℕ
later line strand = flat_map (λ (event : Event). line) (drop (strand.taken + 1) strand.list.now.events.items)

part-left : (m : Parts) (line : List ℕ) (strand : Strand) → strand.taken < length strand.list.now.events.items
    → part m line strand ≡ written m strand ++ (line ++ later line strand)
part-left m line strand within =
    let none : Event = record { pin = 0; bit = false } in
    ap (λ events. written m strand ++ flat_map (λ (event : Event). line) events) (drop_more strand.list.now.events.items strand.taken none within)

written-more : (m : Parts) (strand : Strand) (width : ℕ) → strand.taken < length strand.list.now.events.items
    → written m (stepped width strand) ≡ written m strand ++ entry_line false (next_entry m strand)
written-more m strand width within =
    ap (λ lines. strand.list.now.heading.items ++ lines) (lines-more m (start m) strand.list.now.events.items strand.taken within)
    ∙ sym (append_assoc strand.list.now.heading.items (flat_map (entry_line false) (run_from m (start m) (had strand))) (entry_line false (next_entry m strand)))

-- a text with a part whose next line is written
turned-text : (before kept old new after last : List ℕ) (at : ℕ) → at ≡ length before + length kept → length old ≡ length new
    → line_put (before ++ ((kept ++ (old ++ after)) ++ last)) at new ≡ before ++ (((kept ++ new) ++ after) ++ last)
turned-text before kept old new after last at is same =
    let size : length (before ++ kept) ≡ at = omega (arith, is, length-append before kept) in
    let regroup : (line : List ℕ) → before ++ ((kept ++ (line ++ after)) ++ last) ≡ (before ++ kept) ++ (line ++ (after ++ last)) =
    λ line. simp append_assoc in
    ap (λ text. line_put text at new) (regroup old)
    ∙ put-line (before ++ kept) old (after ++ last) new at size same
    ∙ sym (regroup new)
    ∙ ap (λ list. before ++ (list ++ last)) (sym (append_assoc kept new after))

turned-length : (m : Parts) (line new : List ℕ) (strand : Strand) (width : ℕ) → strand.taken < length strand.list.now.events.items → length line ≡ length new
    → new ≡ entry_line false (next_entry m strand) → length (part m line (stepped width strand)) ≡ length (part m line strand)
turned-length m line new strand width within same is =
    let kept = written m strand in
    let more : length (written m (stepped width strand)) ≡ length kept + length new =
    ap length (written-more m strand width within ∙ ap (λ l. kept ++ l) (sym is)) ∙ length-append kept new in
    let one : length (part m line (stepped width strand)) ≡ length (written m (stepped width strand)) + length (later line strand) = length-append (written m (stepped width strand)) (later line strand) in
    let two : length (part m line strand) ≡ length kept + (length line + length (later line strand)) =
    ap length (part-left m line strand within) ∙ length-append kept (line ++ later line strand) ∙ ap (λ n. length kept + n) (length-append line (later line strand)) in
    omega (arith, more, one, two, same)

-- the line of a lane is written
pub turned-stands : (m : Parts) (line new : List ℕ) (strands : List Strand) (text : List ℕ) (k width : ℕ) (strand : Strand) → Stands m line strands text
    → k < length strands → strand ≡ get_or strands k strand → strand.taken < length strand.list.now.events.items
    → length line ≡ width → length new ≡ width → new ≡ entry_line false (next_entry m strand)
    → Stands m line (set strands k (stepped width strand)) (line_put text strand.at new)
turned-stands m line new strands text k width strand stands within is some line_size new_size new_is =
    let f : Strand → List ℕ = part m line in
    let next : Strand = stepped width strand in
    let before : List ℕ = flat_map f (take k strands) in
    let last : List ℕ = flat_map f (drop (suc k) strands) in
    let kept : List ℕ = written m strand in
    let after : List ℕ = later line strand in
    let same : length line ≡ length new = line_size ∙ sym new_size in
    let at : strand.at ≡ length before + length kept =
    ap (λ s. s.at) is ∙ stands.places k strand within ∙ ap (λ s. length before + length (written m s)) (sym is) in
    let now : written m next ≡ kept ++ new = written-more m strand width some ∙ ap (λ l. kept ++ l) (sym new_is) in
    let now_size : length (written m next) ≡ length kept + width = ap length now ∙ length-append kept new ∙ ap (λ n. length kept + n) new_size in
    let lengths : (j : ℕ) → length (flat_map f (take j (set strands k next))) ≡ length (flat_map f (take j strands)) =
    λ j. same-length f strands k j next strand within (turned-length m line new strand width some same new_is ∙ ap (λ s. length (f s)) is) in
    record {
      parts = ap (λ t. line_put t strand.at new) (stands.parts ∙ part-at f strands k strand within is ∙ ap (λ p. before ++ (p ++ last)) (part-left m line strand some))
          ∙ turned-text before kept line new after last strand.at at same
          ∙ ap (λ w. before ++ ((w ++ after) ++ last)) (sym now)
          ∙ sym (part-set f strands k next within);
      places = λ j d inside. elim (cases_eq j k) [
        | inl here ↦
            let found : get_or (set strands k next) j d ≡ next = ap (λ i. get_or (set strands k next) i d) here ∙ get_or-set_same strands k next d within in
            ap (λ s. s.at) found ∙ omega (arith, at, now_size, lengths k)
            ∙ ap₂ (λ i s. length (flat_map f (take i (set strands k next))) + length (written m s)) (sym here) (sym found)
        | inr apart ↦
            let found : get_or (set strands k next) j d ≡ get_or strands j d = get_or-set_other strands k j next d apart in
            ap (λ s. s.at) found ∙ stands.places j d (omega (arith, inside, length-set strands k next))
            ∙ ap₂ (λ n s. n + length (written m s)) (sym (lengths j)) (sym found)
      ];
      within = λ j d inside. elim (cases_eq j k) [
        | inl here ↦
            let found : get_or (set strands k next) j d ≡ next = ap (λ i. get_or (set strands k next) i d) here ∙ get_or-set_same strands k next d within in
            subst (λ s. s.taken ≤ length s.list.now.events.items) (sym found) (omega (arith, some))
        | inr apart ↦
            let found : get_or (set strands k next) j d ≡ get_or strands j d = get_or-set_other strands k j next d apart in
            subst (λ s. s.taken ≤ length s.list.now.events.items) (sym found) (stands.within j d (omega (arith, inside, length-set strands k next)))
      ];
    }

-- a list with an event left has room for its next line
pub turn-room : (m : Parts) (line : List ℕ) (strands : List Strand) (text : List ℕ) (k width : ℕ) (d : Strand) → Stands m line strands text → k < length strands
    → (get_or strands k d).taken < length (get_or strands k d).list.now.events.items → length line ≡ width → (get_or strands k d).at + width ≤ length text
turn-room m line strands text k width d stands within some size =
    let f : Strand → List ℕ = part m line in
    let strand : Strand = get_or strands k d in
    let is : strand ≡ get_or strands k strand = get_or_default strands k d strand within in
    let before : List ℕ = flat_map f (take k strands) in
    let last : List ℕ = flat_map f (drop (suc k) strands) in
    let kept : List ℕ = written m strand in
    let whole : text ≡ before ++ ((kept ++ (line ++ later line strand)) ++ last) =
    stands.parts ∙ part-at f strands k strand within is ∙ ap (λ p. before ++ (p ++ last)) (part-left m line strand some) in
    omega (
      arith,
      stands.places k d within,
      size,
      ap length whole,
      length-append before ((kept ++ (line ++ later line strand)) ++ last),
      length-append (kept ++ (line ++ later line strand)) last,
      length-append kept (line ++ later line strand),
      length-append line (later line strand),
    )

-- ---- the first event, and the end

fresh-written : (m : Parts) (line : List ℕ) (strand : Strand) → line ≡ entry_line false (start m) → strand.taken ≡ 0 → written m strand ≡ strand.list.now.heading.items ++ line
unfolding run_from
fresh-written m line strand is fresh =
    let heading : List ℕ = strand.list.now.heading.items in
    let events : List Event = strand.list.now.events.items in
    ap (λ n. heading ++ flat_map (entry_line false) (run_from m (start m) (take n events))) fresh
    ∙ ap (λ l. heading ++ l) (append-nil (entry_line false (start m)) ∙ sym is)

fresh-part : (m : Parts) (line : List ℕ) (strand : Strand) → line ≡ entry_line false (start m) → strand.taken ≡ 0 → part m line strand ≡ begun_text line strand.list.now
fresh-part m line strand is fresh =
    let events : List Event = strand.list.now.events.items in
    ap₂ (λ w n. w ++ flat_map (λ (event : Event). line) (drop n events)) (fresh-written m line strand is fresh) fresh
    ∙ append_assoc strand.list.now.heading.items line (flat_map (λ (event : Event). line) events)

pub begun-none : (m : Parts) (line : List ℕ) → Stands m line [] []
begun-none m line = record { parts = refl; places = λ k d inside. absurd (omega (arith, inside)); within = λ k d inside. absurd (omega (arith, inside)) }

-- one list more, whose lane had no event
pub begun-more : (m : Parts) (line : List ℕ) (strands : List Strand) (text : List ℕ) (strand : Strand) → line ≡ entry_line false (start m) → Stands m line strands text
    → strand.taken ≡ 0 → strand.at ≡ length text + (length strand.list.now.heading.items + length line)
    → Stands m line (strands ++ strand ∷ []) (text ++ begun_text line strand.list.now)
begun-more m line strands text strand is stands fresh at =
    let f : Strand → List ℕ = part m line in
    let more : List Strand = strands ++ strand ∷ [] in
    let heading : List ℕ = strand.list.now.heading.items in
    let start_size : length (written m strand) ≡ length heading + length line = ap length (fresh-written m line strand is fresh) ∙ length-append heading line in
    record {
      parts = ap₂ (λ a b. a ++ b) stands.parts (sym (fresh-part m line strand is fresh) ∙ sym (append-nil (f strand))) ∙ sym (flat_map-append f strands (strand ∷ []));
      places = λ k d inside. elim (cases_lt k (length strands)) [
        | inl below ↦
            let found : get_or more k d ≡ get_or strands k d = get_or_append_left strands (strand ∷ []) d k below in
            let before : take k more ≡ take k strands = take-append-le k strands (strand ∷ []) (omega (arith, below)) in
            ap (λ s. s.at) found ∙ stands.places k d below ∙ ap₂ (λ xs s. length (flat_map f xs) + length (written m s)) (sym before) (sym found)
        | inr past ↦
            let here : length strands ≡ k = omega (arith, past, inside, length_push strands strand) in
            let found : get_or more k d ≡ strand = get_or_push strands strand d k here in
            let before : take k more ≡ strands = take_at strands (strand ∷ []) k here in
            ap (λ s. s.at) found ∙ at ∙ ap₂ (λ a b. a + b) (ap length stands.parts) (sym start_size)
            ∙ ap₂ (λ xs s. length (flat_map f xs) + length (written m s)) (sym before) (sym found)
      ];
      within = λ k d inside. elim (cases_lt k (length strands)) [
        | inl below ↦ subst (λ s. s.taken ≤ length s.list.now.events.items) (sym (get_or_append_left strands (strand ∷ []) d k below)) (stands.within k d below)
        | inr past ↦
            let here : length strands ≡ k = omega (arith, past, inside, length_push strands strand) in
            subst (λ s. s.taken ≤ length s.list.now.events.items) (sym (get_or_push strands strand d k here)) (omega (arith, fresh))
      ];
    }

at-end : (m : Parts) (line : List ℕ) (strand : Strand) → strand.taken ≤ length strand.list.now.events.items → left_of strand ≡ 0 → part m line strand ≡ list_text m strand.list.now
unfolding run_text module_run
at-end m line strand within none =
    let heading : List ℕ = strand.list.now.heading.items in
    let events : List Event = strand.list.now.events.items in
    let past : length events ≤ strand.taken = omega (arith, none) in
    ap₂ (λ had rest. (heading ++ flat_map (entry_line false) (run_from m (start m) had)) ++ flat_map (λ (event : Event). line) rest) (take_all strand.taken events past) (drop_all strand.taken events past)
    ∙ append-nil (heading ++ flat_map (entry_line false) (run_from m (start m) events))

-- each list is at its end
pub ended : (m : Parts) (line : List ℕ) (strands : List Strand) (text : List ℕ) → Stands m line strands text
    → ((k : ℕ) (d : Strand) → k < length strands → left_of (get_or strands k d) ≡ 0)
    → text ≡ flat_map (list_text m) (map (λ strand. strand.list.now) strands)
ended m line strands text stands all =
    stands.parts
    ∙ same-parts (part m line) (λ (strand : Strand). list_text m strand.list.now) strands (λ k d inside. at-end m line (get_or strands k d) (stands.within k d inside) (all k d inside))
    ∙ parts-of (list_text m) (λ (strand : Strand). strand.list.now) strands
