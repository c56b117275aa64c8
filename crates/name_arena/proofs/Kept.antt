-- Names stay when more is written.
use Rattle.std.proofs.Common.{◌≡◌, ℕ, ◌-◌, ◌^◌, ◌<◌, ◌≤◌, List, [], ◌∷◌, ◌++◌, length, map, Bool, true, if◌then◌else◌, refl, sym, ap, subst, ◌∙◌, inl, inr, arith, length-append}
use Rattle.std.proofs.lemmas.List.{get_or_append_left, get_or_past, map-append}
use Rattle.std.proofs.lemmas.List.Elements.{All-head, All-tail, All-push}
use Rattle.std.proofs.lemmas.Bool.{cases_lt}
use Rattle.std.specs.Prelude.{All}
use Rattle.name_arena.specs.Names.{name_within, chunk_at, name_at, IsWithin, IsSpanOf, Keeps}
use Rattle.name_arena.specs.declared.chunks.Span.{Span}

-- one more chunk keeps the names
pub begun_keeps : (chunks : List (List ℕ)) (chunk : List ℕ) → length chunks < 2 ^ 32 - 1 → Keeps chunks (chunks ++ chunk ∷ [])
begun_keeps chunks chunk few span is =
    let longer = length-append chunks (chunk ∷ []) in
    elim (cases_lt span.chunk (length chunks)) [
      | inl there ↦
          let same : chunk_at (chunks ++ chunk ∷ []) span.chunk ≡ chunk_at chunks span.chunk = get_or_append_left chunks (chunk ∷ []) [] span.chunk there in
          let ends : IsSpanOf (chunks ++ chunk ∷ []) span = record {
            within = λ inside. subst (λ bytes. IsWithin bytes span) (sym same) (is.within there);
            outside = λ over. absurd (omega (arith, over, longer, there));
          } in
          (ends, ap (λ bytes. name_within bytes span) same)
      | inr none ↦
          let number : span.chunk ≡ 2 ^ 32 - 1 = is.outside none in
          let past : length (chunks ++ chunk ∷ []) ≤ span.chunk = omega (arith, longer, number) in
          let same : chunk_at (chunks ++ chunk ∷ []) span.chunk ≡ chunk_at chunks span.chunk = get_or_past (chunks ++ chunk ∷ []) span.chunk [] past ∙ sym (get_or_past chunks span.chunk [] none) in
          let ends : IsSpanOf (chunks ++ chunk ∷ []) span = record {
            within = λ inside. absurd (omega (arith, inside, past));
            outside = λ over. number;
          } in
          (ends, ap (λ bytes. name_within bytes span) same)
    ]

-- the empty name, which is in no chunk
pub none_kept : (chunks : List (List ℕ)) (name : List ℕ) → length chunks ≤ 2 ^ 32 - 1 → length name ≡ 0
    → IsSpanOf chunks (record { chunk = 4294967295; start = 0; last = 0 }) × (name_at chunks (record { chunk = 4294967295; start = 0; last = 0 }) ≡ name)
none_kept chunks [] few none =
    let span : Span = record { chunk = 4294967295; start = 0; last = 0 } in
    let ends : IsSpanOf chunks span = record {
      within = λ inside. absurd (omega (arith, inside));
      outside = λ over. refl;
    } in
    (ends, ap (λ bytes. name_within bytes span) (get_or_past chunks 4294967295 [] (omega arith)))
none_kept chunks (byte ∷ name) few none = absurd (omega (arith, none))

-- all names stay
pub names_kept : (old new : List (List ℕ)) (spans : List Span) → Keeps old new → All (λ span. IsSpanOf old span) spans → map (λ span. name_at new span) spans ≡ map (λ span. name_at old span) spans
names_kept old new [] keeps all = refl
names_kept old new (span ∷ spans) keeps all =
    let P : Span → Type 0 = λ s. IsSpanOf old s in
    let here : name_at new span ≡ name_at old span = (keeps span (All-head P span spans all)).1 in
    let rest = names_kept old new spans keeps (All-tail P span spans all) in
    ap (λ name. name ∷ map (λ s. name_at new s) spans) here ∙ ap (λ names. name_at old span ∷ names) rest

-- and one more is last
pub names_pushed : (old new : List (List ℕ)) (spans : List Span) (span : Span) (name : List ℕ) → Keeps old new → All (λ s. IsSpanOf old s) spans → name_at new span ≡ name
    → map (λ s. name_at new s) (spans ++ span ∷ []) ≡ map (λ s. name_at old s) spans ++ name ∷ []
names_pushed old new spans span name keeps all is =
    let f : Span → List ℕ = λ s. name_at new s in
    map-append f spans (span ∷ []) ∙ ap (λ names. names ++ f span ∷ []) (names_kept old new spans keeps all) ∙ ap (λ x. map (λ s. name_at old s) spans ++ x ∷ []) is

-- the spans are spans of the new chunks, and so is one more
pub spans_pushed : (old new : List (List ℕ)) (spans : List Span) (span : Span) → Keeps old new → All (λ s. IsSpanOf old s) spans → IsSpanOf new span → All (λ s. IsSpanOf new s) (spans ++ span ∷ [])
spans_pushed old new spans span keeps all is = All-push (λ s. IsSpanOf new s) spans span (λ k d inside. (keeps _ (all k d inside)).0) is

-- what is pushed if there is room
pub pushed : {X : Type 0} (fits : Bool) (old new longer : List X) → fits ≡ true → new ≡ (if fits then longer else old) → new ≡ longer
pushed fits old new longer is e = e ∙ ap (λ b. if b then longer else old) is
