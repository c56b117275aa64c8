-- Texts that are written part by part.
use Rattle.std.proofs.Common.{◌≡◌, ℕ, ◌+◌, ◌<◌, ◌==◌, Bool, true, false, not, ◌&&◌, List, [], ◌∷◌, ◌++◌, length, map, filter, take, cond, get_or, refl, sym, ap, ◌∙◌, arith, append_assoc}
use Rattle.std.specs.Prelude.{codes, if◌then◌else◌}
use Rattle.std.specs.declared.vec.Vec.{Vec}
use Rattle.std.proofs.lemmas.Bool.{and_parts, eqb-true, true≢false}
use Rattle.std.proofs.lemmas.List.{get_or-map, length-map, map-append}
use Rattle.std.proofs.lemmas.List.Elements.{filter_more}
use Rattle.text_lines.specs.Written.{text_of}
use Rattle.plane_map.specs.declared.tile.Place.{Place}
use Rattle.asc_text.proofs.Pieces.{lines-joined, text_of-one}
use Rattle.chipdb_lines.specs.Items.{ExtraLine}
use Rattle.image_explain.specs.Explained.{extra_text}
use Rattle.image_explain.specs.Inside.{lists_of}
use Rattle.image_diff.specs.Differences.{extra_changes, is_among, lines_without, minus, plus}

-- an item of a list of vectors is a line of their contents
pub item-line : {Z : Type 0} (lines : List (Vec ℕ Z)) (n : ℕ) (item : Vec ℕ Z) → n < length lines → item ≡ get_or lines n item → item.items ≡ get_or (lists_of lines) n []
item-line {Z = Z} lines n item within is =
    ap (λ (line : Vec ℕ Z). line.items) is ∙ sym (get_or-map (λ (line : Vec ℕ Z). line.items) lines n item [] within)

pub length-lists : {Z : Type 0} (lines : List (Vec ℕ Z)) → length (lists_of lines) ≡ length lines
length-lists {Z = Z} lines = length-map lines (λ (line : Vec ℕ Z). line.items)

-- a line that is told unless it is among others
told-unless : (among : Bool) (sign : ℕ) (line : List ℕ) → map (◌∷◌ sign) (cond (not among) (line ∷ []) []) ≡ (if among then [] else (sign ∷ line) ∷ [])
told-unless true sign line = refl
told-unless false sign line = refl

-- one line more of those that aren't among others
pub without-more : (old now after : List ℕ) (sign : ℕ) (others lines : List (List ℕ)) (line : List ℕ) (n : ℕ) → n < length lines → line ≡ get_or lines n [] → now ≡ old ++ text_of (map (◌∷◌ sign) (lines_without others (take n lines)))
    → after ≡ now ++ text_of (if is_among others line then [] else (sign ∷ line) ∷ []) → after ≡ old ++ text_of (map (◌∷◌ sign) (lines_without others (take (n + 1) lines)))
unfolding lines_without
without-more old now after sign others lines line n within line_is so_far next =
    let test : List ℕ → Bool = λ line. not (is_among others line) in
    let marked : List ℕ → List ℕ = ◌∷◌ sign in
    let here : cond (test (get_or lines n [])) (get_or lines n [] ∷ []) [] ≡ cond (test line) (line ∷ []) [] = ap (λ line. cond (test line) (line ∷ []) []) (sym line_is) in
    let more : map marked (filter test (take n lines)) ++ (if is_among others line then [] else (sign ∷ line) ∷ []) ≡ map marked (filter test (take (n + 1) lines)) =
    ap (λ lines_here. map marked (filter test (take n lines)) ++ lines_here) (sym (told-unless (is_among others line) sign line) ∙ ap (map marked) (sym here))
    ∙ sym (ap (map marked) (filter_more test lines n [] within) ∙ map-append marked (filter test (take n lines)) (cond (test (get_or lines n [])) (get_or lines n [] ∷ []) [])) in
    lines-joined old now after (map marked (filter test (take n lines))) (if is_among others line then [] else (sign ∷ line) ∷ []) so_far next
    ∙ ap (λ lines. old ++ text_of lines) more

-- nothing is told if there are no places
pub none-changed : (extras : List ExtraLine) (first second : List Place) → ((length first == 0) && (length second == 0)) ≡ true → extra_changes extras first second ≡ []
none-changed extras [] [] none = refl
none-changed extras [] (at ∷ second) none = absurd (omega (arith, eqb-true (length (at ∷ second)) 0 none))
none-changed extras (at ∷ first) second none = absurd (omega (arith, eqb-true (length (at ∷ first)) 0 (and_parts (length (at ∷ first) == 0) (length second == 0) none).0))

-- and they are told under their statement if there are some
pub some-changed : (extras : List ExtraLine) (first second : List Place) → ((length first == 0) && (length second == 0)) ≡ false
    → extra_changes extras first second ≡ codes ".extra_bits" ∷ map minus (map (extra_text extras) first) ++ map plus (map (extra_text extras) second)
some-changed extras [] [] some = absurd (true≢false some)
some-changed extras [] (at ∷ second) some = refl
some-changed extras (at ∷ first) second some = refl

parts-joined : (old grid word space number colon minus_sign first plus_sign second end : List ℕ)
    → ((((((((old ++ grid) ++ word) ++ (space ++ number)) ++ (colon ++ (space ++ minus_sign))) ++ first) ++ (space ++ plus_sign)) ++ second) ++ end)
    ≡ old ++ (((((grid ++ word) ++ (space ++ (number ++ colon))) ++ (space ++ (minus_sign ++ first))) ++ (space ++ (plus_sign ++ second))) ++ end)
parts-joined old grid word space number colon minus_sign first plus_sign second end = simp append_assoc

-- the parts of the line of a word
pub word-written : (old one two three four five six seven after grid number first second : List ℕ) → one ≡ old ++ grid → two ≡ one ++ codes " word" → three ≡ two ++ 32 ∷ number → four ≡ three ++ codes ": -" → five ≡ four ++ first
    → six ≡ five ++ codes " +" → seven ≡ six ++ second → after ≡ seven ++ 10 ∷ []
    → after ≡ old ++ text_of (((((grid ++ 32 ∷ codes "word") ++ 32 ∷ (number ++ codes ":")) ++ 32 ∷ minus first) ++ 32 ∷ plus second) ∷ [])
word-written old one two three four five six seven after grid number first second e1 e2 e3 e4 e5 e6 e7 e8 =
    let all : after ≡ (((((((old ++ grid) ++ codes " word") ++ 32 ∷ number) ++ codes ": -") ++ first) ++ codes " +") ++ second) ++ 10 ∷ [] = cc in
    all ∙ parts-joined old grid (codes " word") (32 ∷ []) number (codes ":") (45 ∷ []) first (43 ∷ []) second (10 ∷ [])
    ∙ ap (λ text. old ++ text) (sym (text_of-one ((((grid ++ 32 ∷ codes "word") ++ 32 ∷ (number ++ codes ":")) ++ 32 ∷ minus first) ++ 32 ∷ plus second)))
