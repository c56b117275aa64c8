-- A part placed in a whole.
use Rattle.std.proofs.Common.{◌≡◌, ℕ, ◌+◌, ◌-◌, ◌<◌, ◌≤◌, List, [], ◌++◌, length, get_or, take, drop, refl, sym, ap, ◌∙◌, append_assoc, append-nil, arith, length-append, length-take-le, length-drop, take_at, drop_at, drop-drop, take-take, take-append-drop, get_or-take, get_or-drop, get_or-append-add}
use Rattle.std.proofs.Math.Seq.{drop-append-add, take-append-add}
use Rattle.std.proofs.lemmas.List.{drop-take, take-append-le, drop-append-le, get_or_append_left}
use Rattle.bit_plane.specs.BitList.{placed}

-- no part changes nothing
pub placed-nil : {A : Type 0} (at : ℕ) (whole : List A) → placed at [] whole ≡ whole
placed-nil at whole =
    let e : at + 0 ≡ at = omega arith in rw (e, append-nil (take at whole)) (take-append-drop at whole)

-- the length stays
pub length-placed : {A : Type 0} (at : ℕ) (part whole : List A) → at + length part ≤ length whole → length (placed at part whole) ≡ length whole
length-placed at part whole within =
    let front : length (take at whole) ≡ at = length-take-le at whole (omega arith) in
    omega (arith, front, length-append (take at whole ++ part) (drop (at + length part) whole), length-append (take at whole) part, length-drop (at + length part) whole)

-- a part and the next one after it are one part
pub placed-more : {A : Type 0} (at n : ℕ) (front more whole : List A) → n ≡ at + length front → n + length more ≤ length whole → placed n more (placed at front whole) ≡ placed at (front ++ more) whole
placed-more {A} at n front more whole place within =
    let before : List A = take at whole ++ front in
    let before_long : length before ≡ n = omega (arith, length-append (take at whole) front, length-take-le at whole (omega arith)) in
    let e : at + length front ≡ n = sym place in
    let past : at + length (front ++ more) ≡ n + length more = omega (arith, length-append front more) in
    let head : take n (before ++ drop n whole) ≡ before = take_at before (drop n whole) n before_long in
    let tail : drop (n + length more) (before ++ drop n whole) ≡ drop (n + length more) whole = ap (λ k. drop (k + length more) (before ++ drop n whole)) (sym before_long) ∙ drop-append-add before (drop n whole) (length more) ∙ drop-drop (length more) n whole in
    rw (e, past, head, tail) (ap (λ xs. xs ++ drop (n + length more) whole) (append_assoc (take at whole) front more))

-- a cut after the part
pub take-placed : {A : Type 0} (at n : ℕ) (part whole : List A) → at + length part ≤ n → n ≤ length whole → take n (placed at part whole) ≡ placed at part (take n whole)
take-placed {A} at n part whole within long =
    let past : ℕ = at + length part in
    let front : List A = take at whole ++ part in
    let front_long : length front ≡ past = omega (arith, length-append (take at whole) part, length-take-le at whole (omega arith)) in
    let parts : n ≡ length front + (n - past) = omega arith in
    let e : past + (n - past) ≡ n = omega arith in
    let tail : take (n - past) (drop past whole) ≡ drop past (take n whole) = sym (drop-take past (n - past) whole) ∙ ap (λ n. drop past (take n whole)) e in
    ap (λ n. take n (front ++ drop past whole)) parts ∙ take-append-add front (drop past whole) (n - past) ∙ ap (λ rest. front ++ rest) tail ∙ ap (λ before. before ++ part ++ drop past (take n whole)) (sym (take-take at n whole (omega arith)))

-- what is after the part stays
pub drop-placed : {A : Type 0} (at n : ℕ) (part whole : List A) → at + length part ≤ n → n ≤ length whole → drop n (placed at part whole) ≡ drop n whole
drop-placed {A} at n part whole within long =
    let past : ℕ = at + length part in
    let front : List A = take at whole ++ part in
    let front_long : length front ≡ past = omega (arith, length-append (take at whole) part, length-take-le at whole (omega arith)) in
    let parts : n ≡ length front + (n - past) = omega arith in
    let e : past + (n - past) ≡ n = omega arith in
    ap (λ n. drop n (front ++ drop past whole)) parts ∙ drop-append-add front (drop past whole) (n - past) ∙ drop-drop (n - past) past whole ∙ ap (λ n. drop n whole) e

-- what is before the part stays
pub take-placed_before : {A : Type 0} (at n : ℕ) (part whole : List A) → n ≤ at → at ≤ length whole → take n (placed at part whole) ≡ take n whole
take-placed_before at n part whole before long =
    let front_long : length (take at whole) ≡ at = length-take-le at whole long in
    ap (take n) (append_assoc (take at whole) part (drop (at + length part) whole)) ∙ take-append-le n (take at whole) (part ++ drop (at + length part) whole) (omega arith) ∙ take-take n at whole before

-- a cut before the part
pub drop-placed_before : {A : Type 0} (n at : ℕ) (part whole : List A) → n + at ≤ length whole → drop n (placed (n + at) part whole) ≡ placed at part (drop n whole)
drop-placed_before n at part whole long =
    let front_long : length (take (n + at) whole) ≡ n + at = length-take-le (n + at) whole long in
    let back = drop (n + at + length part) whole in
    let e : n + (at + length part) ≡ n + at + length part = omega arith in
    ap (drop n) (append_assoc (take (n + at) whole) part back) ∙ drop-append-le n (take (n + at) whole) (part ++ back) (omega arith) ∙ ap (λ front. front ++ (part ++ back)) (drop-take n at whole) ∙ sym (append_assoc (take at (drop n whole)) part back) ∙ ap (λ rest. take at (drop n whole) ++ part ++ rest) (sym (drop-drop (at + length part) n whole ∙ ap (λ n. drop n whole) e))

-- an item of the part
pub get_or-placed : {A : Type 0} (at i : ℕ) (part whole : List A) (d : A) → i < length part → at ≤ length whole → get_or (placed at part whole) (at + i) d ≡ get_or part i d
get_or-placed {A} at i part whole d within long =
    let front : length (take at whole) ≡ at = length-take-le at whole long in
    let back : List A = drop (at + length part) whole in
    ap (λ xs. get_or xs (at + i) d) (append_assoc (take at whole) part back) ∙ ap (λ n. get_or (take at whole ++ (part ++ back)) (n + i) d) (sym front) ∙ get_or-append-add (take at whole) (part ++ back) i d ∙ get_or_append_left part back d i within

-- an item before the part
pub get_or-placed_before : {A : Type 0} (at i : ℕ) (part whole : List A) (d : A) → i < at → at ≤ length whole → get_or (placed at part whole) i d ≡ get_or whole i d
get_or-placed_before {A} at i part whole d before long =
    let front : length (take at whole) ≡ at = length-take-le at whole long in
    let back : List A = drop (at + length part) whole in
    ap (λ xs. get_or xs i d) (append_assoc (take at whole) part back) ∙ get_or_append_left (take at whole) (part ++ back) d i (omega arith) ∙ get_or-take at whole i d before

-- an item after the part
pub get_or-placed_after : {A : Type 0} (at i : ℕ) (part whole : List A) (d : A) → at + length part ≤ i → at ≤ length whole → get_or (placed at part whole) i d ≡ get_or whole i d
get_or-placed_after {A} at i part whole d after long =
    let past : ℕ = at + length part in
    let before : List A = take at whole ++ part in
    let before_long : length before ≡ past = omega (arith, length-append (take at whole) part, length-take-le at whole long) in
    let parts : i ≡ length before + (i - past) = omega arith in
    let e : past + (i - past) ≡ i = omega arith in
    ap (λ n. get_or (before ++ drop past whole) n d) parts ∙ get_or-append-add before (drop past whole) (i - past) d ∙ get_or-drop past whole (i - past) d ∙ ap (λ n. get_or whole n d) e

-- the part, read again
pub part-placed : {A : Type 0} (at : ℕ) (part whole : List A) → at ≤ length whole → take (length part) (drop at (placed at part whole)) ≡ part
part-placed {A} at part whole long =
    let front : length (take at whole) ≡ at = length-take-le at whole long in
    let back : List A = drop (at + length part) whole in
    ap (λ xs. take (length part) (drop at xs)) (append_assoc (take at whole) part back) ∙ ap (take (length part)) (drop_at (take at whole) (part ++ back) at front) ∙ take_at part back (length part) refl
