-- Lists with their places, lists over tiles, and lists of parts of one length.
use Rattle.std.proofs.Common.{◌≡◌, ℕ, zero, suc, ◌+◌, ◌*◌, ◌<◌, Bool, true, false, List, [], ◌∷◌, ◌++◌, length, map, get_or, refl, sym, ap, subst, ◌∙◌, arith}
use Rattle.std.specs.Prelude.{All, Some, flat_map, slice_get, if◌then◌else◌}
use Rattle.std.proofs.lemmas.List.{get_or-append-add}
use Rattle.fabric_model.specs.Fabric.{numbered_from, numbered}
use Rattle.std.proofs.lemmas.List.Elements.{All-nil, All-cons}
use Rattle.std.proofs.Common.{append_assoc, zero-mul, suc-mul, length-append}
use Rattle.std.proofs.Math.ListN.{get_or-append}
use Rattle.shared_lemmas.proofs.Pushes.{slice_get-after}

-- ---- lists over places

pub map-if : {A B : Type 0} (passes : Bool) (change : A → B) (list : List A) → map change (if passes then list else []) ≡ (if passes then map change list else [])
map-if true change list = refl
map-if false change list = refl

-- ---- lists with their places

count-one : {A : Type 0} (before : List A) (item : A) → length (before ++ item ∷ []) ≡ suc (length before)
count-one [] item = refl
count-one (head ∷ before) item = ap suc (count-one before item)

-- an item stands at its place of a list
abbrev pub StandsIn : {A : Type 0} → List A → ℕ × A → Type 0
StandsIn list pair = slice_get list pair.0 ≡ Some pair.1

-- each item of a list with its place stands there
numbered-there : {A : Type 0} (list before items : List A) → list ≡ before ++ items → All (StandsIn list) (numbered_from (length before) items)
unfolding numbered_from
numbered-there list before [] is = All-nil (StandsIn list)
numbered-there list before (item ∷ items) is =
    All-cons (StandsIn list) (length before, item) (numbered_from (suc (length before)) items)
    (ap (λ whole. slice_get whole (length before)) is ∙ slice_get-after before item items)
    (subst (λ n. All (StandsIn list) (numbered_from n items)) (count-one before item)
    (numbered-there list (before ++ item ∷ []) items (is ∙ sym (append_assoc before (item ∷ []) items))))

pub numbered-stand : {A : Type 0} (list : List A) → All (StandsIn list) (numbered list)
numbered-stand list = numbered-there list [] list refl

-- ---- lists of parts of one length

-- an item of parts of one length, by the number of the part and the place in it
pub item-of_part : {X A B : Type 0} (size : ℕ) (part : X → List A) (other : X → List B) (value : B → A) (xs : List X) (r w : ℕ) (a : A) (b : B)
    → ((x : X) → length (part x) ≡ size) → ((x : X) → get_or (part x) w a ≡ value (get_or (other x) w b))
    → r < length xs → w < size → get_or (flat_map part xs) (r * size + w) a ≡ value (get_or (get_or (map other xs) r []) w b)
item-of_part size part other value [] r w a b sized same inside below = absurd (omega arith)
item-of_part size part other value (x ∷ xs) zero w a b sized same inside below =
    let within : w < length (part x) = subst (λ n. w < n) (sym (sized x)) below in
    let place : 0 * size + w ≡ w = omega (arith, zero-mul size) in
    ap (λ n. get_or (part x ++ flat_map part xs) n a) place ∙ (get_or-append (part x) (flat_map part xs) a w within ∙ same x)
item-of_part size part other value (x ∷ xs) (suc r) w a b sized same inside below =
    let place : suc r * size + w ≡ length (part x) + (r * size + w) = omega (arith, suc-mul r size, sized x) in
    ap (λ n. get_or (part x ++ flat_map part xs) n a) place
    ∙ (get_or-append-add (part x) (flat_map part xs) (r * size + w) a
    ∙ item-of_part size part other value xs r w a b sized same (omega arith) below)

pub count-of_parts : {X A : Type 0} (size : ℕ) (part : X → List A) (xs : List X) → ((x : X) → length (part x) ≡ size) → length (flat_map part xs) ≡ length xs * size
count-of_parts size part [] sized = sym (zero-mul size)
count-of_parts size part (x ∷ xs) sized =
    length-append (part x) (flat_map part xs) ∙ omega (arith, suc-mul (length xs) size, sized x, count-of_parts size part xs sized)
