-- Sets of lines, and looking lines up in them.
use Rattle.std.proofs.Common.{◌≡◌, ℕ, ◌+◌, ◌<◌, Bool, true, false, ◌||◌, List, [], ◌∷◌, ◌++◌, map, length, take, get_or, refl, sym, ap, ◌∙◌, subst, inl, inr}
use Rattle.std.specs.Prelude.{bytes_eq, if◌then◌else◌}
use Rattle.std.specs.List.{list_any}
use Rattle.std.proofs.Math.Bool.{or-false}
use Rattle.std.proofs.lemmas.Bool.{cases_Bool}
use Rattle.std.proofs.lemmas.List.{map-append, take_more}
use Rattle.shared_lemmas.proofs.Bytes.{bytes_eq-turned, same_bytes}
use Rattle.shared_lemmas.proofs.Searches.{list_any-push}
use Rattle.image_diff.specs.Differences.{is_among}

-- a line that is looked up among keys
pub among-keys : {K : Type 0} (bytes : K → List ℕ) (line : List ℕ) (keys : List K) → list_any (λ key. bytes_eq line (bytes key)) keys ≡ is_among (map bytes keys) line
among-keys bytes line [] = refl
among-keys bytes line (key ∷ keys) =
    ap (λ b. b || list_any (λ other. bytes_eq line (bytes other)) keys) (bytes_eq-turned line (bytes key))
    ∙ ap (λ b. bytes_eq (bytes key) line || b) (among-keys bytes line keys)

map-if : {A B : Type 0} (f : A → B) (b : Bool) (xs ys : List A) → map f (if b then xs else ys) ≡ (if b then map f xs else map f ys)
map-if f true xs ys = refl
map-if f false xs ys = refl

-- a line that is there already adds none
among-again : (lines : List (List ℕ)) (line other : List ℕ) → is_among lines line ≡ true → is_among lines other ≡ (is_among lines other || bytes_eq line other)
among-again lines line other there =
    elim (cases_Bool (bytes_eq line other)) [
      | inl same ↦ let found : is_among lines other ≡ true = subst (λ (one : List ℕ). is_among lines one ≡ true) (same_bytes line other same) there in found ∙ sym (ap (λ b. b || bytes_eq line other) found)
      | inr differs ↦ sym (ap (λ b. is_among lines other || b) differs ∙ or-false (is_among lines other))
    ]

among-more : (lines : List (List ℕ)) (line other : List ℕ) → is_among (if is_among lines line then lines else lines ++ line ∷ []) other ≡ (is_among lines other || bytes_eq line other)
among-more lines line other =
    elim (cases_Bool (is_among lines line)) [
      | inl there ↦ ap (λ (b : Bool). is_among (if b then lines else lines ++ line ∷ []) other) there ∙ among-again lines line other there
      | inr away ↦ ap (λ (b : Bool). is_among (if b then lines else lines ++ line ∷ []) other) away ∙ list_any-push (λ one. bytes_eq one other) lines line
    ]

-- keys with a new one, if none is equal to it
pub keys-more : {K : Type 0} (bytes : K → List ℕ) (keys after : List K) (key : K) (lines : List (List ℕ))
    → after ≡ (if list_any (λ other. bytes_eq (bytes key) (bytes other)) keys then keys else keys ++ key ∷ []) → map bytes keys ≡ lines
    → (other : List ℕ) → is_among (map bytes after) other ≡ (is_among lines other || bytes_eq (bytes key) other)
keys-more bytes keys after key lines is are other =
    let test = list_any (λ one. bytes_eq (bytes key) (bytes one)) keys in
    let mapped : map bytes after ≡ (if is_among lines (bytes key) then lines else lines ++ bytes key ∷ [])
    = ap (map bytes) is ∙ map-if bytes test keys (keys ++ key ∷ [])
    ∙ ap (λ (list : List (List ℕ)). if test then map bytes keys else list) (map-append bytes keys (key ∷ []))
    ∙ ap (λ (b : Bool). if b then map bytes keys else map bytes keys ++ bytes key ∷ []) (among-keys bytes (bytes key) keys)
    ∙ ap (λ (list : List (List ℕ)). if is_among list (bytes key) then list else list ++ bytes key ∷ []) are in
    ap (λ list. is_among list other) mapped ∙ among-more lines (bytes key) other

-- the lines of a list, one by one
pub among-next : (lines : List (List ℕ)) (n : ℕ) (line other : List ℕ) → n < length lines → line ≡ get_or lines n []
    → (is_among (take n lines) other || bytes_eq line other) ≡ is_among (take (n + 1) lines) other
among-next lines n line other within is =
    ap (λ one. is_among (take n lines) other || bytes_eq one other) is
    ∙ sym (list_any-push (λ one. bytes_eq one other) (take n lines) (get_or lines n []))
    ∙ ap (λ list. is_among list other) (sym (take_more lines n [] within))
