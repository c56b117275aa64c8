-- Names as keys.
use Rattle.std.proofs.Common.{◌≡◌, ℕ, Bool, true, false, ◌||◌, List, [], ◌∷◌, ◌++◌, map, refl, ap, ◌∙◌}
use Rattle.std.proofs.lemmas.List.{map-append}
use Rattle.std.specs.Prelude.{bytes_eq, if◌then◌else◌}
use Rattle.std.specs.List.{list_any}
use Rattle.shared_lemmas.proofs.Bytes.{bytes_eq-turned}
use Rattle.name_set.specs.Sets.{has_name, with_name}

-- whether a name is among the names of keys
pub any-keys : {K : Type 0} (bytes : K → List ℕ) (name : List ℕ) (keys : List K) → list_any (λ key. bytes_eq name (bytes key)) keys ≡ has_name (map bytes keys) name
any-keys bytes name [] = refl
any-keys bytes name (key ∷ keys) =
    ap (λ b. b || list_any (λ other. bytes_eq name (bytes other)) keys) (bytes_eq-turned name (bytes key))
    ∙ ap (λ b. bytes_eq (bytes key) name || b) (any-keys bytes name keys)

pub if_map : {A B : Type 0} (f : A → B) (b : Bool) (xs ys : List A) → map f (if b then xs else ys) ≡ (if b then map f xs else map f ys)
if_map f true xs ys = refl
if_map f false xs ys = refl

-- keys with a new one, if none is equal to it
pub names-with : {K : Type 0} (bytes : K → List ℕ) (keys after : List K) (key : K) (names : List (List ℕ)) (name : List ℕ)
    → after ≡ (if list_any (λ other. bytes_eq (bytes key) (bytes other)) keys then keys else keys ++ key ∷ [])
    → map bytes keys ≡ names → bytes key ≡ name → map bytes after ≡ with_name names name
names-with bytes keys after key names name is are named =
    let same : list_any (λ other. bytes_eq (bytes key) (bytes other)) keys ≡ has_name names name
    = any-keys bytes (bytes key) keys ∙ ap (has_name (map bytes keys)) named ∙ ap (λ list. has_name list name) are in
    let grown : map bytes (keys ++ key ∷ []) ≡ names ++ name ∷ []
    = map-append bytes keys (key ∷ []) ∙ ap (λ list. list ++ bytes key ∷ []) are ∙ ap (λ n. names ++ n ∷ []) named in
    ap (map bytes) is ∙ if_map bytes (list_any (λ other. bytes_eq (bytes key) (bytes other)) keys) keys (keys ++ key ∷ [])
    ∙ ap (λ b. if b then map bytes keys else map bytes (keys ++ key ∷ [])) same
    ∙ ap (λ list. if has_name names name then list else map bytes (keys ++ key ∷ [])) are
    ∙ ap (λ list. if has_name names name then names else list) grown
