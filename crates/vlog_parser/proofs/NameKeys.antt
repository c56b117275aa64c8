-- Names and words of memories as keys.
use Rattle.std.proofs.Common.{◌≡◌, ℕ, Bool, true, false, ◌&&◌, ◌||◌, ◌==◌, cond, List, [], ◌∷◌, ◌++◌, map, refl, ap, ◌∙◌}
use Rattle.std.proofs.lemmas.Cmp.{nat_eq_equiv}
use Rattle.std.proofs.lemmas.List.{map-append}
use Rattle.std.specs.Prelude.{Option, Some, None, bytes_eq, if◌then◌else◌}
use Rattle.std.specs.List.{list_any}
use Rattle.shared_lemmas.proofs.Bytes.{bytes_eq-turned}
use Rattle.vlog_module.specs.Maps.{value_in}
use Rattle.name_set.proofs.Keys.{if_map}
use Rattle.vlog_parser.specs.Kept.{has_word, with_word}

-- whether a word of a memory is among others
pub any-words : {K : Type 0} (word : K → List ℕ × ℕ) (test : K → Bool) (memory : List ℕ) (place : ℕ) (keys : List K)
    → ((key : K) → test key ≡ (bytes_eq (word key).0 memory && ((word key).1 == place))) → list_any test keys ≡ has_word (map word keys) memory place
any-words word test memory place [] same = refl
any-words word test memory place (key ∷ keys) same =
    ap (λ b. b || list_any test keys) (same key)
    ∙ ap (λ b. (bytes_eq (word key).0 memory && ((word key).1 == place)) || b) (any-words word test memory place keys same)

pub words-with : {K : Type 0} (word : K → List ℕ × ℕ) (test : K → Bool) (keys after : List K) (key : K) (words : List (List ℕ × ℕ)) (memory : List ℕ) (place : ℕ)
    → after ≡ (if list_any test keys then keys else keys ++ key ∷ [])
    → map word keys ≡ words → word key ≡ (memory, place) → ((other : K) → test other ≡ (bytes_eq (word other).0 memory && ((word other).1 == place)))
    → map word after ≡ with_word words memory place
words-with word test keys after key words memory place is are named tests =
    let same : list_any test keys ≡ has_word words memory place = any-words word test memory place keys tests ∙ ap (λ list. has_word list memory place) are in
    let grown : map word (keys ++ key ∷ []) ≡ words ++ (memory, place) ∷ []
    = map-append word keys (key ∷ []) ∙ ap (λ list. list ++ word key ∷ []) are ∙ ap (λ w. words ++ w ∷ []) named in
    ap (map word) is ∙ if_map word (list_any test keys) keys (keys ++ key ∷ [])
    ∙ ap (λ b. if b then map word keys else map word (keys ++ key ∷ [])) same
    ∙ ap (λ list. if has_word words memory place then list else map word (keys ++ key ∷ [])) are
    ∙ ap (λ list. if has_word words memory place then words else list) grown

-- the value of a name in a map
abbrev pub entry_in : {K X : Type 0} → (K → List ℕ) → K × X → List ℕ × X
entry_in bytes entry = (bytes entry.0, entry.1)

abbrev pub looked_up : {K X : Type 0} → (K → Bool) → List (K × X) → Option X
looked_up test [] = None
looked_up test (entry ∷ entries) = cond (test entry.0) (Some entry.1) (looked_up test entries)

pub value-keys : {K X : Type 0} (bytes : K → List ℕ) (name : List ℕ) (entries : List (K × X))
    → looked_up (λ key. bytes_eq name (bytes key)) entries ≡ value_in (map (entry_in bytes) entries) name
value-keys bytes name [] = refl
value-keys bytes name (entry ∷ entries) =
    ap (λ b. cond b (Some entry.1) (looked_up (λ key. bytes_eq name (bytes key)) entries)) (bytes_eq-turned name (bytes entry.0))
    ∙ ap (λ more. cond (bytes_eq (bytes entry.0) name) (Some entry.1) more) (value-keys bytes name entries)

pub entries-push : {K X : Type 0} (bytes : K → List ℕ) (entries after : List (K × X)) (key : K) (value : X) (declared : List (List ℕ × X)) (name : List ℕ)
    → after ≡ entries ++ (key, value) ∷ [] → map (entry_in bytes) entries ≡ declared → bytes key ≡ name → map (entry_in bytes) after ≡ declared ++ (name, value) ∷ []
entries-push bytes entries after key value declared name is are named =
    ap (map (entry_in bytes)) is ∙ map-append (entry_in bytes) entries ((key, value) ∷ []) ∙ ap (λ list. list ++ (bytes key, value) ∷ []) are ∙ ap (λ n. declared ++ (n, value) ∷ []) named

-- the same word, from either side
pub word-turned : (a b : List ℕ) (j k : ℕ) → (bytes_eq a b && (j == k)) ≡ (bytes_eq b a && (k == j))
word-turned a b j k = ap (λ same. same && (j == k)) (bytes_eq-turned a b) ∙ ap (λ same. bytes_eq b a && same) (nat_eq_equiv.symm j k)
