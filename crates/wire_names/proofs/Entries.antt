-- Wires and names as entries of a map.
use Rattle.std.proofs.Common.{◌≡◌, ◌∙◌, ℕ, zero, suc, ◌+◌, Bool, true, false, cond, List, [], ◌∷◌, ◌++◌, length, map, take, refl, add-one, ap, subst, sym}
use Rattle.std.specs.Prelude.{Option, Some, None, bytes_eq, flat_map, slice_get}
use Rattle.std.specs.Option.{option_map}
use Rattle.std.specs.Map.{lookup}
use Rattle.std.proofs.lemmas.List.{length-map, map-append}
use Rattle.std.proofs.lemmas.List.Concat.{flat_map-append}
use Rattle.text_lines.specs.Written.{text_of}
use Rattle.shared_lemmas.proofs.Bytes.{bytes_eq-turned}
use Rattle.vlog_module.specs.Maps.{value_in}
use Rattle.wire_names.specs.Lists.{name_line, names_text}

module _ {K X : Type 0} (key_bytes : K → List ℕ) (value_bytes : X → List ℕ) where
  abbrev pub entry_of : K × X → List ℕ × List ℕ
  entry_of entry = (key_bytes entry.0, value_bytes entry.1)

  -- what a key has is what its bytes have
  pub value-entries : (name : List ℕ) (entries : List (K × X))
      → option_map value_bytes (lookup (λ key. bytes_eq name (key_bytes key)) entries) ≡ value_in (map entry_of entries) name
  value-entries name [] = refl
  value-entries name (entry ∷ entries) =
      by (bytes_eq name (key_bytes entry.0))
      ∙ ap (λ b. cond b (Some (value_bytes entry.1)) (option_map value_bytes (lookup (λ key. bytes_eq name (key_bytes key)) entries))) (bytes_eq-turned name (key_bytes entry.0))
      ∙ ap (cond (bytes_eq (key_bytes entry.0) name) (Some (value_bytes entry.1))) (value-entries name entries)
    where
      by : (b : Bool) → option_map value_bytes (cond b (Some entry.1) (lookup (λ key. bytes_eq name (key_bytes key)) entries))
          ≡ cond b (Some (value_bytes entry.1)) (option_map value_bytes (lookup (λ key. bytes_eq name (key_bytes key)) entries))
      by true = refl
      by false = refl

  -- one more entry
  pub entries-push : (entries : List (K × X)) (key : K) (value : X) → map entry_of (entries ++ (key, value) ∷ []) ≡ map entry_of entries ++ (key_bytes key, value_bytes value) ∷ []
  entries-push entries key value = map-append entry_of entries ((key, value) ∷ [])

-- a value that is missing after a change was missing before
pub none-unmapped : {A B : Type 0} (f : A → B) (found : Option A) → option_map f found ≡ None → found ≡ None
none-unmapped f None none = refl
none-unmapped f (Some value) none = absurd cc

-- ---- the text

-- one more name has one more line
pub names_text-push : (names : List (List ℕ × List ℕ)) (pair : List ℕ × List ℕ) → names_text (names ++ pair ∷ []) ≡ names_text names ++ text_of (name_line pair ∷ [])
unfolding names_text text_of
names_text-push names pair =
    ap (flat_map (λ (line : List ℕ). line ++ 10 ∷ [])) (map-append name_line names (pair ∷ []))
    ∙ flat_map-append (λ (line : List ℕ). line ++ 10 ∷ []) (map name_line names) (name_line pair ∷ [])

module _ {K X : Type 0} (key_bytes : K → List ℕ) (value_bytes : X → List ℕ) where
  front-more : (entries : List (K × X)) (place : ℕ) (entry : K × X) → Some entry ≡ slice_get entries place
      → take (suc place) (map (entry_of key_bytes value_bytes) entries) ≡ take place (map (entry_of key_bytes value_bytes) entries) ++ entry_of key_bytes value_bytes entry ∷ []
  front-more [] place entry at = absurd cc
  front-more (first ∷ entries) zero entry at =
      let same : entry ≡ first = cc in
      ap (λ (one : K × X). entry_of key_bytes value_bytes one ∷ []) (sym same)
  front-more (first ∷ entries) (suc place) entry at = ap (λ names. entry_of key_bytes value_bytes first ∷ names) (front-more entries place entry at)

  -- the text of one more entry
  pub text-more : (entries : List (K × X)) (place : ℕ) (key : K) (value : X) (names : List (List ℕ × List ℕ)) → Some (key, value) ≡ slice_get entries place
      → map (entry_of key_bytes value_bytes) entries ≡ names
      → names_text (take (place + 1) names) ≡ names_text (take place names) ++ text_of (name_line (key_bytes key, value_bytes value) ∷ [])
  text-more entries place key value names at are =
      rw add-one (ap names_text (subst (λ (list : List (List ℕ × List ℕ)). take (suc place) list ≡ take place list ++ (key_bytes key, value_bytes value) ∷ []) are (front-more entries place (key, value) at))
      ∙ names_text-push (take place names) (key_bytes key, value_bytes value))

  -- how many there are
  pub length-entries : (entries : List (K × X)) (names : List (List ℕ × List ℕ)) → map (entry_of key_bytes value_bytes) entries ≡ names → length names ≡ length entries
  length-entries entries names are = ap length (sym are) ∙ length-map entries (entry_of key_bytes value_bytes)
