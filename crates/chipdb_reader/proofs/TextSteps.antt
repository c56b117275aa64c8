-- Names with one more.
use Rattle.std.proofs.Common.{◌≡◌, ℕ, ◌+◌, ◌-◌, ◌<◌, List, [], ◌∷◌, ◌++◌, length, length-append, refl, sym, ap, ◌∙◌, inl, inr, arith}
use Rattle.std.specs.Prelude.{Some, None, position, bytes_eq}
use Rattle.std.proofs.lemmas.Bool.{cases_lt}
use Rattle.std.proofs.lemmas.List.{get_or_append_left, get_or-append_right}
use Rattle.std.proofs.lemmas.List.Quantifiers.{position-Some}
use Rattle.shared_lemmas.proofs.Bytes.{same_bytes}
use Rattle.chipdb_reader.specs.Texts.{text_at}
use Rattle.chipdb_reader.proofs.Searches.{position-push, bytes_eq-same}

-- a new name is found at the end
pub position-new : (texts : List (List ℕ)) (text : List ℕ) → position (bytes_eq text) texts ≡ None → position (bytes_eq text) (texts ++ text ∷ []) ≡ Some (length texts)
position-new texts text none = position-push (bytes_eq text) texts text ∙ rw (none, bytes_eq-same text) refl

-- no name has two places
pub apart-push : (texts : List (List ℕ)) (text : List ℕ) → ((i : ℕ) → i < length texts → position (bytes_eq (text_at texts i)) texts ≡ Some i) → position (bytes_eq text) texts ≡ None
    → (i : ℕ) → i < length (texts ++ text ∷ []) → position (bytes_eq (text_at (texts ++ text ∷ []) i)) (texts ++ text ∷ []) ≡ Some i
apart-push texts text apart none i lt =
    let count : length (texts ++ text ∷ []) ≡ length texts + 1 = length-append texts (text ∷ []) in
    elim (cases_lt i (length texts)) [
      | inl before ↦
          let same : text_at (texts ++ text ∷ []) i ≡ text_at texts i = get_or_append_left texts (text ∷ []) [] i before in
          ap (λ t. position (bytes_eq t) (texts ++ text ∷ [])) same ∙ position-push (bytes_eq (text_at texts i)) texts text ∙ rw (apart i before) refl
      | inr past ↦
          let last : i ≡ length texts = omega arith in
          let zero_is : i - length texts ≡ 0 = omega arith in
          let here : text_at (texts ++ text ∷ []) i ≡ text = get_or-append_right texts (text ∷ []) (length texts) i [] refl past ∙ rw zero_is refl in
          ap (λ t. position (bytes_eq t) (texts ++ text ∷ [])) here ∙ position-new texts text none ∙ ap (λ n. Some n) (sym last)
    ]

-- the name at the place that is found
pub text-found : (texts : List (List ℕ)) (text : List ℕ) (id : ℕ) → position (bytes_eq text) texts ≡ Some id → (id < length texts) × (text_at texts id ≡ text)
text-found texts text id here =
    let facts = position-Some (bytes_eq text) texts id [] here in
    (facts.0, sym (same_bytes text (text_at texts id) facts.1))
