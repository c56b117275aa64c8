-- The addresses that entries name, each once.
use Rattle.std.proofs.Common.{◌≡◌, ℕ, zero, suc, ◌+◌, ◌<◌, ◌≤◌, Bool, true, false, ◌||◌, ◌==◌, List, [], ◌∷◌, ◌++◌, length, refl, sym, ap, ap₂, ◌∙◌, arith}
use Rattle.std.specs.Prelude.{All, if◌then◌else◌}
use Rattle.std.specs.List.{list_any}
use Rattle.std.proofs.Math.Bool.{or-false}
use Rattle.std.proofs.lemmas.Bool.{eqb-true}
use Rattle.std.proofs.lemmas.List.Folds.{list_any-append}
use Rattle.index_search.specs.Places.{any_below, gathered_below}
use Rattle.index_search.proofs.Places.{gathered_below-more}
use Rattle.index_search.proofs.Gathered.{All-gathered_below, length-gathered_below}
use Rattle.boot_file.specs.Headers.{entry_address}
use Rattle.boot_file.specs.Parts.{first_named, image_addresses, is_named, is_named_before}

module _ (bytes : List ℕ) where
  -- whether one of the entries below a bound names an address
  abbrev names : ℕ → ℕ → Bool
  names n address = any_below n (λ entry. entry_address bytes entry == address)

  -- what an entry adds, if an earlier one names its address or none does, and it has the address or not
  adds : (earlier before same : Bool) → (before ≡ true → same ≡ true → earlier ≡ true) → (earlier || (if before then false else same)) ≡ (earlier || same)
  adds true before same known = refl
  adds false false same known = refl
  adds false true false known = refl
  adds false true true known = known refl refl

  -- whether an address is what an entry adds
  in_added : (before : Bool) (added address : ℕ) → list_any (λ named. named == address) (if before then [] else added ∷ []) ≡ (if before then false else (added == address))
  in_added true added address = refl
  in_added false added address = or-false (added == address)

  -- an address is among those that are listed if an entry names it
  pub listed : (n address : ℕ) → list_any (λ named. named == address) (gathered_below n (first_named bytes)) ≡ names n address
  unfolding gathered_below any_below
  listed zero address = refl
  listed (suc n) address =
      list_any-append (λ named. named == address) (gathered_below n (first_named bytes)) (first_named bytes n)
      ∙ ap₂ (λ earlier last. earlier || last) (listed n address) (in_added (is_named_before bytes n) (entry_address bytes n) address)
      ∙ adds (names n address) (is_named_before bytes n) (entry_address bytes n == address)
      (λ before here. ap (names n) (sym (eqb-true (entry_address bytes n) address here)) ∙ before)

  -- one entry more
  pub listed-more : (n address : ℕ) (now later : List ℕ) (has : Bool) → address ≡ entry_address bytes n → now ≡ gathered_below n (first_named bytes)
      → has ≡ list_any (λ named. named == address) now → later ≡ now ++ (if has then [] else address ∷ []) → later ≡ gathered_below (n + 1) (first_named bytes)
  listed-more n address now later has same so_far is later_is =
      let before : has ≡ is_named_before bytes n = is ∙ ap (list_any (λ named. named == address)) so_far ∙ listed n address ∙ ap (names n) same in
      later_is
      ∙ ap₂ (λ (b : Bool) (a : ℕ). now ++ (if b then [] else a ∷ [])) before same
      ∙ ap (λ list. list ++ first_named bytes n) so_far
      ∙ sym (gathered_below-more n (first_named bytes))

  -- an address is among those of the images if an entry names it
  pub among : (address : ℕ) → list_any (λ named. named == address) (image_addresses bytes) ≡ is_named bytes address
  unfolding image_addresses
  among address = listed 4 address

  -- at most one for each entry
  pub few_addresses : length (image_addresses bytes) ≤ 4
  unfolding image_addresses
  few_addresses = length-gathered_below 4 1 (first_named bytes) (λ entry. one (is_named_before bytes entry) (entry_address bytes entry))
    where
      one : (before : Bool) (address : ℕ) → length (if before then [] else address ∷ []) ≤ 1
      one true address = omega arith
      one false address = omega arith

  -- what holds of the addresses of all entries
  pub All-addresses : (P : ℕ → Type 0) → ((entry : ℕ) → entry < 4 → P (entry_address bytes entry)) → All P (image_addresses bytes)
  unfolding image_addresses
  All-addresses P all = All-gathered_below P 4 (first_named bytes) (λ entry below. one (is_named_before bytes entry) (entry_address bytes entry) (all entry below))
    where
      one : (before : Bool) (address : ℕ) → P address → All P (if before then [] else address ∷ [])
      one true address holds k d below = absurd (omega arith)
      one false address holds zero d below = holds
      one false address holds (suc k) d below = absurd (omega arith)
