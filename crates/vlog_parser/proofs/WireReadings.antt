-- How wires read names: what is kept of one name, and what of all.
use Rattle.std.proofs.Common.{◌≡◌, ℕ, Bool, true, false, ◌&&◌, ◌||◌, cond, List, [], ◌∷◌, map, refl, ap, sym, ◌∙◌}
use Rattle.std.proofs.lemmas.Bool.{and_parts}
use Rattle.std.proofs.lemmas.Slice.Eq.{bytes_eq-Decides}
use Rattle.std.specs.Prelude.{Option, Some, not, bytes_eq, if◌then◌else◌}
use Rattle.std.specs.Bool.{beq}
use Rattle.std.specs.Option.{option_map}
use Rattle.indexmap.specs.IndexMap.{insert_entry}
use Rattle.shared_lemmas.proofs.Bytes.{bytes_eq-turned}
use Rattle.vlog_module.specs.Maps.{value_in}
use Rattle.vlog_module.specs.WellFormed.{Reading, is_unless}
use Rattle.vlog_module.specs.WellFormed.Reading.{unless}
use Rattle.vlog_parser.specs.Kept.{is_only_unless}
use Rattle.vlog_parser.proofs.NameKeys.{looked_up}

-- ---- a map in which values are kept in another form

abbrev pub seen_entry : {K X V : Type 0} → (K → List ℕ) → (X → V) → K × X → List ℕ × V
seen_entry bytes see entry = (bytes entry.0, see entry.1)

map_case : {X V : Type 0} (see : X → V) (b : Bool) (x : X) (more : Option X) → option_map see (cond b (Some x) more) ≡ cond b (Some (see x)) (option_map see more)
map_case see true x more = refl
map_case see false x more = refl

pub value-seen : {K X V : Type 0} (bytes : K → List ℕ) (see : X → V) (name : List ℕ) (entries : List (K × X))
    → option_map see (looked_up (λ key. bytes_eq name (bytes key)) entries) ≡ value_in (map (seen_entry bytes see) entries) name
value-seen bytes see name [] = refl
value-seen bytes see name (entry ∷ entries) =
    map_case see (bytes_eq name (bytes entry.0)) entry.1 (looked_up (λ key. bytes_eq name (bytes key)) entries)
    ∙ ap (λ b. cond b (Some (see entry.1)) (option_map see (looked_up (λ key. bytes_eq name (bytes key)) entries))) (bytes_eq-turned name (bytes entry.0))
    ∙ ap (λ more. cond (bytes_eq (bytes entry.0) name) (Some (see entry.1)) more) (value-seen bytes see name entries)

module _ {K X V : Type 0} (bytes : K → List ℕ) (see : X → V) (same : K → K → Bool) (key : K) (value : X) (other : List ℕ)
    (is : (one : K) → same key one ≡ bytes_eq (bytes key) (bytes one)) where
  abbrev kept_in : List (K × X) → Option V
  kept_in entries = value_in (map (seen_entry bytes see) entries) other

  abbrev put_in : List (K × X) → Option V
  put_in entries = if bytes_eq (bytes key) other then Some (see value) else kept_in entries

  -- the key is there, and is the name that is asked for or isn't
  there_case : (b : Bool) (one : X) (rest : Option V) → (if b then Some (see value) else rest) ≡ (if b then Some (see value) else if b then Some (see one) else rest)
  there_case true one rest = refl
  there_case false one rest = refl

  -- the key isn't the first one
  other_case : (a b : Bool) (one : X) (rest : Option V) → bytes_eq (bytes key) other ≡ a → (b ≡ true → a ≡ true → ⊥)
      → (if b then Some (see one) else if a then Some (see value) else rest) ≡ (if a then Some (see value) else if b then Some (see one) else rest)
  other_case true true one rest is apart = absurd (apart refl refl)
  other_case true false one rest is apart = refl
  other_case false b one rest is apart = refl

  entry_case : (b : Bool) (entry : K × X) (entries : List (K × X)) → bytes_eq (bytes key) (bytes entry.0) ≡ b → kept_in (insert_entry same entries key value) ≡ put_in entries
      → kept_in (if b then (entry.0, value) ∷ entries else entry ∷ insert_entry same entries key value) ≡ put_in (entry ∷ entries)
  entry_case true entry entries here more =
      let name : bytes key ≡ bytes entry.0 = (bytes_eq-Decides (bytes key) (bytes entry.0)).0 here in
      there_case (bytes_eq (bytes entry.0) other) entry.1 (kept_in entries)
      ∙ ap (λ n. if bytes_eq n other then Some (see value) else kept_in (entry ∷ entries)) (sym name)
  entry_case false entry entries here more =
      ap (λ rest. if bytes_eq (bytes entry.0) other then Some (see entry.1) else rest) more
      ∙ other_case (bytes_eq (bytes key) other) (bytes_eq (bytes entry.0) other) entry.1 (kept_in entries) refl apart
    where
      apart : bytes_eq (bytes entry.0) other ≡ true → bytes_eq (bytes key) other ≡ true → ⊥
      apart one two =
          let first : bytes entry.0 ≡ other = (bytes_eq-Decides (bytes entry.0) other).0 one in
          let again : bytes_eq (bytes key) (bytes entry.0) ≡ true = ap (bytes_eq (bytes key)) first ∙ two in
          absurd cc

  -- a value that is put in place of what was there
  pub value-put : (entries : List (K × X)) → kept_in (insert_entry same entries key value) ≡ put_in entries
  value-put [] = refl
  value-put (entry ∷ entries) =
      ap (λ b. kept_in (if b then (entry.0, value) ∷ entries else entry ∷ insert_entry same entries key value)) (is entry.0)
      ∙ entry_case (bytes_eq (bytes key) (bytes entry.0)) entry entries refl (value-put entries)

-- ---- one more reading

and_true : (b : Bool) → b ≡ (b && true)
and_true true = refl
and_true false = refl

joined_case : (b : Bool) (before after : List (List ℕ × Reading)) (name other reset : List ℕ) (set : Bool) (now reading : Reading) → bytes_eq name other ≡ b
    → value_in after other ≡ (if b then Some now else value_in before other)
    → is_unless reset set now ≡ (is_only_unless (value_in before name) reset set && is_unless reset set reading)
    → is_only_unless (value_in after other) reset set ≡ (is_only_unless (value_in before other) reset set && (not b || is_unless reset set reading))
joined_case true before after name other reset set now reading same put both =
    let is : name ≡ other = (bytes_eq-Decides name other).0 same in
    ap (λ one. is_only_unless one reset set) put ∙ both ∙ ap (λ n. is_only_unless (value_in before n) reset set && is_unless reset set reading) is
joined_case false before after name other reset set now reading same put both =
    ap (λ one. is_only_unless one reset set) put ∙ and_true (is_only_unless (value_in before other) reset set)

-- if the reading that is put says of the name what the earlier reading and the new one say together
pub joined : (before after : List (List ℕ × Reading)) (name : List ℕ) (now reading : Reading)
    → ((other : List ℕ) → value_in after other ≡ (if bytes_eq name other then Some now else value_in before other))
    → ((reset : List ℕ) (set : Bool) → is_unless reset set now ≡ (is_only_unless (value_in before name) reset set && is_unless reset set reading))
    → (other reset : List ℕ) (set : Bool) → is_only_unless (value_in after other) reset set ≡ (is_only_unless (value_in before other) reset set && (not (bytes_eq name other) || is_unless reset set reading))
joined before after name now reading put both other reset set =
    joined_case (bytes_eq name other) before after name other reset set now reading refl (put other) (both reset set)

-- ---- two readings of a name

twice : (b : Bool) → b ≡ (b && b)
twice true = refl
twice false = refl

-- the same wire and bit twice
pub same-twice : (one other reset : List ℕ) (bit twin set : Bool) → (bytes_eq other one && beq twin bit) ≡ true
    → is_unless reset set (unless one bit) ≡ (is_unless reset set (unless one bit) && is_unless reset set (unless other twin))
same-twice one other reset bit twin set same =
    let parts = and_parts (bytes_eq other one) (beq twin bit) same in
    let names : other ≡ one = (bytes_eq-Decides other one).0 parts.0 in
    let bits : twin ≡ bit = same_bit twin bit parts.1 in
    twice (is_unless reset set (unless one bit))
    ∙ ap (λ n. is_unless reset set (unless one bit) && is_unless reset set (unless n bit)) (sym names)
    ∙ ap (λ b. is_unless reset set (unless one bit) && is_unless reset set (unless other b)) (sym bits)
  where
    same_bit : (a b : Bool) → beq a b ≡ true → a ≡ b
    same_bit true true is = refl
    same_bit true false is = absurd cc
    same_bit false true is = absurd cc
    same_bit false false is = refl

-- no wire and bit are two that differ
pub apart-never : (one other reset : List ℕ) (bit twin set : Bool) → (bytes_eq other one && beq twin bit) ≡ false
    → false ≡ (is_unless reset set (unless one bit) && is_unless reset set (unless other twin))
apart-never one other reset bit twin set apart =
    by (bytes_eq one reset) (bytes_eq other reset) (bit) (twin) (set) refl refl apart
  where
    by : (a b : Bool) (bit twin set : Bool) → bytes_eq one reset ≡ a → bytes_eq other reset ≡ b → (bytes_eq other one && beq twin bit) ≡ false
        → false ≡ ((a && beq bit set) && (b && beq twin set))
    by false b bit twin set first second apart = refl
    by true false bit twin set first second apart = none (beq bit set)
      where
        none : (c : Bool) → false ≡ (c && false)
        none true = refl
        none false = refl
    by true true bit twin set first second apart =
        let names : other ≡ one = (bytes_eq-Decides other reset).0 second ∙ sym ((bytes_eq-Decides one reset).0 first) in
        let same : bytes_eq other one ≡ true = (bytes_eq-Decides other one).1 names in
        bits bit twin set (sym (ap (λ b. b && beq twin bit) same) ∙ apart)
      where
        bits : (bit twin set : Bool) → beq twin bit ≡ false → false ≡ (beq bit set && beq twin set)
        bits true true set apart = absurd cc
        bits false false set apart = absurd cc
        bits true false true apart = refl
        bits true false false apart = refl
        bits false true true apart = refl
        bits false true false apart = refl
