-- A hash table of names: each bucket is a chain of the places of its names.
use Rattle.std.specs.Prelude.{◌≡◌, ℕ, ◌-◌, ◌^◌, ◌<◌, ◌≤◌, List, [], length, get_or, slice_index_or, bit_and, bytes_eq, true, false}
use Rattle.std.specs.Hash.FoldHasher.{initial, write, finish}
use Rattle.name_arena.specs.declared.chains.Chains.{Chains}

-- the hash of a name
unfoldable pub number_of : List ℕ → ℕ
number_of name = finish (write initial name)

-- the bucket of a name among `count` buckets, a power of two
unfoldable pub bucket_of : ℕ → List ℕ → ℕ
bucket_of count name = bit_and (number_of name) (count - 1)

-- the name at a place
abbrev pub named : List (List ℕ) → ℕ → List ℕ
named names place = slice_index_or names place []

-- of the first n names, the last one in the bucket is at that place; if the bucket has none, the place is 2^32 - 1, the place of no name
pub record IsLast (names : List (List ℕ)) (count bucket n place : ℕ) : Type 0 where
  pub own : place < n → bucket_of count (named names place) ≡ bucket
  pub last : (k : ℕ) → k < n → bucket_of count (named names k) ≡ bucket → (k ≤ place) × (place < n)
  pub none : n ≤ place → place ≡ 2 ^ 32 - 1

-- for each bucket the last place in it is known, and for each place the one before it in the same bucket
pub record AreChained (names : List (List ℕ)) (last before : List ℕ) : Type 0 where
  pub few : length before ≤ length names
  pub last_is : (bucket : ℕ) → bucket < length last → IsLast names (length last) bucket (length before) (get_or last bucket 0)
  pub before_is : (k : ℕ) → k < length before → IsLast names (length last) (bucket_of (length last) (named names k)) k (get_or before k 0)

abbrev pub IsChained : List (List ℕ) → Chains → Type 0
IsChained names chains = AreChained names chains.last.items chains.before.items

-- none of the names is that name
abbrev pub Lacks : List (List ℕ) → List ℕ → Type 0
Lacks names name = (k : ℕ) → k < length names → bytes_eq name (named names k) ≡ false

-- the name at that place is that name
abbrev pub HasAt : List (List ℕ) → List ℕ → ℕ → Type 0
HasAt names name place = (place < length names) × (bytes_eq name (named names place) ≡ true)
