-- Files by their names, if they are known, and what loading and storing do to them.
use Rattle.std.specs.Prelude.{◌≡◌, ℕ, ◌<◌, ◌≤◌, List, [], ◌++◌, Option, Some, None, Result, Ok, Err, ⊤, MatchOption, length, take, drop, true, false, option_map, IsSomeAnd}
use Rattle.std.specs.Ordering.{nat_cmp}
use Rattle.std.specs.Cmp.Lexicographic.{slice_cmp}
use Rattle.std.specs.FinMap.{FinMap, get, insert}
use Rattle.ice_io.specs.Faults.{counted, Rose}
use Rattle.ice_io.specs.Takers.{TakesMore}
use Rattle.ice_io.specs.declared.files.StoreFault.{StoreFault}
use Rattle.ice_io.specs.declared.files.StoreFault.TheVariants.{Failed}
use Rattle.ice_io.specs.declared.files.ContentFault.{ContentFault}
use Rattle.ice_io.specs.declared.files.ContentFault.TheVariants.{Store, Memory}

-- files in memory: each name's bytes, by the bytes of the name
abbrev pub FileMap : Type 0
FileMap = FinMap (slice_cmp nat_cmp) (List ℕ)

-- if the files are known, the name has these bytes
abbrev pub HasFile : Option FileMap → List ℕ → List ℕ → Type 0
HasFile None name bytes = ⊤
HasFile (Some files) name bytes = get files name ≡ Some bytes

-- if the files are known, the name has more than that many bytes
abbrev pub HasMore : Option FileMap → List ℕ → ℕ → Type 0
HasMore None name limit = ⊤
HasMore (Some files) name limit = IsSomeAnd (get files name) (λ bytes. limit < length bytes)

-- if the files are known, these are the first bytes of the name, or none if there is no such file
abbrev pub HasFront : Option FileMap → List ℕ → List ℕ → Type 0
HasFront None name bytes = ⊤
HasFront (Some files) name bytes = MatchOption (get files name) (bytes ≡ []) (λ all. (rest : List ℕ) × (all ≡ bytes ++ rest))

-- if the files are known, the name has these bytes from that place on
abbrev pub HasPart : Option FileMap → List ℕ → ℕ → List ℕ → Type 0
HasPart None name at bytes = ⊤
HasPart (Some files) name at bytes = IsSomeAnd (get files name) (λ all. (rest : List ℕ) × (drop at all ≡ bytes ++ rest))

-- if the files are known, the name has no byte from that place on
abbrev pub EndsBefore : Option FileMap → List ℕ → ℕ → Type 0
EndsBefore None name at = ⊤
EndsBefore (Some files) name at = IsSomeAnd (get files name) (λ all. length all ≤ at)

-- of a file, the first bytes were taken
abbrev pub TakesFrontOf : {Setting T : Type 0} → Option FileMap → List ℕ → (Setting → T → List ℕ → Type 0) → T → T → Type 0
TakesFrontOf files name has_taken old new = (bytes : List ℕ) × HasFront files name bytes × TakesMore has_taken old new bytes

-- if the files are known, there is none of that name
abbrev pub LacksFile : Option FileMap → List ℕ → Type 0
LacksFile None name = ⊤
LacksFile (Some files) name = get files name ≡ None

-- the files, with these bytes under the name, if they are known
abbrev pub with_file : Option FileMap → List ℕ → List ℕ → Option FileMap
with_file files name bytes = option_map (λ known. insert known name bytes) files

-- what a store that failed leaves: the first bytes if the file was opened, and else all as it was
abbrev pub LeavesPart : Option FileMap → Option FileMap → List ℕ → List ℕ → StoreFault → Type 0
LeavesPart old new name bytes (Failed true written) = (new ≡ with_file old name (take written bytes)) × (written < length bytes)
LeavesPart old new name bytes (Failed false written) = (new ≡ old) × (written ≡ 0)

-- what storing content leaves if it failed: what a store leaves, and if memory was out all as it was
abbrev pub LeavesContent : Option FileMap → Option FileMap → List ℕ → List ℕ → ContentFault → Type 0
LeavesContent old new name bytes (Store fault) = LeavesPart old new name bytes fault
LeavesContent old new name bytes (Memory e) = new ≡ old

-- if storing content failed, a store that failed was counted, and none if memory was out
abbrev pub CountsStore : ℕ → ℕ → ContentFault → Type 0
CountsStore old new (Store fault) = Rose old new
CountsStore old new (Memory e) = new ≡ old

-- how many stores were begun, with one of content: none was if there was no memory for the content
abbrev pub stores_after : {T : Type 0} → ℕ → Result T ContentFault → ℕ
stores_after stores (Ok done) = counted stores
stores_after stores (Err (Store fault)) = counted stores
stores_after stores (Err (Memory e)) = stores
