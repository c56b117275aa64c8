-- The real files: how often they failed, how much was read, how often something was stored, and what was read from a file of the system or written to one.
use Rattle.std.specs.Prelude.{◌≡◌, ℕ, ◌<◌, List, Option, ⊤, true, false, length, take}
use Rattle.std.specs.Io.KnownBytes.{Appends, Consumes, IsAtEnd}
use Rattle.ice_io.specs.Faults.{counted, counted_by}
use Rattle.ice_io.specs.Taken.{TakesAll, TakesCount}
use Rattle.ice_io.specs.declared.files.StoreFault.{StoreFault}
use Rattle.ice_io.specs.declared.files.StoreFault.TheVariants.{Failed}
use Rattle.ice_io.specs.declared.files.ContentFault.{ContentFault}
use Rattle.ice_io.specs.declared.files.ContentFault.TheVariants.{Store, Memory}

-- how many loads and how many stores have failed, how many bytes were read, and how many stores were begun
pub record FileCounts : Type 0 where
  pub load_faults : ℕ
  pub store_faults : ℕ
  pub bytes_read : ℕ
  pub stores : ℕ

-- the counts after a load that failed
abbrev pub after_load_fault : FileCounts → FileCounts
after_load_fault s = record s { load_faults = counted s.load_faults }

-- the counts after a store
abbrev pub after_store : FileCounts → FileCounts
after_store s = record s { stores = counted s.stores }

-- the counts after a store that failed
abbrev pub after_store_fault : FileCounts → FileCounts
after_store_fault s = record s { store_faults = counted s.store_faults; stores = counted s.stores }

-- the counts after so many bytes were read
abbrev pub after_bytes : FileCounts → ℕ → FileCounts
after_bytes s n = record s { bytes_read = counted_by s.bytes_read n }

-- if a store failed after its file was opened, as many of the bytes as the fault says were appended, and not all
abbrev pub AppendsPart : Option (List ℕ) → Option (List ℕ) → List ℕ → StoreFault → Type 0
AppendsPart old new bytes (Failed true written) = Appends old new (take written bytes) × (written < length bytes)
AppendsPart old new bytes (Failed false written) = ⊥

-- these bytes were all that was left in some file
abbrev pub WereInFile : {File : Type 0} → (File → Option (List ℕ)) → List ℕ → Type 0
WereInFile {File} remaining bytes = (before : File) × (after : File) × TakesAll (remaining before) (remaining after) bytes

-- n bytes were taken from some file
abbrev pub WereTaken : {File : Type 0} → (File → Option (List ℕ)) → ℕ → Type 0
WereTaken {File} remaining n = (before : File) × (after : File) × TakesCount (remaining before) (remaining after) n

-- the n bytes at the front of a buffer were read from some file, and none into a buffer that isn't empty only at its end
abbrev pub WereRead : {File : Type 0} → (File → Option (List ℕ)) → List ℕ → ℕ → Type 0
WereRead {File} remaining into n = (before : File) × (after : File) × Consumes (remaining before) (remaining after) (take n into)
    × (n ≡ 0 → 0 < length into → IsAtEnd (remaining after))

-- these bytes were appended to some file
abbrev pub WereWritten : {File : Type 0} → (File → Option (List ℕ)) → List ℕ → Type 0
WereWritten {File} contents bytes = (before : File) × (after : File) × Appends (contents before) (contents after) bytes

-- if a store failed after its file was opened, as many of the bytes as the fault says were appended to some file
abbrev pub WerePartWritten : {File : Type 0} → (File → Option (List ℕ)) → List ℕ → StoreFault → Type 0
WerePartWritten contents bytes (Failed true written) = WereWritten contents (take written bytes)
WerePartWritten contents bytes (Failed false written) = ⊤

-- and if storing content failed, which needs no memory
abbrev pub WereContentWritten : {File : Type 0} → (File → Option (List ℕ)) → List ℕ → ContentFault → Type 0
WereContentWritten contents bytes (Store fault) = WerePartWritten contents bytes fault
WereContentWritten contents bytes (Memory e) = ⊥
