-- The files in memory: what their calls do, and which fail.
use Rattle.std.specs.Prelude.{◌≡◌, ◌≢◌, ◌⊎◌, ℕ, ◌-◌, min, length, Bool, true, false, List, None, map, take, Contains, string_bytes, refl}
use Rattle.std.specs.FinMap as map_of
use Rattle.std.specs.FinMap.{get, insert, from_entries}
use Rattle.std.specs.Coded.{Coded, code_by, coded×, coded_ℕ, coded_list}
use Rattle.ice_io.specs.Faults.{counted, counted_by}
use Rattle.ice_io.specs.Files.{FileMap}
use Rattle.ice_io.specs.declared.named_file.NamedFile.{NamedFile}

-- the files, the one name that may be stored, how many bytes it may have, the greatest size of a copy, the numbers of
-- the calls that fail, counted from 1, how many calls there were, how many loads and stores have failed, how many bytes were read, and
-- how many stores were begun
pub record FilesState : Type 0 where
  pub files : FileMap
  pub target : List ℕ
  pub room : ℕ
  pub most : ℕ
  pub failing : List ℕ
  pub calls : ℕ
  pub load_faults : ℕ
  pub store_faults : ℕ
  pub bytes_read : ℕ
  pub stores : ℕ

-- it is stored as the tuple of its fields
abbrev pub files_code : Coded FilesState
files_code =
    code_by (FileMap × (List ℕ × (ℕ × (ℕ × (List ℕ × (ℕ × (ℕ × (ℕ × (ℕ × ℕ)))))))))
    (coded× (map_of.code (coded_list coded_ℕ) (coded_list coded_ℕ)) (coded× (coded_list coded_ℕ) (coded× coded_ℕ (coded× coded_ℕ (coded× (coded_list coded_ℕ) (coded× coded_ℕ (coded× coded_ℕ (coded× coded_ℕ (coded× coded_ℕ coded_ℕ)))))))))
    (λ s. (s.files, (s.target, (s.room, (s.most, (s.failing, (s.calls, (s.load_faults, (s.store_faults, (s.bytes_read, s.stores))))))))))
    (λ p. record { files = p.0; target = p.1.0; room = p.1.1.0; most = p.1.1.1.0; failing = p.1.1.1.1.0; calls = p.1.1.1.1.1.0; load_faults = p.1.1.1.1.1.1.0; store_faults = p.1.1.1.1.1.1.1.0; bytes_read = p.1.1.1.1.1.1.1.1.0; stores = p.1.1.1.1.1.1.1.1.1 })
    (λ _. refl)

-- a file's name and its bytes
abbrev pub entry_of : NamedFile → List ℕ × List ℕ
entry_of file = (string_bytes file.name, file.bytes.items)

-- the map of these files. If a name stands twice, the first counts
abbrev pub files_of : List NamedFile → FileMap
files_of files = from_entries (map entry_of files)

-- the files, with these bytes under one name, if it was stored
abbrev pub stored_over : FileMap → List ℕ → Bool → List ℕ → FileMap
stored_over files target false bytes = files
stored_over files target true bytes = insert files target bytes

-- the next call, a load of this name or of a part of it, fails
abbrev pub LoadFails : FilesState → List ℕ → Type 0
LoadFails s name = Contains s.failing (counted s.calls) ⊎ (get s.files name ≡ None)

-- the next call, a store under this name, fails before anything is opened
abbrev pub StoreFails : FilesState → List ℕ → Type 0
StoreFails s name = Contains s.failing (counted s.calls) ⊎ (name ≢ s.target)

-- how many bytes of a file are given from a place on, into a buffer of that length
abbrev pub part_size : FilesState → List ℕ → ℕ → ℕ → ℕ
part_size s bytes at len = min s.most (min (length bytes - at) len)

-- the files after a load that didn't fail, and read so many bytes
abbrev pub after_load : FilesState → ℕ → FilesState
after_load s n = record s { calls = counted s.calls; bytes_read = counted_by s.bytes_read n }

-- the files after a load for which there was no memory
abbrev pub after_refused_load : FilesState → FilesState
after_refused_load s = record s { calls = counted s.calls }

-- the files after a load that failed
abbrev pub after_failed_load : FilesState → FilesState
after_failed_load s = record s { calls = counted s.calls; load_faults = counted s.load_faults }

-- the files after a store of these bytes
abbrev pub after_store : FilesState → List ℕ → FilesState
after_store s bytes = record s { files = insert s.files s.target bytes; calls = counted s.calls; stores = counted s.stores }

-- the files after a store of bytes for which there wasn't enough room
abbrev pub after_part_store : FilesState → List ℕ → FilesState
after_part_store s bytes = record s {
  files = insert s.files s.target (take s.room bytes);
  calls = counted s.calls;
  store_faults = counted s.store_faults;
  stores = counted s.stores;
}

-- the files after a store that failed before anything was opened
abbrev pub after_failed_store : FilesState → FilesState
after_failed_store s = record s { calls = counted s.calls; store_faults = counted s.store_faults; stores = counted s.stores }
