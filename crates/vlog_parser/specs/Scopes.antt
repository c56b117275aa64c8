-- The scope for which the kept names stand.
use Rattle.std.specs.Prelude.{◌≡◌, ℕ, Bool, true, false, List, [], ◌++◌, flat_map}
use Rattle.vlog_module.specs.declared.sort.Sort.{Sort}
use Rattle.vlog_module.specs.declared.item.Item.{Item}
use Rattle.vlog_module.specs.declared.item.Item.TheVariants.{Wire}
use Rattle.vlog_module.specs.Maps.{value_in}
use Rattle.vlog_module.specs.Uses.{Use}
use Rattle.vlog_module.specs.WellFormed.{Scope, Reading, sort_in, declared_by, read_by, assigned_by, started_by, is_read_unless}
use Rattle.name_set.specs.Sets.{has_name}
use Rattle.vlog_parser.specs.Kept.{has_word, is_only_unless}

-- the names that are declared, read by wires and assigned so far, and the words with a start value; a name that is read in several ways
-- counts as one that is read as it is
pub record Known : Type 0 where
  pub declared : List (List ℕ × Sort)
  pub read : List (List ℕ × Reading)
  pub assigned : List (List ℕ)
  pub started : List (List ℕ × ℕ)

-- both agree on every name: what it is declared as, whether wires read it only by way of a given asynchronous set or reset, whether it is
-- assigned, and which of its words have a start value
pub record Holds (known : Known) (scope : Scope) : Type 0 where
  pub declared : (name : List ℕ) → sort_in known.declared name ≡ sort_in scope.declared name
  pub read : (name reset : List ℕ) (set : Bool) → is_only_unless (value_in known.read name) reset set ≡ is_read_unless scope.read reset set name
  pub assigned : (name : List ℕ) → has_name known.assigned name ≡ has_name scope.assigned name
  pub started : (name : List ℕ) (k : ℕ) → has_word known.started name k ≡ has_word scope.started name k

-- whether an item is a wire
abbrev pub is_wire : Item → Bool
is_wire (Wire name right) = true
is_wire _ = false

-- what an item with these uses reads, if it is a wire
abbrev pub wire_reads : Bool → List Use → List (List ℕ × Reading)
wire_reads true uses = flat_map read_by uses
wire_reads false uses = []

-- a scope to which is added what an item with these uses declares, reads (if it is a wire), assigns and starts
abbrev pub entered : Scope → Bool → List Use → Scope
entered scope wire uses = record {
  section = scope.section;
  declared = scope.declared ++ flat_map declared_by uses;
  read = scope.read ++ wire_reads wire uses;
  assigned = scope.assigned ++ flat_map assigned_by uses;
  started = scope.started ++ flat_map started_by uses;
}
