-- Nets with their names in the order of the text, and the index from the name of a net at a tile to that net.
use Rattle.std.specs.Prelude.{◌≡◌, ℕ, ◌+◌, ◌≤◌, Bool, false, ◌&&◌, ◌||◌, List, [], ◌∷◌, ◌++◌, length, take, drop, map, flat_map, nat_eq, is_some, ◌==◌, Option, Some, None, All}
use Rattle.std.specs.Map.{lookup}
use Rattle.indexmap.specs.IndexMap.{get as index_get, IsUnique}
use Rattle.chipdb_reader.specs.declared.items.NetName.{NetName}
use Rattle.chipdb_reader.specs.declared.nets.Nets.{Nets}
use Rattle.chipdb_reader.specs.declared.nets.Span.{Span}
use Rattle.chipdb_reader.specs.NameIndex.{net_in}

-- the net that the index has for a name
abbrev pub named_net : Nets → NetName → Option ℕ
named_net nets name = net_in nets.index name

-- names of one net
abbrev pub names_with : ℕ → List NetName → List (NetName × ℕ)
names_with net names = map (λ name. (name, net)) names

abbrev pub last_names : Option ℕ → List NetName → List (NetName × ℕ)
last_names None names = []
last_names (Some net) names = names_with net names

-- the names in a span
abbrev pub names_in : List NetName → Span → List NetName
names_in names span = take span.count (drop span.start names)

-- the names with their nets, in the order of the text
abbrev pub net_names : Nets → List (NetName × ℕ)
net_names nets = flat_map (λ entry. names_with entry.0 (names_in nets.names.items entry.1)) nets.earlier.entries ++ last_names nets.last (drop nets.start nets.names.items)

abbrev pub is_net : ℕ → Option ℕ → Bool
is_net net None = false
is_net net (Some other) = other == net

-- whether a net was begun
abbrev pub has_net : Nets → ℕ → Bool
has_net nets net = is_some (index_get nat_eq nets.earlier net) || is_net net nets.last

abbrev pub is_name : NetName → NetName → Bool
is_name name other = (other.x == name.x) && ((other.y == name.y) && (other.name == name.name))

-- the index has the first net of each name; the last net isn't among the earlier ones, and their names come before its own
pub record IsNetIndex (nets : Nets) : Type 0 where
  pub found : (name : NetName) → named_net nets name ≡ lookup (is_name name) (net_names nets)
  pub apart : (net : ℕ) → nets.last ≡ Some net → index_get nat_eq nets.earlier net ≡ None
  pub idle : nets.last ≡ None → nets.start ≡ length nets.names.items
  pub within : All (λ entry. entry.1.start + entry.1.count ≤ nets.start) nets.earlier.entries
  pub begins : nets.start ≤ length nets.names.items
  pub unique : IsUnique nat_eq nets.earlier

-- the last net is moved to the earlier ones
pub record ClosesNet (old new : Nets) : Type 0 where
  pub indexed : IsNetIndex new
  pub last : new.last ≡ None
  pub names : net_names new ≡ net_names old
  pub nets : (net : ℕ) → has_net new net ≡ has_net old net

-- a net is begun
pub record BeginsNet (old new : Nets) (begun : ℕ) : Type 0 where
  pub indexed : IsNetIndex new
  pub last : new.last ≡ Some begun
  pub names : net_names new ≡ net_names old
  pub nets : (net : ℕ) → has_net new net ≡ (has_net old net || (begun == net))

-- a name is added to the net that was begun last
pub record AddsName (old new : Nets) (net : ℕ) (name : NetName) : Type 0 where
  pub indexed : IsNetIndex new
  pub last : new.last ≡ Some net
  pub names : net_names new ≡ net_names old ++ (name, net) ∷ []
  pub nets : (other : ℕ) → has_net new other ≡ has_net old other
  pub absent : named_net old name ≡ None

abbrev pub found_names : List NetName → Option Span → List NetName
found_names names None = []
found_names names (Some span) = names_in names span

-- the names of an earlier net
abbrev pub earlier_names : Nets → ℕ → List NetName
earlier_names nets net = found_names nets.names.items (index_get nat_eq nets.earlier net)
