-- Classes of joined nets: the nets that routings join.
use Rattle.std.specs.Prelude.{ℕ, suc, ◌≤◌, Bool, ◌||◌, ◌&&◌, List, [], ◌∷◌, Contains, ◌==◌, unwrap_or, ◌⊎◌}
use Rattle.index_search.specs.Places.{least_below}

-- one routing goes from a net to another, in either direction
abbrev pub IsJoin : List (ℕ × ℕ) → ℕ → ℕ → Type 0
IsJoin joins a b = Contains joins (a, b) ⊎ Contains joins (b, a)

-- nets are joined if a chain of routings leads from one to the other
pub data AreJoined (joins : List (ℕ × ℕ)) : ℕ → ℕ → Type 0 where
  itself : {net : ℕ} → AreJoined joins net net
  further : {a b c : ℕ} → IsJoin joins a b → AreJoined joins b c → AreJoined joins a c

-- A class of joined nets is named by the least of its nets.
pub record IsClassOf (joins : List (ℕ × ℕ)) (net class : ℕ) : Type 0 where
  pub joined : AreJoined joins net class
  pub least : (other : ℕ) → AreJoined joins net other → class ≤ other

-- Whether a chain of these routings leads from one net to the other: a chain that doesn't use the first routing, or one that uses it
-- once, in one direction or the other.
unfoldable pub is_joined : List (ℕ × ℕ) → ℕ → ℕ → Bool
is_joined [] a b = a == b
is_joined (join ∷ joins) a b =
    is_joined joins a b
    || ((is_joined joins a join.0 && is_joined joins join.1 b)
    || (is_joined joins a join.1 && is_joined joins join.0 b))

-- the class of joined nets that a net belongs to: the least net that is joined to it
unfoldable pub class_of : List (ℕ × ℕ) → ℕ → ℕ
class_of joins net = unwrap_or (least_below (suc net) (is_joined joins net)) net
