-- The write order as a function. It is a topological order of the combinational logic, over the classes of joined nets (nets that
-- switched routings join) that have a driver: each comes after all of these classes that its driver reads, and, where registers are clocks,
-- after those of the clocks of what its value is computed from. If several classes could come next, the least comes first, so there is at most one order. If there is one, it is what the function gives.
use Rattle.std.specs.Prelude.{ℕ, zero, suc, Bool, not, ◌&&◌, ◌||◌, List, [], ◌++◌}
use Rattle.std.specs.List.{list_all}
use Rattle.std.specs.Option.{option_to_list}
use Rattle.index_search.specs.Places.{least_below}
use Rattle.graph_order.specs.Wiring.{Wiring, has}

-- whether a class of joined nets can come next after those that are listed: it has a driver, isn't listed, and all classes that its driver
-- reads are listed, except those without a driver
abbrev pub is_ready : Wiring → List ℕ → ℕ → Bool
is_ready wiring listed class =
    wiring.driven class && not (has listed class) && list_all (λ other. not (wiring.driven other) || has listed other) (wiring.reads class)

-- the least class of joined nets that can come next after those that are listed, if there is one
abbrev pub next_class : Wiring → List ℕ → List ℕ
next_class wiring listed = option_to_list (least_below wiring.count (is_ready wiring listed))

-- the first n classes of joined nets of the order
unfoldable pub first_classes : Wiring → ℕ → List ℕ
first_classes wiring zero = []
first_classes wiring (suc n) = first_classes wiring n ++ next_class wiring (first_classes wiring n)

-- the whole order
unfoldable pub write_order : Wiring → List ℕ
write_order wiring = first_classes wiring wiring.count
