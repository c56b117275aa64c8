-- The first user whose clock comes from logic is the first fault of the clocks of a fabric.
use Rattle.std.proofs.Common.{◌≡◌, ℕ, ◌+◌, ◌<◌, Bool, true, false, List, [], ◌∷◌, ◌++◌, length, map, take, get_or, refl, sym, ◌∙◌, ap}
use Rattle.std.specs.Prelude.{Option, Some, None, All, filter, flat_map, ◌&&◌, ◌==◌, if◌then◌else◌}
use Rattle.std.proofs.lemmas.List.{take_more, map-append, append-nil}
use Rattle.std.proofs.lemmas.List.Elements.{All-head, All-tail, filter-append}
use Rattle.std.proofs.lemmas.Grind.{flat_map-append}
use Rattle.index_search.proofs.Gathered.{map-gathered_below, flat_map-gathered_below}
use Rattle.index_search.specs.Places.{gathered_below}
use Rattle.index_search.proofs.Places.{gathered_below-none, gathered_below-same}
use Rattle.plane_map.specs.Layout.{grid_width, grid_height}
use Rattle.plane_map.specs.declared.device.DeviceName.{DeviceName}
use Rattle.fabric_model.specs.declared.register.Register.{Register}
use Rattle.fabric_model.specs.declared.ram.RamCell.{RamCell}
use Rattle.fabric_model.specs.declared.driver.ClockUser.TheVariants.{Read, Write}
use Rattle.fabric_model.specs.Registers.{user_of as user_of_kind}
use Rattle.fabric_model.specs.Fabric.{Fabric}
use Rattle.fabric_model.specs.Tiles.{over_grid, item_if, first_of}
use Rattle.fabric_model.specs.Within.{IsNetIn}
use Rattle.fabric_model.specs.Clocks.{ClockEnd, User, register_user, ram_users, users_at, users_of, clock_end}
use Rattle.fabric_model.specs.Clocks.ClockEnd.{at_pin, at_register, still, logic}
use Rattle.fabric_model.specs.Faults.{Fault, end_fault, user_fault, clock_faults}
use Rattle.fabric_model.specs.Faults.Fault.{clock}
use Rattle.fabric_model.specs.Links.{LinkSet, class_in}
use Rattle.fabric_wiring.specs.declared.ends.ClockEnd.{ClockEnd as KeptEnd}
use Rattle.fabric_wiring.specs.declared.users.Unclocked.{Unclocked}
use Rattle.fabric_wiring.specs.declared.users.ClockInput.{ClockInput}
use Rattle.fabric_wiring.specs.Ends.{end_in}
use Rattle.fabric_wiring.specs.Users.{fault_of}
use Rattle.fabric_wiring.specs.First.{register_inputs, ram_inputs, is_other, unclocked_with, unclocked_by, unclocked_in, is_at, first_on}

-- ---- the users of some parts, with one part more

pub unclocked-more : {X : Type 0} (links : LinkSet) (ends : List KeptEnd) (inputs : X → List ClockInput) (list : List X) (i : ℕ) (d : X) → i < length list
    → unclocked_in links ends (flat_map inputs (take i list)) ++ unclocked_in links ends (inputs (get_or list i d)) ≡ unclocked_in links ends (flat_map inputs (take (i + 1) list))
unclocked-more links ends inputs list i d there = sym (
    ap (λ l. unclocked_in links ends (flat_map inputs l)) (take_more list i d there)
    ∙ (ap (unclocked_in links ends) (flat_map-append inputs (take i list) (get_or list i d ∷ []) ∙ ap (λ l. flat_map inputs (take i list) ++ l) (append-nil (inputs (get_or list i d))))
    ∙ flat_map-append (unclocked_by links ends) (flat_map inputs (take i list)) (inputs (get_or list i d))))

-- if there is nothing at any tile, there is no first
pub first_on-none : (device : DeviceName) → None ≡ first_on device []
unfolding first_on over_grid
first_on-none device =
    ap first_of (sym (gathered_below-none (grid_height device) (λ y. gathered_below (grid_width device) (λ x. [])) (λ y low. gathered_below-none (grid_width device) (λ x. []) (λ x left. refl))))

-- ---- what tiles give, as faults

fault : Unclocked → Fault
fault found = clock found.x found.y found.user found.net

fault_of-first : (list : List Unclocked) → fault_of (first_of list) ≡ first_of (map fault list)
unfolding fault
fault_of-first [] = refl
fault_of-first (found ∷ list) = refl

-- two ways to gather the same from all tiles
over_grid-same : {A B C : Type 0} (device : DeviceName) (change : A → C) (gives : B → List C) (one : ℕ → ℕ → List A) (two : ℕ → ℕ → List B)
    → ((x y : ℕ) → map change (one x y) ≡ flat_map gives (two x y)) → map change (over_grid device one) ≡ flat_map gives (over_grid device two)
unfolding over_grid
over_grid-same device change gives one two same =
    map-gathered_below change (grid_height device) (λ y. gathered_below (grid_width device) (λ x. one x y))
    ∙ (gathered_below-same (grid_height device) (λ y. map change (gathered_below (grid_width device) (λ x. one x y))) (λ y. flat_map gives (gathered_below (grid_width device) (λ x. two x y)))
    (λ y low.
    map-gathered_below change (grid_width device) (λ x. one x y)
    ∙ (gathered_below-same (grid_width device) (λ x. map change (one x y)) (λ x. flat_map gives (two x y)) (λ x left. same x y)
    ∙ sym (flat_map-gathered_below gives (grid_width device) (λ x. two x y))))
    ∙ sym (flat_map-gathered_below gives (grid_height device) (λ y. gathered_below (grid_width device) (λ x. two x y))))

-- ---- at a tile

-- a user of the fabric
abbrev user_of : ClockInput → User
user_of input = record { x = input.x; y = input.y; user = input.user; net = input.net }

-- a user whose clock has that net
abbrev found_with : ClockInput → ℕ → Unclocked
found_with input net = record { x = input.x; y = input.y; user = input.user; net = net }

module _ (x y : ℕ) where
  tile-end : (input : ClockInput) (net : ℕ) (end : ClockEnd) (here : Bool) → ((input.x == x) && (input.y == y)) ≡ here
      → map fault (filter (is_at x y) (item_if (is_other end) (found_with input net))) ≡ (if here then end_fault (user_of input) net end else [])
  unfolding fault
  tile-end input net (at_pin place turned) true is = refl
  tile-end input net (at_pin place turned) false is = refl
  tile-end input net (at_register class place turned) true is = refl
  tile-end input net (at_register class place turned) false is = refl
  tile-end input net (still bit) true is = refl
  tile-end input net (still bit) false is = refl
  tile-end input net logic true is = rw is refl
  tile-end input net logic false is = rw is refl

  module _ (fabric : Fabric) (links : LinkSet) (ends : List KeptEnd) (same : (net : ℕ) → net < fabric.nets → end_in ends (class_in links net) ≡ clock_end fabric net) where
    tile-with : (input : ClockInput) (net : Option ℕ) → IsNetIn fabric.nets net → (here : Bool) → ((input.x == x) && (input.y == y)) ≡ here
        → map fault (filter (is_at x y) (unclocked_with links ends input net)) ≡ (if here then user_fault fabric (user_of input) net else [])
    tile-with input None in' true is = refl
    tile-with input None in' false is = refl
    tile-with input (Some net) in' here is =
        ap (λ end. map fault (filter (is_at x y) (item_if (is_other end) (found_with input net)))) (same net in')
        ∙ tile-end input net (clock_end fabric net) here is

    -- faults of some inputs at the tile
    faults_in : List ClockInput → List Fault
    faults_in inputs = map fault (filter (is_at x y) (unclocked_in links ends inputs))

    faults-then : (one two : List ClockInput) → faults_in (one ++ two) ≡ faults_in one ++ faults_in two
    unfolding faults_in
    faults-then one two =
        ap (λ l. map fault (filter (is_at x y) l)) (flat_map-append (unclocked_by links ends) one two)
        ∙ (ap (map fault) (filter-append (is_at x y) (unclocked_in links ends one) (unclocked_in links ends two))
        ∙ map-append fault (filter (is_at x y) (unclocked_in links ends one)) (filter (is_at x y) (unclocked_in links ends two)))

    faults-first : (input : ClockInput) (rest : List ClockInput) → IsNetIn fabric.nets input.net → (here : Bool) → ((input.x == x) && (input.y == y)) ≡ here
        → faults_in (input ∷ rest) ≡ (if here then user_fault fabric (user_of input) input.net else []) ++ faults_in rest
    unfolding faults_in
    faults-first input rest in' here is =
        ap (map fault) (filter-append (is_at x y) (unclocked_by links ends input) (unclocked_in links ends rest))
        ∙ (map-append fault (filter (is_at x y) (unclocked_by links ends input)) (filter (is_at x y) (unclocked_in links ends rest))
        ∙ ap (λ l. l ++ map fault (filter (is_at x y) (unclocked_in links ends rest))) (tile-with input input.net in' here is))

    abbrev users_fault : User → List Fault
    users_fault user = user_fault fabric user user.net

    -- the faults of registers
    register_faults : List Register → List Fault
    register_faults registers = flat_map users_fault (map register_user (filter (λ register. (register.x == x) && (register.y == y)) registers))

    register-more : (register : Register) (registers : List Register) (here : Bool) → ((register.x == x) && (register.y == y)) ≡ here
        → register_faults (register ∷ registers) ≡ (if here then users_fault (register_user register) else []) ++ register_faults registers
    unfolding register_faults
    register-more register registers true is = rw is refl
    register-more register registers false is = rw is refl

    registers-tile : (registers : List Register) → All (λ register. IsNetIn fabric.nets register.clk) registers
        → faults_in (flat_map register_inputs registers) ≡ register_faults registers
    unfolding faults_in register_faults
    registers-tile [] all = refl
    registers-tile (register ∷ registers) all =
        let Clocks : Register → Type 0 = λ (r : Register). IsNetIn fabric.nets r.clk in
        let rest = registers-tile registers (All-tail Clocks register registers all) in
        let here = (register.x == x) && (register.y == y) in
        let input : ClockInput = record { x = register.x; y = register.y; user = user_of_kind register.kind; net = register.clk } in
        faults-first input (flat_map register_inputs registers) (All-head Clocks register registers all) here refl
        ∙ (ap (λ l. (if here then users_fault (register_user register) else []) ++ l) rest
        ∙ sym (register-more register registers here refl))

    -- the faults of RAMs
    ram_faults : List RamCell → List Fault
    ram_faults rams = flat_map users_fault (flat_map ram_users (filter (λ ram. (ram.x == x) && (ram.y == y)) rams))

    ram-more : (ram : RamCell) (rams : List RamCell) (here : Bool) → ((ram.x == x) && (ram.y == y)) ≡ here
        → ram_faults (ram ∷ rams)
        ≡ (if here then user_fault fabric (record { x = ram.x; y = ram.y; user = Read; net = ram.rclk }) ram.rclk else [])
        ++ ((if here then user_fault fabric (record { x = ram.x; y = ram.y; user = Write; net = ram.wclk }) ram.wclk else []) ++ ram_faults rams)
    unfolding ram_faults
    ram-more ram rams true is = rw is refl
    ram-more ram rams false is = rw is refl

    rams-tile : (rams : List RamCell) → All (λ ram. IsNetIn fabric.nets ram.rclk) rams → All (λ ram. IsNetIn fabric.nets ram.wclk) rams
        → faults_in (flat_map ram_inputs rams) ≡ ram_faults rams
    unfolding faults_in ram_faults
    rams-tile [] reads writes = refl
    rams-tile (ram ∷ rams) reads writes =
        let Reads : RamCell → Type 0 = λ (r : RamCell). IsNetIn fabric.nets r.rclk in
        let Writes : RamCell → Type 0 = λ (r : RamCell). IsNetIn fabric.nets r.wclk in
        let rest = rams-tile rams (All-tail Reads ram rams reads) (All-tail Writes ram rams writes) in
        let here = (ram.x == x) && (ram.y == y) in
        let read : ClockInput = record { x = ram.x; y = ram.y; user = Read; net = ram.rclk } in
        let write : ClockInput = record { x = ram.x; y = ram.y; user = Write; net = ram.wclk } in
        let after = flat_map ram_inputs rams in
        faults-first read (write ∷ after) (All-head Reads ram rams reads) here refl
        ∙ (ap (λ l. (if here then user_fault fabric (user_of read) ram.rclk else []) ++ l)
        (faults-first write after (All-head Writes ram rams writes) here refl
        ∙ ap (λ l. (if here then user_fault fabric (user_of write) ram.wclk else []) ++ l) rest)
        ∙ sym (ram-more ram rams here refl))

    -- those of all users at the tile
    users-tile : All (λ register. IsNetIn fabric.nets register.clk) fabric.registers → All (λ ram. IsNetIn fabric.nets ram.rclk) fabric.rams → All (λ ram. IsNetIn fabric.nets ram.wclk) fabric.rams
        → faults_in (flat_map register_inputs fabric.registers ++ flat_map ram_inputs fabric.rams) ≡ flat_map users_fault (users_at fabric x y)
    unfolding register_faults ram_faults
    users-tile clocks reads writes =
        let registers = map register_user (filter (λ register. (register.x == x) && (register.y == y)) fabric.registers) in
        let ports = flat_map ram_users (filter (λ ram. (ram.x == x) && (ram.y == y)) fabric.rams) in
        faults-then (flat_map register_inputs fabric.registers) (flat_map ram_inputs fabric.rams)
        ∙ (ap (λ l. l ++ faults_in (flat_map ram_inputs fabric.rams)) (registers-tile fabric.registers clocks)
        ∙ (ap (λ l. register_faults fabric.registers ++ l) (rams-tile fabric.rams reads writes)
        ∙ sym (flat_map-append users_fault registers ports)))

-- ---- the whole

-- the first of all users is the first fault
pub first-fault : (device : DeviceName) (fabric : Fabric) (links : LinkSet) (ends : List KeptEnd)
    → ((net : ℕ) → net < fabric.nets → end_in ends (class_in links net) ≡ clock_end fabric net)
    → All (λ register. IsNetIn fabric.nets register.clk) fabric.registers → All (λ ram. IsNetIn fabric.nets ram.rclk) fabric.rams → All (λ ram. IsNetIn fabric.nets ram.wclk) fabric.rams
    → fault_of (first_on device (unclocked_in links ends (flat_map register_inputs fabric.registers) ++ unclocked_in links ends (flat_map ram_inputs fabric.rams)))
    ≡ first_of (clock_faults device fabric)
unfolding first_on clock_faults users_of faults_in
first-fault device fabric links ends same clocks reads writes =
    let inputs = flat_map register_inputs fabric.registers ++ flat_map ram_inputs fabric.rams in
    let found = unclocked_in links ends inputs in
    ap (λ l. fault_of (first_of (over_grid device (λ x y. filter (is_at x y) l))))
    (sym (flat_map-append (unclocked_by links ends) (flat_map register_inputs fabric.registers) (flat_map ram_inputs fabric.rams)))
    ∙ (fault_of-first (over_grid device (λ x y. filter (is_at x y) found))
    ∙ ap first_of (over_grid-same device fault (λ user. user_fault fabric user user.net) (λ x y. filter (is_at x y) found) (users_at fabric)
    (λ x y. users-tile x y fabric links ends same clocks reads writes)))
