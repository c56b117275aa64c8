-- Each name that an item of a well-formed module uses is declared in it.
use Rattle.std.proofs.Common.{◌≡◌, ℕ, ◌+◌, ◌<◌, Bool, true, false, not, cond, ◌||◌, List, [], ◌∷◌, ◌++◌, append_assoc, Option, Some, None, flat_map, get_or, length, take, drop, refl, sym, subst, ap, ◌∙◌}
use Rattle.std.specs.Prelude.{All, IsTrue, bytes_eq, is_some, map}
use Rattle.std.proofs.lemmas.List.{map-append, take-append-drop, take_more}
use Rattle.std.proofs.lemmas.List.Concat.{flat_map-append}
use Rattle.std.proofs.lemmas.List.Folds.{list_any-append}
use Rattle.std.proofs.lemmas.List.Elements.{All-nil, All-cons, All-head, All-tail, All-weaker}
use Rattle.std.proofs.lemmas.Option.{slice_get-get_or}
use Rattle.shared_lemmas.proofs.Lists.{flat_map-push}
use Rattle.shared_lemmas.proofs.Tests.{first_true, first_false}
use Rattle.vlog_module.specs.declared.item.Item.{Item}
use Rattle.vlog_module.specs.declared.modules.Port.{Port}
use Rattle.vlog_module.specs.declared.sort.Sort.{Sort}
use Rattle.vlog_module.specs.declared.sort.Sort.TheVariants.{Register, Word, Memory}
use Rattle.vlog_module.specs.Maps.{value_in}
use Rattle.vlog_module.specs.Parts.{Parts}
use Rattle.vlog_module.specs.Uses.{Use, uses_of, used_name}
use Rattle.vlog_module.specs.Uses.Use.{Declares, Reads, ReadsBit, Clocks, Takes, Assigns, Chooses, AssignsAsync, Starts}
use Rattle.vlog_module.specs.WellFormed.{IsModule, Scope, declared_by, has_bit, is_clock, is_first, is_known, is_read_unless, is_sort, port_sort, scope_of, sort_in}
use Rattle.vlog_semantics.specs.Named.{has_name, names_of}
use Rattle.port_names.specs.Fresh.{declared_names, port_names}
use Rattle.port_names.proofs.Exchange.{itself}

-- ---- lists of names

pub has_name-append : (names more : List (List ℕ)) (name : List ℕ) → has_name (names ++ more) name ≡ (has_name names name || has_name more name)
has_name-append names more name = list_any-append (λ other. bytes_eq other name) names more

-- a name of the first list, and one of the second
pub in-first : (names more : List (List ℕ)) (name : List ℕ) → has_name names name ≡ true → has_name (names ++ more) name ≡ true
in-first names more name is = has_name-append names more name ∙ ap (λ b. b || has_name more name) is

or-true : (b : Bool) → (b || true) ≡ true
or-true true = refl
or-true false = refl

pub in-second : (names more : List (List ℕ)) (name : List ℕ) → has_name more name ≡ true → has_name (names ++ more) name ≡ true
in-second names more name is = has_name-append names more name ∙ ap (λ b. has_name names name || b) is ∙ or-true (has_name names name)

-- a name with a value
pub found-name : {A : Type 0} (entries : List (List ℕ × A)) (name : List ℕ) → is_some (value_in entries name) ≡ has_name (names_of entries) name
found-name [] name = refl
found-name {A = A} (entry ∷ entries) name =
    elim (bytes_eq entry.0 name) as (λ b. is_some (cond b (Some entry.1) (value_in entries name)) ≡ (b || has_name (names_of entries) name)) [ true ↦ refl | false ↦ found-name entries name ]

-- ---- uses are of declared names

sort-found : (sort : Sort) (found : Option Sort) → is_sort sort found ≡ true → is_some found ≡ true
sort-found sort (Some other) is = refl
sort-found sort None is = cc

bit-found : (found : Option Sort) → has_bit found ≡ true → is_some found ≡ true
bit-found (Some other) is = refl
bit-found None is = cc

clock-found : (found : Option Sort) → is_clock found ≡ true → is_some found ≡ true
clock-found (Some other) is = refl
clock-found None is = cc

-- what is used stands before or is declared by the use itself
abbrev pub names_by : List Use → List (List ℕ)
names_by uses = names_of (flat_map declared_by uses)

itself-or-before : (scope : Scope) (used : Use) → IsTrue (is_known scope used) → has_name (names_of scope.declared ++ names_of (declared_by used)) (used_name used) ≡ true
itself-or-before scope (Declares sort name) known = in-second (names_of scope.declared) (name ∷ []) name (ap (λ b. b || false) (itself name))
itself-or-before scope (Reads name) known = in-first (names_of scope.declared) [] name (sym (found-name scope.declared name) ∙ bit-found (sort_in scope.declared name) known)
itself-or-before scope (ReadsBit name k) known = in-first (names_of scope.declared) [] name (sym (found-name scope.declared name) ∙ sort-found Word (sort_in scope.declared name) known)
itself-or-before scope (Clocks name) known = in-first (names_of scope.declared) [] name (sym (found-name scope.declared name) ∙ clock-found (sort_in scope.declared name) known)
itself-or-before scope (Takes sort name) known = in-first (names_of scope.declared) [] name (sym (found-name scope.declared name) ∙ sort-found sort (sort_in scope.declared name) known)
itself-or-before scope (Assigns sort name) known = in-first (names_of scope.declared) [] name (sym (found-name scope.declared name) ∙ sort-found sort (sort_in scope.declared name) known)
itself-or-before scope (Chooses reset set name) known = in-first (names_of scope.declared) [] name (sym (found-name scope.declared name) ∙ sort-found Register (sort_in scope.declared name) known)
itself-or-before scope (AssignsAsync reset set name) known =
    in-first (names_of scope.declared) [] name
    (sym (found-name scope.declared name) ∙ sort-found Register (sort_in scope.declared name) (first_true (is_sort Register (sort_in scope.declared name)) (is_read_unless scope.read reset set name) known))
itself-or-before scope (Starts name k) known = in-first (names_of scope.declared) [] name (sym (found-name scope.declared name) ∙ sort-found Memory (sort_in scope.declared name) known)

or-between : (a b c : Bool) → (a || c) ≡ true → (a || (b || c)) ≡ true
or-between true b c is = refl
or-between false true c is = refl
or-between false false c is = is

in-between : (before some more : List (List ℕ)) (name : List ℕ) → has_name (before ++ more) name ≡ true → has_name (before ++ (some ++ more)) name ≡ true
in-between before some more name is =
    has_name-append before (some ++ more) name ∙ ap (λ b. has_name before name || b) (has_name-append some more name)
    ∙ or-between (has_name before name) (has_name some name) (has_name more name) (sym (has_name-append before more name) ∙ is)

all-found : (before : List (List ℕ)) (uses : List Use) → All (λ used. has_name (before ++ names_of (declared_by used)) (used_name used) ≡ true) uses
    → All (λ used. has_name (before ++ names_by uses) (used_name used) ≡ true) uses
all-found before [] all = All-nil (λ used. has_name (before ++ []) (used_name used) ≡ true)
all-found before (one ∷ uses) all =
    let here : List (List ℕ) = names_of (declared_by one) in
    let rest : List (List ℕ) = names_by uses in
    let joined : before ++ names_by (one ∷ uses) ≡ before ++ (here ++ rest) = ap (λ list. before ++ list) (map-append (λ (e : List ℕ × Sort). e.0) (declared_by one) (flat_map declared_by uses)) in
    subst (λ names. All (λ used. has_name names (used_name used) ≡ true) (one ∷ uses)) (sym joined)
    (All-cons (λ used. has_name (before ++ (here ++ rest)) (used_name used) ≡ true) one uses
    (ap (λ names. has_name names (used_name one)) (sym (append_assoc before here rest))
    ∙ in-first (before ++ here) rest (used_name one) (All-head (λ used. has_name (before ++ names_of (declared_by used)) (used_name used) ≡ true) one uses all))
    (All-weaker (λ used. has_name (before ++ rest) (used_name used) ≡ true) (λ used. has_name (before ++ (here ++ rest)) (used_name used) ≡ true)
    (λ used is. in-between before here rest (used_name used) is) uses
    (all-found before uses (All-tail (λ used. has_name (before ++ names_of (declared_by used)) (used_name used) ≡ true) one uses all))))

-- what all items declare: what the items before one declare, what it declares itself, and what the items after it declare
declared-apart : (m : Parts) (i : ℕ) (d : Item) → i < length m.items
    → declared_names m ≡ (names_of (scope_of m.ports (take i m.items)).declared ++ names_by (uses_of (get_or m.items i d))) ++ names_by (flat_map uses_of (drop (i + 1) m.items))
declared-apart m i d within =
    let ports : List (List ℕ × Sort) = map (λ (port : Port). let one : List ℕ × Sort = (port.name, port_sort port) in one) m.ports in
    let of : List Item → List (List ℕ × Sort) = λ items. flat_map declared_by (flat_map uses_of items) in
    let of_append : (some more : List Item) → of (some ++ more) ≡ of some ++ of more =
    λ some more. ap (flat_map declared_by) (flat_map-append uses_of some more) ∙ flat_map-append declared_by (flat_map uses_of some) (flat_map uses_of more) in
    let one : List (List ℕ × Sort) = flat_map declared_by (uses_of (get_or m.items i d)) in
    let upto : of (take (i + 1) m.items) ≡ of (take i m.items) ++ one =
    ap of (take_more m.items i d within) ∙ ap (flat_map declared_by) (flat_map-push uses_of (take i m.items) (get_or m.items i d))
    ∙ flat_map-append declared_by (flat_map uses_of (take i m.items)) (uses_of (get_or m.items i d)) in
    let all : of m.items ≡ (of (take i m.items) ++ one) ++ of (drop (i + 1) m.items) =
    ap of (sym (take-append-drop (i + 1) m.items)) ∙ of_append (take (i + 1) m.items) (drop (i + 1) m.items) ∙ ap (λ list. list ++ of (drop (i + 1) m.items)) upto in
    let whole : ports ++ of m.items ≡ ((ports ++ of (take i m.items)) ++ one) ++ of (drop (i + 1) m.items) =
    ap (λ list. ports ++ list) all ∙ sym (append_assoc ports (of (take i m.items) ++ one) (of (drop (i + 1) m.items)))
    ∙ ap (λ list. list ++ of (drop (i + 1) m.items)) (sym (append_assoc ports (of (take i m.items)) one)) in
    ap names_of whole ∙ map-append (λ (e : List ℕ × Sort). e.0) ((ports ++ of (take i m.items)) ++ one) (of (drop (i + 1) m.items))
    ∙ ap (λ list. list ++ names_of (of (drop (i + 1) m.items))) (map-append (λ (e : List ℕ × Sort). e.0) (ports ++ of (take i m.items)) one)

-- each name that an item of a well-formed module uses is declared
pub used-declared : (m : Parts) → IsModule m → All (λ item. All (λ used. has_name (declared_names m) (used_name used) ≡ true) (uses_of item)) m.items
used-declared m whole i d within =
    let item : Item = get_or m.items i d in
    let scope : Scope = scope_of m.ports (take i m.items) in
    let known : All (λ used. IsTrue (is_known scope used)) (uses_of item) = (whole.begun.allowed i item (slice_get-get_or m.items i d within)).known in
    let before : List (List ℕ) = names_of scope.declared in
    let here : List (List ℕ) = before ++ names_by (uses_of item) in
    let found : All (λ used. has_name here (used_name used) ≡ true) (uses_of item) =
    all-found before (uses_of item) (All-weaker (λ used. IsTrue (is_known scope used)) (λ used. has_name (before ++ names_of (declared_by used)) (used_name used) ≡ true) (itself-or-before scope) (uses_of item) known) in
    subst (λ names. All (λ used. has_name names (used_name used) ≡ true) (uses_of item)) (sym (declared-apart m i d within))
    (All-weaker (λ used. has_name here (used_name used) ≡ true) (λ used. has_name (here ++ names_by (flat_map uses_of (drop (i + 1) m.items))) (used_name used) ≡ true)
    (λ used is. in-first here (names_by (flat_map uses_of (drop (i + 1) m.items))) (used_name used) is) (uses_of item) found)

-- so is each port
ports-named : (ports : List Port) → names_of (map (λ port. (port.name, port_sort port)) ports) ≡ port_names ports
ports-named [] = refl
ports-named (port ∷ ports) = ap (λ rest. port.name ∷ rest) (ports-named ports)

ports-among : (ports : List Port) → All (λ port. has_name (port_names ports) port.name ≡ true) ports
ports-among [] = All-nil (λ port. has_name [] port.name ≡ true)
ports-among (port ∷ ports) =
    All-cons (λ other. has_name (port.name ∷ port_names ports) other.name ≡ true) port ports (ap (λ b. b || has_name (port_names ports) port.name) (itself port.name))
    (All-weaker (λ other. has_name (port_names ports) other.name ≡ true) (λ other. has_name (port.name ∷ port_names ports) other.name ≡ true)
    (λ other is. in-second (port.name ∷ []) (port_names ports) other.name is) ports (ports-among ports))

-- what a module declares: its ports, and what its items do
pub declared-parts : (ports : List Port) (items : List Item) → names_of (scope_of ports items).declared ≡ port_names ports ++ names_by (flat_map uses_of items)
declared-parts ports items =
    map-append (λ (e : List ℕ × Sort). e.0) (map (λ (port : Port). let one : List ℕ × Sort = (port.name, port_sort port) in one) ports) (flat_map declared_by (flat_map uses_of items))
    ∙ ap (λ list. list ++ names_by (flat_map uses_of items)) (ports-named ports)

pub ports-declared : (m : Parts) → All (λ port. has_name (declared_names m) port.name ≡ true) m.ports
ports-declared m =
    subst (λ names. All (λ port. has_name names port.name ≡ true) m.ports) (sym (declared-parts m.ports m.items))
    (All-weaker (λ port. has_name (port_names m.ports) port.name ≡ true) (λ port. has_name (port_names m.ports ++ names_by (flat_map uses_of m.items)) port.name ≡ true)
    (λ port is. in-first (port_names m.ports) (names_by (flat_map uses_of m.items)) port.name is) m.ports (ports-among m.ports))

-- the names that an item declares are among those that it uses
names-by-used : (P : List ℕ → Type 0) (uses : List Use) → All (λ used. P (used_name used)) uses → All P (names_by uses)
names-by-used P [] all = All-nil P
names-by-used P (Declares sort name ∷ uses) all =
    All-cons P name (names_by uses) (All-head (λ used. P (used_name used)) (Declares sort name) uses all) (names-by-used P uses (All-tail (λ used. P (used_name used)) (Declares sort name) uses all))
names-by-used P (used ∷ uses) all = names-by-used P uses (All-tail (λ one. P (used_name one)) used uses all)

pub names-declared : (m : Parts) → IsModule m → All (λ item. All (λ name. has_name (declared_names m) name ≡ true) (names_by (uses_of item))) m.items
names-declared m whole =
    All-weaker (λ item. All (λ used. has_name (declared_names m) (used_name used) ≡ true) (uses_of item)) (λ item. All (λ name. has_name (declared_names m) name ≡ true) (names_by (uses_of item)))
    (λ item all. names-by-used (λ name. has_name (declared_names m) name ≡ true) (uses_of item) all) m.items (used-declared m whole)

-- what an item declares is no port
none-found : {A : Type 0} (found : Option A) → IsTrue (not (is_some found)) → is_some found ≡ false
none-found (Some value) none = cc
none-found None none = refl

no-ports : (ports : List Port) (before : List Item) (uses : List Use) → All (λ used. IsTrue (is_first (scope_of ports before) used)) uses → All (λ name. has_name (port_names ports) name ≡ false) (names_by uses)
no-ports ports before [] all = All-nil (λ name. has_name (port_names ports) name ≡ false)
no-ports ports before (Declares sort name ∷ uses) all =
    let scope : Scope = scope_of ports before in
    let unknown : is_some (sort_in scope.declared name) ≡ false = none-found (sort_in scope.declared name) (All-head (λ used. IsTrue (is_first scope used)) (Declares sort name) uses all) in
    let away : (has_name (port_names ports) name || has_name (names_by (flat_map uses_of before)) name) ≡ false =
    sym (has_name-append (port_names ports) (names_by (flat_map uses_of before)) name) ∙ sym (ap (λ names. has_name names name) (declared-parts ports before))
    ∙ sym (found-name scope.declared name) ∙ unknown in
    All-cons (λ other. has_name (port_names ports) other ≡ false) name (names_by uses) (first_false (has_name (port_names ports) name) (has_name (names_by (flat_map uses_of before)) name) away)
    (no-ports ports before uses (All-tail (λ used. IsTrue (is_first scope used)) (Declares sort name) uses all))
no-ports ports before (used ∷ uses) all = no-ports ports before uses (All-tail (λ one. IsTrue (is_first (scope_of ports before) one)) used uses all)

pub names-no_ports : (m : Parts) → IsModule m → All (λ item. All (λ name. has_name (port_names m.ports) name ≡ false) (names_by (uses_of item))) m.items
names-no_ports m whole i d within =
    no-ports m.ports (take i m.items) (uses_of (get_or m.items i d)) (whole.begun.allowed i (get_or m.items i d) (slice_get-get_or m.items i d within)).first
