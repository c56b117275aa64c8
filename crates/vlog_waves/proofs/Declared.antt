-- The variables that items declare.
use Rattle.std.proofs.Common.{◌≡◌, ◌∙◌, ℕ, suc, ◌+◌, ◌<◌, ◌≤◌, Bool, List, [], ◌∷◌, ◌++◌, drop, get_or, length, map, refl, ap, sym, arith, length-append}
use Rattle.std.specs.Prelude.{flat_map}
use Rattle.std.proofs.lemmas.List.{drop_more, length-map, map-append}
use Rattle.std.proofs.Common.{drop_of_length-le}
use Rattle.text_lines.specs.Written.{text_of}
use Rattle.vlog_module.specs.declared.item.Item.{Item}
use Rattle.vlog_module.specs.declared.modules.Port.{Port}
use Rattle.vlog_semantics.specs.ModuleSlots.{wire_start}
use Rattle.vlog_semantics.specs.Run.{register_start, word_start}
use Rattle.vlog_waves.specs.Variables.{Kind as kind_told, Variable, of_kind}
use Rattle.vlog_waves.specs.Variables.Kind.{wire_kind}
use Rattle.vlog_waves.specs.Waves.{variable_line, variable_lines}
use Rattle.vlog_waves.specs.inside.Declared.{declared_by, kind_of, names_of_kind, shown, shown_by, shown_of_kind}
use Rattle.vlog_waves.specs.declared.items.Kind.{Kind}
use Rattle.vlog_waves.specs.declared.items.Kind.TheVariants.{Wire, Register, Word}
use Rattle.vlog_waves.proofs.Cuts.{variables-append}
use Rattle.vlog_waves.proofs.Texts.{text_of-append, text_of-cons, text_of-none}

-- the names of an item before those of others
pub names-cons : (kind : Kind) (item : Item) (items : List Item) → names_of_kind kind (item ∷ items) ≡ declared_by kind item ++ names_of_kind kind items
names-cons Wire item items = map-append (λ (e : List ℕ × Bool). e.0) (wire_start item) (flat_map wire_start items)
names-cons Register item items = map-append (λ (e : List ℕ × Bool). e.0) (register_start item) (flat_map register_start items)
names-cons Word item items = map-append (λ (e : List ℕ × ℕ). e.0) (word_start item) (flat_map word_start items)

pub names-none : (kind : Kind) → names_of_kind kind [] ≡ []
names-none Wire = refl
names-none Register = refl
names-none Word = refl

-- those from a place on
pub names-cut : (kind : Kind) (items : List Item) (place : ℕ) (d : Item) → place < length items
    → names_of_kind kind (drop place items) ≡ declared_by kind (get_or items place d) ++ names_of_kind kind (drop (place + 1) items)
names-cut kind items place d within =
    ap (names_of_kind kind) (drop_more items place d within) ∙ names-cons kind (get_or items place d) (drop (place + 1) items)

-- how many there are
pub count-cut : (kind : Kind) (items : List Item) (place : ℕ) (d : Item) → place < length items
    → length (names_of_kind kind (drop place items)) ≡ length (declared_by kind (get_or items place d)) + length (names_of_kind kind (drop (place + 1) items))
count-cut kind items place d within =
    ap length (names-cut kind items place d within) ∙ length-append (declared_by kind (get_or items place d)) (names_of_kind kind (drop (place + 1) items))

-- the same by the item there
pub count-next : (kind : Kind) (items : List Item) (place : ℕ) (item : Item) → place < length items → item ≡ get_or items place item
    → length (names_of_kind kind (drop place items)) ≡ length (declared_by kind item) + length (names_of_kind kind (drop (place + 1) items))
count-next kind items place item within is =
    count-cut kind items place item within ∙ ap (λ (one : Item). length (declared_by kind one) + length (names_of_kind kind (drop (place + 1) items))) (sym is)

-- the lines of variables of a kind, after others
pub kinds-append : (kind : kind_told) (number : ℕ) (some more : List (List ℕ)) → text_of (variable_lines number (of_kind kind (some ++ more)))
    ≡ text_of (variable_lines number (of_kind kind some)) ++ text_of (variable_lines (number + length some) (of_kind kind more))
kinds-append kind number some more =
    let variable : List ℕ → Variable = λ name. record { kind = kind; name = name } in
    ap (λ variables. text_of (variable_lines number variables)) (map-append variable some more)
    ∙ ap text_of (variables-append number (of_kind kind some) (of_kind kind more))
    ∙ text_of-append (variable_lines number (of_kind kind some)) (variable_lines (number + length (of_kind kind some)) (of_kind kind more))
    ∙ ap (λ n. text_of (variable_lines number (of_kind kind some)) ++ text_of (variable_lines (number + n) (of_kind kind more))) (length-map some variable)

-- how they are written, from a place on
shown-cut : (names : List (List ℕ × List ℕ)) (kind : Kind) (items : List Item) (place : ℕ) (d : Item) → place < length items
    → shown_of_kind names kind (drop place items) ≡ shown_by names kind (get_or items place d) ++ shown_of_kind names kind (drop (place + 1) items)
shown-cut names kind items place d within =
    ap (map (shown names kind)) (names-cut kind items place d within)
    ∙ map-append (shown names kind) (declared_by kind (get_or items place d)) (names_of_kind kind (drop (place + 1) items))

-- the lines of items from a place on
pub items-cut : (names : List (List ℕ × List ℕ)) (kind : Kind) (number : ℕ) (items : List Item) (place : ℕ) (d : Item) → place < length items
    → text_of (variable_lines number (of_kind (kind_of kind) (shown_of_kind names kind (drop place items))))
    ≡ text_of (variable_lines number (of_kind (kind_of kind) (shown_by names kind (get_or items place d))))
    ++ text_of (variable_lines (number + length (declared_by kind (get_or items place d))) (of_kind (kind_of kind) (shown_of_kind names kind (drop (place + 1) items))))
items-cut names kind number items place d within =
    let item : Item = get_or items place d in
    let more : List (List ℕ) = shown_of_kind names kind (drop (place + 1) items) in
    ap (λ list. text_of (variable_lines number (of_kind (kind_of kind) list))) (shown-cut names kind items place d within)
    ∙ kinds-append (kind_of kind) number (shown_by names kind item) more
    ∙ ap (λ n. text_of (variable_lines number (of_kind (kind_of kind) (shown_by names kind item))) ++ text_of (variable_lines (number + n) (of_kind (kind_of kind) more)))
    (length-map (declared_by kind item) (shown names kind))

-- the same by the item there and the number of the next variable
pub items-next : (names : List (List ℕ × List ℕ)) (kind : Kind) (number next : ℕ) (items : List Item) (place : ℕ) (item : Item) → place < length items → item ≡ get_or items place item
    → next ≡ number + length (declared_by kind item)
    → text_of (variable_lines number (of_kind (kind_of kind) (shown_of_kind names kind (drop place items))))
    ≡ text_of (variable_lines number (of_kind (kind_of kind) (shown_by names kind item)))
    ++ text_of (variable_lines next (of_kind (kind_of kind) (shown_of_kind names kind (drop (place + 1) items))))
items-next names kind number next items place item within is next_is =
    let told = kind_of kind in
    let more = of_kind told (shown_of_kind names kind (drop (place + 1) items)) in
    items-cut names kind number items place item within
    ∙ ap (λ (one : Item). text_of (variable_lines number (of_kind told (shown_by names kind one))) ++ text_of (variable_lines (number + length (declared_by kind one)) more)) (sym is)
    ∙ ap (λ n. text_of (variable_lines number (of_kind told (shown_by names kind item))) ++ text_of (variable_lines n more)) (sym next_is)

-- no items are left
pub items-end : (names : List (List ℕ × List ℕ)) (kind : Kind) (number : ℕ) (items : List Item) (place : ℕ) → length items ≤ place
    → text_of (variable_lines number (of_kind (kind_of kind) (shown_of_kind names kind (drop place items)))) ≡ []
items-end names kind number items place past =
    ap (λ (rest : List Item). text_of (variable_lines number (of_kind (kind_of kind) (shown_of_kind names kind rest)))) (drop_of_length-le items past)
    ∙ ap (λ list. text_of (variable_lines number (of_kind (kind_of kind) (map (shown names kind) list)))) (names-none kind) ∙ text_of-none

-- registers have their own names
pub shown-register : (names : List (List ℕ × List ℕ)) (list : List (List ℕ)) → map (shown names Register) list ≡ list
shown-register names [] = refl
shown-register names (name ∷ list) = ap (λ rest. name ∷ rest) (shown-register names list)

pub shown-word : (names : List (List ℕ × List ℕ)) (list : List (List ℕ)) → map (shown names Word) list ≡ list
shown-word names [] = refl
shown-word names (name ∷ list) = ap (λ rest. name ∷ rest) (shown-word names list)

-- the lines of ports from a place on
pub ports-cut : (ports : List Port) (place : ℕ) (d : Port) → place < length ports
    → text_of (variable_lines place (of_kind wire_kind (map (λ port. port.name) (drop place ports))))
    ≡ text_of (variable_line place (record { kind = wire_kind; name = (get_or ports place d).name }) ∷ [])
    ++ text_of (variable_lines (place + 1) (of_kind wire_kind (map (λ port. port.name) (drop (place + 1) ports))))
ports-cut ports place d within =
    let names : List (List ℕ) = map (λ port. port.name) (drop (place + 1) ports) in
    let line : List ℕ = variable_line place (record { kind = wire_kind; name = (get_or ports place d).name }) in
    let same : suc place ≡ place + 1 = omega arith in
    ap (λ (rest : List Port). text_of (variable_lines place (of_kind wire_kind (map (λ port. port.name) rest)))) (drop_more ports place d within)
    ∙ text_of-cons line (variable_lines (suc place) (of_kind wire_kind names))
    ∙ ap (λ n. text_of (line ∷ []) ++ text_of (variable_lines n (of_kind wire_kind names))) same

-- the same by the port there and its name
pub ports-next : (ports : List Port) (place : ℕ) (port : Port) (name : List ℕ) → place < length ports → port ≡ get_or ports place port → name ≡ port.name
    → text_of (variable_lines place (of_kind wire_kind (map (λ port. port.name) (drop place ports))))
    ≡ text_of (variable_line place (record { kind = wire_kind; name = name }) ∷ [])
    ++ text_of (variable_lines (place + 1) (of_kind wire_kind (map (λ port. port.name) (drop (place + 1) ports))))
ports-next ports place port name within is name_is =
    ports-cut ports place port within
    ∙ ap (λ (name : List ℕ). text_of (variable_line place (record { kind = wire_kind; name = name }) ∷ [])
    ++ text_of (variable_lines (place + 1) (of_kind wire_kind (map (λ port. port.name) (drop (place + 1) ports)))))
    (sym (name_is ∙ ap (λ (port : Port). port.name) is))
