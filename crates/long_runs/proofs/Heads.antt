-- Names in a line.
use Rattle.std.proofs.Common.{◌≡◌, ◌∙◌, ℕ, ◌-◌, Bool, true, false, List, [], ◌∷◌, ◌++◌, flat_map, length, take, refl, sym, ap, ap₂, append_assoc, append-nil, arith, length-append}
use Rattle.std.specs.List.{join_with_byte}
use Rattle.std.specs.Prelude.{if◌then◌else◌}
use Rattle.std.proofs.Math.Seq.{take-append_seam}
use Rattle.std.proofs.lemmas.List.Concat.{flat_map-append}
use Rattle.vlog_module.specs.declared.item.Item.{Item}
use Rattle.vlog_module.specs.declared.modules.Port.{Port}
use Rattle.vlog_module.specs.Parts.{Parts}
use Rattle.vlog_semantics.specs.ModuleSlots.{register_names, word_names}
use Rattle.vlog_semantics.specs.Named.{names_of}
use Rattle.vlog_semantics.specs.Run.{output_start, register_start, word_start}
use Rattle.long_runs.specs.Shown.{shown_names}
use Rattle.long_runs.specs.inside.Names.{output_name, register_name, spaced}

-- ---- lists of names

pub spaced-append : (some more : List (List ℕ)) → spaced (some ++ more) ≡ spaced some ++ spaced more
spaced-append some more = flat_map-append (λ name. name ++ 32 ∷ []) some more

names-append : {A : Type 0} (some more : List (List ℕ × A)) → names_of (some ++ more) ≡ names_of some ++ names_of more
names-append [] more = refl
names-append (first ∷ some) more = ap (λ (names : List (List ℕ)). first.0 ∷ names) (names-append some more)

names-flat_map : {A B : Type 0} (f : A → List (List ℕ × B)) (list : List A) → names_of (flat_map f list) ≡ flat_map (λ one. names_of (f one)) list
names-flat_map f [] = refl
names-flat_map f (first ∷ list) = names-append (f first) (flat_map f list) ∙ ap (λ (names : List (List ℕ)). names_of (f first) ++ names) (names-flat_map f list)

pub output-names : (ports : List Port) → names_of (flat_map output_start ports) ≡ flat_map output_name ports
output-names ports = names-flat_map output_start ports

pub bit-names : (items : List Item) → register_names items ≡ flat_map (register_name false) items
bit-names items = names-flat_map register_start items

pub sixteen-names : (items : List Item) → word_names items ≡ flat_map (register_name true) items
sixteen-names items = names-flat_map word_start items

-- the names of all registers are added, if they are asked for
pub asked-names : (text one two : List ℕ) (items : List Item) (registers : Bool) → registers ≡ true → one ≡ text ++ spaced (flat_map (register_name false) items)
    → two ≡ one ++ spaced (flat_map (register_name true) items) → two ≡ text ++ spaced (if registers then register_names items ++ word_names items else [])
asked-names text one two items true is first second =
    second
    ∙ ap (λ (front : List ℕ). front ++ spaced (flat_map (register_name true) items)) first
    ∙ append_assoc text (spaced (flat_map (register_name false) items)) (spaced (flat_map (register_name true) items))
    ∙ ap (λ (names : List ℕ). text ++ names)
    (sym (spaced-append (flat_map (register_name false) items) (flat_map (register_name true) items))
    ∙ ap₂ (λ (bits words : List (List ℕ)). spaced (bits ++ words)) (sym (bit-names items)) (sym (sixteen-names items)))
asked-names text one two items false is first second = cc

-- the names of the outputs and of the registers
pub names-spaced : (m : Parts) (registers : Bool) (ports : List Port) (items : List Item) (none one two : List ℕ) → none ≡ [] → ports ≡ m.ports → items ≡ m.items
    → one ≡ none ++ spaced (flat_map output_name ports) → two ≡ one ++ spaced (if registers then register_names items ++ word_names items else [])
    → two ≡ spaced (shown_names m registers)
names-spaced m registers ports items none one two empty ports_are items_are first second =
    let rest : List (List ℕ) = if registers then register_names m.items ++ word_names m.items else [] in
    let outputs : one ≡ spaced (flat_map output_name m.ports) =
    first ∙ ap₂ (λ (front : List ℕ) (list : List Port). front ++ spaced (flat_map output_name list)) empty ports_are in
    second
    ∙ ap₂ (λ (front : List ℕ) (list : List Item). front ++ spaced (if registers then register_names list ++ word_names list else [])) outputs items_are
    ∙ ap (λ (names : List (List ℕ)). spaced names ++ spaced rest) (sym (output-names m.ports))
    ∙ sym (spaced-append (names_of (flat_map output_start m.ports)) rest)

-- ---- the line

spaced-joined : (first : List ℕ) (names : List (List ℕ)) → spaced (first ∷ names) ≡ join_with_byte 32 (first ∷ names) ++ 32 ∷ []
spaced-joined first [] = append-nil (first ++ 32 ∷ [])
spaced-joined first (second ∷ names) =
    let joined : List ℕ = join_with_byte 32 (second ∷ names) in
    ap (λ (text : List ℕ). (first ++ 32 ∷ []) ++ text) (spaced-joined second names)
    ∙ append_assoc first (32 ∷ []) (joined ++ 32 ∷ [])
    ∙ sym (append_assoc first (32 ∷ joined) (32 ∷ []))

-- the last space goes
pub joined-is : (names : List (List ℕ)) → take (length (spaced names) - 1) (spaced names) ≡ join_with_byte 32 names
joined-is [] = refl
joined-is (first ∷ names) =
    let joined : List ℕ = join_with_byte 32 (first ∷ names) in
    let short : length (joined ++ 32 ∷ []) - 1 ≡ length joined = omega (arith, length-append joined (32 ∷ [])) in
    ap (λ (text : List ℕ). take (length text - 1) text) (spaced-joined first names)
    ∙ ap (λ n. take n (joined ++ 32 ∷ [])) short
    ∙ take-append_seam joined (32 ∷ [])
