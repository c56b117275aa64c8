-- The header and the declarations of the ports of a well-formed module are read without a fault.
use Rattle.std.proofs.Common.{◌≡◌, ℕ, Bool, true, false, ◌||◌, List, [], ◌∷◌, ◌++◌, map, refl, ap, sym, ◌∙◌, append_assoc, ◌⊎◌, inl, inr}
use Rattle.std.proofs.lemmas.List.{append-nil}
use Rattle.std.specs.Prelude.{Result, Ok, Err, Some, None, if◌then◌else◌, flat_map, bytes_eq}
use Rattle.std.specs.List.{list_any, IsDistinct, AllByRecursion}
use Rattle.vlog_tokens.specs.declared.fixed.Fixed.TheVariants as sign
use Rattle.vlog_tokens.specs.Tokens.{TokenValue, Spot}
use Rattle.vlog_tokens.specs.Tokens.{TokenValue as token}
use Rattle.vlog_module.specs.declared.sort.Sort.TheVariants as sort
use Rattle.vlog_module.specs.declared.modules.Port.{Port}
use Rattle.vlog_module.specs.Parts.{Parts}
use Rattle.vlog_forms.specs.declared.form.Form.{Form}
use Rattle.vlog_forms.specs.declared.form.Form.TheVariants as form
use Rattle.vlog_forms.specs.declared.fault.VlogCause.TheVariants.{AssignedTwice}
use Rattle.vlog_forms.specs.declared.slot.Role.TheVariants.{Declares}
use Rattle.vlog_forms.specs.Values.Value.{Name}
use Rattle.vlog_forms.specs.Layout.{slots_of, filled}
use Rattle.vlog_forms.specs.Items.{tokens_in, port_form, port_tokens, names_tokens, more_names, name_in}
use Rattle.vlog_forms.specs.Reading.{Found, found_at, Reading, read_slots, Whole, first_whole, or_further, read_forms, port_forms}
use Rattle.vlog_forms.specs.Outcome.{Fault, fault, after, ports_outcome, is_output, port_of, Turn, port_step, next_port, port_names, twice_fault}
use Rattle.vlog_forms.specs.Outcome.Turn.{Opened, Named, Parted}
use Rattle.vlog_forms.proofs.SlotLists.{FitAll, SlotsRead, slots-read, slots-stand}
use Rattle.vlog_forms.proofs.Forms.{form-sound}

-- ---- declarations

-- a port's declaration is read
pub record PortIsRead (end : ℕ) (given : Found) (spots : List Spot) (port : Port) (tail : List TokenValue) : Type 0 where
  pub whole : Whole
  pub reads : read_forms end (given ∷ []) port_forms spots ≡ Ok whole
  pub is : is_output whole.form ≡ port.output
  pub left : tokens_in whole.spots ≡ tail

declared : (end : ℕ) (one : Form) (given : Found) (name : List ℕ) (spots : List Spot) (tail : List TokenValue) → given.value ≡ Name (Declares sort.Input) name
    → (one ≡ form.Input) ⊎ (one ≡ form.Output) → tokens_in spots ≡ filled (slots_of one) (Name (Declares sort.Input) name ∷ []) [] ++ tail
    → SlotsRead (read_slots end (slots_of one) (given ∷ []) spots) (given ∷ []) [] tail
unfolding slots_of FitAll
declared end form.Input given name spots tail is which stands =
    slots-read end (slots_of form.Input) (given ∷ []) [] spots tail (form-sound form.Input) (tt, (tt, (tt, (tt, tt))))
    (stands ∙ ap (λ v. filled (slots_of form.Input) (v ∷ []) [] ++ tail) (sym is))
declared end form.Output given name spots tail is which stands =
    slots-read end (slots_of form.Output) (given ∷ []) [] spots tail (form-sound form.Output) (tt, (tt, (tt, (tt, tt))))
    (stands ∙ ap (λ v. filled (slots_of form.Output) (v ∷ []) [] ++ tail) (sym is))
declared end one given name spots tail is (inl which) stands = absurd cc
declared end one given name spots tail is (inr which) stands = absurd cc

-- a declaration of an output is no declaration of an input
input-stuck : (end : ℕ) (given : Found) (spots : List Spot) (more : List TokenValue) (reading : Reading (List Found)) → tokens_in spots ≡ token.fixed sign.Output ∷ more
    → read_slots end (slots_of form.Input) (given ∷ []) spots ≡ reading → (stuck : ℕ) × (reading ≡ Err stuck)
unfolding slots_of filled
input-stuck end given spots more (Err stuck) stands reads = (stuck, refl)
input-stuck end given spots more (Ok step) stands reads =
    let there = slots-stand end (slots_of form.Input) (given ∷ []) spots step.0 step.1 reads in
    let both : token.fixed sign.Output ∷ more ≡ _ = sym stands ∙ there.tokens in
    absurd cc

output-first : (end : ℕ) (given : Found) (name : List ℕ) (tail : List TokenValue)
    → (more : List TokenValue) × (filled (slots_of form.Output) (Name (Declares sort.Input) name ∷ []) [] ++ tail ≡ token.fixed sign.Output ∷ more)
unfolding slots_of filled
output-first end given name tail = (token.name name ∷ token.fixed sign.Semicolon ∷ tail, refl)

port_case : (b : Bool) (end : ℕ) (given : Found) (name : List ℕ) (spots : List Spot) (port : Port) (tail : List TokenValue) → port.output ≡ b → given.value ≡ Name (Declares sort.Input) name
    → tokens_in spots ≡ filled (slots_of (port_form b)) (Name (Declares sort.Input) name ∷ []) [] ++ tail → PortIsRead end given spots port tail
unfolding read_forms
port_case false end given name spots port tail output is stands =
    let read = declared end form.Input given name spots tail is (inl refl) stands in
    record {
      whole = record { form = form.Input; found = (given ∷ []) ++ read.given; spots = read.rest };
      reads = ap (λ reading. first_whole form.Input reading (read_forms end (given ∷ []) (form.Output ∷ []) spots)) read.reads;
      is = sym output;
      left = read.left;
    }
port_case true end given name spots port tail output is stands =
    let read = declared end form.Output given name spots tail is (inr refl) stands in
    let first = output-first end given name tail in
    let stuck = input-stuck end given spots first.0 (read_slots end (slots_of form.Input) (given ∷ []) spots) (stands ∙ first.1) refl in
    let whole : Whole = record { form = form.Output; found = (given ∷ []) ++ read.given; spots = read.rest } in
    record {
      whole = whole;
      reads = ap (λ reading. first_whole form.Input reading (read_forms end (given ∷ []) (form.Output ∷ []) spots)) stuck.1
          ∙ ap (λ reading. or_further stuck.0 (first_whole form.Output reading (read_forms end (given ∷ []) [] spots))) read.reads;
      is = sym output;
      left = read.left;
    }

-- the names that were read are those of ports
abbrev pub NamesOf : List Found → List Port → Type 0
NamesOf [] [] = Unit {0}
NamesOf (one ∷ names) (port ∷ ports) = (one.value ≡ Name (Declares sort.Input) port.name) × NamesOf names ports
NamesOf _ _ = ⊥

pub ports-spelled : (end : ℕ) (names : List Found) (before ports : List Port) (spots : List Spot) (tail : List TokenValue) (next : List Port → List Spot → Result Parts Fault)
    → NamesOf names ports → tokens_in spots ≡ flat_map port_tokens ports ++ tail
    → (rest : List Spot) × (ports_outcome end names before spots next ≡ next (before ++ ports) rest) × (tokens_in rest ≡ tail)
unfolding ports_outcome
ports-spelled end [] before [] spots tail next are stands = (spots, ap (λ all. next all spots) (sym (append-nil before)), stands)
ports-spelled end [] before (port ∷ ports) spots tail next are stands = absurd are
ports-spelled end (one ∷ names) before [] spots tail next are stands = absurd are
ports-spelled end (one ∷ names) before (port ∷ ports) spots tail next are stands =
    let more : List TokenValue = flat_map port_tokens ports ++ tail in
    let there : tokens_in spots ≡ port_tokens port ++ more = stands ∙ append_assoc (port_tokens port) (flat_map port_tokens ports) tail in
    let read = port_case port.output end one port.name spots port more refl are.0 there in
    let named : name_in (one.value ∷ []) ≡ port.name = ap (λ v. name_in (v ∷ [])) are.0 in
    let here : List Port = before ++ port ∷ [] in
    let following = ports-spelled end names here ports read.whole.spots tail next are.1 read.left in (
      following.0,
      ap (λ reading. after reading (λ whole. ports_outcome end names (before ++ port_of (name_in (one.value ∷ [])) (is_output whole.form) ∷ []) whole.spots next)) read.reads
          ∙ ap (λ name. ports_outcome end names (before ++ port_of name (is_output read.whole.form) ∷ []) read.whole.spots next) named
          ∙ ap (λ output. ports_outcome end names (before ++ port_of port.name output ∷ []) read.whole.spots next) read.is
          ∙ following.1
          ∙ ap (λ all. next all following.0) (append_assoc before (port ∷ []) ports),
      following.2,
    )

-- ---- the names of the ports

pub record NamesRead (reading : Reading (List Found)) (before : List Found) (ports : List Port) (tail : List TokenValue) : Type 0 where
  pub names : List Found
  pub rest : List Spot
  pub reads : reading ≡ Ok (before ++ names, rest)
  pub are : NamesOf names ports
  pub left : tokens_in rest ≡ tail

one_name : (end : ℕ) (turn : Turn) (before : List Found) (first : Spot) (name : List ℕ) (spots : List Spot) → first.token ≡ token.name name → port_step turn (token.name name) ≡ port_step Opened (token.name name)
    → port_names end turn before (first ∷ spots) ≡ port_names end Named (before ++ found_at first.offset (Name (Declares sort.Input) name) ∷ []) spots
unfolding port_names
one_name end turn before first name spots is wants =
    ap (λ one. next_port (port_step turn one) first.offset before spots (λ next found. port_names end next found spots)) is
    ∙ ap (λ step. next_port step first.offset before spots (λ next found. port_names end next found spots)) wants

more-read : (end : ℕ) (before : List Found) (ports : List Port) (spots : List Spot) (tail : List TokenValue) → tokens_in spots ≡ more_names ports ++ token.fixed sign.CloseParen ∷ tail
    → NamesRead (port_names end Named before spots) before ports tail
unfolding port_names
more-read end before [] [] tail stands = absurd cc
more-read end before [] (first ∷ spots) tail stands =
    let is : first.token ≡ token.fixed sign.CloseParen = cc in
    record {
      names = [];
      rest = spots;
      reads = ap (λ one. next_port (port_step Named one) first.offset before spots (λ next found. port_names end next found spots)) is
          ∙ ap (λ all. Ok (all, spots)) (sym (append-nil before));
      are = tt;
      left = cc;
    }
more-read end before (port ∷ ports) (comma ∷ first ∷ spots) tail stands =
    let comma_is : comma.token ≡ token.fixed sign.Comma = cc in
    let is : first.token ≡ token.name port.name = cc in
    let left : tokens_in spots ≡ more_names ports ++ token.fixed sign.CloseParen ∷ tail = cc in
    let one : Found = found_at first.offset (Name (Declares sort.Input) port.name) in
    let read = more-read end (before ++ one ∷ []) ports spots tail left in
    record {
      names = one ∷ read.names;
      rest = read.rest;
      reads = ap (λ each. next_port (port_step Named each) comma.offset before (first ∷ spots) (λ next found. port_names end next found (first ∷ spots))) comma_is
          ∙ one_name end Parted before first port.name spots is refl
          ∙ read.reads
          ∙ ap (λ all. Ok (all, read.rest)) (append_assoc before (one ∷ []) read.names);
      are = (refl, read.are);
      left = read.left;
    }
more-read end before (port ∷ ports) spots tail stands = absurd cc

pub names-read : (end : ℕ) (ports : List Port) (spots : List Spot) (tail : List TokenValue) → tokens_in spots ≡ names_tokens ports ++ token.fixed sign.CloseParen ∷ tail
    → NamesRead (port_names end Opened [] spots) [] ports tail
unfolding port_names
names-read end [] [] tail stands = absurd cc
names-read end [] (first ∷ spots) tail stands =
    let is : first.token ≡ token.fixed sign.CloseParen = cc in
    record {
      names = [];
      rest = spots;
      reads = ap (λ one. next_port (port_step Opened one) first.offset [] spots (λ next found. port_names end next found spots)) is;
      are = tt;
      left = cc;
    }
names-read end (port ∷ ports) [] tail stands = absurd cc
names-read end (port ∷ ports) (first ∷ spots) tail stands =
    let is : first.token ≡ token.name port.name = cc in
    let left : tokens_in spots ≡ more_names ports ++ token.fixed sign.CloseParen ∷ tail = cc in
    let one : Found = found_at first.offset (Name (Declares sort.Input) port.name) in
    let read = more-read end (one ∷ []) ports spots tail left in
    record {
      names = one ∷ read.names;
      rest = read.rest;
      reads = one_name end Opened [] first port.name spots is refl ∙ read.reads;
      are = (refl, read.are);
      left = read.left;
    }

-- ---- names that are apart have no fault

-- no name of some is among others, and each is apart from those after it
unfoldable pub AreApart : List (List ℕ) → List (List ℕ) → Type 0
AreApart before [] = Unit {0}
AreApart before (name ∷ names) = (list_any (λ other. bytes_eq other name) before ≡ false) × AreApart (before ++ name ∷ []) names

abbrev pub port_name : Port → List ℕ
port_name port = port.name

pub none-twice : (before : List (List ℕ)) (names : List Found) (ports : List Port) → NamesOf names ports → AreApart before (map port_name ports) → twice_fault before names ≡ None
unfolding AreApart
none-twice before [] [] are apart = refl
none-twice before [] (port ∷ ports) are apart = absurd are
none-twice before (one ∷ names) [] are apart = absurd are
none-twice before (one ∷ names) (port ∷ ports) are apart =
    let named : name_in (one.value ∷ []) ≡ port.name = ap (λ v. name_in (v ∷ [])) are.0 in
    let free : list_any (λ other. bytes_eq other (name_in (one.value ∷ []))) before ≡ false = ap (λ name. list_any (λ other. bytes_eq other name) before) named ∙ apart.0 in
    ap (λ b. if b then Some (fault one.offset AssignedTwice) else twice_fault (before ++ name_in (one.value ∷ []) ∷ []) names) free
    ∙ ap (λ name. twice_fault (before ++ name ∷ []) names) named
    ∙ none-twice (before ++ port.name ∷ []) names ports are.1 apart.1

-- no name of some is among others
abbrev AreFree : List (List ℕ) → List (List ℕ) → Type 0
AreFree before [] = Unit {0}
AreFree before (name ∷ names) = (list_any (λ other. bytes_eq other name) before ≡ false) × AreFree before names

or_step : (a b c : Bool) → (a || b) ≡ false → (b ≡ false → c ≡ false) → (a || c) ≡ false
or_step true b c free more = absurd cc
or_step false b c free more = more free

any_push : (before : List (List ℕ)) (name other : List ℕ) → list_any (λ each. bytes_eq each other) before ≡ false → bytes_eq name other ≡ false → list_any (λ each. bytes_eq each other) (before ++ name ∷ []) ≡ false
any_push [] name other free apart = ap (λ b. b || false) apart
any_push (first ∷ before) name other free apart =
    or_step (bytes_eq first other) (list_any (λ each. bytes_eq each other) before) (list_any (λ each. bytes_eq each other) (before ++ name ∷ [])) free (λ rest. any_push before name other rest apart)

free_push : (before : List (List ℕ)) (name : List ℕ) (names : List (List ℕ)) → AreFree before names → AllByRecursion (λ other. bytes_eq name other ≡ false) names → AreFree (before ++ name ∷ []) names
free_push before name [] free apart = tt
free_push before name (other ∷ names) free apart = (any_push before name other free.0 apart.0, free_push before name names free.1 apart.1)

-- distinct names are apart
pub apart-distinct : (before names : List (List ℕ)) → AreFree before names → IsDistinct bytes_eq names → AreApart before names
unfolding AreApart IsDistinct
apart-distinct before [] free distinct = tt
apart-distinct before (name ∷ names) free distinct =
    (free.0, apart-distinct (before ++ name ∷ []) names (free_push before name names free.1 distinct.0) distinct.1)

free_nothing : (names : List (List ℕ)) → AreFree [] names
free_nothing [] = tt
free_nothing (name ∷ names) = (refl, free_nothing names)

pub apart-ports : (ports : List Port) → IsDistinct bytes_eq (map port_name ports) → AreApart [] (map port_name ports)
apart-ports ports distinct = apart-distinct [] (map port_name ports) (free_nothing (map port_name ports)) distinct
