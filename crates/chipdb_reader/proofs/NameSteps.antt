-- Names of nets: what is kept after each line, and which are faulty.
use Rattle.std.proofs.Common.{◌≡◌, ℕ, zero, suc, ◌+◌, ◌<◌, ◌≤◌, Bool, true, false, ◌&&◌, ◌||◌, cond, eqb, List, [], ◌∷◌, ◌++◌, length, length-append, append-nil, refl, sym, ap, ◌∙◌, inl, inr, arith, subst}
use Rattle.std.specs.Prelude.{Option, Some, Ok, All, bytes_eq, is_some, position}
use Rattle.std.specs.List.{list_any}
use Rattle.std.specs.Map.{lookup}
use Rattle.std.proofs.lemmas.Bool.{cases_Bool, cases_eq, eq-eqb, ne_eqb}
use Rattle.std.proofs.lemmas.List.{map-append}
use Rattle.std.proofs.lemmas.List.Elements.{All-head, All-tail, All-push}
use Rattle.std.proofs.lemmas.List.Folds.{list_any-append}
use Rattle.shared_lemmas.proofs.Bytes.{same_bytes}
use Rattle.shared_lemmas.proofs.Numbers.{eqb-turned}
use Rattle.shared_lemmas.proofs.Lists.{append-nothing}
use Rattle.index_search.specs.Places.{any_below, gathered_below}
use Rattle.chipdb_lines.specs.declared.cause.DbCause.TheVariants.{NameTwice}
use Rattle.chipdb_lines.specs.declared.chip.Chip.{Chip}
use Rattle.chipdb_lines.specs.declared.statements.Below.TheVariants.{Names}
use Rattle.chipdb_lines.specs.Items.{NameLine, name_of}
use Rattle.chipdb_reader.specs.declared.items.NetName.{NetName}
use Rattle.chipdb_reader.specs.declared.texts.Texts.{Texts}
use Rattle.chipdb_reader.specs.declared.reading.DatabaseState.{DatabaseState}
use Rattle.chipdb_reader.specs.Database.{Said, nothing, item, said_at}
use Rattle.chipdb_reader.specs.Faults.{cause_at, cause_if, is_named_before, is_same_name, name_cause}
use Rattle.chipdb_reader.specs.Kept.{name_line, name_lines}
use Rattle.chipdb_reader.specs.Nets.{is_name, named_net, net_names}
use Rattle.chipdb_reader.specs.Texts.{Interns, text_at}
use Rattle.chipdb_reader.specs.Reading.{PushesName}
use Rattle.chipdb_reader.proofs.Grown.{text-grown}
use Rattle.chipdb_reader.specs.Holds.{Holds}
use Rattle.chipdb_reader.proofs.Holds.{own-step, buffers_at-nothing, routings_at-nothing, plls-kept, pll_open-kept}
use Rattle.chipdb_reader.proofs.ItemSteps.{At, said-at, cause-at, interned-counts, in_range-grown, names-kept, extras-kept, functions-kept, few-more}
use Rattle.chipdb_reader.proofs.Searches.{bytes_eq-same}
use Rattle.chipdb_reader.proofs.TextSteps.{text-found}

-- ---- names before a line

-- whether some place gives an element that passes
pub any_below-gathered : {A : Type 0} (n : ℕ) (test : A → Bool) (given : ℕ → List A) → any_below n (λ k. list_any test (given k)) ≡ list_any test (gathered_below n given)
unfolding any_below gathered_below
any_below-gathered zero test given = refl
any_below-gathered (suc n) test given = ap (λ b. b || list_any test (given n)) (any_below-gathered n test given) ∙ sym (list_any-append test (gathered_below n given) (given n))

-- a name is found if some entry has it
pub any-lookup : {K X : Type 0} (test : K → Bool) (entries : List (K × X)) → list_any (λ e. test e.0) entries ≡ is_some (lookup test entries)
any-lookup test [] = refl
any-lookup test (e ∷ entries) = by (test e.0) (any-lookup test entries)
  where
    by : (b : Bool) → list_any (λ f. test f.0) entries ≡ is_some (lookup test entries) → (b || list_any (λ f. test f.0) entries) ≡ is_some (cond b (Some e.1) (lookup test entries))
    by true same = refl
    by false same = same

-- no two names have the same place
pub text-tie : (old new : Texts) (text : List ℕ) (id i : ℕ) → Interns old new text id → i < length old.arena → bytes_eq text (text_at old.arena i) ≡ eqb i id
text-tie old new text id i interned lt =
    let grown : text_at new.arena i ≡ text_at old.arena i = ap (λ t. text_at t i) interned.grown ∙ text-grown old.arena interned.more i lt in
    let count : length new.arena ≡ length old.arena + length interned.more = ap length interned.grown ∙ length-append old.arena interned.more in
    let found = (text-found new.arena text id interned.here).1 in
    elim (cases_eq i id) [
      | inl same ↦
          let here : text_at old.arena i ≡ text = sym grown ∙ ap (text_at new.arena) same ∙ found in
          ap (bytes_eq text) here ∙ bytes_eq-same text ∙ sym (eq-eqb i id same)
      | inr other ↦
          elim (cases_Bool (bytes_eq text (text_at old.arena i))) [
            | inl equal ↦
                let text_is : text ≡ text_at new.arena i = same_bytes text (text_at old.arena i) equal ∙ sym grown in
                let place : Some id ≡ Some i = sym interned.here ∙ ap (λ t. position (bytes_eq t) new.arena) text_is ∙ interned.indexed.apart i (omega arith) in
                let same : i ≡ id = cc in
                absurd (other same)
            | inr apart ↦ apart ∙ sym (ne_eqb i id other)
          ]
    ]

and-assoc : (a b c : Bool) → ((a && b) && c) ≡ (a && (b && c))
and-assoc true b c = refl
and-assoc false b c = refl

-- an entry has a name if its line does
name-tie : (old new : Texts) (net x y : ℕ) (text : List ℕ) (id : ℕ) (entry : NetName × ℕ) → Interns old new text id → entry.0.name < length old.arena
    → is_same_name (record { net = net; x = x; y = y; name = text }) (name_line old.arena entry) ≡ is_name (record { x = x; y = y; name = id }) entry.0
name-tie old new net x y text id entry interned lt =
    let tie = text-tie old new text id entry.0.name interned lt in
    (λ i. (eqb-turned x entry.0.x i && eqb-turned y entry.0.y i) && tie i) ∙ and-assoc (eqb entry.0.x x) (eqb entry.0.y y) (eqb entry.0.name id)

any-tie : (old new : Texts) (net x y : ℕ) (text : List ℕ) (id : ℕ) (entries : List (NetName × ℕ)) → Interns old new text id → All (λ p. p.0.name < length old.arena) entries
    → list_any (is_same_name (record { net = net; x = x; y = y; name = text })) (name_lines old.arena entries) ≡ list_any (λ p. is_name (record { x = x; y = y; name = id }) p.0) entries
any-tie old new net x y text id [] interned all = refl
any-tie old new net x y text id (p ∷ entries) interned all =
    let P : NetName × ℕ → Type 0 = λ q. q.0.name < length old.arena in
    let here = name-tie old new net x y text id p interned (All-head P p entries all) in
    let rest = any-tie old new net x y text id entries interned (All-tail P p entries all) in
    λ i. here i || rest i

-- a name was given before if the index has it
pub named-before : (old : DatabaseState) (texts : Texts) (lines : List (List ℕ)) (n net x y : ℕ) (text : List ℕ) (id : ℕ) → Holds old lines n → Interns old.texts texts text id
    → is_named_before lines n (record { net = net; x = x; y = y; name = text }) ≡ is_some (named_net old.nets (record { x = x; y = y; name = id }))
unfolding is_named_before
named-before old texts lines n net x y text id holds interned =
    let line : NameLine = record { net = net; x = x; y = y; name = text } in
    let name : NetName = record { x = x; y = y; name = id } in
    any_below-gathered n (is_same_name line) (λ k. (said_at lines k).names)
    ∙ ap (list_any (is_same_name line)) (sym holds.names)
    ∙ any-tie old.texts texts net x y text id (net_names old.nets) interned holds.in_range.names
    ∙ any-lookup (is_name name) (net_names old.nets)
    ∙ ap (λ (o : Option ℕ). is_some o) (sym (holds.ready.nets.found name))

-- what is wrong with a line that gives a name
pub name-cause : (old : DatabaseState) (texts : Texts) (lines : List (List ℕ)) (n : ℕ) (chip : Chip) (net x y : ℕ) (text : List ℕ) (id : ℕ) (word : List ℕ) (words : List (List ℕ)) → At old lines n chip (Names net) word words
    → name_of chip.device net (word ∷ words) ≡ Ok (record { net = net; x = x; y = y; name = text }) → Interns old.texts texts text id
    → cause_at lines n ≡ cause_if (is_some (named_net old.nets (record { x = x; y = y; name = id }))) NameTwice
name-cause old texts lines n chip net x y text id word words at says interned =
    cause-at old lines n chip (Names net) word words at ∙ ap (name_cause lines n) says
    ∙ ap (λ b. cause_if b NameTwice) (named-before old texts lines n net x y text id at.holds interned)

-- ---- one name more

-- a line that gives a name
pub name-step : (old new : DatabaseState) (lines : List (List ℕ)) (n : ℕ) (chip : Chip) (net : ℕ) (word : List ℕ) (words : List (List ℕ)) → At old lines n chip (Names net) word words
    → PushesName chip.device net (word ∷ words) old new → Holds new lines (n + 1)
name-step old new lines n chip net word words at pushed =
    let line : NameLine = record { net = net; x = pushed.x; y = pushed.y; name = pushed.text } in
    let name : NetName = record { x = pushed.x; y = pushed.y; name = pushed.id } in
    let said : Said = record nothing { names = line ∷ [] } in
    let says : said_at lines n ≡ said = said-at old lines n chip (Names net) word words at ∙ ap (λ r. record nothing { names = item r }) pushed.says in
    let none : (said_at lines n).choices ≡ [] = ap (λ s. s.choices) says in
    let counts = interned-counts old.texts new.texts pushed.text pushed.id pushed.interned in
    let under = at.under in
    let range = at.holds.in_range in
    let after = in_range-grown old new.texts old.bits pushed.interned.more [] pushed.interned.grown (sym (append-nil old.bits)) range in
    let found = (text-found new.texts.arena pushed.text pushed.id pushed.interned.here).1 in
    let read : name_line new.texts.arena (name, net) ≡ line = λ i. record { net = net; x = pushed.x; y = pushed.y; name = found i } in
    let listed : name_lines new.texts.arena (net_names new.nets) ≡ name_lines old.texts.arena (net_names old.nets) ++ line ∷ [] =
    ap (name_lines new.texts.arena) pushed.added.names
    ∙ map-append (name_line new.texts.arena) (net_names old.nets) ((name, net) ∷ [])
    ∙ ap (λ ls. ls ++ name_line new.texts.arena (name, net) ∷ []) (names-kept old new.texts pushed.interned.more pushed.interned.grown range)
    ∙ ap (λ l. name_lines old.texts.arena (net_names old.nets) ++ l ∷ []) read in
    let ids : All (λ p. p.0.name < length new.texts.arena) (net_names new.nets) =
    rw pushed.added.names (All-push (λ (p : NetName × ℕ). p.0.name < length new.texts.arena) (net_names old.nets) (name, net) after.names counts.inside) in
    let count : length new.texts.arena ≤ length old.texts.arena + 1 = counts.few in
    let before : length old.texts.arena ≤ n = at.holds.few in
    subst (λ r. Holds r lines (n + 1)) (sym pushed.rest)
    (own-step old (record old { texts = new.texts; nets = new.nets }) lines n said at.own says at.holds
    (record { texts = pushed.interned.indexed; nets = pushed.added.indexed; buffers = at.holds.ready.buffers; below = rw under pushed.added.last })
    (record { names = ids; functions = after.functions; function_bits = after.function_bits; extras = after.extras; buffers = after.buffers; routings = after.routings })
    (rw under tt) refl refl pushed.added.nets
    listed
    (append-nothing _ _ (buffers_at-nothing lines n none)) (append-nothing _ _ (routings_at-nothing lines n none))
    (functions-kept old new.texts old.bits pushed.interned.more [] pushed.interned.grown (sym (append-nil old.bits)) range ∙ sym (append-nil _))
    (extras-kept old new.texts pushed.interned.more pushed.interned.grown range ∙ sym (append-nil _))
    (sym (append-nil _)) (sym (append-nil _))
    (plls-kept old lines n said at.own says refl at.holds) (pll_open-kept old lines n said at.own says refl at.holds)
    (omega arith) (few-more n _ at.holds.few_lists))
