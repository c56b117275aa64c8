-- Nets after a change.
use Rattle.std.proofs.Common.{◌≡◌, ℕ, ◌+◌, ◌≤◌, Bool, true, false, ◌||◌, cond, eqb, List, [], ◌∷◌, ◌++◌, length, length-append, length-drop, take, drop, append-nil, refl, sym, ap, ◌∙◌, arith}
use Rattle.std.specs.Prelude.{Option, Some, None, All, flat_map, is_some, nat_eq}
use Rattle.std.specs.BTreeMap.{is_at}
use Rattle.std.specs.Map.{lookup}
use Rattle.std.proofs.lemmas.List.{take_all, take-append-le, drop-append-le}
use Rattle.std.proofs.lemmas.List.Elements.{All-head, All-tail, All-push, All-weaker}
use Rattle.std.proofs.lemmas.List.Concat.{flat_map-append}
use Rattle.std.proofs.Math.Bool.{or-false, or-true}
use Rattle.std.proofs.Math.ListN.{drop_of_length-le}
use Rattle.indexmap.specs.IndexMap.{get as index_get, insert_entry, IsUnique, Updates}
use Rattle.indexmap.proofs.CallerLemmas.{insert_entry-new}
use Rattle.chipdb_reader.specs.declared.items.NetName.{NetName}
use Rattle.chipdb_reader.specs.declared.nets.Nets.{Nets}
use Rattle.chipdb_reader.specs.declared.nets.Span.{Span}
use Rattle.chipdb_reader.specs.NameIndex.{name_cmp, net_in}
use Rattle.chipdb_reader.specs.Nets.{AddsName, BeginsNet, ClosesNet, IsNetIndex, has_net, is_name, is_net, last_names, named_net, names_in, names_with, net_names}
use Rattle.chipdb_reader.proofs.NetSteps.{named-push, last_names-push}

abbrev entry_names : List NetName → ℕ × Span → List (NetName × ℕ)
entry_names names entry = names_with entry.0 (names_in names entry.1)

-- the names of the earlier nets
abbrev earlier_of : Nets → List (NetName × ℕ)
earlier_of nets = flat_map (entry_names nets.names.items) nets.earlier.entries

-- where the names of an entry end
abbrev EndsBy : ℕ → ℕ × Span → Type 0
EndsBy place entry = entry.1.start + entry.1.count ≤ place

-- the last net has none of the names that are there
nothing-after : (names : List NetName) (start : ℕ) → start ≡ length names → drop start names ≡ []
nothing-after names start is = drop_of_length-le names (omega (arith, is))

-- ---- a net is begun

begun-names : (old new : Nets) (net : ℕ) → IsNetIndex old → old.last ≡ None → new.earlier ≡ old.earlier → new.last ≡ Some net → new.names ≡ old.names → new.start ≡ old.start → net_names new ≡ net_names old
begun-names old new net indexed none earlier last names start =
    let empty : drop old.start old.names.items ≡ [] = nothing-after old.names.items old.start (indexed.idle none) in
    let left : net_names new ≡ earlier_of old ++ [] =
    (λ i. flat_map (entry_names (names i).items) (earlier i).entries ++ last_names (last i) (drop (start i) (names i).items)) ∙ ap (λ ns. earlier_of old ++ names_with net ns) empty in
    let right : net_names old ≡ earlier_of old ++ [] = ap (λ o. earlier_of old ++ last_names o (drop old.start old.names.items)) none in
    left ∙ sym right

pub begins-net : (old closed new : Nets) (net : ℕ) → ClosesNet old closed → index_get nat_eq closed.earlier net ≡ None → new ≡ record closed { last = Some net } → BeginsNet old new net
begins-net old closed new net closes absent is =
    let earlier : new.earlier ≡ closed.earlier = ap (λ r. r.earlier) is in
    let last : new.last ≡ Some net = ap (λ r. r.last) is in
    let kept : new.names ≡ closed.names = ap (λ r. r.names) is in
    let start : new.start ≡ closed.start = ap (λ r. r.start) is in
    let index : new.index ≡ closed.index = ap (λ r. r.index) is in
    let names = begun-names closed new net closes.indexed closes.last earlier last kept start in
    record {
      indexed = record {
        found = λ name. ap (λ ix. net_in ix name) index ∙ closes.indexed.found name ∙ ap (lookup (is_name name)) (sym names);
        apart = λ other here.
            let both : Some other ≡ Some net = sym here ∙ last in
            let same : other ≡ net = cc in
            ap (λ m. index_get nat_eq m other) earlier ∙ ap (index_get nat_eq closed.earlier) same ∙ absent;
        idle = λ none. let both : Some net ≡ None = sym last ∙ none in absurd cc;
        unique = rw earlier closes.indexed.unique;
        within = rw (earlier, start) closes.indexed.within;
        begins = rw (start, kept) closes.indexed.begins;
      };
      last = last;
      names = names ∙ closes.names;
      nets = λ other.
          let before : has_net closed other ≡ is_some (index_get nat_eq closed.earlier other) =
          ap (λ o. is_some (index_get nat_eq closed.earlier other) || is_net other o) closes.last ∙ or-false (is_some (index_get nat_eq closed.earlier other)) in
          let after : has_net new other ≡ (is_some (index_get nat_eq closed.earlier other) || eqb net other) =
          λ i. is_some (index_get nat_eq (earlier i) other) || is_net other (last i) in
          after ∙ ap (λ b. b || eqb net other) (sym before ∙ closes.nets other);
    }

-- whether a net was begun, by the earlier ones
pub begun-earlier : (old closed : Nets) (net : ℕ) → ClosesNet old closed → has_net old net ≡ is_some (index_get nat_eq closed.earlier net)
begun-earlier old closed net closes =
    sym (closes.nets net) ∙ ap (λ o. is_some (index_get nat_eq closed.earlier net) || is_net net o) closes.last ∙ or-false (is_some (index_get nat_eq closed.earlier net))

-- ---- the last net is put to the earlier ones

-- there is no last net
pub closes-none : (old new : Nets) → IsNetIndex old → old.last ≡ None → new ≡ old → ClosesNet old new
closes-none old new indexed none same = rw same (record { indexed = indexed; last = none; names = refl; nets = λ net. refl })

has-by : (is : Bool) (span : Span) (found : Option Span) → (is_some (cond is (Some span) found) || false) ≡ (is_some found || is)
has-by true span found = sym (or-true (is_some found))
has-by false span found = refl

-- the names of a span that goes to the end
names-after : (names : List NetName) (span : Span) → span.start + span.count ≡ length names → names_in names span ≡ drop span.start names
names-after names span ends = take_all span.count (drop span.start names) (omega (arith, ends, length-drop span.start names))

pub closes-net : (old new : Nets) (net : ℕ) (span : Span) → IsNetIndex old → old.last ≡ Some net → span.start ≡ old.start → span.start + span.count ≡ length old.names.items
    → new.earlier.entries ≡ insert_entry nat_eq old.earlier.entries net span → Updates nat_eq old.earlier new.earlier net (Some span) → IsUnique nat_eq new.earlier
    → new.last ≡ None → new.names ≡ old.names → new.start ≡ length old.names.items → new.index ≡ old.index → ClosesNet old new
closes-net old new net span indexed last starts ends entries updates unique none kept start index =
    let absent = indexed.apart net last in
    let all : List NetName = old.names.items in
    let own : names_in all span ≡ drop old.start all = names-after all span ends ∙ ap (λ n. drop n all) starts in
    let pushed : new.earlier.entries ≡ old.earlier.entries ++ (net, span) ∷ [] = entries ∙ insert_entry-new nat_eq old.earlier net span absent in
    let flat : earlier_of new ≡ earlier_of old ++ (names_with net (names_in all span) ++ []) =
    (λ i. flat_map (entry_names (kept i).items) (pushed i)) ∙ flat_map-append (entry_names all) old.earlier.entries ((net, span) ∷ []) in
    let left : net_names new ≡ earlier_of old ++ names_with net (names_in all span) =
    (λ i. flat i ++ last_names (none i) (drop new.start new.names.items)) ∙ append-nil (earlier_of old ++ (names_with net (names_in all span) ++ [])) ∙ ap (λ ns. earlier_of old ++ ns) (append-nil (names_with net (names_in all span))) in
    let right : net_names old ≡ earlier_of old ++ names_with net (names_in all span) =
    ap (λ o. earlier_of old ++ last_names o (drop old.start all)) last ∙ ap (λ ns. earlier_of old ++ names_with net ns) (sym own) in
    let same : net_names new ≡ net_names old = left ∙ sym right in
    let begins = indexed.begins in
    let earlier : All (EndsBy (length all)) old.earlier.entries = All-weaker (EndsBy old.start) (EndsBy (length all)) (λ entry le. omega (arith, le, begins)) old.earlier.entries indexed.within in
    let later : All (EndsBy (length all)) (old.earlier.entries ++ (net, span) ∷ []) = All-push (EndsBy (length all)) old.earlier.entries (net, span) earlier (omega (arith, ends)) in
    record {
      indexed = record {
        found = λ name. ap (λ ix. net_in ix name) index ∙ indexed.found name ∙ ap (lookup (is_name name)) (sym same);
        apart = λ other here. let both : Some other ≡ None = sym here ∙ none in absurd cc;
        idle = λ is. start ∙ ap (λ v. length v.items) (sym kept);
        unique = unique;
        within = rw (pushed, start) later;
        begins = rw (start, kept) (omega arith);
      };
      last = none;
      names = same;
      nets = λ other.
          let after : has_net new other ≡ (is_some (cond (eqb net other) (Some span) (index_get nat_eq old.earlier other)) || false) =
          λ i. is_some (updates.0 other i) || is_net other (none i) in
          let before : has_net old other ≡ (is_some (index_get nat_eq old.earlier other) || eqb net other) = ap (λ o. is_some (index_get nat_eq old.earlier other) || is_net other o) last in
          after ∙ has-by (eqb net other) span (index_get nat_eq old.earlier other) ∙ sym before;
    }

-- ---- a name is added

-- names that come before others stay
names_in-more : (names more : List NetName) (span : Span) → span.start + span.count ≤ length names → names_in (names ++ more) span ≡ names_in names span
names_in-more names more span within =
    let start : span.start ≤ length names = omega (arith, within) in
    ap (take span.count) (drop-append-le span.start names more start)
    ∙ take-append-le span.count (drop span.start names) more (omega (arith, within, length-drop span.start names))

earlier-more : (names more : List NetName) (entries : List (ℕ × Span)) → All (EndsBy (length names)) entries → flat_map (entry_names (names ++ more)) entries ≡ flat_map (entry_names names) entries
earlier-more names more [] all = refl
earlier-more names more (e ∷ entries) all =
    let here = names_in-more names more e.1 (All-head (EndsBy (length names)) e entries all) in
    let rest = earlier-more names more entries (All-tail (EndsBy (length names)) e entries all) in
    λ i. names_with e.0 (here i) ++ rest i

pub adds-name : (old new : Nets) (net : ℕ) (name : NetName) → IsNetIndex old → old.last ≡ Some net → named_net old name ≡ None
    → ((q : NetName) → named_net new q ≡ cond (is_at (name_cmp name) q) (Some net) (named_net old q)) → new.names.items ≡ old.names.items ++ name ∷ [] → new.earlier ≡ old.earlier → new.last ≡ old.last → new.start ≡ old.start → AddsName old new net name
adds-name old new net name indexed last absent updates pushed earlier kept start =
    let last_is : new.last ≡ Some net = kept ∙ last in
    let all : List NetName = old.names.items in
    let begins = indexed.begins in
    let ends : All (EndsBy (length all)) old.earlier.entries = All-weaker (EndsBy old.start) (EndsBy (length all)) (λ entry le. omega (arith, le, begins)) old.earlier.entries indexed.within in
    let own : drop old.start (all ++ name ∷ []) ≡ drop old.start all ++ name ∷ [] = drop-append-le old.start all (name ∷ []) begins in
    let before : net_names old ≡ earlier_of old ++ last_names (Some net) (drop old.start all) = ap (λ o. earlier_of old ++ last_names o (drop old.start all)) last in
    let after : net_names new ≡ earlier_of old ++ last_names (Some net) (drop old.start all ++ name ∷ []) =
    (λ i. flat_map (entry_names (pushed i)) (earlier i).entries ++ last_names (last_is i) (drop (start i) (pushed i)))
    ∙ (λ i. earlier-more all (name ∷ []) old.earlier.entries ends i ++ last_names (Some net) (own i)) in
    let names : net_names new ≡ net_names old ++ (name, net) ∷ [] =
    after ∙ last_names-push (earlier_of old) net (drop old.start all) name ∙ ap (λ ns. ns ++ (name, net) ∷ []) (sym before) in
    record {
      indexed = record {
        found = λ other. named-push (named_net old) (named_net new) (net_names old) name net updates indexed.found absent other ∙ ap (lookup (is_name other)) (sym names);
        apart = λ other here. ap (λ m. index_get nat_eq m other) earlier ∙ indexed.apart other (sym kept ∙ here);
        idle = λ none. let both : Some net ≡ None = sym last_is ∙ none in absurd cc;
        unique = rw earlier indexed.unique;
        within = rw (earlier, start) indexed.within;
        begins = rw (start, pushed) (omega (arith, begins, length-append all (name ∷ [])));
      };
      last = last_is;
      names = names;
      nets = λ other. λ i. is_some (index_get nat_eq (earlier i) other) || is_net other (kept i);
      absent = absent;
    }
