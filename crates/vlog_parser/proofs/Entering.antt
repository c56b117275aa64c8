-- Names that are added stand for the scope with what they declare, read and assign.
use Rattle.std.proofs.Common.{◌≡◌, ℕ, Bool, true, false, ◌&&◌, ◌||◌, ◌==◌, List, [], ◌∷◌, ◌++◌, refl, ap, sym, ◌∙◌, append_assoc}
use Rattle.std.proofs.lemmas.Bool.{eqb-true, and_parts}
use Rattle.std.proofs.lemmas.Slice.Eq.{bytes_eq-Decides}
use Rattle.std.specs.Prelude.{Option, Some, None, not, is_some, bytes_eq, flat_map, if◌then◌else◌}
use Rattle.std.specs.List.{list_all, list_any}
use Rattle.std.proofs.lemmas.List.{append-nil}
use Rattle.std.proofs.lemmas.List.Concat.{flat_map-append}
use Rattle.std.proofs.Math.Bool.{or-false}
use Rattle.shared_lemmas.proofs.Searches.{list_any-push}
use Rattle.vlog_module.specs.declared.sort.Sort.{Sort}
use Rattle.vlog_module.specs.Uses.{Use}
use Rattle.vlog_module.specs.Uses.Use.{Declares, Starts}
use Rattle.vlog_module.specs.Maps.{value_in}
use Rattle.vlog_module.specs.WellFormed.{Scope, Reading, sort_in, declared_by, read_by, assigned_by, started_by, is_unless, is_read_unless}
use Rattle.name_set.proofs.Sets.{has-with}
use Rattle.name_set.specs.Sets.{has_name, with_name}
use Rattle.vlog_parser.specs.Kept.{has_word, with_word, with_sort, is_only_unless}
use Rattle.vlog_parser.specs.Scopes.{Known, Holds, wire_reads, entered}

-- ---- words of memories

word_absorbed : (b : Bool) (words : List (List ℕ × ℕ)) (memory other : List ℕ) (place k : ℕ) → (bytes_eq memory other && (place == k)) ≡ b → has_word words memory place ≡ true
    → has_word words other k ≡ (has_word words other k || b)
word_absorbed true words memory other place k same there =
    let parts = and_parts (bytes_eq memory other) (place == k) same in
    let here : has_word words other k ≡ true = ap (λ name. has_word words name k) (sym ((bytes_eq-Decides memory other).0 parts.0)) ∙ ap (has_word words memory) (sym (eqb-true place k parts.1)) ∙ there in
    here ∙ ap (λ b. b || true) (sym here)
word_absorbed false words memory other place k same there = sym (or-false (has_word words other k))

word_case : (b : Bool) (words : List (List ℕ × ℕ)) (memory other : List ℕ) (place k : ℕ) → has_word words memory place ≡ b
    → has_word (if b then words else words ++ (memory, place) ∷ []) other k ≡ (has_word words other k || (bytes_eq memory other && (place == k)))
word_case true words memory other place k there = word_absorbed (bytes_eq memory other && (place == k)) words memory other place k refl there
word_case false words memory other place k there = list_any-push (λ (each : List ℕ × ℕ). bytes_eq each.0 other && (each.1 == k)) words (memory, place)

word-with : (words : List (List ℕ × ℕ)) (memory other : List ℕ) (place k : ℕ) → has_word (with_word words memory place) other k ≡ (has_word words other k || (bytes_eq memory other && (place == k)))
word-with words memory other place k = word_case (has_word words memory place) words memory other place k refl

-- ---- sorts

abbrev or_then : Option Sort → Option Sort → Option Sort
or_then (Some sort) other = Some sort
or_then None other = other

then_none : (one : Option Sort) → or_then one None ≡ one
then_none (Some sort) = refl
then_none None = refl

push_case : (b : Bool) (sort : Sort) (one more other : Option Sort) → one ≡ or_then more other → (if b then Some sort else one) ≡ or_then (if b then Some sort else more) other
push_case true sort one more other is = refl
push_case false sort one more other is = is

sort-push : (declared : List (List ℕ × Sort)) (name : List ℕ) (sort : Sort) (other : List ℕ) → sort_in (declared ++ (name, sort) ∷ []) other ≡ or_then (sort_in declared other) (if bytes_eq name other then Some sort else None)
sort-push [] name sort other = refl
sort-push (entry ∷ declared) name sort other =
    push_case (bytes_eq entry.0 other) entry.1 (sort_in (declared ++ (name, sort) ∷ []) other) (sort_in declared other) (if bytes_eq name other then Some sort else None) (sort-push declared name sort other)

sort_absorbed : (b : Bool) (declared : List (List ℕ × Sort)) (name other : List ℕ) (sort kept : Sort) → bytes_eq name other ≡ b → sort_in declared name ≡ Some kept
    → sort_in declared other ≡ or_then (sort_in declared other) (if b then Some sort else None)
sort_absorbed true declared name other sort kept same there =
    let here : sort_in declared other ≡ Some kept = ap (sort_in declared) (sym ((bytes_eq-Decides name other).0 same)) ∙ there in
    here ∙ ap (λ one. or_then one (Some sort)) (sym here)
sort_absorbed false declared name other sort kept same there = sym (then_none (sort_in declared other))

sort_case : (before : Option Sort) (declared : List (List ℕ × Sort)) (name other : List ℕ) (sort : Sort) → sort_in declared name ≡ before
    → sort_in (if is_some before then declared else declared ++ (name, sort) ∷ []) other ≡ or_then (sort_in declared other) (if bytes_eq name other then Some sort else None)
sort_case (Some kept) declared name other sort there = sort_absorbed (bytes_eq name other) declared name other sort kept refl there
sort_case None declared name other sort there = sort-push declared name sort other

sort-with : (declared : List (List ℕ × Sort)) (name other : List ℕ) (sort : Sort) → sort_in (with_sort declared name sort) other ≡ or_then (sort_in declared other) (if bytes_eq name other then Some sort else None)
sort-with declared name other sort = sort_case (sort_in declared name) declared name other sort refl

-- ---- scopes

-- what stays if nothing is added to the lists
kept_any : {K : Type 0} (test : K → Bool) (xs : List K) → list_any test (xs ++ []) ≡ list_any test xs
kept_any test [] = refl
kept_any test (x ∷ xs) = ap (λ b. test x || b) (kept_any test xs)

kept_case : (b : Bool) (sort : Sort) (one other : Option Sort) → one ≡ other → (if b then Some sort else one) ≡ (if b then Some sort else other)
kept_case b sort one other is = ap (λ each. if b then Some sort else each) is

kept_sort : (declared : List (List ℕ × Sort)) (name : List ℕ) → sort_in (declared ++ []) name ≡ sort_in declared name
kept_sort [] name = refl
kept_sort (entry ∷ declared) name = kept_case (bytes_eq entry.0 name) entry.1 (sort_in (declared ++ []) name) (sort_in declared name) (kept_sort declared name)

-- what wires read, if a use reads nothing
kept_reads : (wire : Bool) (used : Use) → read_by used ≡ [] → wire_reads wire (used ∷ []) ≡ []
kept_reads true used none = ap (λ list. list ++ []) none
kept_reads false used none = refl

kept_read : (scope : Scope) (reads : List (List ℕ × Reading)) (name reset : List ℕ) (set : Bool) → reads ≡ []
    → is_read_unless scope.read reset set name ≡ is_read_unless (scope.read ++ reads) reset set name
kept_read scope reads name reset set none =
    sym (ap (λ list. is_read_unless list reset set name) (ap (λ more. scope.read ++ more) none ∙ append-nil scope.read))

pub holds-declared : (known : Known) (scope : Scope) (wire : Bool) (sort : Sort) (name : List ℕ) (declared : List (List ℕ × Sort)) → declared ≡ with_sort known.declared name sort → Holds known scope
    → Holds (record { declared = declared; read = known.read; assigned = known.assigned; started = known.started }) (entered scope wire (Declares sort name ∷ []))
holds-declared known scope wire sort name declared is holds = record {
  declared = λ other. ap (λ list. sort_in list other) is ∙ sort-with known.declared name other sort
      ∙ ap (λ one. or_then one (if bytes_eq name other then Some sort else None)) (holds.declared other)
      ∙ sym (sort-push scope.declared name sort other);
  read = λ other reset set. holds.read other reset set ∙ kept_read scope (wire_reads wire (Declares sort name ∷ [])) other reset set (kept_reads wire (Declares sort name) refl);
  assigned = λ other. holds.assigned other ∙ sym (kept_any (λ each. bytes_eq each other) scope.assigned);
  started = λ other k. holds.started other k ∙ sym (kept_any (λ (each : List ℕ × ℕ). bytes_eq each.0 other && (each.1 == k)) scope.started);
}

-- a use that assigns a name
pub holds-assigned : (known : Known) (scope : Scope) (wire : Bool) (used : Use) (name : List ℕ) (assigned : List (List ℕ)) → declared_by used ≡ [] → read_by used ≡ []
    → assigned_by used ≡ name ∷ [] → started_by used ≡ [] → assigned ≡ with_name known.assigned name → Holds known scope
    → Holds (record { declared = known.declared; read = known.read; assigned = assigned; started = known.started }) (entered scope wire (used ∷ []))
holds-assigned known scope wire used name assigned a b d e is holds = record {
  declared = λ other. holds.declared other ∙ sym (kept_sort scope.declared other) ∙ ap (λ list. sort_in (scope.declared ++ (list ++ [])) other) (sym a);
  read = λ other reset set. holds.read other reset set ∙ kept_read scope (wire_reads wire (used ∷ [])) other reset set (kept_reads wire used b);
  assigned = λ other. ap (λ list. has_name list other) is ∙ has-with known.assigned name other
      ∙ ap (λ b. b || bytes_eq name other) (holds.assigned other)
      ∙ sym (list_any-push (λ each. bytes_eq each other) scope.assigned name)
      ∙ ap (λ list. has_name (scope.assigned ++ (list ++ [])) other) (sym d);
  started = λ other k. holds.started other k ∙ sym (kept_any (λ (each : List ℕ × ℕ). bytes_eq each.0 other && (each.1 == k)) scope.started)
      ∙ ap (λ list. has_word (scope.started ++ (list ++ [])) other k) (sym e);
}

pub holds-started : (known : Known) (scope : Scope) (wire : Bool) (memory : List ℕ) (place : ℕ) (started : List (List ℕ × ℕ)) → started ≡ with_word known.started memory place → Holds known scope
    → Holds (record { declared = known.declared; read = known.read; assigned = known.assigned; started = started }) (entered scope wire (Starts memory place ∷ []))
holds-started known scope wire memory place started is holds = record {
  declared = λ other. holds.declared other ∙ sym (kept_sort scope.declared other);
  read = λ other reset set. holds.read other reset set ∙ kept_read scope (wire_reads wire (Starts memory place ∷ [])) other reset set (kept_reads wire (Starts memory place) refl);
  assigned = λ other. holds.assigned other ∙ sym (kept_any (λ each. bytes_eq each other) scope.assigned);
  started = λ other k. ap (λ list. has_word list other k) is ∙ word-with known.started memory other place k
      ∙ ap (λ b. b || (bytes_eq memory other && (place == k))) (holds.started other k)
      ∙ sym (list_any-push (λ (each : List ℕ × ℕ). bytes_eq each.0 other && (each.1 == k)) scope.started (memory, place));
}

list_all-push : {K : Type 0} (test : K → Bool) (xs : List K) (x : K) → list_all test (xs ++ x ∷ []) ≡ (list_all test xs && test x)
list_all-push test [] x = and-true (test x)
  where
    and-true : (b : Bool) → (b && true) ≡ b
    and-true true = refl
    and-true false = refl
list_all-push test (y ∷ xs) x = ap (λ b. test y && b) (list_all-push test xs x) ∙ regroup (test y) (list_all test xs) (test x)
  where
    regroup : (a b c : Bool) → (a && (b && c)) ≡ ((a && b) && c)
    regroup true b c = refl
    regroup false b c = refl

-- one more reading of a wire
pub holds-read : (known : Known) (scope : Scope) (used : Use) (name : List ℕ) (reading : Reading) (read : List (List ℕ × Reading)) → declared_by used ≡ []
    → read_by used ≡ (name, reading) ∷ [] → assigned_by used ≡ [] → started_by used ≡ []
    → ((other reset : List ℕ) (set : Bool) → is_only_unless (value_in read other) reset set ≡ (is_only_unless (value_in known.read other) reset set && (not (bytes_eq name other) || is_unless reset set reading)))
    → Holds known scope → Holds (record { declared = known.declared; read = read; assigned = known.assigned; started = known.started }) (entered scope true (used ∷ []))
holds-read known scope used name reading read a b d e is holds = record {
  declared = λ other. holds.declared other ∙ sym (kept_sort scope.declared other) ∙ ap (λ list. sort_in (scope.declared ++ (list ++ [])) other) (sym a);
  read = λ other reset set. is other reset set ∙ ap (λ b. b && (not (bytes_eq name other) || is_unless reset set reading)) (holds.read other reset set)
      ∙ sym (list_all-push (λ (one : List ℕ × Reading). not (bytes_eq one.0 other) || is_unless reset set one.1) scope.read (name, reading))
      ∙ ap (λ list. is_read_unless (scope.read ++ (list ++ [])) reset set other) (sym b);
  assigned = λ other. holds.assigned other ∙ sym (kept_any (λ each. bytes_eq each other) scope.assigned) ∙ ap (λ list. has_name (scope.assigned ++ (list ++ [])) other) (sym d);
  started = λ other k. holds.started other k ∙ sym (kept_any (λ (each : List ℕ × ℕ). bytes_eq each.0 other && (each.1 == k)) scope.started)
      ∙ ap (λ list. has_word (scope.started ++ (list ++ [])) other k) (sym e);
}

pub holds-kept : (known : Known) (scope : Scope) (wire : Bool) (uses : List Use) → flat_map declared_by uses ≡ [] → wire_reads wire uses ≡ [] → flat_map assigned_by uses ≡ [] → flat_map started_by uses ≡ []
    → Holds known scope → Holds known (entered scope wire uses)
holds-kept known scope wire uses a b d e holds = record {
  declared = λ other. holds.declared other ∙ sym (kept_sort scope.declared other) ∙ ap (λ list. sort_in (scope.declared ++ list) other) (sym a);
  read = λ other reset set. holds.read other reset set ∙ kept_read scope (wire_reads wire uses) other reset set b;
  assigned = λ other. holds.assigned other ∙ sym (kept_any (λ each. bytes_eq each other) scope.assigned) ∙ ap (λ list. has_name (scope.assigned ++ list) other) (sym d);
  started = λ other k. holds.started other k ∙ sym (kept_any (λ (each : List ℕ × ℕ). bytes_eq each.0 other && (each.1 == k)) scope.started) ∙ ap (λ list. has_word (scope.started ++ list) other k) (sym e);
}

-- a use that adds nothing
pub holds-use : (known : Known) (scope : Scope) (wire : Bool) (used : Use) → declared_by used ≡ [] → read_by used ≡ [] → assigned_by used ≡ [] → started_by used ≡ []
    → Holds known scope → Holds known (entered scope wire (used ∷ []))
holds-use known scope wire used a b d e holds =
    holds-kept known scope wire (used ∷ []) (ap (λ list. list ++ []) a) (kept_reads wire used b) (ap (λ list. list ++ []) d) (ap (λ list. list ++ []) e) holds

reads-append : (wire : Bool) (uses more : List Use) → wire_reads wire (uses ++ more) ≡ wire_reads wire uses ++ wire_reads wire more
reads-append true uses more = flat_map-append read_by uses more
reads-append false uses more = refl

-- names entered one after another
pub entered_append : (scope : Scope) (wire : Bool) (uses more : List Use) → entered (entered scope wire uses) wire more ≡ entered scope wire (uses ++ more)
entered_append scope wire uses more =
    let a : (scope.declared ++ flat_map declared_by uses) ++ flat_map declared_by more ≡ scope.declared ++ flat_map declared_by (uses ++ more)
    = append_assoc scope.declared (flat_map declared_by uses) (flat_map declared_by more) ∙ ap (λ list. scope.declared ++ list) (sym (flat_map-append declared_by uses more)) in
    let r : (scope.read ++ wire_reads wire uses) ++ wire_reads wire more ≡ scope.read ++ wire_reads wire (uses ++ more)
    = append_assoc scope.read (wire_reads wire uses) (wire_reads wire more) ∙ ap (λ list. scope.read ++ list) (sym (reads-append wire uses more)) in
    let b : (scope.assigned ++ flat_map assigned_by uses) ++ flat_map assigned_by more ≡ scope.assigned ++ flat_map assigned_by (uses ++ more)
    = append_assoc scope.assigned (flat_map assigned_by uses) (flat_map assigned_by more) ∙ ap (λ list. scope.assigned ++ list) (sym (flat_map-append assigned_by uses more)) in
    let d : (scope.started ++ flat_map started_by uses) ++ flat_map started_by more ≡ scope.started ++ flat_map started_by (uses ++ more)
    = append_assoc scope.started (flat_map started_by uses) (flat_map started_by more) ∙ ap (λ list. scope.started ++ list) (sym (flat_map-append started_by uses more)) in
    cc
