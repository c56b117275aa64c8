-- Names that are wanted one after the other.
use Rattle.std.proofs.Common.{◌≡◌, ◌∙◌, ℕ, ◌+◌, ◌<◌, List, [], ◌∷◌, ◌++◌, ap, fold, get_or, length, map, subst, sym, take}
use Rattle.std.proofs.lemmas.List.{map-append, take_more}
use Rattle.std.proofs.lemmas.List.Sums.{fold-append}
use Rattle.asc_text.specs.declared.file.Symbol.{Symbol}
use Rattle.vlog_module.specs.Parts.{Parts}
use Rattle.fabric_model.specs.Links.{LinkSet, class_in}
use Rattle.fabric_module.specs.Names.{wire_name}
use Rattle.wire_names.specs.Lists.{free_names, with_free}
use Rattle.wire_names.specs.Naming.{Names}
use Rattle.wire_names.specs.declared.naming.Naming.{Naming}

-- what a symbol wants, by the classes that are kept
abbrev pub wanted_in : LinkSet → Symbol → List ℕ × List ℕ
wanted_in links symbol = (wire_name (class_in links symbol.net), symbol.name)

-- nothing was wanted yet
pub names-none : (m : Parts) (links : LinkSet) (symbols : List Symbol) (naming : Naming) → Names m [] naming → Names m (free_names m (map (wanted_in links) (take 0 symbols))) naming
unfolding free_names
names-none m links symbols naming names = names

-- one symbol more
pub names-more : (m : Parts) (links : LinkSet) (symbols : List Symbol) (k : ℕ) (symbol : Symbol) (naming : Naming) → k < length symbols → symbol ≡ get_or symbols k symbol
    → Names m (with_free m (free_names m (map (wanted_in links) (take k symbols))) (wanted_in links symbol)) naming
    → Names m (free_names m (map (wanted_in links) (take (k + 1) symbols))) naming
unfolding free_names
names-more m links symbols k symbol naming within is names =
    let wanted : List (List ℕ × List ℕ) = map (wanted_in links) (take k symbols) in
    let next : map (wanted_in links) (take (k + 1) symbols) ≡ wanted ++ wanted_in links symbol ∷ [] =
    ap (map (wanted_in links)) (take_more symbols k symbol within ∙ ap (λ (one : Symbol). take k symbols ++ one ∷ []) (sym is)) ∙ map-append (wanted_in links) (take k symbols) (symbol ∷ []) in
    subst (λ (list : List (List ℕ × List ℕ)). Names m list naming) (sym (ap (fold (with_free m) []) next ∙ fold-append (with_free m) [] wanted (wanted_in links symbol ∷ []))) names
