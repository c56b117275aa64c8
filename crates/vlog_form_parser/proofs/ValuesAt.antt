-- Values of places.
use Rattle.std.proofs.Common.{◌≡◌, ℕ, zero, suc, ◌<◌, ◌≤◌, ◌+◌, List, [], ◌∷◌, ◌++◌, length, get_or, drop, reverse, refl, ap, sym, ◌∙◌, subst, arith, append_assoc}
use Rattle.std.proofs.lemmas.List.{reverse-append}
use Rattle.vlog_module.specs.declared.atoms.Atom.{Atom}
use Rattle.vlog_forms.specs.Values.{Value, seen}
use Rattle.vlog_forms.specs.Items.{following, atoms_in, atom_in}
use Rattle.vlog_forms.specs.Reading.{values_of}
use Rattle.vlog_form_parser.specs.declared.found.Found as kept
use Rattle.vlog_form_parser.specs.Found.{all_found}
use Rattle.vlog_form_parser.specs.Named.{AreNamed, IsNamed}

pub after-some : (values : List kept.Found) (place : ℕ) (default : kept.Found) → place < length values
    → (rest : List Value) × (following place (values_of (all_found values)) ≡ seen (get_or values place default).value ∷ rest)
unfolding following
after-some [] place default within = absurd (omega arith)
after-some (one ∷ values) zero default within = (values_of (all_found values), refl)
after-some (one ∷ values) (suc place) default within = after-some values place default (omega arith)

pub after-none : (values : List kept.Found) (place : ℕ) → length values ≤ place → following place (values_of (all_found values)) ≡ []
unfolding following
after-none [] zero past = refl
after-none [] (suc place) past = after-none [] place (omega arith)
after-none (one ∷ values) zero past = absurd (omega arith)
after-none (one ∷ values) (suc place) past = after-none values place (omega arith)

pub named-after : (values : List Value) (place : ℕ) → AreNamed values → AreNamed (following place values)
unfolding following
named-after values zero named = named
named-after [] (suc place) named = named-after [] place named
named-after (value ∷ values) (suc place) named = named-after values place named.1

pub named-first : (values : List Value) (place : ℕ) (value : Value) (rest : List Value) → AreNamed values → following place values ≡ value ∷ rest → IsNamed value
named-first values place value rest named is =
    (subst AreNamed is (named-after values place named)).0

-- one place on
pub after-next : (values : List Value) (place more : ℕ) → following (place + more) values ≡ following more (following place values)
unfolding following
after-next values zero more = let same : 0 + more ≡ more = omega arith in ap (λ n. following n values) same
after-next [] (suc place) more = let same : suc place + more ≡ suc (place + more) = omega arith in ap (λ n. following n []) same ∙ after-next [] place more
after-next (value ∷ values) (suc place) more =
    let same : suc place + more ≡ suc (place + more) = omega arith in ap (λ n. following n (value ∷ values)) same ∙ after-next values place more

-- the atoms of places, from the last one on
pub atoms-in-more : (count : ℕ) (values : List Value) → atoms_in (count + 1) values ≡ atoms_in count values ++ atom_in (following count values) ∷ []
unfolding atoms_in following
atoms-in-more zero values = refl
atoms-in-more (suc count) values =
    let same : suc count + 1 ≡ suc (count + 1) = omega arith in
    ap (λ n. atoms_in n values) same ∙ ap (λ more. atom_in values ∷ more) (atoms-in-more count (drop 1 values))

pub atoms-in-length : (count : ℕ) (values : List Value) → length (atoms_in count values) ≡ count
unfolding atoms_in
atoms-in-length zero values = refl
atoms-in-length (suc count) values = ap (λ n. suc n) (atoms-in-length count (drop 1 values))

-- the atoms that are left to push, after those that were pushed
pub atoms-push : (list more : List Atom) (one : Atom) (values : List Value) (left : ℕ) → more ≡ list ++ one ∷ [] → one ≡ atom_in (following left values)
    → more ++ reverse (atoms_in left values) ≡ list ++ reverse (atoms_in (left + 1) values)
atoms-push list more one values left pushed is =
    let turned : reverse (atoms_in (left + 1) values) ≡ one ∷ reverse (atoms_in left values)
    = ap reverse (atoms-in-more left values) ∙ reverse-append (atoms_in left values) (atom_in (following left values) ∷ []) ∙ ap (λ each. each ∷ reverse (atoms_in left values)) (sym is) in
    ap (λ front. front ++ reverse (atoms_in left values)) pushed ∙ append_assoc list (one ∷ []) (reverse (atoms_in left values)) ∙ ap (λ rest. list ++ rest) (sym turned)
