-- Names after one was looked for.
use Rattle.std.proofs.Common.{◌≡◌, ℕ, List, [], ◌∷◌, ◌++◌, length, append-nil, refl, sym, ap, ◌∙◌, lit≤, true≢false}
use Rattle.std.specs.Prelude.{Option, Some, None, Result, Ok, Err, bytes_eq, position, IfOk, MatchOption}
use Rattle.std.proofs.lemmas.List.Quantifiers.{position-Some}
use Rattle.shared_lemmas.proofs.Bytes.{same_bytes}
use Rattle.name_arena.specs.Buckets.{HasAt, Lacks}
use Rattle.chipdb_reader.specs.declared.texts.Texts.{Texts}
use Rattle.chipdb_reader.specs.Texts.{Interns, IsIndexed}
use Rattle.chipdb_reader.proofs.TextSteps.{apart-push, position-new}

-- a name that has a place keeps it
pub interns-old : (texts : Texts) (text : List ℕ) (id : ℕ) → IsIndexed texts → position (bytes_eq text) texts.arena ≡ Some id → Interns texts texts text id
interns-old texts text id indexed here = record { indexed = indexed; here = here; more = []; grown = sym (append-nil texts.arena); few = lit≤ tt }

-- a name is found at its place
pub found-at : (texts : Texts) (text : List ℕ) (id : ℕ) → IsIndexed texts → HasAt texts.arena text id → position (bytes_eq text) texts.arena ≡ Some id
found-at texts text id indexed has = ap (λ t. position (bytes_eq t) texts.arena) (same_bytes text _ has.1) ∙ indexed.apart id has.0

-- a name that isn't there is found nowhere
nowhere : (texts : List (List ℕ)) (text : List ℕ) (found : Option ℕ) → position (bytes_eq text) texts ≡ found → Lacks texts text → found ≡ None
nowhere texts text None is lacks = refl
nowhere texts text (Some id) is lacks = let facts = position-Some (bytes_eq text) texts id [] is in absurd (true≢false (sym facts.1 ∙ lacks id facts.0))

pub found-nowhere : (texts : List (List ℕ)) (text : List ℕ) → Lacks texts text → position (bytes_eq text) texts ≡ None
found-nowhere texts text lacks = nowhere texts text (position (bytes_eq text) texts) refl lacks

pub found-is : (texts : Texts) (text : List ℕ) (found : Option ℕ) → IsIndexed texts → MatchOption found (Lacks texts.arena text) (HasAt texts.arena text) → found ≡ position (bytes_eq text) texts.arena
found-is texts text None indexed lacks = sym (found-nowhere texts.arena text lacks)
found-is texts text (Some id) indexed has = sym (found-at texts text id indexed has)

-- a name that has none is the next
pub interns-new : (old new : Texts) (text : List ℕ) (id : ℕ) → IsIndexed old → position (bytes_eq text) old.arena ≡ None → new.arena ≡ old.arena ++ text ∷ [] → id ≡ length old.arena
    → Interns old new text id
interns-new old new text id indexed none pushed last =
    record {
      indexed = record { apart = rw pushed (apart-push old.arena text indexed.apart none) };
      here = ap (position (bytes_eq text)) pushed ∙ position-new old.arena text none ∙ ap (λ n. Some n) (sym last);
      more = text ∷ [];
      grown = pushed;
      few = lit≤ tt;
    }

pub interns-pushed : {E : Type 0} (old new : Texts) (text : List ℕ) (answer : Result ℕ E) → IsIndexed old → position (bytes_eq text) old.arena ≡ None → IfOk answer (λ id. new.arena ≡ old.arena ++ text ∷ []) → IfOk answer (λ id. id ≡ length old.arena)
    → IfOk answer (Interns old new text)
interns-pushed old new text (Ok id) indexed none pushed last = interns-new old new text id indexed none pushed last
interns-pushed old new text (Err e) indexed none pushed last = tt
