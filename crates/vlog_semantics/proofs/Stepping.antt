-- Items over slots, one after the other, do what the items of the module do.
use Rattle.std.proofs.Common.{◌≡◌, ℕ, Bool, true, false, cond, List, [], ◌∷◌, Option, Some, None, ap, flat_map, fold, refl, ◌∙◌}
use Rattle.std.specs.List.{cons_option, filter_map}
use Rattle.std.specs.Option.{option_to_list}
use Rattle.std.proofs.lemmas.List.Sums.{fold-append}
use Rattle.vlog_module.specs.declared.item.Item.{Item}
use Rattle.vlog_semantics.specs.Entries.{put}
use Rattle.vlog_semantics.specs.Named.{names_of}
use Rattle.vlog_semantics.specs.Run.{put_given}
use Rattle.vlog_semantics.proofs.Lookups.{names-put}

pub fold-cons_option : {A B : Type 0} (f : B → A → B) (start : B) (found : Option A) (xs : List A)
    → fold f start (cons_option found xs) ≡ fold f (fold f start (option_to_list found)) xs
fold-cons_option f start (Some x) xs = refl
fold-cons_option f start None xs = refl

-- what each item keeps, all items keep
pub fold-keeps : {S : Type 0} (next : S → Item → S) (Kept : S → Type 0) → ((s : S) (item : Item) → Kept s → Kept (next s item))
    → (s : S) (items : List Item) → Kept s → Kept (fold next s items)
fold-keeps next Kept keeps s [] kept = kept
fold-keeps next Kept keeps s (item ∷ items) kept = fold-keeps next Kept keeps (next s item) items (keeps s item kept)

-- if over slots the compiled form of each item does what the item does, then so do those of all items
pub fold-same : {S B C : Type 0} (step : B → C → B) (compiled : Item → Option C) (value : S → B) (next : S → Item → S) (Kept : S → Type 0)
    → ((s : S) (item : Item) → Kept s → Kept (next s item))
    → ((s : S) (item : Item) → Kept s → fold step (value s) (option_to_list (compiled item)) ≡ value (next s item))
    → (s : S) (items : List Item) → Kept s → fold step (value s) (filter_map compiled items) ≡ value (fold next s items)
fold-same step compiled value next Kept keeps same s [] kept = refl
fold-same step compiled value next Kept keeps same s (item ∷ items) kept =
    fold-cons_option step (value s) (compiled item) (filter_map compiled items)
    ∙ ap (λ after. fold step after (filter_map compiled items)) (same s item kept)
    ∙ fold-same step compiled value next Kept keeps same (next s item) items (keeps s item kept)

-- and if the steps of each item do, then so do those of all items
pub fold-same-steps : {S B C : Type 0} (step : B → C → B) (steps : Item → List C) (value : S → B) (next : S → Item → S) (Kept : S → Type 0)
    → ((s : S) (item : Item) → Kept s → Kept (next s item))
    → ((s : S) (item : Item) → Kept s → fold step (value s) (steps item) ≡ value (next s item))
    → (s : S) (items : List Item) → Kept s → fold step (value s) (flat_map steps items) ≡ value (fold next s items)
fold-same-steps step steps value next Kept keeps same s [] kept = refl
fold-same-steps step steps value next Kept keeps same s (item ∷ items) kept =
    fold-append step (value s) (steps item) (flat_map steps items)
    ∙ ap (λ after. fold step after (flat_map steps items)) (same s item kept)
    ∙ fold-same-steps step steps value next Kept keeps same (next s item) items (keeps s item kept)

pub cond-same : {A : Type 0} (b : Bool) (x : A) → x ≡ cond b x x
cond-same true x = refl
cond-same false x = refl

-- ---- what is assigned

pub names-given : {A : Type 0} (entries : List (List ℕ × A)) (given : Option (List ℕ × A)) → names_of (put_given entries given) ≡ names_of entries
names-given entries (Some given) = names-put entries given.0 given.1
names-given entries None = refl

pub given-out : {A B : Type 0} (f : List (List ℕ × A) → B) (b : Bool) (entries : List (List ℕ × A)) (given : List ℕ × A)
    → cond b (f (put entries given.0 given.1)) (f entries) ≡ f (put_given entries (cond b (Some given) None))
given-out f true entries given = refl
given-out f false entries given = refl
