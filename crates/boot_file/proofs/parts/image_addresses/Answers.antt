use Rattle.std.proofs.Common.{◌≡◌, ◌≤◌, ◌==◌, length, subst, List, [], ◌∷◌, ◌++◌, sym, ap, ◌∙◌, arith}
use Rattle.std.specs.Prelude.{Vec, if◌then◌else◌, Bool, ℕ}
use Rattle.std.specs.List.{list_any}
use Rattle.std.proofs.lemmas.List.{append-nil}
use Rattle.std.specs.declared.alloc.Global.{Global}
use Rattle.index_search.specs.Places.{gathered_below}
use Rattle.boot_file.specs.Parts.{first_named, image_addresses}
use Rattle.boot_file.proofs.Named.{few_addresses, listed-more}
use Rattle.boot_file.proofs.parts.image_addresses.Goals.{then-not-contains+in_ok-push, else-not-contains}
use Rattle.boot_file.proofs.parts.image_addresses.Goals as goal

pub loop-entry-init : goal.loop-entry-init
unfolding gathered_below
loop-entry-init c = c.new-addresses.ensures.items

pub loop-entry-preserved : goal.loop-entry-preserved
loop-entry-preserved c =
    let address = c.entry_address-address.result in
    let now = c.loop-entry.addresses.items in
    let has : c.contains.result ≡ list_any (λ named. named == address) now = c.contains.ensures.value ∙ ap (list_any (λ named. named == address)) c.deref.ensures.value in
    listed-more c.args.bytes.now c.loop-entry.entry address now c.if-not-contains.addresses.items c.contains.result c.entry_address-address.ensures c.loop-entry.invariant has
    (elim c.if-not-contains.branch [
      | then-not-contains+in_ok-push w ↦
          ap (λ (v : Vec ℕ Global). v.items) w.addresses-is ∙ w.in_ok-push.ensures.items ∙ ap (λ (b : Bool). now ++ (if b then [] else address ∷ [])) (sym w.if-not-contains.true)
      | else-not-contains w ↦
          ap (λ (v : Vec ℕ Global). v.items) w.addresses-is ∙ sym (append-nil now) ∙ ap (λ (b : Bool). now ++ (if b then [] else address ∷ [])) (sym w.if-not-contains.false)
    ])

-- the addresses that were found
found : (c : goal.After-loop-entry) → c.loop-entry.addresses.items ≡ image_addresses c.args.bytes.now
unfolding image_addresses
found c =
    let all : c.loop-entry.entry ≡ 4 = omega (arith, c.loop-entry.auto.entry-end, c.loop-entry-test.false) in
    c.loop-entry.invariant ∙ ap (λ n. gathered_below n (first_named c.args.bytes.now)) all

pub returns-clause-are : goal.returns-clause-are
returns-clause-are c = found c

pub returns-clause-few : goal.returns-clause-few
returns-clause-few c = subst (λ (addresses : List ℕ). length addresses ≤ 4) (sym (found c)) (few_addresses c.args.bytes.now)
