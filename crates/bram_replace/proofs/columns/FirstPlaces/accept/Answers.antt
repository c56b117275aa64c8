use Rattle.std.proofs.Common.{sym, ap, ◌∙◌, cond}
use Rattle.std.specs.Prelude.{Some}
use Rattle.std.specs.Ordering.{nat_cmp}
use Rattle.std.specs.Cmp.Lexicographic.{slice_cmp}
use Rattle.std.specs.BTreeMap.{get, is_at}
use Rattle.std.proofs.lemmas.Result.{on_ok_weaker}
use Rattle.bram_replace.specs.declared.columns.Repeat.{Repeat}
use Rattle.bram_replace.specs.Packed.{repeat_told}
use Rattle.bram_replace.proofs.Repeats.{Finds-inserted, Finds-known, repeats-new, repeats-known}
use Rattle.bram_replace.proofs.columns.FirstPlaces.accept.Goals as goal

pub returns-in-Some-clause-finds : goal.returns-in-Some-clause-finds
returns-in-Some-clause-finds c file is finds =
    let found = get (slice_cmp nat_cmp) c.args.self.now.places in
    Finds-known file c.args.place c.in-Some.first.now found finds (ap found (sym is) ∙ sym c.in-Some.ensures.value)

pub returns-in-Some-clause-repeats : goal.returns-in-Some-clause-repeats
returns-in-Some-clause-repeats c file is finds told =
    let found = get (slice_cmp nat_cmp) c.args.self.now.places in
    ap (λ (r : Repeat). repeat_told (Some r)) c.or_earlier.ensures
    ∙ repeats-known file c.args.place c.in-Some.first.now c.args.self.now.repeat found finds (ap found (sym is) ∙ sym c.in-Some.ensures.value) told

pub returns-in-None-clause-finds : goal.returns-in-None-clause-finds
returns-in-None-clause-finds c file is finds =
    let old = get (slice_cmp nat_cmp) c.args.self.now.places in
    let new = get (slice_cmp nat_cmp) c.insert.new.places in
    on_ok_weaker c.insert.result (λ updates. Finds-inserted file c.args.place old new finds (ap old (sym is) ∙ sym c.in-None.ensures.value)
    (λ key. updates key ∙ ap (λ column. cond (is_at (slice_cmp nat_cmp column) key) (Some c.args.place) (old key)) is)) c.insert.ensures

pub returns-in-None-clause-repeats : goal.returns-in-None-clause-repeats
returns-in-None-clause-repeats c file is finds told =
    let old = get (slice_cmp nat_cmp) c.args.self.now.places in
    on_ok_weaker c.insert.result (λ updates. told ∙ sym (repeats-new file c.args.place old finds (ap old (sym is) ∙ sym c.in-None.ensures.value))) c.insert.ensures
