use Rattle.std.proofs.Common.{◌≡◌, length, ap, ◌∙◌, arith}
use Rattle.std.specs.Prelude.{map, Vec}
use Rattle.std.specs.declared.alloc.Global.{Global}
use Rattle.std.proofs.lemmas.List.{length-map}
use Rattle.index_search.specs.Places.{gathered_below}
use Rattle.bitstream_tools.specs.Stored.{first_name, names_once}
use Rattle.bitstream_tools.proofs.StoredNames.{Follows, has-is, listed-more, stored-more, stored-same}
use Rattle.bitstream_tools.proofs.stored.names_once.Goals.{then-not-has_name+in_ok-push, else-not-has_name}
use Rattle.bitstream_tools.proofs.stored.names_once.Goals as goal

pub loop-name-init : goal.loop-name-init
unfolding gathered_below
loop-name-init c = record { are = ap (map (λ name. name.now)) c.new-stored.ensures.items; few = omega (arith, ap length c.new-stored.ensures.items) }

pub loop-name-preserved : goal.loop-name-preserved
loop-name-preserved c =
    let names = map (λ name. name.now) c.args.names.now in
    let word = c.loop-name.name-index in
    let old = c.loop-name.stored.items in
    let has = c.has_name.ensures ∙ has-is (λ name. name.now) c.args.names.now old c.as_slice.result.now word _ c.as_slice.ensures.value c.loop-name-test.true in
    let follows : Follows (λ name. name.now) c.args.names.now c.has_name.result word old c.if-not-has_name.stored.items = elim c.if-not-has_name.branch [
      | then-not-has_name+in_ok-push w ↦
          stored-more (λ name. name.now) c.args.names.now c.has_name.result word _ old c.if-not-has_name.stored.items c.loop-name-test.true w.if-not-has_name.true
          (ap (λ (v : Vec _ Global). v.items) w.stored-is ∙ w.in_ok-push.ensures.items)
      | else-not-has_name w ↦
          stored-same (λ name. name.now) c.args.names.now c.has_name.result word old c.if-not-has_name.stored.items w.if-not-has_name.false
          (ap (λ (v : Vec _ Global). v.items) w.stored-is)
    ] in
    record {
      are = listed-more names word (map (λ name. name.now) old) (map (λ name. name.now) c.if-not-has_name.stored.items) c.has_name.result c.loop-name.invariant.are has follows.0;
      few = omega (arith, follows.1, c.loop-name.invariant.few);
    }

pub returns-clause-are : goal.returns-clause-are
unfolding names_once
returns-clause-are c =
    let names = map (λ name. name.now) c.args.names.now in
    let all : c.loop-name.name-index ≡ length names = omega (arith, c.loop-name.auto.name-index-end, c.loop-name-test.false, length-map c.args.names.now (λ name. name.now)) in
    c.loop-name.invariant.are ∙ ap (λ n. gathered_below n (first_name names)) all
