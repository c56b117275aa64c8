use Rattle.std.proofs.Common.{◌≡◌, ◌++◌, ◌∷◌, [], List, arith}
use Rattle.std.proofs.lemmas.List.Elements.{All-push, All-same}
use Rattle.vlog_sweep.specs.declared.strand.Strand.{Strand}
use Rattle.vlog_sweep.proofs.Begun.{lists-more}
use Rattle.vlog_sweep.proofs.beginning.at_start.Goals as goal

pub loop-list-preserved : goal.loop-list-preserved
loop-list-preserved c =
    let inv = c.loop-list.invariant in
    let strands : List Strand = c.loop-list.strands.items in
    let new : List Strand = c.push.new.self.items in
    let strand : Strand = c.first_strand.result in
    record {
      lists = lists-more c.args.lists.now strands new strand c.loop-list.list-index c.list-item.result c.in_ok-push.ensures.items inv.lists
          c.first_strand.ensures.list c.list-item.is (omega arith);
      taken = All-same (λ s. s.taken ≡ 0) new (strands ++ strand ∷ []) c.in_ok-push.ensures.items
          (All-push (λ s. s.taken ≡ 0) strands strand inv.taken c.first_strand.ensures.taken);
    }
