use Rattle.std.proofs.Common.{◌≡◌, ◌+◌, ◌++◌, ◌∷◌, [], ap, arith, length, subst, sym, ◌∙◌}
use Rattle.std.proofs.lemmas.List.Elements.{All-push, All-same}
use Rattle.vlog_sweep.specs.Strands.{Stands, begun_text}
use Rattle.vlog_sweep.specs.declared.list.EventList.{EventList}
use Rattle.vlog_sweep.specs.declared.strand.Strand.{Strand}
use Rattle.vlog_sweep.proofs.Begun.{lists-more}
use Rattle.vlog_sweep.proofs.Texts.{begun-more}
use Rattle.vlog_sweep.proofs.beginning.begin.Goals as goal

pub loop-list-preserved : goal.loop-list-preserved
loop-list-preserved c =
    let lists = c.args.lists.now in
    let line = c.args.line.now in
    let i = c.loop-list.list-index in
    let inv = c.loop-list.invariant in
    let strands = c.loop-list.strands.items in
    let text = c.loop-list.text.items in
    let item : EventList = c.list-item.result in
    let strand : Strand = c.in_ok-strand.strand in
    let list_is : strand.list.now ≡ item = c.in_ok-strand.ensures.list in
    let at : strand.at ≡ length text + (length strand.list.now.heading.items + length line) =
    c.in_ok-strand.ensures.at ∙ ap (λ (list : EventList). length text + (length list.heading.items + length line)) (sym list_is) in
    let text_is : c.add_list.new.text.items ≡ text ++ begun_text line strand.list.now =
    c.in_ok-strand.ensures.text ∙ ap (λ list. text ++ begun_text line list) (sym list_is) in
    record {
      stands = λ m is. subst (λ xs. Stands m line xs c.add_list.new.text.items) (sym c.in_ok-push.ensures.items)
          (subst (Stands m line (strands ++ strand ∷ [])) (sym text_is) (begun-more m line strands text strand is (inv.stands m is) c.in_ok-strand.ensures.taken at));
      lists = lists-more lists strands c.push.new.self.items strand i item c.in_ok-push.ensures.items inv.lists list_is c.list-item.is (omega arith);
      taken = All-same (λ s. s.taken ≡ 0) c.push.new.self.items (strands ++ strand ∷ []) c.in_ok-push.ensures.items
          (All-push (λ s. s.taken ≡ 0) strands strand inv.taken c.in_ok-strand.ensures.taken);
    }
