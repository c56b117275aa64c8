use Rattle.std.proofs.Common.{◌∷◌, [], ◌<◌, All, List, length, subst, sym}
use Rattle.std.proofs.lemmas.List.Elements.{All-append, All-cons, All-nil}
use Rattle.std.proofs.lemmas.Result.{on_ok_weaker}
use Rattle.vlog_semantics.specs.declared.event.Event.{Event}
use Rattle.vlog_semantics.specs.Run.{input_names}
use Rattle.vlog_sweep.specs.declared.list.EventList.{EventList}
use Rattle.module_tools.proofs.sweeping.+read_files.Goals as goal

pub returns-in_ok-push_list-in-len1-up-texts-clause-inputs :
    goal.returns-in_ok-push_list-in-len1-up-texts-clause-inputs
returns-in_ok-push_list-in-len1-up-texts-clause-inputs t c =
    let P : EventList → Type 0 = λ list. All (λ (event : Event). event.pin < length (input_names c.args.module.now.ports)) list.events.items in
    let list = c.in_ok-list-in-len1-up-texts.list in
    on_ok_weaker c.read_files.result
    (λ all before. all (subst (All P) (sym {A = List EventList} c.in_ok-push_list-in-len1-up-texts.ensures)
    (All-append P c.args.lists.now.items (list ∷ []) before (All-cons P list [] c.in_ok-list-in-len1-up-texts.ensures.inputs (All-nil P)))))
    c.read_files.ensures.inputs
