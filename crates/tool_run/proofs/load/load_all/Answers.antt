use Rattle.std.proofs.Common.{◌+◌, ◌++◌, ◌∷◌, [], List, false, drop, take, get_or, sym, ap, subst, ◌∙◌, arith}
use Rattle.std.specs.Prelude.{None, map}
use Rattle.std.specs.Io.KnownBytes.{IsAtEnd}
use Rattle.std.proofs.lemmas.List.Folds.{list_any-append}
use Rattle.tool_run.specs.declared.load.Load.{Load}
use Rattle.tool_run.specs.Needs.{Need, is_stream, need_of, reads_input}
use Rattle.tool_run.specs.Counts.{counts}
use Rattle.tool_run.specs.Loads.{AreTextsOf, IsReached, IsTextOf, StopsLoading}
use Rattle.std.proofs.Math.Bool.{or-false}
use Rattle.std.proofs.lemmas.Bool.{or_parts}
use Rattle.tool_run.proofs.Keeping.{KeepsTexts-trans}
use Rattle.tool_run.proofs.Loading.{end-here, file-at, file-before, limit-at, one-reached, split-need, stops_after_others, stops_now, stream-at, take-need, take-needs, texts-append}
use Rattle.tool_run.proofs.load.load_all.Goals as goal

-- where there is no load
none : Load
none = record { name = None; limit = 0 }

pub keep_text-requires-clause-limit : goal.keep_text-requires-clause-limit
unfolding none
keep_text-requires-clause-limit g c = limit-at c.args.loads.now c.loop-load.load-index none c.loop-load-test.true c.requires.sound

pub returns-in-Err-clause-unread : goal.returns-in-Err-clause-unread
unfolding none
returns-in-Err-clause-unread g c = λ unread.
    c.in-Err.ensures.unread (file-at c.args.loads.now c.loop-load.load-index none c.loop-load-test.true unread) ∙ c.loop-load.invariant.unread unread

pub returns-in-Err-clause-unasked : goal.returns-in-Err-clause-unasked
unfolding none
returns-in-Err-clause-unasked g c = λ unasked.
    c.in-Err.ensures.unasked (stream-at c.args.loads.now c.loop-load.load-index none c.loop-load-test.true unasked) ∙ c.loop-load.invariant.unasked unasked

pub returns-in-Err-clause-unreached : goal.returns-in-Err-clause-unreached
unfolding none
returns-in-Err-clause-unreached g c =
    let F = g.F.Files in
    let I = g.I.Source in
    let k = c.loop-load.load-index in
    let needs = map need_of c.args.loads.now in
    let need = need_of (get_or c.args.loads.now k none) in
    let i = c.loop-load.invariant in
    let same = i.untried c.loop-load-test.true in
    subst (λ (all : List Need). IsReached (F.contents c.args.files.now) I.left all c.args.input.now c.keep_text.new.input) (sym (split-need c.args.loads.now k none c.loop-load-test.true))
    (one-reached (F.contents c.args.files.now) I.left (take k needs) (drop (k + 1) needs) need i.texts.0 c.args.input.now c.keep_text.new.input i.texts.1 (λ file. c.in-Err.ensures.unread file ∙ same))

pub returns-in-Err-clause-stops : goal.returns-in-Err-clause-stops
unfolding none
returns-in-Err-clause-stops g c =
    let F = g.F.Files in
    let I = g.I.Source in
    let k = c.loop-load.load-index in
    let needs = map need_of c.args.loads.now in
    let need = need_of (get_or c.args.loads.now k none) in
    let old = c.loop-load in
    let new = c.keep_text.new in
    let i = c.loop-load.invariant in
    let stops : List Need → Type 0 = λ all. StopsLoading (F.contents c.args.files.now) (F.steady c.args.files.now) I.left (counts I.faults I.bytes_read) all (counts F.load_faults F.bytes_read c.args.files.now) (counts F.load_faults F.bytes_read new.files) c.args.input.now new.input c.in-Err.stop in
    subst stops (sym (split-need c.args.loads.now k none c.loop-load-test.true))
    (stops_after_others (F.contents c.args.files.now) (F.steady c.args.files.now) I.left (counts I.faults I.bytes_read) (take k needs) (drop (k + 1) needs) need i.texts.0 (counts F.load_faults F.bytes_read c.args.files.now) (counts F.load_faults F.bytes_read old.files) (counts F.load_faults F.bytes_read new.files) c.args.input.now new.input c.in-Err.stop i.texts.1 i.loads
    (stops_now (F.contents c.args.files.now) (F.contents old.files) (F.steady c.args.files.now) (F.steady old.files) I.left (counts I.faults I.bytes_read) (need ∷ []) (counts F.load_faults F.bytes_read old.files) (counts F.load_faults F.bytes_read new.files) c.args.input.now old.input new.input c.in-Err.stop
    i.same_contents i.same_steady (i.untried c.loop-load-test.true) c.in-Err.ensures.stops))

pub loop-load-preserved : goal.loop-load-preserved
unfolding none
loop-load-preserved g c =
    let F = g.F.Files in
    let I = g.I.Source in
    let k = c.loop-load.load-index in
    let loads = c.args.loads.now in
    let lt = c.loop-load-test.true in
    let needs = map need_of loads in
    let need = need_of (get_or loads k none) in
    let before = take k needs in
    let i = c.loop-load.invariant in
    let e = c.in-Ok.ensures in
    let old = c.loop-load in
    let new = c.keep_text.new in
    let bytes = e.text.0 in
    let contents = F.contents c.args.files.now in
    let left = I.left c.args.input.now in
    let same = i.untried lt in
    let here : IsTextOf contents left need bytes = subst (λ known. IsTextOf known left need bytes) i.same_contents (subst (λ source. IsTextOf (F.contents old.files) (I.left source) need bytes) same e.text.1) in
    record {
      texts = (
        i.texts.0 ++ bytes ∷ [],
        subst (λ (all : List Need). AreTextsOf contents left all (i.texts.0 ++ bytes ∷ [])) (sym (take-need loads k none lt)) (texts-append contents left before (need ∷ []) i.texts.0 (bytes ∷ []) i.texts.1 (here, tt)),
        KeepsTexts-trans g.K.Keeper.has_kept c.args.keeper.now old.keeper new.self i.texts.0 (bytes ∷ []) i.texts.2 e.text.2,
      );
      ready = e.ready;
      untried = λ more. e.unread (file-before loads k none c.requires.sound (omega (arith, more))) ∙ same;
      unread = λ unread. e.unread (file-at loads k none lt unread) ∙ i.unread unread;
      unreached = subst (λ (all : List Need). IsReached contents I.left all c.args.input.now new.input) (sym (split-need loads k none lt))
          (one-reached contents I.left before (drop (k + 1) needs) need i.texts.0 c.args.input.now new.input i.texts.1 (λ file. e.unread file ∙ same));
      unasked = λ unasked. e.unasked (stream-at loads k none lt unasked) ∙ i.unasked unasked;
      end = λ reads. end-here (reads_input before) (reads_input (need ∷ []))
          (λ was file. subst (λ source. IsAtEnd (I.left source)) (sym (e.unread (or_parts (is_stream need.name) false file).0)) (i.end was))
          (λ stream. e.end (sym (or-false (is_stream need.name)) ∙ stream))
          (sym (ap reads_input (take-need loads k none lt) ∙ list_any-append (λ (n : Need). is_stream n.name) before (need ∷ [])) ∙ reads);
      same_contents = e.same_contents ∙ i.same_contents;
      same_steady = e.same_steady ∙ i.same_steady;
      same_stores = e.same_stores ∙ i.same_stores;
      loads = (omega (arith, i.loads.0, e.loads.0), omega (arith, i.loads.1, e.loads.1));
    }

pub returns-clause-texts : goal.returns-clause-texts
returns-clause-texts g c =
    let i = c.loop-load.invariant in
    let contents = g.F.Files.contents c.args.files.now in
    let left = g.I.Source.left c.args.input.now in (
      i.texts.0,
      subst (λ (all : List Need). AreTextsOf contents left all i.texts.0) (take-needs c.args.loads.now c.loop-load.load-index (omega (arith, c.loop-load-test.false))) i.texts.1,
      i.texts.2,
    )

pub returns-clause-end : goal.returns-clause-end
returns-clause-end g c = λ reads.
    c.loop-load.invariant.end (ap reads_input (take-needs c.args.loads.now c.loop-load.load-index (omega (arith, c.loop-load-test.false))) ∙ reads)
