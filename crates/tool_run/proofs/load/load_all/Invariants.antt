use Rattle.std.proofs.Common.{◌≡◌, ◌<◌, length, ℕ, List, true, false, take}
use Rattle.std.specs.Prelude.{map}
use Rattle.std.specs.Io.KnownBytes.{IsAtEnd}
use Rattle.tool_run.specs.Needs.{need_of, reads_input, reads_files}
use Rattle.tool_run.specs.Keeping.{KeepsTexts}
use Rattle.tool_run.specs.Counts.{NeverFall, counts}
use Rattle.tool_run.specs.Loads.{AreTextsOf, IsReached}
use Rattle.tool_run.proofs.load.load_all.Given as goal

-- the needs before the index have texts
abbrev pub invariant-loop-load : goal.invariant-loop-load
invariant-loop-load g l =
    let F = g.F.Files in
    let I = g.I.Source in
    let needs = map need_of l.loads in
    let before = take l.load-index needs in
    record {
      texts : (texts : List (List ℕ)) × AreTextsOf (F.contents l.fn.files) (I.left l.fn.input) before texts × KeepsTexts g.K.Keeper.has_kept l.fn.keeper l.keeper texts;
      ready : g.K.Keeper.is_ready l.keeper;
      untried : l.load-index < length l.loads → l.input ≡ l.fn.input;
      unread : reads_input needs ≡ false → l.input ≡ l.fn.input;
      unreached : IsReached (F.contents l.fn.files) I.left needs l.fn.input l.input;
      unasked : reads_files needs ≡ false → l.files ≡ l.fn.files;
      end : reads_input before ≡ true → IsAtEnd (I.left l.input);
      same_contents : F.contents l.files ≡ F.contents l.fn.files;
      same_steady : F.steady l.files ≡ F.steady l.fn.files;
      same_stores : counts F.store_faults F.stores l.files ≡ counts F.store_faults F.stores l.fn.files;
      loads : NeverFall (counts F.load_faults F.bytes_read l.fn.files) (counts F.load_faults F.bytes_read l.files);
    }
