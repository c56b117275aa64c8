use Rattle.std.proofs.Common.{[], ◌∙◌, get_or, arith}
use Rattle.fabric_module.specs.Written.{start_item}
use Rattle.vlog_emit.proofs.Kept.{start-is}
use Rattle.vlog_emit.proofs.Steps.{each-start, each-step}
use Rattle.vlog_emit.proofs.sections.append_start_words.Goals as goal

pub loop-word-init : goal.loop-word-init
loop-word-init c fabric kept = each-start (start_item c.args.ram.now (get_or fabric.start c.args.place [])) c.args.items.now.items

pub loop-word-preserved : goal.loop-word-preserved
loop-word-preserved c fabric kept =
    each-step (start_item c.args.ram.now (get_or fabric.start c.args.place [])) c.loop-word.word c.args.items.now.items c.loop-word.items.items c.push.new.self.items _
    (c.loop-word.invariant fabric kept) c.in_ok-push.ensures.items
    (start-is fabric c.args.design.now kept c.args.ram.now c.args.place c.loop-word.word c.requires (omega arith) c.in_ok-memory.memory c.start_word-start.result
    (c.in_ok-memory.ensures ∙ c.bytes.ensures.bytes ∙ c.in_ok-name.ensures) c.start_word-start.ensures)
