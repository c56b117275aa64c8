use Rattle.std.proofs.Common.{[]}
use Rattle.design_answers.proofs.NamedIntakes.{fed-database, fed-other, fed-pins}
use Rattle.design_answers.proofs.named_intake.NamedIntake.feed.Goals as goal

pub returns-in-PinFile-clause-taken : goal.returns-in-PinFile-clause-taken
returns-in-PinFile-clause-taken c package_name layout texts bytes taken =
    let old = c.args.self.now in
    fed-pins package_name layout texts bytes c.args.piece.now old.file _ old.input old.pins old.next c.in-PinFile.is (c.push.ensures bytes) taken

pub returns-in-Database-clause-taken : goal.returns-in-Database-clause-taken
returns-in-Database-clause-taken c package_name layout texts bytes taken =
    let old = c.args.self.now in
    fed-database package_name layout texts bytes c.args.piece.now old.file old.input c.feed.new.self old.pins _ old.next c.in-Database.is (c.feed.ensures.taken layout [] bytes)
    (c.feed_pins.ensures package_name bytes) taken

pub returns-in-Other-clause-taken : goal.returns-in-Other-clause-taken
returns-in-Other-clause-taken c package_name layout texts bytes taken =
    let old = c.args.self.now in
    fed-other package_name layout texts bytes c.args.piece.now old.file old.input c.feed-in-Other.new.self old.pins old.next c.in-Other.is (λ all. c.feed-in-Other.ensures.taken layout all bytes) taken
