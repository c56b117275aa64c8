-- The reader stands for the whole text after the one piece that is fed.
use Rattle.std.proofs.Common.{[]}
use Rattle.std.proofs.lemmas.Result.{IfOk-weaker, IfErr-weaker, on_ok_weaker}
use Rattle.ice_pack.proofs.packing.pack_with.Goals as goal

pub returns-clause-packed : goal.returns-clause-packed
returns-clause-packed c =
    IfOk-weaker c.pack_fed.result _ _ (λ bytes packed. packed c.args.layouts c.args.asc.now (c.feed.ensures.stands c.args.layouts [] c.with-reader.ensures.stands)) c.pack_fed.ensures.packed

pub returns-clause-alike : goal.returns-clause-alike
returns-clause-alike c =
    IfOk-weaker c.pack_fed.result _ _ (λ bytes alike. alike c.args.layouts c.args.asc.now (c.feed.ensures.stands c.args.layouts [] c.with-reader.ensures.stands)) c.pack_fed.ensures.alike

pub returns-clause-back : goal.returns-clause-back
returns-clause-back c =
    IfOk-weaker c.pack_fed.result _ _ (λ bytes back. back c.args.layouts c.args.asc.now (c.feed.ensures.stands c.args.layouts [] c.with-reader.ensures.stands)) c.pack_fed.ensures.back

pub returns-clause-accepted : goal.returns-clause-accepted
returns-clause-accepted c =
    on_ok_weaker c.pack_fed.result (λ accepted. accepted c.args.layouts c.args.asc.now (c.feed.ensures.stands c.args.layouts [] c.with-reader.ensures.stands)) c.pack_fed.ensures.accepted

pub returns-clause-refused : goal.returns-clause-refused
returns-clause-refused c =
    IfErr-weaker c.pack_fed.result _ _ (λ fault refused. refused c.args.layouts c.args.asc.now (c.feed.ensures.stands c.args.layouts [] c.with-reader.ensures.stands)) c.pack_fed.ensures.refused
