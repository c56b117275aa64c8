use Rattle.std.proofs.lemmas.Result.{on_ok_weaker}
use Rattle.image_explain.proofs.Firsts.{net-found, nets-more}
use Rattle.image_explain.proofs.names.add_net.Goals as goal

pub returns : goal.returns
returns c =
    on_ok_weaker c.put_net.result (λ put. nets-more c.args.db.now c.args.net c.in_ok-firsts.firsts c.args.nets.now.nets c.put_net.new.nets c.requires
    (net-found c.args.db.now c.args.net c.names_of-names.result.now c.in_ok-firsts.firsts c.names_of-names.ensures c.in_ok-firsts.ensures) put) c.put_net.ensures
