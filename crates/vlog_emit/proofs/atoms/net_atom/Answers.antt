use Rattle.vlog_emit.proofs.Read.{atom-some, atom-none}
use Rattle.vlog_emit.proofs.atoms.net_atom.Goals as goal

pub returns-in-None : goal.returns-in-None
returns-in-None c fabric kept = atom-none fabric c.args.stated c.args.net (c.in-None.ensures fabric kept)

pub returns-in_ok-name-in-Some : goal.returns-in_ok-name-in-Some
returns-in_ok-name-in-Some c fabric kept =
    atom-some fabric c.args.stated c.args.net c.in-Some.class c.in_ok-name-in-Some.name (c.in-Some.ensures fabric kept) c.in_ok-name-in-Some.ensures
