use Rattle.std.proofs.Common.{◌≡◌, refl, ◌∙◌, length, arith}
use Rattle.std.specs.Prelude.{None}
use Rattle.chipdb_reader.proofs.NetChanges.{closes-net}
use Rattle.chipdb_reader.proofs.Outcomes.{ok-fact}
use Rattle.chipdb_reader.proofs.nets.Nets.put_earlier.Goals as goal

pub returns : goal.returns
returns c =
    let size : c.len-end.result ≡ length c.args.self.now.names.items = omega (arith, c.len-end.ensures, c.args.self.now.names.ok.0) in
    closes-net c.args.self.now (record { names = c.args.self.now.names; earlier = c.insert.new.self; last = None; start = c.len-end.result; index = c.args.self.now.index })
    c.args.net c.in_ok-span.span c.requires.indexed c.requires.last c.in_ok-span.ensures.0 (c.in_ok-span.ensures.1 ∙ size)
    (ok-fact c.insert.result c.map_err.result c.in_ok-map_err.field-0 _ c.map_err.ensures.variant c.in_ok-map_err.was c.insert.ensures.entries)
    (ok-fact c.insert.result c.map_err.result c.in_ok-map_err.field-0 _ c.map_err.ensures.variant c.in_ok-map_err.was c.insert.ensures.updates)
    c.insert.ensures.unique refl refl size refl
