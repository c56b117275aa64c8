use Rattle.std.proofs.Common.{arith}
use Rattle.plane_map.proofs.Words.{lower-odd, lower-third, word_place_is_onto}
use Rattle.plane_map.proofs.place.place_of_word.Goals as goal

pub ram_at-requires-clause-inner : goal.ram_at-requires-clause-inner
ram_at-requires-clause-inner c = omega (arith, lower-odd c.args.layout.now.device c.args.at.x c.args.at.y c.requires.lower)

pub ram_at-requires-clause-inside : goal.ram_at-requires-clause-inside
ram_at-requires-clause-inside c = lower-third c.args.layout.now.device c.args.at.x c.args.at.y c.requires.lower

pub returns-clause-onto : goal.returns-clause-onto
returns-clause-onto c = word_place_is_onto c.args.layout.now c.device.ensures.layout
