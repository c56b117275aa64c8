use Rattle.std.proofs.Common.{ap}
use Rattle.std.specs.Prelude.{bytes_eq}
use Rattle.std.specs.Map.{lookup}
use Rattle.pin_file.proofs.package_pins.PackagePins.new.Goals as goal

pub returns-clause-empty : goal.returns-clause-empty
returns-clause-empty c = λ pin. ap (λ entries. lookup (λ key. bytes_eq pin key.items) entries) c.new.ensures.empty
