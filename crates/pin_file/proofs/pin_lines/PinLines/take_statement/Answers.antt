use Rattle.std.proofs.Common.{◌≡◌, ◌||◌, ap, refl, ◌∙◌}
use Rattle.pin_file.specs.Packages.{begins_package}
use Rattle.pin_file.proofs.PackageSteps.{takes-statement}
use Rattle.pin_file.proofs.pin_lines.PinLines.take_statement.Goals as goal

pub returns : goal.returns
returns c =
    let below : c.begins_package-self.result ≡ begins_package c.args.self.now.name.items c.args.line.now
    = c.begins_package-self.ensures ∙ ap (λ name. begins_package name c.args.line.now) c.deref.ensures.value in
    takes-statement c.args.self.now _ c.args.line.now c.requires refl below
    (c.list_if.ensures.known ∙ ap (λ b. c.args.self.now.pins.known || b) below) c.list_if.ensures.places
