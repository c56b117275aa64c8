use Rattle.std.proofs.Common.{◌∙◌, ℕ, List, ap, arith, map, take}
use Rattle.std.proofs.lemmas.List.{take_all}
use Rattle.asc_text.specs.declared.file.Symbol.{Symbol}
use Rattle.wire_names.specs.Lists.{free_names}
use Rattle.shared_lemmas.proofs.Lists.{map-every}
use Rattle.fabric_model.specs.Fabric.{fabric_with}
use Rattle.fabric_module.specs.Names.{wire_name}
use Rattle.symbol_names.specs.Symbols.{symbol_names, wanted_name}
use Rattle.symbol_names.proofs.Classes.{class-is}
use Rattle.symbol_names.proofs.Wanted.{names-more, names-none, wanted_in}
use Rattle.symbol_names.proofs.naming.symbol_names.Goals as goal

pub loop-symbol-init : goal.loop-symbol-init
loop-symbol-init c = names-none c.args.«module».now c.args.design.now.parts.links c.args.symbols.now c.in_ok-naming.naming c.in_ok-naming.ensures

pub loop-symbol-preserved : goal.loop-symbol-preserved
loop-symbol-preserved c =
    let m = c.args.«module».now in
    let links = c.args.design.now.parts.links in
    let symbols : List Symbol = c.args.symbols.now in
    names-more m links symbols c.loop-symbol.symbol-index c.symbol-item.result c.offer.new.naming (omega arith) c.symbol-item.is
    (c.in_ok-offer.ensures m (free_names m (map (wanted_in links) (take c.loop-symbol.symbol-index symbols))) c.loop-symbol.invariant)

pub returns : goal.returns
unfolding symbol_names
returns c db image is =
    let m = c.args.«module».now in
    let design = c.args.design.now in
    let symbols : List Symbol = c.args.symbols.now in
    c.finish.ensures m (free_names m (map (wanted_in design.parts.links) (take c.loop-symbol.symbol-index symbols))) c.loop-symbol.invariant
    ∙ ap (λ (some : List Symbol). free_names m (map (wanted_in design.parts.links) some)) (take_all c.loop-symbol.symbol-index symbols (omega arith))
    ∙ ap (free_names m) (map-every (wanted_in design.parts.links) (wanted_name (fabric_with design.parts.options db image).joins)
    (λ (symbol : Symbol). ap (λ (class : ℕ). (wire_name class, symbol.name)) (class-is db image design symbol.net is)) symbols)
