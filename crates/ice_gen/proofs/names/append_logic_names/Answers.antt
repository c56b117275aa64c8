use Rattle.std.proofs.Common.{ℕ, List, ◌==◌, refl}
use Rattle.std.specs.Prelude.{codes}
use Rattle.std.proofs.lemmas.Result.{on_ok_weaker}
use Rattle.index_search.specs.Places.{gathered_below}
use Rattle.ice_gen.specs.Numbers.{cell_number, clock_net}
use Rattle.ice_gen.specs.Database.{cell_names, logic_names, name_line, named}
use Rattle.ice_gen.proofs.Texts.{names-first, names-more}
use Rattle.ice_gen.proofs.names.append_logic_names.Goals as goal

pub returns : goal.returns
unfolding logic_names
returns c =
    let device = c.args.device in
    let net = c.args.net in
    let line = name_line c.args.x c.args.y in
    let old = c.args.text.now.items in
    let cells : ℕ → List (List ℕ) = λ i. cell_names device net (cell_number device c.args.x c.args.y i) i in
    let one = names-first line old c.append_named.new.text.items _ (named (net == clock_net) (codes "glb_netwk_0")) refl c.in_ok-append_named.ensures in
    let two = names-more line old c.append_named.new.text.items c.append_names_of_cells.new.text.items _ _ (gathered_below 8 cells) one refl c.in_ok-append_names_of_cells.ensures in
    on_ok_weaker c.append_named-2.result (λ last. names-more line old c.append_names_of_cells.new.text.items c.append_named-2.new.text.items _ _ (named (net == clock_net) (codes "lutff_global/clk")) two refl last) c.append_named-2.ensures
