use Rattle.std.proofs.Common.{◌≡◌, ◌<◌, ℕ, Bool, false, length, arith, ap, sym, ◌∙◌, refl, subst}
use Rattle.std.specs.Prelude.{Option, IfSome, codes}
use Rattle.index_search.specs.Places.{any_below}
use Rattle.index_search.proofs.Places.{any_below-more, any_below-at}
use Rattle.ice_image.specs.Either.{configuration_of}
use Rattle.chipdb_reader.specs.Kept.{database_in}
use Rattle.fabric_model.specs.Nets.{is_some_read, ending_in}
use Rattle.fabric_model.specs.Rams.{ram_net, is_ram_used}
use Rattle.fabric_model.specs.BelongTogether.{is_some_read_in}
use Rattle.fabric_model.proofs.Nets.{is_some_read-same}
use Rattle.fabric_parts.proofs.Inside.{inside-more}
use Rattle.fabric_parts.proofs.RamsListed.{port_net-inside}
use Rattle.fabric_parts.proofs.ram.used.is_used.Goals as goal

pub is_some_read-requires : goal.is_some_read-requires
is_some_read-requires c =
    let db = database_in c.args.db.now in
    let nets = length c.args.links.now.classes in
    let Inside : Option ℕ → Type 0 = λ net. IfSome net (λ n. n < nets) in
    let known = port_net-inside db c.args.x c.args.y (ending_in (codes "ram/RDATA_") c.loop-bit.bit) c.requires.together.fit in
    subst Inside (sym c.numbered_net.ensures) (inside-more _ db.chip.nets nets c.requires.together.linked.nets known)

pub loop-bit-init : goal.loop-bit-init
unfolding any_below
loop-bit-init c = refl

pub loop-bit-preserved : goal.loop-bit-preserved
loop-bit-preserved c =
    let db = database_in c.args.db.now in
    let test : ℕ → Bool = λ bit. is_some_read db (configuration_of c.args.image.now) (ram_net db c.args.x c.args.y (ending_in (codes "RDATA_") bit)) in
    let same = is_some_read-same c.args.db.now c.args.image.now c.args.links.now (ram_net db c.args.x c.args.y (ending_in (codes "RDATA_") c.loop-bit.bit)) c.requires.together in
    let here : test c.loop-bit.bit ≡ false =
    sym same ∙ ap (is_some_read_in c.args.links.now) (sym c.numbered_net.ensures) ∙ sym c.is_some_read.ensures ∙ c.if-is_some_read.false in
    any_below-more c.loop-bit.bit test ∙ rw (c.loop-bit.invariant, here) refl

pub returns-then-is_some_read : goal.returns-then-is_some_read
unfolding is_ram_used
returns-then-is_some_read c =
    let db = database_in c.args.db.now in
    let test : ℕ → Bool = λ bit. is_some_read db (configuration_of c.args.image.now) (ram_net db c.args.x c.args.y (ending_in (codes "RDATA_") bit)) in
    let same = is_some_read-same c.args.db.now c.args.image.now c.args.links.now (ram_net db c.args.x c.args.y (ending_in (codes "RDATA_") c.loop-bit.bit)) c.requires.together in
    sym (any_below-at 16 c.loop-bit.bit test (omega arith)
    (sym same ∙ ap (is_some_read_in c.args.links.now) (sym c.numbered_net.ensures) ∙ sym c.is_some_read.ensures ∙ c.if-is_some_read.true))

pub returns : goal.returns
unfolding is_ram_used
returns c =
    let db = database_in c.args.db.now in
    let test : ℕ → Bool = λ bit. is_some_read db (configuration_of c.args.image.now) (ram_net db c.args.x c.args.y (ending_in (codes "RDATA_") bit)) in
    let all : c.loop-bit.bit ≡ 16 = omega arith in
    sym c.loop-bit.invariant ∙ ap (λ n. any_below n test) all
