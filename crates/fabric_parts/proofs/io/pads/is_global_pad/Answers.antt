use Rattle.std.proofs.Common.{◌≡◌, ℕ, Bool, false, arith, ap, sym, ◌∙◌, refl}
use Rattle.index_search.specs.Places.{any_below}
use Rattle.index_search.proofs.Places.{any_below-more, any_below-at}
use Rattle.ice_image.specs.Either.{configuration_of}
use Rattle.chipdb_reader.specs.Kept.{database_in}
use Rattle.fabric_model.specs.Plls.{is_pin_at}
use Rattle.fabric_model.specs.Pins.{global_pad}
use Rattle.fabric_parts.proofs.io.pads.is_global_pad.Goals as goal

pub loop-g-init : goal.loop-g-init
unfolding any_below
loop-g-init c = refl

pub loop-g-preserved : goal.loop-g-preserved
loop-g-preserved c =
    let test : ℕ → Bool = λ g. is_pin_at c.args.x c.args.y c.args.n (global_pad (database_in c.args.db.now) (configuration_of c.args.image.now) g) in
    let here : test c.loop-g.g ≡ false = ap (is_pin_at c.args.x c.args.y c.args.n) (sym c.global_pad.ensures) ∙ sym c.is_pin_at.ensures ∙ c.if-is_pin_at.false in
    any_below-more c.loop-g.g test ∙ rw (c.loop-g.invariant, here) refl

pub returns-then-is_pin_at : goal.returns-then-is_pin_at
returns-then-is_pin_at c =
    let test : ℕ → Bool = λ g. is_pin_at c.args.x c.args.y c.args.n (global_pad (database_in c.args.db.now) (configuration_of c.args.image.now) g) in
    sym (any_below-at 8 c.loop-g.g test (omega arith) (ap (is_pin_at c.args.x c.args.y c.args.n) (sym c.global_pad.ensures) ∙ sym c.is_pin_at.ensures ∙ c.if-is_pin_at.true))

pub returns : goal.returns
returns c =
    let test : ℕ → Bool = λ g. is_pin_at c.args.x c.args.y c.args.n (global_pad (database_in c.args.db.now) (configuration_of c.args.image.now) g) in
    let all : c.loop-g.g ≡ 8 = omega arith in
    sym c.loop-g.invariant ∙ ap (λ n. any_below n test) all
