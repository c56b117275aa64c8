use Rattle.std.proofs.Common.{◌≡◌, ◌==◌, ℕ, ◌+◌, Bool, true, false, List, length, length-append, refl, sym, ap, ◌∙◌, arith}
use Rattle.std.specs.List.{list_any}
use Rattle.index_search.specs.Places.{gathered_below}
use Rattle.index_search.proofs.Places.{gathered_below-more}
use Rattle.fabric_model.specs.declared.pin.GlobalNet.{GlobalNet}
use Rattle.fabric_model.specs.Tiles.{item_if}
use Rattle.image_stat.proofs.globals.globals.Goals.{then-drives, else-drives}
use Rattle.image_stat.proofs.globals.globals.Goals as goal

-- the numbers of the globals below one more
one-more : (g : ℕ) (driving : ℕ → Bool) → length (gathered_below (g + 1) (λ g. item_if (driving g) g)) ≡ length (gathered_below g (λ g. item_if (driving g) g)) + length (item_if (driving g) g)
one-more g driving =
    let given : ℕ → List ℕ = λ g. item_if (driving g) g in
    ap length (gathered_below-more g given) ∙ length-append (gathered_below g given) (given g)

one-there : (g : ℕ) (drives : Bool) → drives ≡ true → length (item_if drives g) ≡ 1
one-there g true is = refl
one-there g false is = absurd cc

none-there : (g : ℕ) (drives : Bool) → drives ≡ false → length (item_if drives g) ≡ 0
none-there g true is = absurd cc
none-there g false is = refl

pub loop-g-init : goal.loop-g-init
unfolding gathered_below
loop-g-init c = record { is = refl; few = omega arith }

pub loop-g-preserved : goal.loop-g-preserved
loop-g-preserved c =
    let driving : ℕ → Bool = λ g. list_any (λ (global : GlobalNet). global.g == g) c.args.nets.now in
    let more = one-more c.loop-g.g driving in
    elim c.if-drives.branch [
      | then-drives w ↦
          let one = one-there c.loop-g.g (driving c.loop-g.g) (sym c.drives.ensures ∙ w.if-drives.true) in
          record { is = w.count-is ∙ ap (λ n. n + 1) c.loop-g.invariant.is ∙ sym (more ∙ ap (λ n. length (gathered_below c.loop-g.g (λ g. item_if (driving g) g)) + n) one); few = omega (arith, w.count-is, c.loop-g.invariant.few) }
      | else-drives w ↦
          let none = none-there c.loop-g.g (driving c.loop-g.g) (sym c.drives.ensures ∙ w.if-drives.false) in
          record { is = w.count-is ∙ c.loop-g.invariant.is ∙ sym (more ∙ omega (arith, none)); few = omega (arith, w.count-is, c.loop-g.invariant.few) }
    ]
