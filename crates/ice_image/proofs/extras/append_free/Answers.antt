use Rattle.std.proofs.Common.{List, ap, sym, ◌∙◌, ◌++◌, ◌==◌, append-nil}
use Rattle.std.proofs.lemmas.Nat.Bits.{shr_and_one}
use Rattle.plane_map.specs.declared.tile.Place.{Place}
use Rattle.ice_image.specs.Written.{free_places}
use Rattle.ice_image.proofs.Marked.{free_places-none, free_places-zero, free_places-more}
use Rattle.ice_image.proofs.extras.append_free.Goals as goal

pub returns-then-free-eq0 : goal.returns-then-free-eq0
returns-then-free-eq0 c =
    let args = c.args in
    let places = args.places.now.items in
    let none = ap (λ free. free_places args.bank args.px args.py free args.count) c.if-free-eq0.true ∙ free_places-zero args.bank args.px args.py args.count in
    sym (append-nil places) ∙ ap (λ (found : List Place). places ++ found) (sym none)

pub loop-k-init : goal.loop-k-init
loop-k-init c =
    let args = c.args in
    let places = args.places.now.items in
    sym (append-nil places) ∙ ap (λ (found : List Place). places ++ found) (sym (free_places-none args.bank args.px args.py args.free))

pub loop-k-preserved : goal.loop-k-preserved
loop-k-preserved c =
    let args = c.args in
    let test = ap (λ n. n == 1) (shr_and_one args.free c.loop-k.k) in
    free_places-more args.bank args.px args.py args.free c.loop-k.k args.places.now.items c.loop-k.places.items c.push_where.new.places.items _ c.loop-k.invariant test c.in_ok-push_where.ensures
