use Rattle.std.proofs.Common.{◌≡◌, ◌-◌, ◌++◌, ◌∙◌, List, ℕ, length, drop, ap, sym, subst, arith, length-drop, take_all}
use Rattle.std.specs.Prelude.{Some, None}
use Rattle.bin_stream.specs.Front.{preamble_offset}
use Rattle.bin_stream.specs.inside.Stages.{IsStage, stage_of}
use Rattle.bin_stream.proofs.FrontGrown.{found-grown, none-grown}
use Rattle.bin_stream.proofs.reading.stage.front_after.Goals as goal

pub returns-in-Some-clause-stands : goal.returns-in-Some-clause-stands
returns-in-Some-clause-stands c = λ bytes keeps.
    let piece = c.args.piece.now in
    let searched = c.saturating_sub-searched.result in
    let shown = c.deref.result.now in
    let found = c.in-Some.found in
    let joined_is : c.extend_from_slice.new.self.items ≡ bytes ++ piece = c.in_ok-extend_from_slice.ensures.items ∙ ap (λ kept. kept ++ piece) keeps.kept_is in
    let all_is : c.deref-in-Some.result.now ≡ bytes ++ piece = c.deref-in-Some.ensures.value ∙ joined_is in
    let rest = take_all (length shown - searched) (drop searched shown) (omega (arith, length-drop searched shown)) in
    let there : Some found ≡ preamble_offset (drop searched (bytes ++ piece)) = c.in-Some.ensures.offset ∙ ap preamble_offset (rest ∙ ap (drop searched) (c.deref.ensures.value ∙ joined_is)) in
    let front_is = found-grown bytes piece keeps.none searched found (omega (arith, c.saturating_sub-searched.ensures, c.len.ensures, ap length keeps.kept_is)) (sym there) in
    subst (λ (all : List ℕ). IsStage c.args.layouts all (stage_of c.begun_stage.result)) all_is
    (c.begun_stage.ensures.stands (ap preamble_offset all_is ∙ front_is))

pub returns-in-None-clause-stands : goal.returns-in-None-clause-stands
returns-in-None-clause-stands c = λ bytes keeps.
    let piece = c.args.piece.now in
    let searched = c.saturating_sub-searched.result in
    let shown = c.deref.result.now in
    let joined_is : c.extend_from_slice.new.self.items ≡ bytes ++ piece = c.in_ok-extend_from_slice.ensures.items ∙ ap (λ kept. kept ++ piece) keeps.kept_is in
    let rest = take_all (length shown - searched) (drop searched shown) (omega (arith, length-drop searched shown)) in
    let there : None ≡ preamble_offset (drop searched (bytes ++ piece)) = c.in-None.ensures.offset ∙ ap preamble_offset (rest ∙ ap (drop searched) (c.deref.ensures.value ∙ joined_is)) in
    let nowhere = none-grown bytes piece keeps.none searched (omega (arith, c.saturating_sub-searched.ensures, c.len.ensures, ap length keeps.kept_is)) (sym there) in
    subst (λ (all : List ℕ). IsStage c.args.layouts all c.front_stage.result) joined_is
    (c.front_stage.ensures.stands c.args.layouts (ap preamble_offset joined_is ∙ nowhere))
