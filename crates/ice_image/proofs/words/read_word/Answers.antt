use Rattle.std.proofs.Common.{ℕ, Bool, ◌∙◌, arith}
use Rattle.plane_map.specs.Runs.{run_place}
use Rattle.ice_image.specs.Configuration.{place_bit}
use Rattle.ice_image.specs.Contents.{word_bit_place}
use Rattle.ice_image.proofs.Made.{row_word-below}
use Rattle.ice_image.proofs.RunBits.{word-at}
use Rattle.ice_image.proofs.words.read_word.Goals as goal

pub overflow_cast-result : goal.overflow_cast-result
overflow_cast-result g c =
    let bit : ℕ → Bool = λ k. place_bit c.args.bram.now (run_place c.word_run.result 16 k) in
    omega (arith, row_word-below 16 bit c.run_word.result c.run_word.ensures)

pub returns : goal.returns
returns g c =
    let args = c.args in
    c.run_word.ensures ∙ word-at (run_place c.word_run.result 16) (word_bit_place args.layout.now args.x args.y args.word) 16 args.bram.now c.word_run.ensures.places
