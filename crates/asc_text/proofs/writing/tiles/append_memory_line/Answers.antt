use Rattle.std.proofs.Common.{◌+◌, ◌-◌, ◌*◌, ◌++◌, ap, ◌∙◌, arith}
use Rattle.std.proofs.lemmas.Result.{on_ok_weaker}
use Rattle.hex.specs.Hex.{encode_lower}
use Rattle.ice_image.specs.Bits.{ram_word_of}
use Rattle.ice_image.specs.Either.{configuration_of}
use Rattle.asc_text.specs.Canonical.{two_bytes}
use Rattle.asc_text.proofs.Pieces.{digits-none, digits-more, digits-all}
use Rattle.asc_text.proofs.writing.tiles.append_memory_line.Goals as goal

pub loop-index-init : goal.loop-index-init
loop-index-init c = record { text = digits-none _ _; room = omega arith; most = omega arith }

pub loop-index-preserved : goal.loop-index-preserved
loop-index-preserved c = record {
  text = digits-more c.args.text.now.items c.loop-index.text.items c.append_hexadecimal.new.text.items c.loop-index.index (λ index. two_bytes (ram_word_of (configuration_of c.args.image.now) c.args.x c.args.y (16 * c.args.row + 15 - index))) c.loop-index.invariant.text (c.in_ok-append_hexadecimal.ensures.text ∙ ap (λ word. c.loop-index.text.items ++ encode_lower (two_bytes word)) c.ram_word.ensures);
  room = omega (arith, c.loop-index.invariant.room, c.in_ok-append_hexadecimal.ensures.room);
  most = omega (arith, c.loop-index.invariant.most, c.in_ok-append_hexadecimal.ensures.most);
}

pub returns-clause-text : goal.returns-clause-text
returns-clause-text c =
    on_ok_weaker c.end_line.result (λ ended. digits-all c.args.text.now.items c.loop-index.text.items c.end_line.new.text.items c.loop-index.index 16 (λ index. two_bytes (ram_word_of (configuration_of c.args.image.now) c.args.x c.args.y (16 * c.args.row + 15 - index))) (omega arith) c.loop-index.invariant.text ended) c.end_line.ensures.text
