-- The bytes that were written are the canonical ones, which spell the image.
use Rattle.std.proofs.Common.{rules, ◌≡◌, length, ap, ◌∙◌, subst, sym}
use Rattle.ice_image.specs.Either.{configuration_of}
use Rattle.bin_stream.specs.CanonicalBytes.{canonical_bytes, range_number}
use Rattle.bin_stream.specs.Spelling.{Spells}
use Rattle.bin_stream.proofs.Assembled.{assembled}
use Rattle.bin_stream.proofs.RoundTrip.{spells_canonical}
use Rattle.bin_stream.proofs.Decided.{read-spelled}
use Rattle.bin_stream.proofs.writing.stream.encode.Goals as goal

pub returns-clause-bytes : goal.returns-clause-bytes
returns-clause-bytes c =
    let image = configuration_of c.args.image.now in
    let start : c.len-after_reset.result ≡ length c.append_control.new.out.items = search rules in
    let number : c.range_number.result ≡ range_number image.settings.range = c.range_number.ensures ∙ ap (λ settings. range_number settings.range) c.settings.ensures in
    assembled image c.push.new.self.items (record {
      at_first = c.in_ok-out.out.items;
      at_comment = c.append_comment.new.out.items;
      at_preamble = c.extend_from_slice.new.self.items;
      at_range = c.append_command.new.out.items;
      at_reset = c.append_control.new.out.items;
      at_checked = c.append_checked.new.out.items;
      at_value = c.append_check_value.new.out.items;
      at_wake_up = c.append_control-2.new.out.items;
      start = c.len-after_reset.result;
      number = c.range_number.result;
      first = c.in_ok-out.ensures.items;
      comment = c.in_ok-append_comment.ensures.bytes;
      preamble_is = c.in_ok-extend_from_slice.ensures.items;
      number_is = number;
      range = c.in_ok-append_command.ensures;
      reset = c.in_ok-append_control.ensures;
      start_is = start;
      checked = c.in_ok-append_checked.ensures;
      value = c.in_ok-append_check_value.ensures;
      wake_up = c.in_ok-append_control-2.ensures;
      last = c.in_ok-push.ensures.items;
    })

pub returns-clause-spells : goal.returns-clause-spells
returns-clause-spells c = λ layouts layout.
    let image = configuration_of c.args.image.now in
    let same : c.push.new.self.items ≡ canonical_bytes image = returns-clause-bytes c in
    subst (λ bytes. Spells layouts bytes image) (sym same) (spells_canonical layouts image c.device.ensures.whole c.in_ok-append_comment.ensures.lines layout)

pub returns-clause-read : goal.returns-clause-read
returns-clause-read c = λ layouts layout.
    read-spelled layouts c.push.new.self.items (configuration_of c.args.image.now) (returns-clause-spells c layouts layout)
