use Rattle.std.proofs.Common.{[], ◌∷◌, ◌++◌, ap, ◌∙◌}
use Rattle.std.proofs.lemmas.Result.{on_ok_weaker}
use Rattle.text_lines.specs.Written.{text_of}
use Rattle.ice_image.specs.Either.{configuration_of}
use Rattle.ice_image.specs.declared.settings.Settings.{Settings}
use Rattle.plane_map.specs.DeviceWords.{device_word}
use Rattle.asc_text.specs.Statements.{device_keyword}
use Rattle.asc_text.specs.Canonical.{comment_lines, with_word, warm_boot_lines, range_lines, no_sleep_lines}
use Rattle.asc_text.proofs.Pieces.{head-written}
use Rattle.asc_text.proofs.writing.writer.append_head.Goals as goal

pub returns-clause-text : goal.returns-clause-text
returns-clause-text c =
    on_ok_weaker c.append_no_sleep.result (λ last. head-written (configuration_of c.args.image.now) c.args.text.now.items c.append_comment.new.text.items c.append_device.new.text.items c.append_warm_boot.new.text.items c.append_range.new.text.items c.append_no_sleep.new.text.items (c.in_ok-append_comment.ensures.text ∙ ap (λ comment. c.args.text.now.items ++ text_of (comment_lines comment)) c.comment.ensures) (c.in_ok-append_device.ensures ∙ ap (λ device. c.append_comment.new.text.items ++ text_of (with_word device_keyword (device_word device) ∷ [])) c.device.ensures.device) (c.in_ok-append_warm_boot.ensures ∙ ap (λ (settings : Settings). c.append_device.new.text.items ++ text_of (warm_boot_lines settings.warm_boot)) c.settings-settings.ensures) (c.in_ok-append_range.ensures ∙ ap (λ (settings : Settings). c.append_warm_boot.new.text.items ++ text_of (range_lines settings.range)) c.settings-settings.ensures) (last ∙ ap (λ (settings : Settings). c.append_range.new.text.items ++ text_of (no_sleep_lines settings.no_sleep)) c.settings-settings.ensures)) c.append_no_sleep.ensures
