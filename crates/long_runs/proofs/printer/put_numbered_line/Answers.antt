use Rattle.std.proofs.Common.{◌≡◌, ℕ, [], ◌∷◌, ◌++◌, ap, arith, length, length-append, refl}
use Rattle.std.specs.Prelude.{decimal}
use Rattle.vlog_run.specs.Text.{entry_line}
use Rattle.long_runs.proofs.Printed.{decimal-short, numbered-made}
use Rattle.long_runs.proofs.printer.put_numbered_line.Goals as goal

pub put_line-requires : goal.put_line-requires
put_line-requires c =
    let r = c.requires in
    let text = c.args.text.now in
    let digits = decimal c.args.number in
    let short = decimal-short c.args.number c.ranges.number.fits in
    let one : length {A = ℕ} (32 ∷ []) ≡ 1 = refl in
    record {
      m = r.m;
      entry = r.entry;
      shows = r.shows;
      fits = omega (
        arith,
        r.fits,
        short,
        one,
        ap length c.put_number.ensures.text,
        length-append text.items (digits ++ 32 ∷ []),
        length-append digits (32 ∷ []),
        text.ok.0,
        c.put_number.new.text.ok.0,
        c.put_number.ensures.room,
      );
    }

pub returns-clause-text : goal.returns-clause-text
returns-clause-text c m entry shows =
    numbered-made c.args.number (entry_line c.args.registers entry) c.args.text.now.items c.put_number.new.text.items c.put_line.new.text.items c.put_number.ensures.text (c.put_line.ensures.text m entry shows)
