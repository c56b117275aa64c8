use Rattle.std.proofs.Common.{◌≡◌, ℕ, ◌-◌, ◌<◌, ◌≤◌, ◌^◌, arith, ◌∙◌, sym, ap, true, List, ◌++◌, length, take, replicate}
use Rattle.std.specs.Prelude.{◌==◌, ◌&&◌, nat_le}
use Rattle.std.proofs.lemmas.Bool.{and_parts, eqb-true}
use Rattle.std.proofs.lemmas.Bool.Decides.{nat_tests}
use Rattle.std.proofs.Math.Seq.{take-append_seam}
use Rattle.plane_map.specs.declared.device.DeviceName.{DeviceName}
use Rattle.plane_map.specs.Layout.{Layout, are_widths, are_wide, half_width, start_in, cram_width}
use Rattle.plane_map.proofs.Layouts.{half_width-le, cram_width-below}
use Rattle.plane_map.proofs.Starts.{start_in-padded, start_in-past}
use Rattle.plane_map.proofs.layout.Layout.set_widths.Goals as goal

-- there is one width for each column of tiles of a half
widths-count : (device : DeviceName) (widths : List ℕ) → are_widths device widths ≡ true → length widths ≡ half_width device
widths-count device widths good =
    let parts = and_parts ((length widths == half_width device) && are_wide device widths (half_width device))
    (nat_le (start_in widths (half_width device)) (cram_width device)) good in
    eqb-true (length widths) (half_width device) (and_parts (length widths == half_width device) (are_wide device widths (half_width device)) parts.0).0

-- those of the padded list are the widths themselves
cut-padded : (device : DeviceName) (widths all : List ℕ) → are_widths device widths ≡ true
    → all ≡ widths ++ replicate (17 - length widths) 0 → take (half_width device) all ≡ widths
cut-padded device widths all good is =
    ap (take (half_width device)) is ∙ rw (sym (widths-count device widths good)) (take-append_seam widths (replicate (17 - length widths) 0))

-- and padding them gives that list
padded-cut : (device : DeviceName) (widths all : List ℕ) → are_widths device widths ≡ true
    → all ≡ widths ++ replicate (17 - length widths) 0
    → take (half_width device) all ++ replicate (17 - half_width device) 0 ≡ all
padded-cut device widths all good is =
    rw (cut-padded device widths all good is, ← widths-count device widths good) (sym is)

-- their sum is small
padded-room : (device : DeviceName) (widths all : List ℕ) → are_widths device widths ≡ true
    → all ≡ widths ++ replicate (17 - length widths) 0 → start_in all 17 < 2 ^ 16
padded-room device widths all good is =
    let count = widths-count device widths good in
    let fits : start_in widths (half_width device) ≤ cram_width device = grind (arith, nat_tests, good) in
    rw is (omega (
      arith,
      start_in-padded widths (17 - length widths) 17,
      start_in-past widths (half_width device) 17 (omega (arith, count)) (half_width-le device),
      fits,
      cram_width-below device,
    ))

pub starts_of-self-inside-requires : goal.starts_of-self-inside-requires
starts_of-self-inside-requires c =
    let good : are_widths c.self.inside.device c.args.widths.now ≡ true = cc in
    padded-room c.self.inside.device c.args.widths.now c.padded-all.result good c.padded-all.ensures

pub invariant_of-self : goal.invariant_of-self
invariant_of-self c =
    let device = c.self.inside.device in
    let good : are_widths device c.args.widths.now ≡ true = cc in
    let cut = cut-padded device c.args.widths.now c.padded-all.result good c.padded-all.ensures in
    record {
      layout = record {
        widths = rw cut good;
        side_columns = c.self.invariant.layout.side_columns;
        pad_columns = c.self.invariant.layout.pad_columns;
        pad_rows = c.self.invariant.layout.pad_rows;
        banks = c.self.invariant.layout.banks;
      };
      padded = padded-cut device c.args.widths.now c.padded-all.result good c.padded-all.ensures;
      starts = sym c.starts_of-self-inside.ensures;
    }

pub returns : goal.returns
returns c =
    let device = c.self.inside.device in
    let good : are_widths device c.args.widths.now ≡ true = cc in
    let cut = cut-padded device c.args.widths.now c.padded-all.result good c.padded-all.ensures in
    rw cut (ap (λ (l : Layout). record l { widths = c.args.widths.now }) c.self.view_is)
