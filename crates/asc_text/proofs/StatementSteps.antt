-- What is kept after a statement is what the lines say with it.
use Rattle.std.proofs.Common.{◌≡◌, ℕ, ◌+◌, Bool, true, false, not, List, refl, sym, ap, ◌∙◌, subst, arith}
use Rattle.std.specs.Prelude.{Option, Some, None, is_some}
use Rattle.std.proofs.Math.Bool.{and-false}
use Rattle.text_lines.specs.Lines.{line_at}
use Rattle.index_search.specs.Places.{or_else}
use Rattle.plane_map.specs.Layout.{kind_of}
use Rattle.plane_map.specs.declared.device.DeviceName.{DeviceName}
use Rattle.plane_map.specs.declared.tile.TileKind.{TileKind}
use Rattle.plane_map.specs.declared.tile.TileKind.TheVariants.{Io, Logic, RamB, RamT}
use Rattle.layout_file.specs.declared.layouts.Layouts.{Layouts}
use Rattle.layout_file.specs.Layouts.{AreLayouts}
use Rattle.ice_image.specs.Either.{device_of}
use Rattle.ice_image.specs.declared.any.AnyImage.{AnyImage}
use Rattle.ice_image.specs.declared.settings.Range.{Range}
use Rattle.asc_text.specs.declared.statement.Statement.{Statement}
use Rattle.asc_text.specs.declared.statement.Statement.TheVariants.{Comment, Device, WarmBoot, FrequencyRange, NoSleep, Tile, RamData, ExtraBit, Symbol}
use Rattle.asc_text.specs.declared.fault.AscCause.TheVariants.{Repeated, Kind}
use Rattle.asc_text.specs.declared.reading.reader.Expected.{Expected}
use Rattle.asc_text.specs.declared.reading.reader.Expected.TheVariants.{Statement as AnyStatement}
use Rattle.asc_text.specs.Statements.{statement_in, begins_with_dot}
use Rattle.asc_text.specs.inside.TileSets.{has_tile}
use Rattle.asc_text.specs.Meaning.{extra_sets}
use Rattle.asc_text.specs.Blocks.{depth_at, statement_over, statement_at, has_rows, is_comment}
use Rattle.asc_text.specs.Faults.{extra_place, cause_at, cause_if, kind_cause, is_same_kind, unknown_device}
use Rattle.asc_text.specs.inside.Reading.{ReaderState, HasKind, IsBlank, TakesStatement, statement_refusal, setting_refusal, tile_refusal}
use Rattle.asc_text.proofs.Depths.{depth_after}
use Rattle.asc_text.proofs.HasRead.{HasRead, HasComment, HasImage, IsAt, device_known}
use Rattle.asc_text.proofs.Given.{Follows, HasGiven-more}
use Rattle.asc_text.proofs.CommentSteps.{comment-begins, comment-ends}
use Rattle.asc_text.proofs.ImageSteps.{image-stays, image-begins, image-gains, blank-device}
use Rattle.asc_text.proofs.LineSteps.{depth-more, at-statement, fit-more, same_device}
use Rattle.asc_text.proofs.Refusals.{over_is}

-- ---- what isn't refused

-- of two causes neither holds
neither : {A : Type 0} (a b : Option A) → or_else a b ≡ None → (a ≡ None) × (b ≡ None)
neither None b none = (refl, none)
neither (Some a) b none = absurd cc

not_given : {A : Type 0} (value : Option A) → cause_if (is_some value) Repeated ≡ None → value ≡ None
not_given None none = refl
not_given (Some value) none = absurd cc

-- a setting that is taken has a value, and none was given before
setting-taken : {A : Type 0} (old setting : Option A) → setting_refusal (is_some old) (is_some setting) ≡ None → (old ≡ None) × (is_some setting ≡ true)
setting-taken None None none = absurd cc
setting-taken None (Some value) none = (refl, refl)
setting-taken (Some old) setting none = absurd cc

kind-taken : (there kind : TileKind) → cause_if (not (is_same_kind there kind)) (Kind there) ≡ None → there ≡ kind
kind-taken Io Io none = refl
kind-taken Io Logic none = absurd cc
kind-taken Io RamB none = absurd cc
kind-taken Io RamT none = absurd cc
kind-taken Logic Io none = absurd cc
kind-taken Logic Logic none = refl
kind-taken Logic RamB none = absurd cc
kind-taken Logic RamT none = absurd cc
kind-taken RamB Io none = absurd cc
kind-taken RamB Logic none = absurd cc
kind-taken RamB RamB none = refl
kind-taken RamB RamT none = absurd cc
kind-taken RamT Io none = absurd cc
kind-taken RamT Logic none = absurd cc
kind-taken RamT RamB none = absurd cc
kind-taken RamT RamT none = refl

tile-there : (there : Option TileKind) (kind : TileKind) → kind_cause there kind ≡ None → there ≡ Some kind
tile-there None kind none = absurd cc
tile-there (Some there) kind none = ap (λ k. Some k) (kind-taken there kind none)

-- the tile of a statement that is taken is there
tile-taken : (image : Option AnyImage) (kind : TileKind) (x y : ℕ) → tile_refusal image kind x y ≡ None → HasKind image x y kind
tile-taken None kind x y none = absurd cc
tile-taken (Some image) kind x y none = tile-there (kind_of (device_of image) x y) kind none

known-none : (image : Option AnyImage) → image ≡ None → device_known image ≡ None
known-none image none = ap device_known none

-- ---- what is given

-- the state in which a statement is taken
abbrev pub calm : ReaderState → ReaderState
calm s = record s { in_comment = false }

-- a device and its image
follows-device : (s : ReaderState) (name : Option DeviceName) (image : Option AnyImage) → AreLayouts s.layouts → s.image ≡ None → IsBlank s.layouts name image → Follows s (Some (Device name)) (record (calm s) { image = image })
follows-device s None image are none blank = absurd blank
follows-device s (Some name) None are none blank = absurd blank
follows-device s (Some name) (Some image) are none blank = record {
  warm_boot = refl;
  warm_boot_known = refl;
  range = refl;
  range_known = refl;
  no_sleep = refl;
  no_sleep_known = refl;
  device = (ap device_known none, ap (λ d. Some d) (blank-device s.layouts name image are blank));
  device_known = refl;
  tiles = refl;
  rams = refl;
}

follows-warm_boot : (s : ReaderState) (setting : Option Bool) → (s.warm_boot ≡ None) × (is_some setting ≡ true) → Follows s (Some (WarmBoot setting)) (record (calm s) { warm_boot = setting })
follows-warm_boot s None taken = absurd (cc (taken.1))
follows-warm_boot s (Some value) taken = record {
  warm_boot = (taken.0, refl);
  warm_boot_known = refl;
  range = refl;
  range_known = refl;
  no_sleep = refl;
  no_sleep_known = refl;
  device = refl;
  device_known = refl;
  tiles = refl;
  rams = refl;
}

follows-range : (s : ReaderState) (setting : Option Range) → (s.range ≡ None) × (is_some setting ≡ true) → Follows s (Some (FrequencyRange setting)) (record (calm s) { range = setting })
follows-range s None taken = absurd (cc (taken.1))
follows-range s (Some value) taken = record {
  warm_boot = refl;
  warm_boot_known = refl;
  range = (taken.0, refl);
  range_known = refl;
  no_sleep = refl;
  no_sleep_known = refl;
  device = refl;
  device_known = refl;
  tiles = refl;
  rams = refl;
}

follows-no_sleep : (s : ReaderState) (setting : Option Bool) → (s.no_sleep ≡ None) × (is_some setting ≡ true) → Follows s (Some (NoSleep setting)) (record (calm s) { no_sleep = setting })
follows-no_sleep s None taken = absurd (cc (taken.1))
follows-no_sleep s (Some value) taken = record {
  warm_boot = refl;
  warm_boot_known = refl;
  range = refl;
  range_known = refl;
  no_sleep = (taken.0, refl);
  no_sleep_known = refl;
  device = refl;
  device_known = refl;
  tiles = refl;
  rams = refl;
}

-- what a statement gives
follows : (s new : ReaderState) (statement : Statement) → AreLayouts s.layouts → statement_refusal s statement ≡ None → TakesStatement (calm s) statement new → Follows s (Some statement) new
follows s new Comment are none takes =
    let P : ReaderState → Type 0 = λ t. Follows s (Some Comment) t in
    subst P (sym takes) (record { warm_boot = refl; warm_boot_known = refl; range = refl; range_known = refl; no_sleep = refl; no_sleep_known = refl; device = refl; device_known = refl; tiles = refl; rams = refl })
follows s new (Device name) are none takes =
    let P : ReaderState → Type 0 = λ t. Follows s (Some (Device name)) t in
    subst P (sym takes.0) (follows-device s name new.image are (not_given s.image ((neither (unknown_device (Device name)) (cause_if (is_some s.image) Repeated) none).1)) takes.1)
follows s new (WarmBoot setting) are none takes =
    let P : ReaderState → Type 0 = λ t. Follows s (Some (WarmBoot setting)) t in
    subst P (sym takes) (follows-warm_boot s setting (setting-taken s.warm_boot setting none))
follows s new (FrequencyRange setting) are none takes =
    let P : ReaderState → Type 0 = λ t. Follows s (Some (FrequencyRange setting)) t in
    subst P (sym takes) (follows-range s setting (setting-taken s.range setting none))
follows s new (NoSleep setting) are none takes =
    let P : ReaderState → Type 0 = λ t. Follows s (Some (NoSleep setting)) t in
    subst P (sym takes) (follows-no_sleep s setting (setting-taken s.no_sleep setting none))
follows s new (Tile kind x y) are none takes =
    let P : ReaderState → Type 0 = λ t. Follows s (Some (Tile kind x y)) t in
    subst P (sym takes.0) (record { warm_boot = refl; warm_boot_known = refl; range = refl; range_known = refl; no_sleep = refl; no_sleep_known = refl; device = refl; device_known = refl; tiles = takes.1; rams = refl })
follows s new (RamData x y) are none takes =
    let P : ReaderState → Type 0 = λ t. Follows s (Some (RamData x y)) t in
    subst P (sym takes.0) (record { warm_boot = refl; warm_boot_known = refl; range = refl; range_known = refl; no_sleep = refl; no_sleep_known = refl; device = refl; device_known = refl; tiles = refl; rams = takes.1 })
follows s new (ExtraBit bank x y) are none takes =
    let P : ReaderState → Type 0 = λ t. Follows s (Some (ExtraBit bank x y)) t in
    let same = same_device s.image new.image (extra_sets (extra_place bank x y)) takes.1 in
    subst P (sym takes.0) (record { warm_boot = refl; warm_boot_known = refl; range = refl; range_known = refl; no_sleep = refl; no_sleep_known = refl; device = same; device_known = refl; tiles = refl; rams = refl })
follows s new (Symbol net) are none takes =
    let P : ReaderState → Type 0 = λ t. Follows s (Some (Symbol net)) t in
    subst P (sym takes) (record { warm_boot = refl; warm_boot_known = refl; range = refl; range_known = refl; no_sleep = refl; no_sleep_known = refl; device = refl; device_known = refl; tiles = refl; rams = refl })

-- ---- the image

-- the image after a statement
image-after : (layouts : Layouts) (lines : List (List ℕ)) (n : ℕ) (s new : ReaderState) (statement : Statement) → AreLayouts layouts → s.layouts ≡ layouts → HasImage layouts lines n s.image → statement_refusal s statement ≡ None → TakesStatement (calm s) statement new
    → depth_at lines n ≡ 0 → statement_over lines n ≡ Some statement → HasImage layouts lines (n + 1) new.image
image-after layouts lines n s new Comment are same has none takes depth over =
    let P : ReaderState → Type 0 = λ t. HasImage layouts lines (n + 1) t.image in
    subst P (sym takes) (image-stays layouts lines n s.image has (λ bit. rw over refl))
image-after layouts lines n s new (Device name) are same has none takes depth over =
    let P : Option AnyImage → Type 0 = λ i. HasImage layouts lines n i in
    let Q : Layouts → Type 0 = λ l. IsBlank l name new.image in
    let nothing = not_given s.image ((neither (unknown_device (Device name)) (cause_if (is_some s.image) Repeated) none).1) in
    image-begins layouts lines n name new.image are (subst P nothing has) (subst Q same takes.1) (λ bit. rw over refl)
image-after layouts lines n s new (WarmBoot setting) are same has none takes depth over =
    let P : ReaderState → Type 0 = λ t. HasImage layouts lines (n + 1) t.image in
    subst P (sym takes) (image-stays layouts lines n s.image has (λ bit. rw over refl))
image-after layouts lines n s new (FrequencyRange setting) are same has none takes depth over =
    let P : ReaderState → Type 0 = λ t. HasImage layouts lines (n + 1) t.image in
    subst P (sym takes) (image-stays layouts lines n s.image has (λ bit. rw over refl))
image-after layouts lines n s new (NoSleep setting) are same has none takes depth over =
    let P : ReaderState → Type 0 = λ t. HasImage layouts lines (n + 1) t.image in
    subst P (sym takes) (image-stays layouts lines n s.image has (λ bit. rw over refl))
image-after layouts lines n s new (Tile kind x y) are same has none takes depth over =
    let P : ReaderState → Type 0 = λ t. HasImage layouts lines (n + 1) t.image in
    subst P (sym takes.0) (image-stays layouts lines n s.image has (λ bit. rw (over, depth) (and-false _)))
image-after layouts lines n s new (RamData x y) are same has none takes depth over =
    let P : ReaderState → Type 0 = λ t. HasImage layouts lines (n + 1) t.image in
    subst P (sym takes.0) (image-stays layouts lines n s.image has (λ bit. rw (over, depth) (and-false _)))
image-after layouts lines n s new (ExtraBit bank x y) are same has none takes depth over =
    image-gains layouts lines n s.image new.image (extra_sets (extra_place bank x y)) has takes.1 (λ bit. rw over refl)
image-after layouts lines n s new (Symbol net) are same has none takes depth over =
    let P : ReaderState → Type 0 = λ t. HasImage layouts lines (n + 1) t.image in
    subst P (sym takes) (image-stays layouts lines n s.image has (λ bit. rw over refl))

-- ---- the comment

ends : (lines : List (List ℕ)) (n : ℕ) (s new : ReaderState) (statement : Statement) → HasComment lines n s.comment s.in_comment → begins_with_dot (line_at lines n) ≡ true
    → statement_at lines n ≡ Some statement → statement_in (line_at lines n) ≡ Some statement → is_comment (Some statement) ≡ false → new.comment ≡ s.comment → new.in_comment ≡ false → HasComment lines (n + 1) new.comment new.in_comment
ends lines n s new statement has dot here said other comment inside =
    let P : Option (List (List ℕ)) → Type 0 = λ c. HasComment lines (n + 1) c new.in_comment in
    let Q : Bool → Type 0 = λ b. HasComment lines (n + 1) s.comment b in
    subst P (sym comment) (subst Q (sym inside) (comment-ends lines n s.comment s.in_comment has dot (ap is_comment here ∙ other) (ap is_comment said ∙ other)))

comment-after : (lines : List (List ℕ)) (n : ℕ) (s new : ReaderState) (statement : Statement) → HasComment lines n s.comment s.in_comment → TakesStatement (calm s) statement new
    → begins_with_dot (line_at lines n) ≡ true → statement_at lines n ≡ Some statement → statement_in (line_at lines n) ≡ Some statement → HasComment lines (n + 1) new.comment new.in_comment
comment-after lines n s new Comment has takes dot here said =
    let P : ReaderState → Type 0 = λ t. HasComment lines (n + 1) t.comment t.in_comment in
    subst P (sym takes) (comment-begins lines n dot here said)
comment-after lines n s new (Device name) has takes dot here said =
    ends lines n s new (Device name) has dot here said refl (ap (λ (t : ReaderState). t.comment) takes.0) (ap (λ (t : ReaderState). t.in_comment) takes.0)
comment-after lines n s new (WarmBoot setting) has takes dot here said =
    ends lines n s new (WarmBoot setting) has dot here said refl (ap (λ (t : ReaderState). t.comment) takes) (ap (λ (t : ReaderState). t.in_comment) takes)
comment-after lines n s new (FrequencyRange setting) has takes dot here said =
    ends lines n s new (FrequencyRange setting) has dot here said refl (ap (λ (t : ReaderState). t.comment) takes) (ap (λ (t : ReaderState). t.in_comment) takes)
comment-after lines n s new (NoSleep setting) has takes dot here said =
    ends lines n s new (NoSleep setting) has dot here said refl (ap (λ (t : ReaderState). t.comment) takes) (ap (λ (t : ReaderState). t.in_comment) takes)
comment-after lines n s new (Tile kind x y) has takes dot here said =
    ends lines n s new (Tile kind x y) has dot here said refl (ap (λ (t : ReaderState). t.comment) takes.0) (ap (λ (t : ReaderState). t.in_comment) takes.0)
comment-after lines n s new (RamData x y) has takes dot here said =
    ends lines n s new (RamData x y) has dot here said refl (ap (λ (t : ReaderState). t.comment) takes.0) (ap (λ (t : ReaderState). t.in_comment) takes.0)
comment-after lines n s new (ExtraBit bank x y) has takes dot here said =
    ends lines n s new (ExtraBit bank x y) has dot here said refl (ap (λ (t : ReaderState). t.comment) takes.0) (ap (λ (t : ReaderState). t.in_comment) takes.0)
comment-after lines n s new (Symbol net) has takes dot here said =
    ends lines n s new (Symbol net) has dot here said refl (ap (λ (t : ReaderState). t.comment) takes) (ap (λ (t : ReaderState). t.in_comment) takes)

-- ---- what comes next

-- the line after a statement without rows
next-statement : (lines : List (List ℕ)) (n : ℕ) (s new : ReaderState) (statement : Statement) → s.expected ≡ AnyStatement → depth_at lines (n + 1) ≡ depth_after 0 (has_rows (Some statement)) → has_rows (Some statement) ≡ false
    → new.expected ≡ s.expected → IsAt lines (n + 1) new new.expected
next-statement lines n s new statement expected depth none same =
    let at : Expected → Type 0 = λ e. IsAt lines (n + 1) new e in
    subst at (sym (same ∙ expected)) (depth ∙ rw none refl)

stands-after : (lines : List (List ℕ)) (n : ℕ) (s new : ReaderState) (statement : Statement) → s.expected ≡ AnyStatement → statement_refusal s statement ≡ None → TakesStatement (calm s) statement new
    → depth_at lines (n + 1) ≡ depth_after 0 (has_rows (Some statement)) → statement_in (line_at lines n) ≡ Some statement → IsAt lines (n + 1) new new.expected
stands-after lines n s new Comment expected none takes depth said = next-statement lines n s new Comment expected depth refl (ap (λ (t : ReaderState). t.expected) takes)
stands-after lines n s new (Device name) expected none takes depth said = next-statement lines n s new (Device name) expected depth refl (ap (λ (t : ReaderState). t.expected) takes.0)
stands-after lines n s new (WarmBoot setting) expected none takes depth said = next-statement lines n s new (WarmBoot setting) expected depth refl (ap (λ (t : ReaderState). t.expected) takes)
stands-after lines n s new (FrequencyRange setting) expected none takes depth said = next-statement lines n s new (FrequencyRange setting) expected depth refl (ap (λ (t : ReaderState). t.expected) takes)
stands-after lines n s new (NoSleep setting) expected none takes depth said = next-statement lines n s new (NoSleep setting) expected depth refl (ap (λ (t : ReaderState). t.expected) takes)
stands-after lines n s new (ExtraBit bank x y) expected none takes depth said = next-statement lines n s new (ExtraBit bank x y) expected depth refl (ap (λ (t : ReaderState). t.expected) takes.0)
stands-after lines n s new (Symbol net) expected none takes depth said = next-statement lines n s new (Symbol net) expected depth refl (ap (λ (t : ReaderState). t.expected) takes)
stands-after lines n s new (Tile kind x y) expected none takes depth said =
    let P : ReaderState → Type 0 = λ t. IsAt lines (n + 1) t t.expected in
    let there = tile-taken s.image kind x y ((neither (tile_refusal s.image kind x y) (cause_if (has_tile s.tiles x y) Repeated) none).0) in
    subst P (sym takes.0) (depth, ap (λ k. statement_in (line_at lines k)) (omega arith) ∙ said, there, omega arith, refl)
stands-after lines n s new (RamData x y) expected none takes depth said =
    let P : ReaderState → Type 0 = λ t. IsAt lines (n + 1) t t.expected in
    let there = tile-taken s.image RamB x y ((neither (tile_refusal s.image RamB x y) (cause_if (has_tile s.rams x y) Repeated) none).0) in
    subst P (sym takes.0) (depth, ap (λ k. statement_in (line_at lines k)) (omega arith) ∙ said, there, omega arith, refl)

-- the layouts stay
layouts-stay : (s new : ReaderState) (statement : Statement) → TakesStatement (calm s) statement new → new.layouts ≡ s.layouts
layouts-stay s new Comment takes = ap (λ (t : ReaderState). t.layouts) takes
layouts-stay s new (Device name) takes = ap (λ (t : ReaderState). t.layouts) takes.0
layouts-stay s new (WarmBoot setting) takes = ap (λ (t : ReaderState). t.layouts) takes
layouts-stay s new (FrequencyRange setting) takes = ap (λ (t : ReaderState). t.layouts) takes
layouts-stay s new (NoSleep setting) takes = ap (λ (t : ReaderState). t.layouts) takes
layouts-stay s new (Tile kind x y) takes = ap (λ (t : ReaderState). t.layouts) takes.0
layouts-stay s new (RamData x y) takes = ap (λ (t : ReaderState). t.layouts) takes.0
layouts-stay s new (ExtraBit bank x y) takes = ap (λ (t : ReaderState). t.layouts) takes.0
layouts-stay s new (Symbol net) takes = ap (λ (t : ReaderState). t.layouts) takes

-- ---- all of it

pub took-statement : (layouts : Layouts) (lines : List (List ℕ)) (n : ℕ) (s new : ReaderState) (statement : Statement) → HasRead layouts lines n s → s.expected ≡ AnyStatement → depth_at lines n ≡ 0 → cause_at layouts lines n ≡ None
    → begins_with_dot (line_at lines n) ≡ true → statement_in (line_at lines n) ≡ Some statement → statement_refusal s statement ≡ None → TakesStatement (calm s) statement new → HasRead layouts lines (n + 1) new
took-statement layouts lines n s new statement read expected depth fits dot said none takes =
    let here : statement_at lines n ≡ Some statement = at-statement lines n depth ∙ said in
    let over : statement_over lines n ≡ Some statement = over_is lines n s AnyStatement depth ∙ said in
    let next : depth_at lines (n + 1) ≡ depth_after 0 (has_rows (Some statement)) = depth-more lines n ∙ ap (λ d. depth_after d (has_rows (statement_in (line_at lines n)))) depth ∙ ap (λ g. depth_after 0 (has_rows g)) said in
    record {
      devices = read.devices;
      under = layouts-stay s new statement takes ∙ read.under;
      fit = fit-more layouts lines n read.fit fits;
      stands = stands-after lines n s new statement expected none takes next said;
      given = HasGiven-more lines n s new (Some statement) read.given here (follows s new statement (subst AreLayouts (sym read.under) read.devices) none takes);
      image = image-after layouts lines n s new statement read.devices read.under read.image none takes depth over;
      comment = comment-after lines n s new statement read.comment takes dot here said;
    }
