-- From what is kept to what a text means, and to its first faulty line.
use Rattle.std.proofs.Common.{drop, ◌≡◌, ℕ, zero, suc, ◌+◌, ◌<◌, ◌≤◌, Bool, true, false, List, [], ◌∷◌, length, refl, sym, ap, subst, ◌∙◌, inl, inr, arith}
use Rattle.std.specs.Prelude.{Option, Some, None, unwrap_or, Result, Ok, Err, IfOk, IfErr, OnOk}
use Rattle.std.proofs.lemmas.Bool.{cases_eq, cases_Bool}
use Rattle.std.proofs.lemmas.List.{length-drop}
use Rattle.text_lines.specs.Lines.{lines_of, line_at}
use Rattle.index_search.proofs.Places.{first_below-none, first_below-first}
use Rattle.layout_file.specs.declared.layouts.Layouts.{Layouts}
use Rattle.plane_map.specs.Layout.{Layout}
use Rattle.layout_file.specs.Layouts.{layout_for, AreLayouts}
use Rattle.ice_image.specs.Configuration.{Configuration, IsWhole}
use Rattle.ice_image.specs.Either.{configuration_of, device_of}
use Rattle.ice_image.specs.declared.any.AnyImage.{AnyImage}
use Rattle.ice_image.specs.declared.settings.Settings.{Settings}
use Rattle.ice_image.specs.declared.settings.Range.{Range}
use Rattle.ice_image.specs.declared.settings.Range.TheVariants.{Low}
use Rattle.asc_text.specs.declared.statement.Statement.{Statement}
use Rattle.asc_text.specs.declared.fault.AscFault.{AscFault}
use Rattle.asc_text.specs.declared.fault.AscFault.TheVariants.{At, Memory as OutOfMemory}
use Rattle.asc_text.specs.declared.reading.reader.Expected.{Expected}
use Rattle.asc_text.specs.declared.reading.reader.Expected.TheVariants.{Statement as AnyStatement, Row, Memory}
use Rattle.asc_text.specs.Statements.{statement_in, begins_with_dot}
use Rattle.asc_text.specs.Blocks.{depth_at}
use Rattle.asc_text.specs.Faults.{cause_at, fault_at, fault_with, tile_named, asc_fault_of, Fault, Tells}
use Rattle.asc_text.specs.Meaning.{AscMeans, asc_image_of, asc_symbols_of, image_for, image_before, settings_before, set_before, is_set_before, comment_before, warm_boot_in, range_in}
use Rattle.asc_text.specs.inside.Reading.{ReaderState, begun, Finishes, Takes, TakesDotted, dotted_refusal, line_refusal, end_refusal, statement_of, settings_in}
use Rattle.ice_image.specs.Bits.{Bit, OfTile, OfWord, Extra, IsBit, bit_of}
use Rattle.ice_image.proofs.Bits.{image_from-is}
use Rattle.asc_text.proofs.Depths.{depth-first}
use Rattle.asc_text.proofs.HasRead.{HasRead, HasGiven, HasBits, HasImage, IsAt, device_known}
use Rattle.asc_text.proofs.Given.{HasGiven-none}
use Rattle.asc_text.proofs.CommentSteps.{HasComment-none}
use Rattle.asc_text.proofs.ImageSteps.{SetsNone-none}
use Rattle.asc_text.proofs.LineSteps.{took-row, took-memory, took-text}
use Rattle.asc_text.proofs.StatementSteps.{took-statement}
use Rattle.asc_text.proofs.Refusals.{line_refused, line_fault, end_refused, end_fault, device_is}

-- ---- the beginning

pub HasRead-none : (layouts : Layouts) (lines : List (List ℕ)) (s : ReaderState) → AreLayouts layouts → s ≡ begun layouts → HasRead layouts lines 0 s
HasRead-none layouts lines s are is =
    let P : ReaderState → Type 0 = λ t. HasRead layouts lines 0 t in
    subst P (sym is) (record {
      devices = are;
      under = refl;
      fit = λ k lt. absurd (omega arith);
      stands = depth-first lines;
      given = HasGiven-none layouts lines;
      image = SetsNone-none lines;
      comment = HasComment-none lines;
    })

-- ---- a line

-- a statement, or a line that is none
took-dotted : (layouts : Layouts) (lines : List (List ℕ)) (n : ℕ) (s new : ReaderState) (given : Option Statement) → HasRead layouts lines n s → s.expected ≡ AnyStatement → depth_at lines n ≡ 0 → cause_at layouts lines n ≡ None
    → begins_with_dot (line_at lines n) ≡ true → statement_in (line_at lines n) ≡ given → dotted_refusal s given ≡ None → TakesDotted s given new → HasRead layouts lines (n + 1) new
took-dotted layouts lines n s new None read expected depth fits dot said none takes = absurd takes
took-dotted layouts lines n s new (Some statement) read expected depth fits dot said none takes = took-statement layouts lines n s new statement read expected depth fits dot said none takes

took-any : (layouts : Layouts) (lines : List (List ℕ)) (n : ℕ) (s new : ReaderState) → HasRead layouts lines n s → s.expected ≡ AnyStatement → depth_at lines n ≡ 0 → cause_at layouts lines n ≡ None
    → line_refusal s AnyStatement (line_at lines n) ≡ None → Takes s AnyStatement (line_at lines n) new → HasRead layouts lines (n + 1) new
took-any layouts lines n s new read expected depth fits none takes =
    let line = line_at lines n in
    elim (cases_Bool (begins_with_dot line)) [
      | inl dot ↦
          let taken : TakesDotted s (statement_in line) new = rw dot at takes in
          let refusal : dotted_refusal s (statement_in line) ≡ None = rw dot at none in
          took-dotted layouts lines n s new (statement_in line) read expected depth fits dot refl refusal taken
      | inr other ↦ took-text layouts lines n s new read expected depth fits other (rw other at takes)
    ]

took : (layouts : Layouts) (lines : List (List ℕ)) (n : ℕ) (s new : ReaderState) (expected : Expected) → HasRead layouts lines n s → s.expected ≡ expected → IsAt lines n s expected → cause_at layouts lines n ≡ None
    → line_refusal s expected (line_at lines n) ≡ None → Takes s expected (line_at lines n) new → HasRead layouts lines (n + 1) new
took layouts lines n s new AnyStatement read is stands fits none takes = took-any layouts lines n s new read is stands fits none takes
took layouts lines n s new (Row kind x y row) read is stands fits none takes = took-row layouts lines n x y row kind s new read stands fits none takes
took layouts lines n s new (Memory x y row) read is stands fits none takes = took-memory layouts lines n x y row s new read stands fits none takes

-- the first line of those that are left
pub cut : (lines : List (List ℕ)) (k : ℕ) (line : List ℕ) (more : List (List ℕ)) → drop k lines ≡ line ∷ more → (k < length lines) × (line_at lines k ≡ line) × (more ≡ drop (k + 1) lines)
cut [] zero line more e = absurd cc
cut [] (suc k) line more e = absurd cc
cut (first ∷ lines) zero line more e = (omega arith, cc, cc)
cut (first ∷ lines) (suc k) line more e =
    let found = cut lines k line more e in
    let later : suc k + 1 ≡ suc (k + 1) = omega arith in
    (omega (arith, found.0), found.1, rw later found.2)

-- a line that was taken
pub HasRead-more : (layouts : Layouts) (lines : List (List ℕ)) (n : ℕ) (line : List ℕ) (more : List (List ℕ)) (s new : ReaderState) → HasRead layouts lines n s → drop n lines ≡ line ∷ more
    → line_refusal s s.expected line ≡ None → Takes s s.expected line new → HasRead layouts lines (n + 1) new
HasRead-more layouts lines n line more s new read left none takes =
    let found = cut lines n line more left in
    let at_none : List ℕ → Type 0 = λ l. line_refusal s s.expected l ≡ None in
    let at_takes : List ℕ → Type 0 = λ l. Takes s s.expected l new in
    let refusal = subst at_none (sym found.1) none in
    took layouts lines n s new s.expected read refl read.stands (line_refused layouts lines n s read found.0 ∙ refusal) refusal (subst at_takes (sym found.1) takes)

-- ---- the first fault

unfaulty : (layouts : Layouts) (lines : List (List ℕ)) (k : ℕ) → cause_at layouts lines k ≡ None → fault_at layouts lines k ≡ None
unfaulty layouts lines k none = rw none refl

-- the fault of a line before which none is faulty
first_fault : (layouts : Layouts) (text : List ℕ) (n : ℕ) (fault : AscFault) → n ≤ length (lines_of text) → ((k : ℕ) → k < n → cause_at layouts (lines_of text) k ≡ None) → Tells (fault_at layouts (lines_of text) n) fault → Tells (asc_fault_of layouts text) fault
unfolding asc_fault_of
first_fault layouts text n (At line tile cause) within fit tells =
    let lines = lines_of text in
    first_below-first (length lines + 1) n (fault_at layouts lines) (record { line = line; tile = tile; cause = cause }) (omega arith) (λ k below. unfaulty layouts lines k (fit k below)) tells
first_fault layouts text n (OutOfMemory e) within fit tells = tt

-- a line that is refused
pub refused : (layouts : Layouts) (text line : List ℕ) (n : ℕ) (more : List (List ℕ)) (s : ReaderState) (fault : AscFault) → HasRead layouts (lines_of text) n s → drop n (lines_of text) ≡ line ∷ more
    → Tells (fault_with (line_refusal s s.expected line) (n + 1) (tile_named (statement_of s.expected line))) fault → Tells (asc_fault_of layouts text) fault
refused layouts text line n more s fault read left tells =
    let lines = lines_of text in
    let found = cut lines n line more left in
    let at : List ℕ → Type 0 = λ l. Tells (fault_with (line_refusal s s.expected l) (n + 1) (tile_named (statement_of s.expected l))) fault in
    let told : Option Fault → Type 0 = λ f. Tells f fault in
    first_fault layouts text n fault (omega (arith, found.0)) read.fit (subst told (sym (line_fault layouts lines n s read found.0)) (subst at (sym found.1) tells))

-- ---- the end

-- no line is left
cut-end : (lines : List (List ℕ)) (k : ℕ) → drop k lines ≡ [] → k ≤ length lines → k ≡ length lines
cut-end lines k none within = omega (arith, length-drop k lines, ap length none)

pub ended : (layouts : Layouts) (text left : List ℕ) (n : ℕ) (s : ReaderState) → HasRead layouts (lines_of text) n s → lines_of left ≡ drop n (lines_of text) → left ≡ [] → n ≤ length (lines_of text)
    → (n ≡ length (lines_of text)) × HasRead layouts (lines_of text) (length (lines_of text)) s
unfolding lines_of
ended layouts text left n s read rest none within =
    let all : n ≡ length (lines_of text) = cut-end (lines_of text) n (sym rest ∙ ap lines_of none) within in
    let P : ℕ → Type 0 = λ k. HasRead layouts (lines_of text) k s in
    (all, subst P all read)

-- something is missing at the end
pub end_told : (layouts : Layouts) (text : List ℕ) (s : ReaderState) (fault : AscFault) → HasRead layouts (lines_of text) (length (lines_of text)) s
    → Tells (fault_with (end_refusal s s.expected) (length (lines_of text) + 1) (tile_named (statement_of s.expected []))) fault → Tells (asc_fault_of layouts text) fault
end_told layouts text s fault read tells =
    let lines = lines_of text in
    let told : Option Fault → Type 0 = λ f. Tells f fault in
    first_fault layouts text (length lines) fault (omega arith) read.fit (subst told (sym (end_fault layouts lines s read)) tells)

-- nothing is missing
pub end_accepted : (layouts : Layouts) (text : List ℕ) (s : ReaderState) → HasRead layouts (lines_of text) (length (lines_of text)) s → end_refusal s s.expected ≡ None → asc_fault_of layouts text ≡ None
unfolding asc_fault_of
end_accepted layouts text s read none =
    let lines = lines_of text in
    first_below-none (length lines + 1) (fault_at layouts lines) (λ k below. elim (cases_eq k (length lines)) [
      | inl last ↦ ap (fault_at layouts lines) last ∙ unfaulty layouts lines (length lines) (end_refused layouts lines s read ∙ none)
      | inr before ↦ unfaulty layouts lines k (read.fit k (omega arith))
    ])

-- ---- the meaning

-- the settings are those that the lines set
same_settings : (lines : List (List ℕ)) (n : ℕ) (s : ReaderState) → HasGiven lines n s → settings_in s ≡ settings_before lines n
same_settings lines n s has =
    let of : Range → Bool → Bool → Settings = λ range warm_boot no_sleep. record { range = range; warm_boot = warm_boot; no_sleep = no_sleep } in
    ap (λ v. of (unwrap_or v Low) (unwrap_or s.warm_boot true) (unwrap_or s.no_sleep false)) (sym has.range.first)
    ∙ ap (λ v. of (set_before lines n range_in Low) (unwrap_or v true) (unwrap_or s.no_sleep false)) (sym has.warm_boot.first)
    ∙ ap (λ v. of (set_before lines n range_in Low) (set_before lines n warm_boot_in true) (unwrap_or v false)) (sym has.no_sleep.first)

-- another comment and other settings change no bit
same_bit : (image : Configuration) (comment : Option (List (List ℕ))) (settings : Settings) (bit : Bit) → bit_of (record image { settings = settings; comment = comment }) bit ≡ bit_of image bit
same_bit image comment settings (OfTile bit) = refl
same_bit image comment settings (OfWord bit) = refl
same_bit image comment settings (Extra at) = refl

-- the image is the one that the lines configure
same_image : (layouts : Layouts) (lines : List (List ℕ)) (n : ℕ) (s : ReaderState) (image : AnyImage) → HasRead layouts lines n s → HasBits layouts lines n image
    → record (configuration_of image) { settings = settings_in s; comment = s.comment } ≡ image_before (layout_for layouts (device_of image)) lines n
same_image layouts lines n s image read has =
    let c = configuration_of image in
    image_from-is (record c { settings = settings_in s; comment = s.comment }) (layout_for layouts (device_of image)) (comment_before lines n) (settings_before lines n) (is_set_before lines n)
    (record { layout = has.whole.layout; cram = has.whole.cram; bram = has.whole.bram }) has.layout (sym read.comment.lines_are) (same_settings lines n s read.given)
    (λ bit is.
    let P : Layout → Type 0 = λ layout. IsBit layout bit in
    same_bit c s.comment (settings_in s) bit ∙ has.bits bit (subst P (sym has.layout) is))

configured : (layouts : Layouts) (lines : List (List ℕ)) (s : ReaderState) (image : Option AnyImage) (after : AnyImage) → HasRead layouts lines (length lines) s → s.image ≡ image → HasImage layouts lines (length lines) image → Finishes s image after
    → image_for layouts (device_known image) lines ≡ Some (configuration_of after)
configured layouts lines s None after read is has finishes = absurd finishes
configured layouts lines s (Some image) after read is has finishes = ap (λ c. Some c) (sym (finishes ∙ same_image layouts lines (length lines) s image read has))

pub means : (layouts : Layouts) (text : List ℕ) (s : ReaderState) (after : AnyImage) → HasRead layouts (lines_of text) (length (lines_of text)) s → end_refusal s s.expected ≡ None → Finishes s s.image after
    → AscMeans layouts text (configuration_of after) (asc_symbols_of text)
unfolding asc_image_of
means layouts text s after read none finishes =
    let lines = lines_of text in
    record {
      accepted = end_accepted layouts text s read none;
      configures = ap (λ device. image_for layouts device lines) (device_is lines (length lines) s read.given) ∙ configured layouts lines s s.image after read refl read.image finishes;
      names = refl;
    }

-- the image that is answered is whole
answered_whole : (layouts : Layouts) (lines : List (List ℕ)) (n : ℕ) (s : ReaderState) (image : Option AnyImage) (after : AnyImage) → HasImage layouts lines n image → Finishes s image after → IsWhole (configuration_of after)
answered_whole layouts lines n s None after has finishes = absurd finishes
answered_whole layouts lines n s (Some image) after has finishes =
    let is_whole : Configuration → Type 0 = λ c. IsWhole c in
    subst is_whole (sym finishes) (record { layout = has.whole.layout; cram = has.whole.cram; bram = has.whole.bram })

-- ---- the answer

pub whole : (layouts : Layouts) (text : List ℕ) (s : ReaderState) (r : Result AnyImage AscFault) → HasRead layouts (lines_of text) (length (lines_of text)) s → IfOk r (Finishes s s.image)
    → IfOk r (λ image. IsWhole (configuration_of image))
whole layouts text s (Ok image) read finishes = answered_whole layouts (lines_of text) (length (lines_of text)) s s.image image read.image finishes
whole layouts text s (Err fault) read finishes = tt

-- an image that is answered
pub answered : (layouts : Layouts) (text : List ℕ) (s : ReaderState) (r : Result AnyImage AscFault) → HasRead layouts (lines_of text) (length (lines_of text)) s → OnOk r (end_refusal s s.expected ≡ None) → IfOk r (Finishes s s.image)
    → IfOk r (λ image. AscMeans layouts text (configuration_of image) (asc_symbols_of text))
answered layouts text s (Ok image) read none finishes = means layouts text s image read none finishes
answered layouts text s (Err fault) read none finishes = tt

-- a text that is accepted
pub accepted : (layouts : Layouts) (text : List ℕ) (s : ReaderState) (r : Result AnyImage AscFault) → HasRead layouts (lines_of text) (length (lines_of text)) s → OnOk r (end_refusal s s.expected ≡ None) → OnOk r (asc_fault_of layouts text ≡ None)
accepted layouts text s (Ok image) read none = end_accepted layouts text s read none
accepted layouts text s (Err fault) read none = tt

-- a fault that is answered
pub told : (layouts : Layouts) (text : List ℕ) (s : ReaderState) (n : ℕ) (r : Result AnyImage AscFault) → HasRead layouts (lines_of text) (length (lines_of text)) s → n ≡ length (lines_of text)
    → IfErr r (Tells (fault_with (end_refusal s s.expected) (n + 1) (tile_named (statement_of s.expected [])))) → IfErr r (Tells (asc_fault_of layouts text))
told layouts text s n (Ok image) read all tells = tt
told layouts text s n (Err fault) read all tells =
    let at : ℕ → Type 0 = λ k. Tells (fault_with (end_refusal s s.expected) (k + 1) (tile_named (statement_of s.expected []))) fault in
    end_told layouts text s fault read (subst at all tells)
