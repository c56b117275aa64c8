-- What is kept says the same when more names and more bits are kept.
use Rattle.std.proofs.Common.{◌≡◌, ℕ, ◌+◌, ◌^◌, ◌<◌, ◌≤◌, List, [], ◌∷◌, ◌++◌, length, length-append, get_or, map, append-nil, refl, sym, ap, ◌∙◌, arith, subst}
use Rattle.std.specs.Prelude.{All}
use Rattle.std.proofs.lemmas.List.{get_or_append_left}
use Rattle.std.proofs.Math.Seq.{get_or-append_seam}
use Rattle.std.proofs.lemmas.List.Elements.{All-head, All-tail}
use Rattle.plane_map.specs.declared.tile.RowCol.{RowCol}
use Rattle.chipdb_lines.specs.declared.bits.BitList.{BitList}
use Rattle.chipdb_lines.specs.declared.links.Choice.{Choice}
use Rattle.chipdb_lines.specs.declared.links.LinkHead.{LinkHead as KeptHead}
use Rattle.chipdb_lines.specs.declared.statements.Below.{Below}
use Rattle.chipdb_lines.specs.declared.statements.Below.TheVariants.{Passed, Device, GlobalInputs, GlobalPins, Functions, ExtraBits, Names, Buffers, Routings, Pll}
use Rattle.bit_plane.specs.BitList.{word_bits}
use Rattle.chipdb_lines.specs.Kept.{bits_named, head_named, AddsBelow, AddsHead, AddsList}
use Rattle.chipdb_reader.specs.declared.items.NetName.{NetName}
use Rattle.chipdb_reader.specs.declared.items.LinkLine.{LinkLine}
use Rattle.chipdb_reader.specs.declared.items.Function.{Function}
use Rattle.chipdb_reader.specs.declared.items.Extra.{Extra}
use Rattle.chipdb_reader.specs.Reading.{IsHeadOf, link_with}
use Rattle.chipdb_reader.specs.Sound.{IsLinkIn}
use Rattle.chipdb_reader.specs.Texts.{text_at}
use Rattle.chipdb_reader.specs.Kept.{name_line, name_lines, link_line, link_lines, function_line, function_lines, extra_line, extra_lines}

-- equal items give equal lists
pub map-same : {A B : Type 0} (P : A → Type 0) (f g : A → B) (xs : List A) → ((x : A) → P x → f x ≡ g x) → All P xs → map f xs ≡ map g xs
map-same P f g [] same all = refl
map-same P f g (x ∷ xs) same all =
    ap (λ y. y ∷ map f xs) (same x (All-head P x xs all)) ∙ ap (λ ys. g x ∷ ys) (map-same P f g xs same (All-tail P x xs all))

-- ---- one item

pub text-grown : (texts more : List (List ℕ)) (id : ℕ) → id < length texts → text_at (texts ++ more) id ≡ text_at texts id
text-grown texts more id lt = get_or_append_left texts more [] id lt

pub bits-grown : (bits more : List (List RowCol)) (list : BitList) → list.place < length bits → bits_named (bits ++ more) list ≡ bits_named bits list
bits-grown bits more list lt = get_or_append_left bits more [] list.place lt

-- a list has as many bits as its statement says
pub length-bits_named : (bits : List (List RowCol)) (head : KeptHead) → IsHeadOf bits head → length (bits_named bits head.bits) ≡ head.count
length-bits_named bits head is = sym is.counted

-- a link of the table's lists is one of a longer table's
pub IsLinkIn-grown : (bits more : List (List RowCol)) (line : LinkLine) → IsLinkIn bits line → IsLinkIn (bits ++ more) line
IsLinkIn-grown bits more line is =
    let inside : line.bits.place < length bits = is.bits_in in
    record {
      bits_in = omega (arith, length-append bits more);
      values_few = subst (λ (named : List RowCol). line.values < 2 ^ length named) (sym (bits-grown bits more line.bits inside)) is.values_few;
    }

-- a statement's link is one of the table's lists
pub link-in : (bits : List (List RowCol)) (head : KeptHead) (choice : Choice) → IsHeadOf bits head → choice.values < 2 ^ head.count → IsLinkIn bits (link_with head choice)
link-in bits head choice is small = record { bits_in = is.bits_in; values_few = subst (λ count. choice.values < 2 ^ count) is.counted small }

-- a table with at most one list more
pub record Lengthens (old new : List (List RowCol)) : Type 0 where
  pub more : List (List RowCol)
  pub table : new ≡ old ++ more
  pub few : length new ≤ length old + 1

-- nothing was added
Lengthens-same : (old new : List (List RowCol)) → new ≡ old → Lengthens old new
Lengthens-same old new same = let count : length new ≡ length old = ap length same in record { more = []; table = same ∙ sym (append-nil old); few = omega arith }

-- a list was added
pub Lengthens-list : (old new : List (List RowCol)) (list : BitList) → AddsList old new list → Lengthens old new
Lengthens-list old new list added =
    let count : length new ≡ length old + 1 = ap length added.grown ∙ length-append old (added.bits ∷ []) in
    record { more = added.bits ∷ []; table = added.grown; few = omega arith }

-- a list that was added is one of the table
pub list-added : (old new : List (List RowCol)) (list : BitList) → AddsList old new list → list.place < length new
list-added old new list added =
    let count : length new ≡ length old + 1 = ap length added.grown ∙ length-append old (added.bits ∷ []) in
    let last : list.place ≡ length old = added.last in
    omega arith

pub head-added : (old new : List (List RowCol)) (head : KeptHead) → AddsHead old new head → IsHeadOf new head
head-added old new head added =
    let list = added.list in
    let named : bits_named new head.bits ≡ list.bits = (λ i. get_or (list.grown i) (list.last i) []) ∙ get_or-append_seam old list.bits [] [] in
    let few : length list.bits ≤ 64 = list.few in
    let count : head.count ≡ length list.bits = added.counted ∙ ap length named in
    record { bits_in = list-added old new head.bits list; counted = added.counted; few = omega arith }

-- a table to which the list of a statement was added has it at its end
pub below-grown : (old new : List (List RowCol)) (below : Below) → AddsBelow old new below → Lengthens old new
below-grown old new (Buffers head) added = Lengthens-list old new head.bits added.list
below-grown old new (Routings head) added = Lengthens-list old new head.bits added.list
below-grown old new Passed same = Lengthens-same old new same
below-grown old new (Device chip) same = Lengthens-same old new same
below-grown old new GlobalInputs same = Lengthens-same old new same
below-grown old new GlobalPins same = Lengthens-same old new same
below-grown old new (Functions kind) same = Lengthens-same old new same
below-grown old new ExtraBits same = Lengthens-same old new same
below-grown old new (Names net) same = Lengthens-same old new same
below-grown old new (Pll x y) same = Lengthens-same old new same

pub head-grown : (bits more : List (List RowCol)) (head : KeptHead) → IsHeadOf bits head → head_named (bits ++ more) head ≡ head_named bits head
head-grown bits more head is = let same = bits-grown bits more head.bits is.bits_in in λ i. record { x = head.x; y = head.y; dst = head.dst; bits = same i }

-- ---- all items

pub names-grown : (texts more : List (List ℕ)) (names : List (NetName × ℕ)) → All (λ p. p.0.name < length texts) names → name_lines (texts ++ more) names ≡ name_lines texts names
names-grown texts more names all =
    map-same (λ (p : NetName × ℕ). p.0.name < length texts) (name_line (texts ++ more)) (name_line texts) names
    (λ p lt. let same = text-grown texts more p.0.name lt in λ i. record { net = p.1; x = p.0.x; y = p.0.y; name = same i }) all

pub extras-grown : (texts more : List (List ℕ)) (extras : List Extra) → All (λ e. e.name < length texts) extras → extra_lines (texts ++ more) extras ≡ extra_lines texts extras
extras-grown texts more extras all =
    map-same (λ (e : Extra). e.name < length texts) (extra_line (texts ++ more)) (extra_line texts) extras
    (λ e lt. let same = text-grown texts more e.name lt in λ i. record { name = same i; at = e.at }) all

pub functions-grown : (texts new_texts : List (List ℕ)) (bits new_bits : List (List RowCol)) (functions : List Function) → All (λ f. f.name < length texts) functions → All (λ f. f.bits.place < length bits) functions
    → function_lines (texts ++ new_texts) (bits ++ new_bits) functions ≡ function_lines texts bits functions
functions-grown texts new_texts bits new_bits functions ids lists =
    map-same (λ (f : Function). (f.name < length texts) × f.bits.place < length bits) (function_line (texts ++ new_texts) (bits ++ new_bits)) (function_line texts bits) functions
    (λ f is.
    let name = text-grown texts new_texts f.name is.0 in
    let named = bits-grown bits new_bits f.bits is.1 in
    λ i. record { kind = f.kind; name = name i; bits = named i })
    (λ k d lt. (ids k d lt, lists k d lt))

pub links-grown : (bits more : List (List RowCol)) (lines : List LinkLine) → All (IsLinkIn bits) lines → link_lines (bits ++ more) lines ≡ link_lines bits lines
links-grown bits more lines all =
    map-same (IsLinkIn bits) (link_line (bits ++ more)) (link_line bits) lines
    (λ l is.
    let named = bits-grown bits more l.bits is.bits_in in
    λ i. record { x = l.x; y = l.y; dst = l.dst; src = l.src; bits = named i; values = word_bits (length (named i)) l.values })
    all
