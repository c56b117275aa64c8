-- The outcome of a text, after its header.
use Rattle.std.proofs.Common.{◌≡◌, ℕ, List, [], ◌∷◌, length, refl, ap, sym, ◌∙◌, subst}
use Rattle.std.specs.Prelude.{Result, Ok, Err, Option, Some, None}
use Rattle.std.specs.Option.{option_map}
use Rattle.vlog_tokens.specs.declared.fixed.Fixed.TheVariants as sign
use Rattle.vlog_tokens.specs.Tokens.{Spot, spots_of}
use Rattle.vlog_tokens.specs.Tokens.{TokenValue as token}
use Rattle.vlog_module.specs.Parts.{Parts}
use Rattle.vlog_forms.specs.Items.{tokens_in, name_in, IsSpelling}
use Rattle.vlog_forms.specs.Reading.{Found, values_of, Reading, read_slots, read_tokens}
use Rattle.vlog_forms.specs.Outcome.{Fault, after, unless_fault, fault_in, port_names, twice_fault, header_slots, Header, with_head, with_names, with_semicolon, read_header, ports_outcome, ports_next, header_outcome, spots_outcome, outcome_of, vlog_fault_of}
use Rattle.vlog_forms.specs.Outcome.Turn.{Opened}
use Rattle.vlog_forms.proofs.Pairs.{ok_same}
use Rattle.vlog_forms.proofs.Sound.{AreSoundTokens, AreSoundValues, slots-sound, spots-sound}
use Rattle.vlog_forms.proofs.Spelled.{outcome-spelled}
use Rattle.vlog_forms.proofs.Whole.{listed-sound}
use Rattle.vlog_form_parser.specs.declared.stop.ReadStop.{ReadStop}
use Rattle.vlog_form_parser.specs.declared.stop.ReadStop.TheVariants as stop
use Rattle.vlog_form_parser.specs.Readings.{StopsAt}
use Rattle.vlog_form_parser.specs.Named.{AreNamed}
use Rattle.vlog_form_parser.proofs.Named.{named-sound}
use Rattle.vlog_parser.specs.declared.name_faults.Fault as kept
use Rattle.vlog_parser.specs.Seen.{seen_fault}
use Rattle.vlog_parser.specs.Answers.{RefusesAt, refusal_of}

-- ---- the names of a header

-- the names of a header are names
pub record AreGood (header : Header) : Type 0 where
  pub head : AreNamed (values_of header.head)
  pub names : AreNamed (values_of header.names)

semicolon_case : (head names : List Found) (reading : Result (List Spot) ℕ) (header : Header) → AreNamed (values_of head) → AreNamed (values_of names) → with_semicolon head names reading ≡ Ok header → AreGood header
semicolon_case head names (Ok spots) header first list reads = subst AreGood (ok_same reads) (record { head = first; names = list })
semicolon_case head names (Err stuck) header first list reads = absurd cc

names_case : (end : ℕ) (head : List Found) (spots : List Spot) (reading : Reading (List Found)) (header : Header) → AreNamed (values_of head) → AreSoundTokens (tokens_in spots)
    → port_names end Opened [] spots ≡ reading → with_names end head reading ≡ Ok header → AreGood header
names_case end head spots (Ok names) header first sound is reads =
    let list = listed-sound end spots names.0 names.1 sound is in
    semicolon_case head names.0 (read_tokens end (token.fixed sign.Semicolon ∷ []) names.1) header first (named-sound (values_of names.0) list.0) reads
names_case end head spots (Err stuck) header first sound is reads = absurd cc

head_case : (end : ℕ) (spots : List Spot) (reading : Reading (List Found)) (header : Header) → AreSoundTokens (tokens_in spots) → read_slots end header_slots [] spots ≡ reading → with_head end reading ≡ Ok header → AreGood header
head_case end spots (Ok head) header sound is reads =
    let good = slots-sound end header_slots [] spots head.0 head.1 sound is in
    let first : AreSoundValues (values_of head.0) = subst (λ (f : List Found). AreSoundValues (values_of f)) (sym good.gained) good.values in
    names_case end head.0 head.1 (port_names end Opened [] head.1) header (named-sound (values_of head.0) first) good.left refl reads
head_case end spots (Err stuck) header sound is reads = absurd cc

pub header-good : (text : List ℕ) (header : Header) → read_header (length text) (spots_of text) ≡ Ok header → AreGood header
header-good text header reads = head_case (length text) (spots_of text) (read_slots (length text) header_slots [] (spots_of text)) header (spots-sound 0 0 text) refl reads

-- ---- what follows a header

pub header-stuck : (text : List ℕ) (why : ReadStop) → StopsAt (read_header (length text) (spots_of text)) why → RefusesAt (outcome_of text) (refusal_of why)
unfolding outcome_of spots_outcome
header-stuck text (stop.Stuck at) stops = ap (λ reading. after reading (header_outcome (length text))) stops
header-stuck text (stop.Memory refused) stops = tt

after-header : (text : List ℕ) (header : Header) → read_header (length text) (spots_of text) ≡ Ok header → outcome_of text ≡ header_outcome (length text) header
unfolding outcome_of spots_outcome
after-header text header reads = ap (λ reading. after reading (header_outcome (length text))) reads

pub names-twice : (text : List ℕ) (header : Header) (found : Option kept.Fault) (one : kept.Fault) → read_header (length text) (spots_of text) ≡ Ok header → option_map seen_fault found ≡ twice_fault [] header.names → found ≡ Some one
    → outcome_of text ≡ Err (seen_fault one)
names-twice text header found one reads twice is =
    let there : twice_fault [] header.names ≡ Some (seen_fault one) = sym twice ∙ ap (option_map seen_fault) is in
    after-header text header reads ∙ ap (λ each. unless_fault each (ports_outcome (length text) header.names [] header.spots (ports_next (length text) (name_in (values_of header.head))))) there

pub names-once : (text : List ℕ) (header : Header) (found : Option kept.Fault) → read_header (length text) (spots_of text) ≡ Ok header → option_map seen_fault found ≡ twice_fault [] header.names → found ≡ None
    → outcome_of text ≡ ports_outcome (length text) header.names [] header.spots (ports_next (length text) (name_in (values_of header.head)))
names-once text header found reads twice is =
    let none : twice_fault [] header.names ≡ None = sym twice ∙ ap (option_map seen_fault) is in
    after-header text header reads ∙ ap (λ each. unless_fault each (ports_outcome (length text) header.names [] header.spots (ports_next (length text) (name_in (values_of header.head))))) none

-- ---- answers

pub taken : (text : List ℕ) (m n : Parts) → outcome_of text ≡ Ok n → IsSpelling text m → n ≡ m
taken text m n is spells = ok_same (sym is ∙ outcome-spelled text m spells)

pub told : (text : List ℕ) (one : Fault) → outcome_of text ≡ Err one → vlog_fault_of text ≡ Some one
unfolding vlog_fault_of
told text one is = ap fault_in is

pub not-taken : (text : List ℕ) (m : Parts) (one : Fault) → outcome_of text ≡ Err one → IsSpelling text m → ⊥
not-taken text m one is spells = let both : ◌≡◌ {A = Result Parts Fault} (Err one) (Ok m) = sym is ∙ outcome-spelled text m spells in cc
