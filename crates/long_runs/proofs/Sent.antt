-- Runs whose lines go out piece by piece.
use Rattle.std.proofs.Common.{◌≡◌, ◌∙◌, ℕ, ◌+◌, ◌<◌, ◌^◌, Bool, true, false, List, [], ◌++◌, length, Option, Ok, Err, refl, sym, ap, subst, append_assoc, append-nil, arith, length-append}
use Rattle.std.specs.Prelude.{if◌then◌else◌}
use Rattle.std.proofs.KnownBytes.{Appends-nil}
use Rattle.ice_io.specs.declared.sink.PutFault.{PutFault}
use Rattle.ice_io.specs.Put.{Sends}
use Rattle.ice_io.proofs.Sent.{Sends-front, Sends-next}
use Rattle.vlog_module.specs.Parts.{Parts}
use Rattle.vlog_semantics.specs.declared.event.Event.{Event}
use Rattle.vlog_semantics.specs.Entries.{Entry}
use Rattle.long_runs.specs.declared.printer.Printer.{Printer}
use Rattle.long_runs.specs.inside.Printing.{Makes, Prints, rest_text}

-- what a printer still shows, if more may follow
abbrev pub to_come : Printer → Parts → Entry → List Event → Bool → List ℕ
to_come printer m last left more = if more then rest_text printer m last left else []

-- fewer events are left, or nothing may follow
pub falls : (more next : Bool) (n k : ℕ) → more ≡ true → (next ≡ true → k < n) → (if next then k + 1 else 0) < (if more then n + 1 else 0)
falls true true n k is fewer =
    let less : k < n = fewer refl in
    omega (arith, less)
falls true false n k is fewer = omega arith
falls false next n k is fewer = absurd cc

-- ---- to a sink

-- pieces of a text are sent, and the printer shows the others
pub record Sending (m : Parts) (held now : Option (List ℕ)) (before sent : ℕ) (printer : Printer) (left : List Event) (more : Bool) (all : List ℕ) : Type 0 where
  pub last : Entry
  pub pieces : List ℕ
  pub sends : Sends held now before pieces (Ok sent)
  pub made : pieces ++ to_come printer m last left more ≡ all
  pub prints : Prints printer m last

pub sending-begun : (m : Parts) (held : Option (List ℕ)) (before : ℕ) (printer : Printer) (entry : Entry) (events : List Event) → Prints printer m entry
    → Sending m held held before before printer events true (rest_text printer m entry events)
sending-begun m held before printer entry events prints = record {
  last = entry;
  pieces = [];
  sends = (Appends-nil held, (let same : before ≡ before + 0 = omega arith in same));
  made = refl;
  prints = prints;
}

-- the text with the next piece
piece-made : (m : Parts) (held now : Option (List ℕ)) (before sent : ℕ) (old new : Printer) (left rest : List Event) (more : Bool) (all : List ℕ)
    → (going : Sending m held now before sent old left true all) → (makes : Makes old new m going.last left rest more)
    → (going.pieces ++ new.text.items) ++ to_come new m makes.last rest more ≡ all
piece-made m held now before sent old new left rest more all going makes =
    append_assoc going.pieces new.text.items (to_come new m makes.last rest more) ∙ ap (λ (text : List ℕ). going.pieces ++ text) (sym makes.made) ∙ going.made

pub sending-next : (m : Parts) (held now next : Option (List ℕ)) (before sent after : ℕ) (old new : Printer) (left rest : List Event) (more : Bool) (all : List ℕ)
    → (going : Sending m held now before sent old left true all) → Makes old new m going.last left rest more → Sends now next sent new.text.items (Ok after)
    → Sending m held next before after new rest more all
sending-next m held now next before sent after old new left rest more all going makes sends = record {
  last = makes.last;
  pieces = going.pieces ++ new.text.items;
  sends = Sends-next held now next before sent going.pieces new.text.items (Ok after) going.sends sends;
  made = piece-made m held now before sent old new left rest more all going makes;
  prints = makes.prints;
}

-- the next piece fits, if all does
pub piece-fits : (m : Parts) (held now : Option (List ℕ)) (before sent : ℕ) (old new : Printer) (left rest : List Event) (more : Bool) (all : List ℕ)
    → (going : Sending m held now before sent old left true all) → Makes old new m going.last left rest more → before + length all < 2 ^ 64
    → sent + length new.text.items < 2 ^ 64
piece-fits m held now before sent old new left rest more all going makes few =
    let whole = ap length (piece-made m held now before sent old new left rest more all going makes) in
    omega (arith, few, whole, going.sends.1, length-append (going.pieces ++ new.text.items) (to_come new m makes.last rest more), length-append going.pieces new.text.items)

-- if the next piece isn't sent, the text isn't
pub sending-failed : (m : Parts) (held now next : Option (List ℕ)) (before sent : ℕ) (old new : Printer) (left rest : List Event) (more : Bool) (all : List ℕ) (fault : PutFault)
    → (going : Sending m held now before sent old left true all) → Makes old new m going.last left rest more → Sends now next sent new.text.items (Err fault)
    → Sends held next before all (Err fault)
sending-failed m held now next before sent old new left rest more all fault going makes sends =
    subst (λ text. Sends held next before text (Err fault)) (piece-made m held now before sent old new left rest more all going makes)
    (Sends-front held next before (going.pieces ++ new.text.items) (to_come new m makes.last rest more) fault
    (Sends-next held now next before sent going.pieces new.text.items (Err fault) going.sends sends))

-- the last piece is sent
pub sending-ended : (m : Parts) (held now : Option (List ℕ)) (before sent : ℕ) (printer : Printer) (left : List Event) (all : List ℕ)
    → Sending m held now before sent printer left false all → Sends held now before all (Ok sent)
sending-ended m held now before sent printer left all going =
    subst (λ text. Sends held now before text (Ok sent)) (sym (append-nil going.pieces) ∙ going.made) going.sends

-- ---- to a text

-- pieces stand in a text, and the printer shows the others
pub record Adding (m : Parts) (text : List ℕ) (printer : Printer) (left : List Event) (more : Bool) (all : List ℕ) : Type 0 where
  pub last : Entry
  pub made : text ++ to_come printer m last left more ≡ all
  pub prints : Prints printer m last

pub adding-begun : (m : Parts) (text : List ℕ) (printer : Printer) (entry : Entry) (events : List Event) → Prints printer m entry
    → Adding m text printer events true (text ++ rest_text printer m entry events)
adding-begun m text printer entry events prints = record { last = entry; made = refl; prints = prints }

pub adding-next : (m : Parts) (text next : List ℕ) (old new : Printer) (left rest : List Event) (more : Bool) (all : List ℕ) → (going : Adding m text old left true all)
    → Makes old new m going.last left rest more → next ≡ text ++ new.text.items → Adding m next new rest more all
adding-next m text next old new left rest more all going makes is = record {
  last = makes.last;
  made = ap (λ (front : List ℕ). front ++ to_come new m makes.last rest more) is
      ∙ append_assoc text new.text.items (to_come new m makes.last rest more)
      ∙ ap (λ (behind : List ℕ). text ++ behind) (sym makes.made)
      ∙ going.made;
  prints = makes.prints;
}

pub adding-ended : (m : Parts) (text : List ℕ) (printer : Printer) (left : List Event) (all : List ℕ) → Adding m text printer left false all → text ≡ all
adding-ended m text printer left all going = sym (append-nil text) ∙ going.made
