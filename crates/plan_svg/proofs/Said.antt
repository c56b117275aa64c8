-- The text of a name says the name.
use Rattle.std.proofs.Common.{◌≡◌, ℕ, ◌+◌, ◌-◌, ◌<◌, Bool, true, false, ◌==◌, List, [], ◌∷◌, ◌++◌, append_assoc, drop, length, take, refl, sym, ap, ◌∙◌, if◌then◌else◌, length-drop, arith}
use Rattle.std.specs.Prelude.{codes, nat_le, Result, Ok, Err, OnOk, is_ok}
use Rattle.std.proofs.lemmas.Bool.{eqb-true, lt-leb}
use Rattle.std.proofs.lemmas.Grind.{flat_map-append}
use Rattle.std.proofs.lemmas.List.{take_all}
use Rattle.plan_svg.specs.Names.{Says, escaped, escaped_byte, is_printable, label, cut, shown, nothing, plain, ampersand, less, greater, quote, apostrophe}

module _ (byte : ℕ) (bytes text : List ℕ) (says : Says bytes text) where
  by-cases : (a b c d e f : Bool) → (byte == 38) ≡ a → (byte == 60) ≡ b → (byte == 62) ≡ c → (byte == 34) ≡ d → (byte == 39) ≡ e → is_printable byte ≡ f
      → Says (escaped_byte byte ++ bytes) ((if is_printable byte then byte else 63) ∷ text)
  by-cases true b c d e f is of_b of_c of_d of_e of_f = rw (eqb-true byte 38 is) (ampersand bytes text says)
  by-cases false true c d e f of_a is of_c of_d of_e of_f = rw (eqb-true byte 60 is) (less bytes text says)
  by-cases false false true d e f of_a of_b is of_d of_e of_f = rw (eqb-true byte 62 is) (greater bytes text says)
  by-cases false false false true e f of_a of_b of_c is of_e of_f = rw (eqb-true byte 34 is) (quote bytes text says)
  by-cases false false false false true f of_a of_b of_c of_d is of_f = rw (eqb-true byte 39 is) (apostrophe bytes text says)
  by-cases false false false false false true of_a of_b of_c of_d of_e is =
      rw (of_a, of_b, of_c, of_d, of_e, is) (plain byte bytes text (rw (is, of_a, of_b, of_c, of_d, of_e) refl) says)
  by-cases false false false false false false of_a of_b of_c of_d of_e is = rw (of_a, of_b, of_c, of_d, of_e, is) (plain 63 bytes text refl says)

  byte-says : Says (escaped_byte byte ++ bytes) ((if is_printable byte then byte else 63) ∷ text)
  byte-says = by-cases (byte == 38) (byte == 60) (byte == 62) (byte == 34) (byte == 39) (is_printable byte) refl refl refl refl refl refl

escaped-says : (name : List ℕ) → Says (escaped name) (shown name)
unfolding escaped
escaped-says [] = nothing
escaped-says (byte ∷ name) = byte-says byte (escaped name) (shown name) (escaped-says name)

pub label-says : (first last : ℕ) (name : List ℕ) → Says (label first last name) (shown (cut first last name))
unfolding label
label-says first last name = escaped-says (cut first last name)

-- what is written after other parts
pub written-more : (text front one back two : List ℕ) → one ≡ text ++ front → two ≡ one ++ back → two ≡ text ++ (front ++ back)
written-more text front one back two one_is two_is = two_is ∙ ap (λ t. t ++ back) one_is ∙ append_assoc text front back

-- a name in two parts
pub escaped-append : (one two : List ℕ) → escaped (one ++ two) ≡ escaped one ++ escaped two
unfolding escaped
escaped-append one two = flat_map-append escaped_byte one two

escaped-dots : escaped (codes "..") ≡ codes ".."
unfolding escaped
escaped-dots = refl

-- a name that is cut
pub label-cut : (first last : ℕ) (name : List ℕ) → first + last + 2 < length name → label first last name ≡ escaped (take first name) ++ codes ".." ++ escaped (drop (length name - last) name)
unfolding label
label-cut first last name long =
    let test : nat_le (length name) (first + last + 2) ≡ false = lt-leb (length name) (first + last + 2) long in
    ap (λ (short : Bool). escaped (if short then name else take first name ++ codes ".." ++ drop (length name - last) name)) test
    ∙ escaped-append (take first name ++ codes "..") (drop (length name - last) name)
    ∙ ap (λ text. text ++ escaped (drop (length name - last) name)) (escaped-append (take first name) (codes "..") ∙ ap (λ text. escaped (take first name) ++ text) escaped-dots)

-- its three parts, written one after the other
pub label-written : (first last : ℕ) (name text one two new : List ℕ) → first + last + 2 < length name → one ≡ text ++ escaped (take first name) → two ≡ one ++ codes ".."
    → new ≡ two ++ escaped (take (length name - (length name - last)) (drop (length name - last) name)) → new ≡ text ++ label first last name
label-written first last name text one two new long one_is two_is new_is =
    let front = escaped (take first name) in
    let back = escaped (drop (length name - last) name) in
    let whole : take (length name - (length name - last)) (drop (length name - last) name) ≡ drop (length name - last) name =
    take_all (length name - (length name - last)) (drop (length name - last) name) (omega (arith, length-drop (length name - last) name)) in
    new_is ∙ ap (λ rest. two ++ escaped rest) whole ∙ ap (λ t. t ++ back) (two_is ∙ ap (λ t. t ++ codes "..") one_is ∙ append_assoc text front (codes "..")) ∙ append_assoc text (front ++ codes "..") back
    ∙ ap (λ t. text ++ t) (sym (label-cut first last name long))

-- what is appended if memory isn't out
pub ended-ok : {T E : Type 0} (r : Result T E) (new all none : List ℕ) → new ≡ (if is_ok r then all else none) → OnOk r (new ≡ all)
ended-ok (Ok value) new all none is = is
ended-ok (Err error) new all none is = tt
