-- Texts that are made line by line.
use Rattle.std.proofs.Common.{◌≡◌, ◌∙◌, ℕ, ◌+◌, ◌≤◌, List, [], ◌∷◌, ◌++◌, length, refl, ap, sym, append_assoc, append-nil, arith, length-append}
use Rattle.std.specs.Prelude.{OnErr, Result, Ok, Err}
use Rattle.std.proofs.lemmas.List.Concat.{flat_map-append}
use Rattle.text_lines.specs.Written.{text_of}

-- the text of two lists of lines
pub text_of-append : (lines more : List (List ℕ)) → text_of (lines ++ more) ≡ text_of lines ++ text_of more
unfolding text_of
text_of-append lines more = flat_map-append (λ line. line ++ 10 ∷ []) lines more

-- the text of one line
pub text_of_one : (line : List ℕ) → text_of (line ∷ []) ≡ line ++ 10 ∷ []
unfolding text_of
text_of_one line = append-nil (line ++ 10 ∷ [])

-- no lines
pub text_of-none : text_of [] ≡ []
unfolding text_of
text_of-none = refl

-- a line before others
pub text_of-cons : (line : List ℕ) (lines : List (List ℕ)) → text_of (line ∷ lines) ≡ text_of (line ∷ []) ++ text_of lines
text_of-cons line lines = text_of-append (line ∷ []) lines

-- what holds anyway holds of an error
pub failed : {T E P : Type 0} (result : Result T E) → P → OnErr result P
failed (Ok value) holds = tt
failed (Err e) holds = holds

-- ---- a text, of which a part is made and the rest is to come

-- one part more is made
pub part-made : {A : Type 0} (all now rest part more after : List A) → now ++ rest ≡ all → rest ≡ part ++ more → after ≡ now ++ part → after ++ more ≡ all
part-made {A = A} all now rest part more after so_far cut made =
    ap (λ (text : List A). text ++ more) made ∙ append_assoc now part more ∙ ap (λ (text : List A). now ++ text) (sym cut) ∙ so_far

-- the part fits if all does
pub part-fits : (all now rest part more : List ℕ) → now ++ rest ≡ all → rest ≡ part ++ more → length now + length part ≤ length all
part-fits all now rest part more so_far cut =
    omega (arith, ap length so_far, ap length cut, length-append now rest, length-append part more)

-- nothing is to come
pub all-made : {A : Type 0} (all now rest : List A) → now ++ rest ≡ all → rest ≡ [] → now ≡ all
all-made {A = A} all now rest so_far none = sym (append-nil now) ∙ ap (λ (text : List A). now ++ text) (sym none) ∙ so_far

-- ---- four texts, one after another

pub four-joined : (start one two three four a b c d : List ℕ) → one ≡ start ++ a → two ≡ one ++ b → three ≡ two ++ c → four ≡ three ++ d → four ≡ start ++ (a ++ (b ++ (c ++ d)))
four-joined start one two three four a b c d first second third fourth =
    fourth
    ∙ ap (λ (text : List ℕ). text ++ d) (third ∙ ap (λ (text : List ℕ). text ++ c) (second ∙ ap (λ (text : List ℕ). text ++ b) first))
    ∙ append_assoc ((start ++ a) ++ b) c d
    ∙ append_assoc (start ++ a) b (c ++ d)
    ∙ append_assoc start a (b ++ (c ++ d))

pub length-four : (a b c d : List ℕ) → length (a ++ (b ++ (c ++ d))) ≡ length a + length b + length c + length d
length-four a b c d = omega (arith, length-append a (b ++ (c ++ d)), length-append b (c ++ d), length-append c d)

-- the line of a variable, made part by part
pub line-made : (start one two three four five a b c name d e : List ℕ) → one ≡ start ++ (a ++ b) → two ≡ one ++ c → three ≡ two ++ 32 ∷ [] → four ≡ three ++ name → five ≡ four ++ (d ++ (e ++ 10 ∷ []))
    → five ≡ start ++ ((a ++ (b ++ (c ++ (32 ∷ name ++ (d ++ e))))) ++ 10 ∷ [])
line-made start one two three four five a b c name d e first second third fourth fifth =
    let end : List ℕ = 10 ∷ [] in
    let following : List ℕ = name ++ (d ++ (e ++ end)) in
    let left : five ≡ start ++ (a ++ (b ++ (c ++ (32 ∷ following)))) =
    fifth
    ∙ ap (λ (text : List ℕ). text ++ (d ++ (e ++ end)))
    (fourth ∙ ap (λ (text : List ℕ). text ++ name) (third ∙ ap (λ (text : List ℕ). text ++ 32 ∷ []) (second ∙ ap (λ (text : List ℕ). text ++ c) first)))
    ∙ append_assoc (((start ++ (a ++ b)) ++ c) ++ (32 ∷ [])) name (d ++ (e ++ end))
    ∙ append_assoc ((start ++ (a ++ b)) ++ c) (32 ∷ []) following
    ∙ append_assoc (start ++ (a ++ b)) c (32 ∷ following)
    ∙ append_assoc start (a ++ b) (c ++ (32 ∷ following))
    ∙ ap (λ (text : List ℕ). start ++ text) (append_assoc a b (c ++ (32 ∷ following))) in
    let word : List ℕ = 32 ∷ (name ++ (d ++ e)) in
    let right : (a ++ (b ++ (c ++ word))) ++ end ≡ a ++ (b ++ (c ++ (32 ∷ following))) =
    append_assoc a (b ++ (c ++ word)) end
    ∙ ap (λ (text : List ℕ). a ++ text)
    (append_assoc b (c ++ word) end
    ∙ ap (λ (text : List ℕ). b ++ text)
    (append_assoc c word end
    ∙ ap (λ (text : List ℕ). c ++ (32 ∷ text)) (append_assoc name (d ++ e) end ∙ ap (λ (text : List ℕ). name ++ text) (append_assoc d e end)))) in
    left ∙ ap (λ (text : List ℕ). start ++ text) (sym right)

-- ---- lines

-- the text of a line has one byte more
pub length-one : (line : List ℕ) → length (text_of (line ∷ [])) ≡ length line + 1
length-one line = ap length (text_of_one line) ∙ length-append line (10 ∷ [])

-- a byte, something after it, and the line's end
pub short-made : (start one two three : List ℕ) (byte : ℕ) (rest : List ℕ) → one ≡ start ++ byte ∷ [] → two ≡ one ++ rest → three ≡ two ++ 10 ∷ [] → three ≡ start ++ text_of ((byte ∷ rest) ∷ [])
short-made start one two three byte rest first second third =
    let end : List ℕ = 10 ∷ [] in
    third
    ∙ ap (λ (text : List ℕ). text ++ end) (second ∙ ap (λ (text : List ℕ). text ++ rest) first)
    ∙ append_assoc (start ++ (byte ∷ [])) rest end
    ∙ append_assoc start (byte ∷ []) (rest ++ end)
    ∙ ap (λ (text : List ℕ). start ++ text) (sym (text_of_one (byte ∷ rest)))

-- a byte, two parts with another byte between them, and the line's end
pub long-made : (start one two three four five : List ℕ) (byte : ℕ) (part : List ℕ) (between : ℕ) (rest : List ℕ)
    → one ≡ start ++ byte ∷ [] → two ≡ one ++ part → three ≡ two ++ between ∷ [] → four ≡ three ++ rest → five ≡ four ++ 10 ∷ []
    → five ≡ start ++ text_of ((byte ∷ (part ++ (between ∷ rest))) ∷ [])
long-made start one two three four five byte part between rest first second third fourth fifth =
    let end : List ℕ = 10 ∷ [] in
    fifth
    ∙ ap (λ (text : List ℕ). text ++ end)
    (fourth ∙ ap (λ (text : List ℕ). text ++ rest) (third ∙ ap (λ (text : List ℕ). text ++ (between ∷ [])) (second ∙ ap (λ (text : List ℕ). text ++ part) first)))
    ∙ append_assoc (((start ++ (byte ∷ [])) ++ part) ++ (between ∷ [])) rest end
    ∙ append_assoc ((start ++ (byte ∷ [])) ++ part) (between ∷ []) (rest ++ end)
    ∙ append_assoc (start ++ (byte ∷ [])) part (between ∷ (rest ++ end))
    ∙ append_assoc start (byte ∷ []) (part ++ (between ∷ (rest ++ end)))
    ∙ ap (λ (text : List ℕ). start ++ (byte ∷ text)) (sym (append_assoc part (between ∷ rest) end))
    ∙ ap (λ (text : List ℕ). start ++ text) (sym (text_of_one (byte ∷ (part ++ (between ∷ rest)))))
