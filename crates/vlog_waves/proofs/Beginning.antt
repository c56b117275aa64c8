-- The lines before the first event.
use Rattle.std.proofs.Common.{◌≡◌, ◌∙◌, ℕ, List, [], ◌∷◌, ◌++◌, ap, append_assoc, arith, refl}
use Rattle.std.specs.Prelude.{codes}
use Rattle.std.proofs.lemmas.Fmt.{decimal_digit}
use Rattle.text_lines.specs.Written.{text_of}
use Rattle.vlog_waves.specs.Waves.{time_line}
use Rattle.vlog_waves.proofs.Texts.{four-joined, text_of-append}

-- the lines of a module's name
first-two : (name : List ℕ) (more : List (List ℕ)) → text_of (codes "$timescale 1 ns $end" ∷ (codes "$scope module " ++ (name ++ codes " $end")) ∷ more)
    ≡ (codes "$timescale 1 ns $end\n$scope module " ++ (name ++ codes " $end\n")) ++ text_of more
unfolding text_of
first-two name more = ap (λ text. (codes "$timescale 1 ns $end\n$scope module " ++ text) ++ text_of more) (append_assoc name (codes " $end") (10 ∷ []))

-- the four lines between the declarations and the values
middle-four : (more : List (List ℕ)) → text_of (codes "$upscope $end" ∷ codes "$enddefinitions $end" ∷ time_line 0 ∷ codes "$dumpvars" ∷ more)
    ≡ codes "$upscope $end\n$enddefinitions $end\n#0\n$dumpvars\n" ++ text_of more
unfolding text_of
middle-four more =
    ap (λ (digits : List ℕ). text_of (codes "$upscope $end" ∷ codes "$enddefinitions $end" ∷ (35 ∷ digits) ∷ codes "$dumpvars" ∷ more)) (decimal_digit 0 (omega arith))

last-one : text_of (codes "$end" ∷ []) ≡ codes "$end\n"
unfolding text_of
last-one = refl

-- the whole text
pub beginning-text : (name : List ℕ) (variables values : List (List ℕ))
    → text_of ((codes "$timescale 1 ns $end" ∷ (codes "$scope module " ++ (name ++ codes " $end")) ∷ variables ++ (codes "$upscope $end" ∷ codes "$enddefinitions $end" ∷ []))
    ++ (time_line 0 ∷ codes "$dumpvars" ∷ values ++ codes "$end" ∷ []))
    ≡ (codes "$timescale 1 ns $end\n$scope module " ++ (name ++ codes " $end\n"))
    ++ (text_of variables ++ (codes "$upscope $end\n$enddefinitions $end\n#0\n$dumpvars\n" ++ (text_of values ++ codes "$end\n")))
beginning-text name variables values =
    let last : List (List ℕ) = values ++ codes "$end" ∷ [] in
    let middle : List (List ℕ) = codes "$upscope $end" ∷ codes "$enddefinitions $end" ∷ time_line 0 ∷ codes "$dumpvars" ∷ last in
    ap (λ lines. text_of (codes "$timescale 1 ns $end" ∷ (codes "$scope module " ++ (name ++ codes " $end")) ∷ lines))
    (append_assoc variables (codes "$upscope $end" ∷ codes "$enddefinitions $end" ∷ []) (time_line 0 ∷ codes "$dumpvars" ∷ last))
    ∙ first-two name (variables ++ middle)
    ∙ ap (λ text. (codes "$timescale 1 ns $end\n$scope module " ++ (name ++ codes " $end\n")) ++ text)
    (text_of-append variables middle
    ∙ ap (λ text. text_of variables ++ text)
    (middle-four last ∙ ap (λ text. codes "$upscope $end\n$enddefinitions $end\n#0\n$dumpvars\n" ++ text) (text_of-append values (codes "$end" ∷ []) ∙ ap (λ text. text_of values ++ text) last-one)))

-- made part by part
pub beginning-made : (a b c d e f g first name second variables third values fourth : List ℕ) → a ≡ first → b ≡ a ++ name → c ≡ b ++ second → d ≡ c ++ variables → e ≡ d ++ third → f ≡ e ++ values → g ≡ f ++ fourth
    → g ≡ (first ++ (name ++ second)) ++ (variables ++ (third ++ (values ++ fourth)))
beginning-made a b c d e f g first name second variables third values fourth one two three four five six seven =
    four-joined c d e f g variables third values fourth four five six seven
    ∙ ap (λ text. text ++ (variables ++ (third ++ (values ++ fourth)))) (three ∙ ap (λ text. text ++ second) (two ∙ ap (λ text. text ++ name) one) ∙ append_assoc first name second)
