-- How a reader goes through the parts of a picture that are the same for each plan. The parts are cut into pieces, since a long one takes long to
-- compute.
use Rattle.std.proofs.Common.{ℕ, List, [], ◌∷◌, ◌++◌, refl}
use Rattle.std.specs.Prelude.{codes}
use Rattle.plan_svg.specs.declared.literals.TheConstants.{SHAPES}
use Rattle.plan_svg.specs.Reader.{read}
use Rattle.plan_svg.proofs.Drawn.{group}
use Rattle.plan_svg.proofs.Reading.{Goes, goes-append}

abbrev shapes_1 : List ℕ
shapes_1 = codes "<defs>\n<g id=\"L\"><rect class=\"w\" width=\"40\" height=\"40\" rx=\"2\"/>"

shapes-1 : Goes [] (group ∷ codes "sfed" ∷ []) shapes_1 (codes "w" ∷ [])
unfolding read
shapes-1 element elements classes = refl

abbrev shapes_2 : List ℕ
shapes_2 = codes "<path class=\"x\" d=\"M2.5 29.5h17v8h-17zM20.5 29.5h17v8h-17zM2.5 20.5h17v8h-17zM20.5 20.5h17v8h-17zM2.5 11.5h17v8h-17zM20.5 11.5h17v8h-17zM2.5 2.5h17v8h-17zM20.5 2.5h17v8h-17z\"/>"

shapes-2 : Goes (group ∷ codes "sfed" ∷ []) (group ∷ codes "sfed" ∷ []) shapes_2 (codes "x" ∷ [])
unfolding read
shapes-2 element elements classes = refl

abbrev shapes_3 : List ℕ
shapes_3 = codes "</g>\n<g id=\"I0\"><rect class=\"w\" width=\"40\" height=\"40\" rx=\"2\"/>"

shapes-3 : Goes (group ∷ codes "sfed" ∷ []) (group ∷ codes "sfed" ∷ []) shapes_3 (codes "w" ∷ [])
unfolding read
shapes-3 element elements classes = refl

abbrev shapes_4 : List ℕ
shapes_4 = codes "<circle class=\"x\" cx=\"11\" cy=\"30\" r=\"3\"/><circle class=\"x\" cx=\"11\" cy=\"10\" r=\"3\"/></g>\n<g id=\"I1\">"

shapes-4 : Goes (group ∷ codes "sfed" ∷ []) (group ∷ codes "sfed" ∷ []) shapes_4 (codes "x" ∷ codes "x" ∷ [])
unfolding read
shapes-4 element elements classes = refl

abbrev shapes_5 : List ℕ
shapes_5 = codes "<rect class=\"w\" width=\"40\" height=\"40\" rx=\"2\"/><circle class=\"x\" cx=\"10\" cy=\"11\" r=\"3\"/>"

shapes-5 : Goes (group ∷ codes "sfed" ∷ []) (group ∷ codes "sfed" ∷ []) shapes_5 (codes "x" ∷ codes "w" ∷ [])
unfolding read
shapes-5 element elements classes = refl

abbrev shapes_6 : List ℕ
shapes_6 = codes "<circle class=\"x\" cx=\"30\" cy=\"11\" r=\"3\"/></g>\n<g id=\"I2\">"

shapes-6 : Goes (group ∷ codes "sfed" ∷ []) (group ∷ codes "sfed" ∷ []) shapes_6 (codes "x" ∷ [])
unfolding read
shapes-6 element elements classes = refl

abbrev shapes_7 : List ℕ
shapes_7 = codes "<rect class=\"w\" width=\"40\" height=\"40\" rx=\"2\"/><circle class=\"x\" cx=\"29\" cy=\"30\" r=\"3\"/>"

shapes-7 : Goes (group ∷ codes "sfed" ∷ []) (group ∷ codes "sfed" ∷ []) shapes_7 (codes "x" ∷ codes "w" ∷ [])
unfolding read
shapes-7 element elements classes = refl

abbrev shapes_8 : List ℕ
shapes_8 = codes "<circle class=\"x\" cx=\"29\" cy=\"10\" r=\"3\"/></g>\n<g id=\"I3\">"

shapes-8 : Goes (group ∷ codes "sfed" ∷ []) (group ∷ codes "sfed" ∷ []) shapes_8 (codes "x" ∷ [])
unfolding read
shapes-8 element elements classes = refl

abbrev shapes_9 : List ℕ
shapes_9 = codes "<rect class=\"w\" width=\"40\" height=\"40\" rx=\"2\"/><circle class=\"x\" cx=\"10\" cy=\"29\" r=\"3\"/>"

shapes-9 : Goes (group ∷ codes "sfed" ∷ []) (group ∷ codes "sfed" ∷ []) shapes_9 (codes "x" ∷ codes "w" ∷ [])
unfolding read
shapes-9 element elements classes = refl

abbrev shapes_10 : List ℕ
shapes_10 = codes "<circle class=\"x\" cx=\"30\" cy=\"29\" r=\"3\"/></g>\n<g id=\"B\">"

shapes-10 : Goes (group ∷ codes "sfed" ∷ []) (group ∷ codes "sfed" ∷ []) shapes_10 (codes "x" ∷ [])
unfolding read
shapes-10 element elements classes = refl

abbrev shapes_11 : List ℕ
shapes_11 = codes "<path class=\"w\" d=\"M0 -2v40a2 2 0 0 0 2 2h36a2 2 0 0 0 2 -2v-40\"/>"

shapes-11 : Goes (group ∷ codes "sfed" ∷ []) (group ∷ codes "sfed" ∷ []) shapes_11 (codes "w" ∷ [])
unfolding read
shapes-11 element elements classes = refl

abbrev shapes_12 : List ℕ
shapes_12 = codes "<path class=\"x\" d=\"M4 -2v38h32v-38\"/></g>\n<g id=\"T\">"

shapes-12 : Goes (group ∷ codes "sfed" ∷ []) (group ∷ codes "sfed" ∷ []) shapes_12 (codes "x" ∷ [])
unfolding read
shapes-12 element elements classes = refl

abbrev shapes_13 : List ℕ
shapes_13 = codes "<path class=\"w\" d=\"M0 41v-39a2 2 0 0 1 2 -2h36a2 2 0 0 1 2 2v39\"/>"

shapes-13 : Goes (group ∷ codes "sfed" ∷ []) (group ∷ codes "sfed" ∷ []) shapes_13 (codes "w" ∷ [])
unfolding read
shapes-13 element elements classes = refl

abbrev shapes_14 : List ℕ
shapes_14 = codes "<path class=\"x\" d=\"M4 41v-37h32v37\"/></g>\n<path id=\"l\" d=\"M0 0h16v7h-16z\"/>\n<g id=\"f\">"

shapes-14 : Goes (group ∷ codes "sfed" ∷ []) (group ∷ codes "sfed" ∷ []) shapes_14 (codes "x" ∷ [])
unfolding read
shapes-14 element elements classes = refl

abbrev shapes_15 : List ℕ
shapes_15 = codes "<path d=\"M0 0h16v7h-16z\"/><path class=\"wh\" d=\"M0 1.5l3 2l-3 2z\"/></g>\n"

shapes-15 : Goes (group ∷ codes "sfed" ∷ []) (codes "sfed" ∷ []) shapes_15 (codes "hw" ∷ [])
unfolding read
shapes-15 element elements classes = refl

abbrev shapes_16 : List ℕ
shapes_16 = codes "<path id=\"c\" d=\"M0 0h9v7h-9zM11.5 0h4.5v7h-4.5z\"/>\n<g id=\"d\"><path d=\"M0 0h9v7h-9z\"/>"

shapes-16 : Goes (codes "sfed" ∷ []) (group ∷ codes "sfed" ∷ []) shapes_16 []
unfolding read
shapes-16 element elements classes = refl

abbrev shapes_17 : List ℕ
shapes_17 = codes "<path class=\"wh\" d=\"M0 1.5l3 2l-3 2z\"/><path class=\"cb\" d=\"M11.5 0h4.5v7h-4.5z\"/></g>\n"

shapes-17 : Goes (group ∷ codes "sfed" ∷ []) (codes "sfed" ∷ []) shapes_17 (codes "bc" ∷ codes "hw" ∷ [])
unfolding read
shapes-17 element elements classes = refl

abbrev shapes_18 : List ℕ
shapes_18 = codes "<path id=\"write0\" d=\"M4 -2h32v38h-32z\"/>\n<g id=\"write1\"><path d=\"M4 -2h32v38h-32z\"/>"

shapes-18 : Goes (codes "sfed" ∷ []) (group ∷ codes "sfed" ∷ []) shapes_18 []
unfolding read
shapes-18 element elements classes = refl

abbrev shapes_19 : List ℕ
shapes_19 = codes "<path class=\"sl\" d=\"M20 0v22\"/></g>\n<g id=\"write2\"><path d=\"M4 -2h32v38h-32z\"/>"

shapes-19 : Goes (group ∷ codes "sfed" ∷ []) (group ∷ codes "sfed" ∷ []) shapes_19 (codes "ls" ∷ [])
unfolding read
shapes-19 element elements classes = refl

abbrev shapes_20 : List ℕ
shapes_20 = codes "<path class=\"sl\" d=\"M12 0v22M20 0v22M28 0v22\"/></g>\n<g id=\"write3\"><path d=\"M4 -2h32v38h-32z\"/>"

shapes-20 : Goes (group ∷ codes "sfed" ∷ []) (group ∷ codes "sfed" ∷ []) shapes_20 (codes "ls" ∷ [])
unfolding read
shapes-20 element elements classes = refl

abbrev shapes_21 : List ℕ
shapes_21 = codes "<path class=\"sl\" d=\"M8 0v22M12 0v22M16 0v22M20 0v22M24 0v22M28 0v22M32 0v22\"/></g>\n<g id=\"read0\">"

shapes-21 : Goes (group ∷ codes "sfed" ∷ []) (group ∷ codes "sfed" ∷ []) shapes_21 (codes "ls" ∷ [])
unfolding read
shapes-21 element elements classes = refl

abbrev shapes_22 : List ℕ
shapes_22 = codes "<path d=\"M4 4h32v37h-32z\"/><path class=\"se\" d=\"M4 41h32\"/></g>\n<g id=\"read1\">"

shapes-22 : Goes (group ∷ codes "sfed" ∷ []) (group ∷ codes "sfed" ∷ []) shapes_22 (codes "es" ∷ [])
unfolding read
shapes-22 element elements classes = refl

abbrev shapes_23 : List ℕ
shapes_23 = codes "<path d=\"M4 4h32v37h-32z\"/><path class=\"sl\" d=\"M20 18v22\"/><path class=\"se\" d=\"M4 41h32\"/></g>\n"

shapes-23 : Goes (group ∷ codes "sfed" ∷ []) (codes "sfed" ∷ []) shapes_23 (codes "es" ∷ codes "ls" ∷ [])
unfolding read
shapes-23 element elements classes = refl

abbrev shapes_24 : List ℕ
shapes_24 = codes "<g id=\"read2\"><path d=\"M4 4h32v37h-32z\"/><path class=\"sl\" d=\"M12 18v22M20 18v22M28 18v22\"/>"

shapes-24 : Goes (codes "sfed" ∷ []) (group ∷ codes "sfed" ∷ []) shapes_24 (codes "ls" ∷ [])
unfolding read
shapes-24 element elements classes = refl

abbrev shapes_25 : List ℕ
shapes_25 = codes "<path class=\"se\" d=\"M4 41h32\"/></g>\n<g id=\"read3\"><path d=\"M4 4h32v37h-32z\"/>"

shapes-25 : Goes (group ∷ codes "sfed" ∷ []) (group ∷ codes "sfed" ∷ []) shapes_25 (codes "es" ∷ [])
unfolding read
shapes-25 element elements classes = refl

abbrev shapes_26 : List ℕ
shapes_26 = codes "<path class=\"sl\" d=\"M8 18v22M12 18v22M16 18v22M20 18v22M24 18v22M28 18v22M32 18v22\"/>"

shapes-26 : Goes (group ∷ codes "sfed" ∷ []) (group ∷ codes "sfed" ∷ []) shapes_26 (codes "ls" ∷ [])
unfolding read
shapes-26 element elements classes = refl

abbrev shapes_27 : List ℕ
shapes_27 = codes "<path class=\"se\" d=\"M4 41h32\"/></g>\n<path id=\"i\" class=\"ho\" d=\"M-8 -6h16l-8 12z\"/>\n<g id=\"j\">"

shapes-27 : Goes (group ∷ codes "sfed" ∷ []) (group ∷ codes "sfed" ∷ []) shapes_27 (codes "oh" ∷ codes "es" ∷ [])
unfolding read
shapes-27 element elements classes = refl

abbrev shapes_28 : List ℕ
shapes_28 = codes "<path class=\"ho\" d=\"M-8 -7h16l-8 12z\"/><path class=\"re\" d=\"M-8 5h16v4h-16z\"/></g>\n"

shapes-28 : Goes (group ∷ codes "sfed" ∷ []) (codes "sfed" ∷ []) shapes_28 (codes "er" ∷ codes "oh" ∷ [])
unfolding read
shapes-28 element elements classes = refl

abbrev shapes_29 : List ℕ
shapes_29 = codes "<path id=\"o\" d=\"M-8 6h16l-8 -12z\"/>\n<g id=\"p\"><path d=\"M-8 3h16l-8 -12z\"/>"

shapes-29 : Goes (codes "sfed" ∷ []) (group ∷ codes "sfed" ∷ []) shapes_29 []
unfolding read
shapes-29 element elements classes = refl

abbrev shapes_30 : List ℕ
shapes_30 = codes "<path class=\"re\" d=\"M-8 5h16v4h-16z\"/></g>\n<g id=\"b\"><path d=\"M-8 -1h16l-8 -8z\"/>"

shapes-30 : Goes (group ∷ codes "sfed" ∷ []) (group ∷ codes "sfed" ∷ []) shapes_30 (codes "er" ∷ [])
unfolding read
shapes-30 element elements classes = refl

abbrev shapes_31 : List ℕ
shapes_31 = codes "<path class=\"ho\" d=\"M-8 1h16l-8 8z\"/></g>\n<g id=\"q\"><path d=\"M-8 -3h16l-8 -6z\"/>"

shapes-31 : Goes (group ∷ codes "sfed" ∷ []) (group ∷ codes "sfed" ∷ []) shapes_31 (codes "oh" ∷ [])
unfolding read
shapes-31 element elements classes = refl

abbrev shapes_32 : List ℕ
shapes_32 = codes "<path class=\"ho\" d=\"M-8 -2h16l-8 6z\"/><path class=\"re\" d=\"M-8 5h16v4h-16z\"/></g>\n"

shapes-32 : Goes (group ∷ codes "sfed" ∷ []) (codes "sfed" ∷ []) shapes_32 (codes "er" ∷ codes "oh" ∷ [])
unfolding read
shapes-32 element elements classes = refl

abbrev shapes_33 : List ℕ
shapes_33 = codes "<path id=\"Q0\" d=\"M0 0h32v14h-32z\"/>\n<g id=\"Q1\"><path d=\"M0 0h32v14h-32z\"/>"

shapes-33 : Goes (codes "sfed" ∷ []) (group ∷ codes "sfed" ∷ []) shapes_33 []
unfolding read
shapes-33 element elements classes = refl

abbrev shapes_34 : List ℕ
shapes_34 = codes "<path class=\"sl\" d=\"M16 0v14\"/></g>\n<g id=\"Q2\"><path d=\"M0 0h32v14h-32z\"/>"

shapes-34 : Goes (group ∷ codes "sfed" ∷ []) (group ∷ codes "sfed" ∷ []) shapes_34 (codes "ls" ∷ [])
unfolding read
shapes-34 element elements classes = refl

abbrev shapes_35 : List ℕ
shapes_35 = codes "<path class=\"sl\" d=\"M8 0v14M16 0v14M24 0v14\"/></g>\n<g id=\"Q3\"><path d=\"M0 0h32v14h-32z\"/>"

shapes-35 : Goes (group ∷ codes "sfed" ∷ []) (group ∷ codes "sfed" ∷ []) shapes_35 (codes "ls" ∷ [])
unfolding read
shapes-35 element elements classes = refl

abbrev shapes_36 : List ℕ
shapes_36 = codes "<path class=\"sl\" d=\"M4 0v14M8 0v14M12 0v14M16 0v14M20 0v14M24 0v14M28 0v14\"/></g>\n"

shapes-36 : Goes (group ∷ codes "sfed" ∷ []) (codes "sfed" ∷ []) shapes_36 (codes "ls" ∷ [])
unfolding read
shapes-36 element elements classes = refl

abbrev shapes_37 : List ℕ
shapes_37 = codes "<circle id=\"C\" r=\"6\"/>\n<rect id=\"F\" x=\"-6\" y=\"-6\" width=\"12\" height=\"12\"/>\n"

shapes-37 : Goes (codes "sfed" ∷ []) (codes "sfed" ∷ []) shapes_37 []
unfolding read
shapes-37 element elements classes = refl

abbrev shapes_38 : List ℕ
shapes_38 = codes "<rect id=\"Y\" x=\"-1\" y=\"-1\" width=\"42\" height=\"42\" rx=\"3\"/>\n</defs>\n"

shapes-38 : Goes (codes "sfed" ∷ []) [] shapes_38 []
unfolding read
shapes-38 element elements classes = refl

-- the classes of these bytes
abbrev pub shapes_words : List (List ℕ)
shapes_words = codes "ls" ∷ codes "ls" ∷ codes "ls" ∷ codes "er" ∷ codes "oh" ∷ codes "oh" ∷ codes "er" ∷ codes "er" ∷ codes "oh" ∷ codes "oh" ∷ codes "es" ∷ codes "ls" ∷ codes "es" ∷ codes "ls" ∷ codes "es" ∷ codes "ls" ∷ codes "es" ∷ codes "ls" ∷ codes "ls" ∷ codes "ls" ∷ codes "bc" ∷ codes "hw" ∷ codes "hw" ∷ codes "x" ∷ codes "w" ∷ codes "x" ∷ codes "w" ∷ codes "x" ∷ codes "x" ∷ codes "w" ∷ codes "x" ∷ codes "x" ∷ codes "w" ∷ codes "x" ∷ codes "x" ∷ codes "w" ∷ codes "x" ∷ codes "x" ∷ codes "w" ∷ codes "x" ∷ codes "w" ∷ []

pub shapes-read : Goes [] [] SHAPES.now shapes_words
shapes-read =
    let t37 : List ℕ = shapes_37 ++ shapes_38 in
    let w37 : List (List ℕ) = [] ++ [] in
    let r37 : Goes (codes "sfed" ∷ []) [] t37 w37 = goes-append (codes "sfed" ∷ []) (codes "sfed" ∷ []) [] shapes_37 shapes_38 [] [] shapes-37 shapes-38 in
    let t36 : List ℕ = shapes_36 ++ t37 in
    let w36 : List (List ℕ) = w37 ++ (codes "ls" ∷ []) in
    let r36 : Goes (group ∷ codes "sfed" ∷ []) [] t36 w36 = goes-append (group ∷ codes "sfed" ∷ []) (codes "sfed" ∷ []) [] shapes_36 t37 (codes "ls" ∷ []) w37 shapes-36 r37 in
    let t35 : List ℕ = shapes_35 ++ t36 in
    let w35 : List (List ℕ) = w36 ++ (codes "ls" ∷ []) in
    let r35 : Goes (group ∷ codes "sfed" ∷ []) [] t35 w35 = goes-append (group ∷ codes "sfed" ∷ []) (group ∷ codes "sfed" ∷ []) [] shapes_35 t36 (codes "ls" ∷ []) w36 shapes-35 r36 in
    let t34 : List ℕ = shapes_34 ++ t35 in
    let w34 : List (List ℕ) = w35 ++ (codes "ls" ∷ []) in
    let r34 : Goes (group ∷ codes "sfed" ∷ []) [] t34 w34 = goes-append (group ∷ codes "sfed" ∷ []) (group ∷ codes "sfed" ∷ []) [] shapes_34 t35 (codes "ls" ∷ []) w35 shapes-34 r35 in
    let t33 : List ℕ = shapes_33 ++ t34 in
    let w33 : List (List ℕ) = w34 ++ [] in
    let r33 : Goes (codes "sfed" ∷ []) [] t33 w33 = goes-append (codes "sfed" ∷ []) (group ∷ codes "sfed" ∷ []) [] shapes_33 t34 [] w34 shapes-33 r34 in
    let t32 : List ℕ = shapes_32 ++ t33 in
    let w32 : List (List ℕ) = w33 ++ (codes "er" ∷ codes "oh" ∷ []) in
    let r32 : Goes (group ∷ codes "sfed" ∷ []) [] t32 w32 = goes-append (group ∷ codes "sfed" ∷ []) (codes "sfed" ∷ []) [] shapes_32 t33 (codes "er" ∷ codes "oh" ∷ []) w33 shapes-32 r33 in
    let t31 : List ℕ = shapes_31 ++ t32 in
    let w31 : List (List ℕ) = w32 ++ (codes "oh" ∷ []) in
    let r31 : Goes (group ∷ codes "sfed" ∷ []) [] t31 w31 = goes-append (group ∷ codes "sfed" ∷ []) (group ∷ codes "sfed" ∷ []) [] shapes_31 t32 (codes "oh" ∷ []) w32 shapes-31 r32 in
    let t30 : List ℕ = shapes_30 ++ t31 in
    let w30 : List (List ℕ) = w31 ++ (codes "er" ∷ []) in
    let r30 : Goes (group ∷ codes "sfed" ∷ []) [] t30 w30 = goes-append (group ∷ codes "sfed" ∷ []) (group ∷ codes "sfed" ∷ []) [] shapes_30 t31 (codes "er" ∷ []) w31 shapes-30 r31 in
    let t29 : List ℕ = shapes_29 ++ t30 in
    let w29 : List (List ℕ) = w30 ++ [] in
    let r29 : Goes (codes "sfed" ∷ []) [] t29 w29 = goes-append (codes "sfed" ∷ []) (group ∷ codes "sfed" ∷ []) [] shapes_29 t30 [] w30 shapes-29 r30 in
    let t28 : List ℕ = shapes_28 ++ t29 in
    let w28 : List (List ℕ) = w29 ++ (codes "er" ∷ codes "oh" ∷ []) in
    let r28 : Goes (group ∷ codes "sfed" ∷ []) [] t28 w28 = goes-append (group ∷ codes "sfed" ∷ []) (codes "sfed" ∷ []) [] shapes_28 t29 (codes "er" ∷ codes "oh" ∷ []) w29 shapes-28 r29 in
    let t27 : List ℕ = shapes_27 ++ t28 in
    let w27 : List (List ℕ) = w28 ++ (codes "oh" ∷ codes "es" ∷ []) in
    let r27 : Goes (group ∷ codes "sfed" ∷ []) [] t27 w27 = goes-append (group ∷ codes "sfed" ∷ []) (group ∷ codes "sfed" ∷ []) [] shapes_27 t28 (codes "oh" ∷ codes "es" ∷ []) w28 shapes-27 r28 in
    let t26 : List ℕ = shapes_26 ++ t27 in
    let w26 : List (List ℕ) = w27 ++ (codes "ls" ∷ []) in
    let r26 : Goes (group ∷ codes "sfed" ∷ []) [] t26 w26 = goes-append (group ∷ codes "sfed" ∷ []) (group ∷ codes "sfed" ∷ []) [] shapes_26 t27 (codes "ls" ∷ []) w27 shapes-26 r27 in
    let t25 : List ℕ = shapes_25 ++ t26 in
    let w25 : List (List ℕ) = w26 ++ (codes "es" ∷ []) in
    let r25 : Goes (group ∷ codes "sfed" ∷ []) [] t25 w25 = goes-append (group ∷ codes "sfed" ∷ []) (group ∷ codes "sfed" ∷ []) [] shapes_25 t26 (codes "es" ∷ []) w26 shapes-25 r26 in
    let t24 : List ℕ = shapes_24 ++ t25 in
    let w24 : List (List ℕ) = w25 ++ (codes "ls" ∷ []) in
    let r24 : Goes (codes "sfed" ∷ []) [] t24 w24 = goes-append (codes "sfed" ∷ []) (group ∷ codes "sfed" ∷ []) [] shapes_24 t25 (codes "ls" ∷ []) w25 shapes-24 r25 in
    let t23 : List ℕ = shapes_23 ++ t24 in
    let w23 : List (List ℕ) = w24 ++ (codes "es" ∷ codes "ls" ∷ []) in
    let r23 : Goes (group ∷ codes "sfed" ∷ []) [] t23 w23 = goes-append (group ∷ codes "sfed" ∷ []) (codes "sfed" ∷ []) [] shapes_23 t24 (codes "es" ∷ codes "ls" ∷ []) w24 shapes-23 r24 in
    let t22 : List ℕ = shapes_22 ++ t23 in
    let w22 : List (List ℕ) = w23 ++ (codes "es" ∷ []) in
    let r22 : Goes (group ∷ codes "sfed" ∷ []) [] t22 w22 = goes-append (group ∷ codes "sfed" ∷ []) (group ∷ codes "sfed" ∷ []) [] shapes_22 t23 (codes "es" ∷ []) w23 shapes-22 r23 in
    let t21 : List ℕ = shapes_21 ++ t22 in
    let w21 : List (List ℕ) = w22 ++ (codes "ls" ∷ []) in
    let r21 : Goes (group ∷ codes "sfed" ∷ []) [] t21 w21 = goes-append (group ∷ codes "sfed" ∷ []) (group ∷ codes "sfed" ∷ []) [] shapes_21 t22 (codes "ls" ∷ []) w22 shapes-21 r22 in
    let t20 : List ℕ = shapes_20 ++ t21 in
    let w20 : List (List ℕ) = w21 ++ (codes "ls" ∷ []) in
    let r20 : Goes (group ∷ codes "sfed" ∷ []) [] t20 w20 = goes-append (group ∷ codes "sfed" ∷ []) (group ∷ codes "sfed" ∷ []) [] shapes_20 t21 (codes "ls" ∷ []) w21 shapes-20 r21 in
    let t19 : List ℕ = shapes_19 ++ t20 in
    let w19 : List (List ℕ) = w20 ++ (codes "ls" ∷ []) in
    let r19 : Goes (group ∷ codes "sfed" ∷ []) [] t19 w19 = goes-append (group ∷ codes "sfed" ∷ []) (group ∷ codes "sfed" ∷ []) [] shapes_19 t20 (codes "ls" ∷ []) w20 shapes-19 r20 in
    let t18 : List ℕ = shapes_18 ++ t19 in
    let w18 : List (List ℕ) = w19 ++ [] in
    let r18 : Goes (codes "sfed" ∷ []) [] t18 w18 = goes-append (codes "sfed" ∷ []) (group ∷ codes "sfed" ∷ []) [] shapes_18 t19 [] w19 shapes-18 r19 in
    let t17 : List ℕ = shapes_17 ++ t18 in
    let w17 : List (List ℕ) = w18 ++ (codes "bc" ∷ codes "hw" ∷ []) in
    let r17 : Goes (group ∷ codes "sfed" ∷ []) [] t17 w17 = goes-append (group ∷ codes "sfed" ∷ []) (codes "sfed" ∷ []) [] shapes_17 t18 (codes "bc" ∷ codes "hw" ∷ []) w18 shapes-17 r18 in
    let t16 : List ℕ = shapes_16 ++ t17 in
    let w16 : List (List ℕ) = w17 ++ [] in
    let r16 : Goes (codes "sfed" ∷ []) [] t16 w16 = goes-append (codes "sfed" ∷ []) (group ∷ codes "sfed" ∷ []) [] shapes_16 t17 [] w17 shapes-16 r17 in
    let t15 : List ℕ = shapes_15 ++ t16 in
    let w15 : List (List ℕ) = w16 ++ (codes "hw" ∷ []) in
    let r15 : Goes (group ∷ codes "sfed" ∷ []) [] t15 w15 = goes-append (group ∷ codes "sfed" ∷ []) (codes "sfed" ∷ []) [] shapes_15 t16 (codes "hw" ∷ []) w16 shapes-15 r16 in
    let t14 : List ℕ = shapes_14 ++ t15 in
    let w14 : List (List ℕ) = w15 ++ (codes "x" ∷ []) in
    let r14 : Goes (group ∷ codes "sfed" ∷ []) [] t14 w14 = goes-append (group ∷ codes "sfed" ∷ []) (group ∷ codes "sfed" ∷ []) [] shapes_14 t15 (codes "x" ∷ []) w15 shapes-14 r15 in
    let t13 : List ℕ = shapes_13 ++ t14 in
    let w13 : List (List ℕ) = w14 ++ (codes "w" ∷ []) in
    let r13 : Goes (group ∷ codes "sfed" ∷ []) [] t13 w13 = goes-append (group ∷ codes "sfed" ∷ []) (group ∷ codes "sfed" ∷ []) [] shapes_13 t14 (codes "w" ∷ []) w14 shapes-13 r14 in
    let t12 : List ℕ = shapes_12 ++ t13 in
    let w12 : List (List ℕ) = w13 ++ (codes "x" ∷ []) in
    let r12 : Goes (group ∷ codes "sfed" ∷ []) [] t12 w12 = goes-append (group ∷ codes "sfed" ∷ []) (group ∷ codes "sfed" ∷ []) [] shapes_12 t13 (codes "x" ∷ []) w13 shapes-12 r13 in
    let t11 : List ℕ = shapes_11 ++ t12 in
    let w11 : List (List ℕ) = w12 ++ (codes "w" ∷ []) in
    let r11 : Goes (group ∷ codes "sfed" ∷ []) [] t11 w11 = goes-append (group ∷ codes "sfed" ∷ []) (group ∷ codes "sfed" ∷ []) [] shapes_11 t12 (codes "w" ∷ []) w12 shapes-11 r12 in
    let t10 : List ℕ = shapes_10 ++ t11 in
    let w10 : List (List ℕ) = w11 ++ (codes "x" ∷ []) in
    let r10 : Goes (group ∷ codes "sfed" ∷ []) [] t10 w10 = goes-append (group ∷ codes "sfed" ∷ []) (group ∷ codes "sfed" ∷ []) [] shapes_10 t11 (codes "x" ∷ []) w11 shapes-10 r11 in
    let t9 : List ℕ = shapes_9 ++ t10 in
    let w9 : List (List ℕ) = w10 ++ (codes "x" ∷ codes "w" ∷ []) in
    let r9 : Goes (group ∷ codes "sfed" ∷ []) [] t9 w9 = goes-append (group ∷ codes "sfed" ∷ []) (group ∷ codes "sfed" ∷ []) [] shapes_9 t10 (codes "x" ∷ codes "w" ∷ []) w10 shapes-9 r10 in
    let t8 : List ℕ = shapes_8 ++ t9 in
    let w8 : List (List ℕ) = w9 ++ (codes "x" ∷ []) in
    let r8 : Goes (group ∷ codes "sfed" ∷ []) [] t8 w8 = goes-append (group ∷ codes "sfed" ∷ []) (group ∷ codes "sfed" ∷ []) [] shapes_8 t9 (codes "x" ∷ []) w9 shapes-8 r9 in
    let t7 : List ℕ = shapes_7 ++ t8 in
    let w7 : List (List ℕ) = w8 ++ (codes "x" ∷ codes "w" ∷ []) in
    let r7 : Goes (group ∷ codes "sfed" ∷ []) [] t7 w7 = goes-append (group ∷ codes "sfed" ∷ []) (group ∷ codes "sfed" ∷ []) [] shapes_7 t8 (codes "x" ∷ codes "w" ∷ []) w8 shapes-7 r8 in
    let t6 : List ℕ = shapes_6 ++ t7 in
    let w6 : List (List ℕ) = w7 ++ (codes "x" ∷ []) in
    let r6 : Goes (group ∷ codes "sfed" ∷ []) [] t6 w6 = goes-append (group ∷ codes "sfed" ∷ []) (group ∷ codes "sfed" ∷ []) [] shapes_6 t7 (codes "x" ∷ []) w7 shapes-6 r7 in
    let t5 : List ℕ = shapes_5 ++ t6 in
    let w5 : List (List ℕ) = w6 ++ (codes "x" ∷ codes "w" ∷ []) in
    let r5 : Goes (group ∷ codes "sfed" ∷ []) [] t5 w5 = goes-append (group ∷ codes "sfed" ∷ []) (group ∷ codes "sfed" ∷ []) [] shapes_5 t6 (codes "x" ∷ codes "w" ∷ []) w6 shapes-5 r6 in
    let t4 : List ℕ = shapes_4 ++ t5 in
    let w4 : List (List ℕ) = w5 ++ (codes "x" ∷ codes "x" ∷ []) in
    let r4 : Goes (group ∷ codes "sfed" ∷ []) [] t4 w4 = goes-append (group ∷ codes "sfed" ∷ []) (group ∷ codes "sfed" ∷ []) [] shapes_4 t5 (codes "x" ∷ codes "x" ∷ []) w5 shapes-4 r5 in
    let t3 : List ℕ = shapes_3 ++ t4 in
    let w3 : List (List ℕ) = w4 ++ (codes "w" ∷ []) in
    let r3 : Goes (group ∷ codes "sfed" ∷ []) [] t3 w3 = goes-append (group ∷ codes "sfed" ∷ []) (group ∷ codes "sfed" ∷ []) [] shapes_3 t4 (codes "w" ∷ []) w4 shapes-3 r4 in
    let t2 : List ℕ = shapes_2 ++ t3 in
    let w2 : List (List ℕ) = w3 ++ (codes "x" ∷ []) in
    let r2 : Goes (group ∷ codes "sfed" ∷ []) [] t2 w2 = goes-append (group ∷ codes "sfed" ∷ []) (group ∷ codes "sfed" ∷ []) [] shapes_2 t3 (codes "x" ∷ []) w3 shapes-2 r3 in
    let t1 : List ℕ = shapes_1 ++ t2 in
    let w1 : List (List ℕ) = w2 ++ (codes "w" ∷ []) in
    let r1 : Goes [] [] t1 w1 = goes-append [] (group ∷ codes "sfed" ∷ []) [] shapes_1 t2 (codes "w" ∷ []) w2 shapes-1 r2 in
    r1
