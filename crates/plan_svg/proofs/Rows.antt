-- How a reader goes through the texts of the legend. The parts are cut into pieces, since a long one takes long to
-- compute.
use Rattle.std.proofs.Common.{ℕ, List, [], ◌∷◌, ◌++◌, refl}
use Rattle.std.specs.Prelude.{codes}
use Rattle.plan_svg.specs.declared.literals.TheConstants.{LINK_ROWS}
use Rattle.plan_svg.specs.Reader.{read}
use Rattle.plan_svg.proofs.Drawn.{group, words}
use Rattle.plan_svg.proofs.Reading.{Goes, goes-append}

abbrev links_1 : List ℕ
links_1 = codes "</text>\n<text class=\"t\" y=\"556\">Links that are on in a tile</text>\n"

links-1 : Goes (words ∷ group ∷ []) (group ∷ []) links_1 (codes "t" ∷ [])
unfolding read
links-1 element elements classes = refl

abbrev links_2 : List ℕ
links_2 = codes "<rect class=\"k0 w\" x=\"0\" y=\"568\" width=\"38\" height=\"18\"/><text class=\"a\" x=\"19\" y=\"600\">0</text>\n"

links-2 : Goes (group ∷ []) (group ∷ []) links_2 (codes "a" ∷ codes "w 0k" ∷ [])
unfolding read
links-2 element elements classes = refl

abbrev links_3 : List ℕ
links_3 = codes "<rect class=\"k1 w\" x=\"40\" y=\"568\" width=\"38\" height=\"18\"/><text class=\"a\" x=\"59\" y=\"600\">1+</text>\n"

links-3 : Goes (group ∷ []) (group ∷ []) links_3 (codes "a" ∷ codes "w 1k" ∷ [])
unfolding read
links-3 element elements classes = refl

abbrev links_4 : List ℕ
links_4 = codes "<rect class=\"k2 w\" x=\"80\" y=\"568\" width=\"38\" height=\"18\"/><text class=\"a\" x=\"99\" y=\"600\">10+</text>\n"

links-4 : Goes (group ∷ []) (group ∷ []) links_4 (codes "a" ∷ codes "w 2k" ∷ [])
unfolding read
links-4 element elements classes = refl

abbrev links_5 : List ℕ
links_5 = codes "<rect class=\"k3 w\" x=\"120\" y=\"568\" width=\"38\" height=\"18\"/><text class=\"a\" x=\"139\" y=\"600\">20+"

links-5 : Goes (group ∷ []) (words ∷ group ∷ []) links_5 (codes "a" ∷ codes "w 3k" ∷ [])
unfolding read
links-5 element elements classes = refl

abbrev links_6 : List ℕ
links_6 = codes "</text>\n<rect class=\"k4 w\" x=\"160\" y=\"568\" width=\"38\" height=\"18\"/><text class=\"a\" x=\"179\" y=\"600\">3"

links-6 : Goes (words ∷ group ∷ []) (words ∷ group ∷ []) links_6 (codes "a" ∷ codes "w 4k" ∷ [])
unfolding read
links-6 element elements classes = refl

abbrev links_7 : List ℕ
links_7 = codes "0+</text>\n<rect class=\"k5 w\" x=\"200\" y=\"568\" width=\"38\" height=\"18\"/>"

links-7 : Goes (words ∷ group ∷ []) (group ∷ []) links_7 (codes "w 5k" ∷ [])
unfolding read
links-7 element elements classes = refl

abbrev links_8 : List ℕ
links_8 = codes "<text class=\"a\" x=\"219\" y=\"600\">40+</text>\n"

links-8 : Goes (group ∷ []) (group ∷ []) links_8 (codes "a" ∷ [])
unfolding read
links-8 element elements classes = refl

abbrev links_9 : List ℕ
links_9 = codes "<rect class=\"k6 w\" x=\"240\" y=\"568\" width=\"38\" height=\"18\"/><text class=\"a\" x=\"259\" y=\"600\">50+"

links-9 : Goes (group ∷ []) (words ∷ group ∷ []) links_9 (codes "a" ∷ codes "w 6k" ∷ [])
unfolding read
links-9 element elements classes = refl

abbrev links_10 : List ℕ
links_10 = codes "</text>\n<text class=\"t\" y=\"630\">Global nets and their sources</text>\n"

links-10 : Goes (words ∷ group ∷ []) (group ∷ []) links_10 (codes "t" ∷ [])
unfolding read
links-10 element elements classes = refl

-- the classes of these bytes
abbrev pub links_words : List (List ℕ)
links_words = codes "t" ∷ codes "a" ∷ codes "w 6k" ∷ codes "a" ∷ codes "w 5k" ∷ codes "a" ∷ codes "w 4k" ∷ codes "a" ∷ codes "w 3k" ∷ codes "a" ∷ codes "w 2k" ∷ codes "a" ∷ codes "w 1k" ∷ codes "a" ∷ codes "w 0k" ∷ codes "t" ∷ []

pub links-read : Goes (words ∷ group ∷ []) (group ∷ []) LINK_ROWS.now links_words
links-read =
    let t9 : List ℕ = links_9 ++ links_10 in
    let w9 : List (List ℕ) = (codes "t" ∷ []) ++ (codes "a" ∷ codes "w 6k" ∷ []) in
    let r9 : Goes (group ∷ []) (group ∷ []) t9 w9 = goes-append (group ∷ []) (words ∷ group ∷ []) (group ∷ []) links_9 links_10 (codes "a" ∷ codes "w 6k" ∷ []) (codes "t" ∷ []) links-9 links-10 in
    let t8 : List ℕ = links_8 ++ t9 in
    let w8 : List (List ℕ) = w9 ++ (codes "a" ∷ []) in
    let r8 : Goes (group ∷ []) (group ∷ []) t8 w8 = goes-append (group ∷ []) (group ∷ []) (group ∷ []) links_8 t9 (codes "a" ∷ []) w9 links-8 r9 in
    let t7 : List ℕ = links_7 ++ t8 in
    let w7 : List (List ℕ) = w8 ++ (codes "w 5k" ∷ []) in
    let r7 : Goes (words ∷ group ∷ []) (group ∷ []) t7 w7 = goes-append (words ∷ group ∷ []) (group ∷ []) (group ∷ []) links_7 t8 (codes "w 5k" ∷ []) w8 links-7 r8 in
    let t6 : List ℕ = links_6 ++ t7 in
    let w6 : List (List ℕ) = w7 ++ (codes "a" ∷ codes "w 4k" ∷ []) in
    let r6 : Goes (words ∷ group ∷ []) (group ∷ []) t6 w6 = goes-append (words ∷ group ∷ []) (words ∷ group ∷ []) (group ∷ []) links_6 t7 (codes "a" ∷ codes "w 4k" ∷ []) w7 links-6 r7 in
    let t5 : List ℕ = links_5 ++ t6 in
    let w5 : List (List ℕ) = w6 ++ (codes "a" ∷ codes "w 3k" ∷ []) in
    let r5 : Goes (group ∷ []) (group ∷ []) t5 w5 = goes-append (group ∷ []) (words ∷ group ∷ []) (group ∷ []) links_5 t6 (codes "a" ∷ codes "w 3k" ∷ []) w6 links-5 r6 in
    let t4 : List ℕ = links_4 ++ t5 in
    let w4 : List (List ℕ) = w5 ++ (codes "a" ∷ codes "w 2k" ∷ []) in
    let r4 : Goes (group ∷ []) (group ∷ []) t4 w4 = goes-append (group ∷ []) (group ∷ []) (group ∷ []) links_4 t5 (codes "a" ∷ codes "w 2k" ∷ []) w5 links-4 r5 in
    let t3 : List ℕ = links_3 ++ t4 in
    let w3 : List (List ℕ) = w4 ++ (codes "a" ∷ codes "w 1k" ∷ []) in
    let r3 : Goes (group ∷ []) (group ∷ []) t3 w3 = goes-append (group ∷ []) (group ∷ []) (group ∷ []) links_3 t4 (codes "a" ∷ codes "w 1k" ∷ []) w4 links-3 r4 in
    let t2 : List ℕ = links_2 ++ t3 in
    let w2 : List (List ℕ) = w3 ++ (codes "a" ∷ codes "w 0k" ∷ []) in
    let r2 : Goes (group ∷ []) (group ∷ []) t2 w2 = goes-append (group ∷ []) (group ∷ []) (group ∷ []) links_2 t3 (codes "a" ∷ codes "w 0k" ∷ []) w3 links-2 r3 in
    let t1 : List ℕ = links_1 ++ t2 in
    let w1 : List (List ℕ) = w2 ++ (codes "t" ∷ []) in
    let r1 : Goes (words ∷ group ∷ []) (group ∷ []) t1 w1 = goes-append (words ∷ group ∷ []) (group ∷ []) (group ∷ []) links_1 t2 (codes "t" ∷ []) w2 links-1 r2 in
    r1

abbrev cell0_1 : List ℕ
cell0_1 = codes "<text class=\"t\" y=\"84\">Logic cells</text>\n<path class=\"wh w\" d=\"M0 96h32v14h-32z\"/>"

cell0-1 : Goes (group ∷ []) (group ∷ []) cell0_1 (codes "w hw" ∷ codes "t" ∷ [])
unfolding read
cell0-1 element elements classes = refl

abbrev cell0_2 : List ℕ
cell0_2 = codes "<text class=\"k\" x=\"48\" y=\"108\">unused</text><text class=\"v\" x=\"284\" y=\"108\">"

cell0-2 : Goes (group ∷ []) (words ∷ group ∷ []) cell0_2 (codes "v" ∷ codes "k" ∷ [])
unfolding read
cell0-2 element elements classes = refl

abbrev pub cell0_text : List ℕ
cell0_text = codes "<text class=\"t\" y=\"84\">Logic cells</text>\n<path class=\"wh w\" d=\"M0 96h32v14h-32z\"/><text class=\"k\" x=\"48\" y=\"108\">unused</text><text class=\"v\" x=\"284\" y=\"108\">"

-- the classes of these bytes
abbrev pub cell0_words : List (List ℕ)
cell0_words = codes "v" ∷ codes "k" ∷ codes "w hw" ∷ codes "t" ∷ []

pub cell0-read : Goes (group ∷ []) (words ∷ group ∷ []) cell0_text cell0_words
cell0-read =
    let t1 : List ℕ = cell0_1 ++ cell0_2 in
    let w1 : List (List ℕ) = (codes "v" ∷ codes "k" ∷ []) ++ (codes "w hw" ∷ codes "t" ∷ []) in
    let r1 : Goes (group ∷ []) (words ∷ group ∷ []) t1 w1 = goes-append (group ∷ []) (group ∷ []) (words ∷ group ∷ []) cell0_1 cell0_2 (codes "w hw" ∷ codes "t" ∷ []) (codes "v" ∷ codes "k" ∷ []) cell0-1 cell0-2 in
    r1

abbrev cell1_1 : List ℕ
cell1_1 = codes "</text>\n<use class=\"kl\" xlink:href=\"#l\" transform=\"translate(0 116) scale(2)\"/>"

cell1-1 : Goes (words ∷ group ∷ []) (group ∷ []) cell1_1 (codes "lk" ∷ [])
unfolding read
cell1-1 element elements classes = refl

abbrev cell1_2 : List ℕ
cell1_2 = codes "<text class=\"k\" x=\"48\" y=\"128\">LUT</text><text class=\"v\" x=\"284\" y=\"128\">"

cell1-2 : Goes (group ∷ []) (words ∷ group ∷ []) cell1_2 (codes "v" ∷ codes "k" ∷ [])
unfolding read
cell1-2 element elements classes = refl

abbrev pub cell1_text : List ℕ
cell1_text = codes "</text>\n<use class=\"kl\" xlink:href=\"#l\" transform=\"translate(0 116) scale(2)\"/><text class=\"k\" x=\"48\" y=\"128\">LUT</text><text class=\"v\" x=\"284\" y=\"128\">"

-- the classes of these bytes
abbrev pub cell1_words : List (List ℕ)
cell1_words = codes "v" ∷ codes "k" ∷ codes "lk" ∷ []

pub cell1-read : Goes (words ∷ group ∷ []) (words ∷ group ∷ []) cell1_text cell1_words
cell1-read =
    let t1 : List ℕ = cell1_1 ++ cell1_2 in
    let w1 : List (List ℕ) = (codes "v" ∷ codes "k" ∷ []) ++ (codes "lk" ∷ []) in
    let r1 : Goes (words ∷ group ∷ []) (words ∷ group ∷ []) t1 w1 = goes-append (words ∷ group ∷ []) (group ∷ []) (words ∷ group ∷ []) cell1_1 cell1_2 (codes "lk" ∷ []) (codes "v" ∷ codes "k" ∷ []) cell1-1 cell1-2 in
    r1

abbrev cell2_1 : List ℕ
cell2_1 = codes "</text>\n<use class=\"kf\" xlink:href=\"#f\" transform=\"translate(0 136) scale(2)\"/>"

cell2-1 : Goes (words ∷ group ∷ []) (group ∷ []) cell2_1 (codes "fk" ∷ [])
unfolding read
cell2-1 element elements classes = refl

abbrev cell2_2 : List ℕ
cell2_2 = codes "<text class=\"k\" x=\"48\" y=\"148\">LUT with flip-flop</text><text class=\"v\" x=\"284\" y=\"148\">"

cell2-2 : Goes (group ∷ []) (words ∷ group ∷ []) cell2_2 (codes "v" ∷ codes "k" ∷ [])
unfolding read
cell2-2 element elements classes = refl

abbrev pub cell2_text : List ℕ
cell2_text = codes "</text>\n<use class=\"kf\" xlink:href=\"#f\" transform=\"translate(0 136) scale(2)\"/><text class=\"k\" x=\"48\" y=\"148\">LUT with flip-flop</text><text class=\"v\" x=\"284\" y=\"148\">"

-- the classes of these bytes
abbrev pub cell2_words : List (List ℕ)
cell2_words = codes "v" ∷ codes "k" ∷ codes "fk" ∷ []

pub cell2-read : Goes (words ∷ group ∷ []) (words ∷ group ∷ []) cell2_text cell2_words
cell2-read =
    let t1 : List ℕ = cell2_1 ++ cell2_2 in
    let w1 : List (List ℕ) = (codes "v" ∷ codes "k" ∷ []) ++ (codes "fk" ∷ []) in
    let r1 : Goes (words ∷ group ∷ []) (words ∷ group ∷ []) t1 w1 = goes-append (words ∷ group ∷ []) (group ∷ []) (words ∷ group ∷ []) cell2_1 cell2_2 (codes "fk" ∷ []) (codes "v" ∷ codes "k" ∷ []) cell2-1 cell2-2 in
    r1

abbrev cell3_1 : List ℕ
cell3_1 = codes "</text>\n<use class=\"kc\" xlink:href=\"#c\" transform=\"translate(0 156) scale(2)\"/>"

cell3-1 : Goes (words ∷ group ∷ []) (group ∷ []) cell3_1 (codes "ck" ∷ [])
unfolding read
cell3-1 element elements classes = refl

abbrev cell3_2 : List ℕ
cell3_2 = codes "<text class=\"k\" x=\"48\" y=\"168\">carry</text><text class=\"v\" x=\"284\" y=\"168\">"

cell3-2 : Goes (group ∷ []) (words ∷ group ∷ []) cell3_2 (codes "v" ∷ codes "k" ∷ [])
unfolding read
cell3-2 element elements classes = refl

abbrev pub cell3_text : List ℕ
cell3_text = codes "</text>\n<use class=\"kc\" xlink:href=\"#c\" transform=\"translate(0 156) scale(2)\"/><text class=\"k\" x=\"48\" y=\"168\">carry</text><text class=\"v\" x=\"284\" y=\"168\">"

-- the classes of these bytes
abbrev pub cell3_words : List (List ℕ)
cell3_words = codes "v" ∷ codes "k" ∷ codes "ck" ∷ []

pub cell3-read : Goes (words ∷ group ∷ []) (words ∷ group ∷ []) cell3_text cell3_words
cell3-read =
    let t1 : List ℕ = cell3_1 ++ cell3_2 in
    let w1 : List (List ℕ) = (codes "v" ∷ codes "k" ∷ []) ++ (codes "ck" ∷ []) in
    let r1 : Goes (words ∷ group ∷ []) (words ∷ group ∷ []) t1 w1 = goes-append (words ∷ group ∷ []) (group ∷ []) (words ∷ group ∷ []) cell3_1 cell3_2 (codes "ck" ∷ []) (codes "v" ∷ codes "k" ∷ []) cell3-1 cell3-2 in
    r1

abbrev cell4_1 : List ℕ
cell4_1 = codes "</text>\n<use class=\"kd\" xlink:href=\"#d\" transform=\"translate(0 176) scale(2)\"/>"

cell4-1 : Goes (words ∷ group ∷ []) (group ∷ []) cell4_1 (codes "dk" ∷ [])
unfolding read
cell4-1 element elements classes = refl

abbrev cell4_2 : List ℕ
cell4_2 = codes "<text class=\"k\" x=\"48\" y=\"188\">carry with flip-flop</text><text class=\"v\" x=\"284\" y=\"188\">"

cell4-2 : Goes (group ∷ []) (words ∷ group ∷ []) cell4_2 (codes "v" ∷ codes "k" ∷ [])
unfolding read
cell4-2 element elements classes = refl

abbrev pub cell4_text : List ℕ
cell4_text = codes "</text>\n<use class=\"kd\" xlink:href=\"#d\" transform=\"translate(0 176) scale(2)\"/><text class=\"k\" x=\"48\" y=\"188\">carry with flip-flop</text><text class=\"v\" x=\"284\" y=\"188\">"

-- the classes of these bytes
abbrev pub cell4_words : List (List ℕ)
cell4_words = codes "v" ∷ codes "k" ∷ codes "dk" ∷ []

pub cell4-read : Goes (words ∷ group ∷ []) (words ∷ group ∷ []) cell4_text cell4_words
cell4-read =
    let t1 : List ℕ = cell4_1 ++ cell4_2 in
    let w1 : List (List ℕ) = (codes "v" ∷ codes "k" ∷ []) ++ (codes "dk" ∷ []) in
    let r1 : Goes (words ∷ group ∷ []) (words ∷ group ∷ []) t1 w1 = goes-append (words ∷ group ∷ []) (group ∷ []) (words ∷ group ∷ []) cell4_1 cell4_2 (codes "dk" ∷ []) (codes "v" ∷ codes "k" ∷ []) cell4-1 cell4-2 in
    r1

abbrev ram0_1 : List ℕ
ram0_1 = codes "</text>\n<use class=\"k0\" xlink:href=\"#L\" y=\"198\"/><text class=\"ci\" x=\"11\" y=\"234\">0</text>"

ram0-1 : Goes (words ∷ group ∷ []) (group ∷ []) ram0_1 (codes "ic" ∷ codes "0k" ∷ [])
unfolding read
ram0-1 element elements classes = refl

abbrev ram0_2 : List ℕ
ram0_2 = codes "<text class=\"ci\" x=\"29\" y=\"234\">1</text><text class=\"ci\" x=\"11\" y=\"225\">2</text>"

ram0-2 : Goes (group ∷ []) (group ∷ []) ram0_2 (codes "ic" ∷ codes "ic" ∷ [])
unfolding read
ram0-2 element elements classes = refl

abbrev ram0_3 : List ℕ
ram0_3 = codes "<text class=\"ci\" x=\"29\" y=\"225\">3</text><text class=\"ci\" x=\"11\" y=\"216\">4</text>"

ram0-3 : Goes (group ∷ []) (group ∷ []) ram0_3 (codes "ic" ∷ codes "ic" ∷ [])
unfolding read
ram0-3 element elements classes = refl

abbrev ram0_4 : List ℕ
ram0_4 = codes "<text class=\"ci\" x=\"29\" y=\"216\">5</text><text class=\"ci\" x=\"11\" y=\"207\">6</text>"

ram0-4 : Goes (group ∷ []) (group ∷ []) ram0_4 (codes "ic" ∷ codes "ic" ∷ [])
unfolding read
ram0-4 element elements classes = refl

abbrev ram0_5 : List ℕ
ram0_5 = codes "<text class=\"ci\" x=\"29\" y=\"207\">7</text><text class=\"k\" x=\"48\" y=\"223\">cells 0 to 7 of a tile</text>"

ram0-5 : Goes (group ∷ []) (group ∷ []) ram0_5 (codes "k" ∷ codes "ic" ∷ [])
unfolding read
ram0-5 element elements classes = refl

abbrev ram0_6 : List ℕ
ram0_6 = codes "\n<text class=\"t\" y=\"264\">Block RAMs</text>\n<path class=\"wh w\" d=\"M0 276h32v14h-32z\"/>"

ram0-6 : Goes (group ∷ []) (group ∷ []) ram0_6 (codes "w hw" ∷ codes "t" ∷ [])
unfolding read
ram0-6 element elements classes = refl

abbrev ram0_7 : List ℕ
ram0_7 = codes "<text class=\"k\" x=\"48\" y=\"288\">unused</text><text class=\"v\" x=\"284\" y=\"288\">"

ram0-7 : Goes (group ∷ []) (words ∷ group ∷ []) ram0_7 (codes "v" ∷ codes "k" ∷ [])
unfolding read
ram0-7 element elements classes = refl

abbrev pub ram0_text : List ℕ
ram0_text = codes "</text>\n<use class=\"k0\" xlink:href=\"#L\" y=\"198\"/><text class=\"ci\" x=\"11\" y=\"234\">0</text><text class=\"ci\" x=\"29\" y=\"234\">1</text><text class=\"ci\" x=\"11\" y=\"225\">2</text><text class=\"ci\" x=\"29\" y=\"225\">3</text><text class=\"ci\" x=\"11\" y=\"216\">4</text><text class=\"ci\" x=\"29\" y=\"216\">5</text><text class=\"ci\" x=\"11\" y=\"207\">6</text><text class=\"ci\" x=\"29\" y=\"207\">7</text><text class=\"k\" x=\"48\" y=\"223\">cells 0 to 7 of a tile</text>\n<text class=\"t\" y=\"264\">Block RAMs</text>\n<path class=\"wh w\" d=\"M0 276h32v14h-32z\"/><text class=\"k\" x=\"48\" y=\"288\">unused</text><text class=\"v\" x=\"284\" y=\"288\">"

-- the classes of these bytes
abbrev pub ram0_words : List (List ℕ)
ram0_words = codes "v" ∷ codes "k" ∷ codes "w hw" ∷ codes "t" ∷ codes "k" ∷ codes "ic" ∷ codes "ic" ∷ codes "ic" ∷ codes "ic" ∷ codes "ic" ∷ codes "ic" ∷ codes "ic" ∷ codes "ic" ∷ codes "0k" ∷ []

pub ram0-read : Goes (words ∷ group ∷ []) (words ∷ group ∷ []) ram0_text ram0_words
ram0-read =
    let t6 : List ℕ = ram0_6 ++ ram0_7 in
    let w6 : List (List ℕ) = (codes "v" ∷ codes "k" ∷ []) ++ (codes "w hw" ∷ codes "t" ∷ []) in
    let r6 : Goes (group ∷ []) (words ∷ group ∷ []) t6 w6 = goes-append (group ∷ []) (group ∷ []) (words ∷ group ∷ []) ram0_6 ram0_7 (codes "w hw" ∷ codes "t" ∷ []) (codes "v" ∷ codes "k" ∷ []) ram0-6 ram0-7 in
    let t5 : List ℕ = ram0_5 ++ t6 in
    let w5 : List (List ℕ) = w6 ++ (codes "k" ∷ codes "ic" ∷ []) in
    let r5 : Goes (group ∷ []) (words ∷ group ∷ []) t5 w5 = goes-append (group ∷ []) (group ∷ []) (words ∷ group ∷ []) ram0_5 t6 (codes "k" ∷ codes "ic" ∷ []) w6 ram0-5 r6 in
    let t4 : List ℕ = ram0_4 ++ t5 in
    let w4 : List (List ℕ) = w5 ++ (codes "ic" ∷ codes "ic" ∷ []) in
    let r4 : Goes (group ∷ []) (words ∷ group ∷ []) t4 w4 = goes-append (group ∷ []) (group ∷ []) (words ∷ group ∷ []) ram0_4 t5 (codes "ic" ∷ codes "ic" ∷ []) w5 ram0-4 r5 in
    let t3 : List ℕ = ram0_3 ++ t4 in
    let w3 : List (List ℕ) = w4 ++ (codes "ic" ∷ codes "ic" ∷ []) in
    let r3 : Goes (group ∷ []) (words ∷ group ∷ []) t3 w3 = goes-append (group ∷ []) (group ∷ []) (words ∷ group ∷ []) ram0_3 t4 (codes "ic" ∷ codes "ic" ∷ []) w4 ram0-3 r4 in
    let t2 : List ℕ = ram0_2 ++ t3 in
    let w2 : List (List ℕ) = w3 ++ (codes "ic" ∷ codes "ic" ∷ []) in
    let r2 : Goes (group ∷ []) (words ∷ group ∷ []) t2 w2 = goes-append (group ∷ []) (group ∷ []) (words ∷ group ∷ []) ram0_2 t3 (codes "ic" ∷ codes "ic" ∷ []) w3 ram0-2 r3 in
    let t1 : List ℕ = ram0_1 ++ t2 in
    let w1 : List (List ℕ) = w2 ++ (codes "ic" ∷ codes "0k" ∷ []) in
    let r1 : Goes (words ∷ group ∷ []) (words ∷ group ∷ []) t1 w1 = goes-append (words ∷ group ∷ []) (group ∷ []) (words ∷ group ∷ []) ram0_1 t2 (codes "ic" ∷ codes "0k" ∷ []) w2 ram0-1 r2 in
    r1

abbrev ram1_1 : List ℕ
ram1_1 = codes "</text>\n<path class=\"kr\" d=\"M0 296h32v14h-32z\"/><text class=\"k\" x=\"48\" y=\"308\">used</text>"

ram1-1 : Goes (words ∷ group ∷ []) (group ∷ []) ram1_1 (codes "k" ∷ codes "rk" ∷ [])
unfolding read
ram1-1 element elements classes = refl

abbrev ram1_2 : List ℕ
ram1_2 = codes "<text class=\"v\" x=\"284\" y=\"308\">"

ram1-2 : Goes (group ∷ []) (words ∷ group ∷ []) ram1_2 (codes "v" ∷ [])
unfolding read
ram1-2 element elements classes = refl

abbrev pub ram1_text : List ℕ
ram1_text = codes "</text>\n<path class=\"kr\" d=\"M0 296h32v14h-32z\"/><text class=\"k\" x=\"48\" y=\"308\">used</text><text class=\"v\" x=\"284\" y=\"308\">"

-- the classes of these bytes
abbrev pub ram1_words : List (List ℕ)
ram1_words = codes "v" ∷ codes "k" ∷ codes "rk" ∷ []

pub ram1-read : Goes (words ∷ group ∷ []) (words ∷ group ∷ []) ram1_text ram1_words
ram1-read =
    let t1 : List ℕ = ram1_1 ++ ram1_2 in
    let w1 : List (List ℕ) = (codes "v" ∷ []) ++ (codes "k" ∷ codes "rk" ∷ []) in
    let r1 : Goes (words ∷ group ∷ []) (words ∷ group ∷ []) t1 w1 = goes-append (words ∷ group ∷ []) (group ∷ []) (words ∷ group ∷ []) ram1_1 ram1_2 (codes "k" ∷ codes "rk" ∷ []) (codes "v" ∷ []) ram1-1 ram1-2 in
    r1

abbrev pin0_1 : List ℕ
pin0_1 = codes "</text>\n<text class=\"k\" x=\"48\" y=\"328\">bits in a word: R reads, W writes</text>\n"

pin0-1 : Goes (words ∷ group ∷ []) (group ∷ []) pin0_1 (codes "k" ∷ [])
unfolding read
pin0-1 element elements classes = refl

abbrev pin0_2 : List ℕ
pin0_2 = codes "<use class=\"kr\" xlink:href=\"#Q0\" x=\"0\" y=\"336\"/><text class=\"k\" x=\"38\" y=\"348\">16</text>"

pin0-2 : Goes (group ∷ []) (group ∷ []) pin0_2 (codes "k" ∷ codes "rk" ∷ [])
unfolding read
pin0-2 element elements classes = refl

abbrev pin0_3 : List ℕ
pin0_3 = codes "<use class=\"kr\" xlink:href=\"#Q1\" x=\"72\" y=\"336\"/><text class=\"k\" x=\"110\" y=\"348\">8</text>"

pin0-3 : Goes (group ∷ []) (group ∷ []) pin0_3 (codes "k" ∷ codes "rk" ∷ [])
unfolding read
pin0-3 element elements classes = refl

abbrev pin0_4 : List ℕ
pin0_4 = codes "<use class=\"kr\" xlink:href=\"#Q2\" x=\"144\" y=\"336\"/><text class=\"k\" x=\"182\" y=\"348\">4</text>"

pin0-4 : Goes (group ∷ []) (group ∷ []) pin0_4 (codes "k" ∷ codes "rk" ∷ [])
unfolding read
pin0-4 element elements classes = refl

abbrev pin0_5 : List ℕ
pin0_5 = codes "<use class=\"kr\" xlink:href=\"#Q3\" x=\"216\" y=\"336\"/><text class=\"k\" x=\"254\" y=\"348\">2</text>\n"

pin0-5 : Goes (group ∷ []) (group ∷ []) pin0_5 (codes "k" ∷ codes "rk" ∷ [])
unfolding read
pin0-5 element elements classes = refl

abbrev pin0_6 : List ℕ
pin0_6 = codes "<text class=\"t\" y=\"380\">Pins</text>\n<circle class=\"wh w\" cx=\"16\" cy=\"399\" r=\"3\"/>"

pin0-6 : Goes (group ∷ []) (group ∷ []) pin0_6 (codes "w hw" ∷ codes "t" ∷ [])
unfolding read
pin0-6 element elements classes = refl

abbrev pin0_7 : List ℕ
pin0_7 = codes "<text class=\"k\" x=\"48\" y=\"404\">no port</text><text class=\"v\" x=\"284\" y=\"404\">"

pin0-7 : Goes (group ∷ []) (words ∷ group ∷ []) pin0_7 (codes "v" ∷ codes "k" ∷ [])
unfolding read
pin0-7 element elements classes = refl

abbrev pub pin0_text : List ℕ
pin0_text = codes "</text>\n<text class=\"k\" x=\"48\" y=\"328\">bits in a word: R reads, W writes</text>\n<use class=\"kr\" xlink:href=\"#Q0\" x=\"0\" y=\"336\"/><text class=\"k\" x=\"38\" y=\"348\">16</text><use class=\"kr\" xlink:href=\"#Q1\" x=\"72\" y=\"336\"/><text class=\"k\" x=\"110\" y=\"348\">8</text><use class=\"kr\" xlink:href=\"#Q2\" x=\"144\" y=\"336\"/><text class=\"k\" x=\"182\" y=\"348\">4</text><use class=\"kr\" xlink:href=\"#Q3\" x=\"216\" y=\"336\"/><text class=\"k\" x=\"254\" y=\"348\">2</text>\n<text class=\"t\" y=\"380\">Pins</text>\n<circle class=\"wh w\" cx=\"16\" cy=\"399\" r=\"3\"/><text class=\"k\" x=\"48\" y=\"404\">no port</text><text class=\"v\" x=\"284\" y=\"404\">"

-- the classes of these bytes
abbrev pub pin0_words : List (List ℕ)
pin0_words = codes "v" ∷ codes "k" ∷ codes "w hw" ∷ codes "t" ∷ codes "k" ∷ codes "rk" ∷ codes "k" ∷ codes "rk" ∷ codes "k" ∷ codes "rk" ∷ codes "k" ∷ codes "rk" ∷ codes "k" ∷ []

pub pin0-read : Goes (words ∷ group ∷ []) (words ∷ group ∷ []) pin0_text pin0_words
pin0-read =
    let t6 : List ℕ = pin0_6 ++ pin0_7 in
    let w6 : List (List ℕ) = (codes "v" ∷ codes "k" ∷ []) ++ (codes "w hw" ∷ codes "t" ∷ []) in
    let r6 : Goes (group ∷ []) (words ∷ group ∷ []) t6 w6 = goes-append (group ∷ []) (group ∷ []) (words ∷ group ∷ []) pin0_6 pin0_7 (codes "w hw" ∷ codes "t" ∷ []) (codes "v" ∷ codes "k" ∷ []) pin0-6 pin0-7 in
    let t5 : List ℕ = pin0_5 ++ t6 in
    let w5 : List (List ℕ) = w6 ++ (codes "k" ∷ codes "rk" ∷ []) in
    let r5 : Goes (group ∷ []) (words ∷ group ∷ []) t5 w5 = goes-append (group ∷ []) (group ∷ []) (words ∷ group ∷ []) pin0_5 t6 (codes "k" ∷ codes "rk" ∷ []) w6 pin0-5 r6 in
    let t4 : List ℕ = pin0_4 ++ t5 in
    let w4 : List (List ℕ) = w5 ++ (codes "k" ∷ codes "rk" ∷ []) in
    let r4 : Goes (group ∷ []) (words ∷ group ∷ []) t4 w4 = goes-append (group ∷ []) (group ∷ []) (words ∷ group ∷ []) pin0_4 t5 (codes "k" ∷ codes "rk" ∷ []) w5 pin0-4 r5 in
    let t3 : List ℕ = pin0_3 ++ t4 in
    let w3 : List (List ℕ) = w4 ++ (codes "k" ∷ codes "rk" ∷ []) in
    let r3 : Goes (group ∷ []) (words ∷ group ∷ []) t3 w3 = goes-append (group ∷ []) (group ∷ []) (words ∷ group ∷ []) pin0_3 t4 (codes "k" ∷ codes "rk" ∷ []) w4 pin0-3 r4 in
    let t2 : List ℕ = pin0_2 ++ t3 in
    let w2 : List (List ℕ) = w3 ++ (codes "k" ∷ codes "rk" ∷ []) in
    let r2 : Goes (group ∷ []) (words ∷ group ∷ []) t2 w2 = goes-append (group ∷ []) (group ∷ []) (words ∷ group ∷ []) pin0_2 t3 (codes "k" ∷ codes "rk" ∷ []) w3 pin0-2 r3 in
    let t1 : List ℕ = pin0_1 ++ t2 in
    let w1 : List (List ℕ) = w2 ++ (codes "k" ∷ []) in
    let r1 : Goes (words ∷ group ∷ []) (words ∷ group ∷ []) t1 w1 = goes-append (words ∷ group ∷ []) (group ∷ []) (words ∷ group ∷ []) pin0_1 t2 (codes "k" ∷ []) w2 pin0-1 r2 in
    r1

abbrev pin1_1 : List ℕ
pin1_1 = codes "</text>\n<use class=\"kp\" xlink:href=\"#i\" x=\"16\" y=\"419\"/><text class=\"k\" x=\"48\" y=\"424\">input</text>"

pin1-1 : Goes (words ∷ group ∷ []) (group ∷ []) pin1_1 (codes "k" ∷ codes "pk" ∷ [])
unfolding read
pin1-1 element elements classes = refl

abbrev pin1_2 : List ℕ
pin1_2 = codes "<text class=\"v\" x=\"284\" y=\"424\">"

pin1-2 : Goes (group ∷ []) (words ∷ group ∷ []) pin1_2 (codes "v" ∷ [])
unfolding read
pin1-2 element elements classes = refl

abbrev pub pin1_text : List ℕ
pin1_text = codes "</text>\n<use class=\"kp\" xlink:href=\"#i\" x=\"16\" y=\"419\"/><text class=\"k\" x=\"48\" y=\"424\">input</text><text class=\"v\" x=\"284\" y=\"424\">"

-- the classes of these bytes
abbrev pub pin1_words : List (List ℕ)
pin1_words = codes "v" ∷ codes "k" ∷ codes "pk" ∷ []

pub pin1-read : Goes (words ∷ group ∷ []) (words ∷ group ∷ []) pin1_text pin1_words
pin1-read =
    let t1 : List ℕ = pin1_1 ++ pin1_2 in
    let w1 : List (List ℕ) = (codes "v" ∷ []) ++ (codes "k" ∷ codes "pk" ∷ []) in
    let r1 : Goes (words ∷ group ∷ []) (words ∷ group ∷ []) t1 w1 = goes-append (words ∷ group ∷ []) (group ∷ []) (words ∷ group ∷ []) pin1_1 pin1_2 (codes "k" ∷ codes "pk" ∷ []) (codes "v" ∷ []) pin1-1 pin1-2 in
    r1

abbrev pin2_1 : List ℕ
pin2_1 = codes "</text>\n<use class=\"kp\" xlink:href=\"#j\" x=\"16\" y=\"439\"/><text class=\"k\" x=\"48\" y=\"444\">input, regist"

pin2-1 : Goes (words ∷ group ∷ []) (words ∷ group ∷ []) pin2_1 (codes "k" ∷ codes "pk" ∷ [])
unfolding read
pin2-1 element elements classes = refl

abbrev pin2_2 : List ℕ
pin2_2 = codes "er</text><text class=\"v\" x=\"284\" y=\"444\">"

pin2-2 : Goes (words ∷ group ∷ []) (words ∷ group ∷ []) pin2_2 (codes "v" ∷ [])
unfolding read
pin2-2 element elements classes = refl

abbrev pub pin2_text : List ℕ
pin2_text = codes "</text>\n<use class=\"kp\" xlink:href=\"#j\" x=\"16\" y=\"439\"/><text class=\"k\" x=\"48\" y=\"444\">input, register</text><text class=\"v\" x=\"284\" y=\"444\">"

-- the classes of these bytes
abbrev pub pin2_words : List (List ℕ)
pin2_words = codes "v" ∷ codes "k" ∷ codes "pk" ∷ []

pub pin2-read : Goes (words ∷ group ∷ []) (words ∷ group ∷ []) pin2_text pin2_words
pin2-read =
    let t1 : List ℕ = pin2_1 ++ pin2_2 in
    let w1 : List (List ℕ) = (codes "v" ∷ []) ++ (codes "k" ∷ codes "pk" ∷ []) in
    let r1 : Goes (words ∷ group ∷ []) (words ∷ group ∷ []) t1 w1 = goes-append (words ∷ group ∷ []) (words ∷ group ∷ []) (words ∷ group ∷ []) pin2_1 pin2_2 (codes "k" ∷ codes "pk" ∷ []) (codes "v" ∷ []) pin2-1 pin2-2 in
    r1

abbrev pin3_1 : List ℕ
pin3_1 = codes "</text>\n<use class=\"kp\" xlink:href=\"#o\" x=\"16\" y=\"459\"/><text class=\"k\" x=\"48\" y=\"464\">output</text>"

pin3-1 : Goes (words ∷ group ∷ []) (group ∷ []) pin3_1 (codes "k" ∷ codes "pk" ∷ [])
unfolding read
pin3-1 element elements classes = refl

abbrev pin3_2 : List ℕ
pin3_2 = codes "<text class=\"v\" x=\"284\" y=\"464\">"

pin3-2 : Goes (group ∷ []) (words ∷ group ∷ []) pin3_2 (codes "v" ∷ [])
unfolding read
pin3-2 element elements classes = refl

abbrev pub pin3_text : List ℕ
pin3_text = codes "</text>\n<use class=\"kp\" xlink:href=\"#o\" x=\"16\" y=\"459\"/><text class=\"k\" x=\"48\" y=\"464\">output</text><text class=\"v\" x=\"284\" y=\"464\">"

-- the classes of these bytes
abbrev pub pin3_words : List (List ℕ)
pin3_words = codes "v" ∷ codes "k" ∷ codes "pk" ∷ []

pub pin3-read : Goes (words ∷ group ∷ []) (words ∷ group ∷ []) pin3_text pin3_words
pin3-read =
    let t1 : List ℕ = pin3_1 ++ pin3_2 in
    let w1 : List (List ℕ) = (codes "v" ∷ []) ++ (codes "k" ∷ codes "pk" ∷ []) in
    let r1 : Goes (words ∷ group ∷ []) (words ∷ group ∷ []) t1 w1 = goes-append (words ∷ group ∷ []) (group ∷ []) (words ∷ group ∷ []) pin3_1 pin3_2 (codes "k" ∷ codes "pk" ∷ []) (codes "v" ∷ []) pin3-1 pin3-2 in
    r1

abbrev pin4_1 : List ℕ
pin4_1 = codes "</text>\n<use class=\"kp\" xlink:href=\"#p\" x=\"16\" y=\"479\"/><text class=\"k\" x=\"48\" y=\"484\">output, regis"

pin4-1 : Goes (words ∷ group ∷ []) (words ∷ group ∷ []) pin4_1 (codes "k" ∷ codes "pk" ∷ [])
unfolding read
pin4-1 element elements classes = refl

abbrev pin4_2 : List ℕ
pin4_2 = codes "ter</text><text class=\"v\" x=\"284\" y=\"484\">"

pin4-2 : Goes (words ∷ group ∷ []) (words ∷ group ∷ []) pin4_2 (codes "v" ∷ [])
unfolding read
pin4-2 element elements classes = refl

abbrev pub pin4_text : List ℕ
pin4_text = codes "</text>\n<use class=\"kp\" xlink:href=\"#p\" x=\"16\" y=\"479\"/><text class=\"k\" x=\"48\" y=\"484\">output, register</text><text class=\"v\" x=\"284\" y=\"484\">"

-- the classes of these bytes
abbrev pub pin4_words : List (List ℕ)
pin4_words = codes "v" ∷ codes "k" ∷ codes "pk" ∷ []

pub pin4-read : Goes (words ∷ group ∷ []) (words ∷ group ∷ []) pin4_text pin4_words
pin4-read =
    let t1 : List ℕ = pin4_1 ++ pin4_2 in
    let w1 : List (List ℕ) = (codes "v" ∷ []) ++ (codes "k" ∷ codes "pk" ∷ []) in
    let r1 : Goes (words ∷ group ∷ []) (words ∷ group ∷ []) t1 w1 = goes-append (words ∷ group ∷ []) (words ∷ group ∷ []) (words ∷ group ∷ []) pin4_1 pin4_2 (codes "k" ∷ codes "pk" ∷ []) (codes "v" ∷ []) pin4-1 pin4-2 in
    r1

abbrev pin5_1 : List ℕ
pin5_1 = codes "</text>\n<use class=\"kp\" xlink:href=\"#b\" x=\"16\" y=\"499\"/><text class=\"k\" x=\"48\" y=\"504\">output, enabl"

pin5-1 : Goes (words ∷ group ∷ []) (words ∷ group ∷ []) pin5_1 (codes "k" ∷ codes "pk" ∷ [])
unfolding read
pin5-1 element elements classes = refl

abbrev pin5_2 : List ℕ
pin5_2 = codes "e</text><text class=\"v\" x=\"284\" y=\"504\">"

pin5-2 : Goes (words ∷ group ∷ []) (words ∷ group ∷ []) pin5_2 (codes "v" ∷ [])
unfolding read
pin5-2 element elements classes = refl

abbrev pub pin5_text : List ℕ
pin5_text = codes "</text>\n<use class=\"kp\" xlink:href=\"#b\" x=\"16\" y=\"499\"/><text class=\"k\" x=\"48\" y=\"504\">output, enable</text><text class=\"v\" x=\"284\" y=\"504\">"

-- the classes of these bytes
abbrev pub pin5_words : List (List ℕ)
pin5_words = codes "v" ∷ codes "k" ∷ codes "pk" ∷ []

pub pin5-read : Goes (words ∷ group ∷ []) (words ∷ group ∷ []) pin5_text pin5_words
pin5-read =
    let t1 : List ℕ = pin5_1 ++ pin5_2 in
    let w1 : List (List ℕ) = (codes "v" ∷ []) ++ (codes "k" ∷ codes "pk" ∷ []) in
    let r1 : Goes (words ∷ group ∷ []) (words ∷ group ∷ []) t1 w1 = goes-append (words ∷ group ∷ []) (words ∷ group ∷ []) (words ∷ group ∷ []) pin5_1 pin5_2 (codes "k" ∷ codes "pk" ∷ []) (codes "v" ∷ []) pin5-1 pin5-2 in
    r1

abbrev pin6_1 : List ℕ
pin6_1 = codes "</text>\n<use class=\"kp\" xlink:href=\"#q\" x=\"16\" y=\"519\"/><text class=\"k\" x=\"48\" y=\"524\">output, enabl"

pin6-1 : Goes (words ∷ group ∷ []) (words ∷ group ∷ []) pin6_1 (codes "k" ∷ codes "pk" ∷ [])
unfolding read
pin6-1 element elements classes = refl

abbrev pin6_2 : List ℕ
pin6_2 = codes "e, register</text><text class=\"v\" x=\"284\" y=\"524\">"

pin6-2 : Goes (words ∷ group ∷ []) (words ∷ group ∷ []) pin6_2 (codes "v" ∷ [])
unfolding read
pin6-2 element elements classes = refl

abbrev pub pin6_text : List ℕ
pin6_text = codes "</text>\n<use class=\"kp\" xlink:href=\"#q\" x=\"16\" y=\"519\"/><text class=\"k\" x=\"48\" y=\"524\">output, enable, register</text><text class=\"v\" x=\"284\" y=\"524\">"

-- the classes of these bytes
abbrev pub pin6_words : List (List ℕ)
pin6_words = codes "v" ∷ codes "k" ∷ codes "pk" ∷ []

pub pin6-read : Goes (words ∷ group ∷ []) (words ∷ group ∷ []) pin6_text pin6_words
pin6-read =
    let t1 : List ℕ = pin6_1 ++ pin6_2 in
    let w1 : List (List ℕ) = (codes "v" ∷ []) ++ (codes "k" ∷ codes "pk" ∷ []) in
    let r1 : Goes (words ∷ group ∷ []) (words ∷ group ∷ []) t1 w1 = goes-append (words ∷ group ∷ []) (words ∷ group ∷ []) (words ∷ group ∷ []) pin6_1 pin6_2 (codes "k" ∷ codes "pk" ∷ []) (codes "v" ∷ []) pin6-1 pin6-2 in
    r1
