-- The definitions of stored images at the words `a b a` with `-p2`, worked out by hand.
use Rattle.std.proofs.Common.{◌≡◌, List, [], ◌∷◌, refl}
use Rattle.std.specs.Prelude.{false, codes}
use Rattle.clap.specs.Words.{Text}
use Rattle.index_search.specs.Places.{any_below, gathered_below}
use Rattle.bitstream_tools.specs.Multi.{unaligned}
use Rattle.bitstream_tools.specs.Stored.{names_once, stock_options}

abbrev names : List Text
names = codes "a" ∷ codes "b" ∷ codes "a" ∷ []

-- `a` is stored once
stored : names_once names ≡ codes "a" ∷ codes "b" ∷ []
unfolding any_below gathered_below names_once
stored = refl

-- headers 1 and 3 boot `a`, header 2 boots `b`, and header 4, which has no word, the image of power-on
entries : (stock_options names (unaligned false 2)).entries ≡ 0 ∷ 1 ∷ 0 ∷ 0 ∷ []
unfolding any_below gathered_below names_once
entries = refl

-- the third word is the first image
power_on : (stock_options names (unaligned false 2)).power_on ≡ 0
unfolding any_below gathered_below names_once
power_on = refl

-- with `-p1` header 4 boots `b`
other_entries : (stock_options names (unaligned false 1)).entries ≡ 0 ∷ 1 ∷ 0 ∷ 1 ∷ []
unfolding any_below gathered_below names_once
other_entries = refl
