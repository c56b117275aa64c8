-- The definitions at small values, worked out by hand.
use Rattle.std.proofs.Common.{◌≡◌, true, false, [], ◌∷◌, refl}
use Rattle.std.specs.Fmt.{digits}
use Rattle.std.specs.Prelude.{codes}
use Rattle.hex.specs.Hex.{encode_with}
use Rattle.plane_map.specs.declared.tile.Place.{Place}
use Rattle.ice_image.specs.declared.settings.Range.TheVariants.{Low, Medium, High}
use Rattle.image_explain.specs.Explained.{extra_text}
use Rattle.image_diff.specs.Differences.{extra_changes, line_changes, lines_without, setting_changes, word_line}

-- lines of one list alone: one that stands there twice is told twice, and order makes no difference
lines_apart : line_changes (codes "a" ∷ codes "b" ∷ codes "a" ∷ []) (codes "c" ∷ codes "b" ∷ []) ≡ codes "-a" ∷ codes "-a" ∷ codes "+c" ∷ []
unfolding line_changes lines_without
lines_apart = refl

lines_turned : line_changes (codes "a" ∷ codes "b" ∷ []) (codes "b" ∷ codes "a" ∷ codes "a" ∷ []) ≡ []
unfolding line_changes lines_without
lines_turned = refl

-- settings that aren't the usual ones have a line, and the usual ones have none
settings_set : setting_changes (record { range = Low; warm_boot = true; no_sleep = true }) (record { range = Medium; warm_boot = false; no_sleep = true })
    ≡ codes "+.warmboot disabled" ∷ codes "+.freqrange medium" ∷ []
unfolding setting_changes line_changes lines_without
settings_set = refl

range_changed : setting_changes (record { range = High; warm_boot = true; no_sleep = true }) (record { range = Medium; warm_boot = true; no_sleep = false })
    ≡ codes "-.freqrange high" ∷ codes "+.freqrange medium" ∷ codes "-.nosleep enabled" ∷ []
unfolding setting_changes line_changes lines_without
range_changed = refl

abbrev awake : Place
awake = record { bank = 0; px = 330; py = 143 }

-- an extra bit without a name, and with one
extra_unnamed : extra_changes [] [] (awake ∷ []) ≡ codes ".extra_bits" ∷ codes "+? 0 330 143" ∷ []
unfolding extra_text digits
extra_unnamed = refl

extra_named : extra_changes (record { name = codes "awake"; at = awake } ∷ []) (awake ∷ []) [] ≡ codes ".extra_bits" ∷ codes "-awake" ∷ []
unfolding extra_text
extra_named = refl

-- a word of a RAM: its number is decimal, and what it holds hexadecimal
word_changed : word_line 3 1 17 0 6699 ≡ codes "ram 3 1 word 17: -0000 +1a2b"
unfolding encode_with digits
word_changed = refl
