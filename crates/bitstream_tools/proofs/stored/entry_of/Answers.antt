use Rattle.std.proofs.Common.{◌≡◌, length, refl, ap, ◌∙◌}
use Rattle.std.specs.Prelude.{map}
use Rattle.std.proofs.lemmas.Bool.{lt-ltb, le-ltb}
use Rattle.std.proofs.lemmas.List.{length-map}
use Rattle.bitstream_tools.specs.Stored.{image_of, word_booted}
use Rattle.bitstream_tools.proofs.stored.entry_of.Goals.{then-entry-names, else-entry-names}
use Rattle.bitstream_tools.proofs.stored.entry_of.Goals as goal

-- the word of an entry
word : (c : goal.After-image_of) → c.if-entry-names.word ≡ word_booted (map (λ name. name.now) c.args.names.now) c.args.power_on c.args.entry
word c =
    let count = length c.args.names.now in
    let size : length (map (λ name. name.now) c.args.names.now) ≡ count = length-map c.args.names.now (λ name. name.now) in
    (elim c.if-entry-names.branch [
      | then-entry-names w ↦ w.word-is ∙ rw (size, lt-ltb c.args.entry count w.if-entry-names.true) refl
      | else-entry-names w ↦ w.word-is ∙ rw (size, le-ltb c.args.entry count w.if-entry-names.false) refl
    ])

pub returns : goal.returns
returns c = c.image_of.ensures ∙ ap (image_of (map (λ name. name.now) c.args.names.now)) (word c)
