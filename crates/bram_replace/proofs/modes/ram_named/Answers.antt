use Rattle.std.proofs.Common.{◌≡◌, true, sym, ap, ◌∙◌, subst}
use Rattle.text_lines.specs.Lines.{trimmed}
use Rattle.text_lines.specs.Words.{after_word, first_word, numbers_of, words_of}
use Rattle.text_lines.specs.declared.words.Separators.TheVariants.{Spaces}
use Rattle.asc_text.specs.Faults.{tile_named}
use Rattle.asc_text.specs.Rams.{is_ram_data}
use Rattle.asc_text.specs.Statements.{ram_data_of_numbers}
use Rattle.bram_replace.proofs.Statements.{ram-spelled, ram-word}
use Rattle.bram_replace.proofs.modes.ram_named.Goals as goal

pub ram_at-requires : goal.ram_at-requires
ram_at-requires c =
    let numbers : c.in-Some.numbers.now ≡ after_word Spaces (trimmed c.args.statement.now) = c.in-Some.ensures.places.1 ∙ ap (after_word Spaces) c.trimmed.ensures in
    subst (λ b. is_ram_data (ram_data_of_numbers (numbers_of (words_of Spaces b))) ≡ true) (sym numbers)
    (subst (λ s. is_ram_data s ≡ true) (ram-spelled c.args.statement.now c.requires) c.requires)

pub unreachable-requires : goal.unreachable-requires
unreachable-requires c = ram-word c.args.statement.now c.requires (ap (first_word Spaces) (sym c.trimmed.ensures) ∙ c.in-None.ensures.places)

pub returns : goal.returns
returns c =
    let numbers : c.in-Some.numbers.now ≡ after_word Spaces (trimmed c.args.statement.now) = c.in-Some.ensures.places.1 ∙ ap (after_word Spaces) c.trimmed.ensures in
    ap tile_named (ram-spelled c.args.statement.now c.requires)
    ∙ ap (λ b. tile_named (ram_data_of_numbers (numbers_of (words_of Spaces b)))) (sym numbers) ∙ c.ram_at.ensures
