-- The names that lines give to nets, if each line that begins with a dot is a statement.
use Rattle.std.specs.Prelude.{ℕ, List, [], ◌∷◌, ◌++◌}
use Rattle.asc_text.specs.declared.file.Symbol.{Symbol as NetName}
use Rattle.asc_text.specs.Statements.{statement_in}
use Rattle.asc_text.specs.Meaning.{symbol_in}

unfoldable pub symbols_in : List (List ℕ) → List NetName
symbols_in [] = []
symbols_in (line ∷ lines) = symbol_in (statement_in line) line ++ symbols_in lines
