-- What a cause in a message means, by its word.
use Rattle.std.specs.Prelude.{ℕ, List, Option}
use Rattle.std.specs.Option.{option_or}
use Rattle.cause_texts.specs.About.{about_bitstreams, about_boot_files, about_databases, about_designs, about_modules, about_texts}

-- the text of a cause, if there is one of that word: no two groups have the same word
unfoldable pub explained : List ℕ → Option (List ℕ)
explained word =
    option_or (about_texts word)
    (option_or (about_bitstreams word)
    (option_or (about_boot_files word)
    (option_or (about_databases word)
    (option_or (about_modules word)
    (about_designs word)))))
