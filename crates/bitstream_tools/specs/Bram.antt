-- `icebram`: replaces the contents of RAMs in a text, or writes random words. FROM and TO, and with `-g` SEED, WIDTH and DEPTH, are arguments
-- of Project IceStorm's `icebram` (its usage text); `--by-mode`, and which seed is taken if none is given, are this project's own.
use Rattle.std.specs.Prelude.{◌≡◌, ℕ, Bool, true, false, ◌&&◌, List, [], ◌∷◌, codes, get_or, if◌then◌else◌, Option, None, Some, option_map}
use Rattle.clap.specs.Words.{App, Row, Text, first_of}
use Rattle.index_search.specs.Places.{or_else}
use Rattle.text_lines.specs.Lines.{lines_of}
use Rattle.text_lines.specs.Words.{number_of}
use Rattle.seeds.specs.Seeds.{seed_of}
use Rattle.bram_replace.specs.declared.modes.ReadModes.{ReadModes}
use Rattle.bram_replace.specs.declared.modes.ReadModes.TheVariants.{Ignored, Followed}
use Rattle.bram_replace.specs.ReadModes.{modes_in}
use Rattle.bram_replace.specs.HexText.{contents_of, hex_fault_of}
use Rattle.bram_replace.specs.Replaced.{bram_fault, replaced}
use Rattle.random_words.specs.Draws.{is_depth, is_width}
use Rattle.random_words.specs.Taken.{random_words}
use Rattle.tool_run.specs.Lines.{refusal_text}
use Rattle.tool_run.specs.Needs.{Need}
use Rattle.tool_run.specs.Tasks.{Answer, Done, Refused, Task, at_once, plain_task, usage_error}
use Rattle.tool_run.specs.declared.tool.Stop.{Stop}
use Rattle.tool_run.specs.declared.tool.Stop.TheVariants.{Refused as StopsRefused, Quiet as StopsQuietly, UsageError as StopsUntaken, Memory}
use Rattle.tool_inputs.specs.Outcomes.{Manual, outcome}
use Rattle.tool_inputs.specs.Commands.{command, flag, has_flag, long_flag, required, short_option}
use Rattle.bitstream_tools.specs.declared.bram.Replacement.{Replacement}
use Rattle.bitstream_tools.specs.declared.bram.Request.{Request}
use Rattle.bitstream_tools.specs.declared.bram.Request.TheVariants.{Generate, Replace}
use Rattle.bitstream_tools.specs.declared.random.Generating.{Generating}
use Rattle.bitstream_tools.specs.declared.bram.TheConstants.{ICEBRAM_HELP}
use Rattle.bitstream_tools.specs.Faults.{bram_fault_text, hex_fault_text}
use Rattle.bitstream_tools.specs.Pack.{text_limit}

-- ---- the answer for the two files of words and the text

-- why nothing is replaced: a fault of the first file goes before one of the second file, and that before one of the text
abbrev pub why_not : List ℕ → List ℕ → List ℕ → Option (List ℕ)
why_not from to text =
    or_else (option_map (hex_fault_text (codes "from")) (hex_fault_of from))
    (or_else (option_map (hex_fault_text (codes "to")) (hex_fault_of to))
    (option_map bram_fault_text (bram_fault text (contents_of from) (contents_of to))))

-- these bytes, or the reason against them, if there is one
abbrev pub unless : Option (List ℕ) → List ℕ → Answer
unless None bytes = Done bytes
unless (Some why) bytes = Refused why

abbrev pub replaced_answer : ReadModes → List ℕ → List ℕ → List ℕ → Answer
replaced_answer modes from to text =
    unless (why_not from to text) (replaced text (contents_of from) (contents_of to) (modes_in modes (lines_of text)))

abbrev pub icebram_answer : ReadModes → List (List ℕ) → Answer
icebram_answer modes texts = replaced_answer modes (get_or texts 0 []) (get_or texts 1 []) (get_or texts 2 [])

-- a stop tells that reason, or that memory is out
abbrev pub TellsWhy : Option (List ℕ) → Stop → Type 0
TellsWhy why (StopsRefused refusal) = why ≡ Some (refusal_text refusal)
TellsWhy why StopsQuietly = ⊥
TellsWhy why (StopsUntaken refusal) = ⊥
TellsWhy why Memory = Unit {0}

-- ---- the answer with random words

-- the text of the first draw that is taken as FROM, if there is one
abbrev pub words_answer : Option (List ℕ) → Answer
words_answer None = Refused (codes "all draws have equal columns: take another seed")
words_answer (Some text) = Done text

-- ---- the task

abbrev pub icebram_name : List ℕ
icebram_name = codes "icebram"

abbrev pub icebram_usage : List ℕ
icebram_usage = codes "icebram [--by-mode] FROM TO | icebram -g [-s SEED] WIDTH DEPTH"

abbrev pub icebram_command : App
icebram_command = command icebram_name (
    long_flag (codes "by-mode") ∷ flag (codes "generate") 103 ∷ short_option (codes "seed") 115 ∷ required (codes "from") ∷ required (codes "to") ∷ []
    )

abbrev pub not_taken : Task
not_taken = usage_error icebram_name icebram_usage

-- ---- the task of replacing

-- with `--by-mode` the read mode of each RAM is followed
abbrev pub modes_wanted : Bool → ReadModes
modes_wanted false = Ignored
modes_wanted true = Followed

-- the two files of words, and the text from standard input
abbrev pub replace_needs : Text → Text → List Need
replace_needs from to =
    record { name = Some from; limit = text_limit } ∷ record { name = Some to; limit = text_limit }
    ∷ record { name = None; limit = text_limit } ∷ []

abbrev pub replace_task : ReadModes → Text → Text → Task
replace_task modes from to = plain_task icebram_name (replace_needs from to) None (icebram_answer modes)

-- both files must be named
abbrev pub replace_task_of : Bool → Option Text → Option Text → Task
replace_task_of by_mode (Some from) (Some to) = replace_task (modes_wanted by_mode) from to
replace_task_of by_mode (Some from) None = not_taken
replace_task_of by_mode None to = not_taken

-- ---- the task of writing random words

-- the number that a word writes, if the word is there and writes one
abbrev pub number_in : Option Text → Option ℕ
number_in None = None
number_in (Some word) = number_of word

-- the seed is 1 if there is no word for it
abbrev pub seed_given : Option Text → Option ℕ
seed_given None = Some 1
seed_given (Some word) = seed_of word

abbrev pub generate_task : ℕ → ℕ → ℕ → Task
generate_task width depth seed = at_once icebram_name None (words_answer (random_words width depth seed))

-- only some widths and depths are taken
abbrev pub generate_sized : ℕ → ℕ → ℕ → Task
generate_sized width depth seed = if is_width width && is_depth depth then generate_task width depth seed else not_taken

-- the width, the depth and the seed must be numbers
abbrev pub generate_task_of : Option ℕ → Option ℕ → Option ℕ → Task
generate_task_of (Some width) (Some depth) (Some seed) = generate_sized width depth seed
generate_task_of (Some width) (Some depth) None = not_taken
generate_task_of (Some width) None seed = not_taken
generate_task_of None depth seed = not_taken

-- ---- the task of the arguments

-- `-g` takes the two arguments for a width and a depth; a seed is taken only with it, and `--by-mode` changes nothing there
abbrev pub icebram_task_of : Bool → Option Text → Bool → Option Text → Option Text → Task
icebram_task_of true seed by_mode width depth = generate_task_of (number_in width) (number_in depth) (seed_given seed)
icebram_task_of false None by_mode from to = replace_task_of by_mode from to
icebram_task_of false (Some seed) by_mode from to = not_taken

abbrev pub icebram_task_by : List Row → Task
icebram_task_by rows =
    icebram_task_of (has_flag (codes "generate") rows) (first_of (codes "seed") rows) (has_flag (codes "by-mode") rows) (first_of (codes "from") rows) (first_of (codes "to") rows)

-- the tool
abbrev pub icebram : Manual
icebram = record { name = icebram_name; usage = icebram_usage; help = ICEBRAM_HELP.now; app = icebram_command; task = icebram_task_by }

-- what the arguments of `icebram` ask for, which may be its help
abbrev pub icebram_outcome : List Text → Task
icebram_outcome args = outcome icebram args

-- the task of two files of words, if both were found in the arguments
abbrev pub replace_task_for : Option Replacement → Task
replace_task_for None = not_taken
replace_task_for (Some replacement) = replace_task replacement.modes replacement.from.now replacement.to.now

-- the task of a size and a seed, if they were found
abbrev pub generate_task_for : Option Generating → Task
generate_task_for None = not_taken
generate_task_for (Some words) = generate_task words.size.width words.size.depth words.seed

-- the task of what was found in the arguments
abbrev pub icebram_task_for : Option Request → Task
icebram_task_for None = not_taken
icebram_task_for (Some (Replace replacement)) = replace_task_for (Some replacement)
icebram_task_for (Some (Generate words)) = generate_task_for (Some words)
