-- Laws of the command lines of the tools: each command is simple, as `clap`'s statement needs it, and each task has the name of its tool.
use Rattle.std.specs.Prelude.{◌≡◌, ℕ, Bool, true, false, ◌&&◌, if◌then◌else◌, List, codes, length, refl, Option, None, Some}
use Rattle.clap.specs.Words.{Row, Text, first_of, is_simple_and_free}
use Rattle.clap.proofs.OnLiterals.{clap_on_literals}
use Rattle.boot_file.specs.declared.options.Options.{Options}
use Rattle.boot_file.specs.declared.multi_fault.MultiFault.{MultiFault}
use Rattle.boot_file.specs.Refusals.{check_fault}
use Rattle.random_words.specs.Draws.{is_depth, is_width}
use Rattle.tool_inputs.specs.Commands.{has_flag, values_of}
use Rattle.bitstream_tools.specs.Bram.{generate_task, generate_task_of, icebram_command, icebram_name, icebram_task_by, icebram_task_of, not_taken, number_in, replace_task_of, seed_given}
use Rattle.bitstream_tools.specs.Multi.{icemulti_command, icemulti_name, icemulti_task_by, icemulti_task_of, join_task, options_in}
use Rattle.bitstream_tools.specs.Pack.{icepack_command, icepack_name, icepack_task_by, icepack_task_of}
use Rattle.bitstream_tools.specs.Unpack.{iceunpack_command, iceunpack_name, iceunpack_task_by}

-- ---- iceunpack

pub iceunpack-simple : is_simple_and_free iceunpack_command ≡ true
unfolding clap_on_literals
iceunpack-simple = refl

pub iceunpack-speaks : (rows : List Row) → (iceunpack_task_by rows).tool_name ≡ iceunpack_name
iceunpack-speaks rows = refl

-- ---- icepack

pub icepack-simple : is_simple_and_free icepack_command ≡ true
unfolding clap_on_literals
icepack-simple = refl

pack-speaks : (unpacks no_sleep : Bool) (layout input output : Option Text) → (icepack_task_of unpacks no_sleep layout input output).tool_name ≡ icepack_name
pack-speaks false no_sleep layout input output = refl
pack-speaks true false layout input output = refl
pack-speaks true true layout input output = refl

pub icepack-speaks : (rows : List Row) → (icepack_task_by rows).tool_name ≡ icepack_name
icepack-speaks rows =
    pack-speaks (has_flag (codes "unpack") rows) (has_flag (codes "no_sleep") rows) (first_of (codes "layout") rows) (first_of (codes "input") rows) (first_of (codes "output") rows)

-- ---- icemulti

pub icemulti-simple : is_simple_and_free icemulti_command ≡ true
unfolding clap_on_literals
icemulti-simple = refl

checked-speaks : (as_stock : Bool) (names : List Text) (options : Options) (output : Option Text) (fault : Option MultiFault)
    → (join_task as_stock names options output fault).tool_name ≡ icemulti_name
checked-speaks as_stock names options output None = refl
checked-speaks as_stock names options output (Some fault) = refl

-- each task of `icemulti` has its name
pub multi-speaks : (as_stock : Bool) (names : List Text) (output : Option Text) (options : Option Options)
    → (icemulti_task_of as_stock names output options).tool_name ≡ icemulti_name
multi-speaks as_stock names output None = refl
multi-speaks as_stock names output (Some options) = checked-speaks as_stock names options output (check_fault (length names) options)

pub icemulti-speaks : (rows : List Row) → (icemulti_task_by rows).tool_name ≡ icemulti_name
icemulti-speaks rows = multi-speaks (has_flag (codes "as-stock") rows) (values_of (codes "image") rows) (first_of (codes "output") rows) (options_in rows)

-- ---- icebram

pub icebram-simple : is_simple_and_free icebram_command ≡ true
unfolding clap_on_literals
icebram-simple = refl

replace-speaks : (by_mode : Bool) (from to : Option Text) → (replace_task_of by_mode from to).tool_name ≡ icebram_name
replace-speaks by_mode (Some from) (Some to) = refl
replace-speaks by_mode (Some from) None = refl
replace-speaks by_mode None to = refl

sized-speaks : (taken : Bool) (width depth seed : ℕ) → (if taken then generate_task width depth seed else not_taken).tool_name ≡ icebram_name
sized-speaks true width depth seed = refl
sized-speaks false width depth seed = refl

generate-speaks : (width depth seed : Option ℕ) → (generate_task_of width depth seed).tool_name ≡ icebram_name
generate-speaks (Some width) (Some depth) (Some seed) = sized-speaks (is_width width && is_depth depth) width depth seed
generate-speaks (Some width) (Some depth) None = refl
generate-speaks (Some width) None seed = refl
generate-speaks None depth seed = refl

bram-speaks : (generates : Bool) (seed : Option Text) (by_mode : Bool) (first second : Option Text) → (icebram_task_of generates seed by_mode first second).tool_name ≡ icebram_name
bram-speaks true seed by_mode width depth = generate-speaks (number_in width) (number_in depth) (seed_given seed)
bram-speaks false None by_mode from to = replace-speaks by_mode from to
bram-speaks false (Some seed) by_mode from to = refl

pub icebram-speaks : (rows : List Row) → (icebram_task_by rows).tool_name ≡ icebram_name
icebram-speaks rows =
    bram-speaks (has_flag (codes "generate") rows) (first_of (codes "seed") rows) (has_flag (codes "by-mode") rows) (first_of (codes "from") rows) (first_of (codes "to") rows)
