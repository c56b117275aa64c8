-- Which bytes a decoder stands for. The clauses of its calls say all that matters of it: a new decoder stands for no bytes, `feed` adds
-- a piece to them, and `finish` returns what they spell. How a decoder keeps its bytes is defined in specs/inside.
use Rattle.std.specs.Prelude.{◌≡◌, ℕ, List, length, Option}
use Rattle.layout_file.specs.declared.layouts.Layouts.{Layouts}
use Rattle.bin_stream.specs.inside.Stages.{IsStage, fault_in}
use Rattle.bin_stream.specs.declared.fault.BinFault.{BinFault}
use Rattle.bin_stream.specs.declared.reading.decoder.Decoder.{Decoder}

-- how many bytes were fed to a decoder
abbrev pub fed_to : Decoder → ℕ
fed_to decoder = decoder.fed

-- the fault with which a decoder refused, if it did
abbrev pub refusal_of : Decoder → Option BinFault
refusal_of decoder = fault_in decoder.stage

-- A decoder stands for bytes under layouts: they were fed to it, and it is at their stage.
pub record StandsFor (layouts : Layouts) (bytes : List ℕ) (decoder : Decoder) : Type 0 where
  pub fed : fed_to decoder ≡ length bytes
  pub layouts_are : decoder.layouts ≡ layouts
  pub stage : IsStage layouts bytes decoder.stage
