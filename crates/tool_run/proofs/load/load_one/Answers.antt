use Rattle.std.proofs.Common.{ap}
use Rattle.tool_run.specs.Counts.{counts}
use Rattle.tool_run.specs.Needs.{text_of}
use Rattle.tool_run.proofs.Loading.{file_stops, input_stops, failed-is}
use Rattle.tool_run.proofs.load.load_one.Goals as goal

pub returns-in-Err-clause-stops : goal.returns-in-Err-clause-stops
returns-in-Err-clause-stops g c =
    let e = c.stop_of.ensures in
    let f = c.in-Err.ensures in
    file_stops (g.F.Files.contents c.args.files.now) (g.F.Files.steady c.args.files.now) g.I.Source.left (counts g.I.Source.faults g.I.Source.bytes_read) c.args.load c.in-Some.name.now
    (counts g.F.Files.load_faults g.F.Files.bytes_read c.args.files.now) (counts g.F.Files.load_faults g.F.Files.bytes_read c.load.new.self) c.args.input.now c.in-Err.fault c.stop_of.result
    (ap text_of c.in-Some.is) (λ is. f.failed (failed-is c.in-Err.fault _ is)) (λ is. f.read_past (failed-is c.in-Err.fault _ is)) (λ is. f.lacks (failed-is c.in-Err.fault _ is)) (λ is. f.too_long (failed-is c.in-Err.fault _ is)) e.failed e.too_long e.memory

pub returns-in-Err-read_all-clause-stops : goal.returns-in-Err-read_all-clause-stops
returns-in-Err-read_all-clause-stops g c =
    let e = c.stop_of-in-Err-read_all.ensures in
    let f = c.in-Err-read_all.ensures in
    input_stops (g.F.Files.contents c.args.files.now) (g.F.Files.steady c.args.files.now) g.I.Source.left (counts g.I.Source.faults g.I.Source.bytes_read) c.args.load
    (counts g.F.Files.load_faults g.F.Files.bytes_read c.args.files.now) (counts g.F.Files.load_faults g.F.Files.bytes_read c.args.files.now) c.args.input.now c.read_all.new.source c.in-Err-read_all.fault c.stop_of-in-Err-read_all.result
    (ap text_of c.in-None.is) (λ is. f.failed (failed-is c.in-Err-read_all.fault _ is)) (λ is. f.read_past (failed-is c.in-Err-read_all.fault _ is)) (λ is. f.too_long (failed-is c.in-Err-read_all.fault _ is)) e.failed e.too_long e.memory
