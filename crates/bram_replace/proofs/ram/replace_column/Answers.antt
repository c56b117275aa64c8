use Rattle.std.proofs.Common.{◌+◌, ◌*◌, false, get_or, sym, ap, ◌∙◌, arith}
use Rattle.std.specs.Prelude.{Some, None}
use Rattle.bram_replace.specs.Packed.{packed}
use Rattle.bram_replace.specs.Replaced.{ram_column}
use Rattle.bram_replace.specs.Rams.{listed}
use Rattle.bram_replace.proofs.Same.{match-within}
use Rattle.bram_replace.proofs.Putting.{looked-up, kept-bits, kept-count, put-bits, put-count}
use Rattle.bram_replace.proofs.ram.replace_column.Goals as goal

pub returns-in_default-clause-bits : goal.returns-in_default-clause-bits
returns-in_default-clause-bits c =
    let bits = c.args.bits.now in
    let bit = c.args.bit in
    let file = c.args.columns.now.file.now in
    let packed_so = c.column_of.ensures ∙ ap (λ bs. packed (λ place. get_or bs (bit + place * 16) false)) c.as_slice.ensures in
    kept-bits file c.args.to.now bits bit (looked-up file bits bit None c.requires.bit (c.in_default.ensures.found (λ place. get_or bits (bit + place * 16) false) packed_so))

pub returns-in_default-clause-found : goal.returns-in_default-clause-found
returns-in_default-clause-found c column within =
    let bits = c.args.bits.now in
    let bit = c.args.bit in
    let file = c.args.columns.now.file.now in
    let packed_so = c.column_of.ensures ∙ ap (λ bs. packed (λ place. get_or bs (bit + place * 16) false)) c.as_slice.ensures in
    kept-count file bits bit column (get_or c.args.found.now column 0) (looked-up file bits bit None c.requires.bit (c.in_default.ensures.found (λ place. get_or bits (bit + place * 16) false) packed_so)) within

pub offset_bounds-found-place : goal.offset_bounds-found-place
offset_bounds-found-place c =
    let bits = c.args.bits.now in
    let bit = c.args.bit in
    let file = c.args.columns.now.file.now in
    let packed_so = c.column_of.ensures ∙ ap (λ bs. packed (λ place. get_or bs (bit + place * 16) false)) c.as_slice.ensures in
    let found = looked-up file bits bit (Some c.in-Some.place) c.requires.bit (c.in-Some.ensures.found (λ place. get_or bits (bit + place * 16) false) packed_so) in
    omega (arith, match-within file (ram_column (listed bits) bit) c.in-Some.place (sym found), c.requires.counts)

pub bounds-found-place : goal.bounds-found-place
bounds-found-place c =
    let bits = c.args.bits.now in
    let bit = c.args.bit in
    let file = c.args.columns.now.file.now in
    let packed_so = c.column_of.ensures ∙ ap (λ bs. packed (λ place. get_or bs (bit + place * 16) false)) c.as_slice.ensures in
    let found = looked-up file bits bit (Some c.in-Some.place) c.requires.bit (c.in-Some.ensures.found (λ place. get_or bits (bit + place * 16) false) packed_so) in
    omega (arith, match-within file (ram_column (listed bits) bit) c.in-Some.place (sym found), c.requires.counts)

pub bounds-found-place-2 : goal.bounds-found-place-2
bounds-found-place-2 c =
    let bits = c.args.bits.now in
    let bit = c.args.bit in
    let file = c.args.columns.now.file.now in
    let packed_so = c.column_of.ensures ∙ ap (λ bs. packed (λ place. get_or bs (bit + place * 16) false)) c.as_slice.ensures in
    let found = looked-up file bits bit (Some c.in-Some.place) c.requires.bit (c.in-Some.ensures.found (λ place. get_or bits (bit + place * 16) false) packed_so) in
    omega (arith, match-within file (ram_column (listed bits) bit) c.in-Some.place (sym found), c.requires.counts)

pub put_column-requires-clause-column : goal.put_column-requires-clause-column
put_column-requires-clause-column c =
    let bits = c.args.bits.now in
    let bit = c.args.bit in
    let file = c.args.columns.now.file.now in
    let packed_so = c.column_of.ensures ∙ ap (λ bs. packed (λ place. get_or bs (bit + place * 16) false)) c.as_slice.ensures in
    let found = looked-up file bits bit (Some c.in-Some.place) c.requires.bit (c.in-Some.ensures.found (λ place. get_or bits (bit + place * 16) false) packed_so) in
    omega (arith, match-within file (ram_column (listed bits) bit) c.in-Some.place (sym found), c.requires.same)

pub returns-clause-bits : goal.returns-clause-bits
returns-clause-bits c =
    let bits = c.args.bits.now in
    let bit = c.args.bit in
    let file = c.args.columns.now.file.now in
    let packed_so = c.column_of.ensures ∙ ap (λ bs. packed (λ place. get_or bs (bit + place * 16) false)) c.as_slice.ensures in
    let found = looked-up file bits bit (Some c.in-Some.place) c.requires.bit (c.in-Some.ensures.found (λ place. get_or bits (bit + place * 16) false) packed_so) in
    put-bits file c.args.to.now bits c.put_column.new.bits bit c.in-Some.place found c.put_column.ensures

pub returns-clause-found : goal.returns-clause-found
returns-clause-found c column within =
    let bits = c.args.bits.now in
    let bit = c.args.bit in
    let file = c.args.columns.now.file.now in
    let packed_so = c.column_of.ensures ∙ ap (λ bs. packed (λ place. get_or bs (bit + place * 16) false)) c.as_slice.ensures in
    let found = looked-up file bits bit (Some c.in-Some.place) c.requires.bit (c.in-Some.ensures.found (λ place. get_or bits (bit + place * 16) false) packed_so) in
    put-count file bits c.args.found.now bit c.in-Some.place column c.args.columns.now.different c.requires.counts found within
