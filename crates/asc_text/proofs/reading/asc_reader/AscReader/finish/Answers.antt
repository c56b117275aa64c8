use Rattle.std.proofs.Common.{◌≡◌}
use Rattle.std.specs.Prelude.{None}
use Rattle.ice_image.specs.Either.{configuration_of}
use Rattle.asc_text.specs.Faults.{Tells, asc_fault_of}
use Rattle.asc_text.specs.Feeding.{StandsFor}
use Rattle.asc_text.specs.Meaning.{AscMeans, asc_symbols_of}
use Rattle.asc_text.specs.Characters.{HasBits}
use Rattle.asc_text.specs.inside.Reading.{state_of}
use Rattle.asc_text.proofs.Characters.{answered_bits}
use Rattle.asc_text.proofs.Ends.{answered, accepted, told, whole}
use Rattle.asc_text.proofs.Feeding.{ok-each, err-each, on_ok-each, taken-all}
use Rattle.asc_text.proofs.reading.asc_reader.AscReader.finish.Goals as goal

pub returns-clause-means : goal.returns-clause-means
returns-clause-means c =
    let taker = c.in_ok-reader.field-0 in
    let r = c.finish-2.result in
    let of = c.finish-2.ensures in
    ok-each r (λ layouts text. StandsFor layouts text c.args.self) (λ layouts text image. AscMeans layouts text (configuration_of image) (asc_symbols_of text)) (λ layouts text stands.
    let taken = c.in_ok-reader.ensures.taken layouts text stands.has in
    answered layouts text (state_of taker.reader) r (taken-all layouts text taker taken) of.accepted of.image)

pub returns-clause-bits : goal.returns-clause-bits
returns-clause-bits c =
    let taker = c.in_ok-reader.field-0 in
    let s = state_of taker.reader in
    let r = c.finish-2.result in
    let of = c.finish-2.ensures in
    ok-each r (λ layouts text. StandsFor layouts text c.args.self) (λ layouts text image. HasBits text (configuration_of image)) (λ layouts text stands.
    let taken = c.in_ok-reader.ensures.taken layouts text stands.has in
    let read = taken-all layouts text taker taken in
    answered_bits layouts text (asc_symbols_of text) r stands.laid (whole layouts text s r read of.image) (answered layouts text s r read of.accepted of.image))

pub returns-clause-accepted : goal.returns-clause-accepted
returns-clause-accepted c =
    let taker = c.in_ok-reader.field-0 in
    let r = c.finish-2.result in
    on_ok-each r (λ layouts text. StandsFor layouts text c.args.self) (λ layouts text. asc_fault_of layouts text ≡ None) (λ layouts text stands.
    let taken = c.in_ok-reader.ensures.taken layouts text stands.has in
    accepted layouts text (state_of taker.reader) r (taken-all layouts text taker taken) c.finish-2.ensures.accepted)

pub returns-clause-refused : goal.returns-clause-refused
returns-clause-refused c =
    let taker = c.in_ok-reader.field-0 in
    let r = c.finish-2.result in
    err-each r (λ layouts text. StandsFor layouts text c.args.self) (λ layouts text fault. Tells (asc_fault_of layouts text) fault) (λ layouts text stands.
    let taken = c.in_ok-reader.ensures.taken layouts text stands.has in
    told layouts text (state_of taker.reader) taker.count r (taken-all layouts text taker taken) taken.count_is c.finish-2.ensures.refused)
