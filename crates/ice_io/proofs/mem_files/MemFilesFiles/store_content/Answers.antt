use Rattle.std.proofs.Common.{◌≡◌, false, Err, ap}
use Rattle.std.specs.Prelude.{IsErrOf}
use Rattle.ice_io.specs.declared.files.ContentFault.{ContentFault}
use Rattle.ice_io.specs.declared.files.ContentFault.TheVariants.{Store}
use Rattle.ice_io.specs.declared.files.StoreFault.{StoreFault}
use Rattle.ice_io.specs.declared.files.StoreFault.TheVariants.{Failed}
use Rattle.ice_io.proofs.mem_files.MemFilesFiles.store_content.Goals as goal

-- storing content fails as the store does
store_fault : (fault other : StoreFault) → IsErrOf {T = Unit {0}} {E = ContentFault} (Err (Store fault)) (Store other) → IsErrOf {T = Unit {0}} {E = StoreFault} (Err fault) other
store_fault fault other is = let same : fault ≡ other = cc in ap (λ f. Err f) same

content_fault : (fault other : StoreFault) → IsErrOf {T = Unit {0}} {E = StoreFault} (Err fault) other → IsErrOf {T = Unit {0}} {E = ContentFault} (Err (Store fault)) (Store other)
content_fault fault other is = let same : fault ≡ other = cc in ap (λ f. Err (Store f)) same

pub returns-in-Err-clause-fails : goal.returns-in-Err-clause-fails
returns-in-Err-clause-fails g c =
    (λ is. c.in-Err.ensures.fails.0 (store_fault c.in-Err.fault (Failed false 0) is), λ fails. content_fault c.in-Err.fault (Failed false 0) (c.in-Err.ensures.fails.1 fails))
