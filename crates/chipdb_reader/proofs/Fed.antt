-- A reader of pieces, by the clauses of its line feed.
use Rattle.std.proofs.Common.{◌≡◌, sym, refl}
use Rattle.std.specs.Prelude.{Option, Some, None, Result, Ok, Err, IfErr, MatchResult, OnOk}
use Rattle.std.specs.Result.{result_err}
use Rattle.std.specs.declared.alloc.AllocError.{AllocError}
use Rattle.chipdb_reader.specs.declared.fault.DbFault.{DbFault}
use Rattle.chipdb_reader.specs.declared.fault.DbFault.TheVariants.{At, Memory}
use Rattle.chipdb_reader.specs.Feeding.{lack_in}

-- if nothing was refused, nothing was refused before
pub none-before : {A : Type 0} (told : Result A DbFault) (old new : Option DbFault) → ((fault : DbFault) → old ≡ Some fault → told ≡ Err fault) → IfErr told (λ fault. new ≡ Some fault) → new ≡ None → old ≡ None
none-before told None new again kept none = refl
none-before told (Some fault) new again kept none =
    let is : told ≡ Err fault = again fault refl in
    let now : new ≡ Some fault = rw is at kept in
    absurd cc

pub none-ok : {A : Type 0} (told : Result A DbFault) (old : Option DbFault) (x : A) → ((fault : DbFault) → old ≡ Some fault → told ≡ Err fault) → told ≡ Ok x → old ≡ None
none-ok told None x again ok = refl
none-ok told (Some fault) x again ok = let is : told ≡ Err fault = again fault refl in absurd cc

-- what was refused is kept
pub kept-is : {A : Type 0} (told : Result A DbFault) (new : Option DbFault) → OnOk told (new ≡ None) → IfErr told (λ fault. new ≡ Some fault) → result_err told ≡ new
kept-is (Ok x) new clear kept = sym clear
kept-is (Err fault) new clear kept = sym kept

-- out of memory is reported as such
pub lack-is : (refusal : Option DbFault) (e : AllocError) → lack_in refusal ≡ Some e → refusal ≡ Some (Memory e)
lack-is None e is = absurd cc
lack-is (Some (At line cause)) e is = absurd cc
lack-is (Some (Memory other)) e is = let same : other ≡ e = cc in rw same refl

-- and it is answered again
pub lack-again : (answer : Result (Unit {0}) AllocError) (told : Result (Unit {0}) DbFault) (e : AllocError) → MatchResult answer (λ x. lack_in (result_err told) ≡ None) (λ e. lack_in (result_err told) ≡ Some e) → told ≡ Err (Memory e) → answer ≡ Err e
lack-again (Ok x) told e answered is = let none : Some e ≡ None = rw is at answered in absurd cc
lack-again (Err other) told e answered is = let some : Some e ≡ Some other = rw is at answered in let same : other ≡ e = cc in rw same refl
