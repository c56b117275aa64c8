use Rattle.std.proofs.Common.{◌+◌, ◌<◌, ◌≤◌, ◌^◌, ℕ, length, take, Ok, Err, IfOk, Result}
use Rattle.ice_io.specs.KeptFile.{IsKept}
use Rattle.ice_io.proofs.kept_file.read_part.Goals as goal
use Rattle.ice_io.proofs.kept_file.read_part.Goals.{then-not-stands_at+in-Some, else-not-stands_at}

-- what holds of a success under a premise, with the premise behind another
later : {E S : Type 0} (P Q X : ℕ → Type 0) (r : Result ℕ E) → (S → IfOk r (λ n. P n → Q n → X n)) → IfOk r (λ n. P n → S → Q n → X n)
later P Q X (Ok n) holds = λ p s q. holds s p q
later P Q X (Err e) holds = tt

pub returns-clause-kept : goal.returns-clause-kept
returns-clause-kept g c =
    let name = c.args.name.now in
    let old = c.if-not-stands_at.kept in
    let new = c.read_on.new.self in
    let stands : length name ≤ 4095 → IsKept old.file (take old.name_len old.name) old.place name c.args.at = λ short.
    elim c.if-not-stands_at.branch [
      | then-not-stands_at+in-Some w ↦ rw w.kept-is (w.keep.ensures.kept short)
      | else-not-stands_at w ↦ rw w.kept-is (c.stands_at.ensures.0 w.if-not-stands_at.false)
    ] in
    later (λ n. 0 < n) (λ n. c.args.at + n < 2 ^ 64) (λ n. IsKept new.file (take new.name_len new.name) new.place name (c.args.at + n)) c.read_on.result
    (λ short. c.read_on.ensures.kept name c.args.at (stands short))
