use Rattle.std.proofs.Common.{◌<◌, ◌==◌, ◌^◌, arith, ap, sym, inl, inr}
use Rattle.std.proofs.Math.Nat.{mod-eq_of_lt}
use Rattle.std.proofs.lemmas.Bool.{cases_lt}
use Rattle.fabric_wiring.proofs.rams.is_data_bit.Goals as goal

pub returns-in-None : goal.returns-in-None
returns-in-None c =
    let big = rw (c.in-None.is, c.from.ensures) at c.checked_pow.ensures in
    let inside : c.args.place < 2 ^ c.args.mode = elim (cases_lt (2 ^ c.args.mode) 256) [
      | inl less ↦ absurd (big less)
      | inr more ↦ omega (arith, more, c.ranges.place.fits)
    ] in
    sym (ap (λ n. n == 0) (mod-eq_of_lt inside))
