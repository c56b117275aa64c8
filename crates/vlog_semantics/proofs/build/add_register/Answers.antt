use Rattle.std.proofs.Common.{◌≡◌, ◌+◌, ◌∷◌, ◌++◌, [], arith, length, sym, subst}
use Rattle.vlog_module.specs.declared.item.Item.{Item}
use Rattle.vlog_semantics.specs.Named.{names_of}
use Rattle.vlog_semantics.specs.Numbered.{numbered}
use Rattle.vlog_semantics.specs.Run.{register_start}
use Rattle.vlog_semantics.specs.Slots.{Finds}
use Rattle.vlog_semantics.proofs.Holding.{Finds-next, held-length, on-ok}
use Rattle.vlog_semantics.proofs.build.add_register.Goals as goal

pub returns-in_ok-add-in-Register-clause-registers : goal.returns-in_ok-add-in-Register-clause-registers
returns-in_ok-add-in-Register-clause-registers c entries from names holds finds size =
    let slot : c.len.result ≡ from + length names = omega (arith, c.len.ensures, c.args.bits.now.values.ok.0, held-length c.args.bits.now entries holds, size) in
    on-ok c.add-in-Register.result
    (subst (λ (item : Item). Finds c.add.new.self (numbered from (names ++ names_of (register_start item)))) (sym c.in-Register.is)
    (subst (λ name. Finds c.add.new.self (numbered from (names ++ name ∷ []))) c.bytes.ensures.bytes
    (Finds-next c.add.new.self from names c.bytes.result.now c.len.result slot (c.in_ok-add-in-Register.ensures (numbered from names) finds))))
