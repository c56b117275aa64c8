use Rattle.std.proofs.Common.{◌≡◌, ◌+◌, ◌<◌, ◌≤◌, length, refl, sym, subst, arith}
use Rattle.boot_file.specs.Parts.{part_end}
use Rattle.boot_file.proofs.Ends.{IsEnd, end-first, end-nearer, end-kept, part_end-bounds, part_end-is}
use Rattle.boot_file.proofs.parts.part_end.Goals.{then-address-other+then-other-end, else-address-other, else-address-other-via-then-address-other+else-other-end, else-address-other-via-else-address-other}
use Rattle.boot_file.proofs.parts.part_end.Goals as goal

pub loop-entry-init : goal.loop-entry-init
loop-entry-init c = end-first c.args.bytes.now c.args.address _ refl

pub loop-entry-preserved : goal.loop-entry-preserved
loop-entry-preserved c =
    let bytes = c.args.bytes.now in
    let address = c.args.address in
    let other = c.entry_address-other.result in
    let old = c.loop-entry.end in
    elim c.if-address-other.branch [
      | then-address-other+then-other-end w ↦
          subst (IsEnd bytes address (c.loop-entry.entry + 1)) (sym w.end-is)
          (end-nearer bytes address c.loop-entry.entry old other c.loop-entry-test.true c.entry_address-other.ensures w.if-address-other.true w.if-other-end.true c.loop-entry.invariant)
      | else-address-other w ↦
          subst (IsEnd bytes address (c.loop-entry.entry + 1)) (sym w.end-is)
          (end-kept bytes address c.loop-entry.entry old other c.entry_address-other.ensures
          (λ after. elim w.else-address-other.branch [
            | else-address-other-via-then-address-other+else-other-end w ↦ w.if-other-end.false
            | else-address-other-via-else-address-other w ↦ absurd (omega (arith, w.if-address-other.false))
          ])
          c.loop-entry.invariant)
    ]

-- the end that was found
found : (c : goal.After-loop-entry) → c.loop-entry.end ≡ part_end c.args.bytes.now c.args.address
found c =
    let all : c.loop-entry.entry ≡ 4 = omega (arith, c.loop-entry.auto.entry-end, c.loop-entry-test.false) in
    sym (part_end-is c.args.bytes.now c.args.address c.loop-entry.end (subst (λ count. IsEnd c.args.bytes.now c.args.address count c.loop-entry.end) all c.loop-entry.invariant))

pub returns-clause-is : goal.returns-clause-is
returns-clause-is c = found c

pub returns-clause-after : goal.returns-clause-after
returns-clause-after c = subst (λ end. c.args.address < end) (sym (found c)) (part_end-bounds c.args.bytes.now c.args.address c.requires.within).0

pub returns-clause-inside : goal.returns-clause-inside
returns-clause-inside c = subst (λ end. end ≤ length c.args.bytes.now) (sym (found c)) (part_end-bounds c.args.bytes.now c.args.address c.requires.within).1
