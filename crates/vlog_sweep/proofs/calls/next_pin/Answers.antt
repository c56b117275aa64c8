use Rattle.std.proofs.Common.{◌≡◌, ◌<◌, inl, inr, ap, arith, get_or, length, sym, ◌∙◌}
use Rattle.std.proofs.lemmas.Bool.{cases_eq}
use Rattle.std.proofs.lemmas.List.{get_or_read}
use Rattle.vlog_sweep.specs.Strands.{is_on, left_of, next_of}
use Rattle.vlog_sweep.specs.declared.strand.Strand.{Strand}
use Rattle.vlog_sweep.proofs.Runs.{pin-none, pin-on}
use Rattle.vlog_sweep.proofs.calls.next_pin.Goals as goal
use Rattle.vlog_sweep.proofs.calls.next_pin.Goals.{then-left-most, else-left-most}

pub loop-strand-preserved : goal.loop-strand-preserved
loop-strand-preserved c =
    let strands = c.args.strands.now in
    let i = c.loop-strand.strand-index in
    let inv = c.loop-strand.invariant in
    let item : Strand = c.strand-item.result in
    let within : i < length strands = omega arith in
    let found : (d : Strand) → get_or strands i d ≡ item = λ d. sym (get_or_read strands i item within c.strand-item.is d) in
    elim c.if-left-most.branch [
      | then-left-most w ↦ record {
        none = λ no. absurd (omega (
          arith,
          w.if-left-most.true,
          c.left.ensures,
          pin-none item.taken item.list.now.events.items (sym w.next_input-pin.ensures ∙ sym w.pin-is ∙ no),
        ));
        most = λ k d below. elim (cases_eq k i) [
          | inl same ↦ omega (arith, ap left_of (ap (λ j. get_or strands j d) same ∙ found d), w.left-most.ensures, w.most-is)
          | inr apart ↦ omega (arith, inv.most k d (omega (arith, apart, below)), w.if-left-most.true, c.left.ensures, w.left-most.ensures, w.most-is)
        ];
        some = λ pin is. (
          i,
          omega arith,
          λ d. ap (λ s. is_on pin (next_of s)) (found d)
              ∙ pin-on pin item.taken item.list.now.events.items (sym w.next_input-pin.ensures ∙ sym w.pin-is ∙ is),
        );
      }
      | else-left-most w ↦ record {
        none = λ no. w.most-is ∙ inv.none (sym w.pin-is ∙ no);
        most = λ k d below. elim (cases_eq k i) [
          | inl same ↦ omega (arith, ap left_of (ap (λ j. get_or strands j d) same ∙ found d), c.left.ensures, w.if-left-most.false, w.most-is)
          | inr apart ↦ omega (arith, inv.most k d (omega (arith, apart, below)), w.most-is)
        ];
        some = λ pin is.
            let before = inv.some pin (sym w.pin-is ∙ is) in
            (before.0, omega (arith, before.1), before.2);
      }
    ]
