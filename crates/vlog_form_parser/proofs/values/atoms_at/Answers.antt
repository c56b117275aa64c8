use Rattle.std.proofs.Common.{◌≡◌, ℕ, ◌+◌, ◌-◌, ◌++◌, List, reverse, ap, sym, ◌∙◌, arith}
use Rattle.std.proofs.lemmas.List.{append-nil}
use Rattle.vlog_forms.specs.Values.{Value}
use Rattle.vlog_forms.specs.Items.{atom_in, atoms_in, following}
use Rattle.vlog_forms.specs.Reading.{values_of}
use Rattle.vlog_form_parser.specs.Found.{all_found}
use Rattle.vlog_form_parser.proofs.ValuesAt.{after-next, atoms-push}
use Rattle.vlog_form_parser.proofs.values.atoms_at.Goals as goal

pub loop-left-preserved : goal.loop-left-preserved
loop-left-preserved c =
    let v : List Value = values_of (all_found c.args.values.now) in
    let left : ℕ = c.loop-left.left - 1 in
    let one : c.in_ok-atom_at.field-0 ≡ atom_in (following left (following c.args.place v)) = c.in_ok-atom_at.ensures ∙ ap atom_in (after-next v c.args.place left) in
    let count : left + 1 ≡ c.loop-left.left = omega arith in
    record {
      within = omega arith;
      rest = atoms-push c.loop-left.atoms c.push.new.self c.in_ok-atom_at.field-0 (following c.args.place v) left c.in_ok-push.ensures.pushed one
          ∙ ap (λ n. c.loop-left.atoms ++ reverse (atoms_in n (following c.args.place v))) count
          ∙ c.loop-left.invariant.rest;
    }

pub returns : goal.returns
unfolding atoms_in
returns c =
    let v : List Value = values_of (all_found c.args.values.now) in
    let none : c.loop-left.left ≡ 0 = omega arith in
    sym (append-nil c.loop-left.atoms) ∙ ap (λ n. c.loop-left.atoms ++ reverse (atoms_in n (following c.args.place v))) (sym none) ∙ c.loop-left.invariant.rest
