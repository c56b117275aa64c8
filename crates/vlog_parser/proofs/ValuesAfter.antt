-- The names of values: those of the first value, and those of the values after it.
use Rattle.std.proofs.Common.{◌≡◌, ◌≤◌, ◌+◌, ◌-◌, ℕ, List, [], ◌∷◌, ◌++◌, length, take, drop, get_or, take_all, ap, sym, arith}
use Rattle.vlog_forms.specs.Outcome.{value_uses, uses_from}
use Rattle.vlog_forms.specs.Reading.{values_of}
use Rattle.vlog_forms.specs.Values.{Value, seen}
use Rattle.vlog_form_parser.specs.declared.found.Found.{Found}
use Rattle.vlog_form_parser.specs.Found.{all_found}

pub uses-first : (more : List Found) (default : Found) (all : List Value) (place : ℕ) → 1 ≤ length more
    → uses_from all place (values_of (all_found more))
    ≡ value_uses (seen (get_or more 0 default).value) all place ++ uses_from all (place + 1) (values_of (all_found (take (length more - 1) (drop 1 more))))
uses-first [] default all place some = absurd (omega arith)
uses-first (one ∷ rest) default all place some =
    let within : length rest ≤ length (one ∷ rest) - 1 = omega arith in
    ap (λ list. value_uses (seen one.value) all place ++ uses_from all (place + 1) (values_of (all_found list))) (sym (take_all (length (one ∷ rest) - 1) rest within))
