use Rattle.std.proofs.Common.{◌≡◌, ◌+◌, ◌++◌, drop, length}
use Rattle.text_lines.specs.Written.{text_of}
use Rattle.vlog_waves.specs.Variables.{of_kind}
use Rattle.vlog_waves.specs.Waves.{variable_lines}
use Rattle.vlog_waves.specs.inside.Declared.{kind_of, names_of_kind, shown_of_kind}
use Rattle.vlog_waves.proofs.declarations.push_items.Given as goal

abbrev pub invariant-loop-item : goal.invariant-loop-item
invariant-loop-item l = record {
  made : l.text.items ++ text_of (variable_lines l.next (of_kind (kind_of l.kind) (shown_of_kind l.names l.kind (drop l.item-index l.items))))
      ≡ l.initial.text.items ++ text_of (variable_lines l.number (of_kind (kind_of l.kind) (shown_of_kind l.names l.kind l.items)));
  all : l.next + length (names_of_kind l.kind (drop l.item-index l.items)) ≡ l.number + length (names_of_kind l.kind l.items);
}
