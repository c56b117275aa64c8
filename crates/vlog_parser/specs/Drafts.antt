-- A module that is being read, and what is kept of its names.
use Rattle.std.specs.Prelude.{◌≡◌}
use Rattle.vlog_module.specs.Parts.{Parts}
use Rattle.vlog_module.specs.WellFormed.{Scope, scope_of}
use Rattle.vlog_forms.specs.Outcome.{module_of}
use Rattle.vlog_parser.specs.Scopes.{Holds}
use Rattle.vlog_parser.specs.declared.draft.Draft.{Draft}

-- the module as far as it is read
abbrev pub so_far : Draft → Parts
so_far draft = module_of draft.name draft.ports.items draft.items.items

-- the scope of the next item
abbrev pub next_scope : Parts → Scope
next_scope m = scope_of m.ports m.items

-- the section and the names that are kept are those of the module as far as it is read
pub record IsKept (draft : Draft) : Type 0 where
  pub section : draft.section ≡ (next_scope (so_far draft)).section
  pub names : Holds draft.names (next_scope (so_far draft))
