-- A module as plain data: its name, its ports and its items (IEEE Std 1364-2005, clause 12, as far as the subset has it).
use Rattle.std.specs.Prelude.{ℕ, List}
use Rattle.vlog_module.specs.declared.item.Item.{Item}
use Rattle.vlog_module.specs.declared.modules.Port.{Port}

pub record Parts : Type 0 where
  pub name : List ℕ
  pub ports : List Port
  pub items : List Item
