-- What a step runs: the clocked items that may have their edge, over cells.
use Rattle.std.specs.Prelude.{◌≡◌, ℕ, ◌<◌, Bool, ◌&&◌, List, [], ◌∷◌, ◌++◌, flat_map, get_or, length, nat_lt, if◌then◌else◌}
use Rattle.vlog_semantics.specs.declared.event.Event.{Event}
use Rattle.vlog_semantics.specs.declared.plan.FlipFlop.{FlipFlop}
use Rattle.vlog_semantics.specs.declared.plan.Read.{Read}
use Rattle.vlog_semantics.specs.declared.plan.Write.{Write}
use Rattle.vlog_semantics.specs.declared.plan.Plan.{Plan}
use Rattle.vlog_engine.specs.Flips.{flip_flops}
use Rattle.vlog_engine.specs.StepKinds.{Step, picks}
use Rattle.vlog_engine.specs.declared.groups.Group.{Group}
use Rattle.vlog_engine.specs.Resolved.{resolved_flip, resolved_read, resolved_write}

-- a flip-flop that may have its edge, if its register comes before the first wire
abbrev pub flip_at : Step → ℕ → ℕ → ℕ → List ℕ → FlipFlop → List FlipFlop
flip_at step first bits words roots flip =
    if picks step flip.edge && nat_lt flip.target first then resolved_flip bits words roots flip ∷ [] else []

abbrev pub read_at : Step → ℕ → ℕ → List ℕ → Read → List Read
read_at step bits words roots read = if picks step read.port.edge then resolved_read bits words roots read ∷ [] else []

abbrev pub write_at : Step → ℕ → ℕ → List ℕ → Write → List Write
write_at step bits words roots write = if picks step write.port.edge then resolved_write bits words roots write ∷ [] else []

pub record IsGroup (step : Step) (first bits words : ℕ) (roots : List ℕ) (plan : Plan) (group : Group) : Type 0 where
  pub flips : flip_flops group.flips.items ≡ flat_map (flip_at step first bits words roots) plan.flips.items
  pub reads : group.reads.items ≡ flat_map (read_at step bits words roots) plan.reads.items
  pub writes : group.writes.items ≡ flat_map (write_at step bits words roots) plan.writes.items

-- ---- the groups of all inputs, one after another

-- the event that this input gets this bit
abbrev pub event_of : ℕ → Bool → Event
event_of pin bit = record { pin = pin; bit = bit }

pub record IsEmpty (group : Group) : Type 0 where
  pub flips : group.flips.items ≡ []
  pub reads : group.reads.items ≡ []
  pub writes : group.writes.items ≡ []

-- a group gets items more
pub record Gets (old : Group) (more_flips : List FlipFlop) (more_reads : List Read) (more_writes : List Write) (new : Group) : Type 0 where
  pub flips : flip_flops new.flips.items ≡ flip_flops old.flips.items ++ more_flips
  pub reads : new.reads.items ≡ old.reads.items ++ more_reads
  pub writes : new.writes.items ≡ old.writes.items ++ more_writes

-- the group of each input gets what is given at that input
pub record EachGets {A : Type 0} (Gets : Group → List A → Group → Type 0) (given : ℕ → List A) (old new : List Group) : Type 0 where
  pub count_is : length new ≡ length old
  pub each : (pin : ℕ) (none : Group) → pin < length old → Gets (get_or old pin none) (given pin) (get_or new pin none)
