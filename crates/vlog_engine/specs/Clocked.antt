-- Laws of clocked items. Only impls within this crate cite this.
use Rattle.std.proofs.Common.{◌≡◌, ◌≢◌, ◌∙◌, ℕ, List, [], ◌++◌, append-nil, append_assoc, ap, sym}
use Rattle.std.specs.Prelude.{◌&&◌, nat_lt, ◌∷◌, if◌then◌else◌}
use Rattle.std.proofs.lemmas.Bool.{ne_eqb}
use Rattle.vlog_semantics.specs.declared.event.Event.{Event}
use Rattle.vlog_semantics.specs.declared.plan.FlipFlop.{FlipFlop}
use Rattle.vlog_semantics.specs.declared.plan.Read.{Read}
use Rattle.vlog_semantics.specs.declared.plan.Write.{Write}
use Rattle.vlog_semantics.specs.Run.{is_edge}
use Rattle.vlog_engine.specs.declared.groups.Group.{Group}
use Rattle.vlog_engine.specs.Flips.{flip_flops}
use Rattle.vlog_engine.specs.Groups.{Gets, flip_at, read_at, write_at}
use Rattle.vlog_engine.specs.StepKinds.Step.{at_event}
use Rattle.vlog_engine.specs.Resolved.{resolved_flip, resolved_read, resolved_write}

pub Gets-none : (group : Group) → Gets group [] [] [] group
Gets-none group = record {
  flips = sym (append-nil (flip_flops group.flips.items));
  reads = sym (append-nil group.reads.items);
  writes = sym (append-nil group.writes.items);
}

more-is : {A : Type 0} (old middle new some others : List A) → middle ≡ old ++ some → new ≡ middle ++ others → new ≡ old ++ (some ++ others)
more-is old middle new some others first next = next ∙ ap (λ list. list ++ others) first ∙ append_assoc old some others

pub Gets-more : (old middle new : Group) (flips other_flips : List FlipFlop) (reads other_reads : List Read) (writes other_writes : List Write) → Gets old flips reads writes middle
    → Gets middle other_flips other_reads other_writes new → Gets old (flips ++ other_flips) (reads ++ other_reads) (writes ++ other_writes) new
Gets-more old middle new flips other_flips reads other_reads writes other_writes first next = record {
  flips = more-is (flip_flops old.flips.items) (flip_flops middle.flips.items) (flip_flops new.flips.items) flips other_flips first.flips next.flips;
  reads = more-is old.reads.items middle.reads.items new.reads.items reads other_reads first.reads next.reads;
  writes = more-is old.writes.items middle.writes.items new.writes.items writes other_writes first.writes next.writes;
}

-- an item gives nothing at another input than the one that clocks it

pub flip-apart : (event : Event) (first bits words : ℕ) (roots : List ℕ) (flip : FlipFlop) → event.pin ≢ flip.edge.clock → flip_at (at_event event) first bits words roots flip ≡ []
flip-apart event first bits words roots flip differs =
    ap (λ same. if (same && is_edge flip.edge.falling event.bit) && nat_lt flip.target first then resolved_flip bits words roots flip ∷ [] else [])
    (ne_eqb flip.edge.clock event.pin (λ same. differs (sym same)))

pub read-apart : (event : Event) (bits words : ℕ) (roots : List ℕ) (read : Read) → event.pin ≢ read.port.edge.clock → read_at (at_event event) bits words roots read ≡ []
read-apart event bits words roots read differs =
    ap (λ same. if same && is_edge read.port.edge.falling event.bit then resolved_read bits words roots read ∷ [] else [])
    (ne_eqb read.port.edge.clock event.pin (λ same. differs (sym same)))

pub write-apart : (event : Event) (bits words : ℕ) (roots : List ℕ) (write : Write) → event.pin ≢ write.port.edge.clock → write_at (at_event event) bits words roots write ≡ []
write-apart event bits words roots write differs =
    ap (λ same. if same && is_edge write.port.edge.falling event.bit then resolved_write bits words roots write ∷ [] else [])
    (ne_eqb write.port.edge.clock event.pin (λ same. differs (sym same)))
