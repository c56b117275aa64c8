-- What a lane has once registers of 16 bits have theirs, and once clocked items have acted.
use Rattle.std.proofs.Common.{◌≡◌, ℕ, Bool, true, false, cond, List, [], ap, fold, refl, subst, sym, ◌∙◌}
use Rattle.std.specs.Prelude.{map}
use Rattle.vlog_semantics.specs.Steps.{put_written, read_slot, written_by}
use Rattle.vlog_engine.specs.StepKinds.{Step, slots_of}
use Rattle.vlog_engine.specs.declared.groups.Group.{Group}
use Rattle.vlog_engine.specs.Passing.{IsClocked, IsStored}

-- the definition, at equal lists
pub stored-like : (active : Bool) (bits : ℕ) (step : Step) (group : Group) (words words_from next_words next_words_now : List ℕ) (memories memories_from next_memories next_memories_now : List (List ℕ)) (before before_from after after_now : List Bool)
    → IsStored active bits step group words_from next_words memories_from next_memories before_from after
    → words_from ≡ words → next_words ≡ next_words_now → memories_from ≡ memories → next_memories ≡ next_memories_now → before_from ≡ before → after ≡ after_now
    → IsStored active bits step group words next_words_now memories next_memories_now before after_now
stored-like active bits step group words words_from next_words next_words_now memories memories_from next_memories next_memories_now before before_from after after_now stored words_are next_are memories_are next_memories_are before_is after_is =
    subst (λ w. IsStored active bits step group w next_words_now memories next_memories_now before after_now) words_are
    (subst (λ w. IsStored active bits step group words_from w memories next_memories_now before after_now) next_are
    (subst (λ m. IsStored active bits step group words_from next_words m next_memories_now before after_now) memories_are
    (subst (λ m. IsStored active bits step group words_from next_words memories_from m before after_now) next_memories_are
    (subst (λ c. IsStored active bits step group words_from next_words memories_from next_memories c after_now) before_is
    (subst (λ c. IsStored active bits step group words_from next_words memories_from next_memories before_from c) after_is stored)))))

pub clocked-like : (bits : ℕ) (step : Step) (group : Group) (words words_from next_words next_words_now : List ℕ) (memories memories_from next_memories next_memories_now : List (List ℕ)) (before before_from after after_now : List Bool)
    → IsClocked true bits step group words_from next_words memories_from next_memories before_from after
    → words_from ≡ words → next_words ≡ next_words_now → memories_from ≡ memories → next_memories ≡ next_memories_now → before_from ≡ before → after ≡ after_now
    → IsClocked true bits step group words next_words_now memories next_memories_now before after_now
clocked-like bits step group words words_from next_words next_words_now memories memories_from next_memories next_memories_now before before_from after after_now clocked words_are next_are memories_are next_memories_are before_is after_is =
    subst (λ w. IsClocked true bits step group w next_words_now memories next_memories_now before after_now) words_are
    (subst (λ w. IsClocked true bits step group words_from w memories next_memories_now before after_now) next_are
    (subst (λ m. IsClocked true bits step group words_from next_words m next_memories_now before after_now) memories_are
    (subst (λ m. IsClocked true bits step group words_from next_words memories_from m before after_now) next_memories_are
    (subst (λ c. IsClocked true bits step group words_from next_words memories_from next_memories c after_now) before_is
    (subst (λ c. IsClocked true bits step group words_from next_words memories_from next_memories before_from c) after_is clocked)))))

-- the cells of a lane that isn't active stay
pub clocked-idle : (active : Bool) (bits : ℕ) (step : Step) (group : Group) (words next_words : List ℕ) (memories next_memories : List (List ℕ)) (before after : List Bool)
    → IsClocked active bits step group words next_words memories next_memories before after → active ≡ false
    → (next_words ≡ words) × ((next_memories ≡ memories) × (after ≡ before))
clocked-idle true bits step group words next_words memories next_memories before after clocked off = absurd cc
clocked-idle false bits step group words next_words memories next_memories before after clocked off =
    (clocked.known.words_are, (clocked.known.memories_are, clocked.are ∙ clocked.known.idle refl))

-- a lane that isn't active
pub stored-idle : (bits : ℕ) (step : Step) (group : Group) (words : List ℕ) (memories : List (List ℕ)) (cells : List Bool) → IsStored false bits step group words words memories memories cells cells
stored-idle bits step group words memories cells = record { words_are = refl; memories_are = refl; size = refl; parts = λ were. were; same = λ cell out. refl; idle = λ off. refl }

-- a step that runs no reads and no writes
pub stored-none : (active : Bool) (bits : ℕ) (step : Step) (group : Group) (words : List ℕ) (memories : List (List ℕ)) (cells : List Bool) → group.reads.items ≡ [] → group.writes.items ≡ []
    → IsStored active bits step group words words memories memories cells cells
stored-none true bits step group words memories cells no_reads no_writes = record {
  words_are = sym (ap (fold (read_slot (slots_of step) cells [] memories) words) no_reads);
  memories_are = sym (ap (λ list. fold put_written memories (map (written_by (slots_of step) cells [] memories) list)) no_writes);
  size = refl;
  parts = λ were. were;
  same = λ cell out. refl;
  idle = λ off. refl;
}
stored-none false bits step group words memories cells no_reads no_writes = stored-idle bits step group words memories cells

-- two steps that are taken in an active lane alone
pub twice-in : {A : Type 0} (active : Bool) (first start : A) (next : A → A) → cond active (next (cond active first start)) (cond active first start) ≡ cond active (next first) start
twice-in true first start next = refl
twice-in false first start next = refl
