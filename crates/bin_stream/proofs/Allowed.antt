-- Commands that may stand one after the other, by recursion on them.
use Rattle.std.proofs.Common.{◌≡◌, ℕ, zero, suc, List, [], ◌∷◌, ◌++◌, take, slice_get, Some, append_assoc, append-nil, refl, sym, subst}
use Rattle.bin_stream.specs.Commands.{Command}
use Rattle.bin_stream.specs.Refusals.{IsAllowedAfter}
use Rattle.bin_stream.specs.Spelling.{IsAllowed}

-- each command may stand after those given and those before it
abbrev pub Follows : List Command → List Command → Type 0
Follows before [] = Unit {0}
Follows before (command ∷ commands) = IsAllowedAfter before command × Follows (before ++ command ∷ []) commands

-- the same by places
abbrev pub AreAllowedAfter : List Command → List Command → Type 0
AreAllowedAfter before commands = (k : ℕ) (command : Command) → slice_get commands k ≡ Some command → IsAllowedAfter (before ++ take k commands) command

-- from the places to the recursion
Follows-from_places : (before commands : List Command) → AreAllowedAfter before commands → Follows before commands
Follows-from_places before [] allowed = tt
Follows-from_places before (command ∷ commands) allowed = (
  subst (λ all. IsAllowedAfter all command) (append-nil before) (allowed 0 command refl),
  Follows-from_places (before ++ command ∷ []) commands (λ k next is.
      subst (λ all. IsAllowedAfter all next) (sym (append_assoc before (command ∷ []) (take k commands))) (allowed (suc k) next is)),
)

-- from the recursion to the places
places-from_Follows : (before commands : List Command) → Follows before commands → AreAllowedAfter before commands
places-from_Follows before [] follows k command is = absurd cc
places-from_Follows before (first ∷ commands) follows zero command is =
    let same : first ≡ command = cc in
    subst (λ c. IsAllowedAfter (before ++ []) c) same (subst (λ all. IsAllowedAfter all first) (sym (append-nil before)) follows.0)
places-from_Follows before (first ∷ commands) follows (suc k) command is =
    subst (λ all. IsAllowedAfter all command) (append_assoc before (first ∷ []) (take k commands))
    (places-from_Follows (before ++ first ∷ []) commands follows.1 k command is)

-- allowed commands stand one after the other
pub Follows-from_IsAllowed : (commands : List Command) → IsAllowed commands → Follows [] commands
Follows-from_IsAllowed commands allowed = Follows-from_places [] commands allowed

-- commands that stand one after the other are allowed
pub IsAllowed-from_Follows : (commands : List Command) → Follows [] commands → IsAllowed commands
IsAllowed-from_Follows commands follows = places-from_Follows [] commands follows

-- commands before others
pub Follows-left : (before commands more : List Command) → Follows before (commands ++ more) → Follows before commands
Follows-left before [] more follows = tt
Follows-left before (command ∷ commands) more follows = (follows.0, Follows-left (before ++ command ∷ []) commands more follows.1)

-- commands after others
pub Follows-right : (before commands more : List Command) → Follows before (commands ++ more) → Follows (before ++ commands) more
Follows-right before [] more follows = subst (λ all. Follows all more) (sym (append-nil before)) follows
Follows-right before (command ∷ commands) more follows =
    subst (λ all. Follows all more) (append_assoc before (command ∷ []) commands)
    (Follows-right (before ++ command ∷ []) commands more follows.1)

-- another command after them
pub Follows-push : (before commands : List Command) (command : Command) → Follows before commands → IsAllowedAfter (before ++ commands) command → Follows before (commands ++ command ∷ [])
Follows-push before [] command follows allowed = (subst (λ all. IsAllowedAfter all command) (append-nil before) allowed, tt)
Follows-push before (first ∷ commands) command follows allowed = (
  follows.0,
  Follows-push (before ++ first ∷ []) commands command follows.1 (subst (λ all. IsAllowedAfter all command) (sym (append_assoc before (first ∷ []) commands)) allowed),
)
