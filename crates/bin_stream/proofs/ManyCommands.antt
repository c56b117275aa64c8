-- Commands read one after the other: allowed ones as they are spelled, and back.
use Rattle.std.proofs.Common.{◌≡◌, ℕ, zero, suc, ◌+◌, ◌-◌, ◌<◌, ◌≤◌, ◌⊎◌, true, false, List, [], ◌∷◌, ◌++◌, length, Option, Some, None, Ok, Err, length-append, append_assoc, append-nil, refl, sym, ap, ap₂, ◌∙◌, inl, inr, arith}
use Rattle.std.proofs.lemmas.Bool.{cases_Bool}
use Rattle.std.proofs.lemmas.List.{drop_at}
use Rattle.std.proofs.lemmas.List.Elements.{All-nil, All-cons, All-head, All-tail}
use Rattle.std.proofs.lemmas.List.Concat.{flat_map-append}
use Rattle.bin_stream.specs.Commands.{Command, Short, Data, spelling, spelled, is_wake_up}
use Rattle.bin_stream.specs.Refusals.{Fault, first_fault, IsAllowedAfter}
use Rattle.bin_stream.specs.Spelling.{commands_from, NoWakeUp}
use Rattle.bin_stream.proofs.OneCommand.{Begins, first_fault-none, first_command-is, first_fault-begins}
use Rattle.bin_stream.proofs.Allowed.{Follows, Follows-left, Follows-right}

-- ---- one step

-- an allowed command that isn't the wake-up, and what follows
step-on : (most : ℕ) (before : List Command) (place : ℕ) (command : Command) (rest : List ℕ) → IsAllowedAfter before command → is_wake_up command ≡ false → commands_from (suc most) before place (spelling command ++ rest) ≡ commands_from most (before ++ command ∷ []) (place + length (spelling command)) rest
unfolding commands_from
step-on most before place command rest allowed awake =
    rw (first_fault-none before command place rest allowed, first_command-is before command rest allowed, awake, drop_at (spelling command) rest (length (spelling command)) refl) refl

-- the wake-up
step-last : (most : ℕ) (before : List Command) (place : ℕ) (command : Command) (rest : List ℕ) → IsAllowedAfter before command → is_wake_up command ≡ true → commands_from (suc most) before place (spelling command ++ rest) ≡ Ok (before ++ command ∷ [])
unfolding commands_from
step-last most before place command rest allowed wakes =
    rw (first_fault-none before command place rest allowed, first_command-is before command rest allowed, wakes) refl

-- a fault
step-wrong : (most : ℕ) (before : List Command) (place : ℕ) (fault : Fault) (rest : List ℕ) → first_fault before place rest ≡ Some fault → commands_from (suc most) before place rest ≡ Err fault
unfolding commands_from
step-wrong most before place fault rest wrong = rw wrong refl

-- ---- commands as they are spelled

-- a command has a byte at least
spelling-some : (command : Command) → 1 ≤ length (spelling command)
spelling-some (Short opcode payload) = omega arith
spelling-some (Data kind payload body) = omega arith

-- there are no more commands than bytes
pub length-spelled : (commands : List Command) → length commands ≤ length (spelled commands)
unfolding spelled
length-spelled [] = omega arith
length-spelled (command ∷ commands) = omega (arith, length-append (spelling command) (spelled commands), spelling-some command, length-spelled commands)

-- commands and others after them
spelled-append : (commands more : List Command) → spelled (commands ++ more) ≡ spelled commands ++ spelled more
unfolding spelled
spelled-append commands more = flat_map-append spelling commands more

-- one command alone
spelled-one : (command : Command) → spelled (command ∷ []) ≡ spelling command
unfolding spelled
spelled-one command = append-nil (spelling command)

-- one command more
pub spelled-push : (commands : List Command) (command : Command) → spelled (commands ++ command ∷ []) ≡ spelled commands ++ spelling command
spelled-push commands command = spelled-append commands (command ∷ []) ∙ ap (λ bytes. spelled commands ++ bytes) (spelled-one command)

-- allowed commands without a wake-up are read as they are spelled
pub commands_from-run : (most : ℕ) (before commands : List Command) (place : ℕ) (rest : List ℕ) → Follows before commands → NoWakeUp commands → commands_from (length commands + most) before place (spelled commands ++ rest) ≡ commands_from most (before ++ commands) (place + length (spelled commands)) rest
unfolding spelled
commands_from-run most before [] place rest follows awake =
    let count : 0 + most ≡ most = omega arith in
    let there : place + 0 ≡ place = omega arith in
    rw (count, there, append-nil before) refl
commands_from-run most before (command ∷ commands) place rest follows awake =
    let count : length (command ∷ commands) + most ≡ suc (length commands + most) = omega arith in
    let there : place + length (spelling command) + length (spelled commands) ≡ place + length (spelling command ++ spelled commands) = omega (arith, length-append (spelling command) (spelled commands)) in
    ap (λ n. commands_from n before place (spelled (command ∷ commands) ++ rest)) count
    ∙ ap (commands_from (suc (length commands + most)) before place) (append_assoc (spelling command) (spelled commands) rest)
    ∙ step-on (length commands + most) before place command (spelled commands ++ rest) follows.0 (All-head (λ c. is_wake_up c ≡ false) command commands awake)
    ∙ commands_from-run most (before ++ command ∷ []) commands (place + length (spelling command)) rest follows.1 (All-tail (λ c. is_wake_up c ≡ false) command commands awake)
    ∙ ap₂ (λ all n. commands_from most all n rest) (append_assoc before (command ∷ []) commands) there

-- allowed commands with a wake-up after them
pub commands_from-woken : (most : ℕ) (commands : List Command) (wake_up : Command) (place : ℕ) (rest : List ℕ) → Follows [] (commands ++ wake_up ∷ []) → NoWakeUp commands → is_wake_up wake_up ≡ true → length commands < most → commands_from most [] place (spelled (commands ++ wake_up ∷ []) ++ rest) ≡ Ok (commands ++ wake_up ∷ [])
commands_from-woken most commands wake_up place rest follows awake wakes enough =
    let m = most - length commands - 1 in
    let count : most ≡ length commands + suc m = omega arith in
    let same : spelled (commands ++ wake_up ∷ []) ++ rest ≡ spelled commands ++ (spelling wake_up ++ rest) = ap (λ bytes. bytes ++ rest) (spelled-push commands wake_up) ∙ append_assoc (spelled commands) (spelling wake_up) rest in
    ap₂ (λ n bytes. commands_from n [] place bytes) count same
    ∙ commands_from-run (suc m) [] commands place (spelling wake_up ++ rest) (Follows-left [] commands (wake_up ∷ []) follows) awake
    ∙ step-last m commands (place + length (spelled commands)) wake_up rest (Follows-right [] commands (wake_up ∷ []) follows).0 wakes

-- allowed commands with a fault after them
pub commands_from-failed : (most : ℕ) (commands : List Command) (fault : Fault) (place : ℕ) (rest : List ℕ) → Follows [] commands → NoWakeUp commands → first_fault commands (place + length (spelled commands)) rest ≡ Some fault → length commands < most → commands_from most [] place (spelled commands ++ rest) ≡ Err fault
commands_from-failed most commands fault place rest follows awake wrong enough =
    let m = most - length commands - 1 in
    let count : most ≡ length commands + suc m = omega arith in
    ap (λ n. commands_from n [] place (spelled commands ++ rest)) count
    ∙ commands_from-run (suc m) [] commands place rest follows awake
    ∙ step-wrong m commands (place + length (spelled commands)) fault rest wrong

-- ---- commands that are read

-- commands up to a wake-up, after others
pub record Woken (before : List Command) (bytes : List ℕ) (all : List Command) : Type 0 where
  pub commands : List Command
  pub wake_up : Command
  pub tail : List ℕ
  pub all_is : all ≡ before ++ (commands ++ wake_up ∷ [])
  pub spelled_is : bytes ≡ spelled (commands ++ wake_up ∷ []) ++ tail
  pub follows : Follows before (commands ++ wake_up ∷ [])
  pub awake : NoWakeUp commands
  pub wakes : is_wake_up wake_up ≡ true

-- commands up to a fault, after others
pub record Failed (before : List Command) (place : ℕ) (bytes : List ℕ) (fault : Fault) : Type 0 where
  pub commands : List Command
  pub rest : List ℕ
  pub spelled_is : bytes ≡ spelled commands ++ rest
  pub follows : Follows before commands
  pub awake : NoWakeUp commands
  pub wrong : first_fault (before ++ commands) (place + length (spelled commands)) rest ≡ Some fault

-- a fault or none
cases_fault : (found : Option Fault) → (found ≡ None) ⊎ ((fault : Fault) × (found ≡ Some fault))
cases_fault None = inl refl
cases_fault (Some fault) = inr (fault, refl)

-- a wake-up that comes first
woken-last : (before : List Command) (bytes : List ℕ) (all : List Command) (begins : Begins before bytes) → is_wake_up begins.command ≡ true → before ++ begins.command ∷ [] ≡ all → Woken before bytes all
woken-last before bytes all begins wakes is = record {
  commands = [];
  wake_up = begins.command;
  tail = begins.rest;
  all_is = sym is;
  spelled_is = begins.spelled_is ∙ ap (λ spelling. spelling ++ begins.rest) (sym (spelled-one begins.command));
  follows = (begins.allowed, tt);
  awake = All-nil (λ c. is_wake_up c ≡ false);
  wakes = wakes;
}

-- a wake-up after another command
woken-more : (before : List Command) (bytes : List ℕ) (all : List Command) (begins : Begins before bytes) → is_wake_up begins.command ≡ false → Woken (before ++ begins.command ∷ []) begins.rest all → Woken before bytes all
unfolding spelled
woken-more before bytes all begins awake later =
    let command = begins.command in
    record {
      commands = command ∷ later.commands;
      wake_up = later.wake_up;
      tail = later.tail;
      all_is = later.all_is ∙ append_assoc before (command ∷ []) (later.commands ++ later.wake_up ∷ []);
      spelled_is =
          begins.spelled_is ∙ ap (λ rest. spelling command ++ rest) later.spelled_is
          ∙ sym (append_assoc (spelling command) (spelled (later.commands ++ later.wake_up ∷ [])) later.tail);
      follows = (begins.allowed, later.follows);
      awake = All-cons (λ c. is_wake_up c ≡ false) command later.commands awake later.awake;
      wakes = later.wakes;
    }

-- a fault that comes first
failed-first : (before : List Command) (place : ℕ) (bytes : List ℕ) (fault : Fault) → first_fault before place bytes ≡ Some fault → Failed before place bytes fault
unfolding spelled
failed-first before place bytes fault wrong =
    let there : place + 0 ≡ place = omega arith in
    record {
      commands = [];
      rest = bytes;
      spelled_is = refl;
      follows = tt;
      awake = All-nil (λ c. is_wake_up c ≡ false);
      wrong = ap₂ (λ all n. first_fault all n bytes) (append-nil before) there ∙ wrong;
    }

-- a fault after another command
failed-more : (before : List Command) (place : ℕ) (bytes : List ℕ) (fault : Fault) (begins : Begins before bytes) → is_wake_up begins.command ≡ false → Failed (before ++ begins.command ∷ []) (place + length (spelling begins.command)) begins.rest fault → Failed before place bytes fault
unfolding spelled
failed-more before place bytes fault begins awake later =
    let command = begins.command in
    let there : place + length (spelling command ++ spelled later.commands) ≡ place + length (spelling command) + length (spelled later.commands) = omega (arith, length-append (spelling command) (spelled later.commands)) in
    record {
      commands = command ∷ later.commands;
      rest = later.rest;
      spelled_is =
          begins.spelled_is ∙ ap (λ rest. spelling command ++ rest) later.spelled_is
          ∙ sym (append_assoc (spelling command) (spelled later.commands) later.rest);
      follows = (begins.allowed, later.follows);
      awake = All-cons (λ c. is_wake_up c ≡ false) command later.commands awake later.awake;
      wrong = ap₂ (λ all n. first_fault all n later.rest) (sym (append_assoc before (command ∷ []) later.commands)) there ∙ later.wrong;
    }

-- the bytes after the first command are fewer
shorter : (most : ℕ) (before : List Command) (bytes : List ℕ) (begins : Begins before bytes) → length bytes < suc most → length begins.rest < most
shorter most before bytes begins enough =
    omega (arith, ap length begins.spelled_is, length-append (spelling begins.command) begins.rest, spelling-some begins.command)

-- what is read if the first command isn't the wake-up
read-on : (most : ℕ) (before : List Command) (place : ℕ) (bytes : List ℕ) (begins : Begins before bytes) → is_wake_up begins.command ≡ false → commands_from (suc most) before place bytes ≡ commands_from most (before ++ begins.command ∷ []) (place + length (spelling begins.command)) begins.rest
read-on most before place bytes begins awake =
    ap (commands_from (suc most) before place) begins.spelled_is ∙ step-on most before place begins.command begins.rest begins.allowed awake

-- what is read if the first command is the wake-up
read-last : (most : ℕ) (before : List Command) (place : ℕ) (bytes : List ℕ) (begins : Begins before bytes) → is_wake_up begins.command ≡ true → commands_from (suc most) before place bytes ≡ Ok (before ++ begins.command ∷ [])
read-last most before place bytes begins wakes =
    ap (commands_from (suc most) before place) begins.spelled_is ∙ step-last most before place begins.command begins.rest begins.allowed wakes

-- if commands are read, they are spelled up to a wake-up
pub commands_from-Ok : (most : ℕ) (before : List Command) (place : ℕ) (bytes : List ℕ) (all : List Command) → length bytes < most → commands_from most before place bytes ≡ Ok all → Woken before bytes all
commands_from-Ok zero before place bytes all enough is = absurd (omega arith)
commands_from-Ok (suc most) before place bytes all enough is =
    elim (cases_fault (first_fault before place bytes)) [
      | inr found ↦ let wrong : Err found.0 ≡ Ok all = sym (step-wrong most before place found.0 bytes found.1) ∙ is in absurd cc
      | inl clear ↦
          let begins = first_fault-begins before place bytes clear in
          elim (cases_Bool (is_wake_up begins.command)) [
            | inl wakes ↦
                let found : Ok (before ++ begins.command ∷ []) ≡ Ok all = sym (read-last most before place bytes begins wakes) ∙ is in
                woken-last before bytes all begins wakes cc
            | inr awake ↦
                woken-more before bytes all begins awake
                (commands_from-Ok most (before ++ begins.command ∷ []) (place + length (spelling begins.command)) begins.rest all (shorter most before bytes begins enough)
                (sym (read-on most before place bytes begins awake) ∙ is))
          ]
    ]

-- if a fault is found, allowed commands are spelled before it
pub commands_from-Err : (most : ℕ) (before : List Command) (place : ℕ) (bytes : List ℕ) (fault : Fault) → length bytes < most → commands_from most before place bytes ≡ Err fault → Failed before place bytes fault
commands_from-Err zero before place bytes fault enough is = absurd (omega arith)
commands_from-Err (suc most) before place bytes fault enough is =
    elim (cases_fault (first_fault before place bytes)) [
      | inr found ↦
          let same : Err found.0 ≡ Err fault = sym (step-wrong most before place found.0 bytes found.1) ∙ is in
          let fault_is : found.0 ≡ fault = cc in
          failed-first before place bytes fault (found.1 ∙ ap (λ f. Some f) fault_is)
      | inl clear ↦
          let begins = first_fault-begins before place bytes clear in
          elim (cases_Bool (is_wake_up begins.command)) [
            | inl wakes ↦
                let found : Ok (before ++ begins.command ∷ []) ≡ Err fault = sym (read-last most before place bytes begins wakes) ∙ is in
                absurd cc
            | inr awake ↦
                failed-more before place bytes fault begins awake
                (commands_from-Err most (before ++ begins.command ∷ []) (place + length (spelling begins.command)) begins.rest fault (shorter most before bytes begins enough)
                (sym (read-on most before place bytes begins awake) ∙ is))
          ]
    ]
