-- Lists of commands: one command more at the end.
use Rattle.std.proofs.Common.{◌≡◌, ℕ, zero, suc, ◌<◌, Bool, true, false, List, [], ◌∷◌, ◌++◌}
use Rattle.std.proofs.Common.{length, get_or, take, Option, Some, None, is_some, Result, Ok, Err}
use Rattle.std.proofs.Common.{MatchOption, OnOk, OnErr, IfErr, refl, sym, ap, ◌∙◌, subst, arith}
use Rattle.std.specs.Prelude.{slice_get, if◌then◌else◌}
use Rattle.numa_machine.specs.Machine.{Hardware}
use Rattle.numa_space.specs.Limited.{Bounds}
use Rattle.numa_space.specs.Refusals.{refusal_of, scene_of}
use Rattle.numa_space.specs.Standing.{SpaceState, StandsFor, accepted_next, accepted_of}
use Rattle.numa_space.specs.Steps.{MayNeedRoom, MayStopAt}
use Rattle.numa_requests.specs.declared.command.Command.{Command}
use Rattle.numa_requests.specs.declared.refusal.Refusal.{Refusal}
use Rattle.numa_requests.specs.declared.refusal.Refusal.TheVariants.{NoMemory}
use Rattle.numa_space.proofs.Refused.{refusal-not_memory}

-- one command more at the end
pub accepted_of-more : (machine : Hardware) (bounds : Bounds) (commands history : List Command)
    (command : Command)
    → accepted_of machine bounds (commands ++ command ∷ []) history ≡ accepted_next machine bounds
    (accepted_of machine bounds commands history) command
accepted_of-more machine bounds [] history command = refl
accepted_of-more machine bounds (c ∷ commands) history command =
    accepted_of-more machine bounds commands (accepted_next machine bounds history c) command

-- what one command more makes of the history
accepted_next-ok : (machine : Hardware) (bounds : Bounds) (history : List Command)
    (command : Command) → refusal_of machine bounds history command ≡ None
    → accepted_next machine bounds history command ≡ command ∷ history
accepted_next-ok machine bounds history command none =
    ap (λ o. if is_some o then history else command ∷ history) none

accepted_next-refused : (machine : Hardware) (bounds : Bounds) (history : List Command)
    (command : Command) → is_some (refusal_of machine bounds history command) ≡ true
    → accepted_next machine bounds history command ≡ history
accepted_next-refused machine bounds history command some =
    ap (λ b. if b then history else command ∷ history) some

-- ---- from what a call answers

-- whether a command wanted memory
abbrev pub wanted_memory : {A : Type 0} → Result A Refusal → Bool
wanted_memory (Err NoMemory) = true
wanted_memory _ = false

-- what `apply` ensures of a command that didn't want memory
applied-next : {A : Type 0} (old new : SpaceState) (history : List Command) (command : Command)
    (result : Result A Refusal) → StandsFor old history
    → OnOk result ((refusal_of old.machine old.bounds history command ≡ None)
    × StandsFor new (command ∷ history))
    → IfErr result (λ refusal. MatchOption (refusal_of old.machine old.bounds history command)
    (refusal ≡ NoMemory) (λ first. refusal ≡ first))
    → OnErr result (new ≡ old)
    → wanted_memory result ≡ false
    → StandsFor new (accepted_next old.machine old.bounds history command)
applied-next {A} old new history command (Ok u) stands ok err kept fed =
    subst (StandsFor new) (sym (accepted_next-ok old.machine old.bounds history command ok.0)) ok.1
applied-next {A} old new history command (Err refusal) stands ok err kept fed =
    subst (StandsFor new)
    (sym (go (refusal_of old.machine old.bounds history command) refl refusal err fed))
    (subst (λ (space : SpaceState). StandsFor space history) (sym kept) stands)
  where
    go : (o : Option Refusal) → refusal_of old.machine old.bounds history command ≡ o
        → (refusal : Refusal) → MatchOption o (refusal ≡ NoMemory) (λ first. refusal ≡ first)
        → wanted_memory {A = A} (Err refusal) ≡ false → accepted_next old.machine old.bounds history command
        ≡ history
    go None e refusal h fed = let odd : true ≡ false = ap (λ r. wanted_memory {A = A} (Err r)) (sym h)
        ∙ fed in absurd (cc)
    go (Some first) e refusal h fed = accepted_next-refused old.machine old.bounds history command
        (ap (λ o. is_some o) e)

-- as one step more of a list
pub applied-more : {A : Type 0} (machine : Hardware) (bounds : Bounds) (old new : SpaceState)
    (commands history : List Command) (command : Command) (result : Result A Refusal)
    → old.machine ≡ machine → old.bounds ≡ bounds
    → StandsFor old (accepted_of machine bounds commands history)
    → OnOk result
    ((refusal_of old.machine old.bounds (accepted_of machine bounds commands history) command
    ≡ None) × StandsFor new (command ∷ accepted_of machine bounds commands history))
    → IfErr result
    (λ refusal.
    MatchOption (refusal_of old.machine old.bounds (accepted_of machine bounds commands history)
    command) (refusal ≡ NoMemory) (λ first. refusal ≡ first))
    → OnErr result (new ≡ old)
    → wanted_memory result ≡ false
    → StandsFor new (accepted_of machine bounds (commands ++ command ∷ []) history)
applied-more {A} machine bounds old new commands history command result same_machine same_bounds stands
    ok err kept fed =
    let middle : List Command = accepted_of machine bounds commands history in
    let same : accepted_next old.machine old.bounds middle command ≡ accepted_of machine bounds
    (commands ++ command ∷ []) history =
    (λ i. accepted_next (same_machine i) (same_bounds i) middle command)
    ∙ sym (accepted_of-more machine bounds commands history command) in
    subst (StandsFor new) same (applied-next old new middle command result stands ok err kept fed)

-- ---- where a list stops

command-at : (commands : List Command) (place : ℕ) (command : Command) → place < length commands
    → command ≡ get_or commands place command → slice_get commands place ≡ Some command
command-at [] place command low is = absurd (omega arith)
command-at (c ∷ commands) zero command low is = ap Some (sym is)
command-at (c ∷ commands) (suc place) command low is =
    command-at commands place command (omega arith) is

-- what `apply` ensures of a command that wanted memory
pub stops-at : {A : Type 0} (machine : Hardware) (bounds : Bounds) (old : SpaceState)
    (commands history : List Command) (place : ℕ) (command : Command)
    (result : Result A Refusal) (refusal : Refusal) → old.machine ≡ machine
    → old.bounds ≡ bounds
    → place < length commands → command ≡ get_or commands place command
    → IfErr result
    (λ refusal.
    MatchOption (refusal_of old.machine old.bounds
    (accepted_of machine bounds (take place commands) history) command) (refusal ≡ NoMemory)
    (λ first. refusal ≡ first))
    → IfErr result (λ refusal. refusal ≡ NoMemory → MayNeedRoom command)
    → result ≡ Err refusal → refusal ≡ NoMemory
    → MayStopAt machine bounds commands history place
stops-at {A} machine bounds old commands history place command result refusal same_machine same_bounds
    low is err room wanted want = record {
      command = command;
      there = command-at commands place command low is;
      no_cause = (λ i. refusal_of (sym same_machine i) (sym same_bounds i) middle command)
          ∙ go (refusal_of old.machine old.bounds middle command) refl
          (told (λ refusal. MatchOption (refusal_of old.machine old.bounds middle command)
          (refusal ≡ NoMemory) (λ first. refusal ≡ first)) wanted want err);
      room = needs wanted want room;
    }
  where
    middle : List Command
    middle = accepted_of machine bounds (take place commands) history

    told : (P : Refusal → Type 0) → result ≡ Err refusal → refusal ≡ NoMemory → IfErr result P
        → P NoMemory
    told P is want h = subst P want (subst (λ r. IfErr r P) is h)

    needs : result ≡ Err refusal → refusal ≡ NoMemory
        → IfErr result (λ refusal. refusal ≡ NoMemory → MayNeedRoom command) → MayNeedRoom command
    needs is want h = subst (λ r. IfErr r (λ refusal. refusal ≡ NoMemory → MayNeedRoom command)) is
        h want

    go : (o : Option Refusal) → refusal_of old.machine old.bounds middle command ≡ o
        → MatchOption o (NoMemory ≡ NoMemory) (λ first. NoMemory ≡ first)
        → refusal_of old.machine old.bounds middle command ≡ None
    go None e h = e
    go (Some first) e h =
        absurd (refusal-not_memory (scene_of old.machine old.bounds middle command) command
        (e ∙ ap Some (sym h)))
