-- The space after a command, and what a caller learns from an answer.
use Rattle.std.proofs.Common.{◌≡◌, ℕ, List, [], ◌∷◌, length, Option, Some, None, Result, Ok, Err}
use Rattle.std.proofs.Common.{MatchOption, MatchResult, OnOk, OnErr, IfErr, ◌≤◌, refl, sym, ap, ◌∙◌}
use Rattle.std.proofs.Common.{arith}
use Rattle.numa_machine.specs.Machine.{Hardware}
use Rattle.numa_machine.specs.Weights.{weight_at}
use Rattle.numa_ranges.specs.Runs.{page_at, AreApart, AreMaximal}
use Rattle.numa_space.specs.Policies.{allowed_nodes, task_record, node_weight}
use Rattle.numa_space.specs.Pages.{page_in}
use Rattle.numa_space.specs.Refusals.{refusal_in, refusal_of}
use Rattle.numa_space.specs.Standing.{SpaceState, StandsFor, record_of}
use Rattle.numa_space.specs.Steps.{allowed_next, pages_next, task_next, task_count_next}
use Rattle.numa_space.specs.Steps.{weight_next, IsNext, scene_in, IsAnswer, IsStep}
use Rattle.numa_requests.specs.declared.command.Command.{Command}
use Rattle.numa_requests.specs.declared.refusal.Refusal.{Refusal}
use Rattle.numa_requests.specs.declared.refusal.Refusal.TheVariants.{NoMemory}
use Rattle.numa_space.proofs.Places.{allowed-next}
use Rattle.numa_space.proofs.Pages.{pages-next}
use Rattle.numa_space.proofs.Tasks.{weight-next, task-next, task_count-next}
use Rattle.numa_space.proofs.Refused.{refusal-same}

-- a new space stands for the empty history
pub stands-new : (space : SpaceState) → space.version ≡ 0 → space.allowed ≡ space.machine.memory
    → space.ranges ≡ [] → space.tasks ≡ [] → ((node : ℕ) → weight_at space.weights node ≡ 1)
    → StandsFor space []
stands-new space version allowed ranges tasks weights = record {
  version = version;
  allowed = allowed;
  pages = λ page. ap (λ runs. page_at runs page) ranges;
  tasks = λ task. ap (λ held. record_of held task) tasks;
  task_count = ap (λ held. length held) tasks;
  weights = weights;
}

-- one command more
pub stands-next : (old new : SpaceState) (history : List Command) (command : Command)
    → StandsFor old history → refusal_of old.machine old.bounds history command ≡ None
    → IsNext old command new → StandsFor new (command ∷ history)
stands-next old new history command stands none next =
    let machine : Hardware = old.machine in
    let pages : page_at old.ranges ≡ page_in old.machine history = λ i page. stands.pages page i in
    let tasks : record_of old.tasks ≡ task_record old.machine history =
    λ i task. stands.tasks task i in
    let weights : weight_at old.weights ≡ node_weight history = λ i node. stands.weights node i in
    record {
      version = omega (arith, next.version, stands.version);
      allowed = next.allowed ∙ ap (λ a. allowed_next old.machine a command) stands.allowed
          ∙ sym (allowed-next old.machine history command)
          ∙ ap (λ m. allowed_nodes m (command ∷ history)) (sym next.machine);
      pages = λ page. next.pages page
          ∙ (λ i. pages_next old.machine (stands.allowed i) (pages i) command page)
          ∙ sym (pages-next old.machine history command page)
          ∙ ap (λ m. page_in m (command ∷ history) page) (sym next.machine);
      tasks = λ task. next.tasks task
          ∙ (λ i. task_next old.machine (stands.allowed i) (tasks i) command task)
          ∙ sym (task-next old.machine history command task)
          ∙ ap (λ m. task_record m (command ∷ history) task) (sym next.machine);
      task_count = next.task_count ∙ (λ i. task_count_next (tasks i) (stands.task_count i) command)
          ∙ sym (task_count-next old.machine history command);
      weights = λ node. next.weights node ∙ (λ i. weight_next (weights i) command node)
          ∙ sym (weight-next history command node);
    }

-- ---- answers

-- what an answer is, where this is the first cause
abbrev pub AnswersBy : {A : Type 0} → Option Refusal → SpaceState → Command → Result A Refusal
    → SpaceState → Type 0
AnswersBy cause old command result new =
    MatchOption cause
    (MatchResult result (λ _. IsNext old command new) (λ refusal. (refusal ≡ NoMemory)
    × (new ≡ old))) (λ refusal. (result ≡ Err refusal) × (new ≡ old))

-- an accepted command is one whatever else is told of it, and so is a refused one
pub answer-done : {A B : Type 0} (old new : SpaceState) (command : Command) (a : A) (b : B)
    → IsAnswer old command (Ok a) new → IsAnswer old command (Ok b) new
answer-done {A} {B} old new command a b answer =
    go (refusal_in (scene_in old command) command) answer
  where
    go : (o : Option Refusal) → AnswersBy {A = A} o old command (Ok a) new
        → AnswersBy {A = B} o old command (Ok b) new
    go None h = h
    go (Some r) h = let odd : ◌≡◌ {A = Result A Refusal} (Ok a) (Err r) = h.0 in absurd (cc)

pub answer-refused : (A B : Type 0) (old new : SpaceState) (command : Command) (refusal : Refusal)
    → IsAnswer {A = A} old command (Err refusal) new
    → IsAnswer {A = B} old command (Err refusal) new
answer-refused A B old new command refusal answer =
    go (refusal_in (scene_in old command) command) answer
  where
    go : (o : Option Refusal) → AnswersBy {A = A} o old command (Err refusal) new
        → AnswersBy {A = B} o old command (Err refusal) new
    go None h = h
    go (Some r) h =
        let odd : ◌≡◌ {A = Result A Refusal} (Err refusal) (Err r) = h.0 in
        let same : refusal ≡ r = cc in (ap Err same, h.1)

-- an accepted command stands in the history from now on
pub answer-ok : {A : Type 0} (old new : SpaceState) (history : List Command) (command : Command)
    (result : Result A Refusal) → StandsFor old history → IsAnswer old command result new
    → OnOk result ((refusal_of old.machine old.bounds history command ≡ None)
    × StandsFor new (command ∷ history))
answer-ok {A} old new history command result stands answer =
    go (refusal_in (scene_in old command) command) (sym (refusal-same old history command stands))
    result answer
  where
    go : (o : Option Refusal) → refusal_of old.machine old.bounds history command ≡ o
        → (result : Result A Refusal) → AnswersBy o old command result new
        → OnOk result ((refusal_of old.machine old.bounds history command ≡ None)
        × StandsFor new (command ∷ history))
    go None e (Ok u) h = (e, stands-next old new history command stands e h)
    go None e (Err r) h = tt
    go (Some r) e (Ok u) h = let odd : Ok u ≡ Err r = h.0 in absurd (cc)
    go (Some r) e (Err s) h = tt

-- a refusal is the first cause, or want of memory where there is no cause
pub answer-err : {A : Type 0} (old new : SpaceState) (history : List Command) (command : Command)
    (result : Result A Refusal) → StandsFor old history → IsAnswer old command result new
    → IfErr result (λ refusal. MatchOption (refusal_of old.machine old.bounds history command)
    (refusal ≡ NoMemory) (λ first. refusal ≡ first))
answer-err {A} old new history command result stands answer =
    rw (← refusal-same old history command stands)
    (go (refusal_in (scene_in old command) command) result answer)
  where
    go : (o : Option Refusal) (result : Result A Refusal)
        → AnswersBy o old command result new
        → IfErr result (λ refusal. MatchOption o (refusal ≡ NoMemory) (λ first. refusal ≡ first))
    go None (Ok u) h = tt
    go None (Err r) h = h.0
    go (Some r) (Ok u) h = tt
    go (Some r) (Err s) h = let same : ◌≡◌ {A = Result A Refusal} (Err s) (Err r) = h.0 in
        cc

-- a refused command leaves the space as it was
pub answer-unchanged : {A : Type 0} (old new : SpaceState) (command : Command)
    (result : Result A Refusal) → IsAnswer old command result new
    → OnErr result (new ≡ old)
answer-unchanged {A} old new command result answer = go (refusal_in (scene_in old command) command)
    result answer
  where
    go : (o : Option Refusal) (result : Result A Refusal)
        → AnswersBy o old command result new → OnErr result (new ≡ old)
    go None (Ok u) h = tt
    go None (Err r) h = h.1
    go (Some r) (Ok u) h = tt
    go (Some r) (Err s) h = h.1

-- the machine and the limits stay
pub answer-kept : {A : Type 0} (old new : SpaceState) (command : Command) (result : Result A Refusal)
    → IsAnswer old command result new → (new.machine ≡ old.machine) × (new.bounds ≡ old.bounds)
answer-kept {A} old new command result answer = go (refusal_in (scene_in old command) command) result
    answer
  where
    go : (o : Option Refusal) (result : Result A Refusal)
        → AnswersBy o old command result new → (new.machine ≡ old.machine)
        × (new.bounds ≡ old.bounds)
    go None (Ok u) h = (h.machine, h.bounds)
    go None (Err r) h = (ap (λ s. s.machine) h.1, ap (λ s. s.bounds) h.1)
    go (Some r) result h = (ap (λ s. s.machine) h.1, ap (λ s. s.bounds) h.1)

-- an accepted command is a step
pub answer-step : {A : Type 0} (old new : SpaceState) (command : Command) (result : Result A Refusal)
    → AreApart 0 old.ranges → AreMaximal old.ranges → length old.ranges ≤ 65536
    → length old.tasks ≤ 1024 → IsAnswer old command result new
    → OnOk result (IsStep old command new)
answer-step {A} old new command result rising maximal few_ranges few_tasks answer =
    go (refusal_in (scene_in old command) command) refl result answer
  where
    go : (o : Option Refusal) → refusal_in (scene_in old command) command ≡ o
        → (result : Result A Refusal) → AnswersBy o old command result new
        → OnOk result (IsStep old command new)
    go None e (Ok u) h = record {
      accepted = e;
      next = h;
      rising = rising;
      maximal = maximal;
      few_ranges = few_ranges;
      few_tasks = few_tasks;
    }
    go None e (Err r) h = tt
    go (Some r) e (Ok u) h = let odd : ◌≡◌ {A = Result A Refusal} (Ok u) (Err r) = h.0 in
        absurd (cc)
    go (Some r) e (Err s) h = tt
