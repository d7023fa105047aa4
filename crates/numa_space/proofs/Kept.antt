-- What holds of every space stays.
use Rattle.std.proofs.Common.{◌≡◌, ◌<◌, false, Result, sym, ap, ◌∙◌, subst, arith, All}
use Rattle.numa_mask.specs.NodeSet.{members}
use Rattle.numa_machine.specs.Machine.{Hardware}
use Rattle.numa_space.specs.Inside.{shown_of, IsKept}
use Rattle.numa_space.specs.Steps.{IsAnswer}
use Rattle.numa_space.specs.Limited.{Bounds}
use Rattle.numa_requests.specs.declared.command.Command.{Command}
use Rattle.numa_requests.specs.declared.refusal.Refusal.{Refusal}
use Rattle.numa_space.specs.declared.space.Space.TheInside.{Inside}
use Rattle.std.proofs.Common.{◌∷◌, Option, Some, None, Ok, Err}
use Rattle.numa_space.specs.Standing.{SpaceState, HasHistory, IsAccepted}
use Rattle.numa_space.specs.Steps.{scene_in}
use Rattle.numa_space.specs.Refusals.{refusal_in, refusal_of}
use Rattle.numa_space.proofs.Refused.{refusal-same}
use Rattle.numa_space.proofs.Answers.{answer-kept, AnswersBy, stands-next}
use Rattle.numa_space.proofs.Aligned.{aligned-answer}
use Rattle.numa_space.proofs.InForce.{sound-answer}
use Rattle.numa_space.proofs.Small.{maps_huge, small-answer}

-- a space that has a history has one after an answer too
pub history-answer : {A : Type 0} (old new : SpaceState) (command : Command) (result : Result A Refusal)
    → HasHistory old → IsAnswer old command result new → HasHistory new
history-answer {A} old new command result had answer = go (refusal_in (scene_in old command) command)
    (sym (refusal-same old had.history command had.stands)) result answer
  where
    kept : new ≡ old → HasHistory new
    kept e = subst HasHistory (sym e) had

    go : (o : Option Refusal) → refusal_of old.machine old.bounds had.history command ≡ o
        → (result : Result A Refusal) → AnswersBy o old command result new → HasHistory new
    go None e (Ok u) h = record {
      history = command ∷ had.history;
      accepted = (
        (λ i. refusal_of (h.machine i) (h.bounds i) had.history command) ∙ e,
        subst (λ (b : Bounds). IsAccepted new.machine b had.history) (sym h.bounds)
            (subst (λ (m : Hardware). IsAccepted m old.bounds had.history) (sym h.machine)
            had.accepted),
      );
      stands = stands-next old new had.history command had.stands e h;
    }
    go None e (Err r) h = kept h.1
    go (Some r) e result h = kept h.1

pub kept-answer : {A : Type 0} (old new : Inside) (command : Command) (result : Result A Refusal)
    → IsKept old → new.pages.limit ≡ old.pages.limit → new.weights.nodes ≡ old.weights.nodes
    → (new.has_huge ≡ false → (old.has_huge ≡ false) × (maps_huge command ≡ false))
    → IsAnswer (shown_of old) command result (shown_of new) → IsKept new
kept-answer {A} old new command result kept limit nodes sizes answer =
    let same = answer-kept (shown_of old) (shown_of new) command result answer in
    record {
      sound = sound-answer (shown_of old) (shown_of new) command result kept.sound kept.memory
          answer;
      history = history-answer (shown_of old) (shown_of new) command result kept.history answer;
      limit = limit ∙ kept.limit ∙ sym (ap (λ (b : Bounds). b.max_ranges) same.1);
      nodes = nodes ∙ kept.nodes ∙ sym (ap (λ (m : Hardware). m.nodes) same.0);
      sizes = λ none. small-answer (shown_of old) (shown_of new) command result (sizes none).1
          (kept.sizes (sizes none).0) answer;
      aligned = aligned-answer (shown_of old) (shown_of new) command result kept.aligned answer;
      memory = omega (arith, kept.memory, ap (λ (m : Hardware). m.memory) same.0);
      of_the_machine = let P : Hardware → Type 0 =
          λ m. All (λ node. node < m.nodes) (members m.memory) in
          subst P (sym same.0) kept.of_the_machine;
    }
