-- Each version that a fault worker's answer tells is published.
use Rattle.std.proofs.Common.{◌≡◌, ◌≢◌, ℕ, ◌+◌, List, length, ⊎_elim}
use Rattle.std.specs.Prelude.{Result, Err, Some}
use Rattle.numa_requests.specs.declared.command.Command.{Command}
use Rattle.numa_requests.specs.declared.placement.Placement.{Placement}
use Rattle.numa_requests.specs.declared.request.Request.{Request}
use Rattle.numa_publish.specs.Batches.{Extends}
use Rattle.numa_publish.specs.Shown.{ReaderState}
use Rattle.numa_publish.proofs.Lists.{extends_trans}
use Rattle.numa_fault.specs.Crew.{Serves}
use Rattle.numa_fault.specs.Fault.{Faults, LetsIn}
use Rattle.numa_fault.specs.Span.{FaultsOnSpan}
use Rattle.numa_fault.specs.Told.{IsSeenBetween, version_at}
use Rattle.numa_fault.specs.Worker.{Parts}
use Rattle.numa_fault.specs.declared.answer.Answer.{Answer}
use Rattle.numa_fault.specs.declared.refusal.FaultRefusal.{FaultRefusal}
use Rattle.numa_fault.specs.declared.refusal.SpanRefusal.{SpanRefusal}
use Rattle.numa_fault.specs.declared.span.Span.{Span}
use Rattle.numa_fault.proofs.Lawful.{entered, span-entered}
use Rattle.numa_fault.proofs.Seeing.{seen-between}
use Rattle.numa_core.specs.World.{World}
use Rattle.numa_refinement.specs.LegalSteps.{HasPublished, IsPublishedIn}
use Rattle.numa_refinement.proofs.Desking.{earlier, newest-published}

-- who was let in saw a published version
inside : (world : World) (before after : ReaderState) → LetsIn before after
    → HasPublished world after.history after.versions
    → Extends before.history after.history × IsPublishedIn world after.history
inside world before after let_in has =
    (let_in.history, newest-published world after.history after.versions has let_in.newest)

pub one : (world : World) (frames : List ℕ) (request : Request) (before after : Parts)
    (answer : Result Placement FaultRefusal) → Faults frames request before after answer
    → answer ≢ Err FaultRefusal.NoView
    → HasPublished world after.reader.history after.reader.versions
    → Extends before.reader.history after.reader.history
    × IsPublishedIn world after.reader.history
one world frames request before after answer faults seen has =
    ⊎_elim
    (λ (no : (answer ≡ Err FaultRefusal.NoView)
    × (after.reader.refused ≡ before.reader.refused + 1)). absurd (seen no.0))
    (λ (yes : (answer ≢ Err FaultRefusal.NoView) × LetsIn before.reader after.reader).
    inside world before.reader after.reader yes.1 has)
    (entered frames request before after answer faults)

pub spanned : (world : World) (frames : List ℕ) (span : Span) (before after : Parts)
    (old new : List Placement) (answer : Result ℕ SpanRefusal)
    → FaultsOnSpan frames span before after old new answer
    → answer ≢ Err SpanRefusal.NoView
    → HasPublished world after.reader.history after.reader.versions
    → Extends before.reader.history after.reader.history
    × IsPublishedIn world after.reader.history
spanned world frames span before after old new answer faults seen has =
    ⊎_elim
    (λ (no : (answer ≡ Err SpanRefusal.NoView)
    × (after.reader.refused ≡ before.reader.refused + 1)). absurd (seen no.0))
    (λ (yes : (answer ≢ Err SpanRefusal.NoView) × LetsIn before.reader after.reader).
    inside world before.reader after.reader yes.1 has)
    (span-entered frames span before after old new answer faults)

pub each : (world : World) (frames : List ℕ) (requests : List Request)
    (before after : Parts) (answers : List Answer)
    → Serves frames requests before after answers
    → HasPublished world after.reader.history after.reader.versions
    → (i v : ℕ) → version_at answers i ≡ Some v → (history : List Command)
    × (length history ≡ v) × Extends before.reader.history history
    × Extends history world.history × IsPublishedIn world history
each world frames requests before after answers done has i v told =
    let found = seen-between frames requests before after answers done i v told in
    let seen : IsSeenBetween before.reader after.reader v found.0 found.1.0 = found.1.1 in (
      found.0,
      seen.number,
      seen.since.0,
      extends_trans found.0 after.reader.history world.history seen.until.0 has.commands,
      earlier world found.0 after.reader.history found.1.0 after.reader.versions has seen.until.0
          seen.until.1 seen.newest,
    )
