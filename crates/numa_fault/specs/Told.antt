-- What answers tell, and what a walk shows: the words of the laws.
use Rattle.std.specs.Prelude.{◌≡◌, ℕ, ◌<◌, ◌++◌, true, List, Option, Some, None, Result, Ok, Err}
use Rattle.std.specs.Prelude.{length, slice_get, slice_index}
use Rattle.std.specs.Option.{option_and_then}
use Rattle.numa_requests.specs.declared.command.Command.{Command}
use Rattle.numa_requests.specs.declared.placement.Placement.{Placement}
use Rattle.numa_publish.specs.Batches.{Extends}
use Rattle.numa_publish.specs.Shown.{ReaderState}
use Rattle.numa_pool.specs.Seats.{SeatView}
use Rattle.numa_pool.specs.Walk.{met}
use Rattle.numa_pool.specs.declared.view.Entry.{Entry}
use Rattle.numa_machine.specs.declared.refusal.PlaceRefusal.{PlaceRefusal}
use Rattle.numa_machine.specs.declared.refusal.PlaceRefusal.TheVariants.{BadCpu as cpu_is_bad}
use Rattle.numa_machine.specs.declared.refusal.PlaceRefusal.TheVariants.{Unmapped as is_unmapped}
use Rattle.numa_fault.specs.Crew.{result_of}
use Rattle.numa_fault.specs.declared.answer.Answer.{Answer}
use Rattle.numa_fault.specs.declared.refusal.FaultRefusal.{FaultRefusal}
use Rattle.numa_fault.specs.declared.refusal.FaultRefusal.TheVariants.{NoView, BadCpu, Unmapped}
use Rattle.numa_fault.specs.declared.refusal.FaultRefusal.TheVariants.{Exhausted}
use Rattle.numa_fault.specs.declared.refusal.SpanRefusal.{SpanRefusal}
use Rattle.numa_fault.specs.declared.refusal.SpanRefusal.TheVariants.{NoView as no_span_view}
use Rattle.numa_fault.specs.declared.refusal.SpanRefusal.TheVariants.{BadCpu as bad_span_cpu}
use Rattle.numa_fault.specs.declared.refusal.SpanRefusal.TheVariants.{Unmapped as span_unmapped}
use Rattle.numa_fault.specs.declared.refusal.SpanRefusal.TheVariants.{Exhausted as span_exhausted}
use Rattle.numa_fault.specs.declared.refusal.SpanRefusal.TheVariants.{NoMemory as no_span_memory}

-- the refusal of the page that an answer tells, if it tells one
abbrev pub refusal_told : Result Placement FaultRefusal → Option PlaceRefusal
refusal_told (Ok placement) = None
refusal_told (Err NoView) = None
refusal_told (Err BadCpu) = Some cpu_is_bad
refusal_told (Err (Unmapped version)) = Some is_unmapped
refusal_told (Err (Exhausted version)) = None

-- the version that an answer tells, if it tells one
abbrev pub version_told : Result Placement FaultRefusal → Option ℕ
version_told (Ok placement) = Some placement.version
version_told (Err NoView) = None
version_told (Err BadCpu) = None
version_told (Err (Unmapped version)) = Some version
version_told (Err (Exhausted version)) = Some version

-- the refusal of a span that an answer tells, if it tells one
abbrev pub span_refusal_told : Result ℕ SpanRefusal → Option PlaceRefusal
span_refusal_told (Ok version) = None
span_refusal_told (Err no_span_view) = None
span_refusal_told (Err bad_span_cpu) = Some cpu_is_bad
span_refusal_told (Err (span_unmapped version)) = Some is_unmapped
span_refusal_told (Err (span_exhausted version done)) = None
span_refusal_told (Err no_span_memory) = None

-- the version that the answer at a place tells
abbrev pub version_at : List Answer → ℕ → Option ℕ
version_at answers i =
    option_and_then (λ answer. version_told (result_of answer)) (slice_get answers i)

-- this history, with these versions up to it, is what a reader saw at the version between the two
-- states: it extends all that it had seen or learnt before, and what it has seen since extends it
pub record IsSeenBetween (before after : ReaderState) (version : ℕ) (history : List Command)
    (versions : List ℕ) : Type 0 where
  pub number : length history ≡ version
  pub newest : slice_get versions 0 ≡ Some (length history)
  pub since : Extends before.history history × Extends before.versions versions
  pub until : Extends history after.history × Extends versions after.versions

-- in the steps that the seat gained, each frame of the first nodes of the list, as many as the
-- count says, was found taken
abbrev pub FoundTaken : List ℕ → List ℕ → ℕ → SeatView → SeatView → Type 0
FoundTaken frames nodes count before after =
    (es : List Entry) × (after.log ≡ es ++ before.log)
    × ((i k : ℕ) → i < count → k < slice_index frames (slice_index nodes i)
    → met es (slice_index nodes i) k ≡ true)
