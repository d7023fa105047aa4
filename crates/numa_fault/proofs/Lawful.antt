-- What follows from the definition of a fault.
use Rattle.std.proofs.Common.{◌≡◌, ◌≢◌, ◌⊎◌, ℕ, ◌+◌, List, [], length, refl, sym, ap, ◌∙◌, inl, inr}
use Rattle.std.proofs.Common.{arith}
use Rattle.std.specs.Prelude.{◌↔◌, Option, None, Some, Result, Ok, Err}
use Rattle.std.specs.Option.{ForSome}
use Rattle.numa_requests.specs.declared.placement.Placement.{Placement}
use Rattle.numa_requests.specs.declared.request.Request.{Request}
use Rattle.numa_machine.specs.Machine.{Hardware}
use Rattle.numa_pool.specs.Seats.{SeatView}
use Rattle.numa_pool.proofs.Winning.{all-found, win-earlier}
use Rattle.numa_publish.specs.Batches.{Extends}
use Rattle.numa_requests.specs.declared.command.Command.{Command}
use Rattle.numa_machine.specs.declared.refusal.PlaceRefusal.{PlaceRefusal}
use Rattle.numa_machine.specs.declared.refusal.PlaceRefusal.TheVariants.{BadCpu as cpu_is_bad}
use Rattle.numa_machine.specs.declared.refusal.PlaceRefusal.TheVariants.{Unmapped as is_unmapped}
use Rattle.numa_fault.specs.Fault.{Faults, FindsNone, LetsIn, Places, list_of, refusal_of}
use Rattle.numa_fault.specs.Span.{FaultsOnSpan, IsRefused, Stands}
use Rattle.numa_fault.specs.Told.{FoundTaken, refusal_told, span_refusal_told, version_told}
use Rattle.numa_fault.specs.Worker.{Parts}
use Rattle.numa_fault.specs.declared.refusal.FaultRefusal.{FaultRefusal}
use Rattle.numa_fault.specs.declared.refusal.FaultRefusal.TheVariants.{NoView, BadCpu, Unmapped}
use Rattle.numa_fault.specs.declared.refusal.FaultRefusal.TheVariants.{Exhausted}
use Rattle.numa_fault.specs.declared.refusal.SpanRefusal.{SpanRefusal}
use Rattle.numa_fault.specs.declared.refusal.SpanRefusal.TheVariants.{NoView as NoSight}
use Rattle.numa_fault.specs.declared.refusal.SpanRefusal.TheVariants.{BadCpu as NoCpu}
use Rattle.numa_fault.specs.declared.refusal.SpanRefusal.TheVariants.{Unmapped as NoPage}
use Rattle.numa_fault.specs.declared.refusal.SpanRefusal.TheVariants.{Exhausted as NoFrame}
use Rattle.numa_fault.specs.declared.refusal.SpanRefusal.TheVariants.{NoMemory as NoRoom}
use Rattle.numa_fault.specs.declared.span.Span.{Span}
use Rattle.numa_fault.proofs.Spanning.{not-refused}

-- ---- answers

module _ (frames : List ℕ) (request : Request) (before after : Parts) where
  -- an answer is NoView, or the worker was let in
  pub entered : (answer : Result Placement FaultRefusal) → Faults frames request before after answer
      → ((answer ≡ Err NoView) × (after.reader.refused ≡ before.reader.refused + 1))
      ⊎ ((answer ≢ Err NoView) × LetsIn before.reader after.reader)
  entered (Ok p) faults = inr ((λ e. absurd (cc)), faults.0)
  entered (Err NoView) faults = inl (refl, ap (λ (w : Parts). w.reader.refused) faults)
  entered (Err BadCpu) faults = inr ((λ e. absurd (cc)), faults.0)
  entered (Err (Unmapped version)) faults = inr ((λ e. absurd (cc)), faults.0)
  entered (Err (Exhausted version)) faults = inr ((λ e. absurd (cc)), faults.0)

  pub enters-once : (answer : Result Placement FaultRefusal)
      → Faults frames request before after answer → after.reader.enters ≡ before.reader.enters + 1
  enters-once (Ok p) faults = faults.0.enters
  enters-once (Err NoView) faults = ap (λ (w : Parts). w.reader.enters) faults
  enters-once (Err BadCpu) faults = faults.0.enters
  enters-once (Err (Unmapped version)) faults = faults.0.enters
  enters-once (Err (Exhausted version)) faults = faults.0.enters

  pub no-view : (answer : Result Placement FaultRefusal) → Faults frames request before after answer
      → (answer ≡ Err NoView) ↔ (after.reader.refused ≡ before.reader.refused + 1)
  no-view answer faults = elim (entered answer faults) [
    | inl refused ↦ ((λ e. refused.1), (λ e. refused.0))
    | inr let_in ↦
        ((λ e. absurd (let_in.0 e)), (λ e. let same = let_in.1.refused in absurd (omega arith)))
  ]

  pub tells-refusal : (answer : Result Placement FaultRefusal)
      → Faults frames request before after answer → answer ≢ Err NoView
      → refusal_of after.reader.desk.machine after.reader.history request ≡ refusal_told answer
  tells-refusal (Ok p) faults seen = faults.1.stands
  tells-refusal (Err NoView) faults seen = absurd (seen refl)
  tells-refusal (Err BadCpu) faults seen = faults.1.0
  tells-refusal (Err (Unmapped version)) faults seen = faults.1.0
  tells-refusal (Err (Exhausted version)) faults seen = faults.1.stands

  pub tells-version : (answer : Result Placement FaultRefusal)
      → Faults frames request before after answer
      → ForSome (version_told answer) (λ version. version ≡ length after.reader.history)
  tells-version (Ok p) faults = λ version e.
      (let same : p.version ≡ version = cc in sym same ∙ faults.1.version)
  tells-version (Err NoView) faults = λ version e. absurd (cc)
  tells-version (Err BadCpu) faults = λ version e. absurd (cc)
  tells-version (Err (Unmapped told)) faults = λ version e.
      (let same : told ≡ version = cc in sym same ∙ faults.1.1)
  tells-version (Err (Exhausted told)) faults = λ version e.
      (let same : told ≡ version = cc in sym same ∙ faults.1.version_is)

  pub fault-grows : (answer : Result Placement FaultRefusal)
      → Faults frames request before after answer
      → Extends before.reader.history after.reader.history
  fault-grows (Ok p) faults = faults.0.history
  fault-grows (Err NoView) faults = ([], ap (λ (w : Parts). w.reader.history) faults)
  fault-grows (Err BadCpu) faults = faults.0.history
  fault-grows (Err (Unmapped version)) faults = faults.0.history
  fault-grows (Err (Exhausted version)) faults = faults.0.history

pub span-grows : (frames : List ℕ) (span : Span) (before after : Parts) (old new : List Placement)
    (answer : Result ℕ SpanRefusal)
    → FaultsOnSpan frames span before after old new answer
    → Extends before.reader.history after.reader.history
span-grows frames span before after old new (Ok version) faults = faults.0.history
span-grows frames span before after old new (Err NoSight) faults =
    ([], ap (λ (w : Parts). w.reader.history) faults.0)
span-grows frames span before after old new (Err NoCpu) faults = faults.0.history
span-grows frames span before after old new (Err (NoPage version)) faults = faults.0.history
span-grows frames span before after old new (Err (NoFrame version done)) faults = faults.0.history
span-grows frames span before after old new (Err NoRoom) faults = faults.0.history

-- ---- walks

module _ (frames : List ℕ) (machine : Hardware) (history : List Command) (request : Request)
    (before after : SeatView) where
  pub won-taken : (p : Placement) → Places frames machine history request p before after
      → FoundTaken frames (list_of machine history request) p.rank before after
  won-taken p places =
      let walks = places.walks in (
        walks.steps.0,
        walks.steps.1,
        win-earlier frames (list_of machine history request) p.frame walks.steps.0 p.rank
            walks.distinct walks.steps.2 (places.rank ∙ ap Some places.node),
      )

  pub none-taken : (version : ℕ) → FindsNone frames machine history request version before after
      → FoundTaken frames (list_of machine history request)
      (length (list_of machine history request)) before after
  none-taken version finds =
      let steps = finds.walks.steps in
      (steps.0, steps.1, all-found frames steps.0 (list_of machine history request) steps.2.1)

-- ---- spans

module _ (frames : List ℕ) (span : Span) (before after : Parts) (old new : List Placement) where
  -- an answer to a span is NoView, or the worker was let in
  pub span-entered : (answer : Result ℕ SpanRefusal) → FaultsOnSpan frames span before after old new
      answer
      → ((answer ≡ Err NoSight) × (after.reader.refused ≡ before.reader.refused + 1))
      ⊎ ((answer ≢ Err NoSight) × LetsIn before.reader after.reader)
  span-entered (Ok version) faults = inr ((λ e. absurd (cc)), faults.0)
  span-entered (Err NoSight) faults = inl (refl, ap (λ (w : Parts). w.reader.refused) faults.0)
  span-entered (Err NoCpu) faults = inr ((λ e. absurd (cc)), faults.0)
  span-entered (Err (NoPage version)) faults = inr ((λ e. absurd (cc)), faults.0)
  span-entered (Err (NoFrame version done)) faults = inr ((λ e. absurd (cc)), faults.0)
  span-entered (Err NoRoom) faults = inr ((λ e. absurd (cc)), faults.0)

  pub span-enters-once : (answer : Result ℕ SpanRefusal)
      → FaultsOnSpan frames span before after old new answer
      → after.reader.enters ≡ before.reader.enters + 1
  span-enters-once (Ok version) faults = faults.0.enters
  span-enters-once (Err NoSight) faults = ap (λ (w : Parts). w.reader.enters) faults.0
  span-enters-once (Err NoCpu) faults = faults.0.enters
  span-enters-once (Err (NoPage version)) faults = faults.0.enters
  span-enters-once (Err (NoFrame version done)) faults = faults.0.enters
  span-enters-once (Err NoRoom) faults = faults.0.enters

  pub span-no-view : (answer : Result ℕ SpanRefusal) → FaultsOnSpan frames span before after old new
      answer → (answer ≡ Err NoSight) ↔ (after.reader.refused ≡ before.reader.refused + 1)
  span-no-view answer faults = elim (span-entered answer faults) [
    | inl refused ↦ ((λ e. refused.1), (λ e. refused.0))
    | inr let_in ↦
        ((λ e. absurd (let_in.0 e)), (λ e. let same = let_in.1.refused in absurd (omega arith)))
  ]

  -- a span that stands is refused for nothing
  stands-so : Stands after.reader.desk.machine after.reader.history span
      → (told : Option PlaceRefusal) → told ≡ None → (refusal : PlaceRefusal)
      → (told ≡ Some refusal) ↔ IsRefused after.reader.desk.machine after.reader.history span
      refusal
  stands-so stands told none refusal = (
    (λ e. absurd (cc)),
    (λ refused.
        absurd (not-refused after.reader.desk.machine after.reader.history span.cpu span.first
        span.pages stands refusal refused)),
  )

  pub span-tells : (answer : Result ℕ SpanRefusal) → FaultsOnSpan frames span before after old new
      answer → answer ≢ Err NoSight → (refusal : PlaceRefusal)
      → (span_refusal_told answer ≡ Some refusal)
      ↔ IsRefused after.reader.desk.machine after.reader.history span refusal
  span-tells (Ok version) faults seen refusal = stands-so faults.1.0 None refl refusal
  span-tells (Err NoSight) faults seen refusal = absurd (seen refl)
  span-tells (Err NoCpu) faults seen cpu_is_bad = ((λ e. faults.1.0), (λ refused. refl))
  span-tells (Err NoCpu) faults seen is_unmapped = (
    (λ e. absurd (cc)),
    (λ refused. let far = faults.1.0 in let near = refused.0 in
        absurd (omega arith)),
  )
  span-tells (Err (NoPage version)) faults seen cpu_is_bad =
      ((λ e. absurd (cc)), (λ refused. let near = faults.1.0.0 in absurd (omega arith)))
  span-tells (Err (NoPage version)) faults seen is_unmapped = ((λ e. faults.1.0), (λ refused. refl))
  span-tells (Err (NoFrame version done)) faults seen refusal =
      stands-so faults.1.0 None refl refusal
  span-tells (Err NoRoom) faults seen refusal = stands-so faults.1.0 None refl refusal
