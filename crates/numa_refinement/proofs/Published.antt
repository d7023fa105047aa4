-- What the workers of a crew saw, where the calls of their desk stand first.
use Rattle.std.proofs.Common.{◌≡◌, ℕ, ◌+◌, ◌*◌, ◌/◌, ◌%◌, ◌<◌, ◌≤◌, List, [], ◌∷◌, length, true}
use Rattle.std.proofs.Common.{refl}
use Rattle.std.proofs.Common.{Some, ap, subst, ◌∙◌, arith}
use Rattle.std.specs.Prelude.{slice_get, slice_index, slice_index_or}
use Rattle.std.specs.Option.{option_and_then}
use Rattle.numa_requests.specs.declared.request.Request.{Request}
use Rattle.numa_core.specs.World.{Setup, World, is_published}
use Rattle.numa_core.specs.Executions.{world_of}
use Rattle.numa_publish.specs.Shown.{DeskState}
use Rattle.numa_fault.specs.Crew.{column, result_of, AreWithin, IsCrew, ServesEach}
use Rattle.numa_fault.specs.Told.{version_at, version_told}
use Rattle.numa_fault.specs.Worker.{WorkerState, parts_of}
use Rattle.numa_fault.specs.declared.answer.Answer.{Answer}
use Rattle.numa_fault.proofs.Columns.{column-at}
use Rattle.numa_refinement.specs.Crews.{IsSeenIn}
use Rattle.numa_refinement.specs.Interleaved.{Calls}
use Rattle.numa_refinement.specs.LegalSteps.{HasPublished}
use Rattle.numa_refinement.specs.Moves.{PoolState}
use Rattle.numa_refinement.specs.Plays.{Done, IsPlay, execution_of}
use Rattle.numa_refinement.proofs.Answering.{each}
use Rattle.numa_refinement.proofs.Calling.{called}
use Rattle.numa_refinement.proofs.Desking.{compared}

module _ (s : Setup) (few : (n : ℕ) → slice_index s.machine.frames n ≤ 4096)
    (some_worker : 0 < s.workers) (first : PoolState) (calls : List Done)
    (play : IsPlay s first calls) (desk : DeskState) (made : Calls s calls desk)
    (frames : List ℕ) (requests : List Request) (old new : List WorkerState)
    (answers : List Answer) (crew : IsCrew (length old)) (many : length new ≡ length old)
    (served : ServesEach frames requests old new answers)
    (within : AreWithin desk.published desk.versions new) where
  abbrev world : World
  world = world_of s (execution_of s calls)

  has : (w : ℕ) (d : WorkerState) → w < length new
      → HasPublished world (slice_index_or new w d).reader.history
      (slice_index_or new w d).reader.versions
  has w d inside = compared s world desk (slice_index_or new w d).reader.history
      (slice_index_or new w d).reader.versions
      (called s few some_worker first calls desk play made) (within w d inside)

  told : (d : WorkerState) (i version : ℕ) → version_at answers i ≡ Some version
      → is_published world version ≡ true
  told d i version at =
      let some_turn = crew.0 in
      let inside : i % length old < length old = omega arith in
      let here : i % length old + i / length old * length old ≡ i = omega arith in
      let in_column : version_at (column (length old) (i % length old) answers) (i / length old)
      ≡ Some version =
      ap (option_and_then (λ (answer : Answer). version_told (result_of answer)))
      (column-at (length old) (i % length old) (i / length old) answers some_turn
      ∙ ap (slice_get answers) here) ∙ at in
      let found = each world frames (column (length old) (i % length old) requests)
      (parts_of (slice_index_or old (i % length old) d))
      (parts_of (slice_index_or new (i % length old) d))
      (column (length old) (i % length old) answers) (served (i % length old) d inside)
      (has (i % length old) d (omega arith)) (i / length old) version in_column in
      subst (λ (v : ℕ). is_published world v ≡ true) found.1 found.4.published

  told_by : (workers : List WorkerState) → old ≡ workers → (i version : ℕ)
      → version_at answers i ≡ Some version → is_published world version ≡ true
  told_by [] is = let none : length old ≡ 0 = ap length is in let some_old = crew.0 in
      absurd (omega arith)
  told_by (d ∷ workers) is = told d

  pub seen : IsSeenIn world new answers
  seen = record {
    commands = λ w d inside. (has w d inside).commands;
    versions = told_by old refl;
  }
