-- Workers stay with their desk.
use Rattle.std.proofs.Common.{◌≡◌, ℕ, ◌+◌, ◌<◌, ◌≤◌, List, [], ◌∷◌, length, get_or, ap, subst}
use Rattle.std.proofs.Common.{◌∙◌, arith}
use native.Mathlib.Decide.{dec_le}
use Rattle.std.specs.Prelude.{Result, Ok, Err, slice_index_or}
use Rattle.std.specs.List.{All}
use Rattle.numa_requests.specs.declared.placement.Placement.{Placement}
use Rattle.numa_requests.specs.declared.request.Request.{Request}
use Rattle.numa_publish.specs.Shown.{DeskIdentity}
use Rattle.numa_fault.specs.Crew.{column, Serves, ServesEach, result_of}
use Rattle.numa_fault.specs.Fault.{Faults}
use Rattle.numa_fault.specs.Worker.{Parts, WorkerState, parts_of}
use Rattle.numa_fault.specs.declared.answer.Answer.{Answer}
use Rattle.numa_fault.specs.declared.refusal.FaultRefusal.{FaultRefusal}
use Rattle.numa_fault.specs.declared.refusal.FaultRefusal.TheVariants.{NoView, BadCpu, Unmapped}
use Rattle.numa_fault.specs.declared.refusal.FaultRefusal.TheVariants.{Exhausted}

module _ (frames : List ℕ) where
  fault-desk : (request : Request) (before after : Parts)
      (answer : Result Placement FaultRefusal) → Faults frames request before after answer
      → after.reader.desk ≡ before.reader.desk
  fault-desk request before after (Ok p) faults = faults.0.desk
  fault-desk request before after (Err NoView) faults =
      ap (λ (w : Parts). w.reader.desk) faults
  fault-desk request before after (Err BadCpu) faults = faults.0.desk
  fault-desk request before after (Err (Unmapped version)) faults = faults.0.desk
  fault-desk request before after (Err (Exhausted version)) faults = faults.0.desk

  serves-desk : (requests : List Request) (before after : Parts) (answers : List Answer)
      → Serves frames requests before after answers
      → after.reader.desk ≡ before.reader.desk
  serves-desk [] before after [] done = ap (λ (w : Parts). w.reader.desk) done
  serves-desk [] before after (a ∷ answers) done = absurd done
  serves-desk (r ∷ requests) before after [] done = absurd done
  serves-desk (r ∷ requests) before after (a ∷ answers) done =
      serves-desk requests done.0 after answers done.2
      ∙ fault-desk r before done.0 (result_of a) done.1

  pub crew-desk : (requests : List Request) (old new : List WorkerState) (answers : List Answer)
      (desk : DeskIdentity) → length new ≡ length old
      → ServesEach frames requests old new answers
      → All (λ (w : WorkerState). w.reader.desk ≡ desk) old
      → All (λ (w : WorkerState). w.reader.desk ≡ desk) new
  crew-desk requests old new answers desk many served all w d inside =
      let in_old : w < length old = omega arith in
      serves-desk (column (length old) w requests) (parts_of (slice_index_or old w d))
      (parts_of (slice_index_or new w d)) (column (length old) w answers) (served w d in_old)
      ∙ all w d in_old

-- what holds of the first workers and of the next one
pub one_worker_more : (P : WorkerState → Type 0) (xs : List WorkerState) (k : ℕ) (x : WorkerState)
    → ((w : ℕ) (d : WorkerState) → w < k → P (get_or xs w d))
    → ((d : WorkerState) → x ≡ get_or xs k d) → P x
    → (w : ℕ) (d : WorkerState) → w < k + 1 → P (get_or xs w d)
one_worker_more P xs k x each is its w d inside = by (dec_le k w)
  where
    by : Dec (k ≤ w) → P (get_or xs w d)
    by (no low) = each w d (omega arith)
    by (yes high) =
        let here : k ≡ w = omega arith in
        subst (λ (i : ℕ). P (get_or xs i d)) here (subst P (is d) its)
