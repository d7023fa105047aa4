-- The answers of one worker, one after the other.
use Rattle.std.proofs.Common.{◌≡◌, ℕ, zero, suc, ◌≤◌, List, [], ◌∷◌, ◌++◌, length, sym, ap, ◌∙◌}
use Rattle.std.proofs.Common.{arith, append_assoc, length-append}
use Rattle.std.specs.Prelude.{Some}
use Rattle.numa_requests.specs.declared.request.Request.{Request}
use Rattle.numa_requests.specs.declared.command.Command.{Command}
use Rattle.numa_publish.specs.Batches.{Extends}
use Rattle.numa_fault.specs.Crew.{Serves, result_of}
use Rattle.numa_fault.specs.Fault.{Faults}
use Rattle.numa_fault.specs.Told.{version_at, version_told}
use Rattle.numa_fault.specs.Worker.{Parts}
use Rattle.numa_fault.specs.declared.answer.Answer.{Answer}
use Rattle.numa_fault.proofs.Lawful.{fault-grows, tells-version}

module _ (frames : List ℕ) where
  pub serves-grow : (requests : List Request) (before after : Parts) (answers : List Answer)
      → Serves frames requests before after answers
      → Extends before.reader.history after.reader.history
  serves-grow [] before after [] done = ([], ap (λ (w : Parts). w.reader.history) done)
  serves-grow [] before after (a ∷ answers) done = absurd done
  serves-grow (r ∷ requests) before after [] done = absurd done
  serves-grow (r ∷ requests) before after (a ∷ answers) done =
      let one = fault-grows frames r before done.0 (result_of a) done.1 in
      let rest = serves-grow requests done.0 after answers done.2 in (
        rest.0 ++ one.0,
        rest.1 ∙ ap (λ h. rest.0 ++ h) one.1
            ∙ sym (append_assoc rest.0 one.0 before.reader.history),
      )

  -- what the first answer tells is the length of what is seen then
  pub first-told : (request : Request) (before after : Parts) (a : Answer) (v : ℕ)
      → Faults frames request before after (result_of a) → version_told (result_of a) ≡ Some v
      → v ≡ length after.reader.history
  first-told request before after a v answers told = tells-version frames request before after
      (result_of a) answers v told

  -- a version that is told is no less than the length of what was seen before
  told-above : (requests : List Request) (before after : Parts) (answers : List Answer)
      → Serves frames requests before after answers
      → (j w : ℕ) → version_at answers j ≡ Some w → length before.reader.history ≤ w
  told-above [] before after [] done j w told = absurd (cc)
  told-above [] before after (a ∷ answers) done j w told = absurd done
  told-above (r ∷ requests) before after [] done j w told = absurd done
  told-above (r ∷ requests) before after (a ∷ answers) done zero w told =
      let grows = fault-grows frames r before done.0 (result_of a) done.1 in
      let is = first-told r before done.0 a w done.1 told in
      let long = ap length grows.1 ∙ length-append grows.0 before.reader.history in
      omega arith
  told-above (r ∷ requests) before after (a ∷ answers) done (suc j) w told =
      let grows = fault-grows frames r before done.0 (result_of a) done.1 in
      let rest = told-above requests done.0 after answers done.2 j w told in
      let long = ap length grows.1 ∙ length-append grows.0 before.reader.history in
      omega arith

  pub never-fall : (requests : List Request) (before after : Parts) (answers : List Answer)
      → Serves frames requests before after answers
      → (i j v w : ℕ) → i ≤ j → version_at answers i ≡ Some v → version_at answers j ≡ Some w
      → v ≤ w
  never-fall [] before after [] done i j v w le told later = absurd (cc)
  never-fall [] before after (a ∷ answers) done i j v w le told later = absurd done
  never-fall (r ∷ requests) before after [] done i j v w le told later = absurd done
  never-fall (r ∷ requests) before after (a ∷ answers) done zero zero v w le told later =
      let one = first-told r before done.0 a v done.1 told in let two =
      first-told r before done.0 a w done.1 later in omega arith
  never-fall (r ∷ requests) before after (a ∷ answers) done zero (suc j) v w le told later =
      let one = first-told r before done.0 a v done.1 told in let rest =
      told-above requests done.0 after answers done.2 j w later in omega arith
  never-fall (r ∷ requests) before after (a ∷ answers) done (suc i) zero v w le told later =
      absurd (omega arith)
  never-fall (r ∷ requests) before after (a ∷ answers) done (suc i) (suc j) v w le told later =
      never-fall requests done.0 after answers done.2 i j v w (omega arith) told later

  -- the history at a version that was told
  pub was-seen : (requests : List Request) (before after : Parts) (answers : List Answer)
      → Serves frames requests before after answers
      → (i v : ℕ) → version_at answers i ≡ Some v
      → (history : List Command) × (length history ≡ v) × Extends before.reader.history history
      × Extends history after.reader.history
  was-seen [] before after [] done i v told = absurd (cc)
  was-seen [] before after (a ∷ answers) done i v told = absurd done
  was-seen (r ∷ requests) before after [] done i v told = absurd done
  was-seen (r ∷ requests) before after (a ∷ answers) done zero v told =
      let grows = fault-grows frames r before done.0 (result_of a) done.1 in (
        done.0.reader.history,
        sym (first-told r before done.0 a v done.1 told),
        grows,
        serves-grow requests done.0 after answers done.2,
      )
  was-seen (r ∷ requests) before after (a ∷ answers) done (suc i) v told =
      let grows = fault-grows frames r before done.0 (result_of a) done.1 in
      let rest = was-seen requests done.0 after answers done.2 i v told in
      let above = rest.2 in (
        rest.0,
        rest.1,
        (
          above.0 ++ grows.0,
          above.1 ∙ ap (λ h. above.0 ++ h) grows.1
              ∙ sym (append_assoc above.0 grows.0 before.reader.history),
        ),
        rest.3,
      )
