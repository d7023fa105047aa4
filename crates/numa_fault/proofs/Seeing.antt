-- What a worker saw at the versions that its answers tell.
use Rattle.std.proofs.Common.{◌≡◌, ℕ, zero, suc, List, [], ◌∷◌, sym, ap}
use Rattle.std.specs.Prelude.{Result, Ok, Err, Some}
use Rattle.numa_requests.specs.declared.command.Command.{Command}
use Rattle.numa_requests.specs.declared.placement.Placement.{Placement}
use Rattle.numa_requests.specs.declared.request.Request.{Request}
use Rattle.numa_publish.specs.Batches.{Extends}
use Rattle.numa_publish.proofs.Lists.{extends_trans}
use Rattle.numa_fault.specs.Crew.{Serves, result_of}
use Rattle.numa_fault.specs.Fault.{Faults, LetsIn}
use Rattle.numa_fault.specs.Told.{IsSeenBetween, version_at, version_told}
use Rattle.numa_fault.specs.Worker.{Parts}
use Rattle.numa_fault.specs.declared.answer.Answer.{Answer}
use Rattle.numa_fault.specs.declared.refusal.FaultRefusal.{FaultRefusal}
use Rattle.numa_fault.specs.declared.refusal.FaultRefusal.TheVariants.{NoView, BadCpu, Unmapped}
use Rattle.numa_fault.specs.declared.refusal.FaultRefusal.TheVariants.{Exhausted}
use Rattle.numa_fault.proofs.Lawful.{fault-grows}
use Rattle.numa_fault.proofs.Falling.{first-told, serves-grow}

module _ (frames : List ℕ) where
  versions-grow : (request : Request) (before after : Parts)
      (answer : Result Placement FaultRefusal) → Faults frames request before after answer
      → Extends before.reader.versions after.reader.versions
  versions-grow request before after (Ok p) faults = faults.0.versions
  versions-grow request before after (Err NoView) faults =
      ([], ap (λ (w : Parts). w.reader.versions) faults)
  versions-grow request before after (Err BadCpu) faults = faults.0.versions
  versions-grow request before after (Err (Unmapped version)) faults = faults.0.versions
  versions-grow request before after (Err (Exhausted version)) faults = faults.0.versions

  -- who tells a version was let in
  told-inside : (request : Request) (before after : Parts)
      (answer : Result Placement FaultRefusal) (v : ℕ)
      → Faults frames request before after answer → version_told answer ≡ Some v
      → LetsIn before.reader after.reader
  told-inside request before after (Ok p) v faults told = faults.0
  told-inside request before after (Err NoView) v faults told = absurd (cc)
  told-inside request before after (Err BadCpu) v faults told = faults.0
  told-inside request before after (Err (Unmapped version)) v faults told = faults.0
  told-inside request before after (Err (Exhausted version)) v faults told = faults.0

  all-grow : (requests : List Request) (before after : Parts) (answers : List Answer)
      → Serves frames requests before after answers
      → Extends before.reader.versions after.reader.versions
  all-grow [] before after [] done = ([], ap (λ (w : Parts). w.reader.versions) done)
  all-grow [] before after (a ∷ answers) done = absurd done
  all-grow (r ∷ requests) before after [] done = absurd done
  all-grow (r ∷ requests) before after (a ∷ answers) done =
      extends_trans before.reader.versions done.0.reader.versions after.reader.versions
      (versions-grow r before done.0 (result_of a) done.1)
      (all-grow requests done.0 after answers done.2)

  pub seen-between : (requests : List Request) (before after : Parts) (answers : List Answer)
      → Serves frames requests before after answers
      → (i v : ℕ) → version_at answers i ≡ Some v → (history : List Command)
      × ((versions : List ℕ) × IsSeenBetween before.reader after.reader v history versions)
  seen-between [] before after [] done i v told = absurd (cc)
  seen-between [] before after (a ∷ answers) done i v told = absurd done
  seen-between (r ∷ requests) before after [] done i v told = absurd done
  seen-between (r ∷ requests) before after (a ∷ answers) done zero v told =
      let inside : LetsIn before.reader done.0.reader =
      told-inside r before done.0 (result_of a) v done.1 told in (
        done.0.reader.history,
        (
          done.0.reader.versions,
          record {
            number = sym (first-told frames r before done.0 a v done.1 told);
            newest = inside.newest;
            since = (inside.history, inside.versions);
            until = (
              serves-grow frames requests done.0 after answers done.2,
              all-grow requests done.0 after answers done.2,
            );
          },
        ),
      )
  seen-between (r ∷ requests) before after (a ∷ answers) done (suc i) v told =
      let rest = seen-between requests done.0 after answers done.2 i v told in
      let seen : IsSeenBetween done.0.reader after.reader v rest.0 rest.1.0 = rest.1.1 in (
        rest.0,
        (
          rest.1.0,
          record {
            number = seen.number;
            newest = seen.newest;
            since = (
              extends_trans before.reader.history done.0.reader.history rest.0
                  (fault-grows frames r before done.0 (result_of a) done.1) seen.since.0,
              extends_trans before.reader.versions done.0.reader.versions rest.1.0
                  (versions-grow r before done.0 (result_of a) done.1) seen.since.1,
            );
            until = seen.until;
          },
        ),
      )
