-- The newest published version is the greatest, and no worker's last one is above it: each worker
-- may take it.
use Rattle.std.proofs.Common.{◌≡◌, ℕ, ◌≤◌, ◌==◌, ◌||◌, Bool, true, false, Option, Some, None}
use Rattle.std.proofs.Common.{Result, Ok, Err, is_ok, List, [], ◌∷◌, length, refl, arith}
use Rattle.std.proofs.Common.{if◌then◌else◌}
use Rattle.std.proofs.lemmas.Bool.{eq-eqb, eqb-true}
use Rattle.numa_requests.specs.declared.event.Event.{Event}
use Rattle.numa_requests.specs.declared.event.Event.TheVariants.{Accept, Publish, Begin, Seek, Look}
use Rattle.numa_requests.specs.declared.event.Event.TheVariants.{Try, Give}
use Rattle.numa_requests.specs.declared.event.CoreReply.{CoreReply}
use Rattle.numa_requests.specs.declared.event.CoreRefusal.{CoreRefusal}
use Rattle.numa_core.specs.World.{Setup, Worker, World, is_published, newest_published, last_of}
use Rattle.numa_core.specs.World.{owner_of}
use Rattle.numa_core.specs.Steps.{effect_of, MayTake}
use Rattle.numa_core.specs.Executions.{CoreStep, world_of, IsExecution}
use Rattle.numa_core.proofs.Versions.{IsSound, sound, by_itself}

pub record HasNewest (world : World) : Type 0 where
  pub there : is_published world (newest_published world) ≡ true
  pub greatest : (v : ℕ) → is_published world v ≡ true → v ≤ newest_published world
  pub lasts : (w : ℕ) → last_of world w ≤ newest_published world

newest-step : (s : Setup) (world : World) (version : ℕ) (event : Event)
    → MayTake world version event → IsSound world → HasNewest world
    → HasNewest (effect_of s world version event)
newest-step s world version (Accept command) may sound newest =
    record { there = newest.there; greatest = newest.greatest; lasts = newest.lasts }
newest-step s world version Publish may sound newest = record {
  there = rw (eq-eqb (length world.history) (length world.history) refl) refl;
  greatest = λ v h. go v (length world.history == v) refl h;
  lasts = sound.lasts;
}
  where
    go : (v : ℕ) (b : Bool) → (length world.history == v) ≡ b → (b || is_published world v) ≡ true
        → v ≤ length world.history
    go v true e h = omega (arith, eqb-true (length world.history) v e)
    go v false e h = sound.published v h
newest-step s world version (Begin v request) may sound newest = record {
  there = newest.there;
  greatest = newest.greatest;
  lasts = λ w. by_itself (λ (worker : Worker). worker.last ≤ newest_published world) v w _
      (world.worker w) (λ e. newest.greatest version may.0) (newest.lasts w);
}
newest-step s world version (Seek v node) may sound newest = record {
  there = newest.there;
  greatest = newest.greatest;
  lasts = λ w. by_itself (λ (worker : Worker). worker.last ≤ newest_published world) v w _
      (world.worker w) (λ e. newest.greatest version may.0) (newest.lasts w);
}
newest-step s world version (Look v word) may sound newest = record {
  there = newest.there;
  greatest = newest.greatest;
  lasts = λ w. by_itself (λ (worker : Worker). worker.last ≤ newest_published world) v w _
      (world.worker w) (λ e. newest.lasts v) (newest.lasts w);
}
newest-step s world version (Try v frame) may sound newest = go (owner_of world frame) refl
  where
    go : (owner : Option ℕ) → owner_of world frame ≡ owner
        → HasNewest (effect_of s world version (Try v frame))
    go (Some u) is = rw is record {
      there = newest.there;
      greatest = newest.greatest;
      lasts = λ w. by_itself (λ (worker : Worker). worker.last ≤ newest_published world) v w _
          (world.worker w) (λ e. newest.lasts v) (newest.lasts w);
    }
    go None is = rw is record {
      there = newest.there;
      greatest = newest.greatest;
      lasts = λ w. by_itself (λ (worker : Worker). worker.last ≤ newest_published world) v w _
          (world.worker w) (λ e. newest.lasts v) (newest.lasts w);
    }
newest-step s world version (Give v frame) may sound newest =
    record { there = newest.there; greatest = newest.greatest; lasts = newest.lasts }

-- every execution leads to a world with a newest published version
pub newest : (s : Setup) (past : List CoreStep) → IsExecution s past → HasNewest (world_of s past)
newest s [] legal = record {
  there = refl;
  greatest = λ v h. go v (0 == v) refl h;
  lasts =
      λ w. omega arith;
}
  where
    go : (v : ℕ) (b : Bool) → (0 == v) ≡ b → (b || false) ≡ true → v ≤ 0
    go v true e h = omega (arith, eqb-true 0 v e)
    go v false e h = absurd (cc)
newest s (m ∷ past) legal = go m.answer (newest s past legal.0)
  where
    go : (answer : Result CoreReply CoreRefusal) → HasNewest (world_of s past)
        → HasNewest (if is_ok answer then effect_of s (world_of s past) m.version m.event
        else world_of s past)
    go (Ok reply) h = newest-step s (world_of s past) m.version m.event legal.1
        (sound s past legal.0) h
    go (Err refusal) h = h

-- each worker may take the newest published version
pub may_take-newest : (world : World) (event : Event) → HasNewest world
    → MayTake world (newest_published world) event
may_take-newest world (Begin w request) newest = (newest.there, newest.lasts w)
may_take-newest world (Seek w node) newest = (newest.there, newest.lasts w)
may_take-newest world (Accept command) newest = tt
may_take-newest world Publish newest = tt
may_take-newest world (Look w word) newest = tt
may_take-newest world (Try w frame) newest = tt
may_take-newest world (Give w frame) newest = tt
