-- What a core stands for once a frame has another owner, or an idle worker took a version.
use Rattle.std.proofs.Common.{zero, suc, ◌≡◌, ◌≢◌, ℕ, ◌<◌, ◌≤◌, ◌==◌, ◌⊎◌, inl, inr, Bool, true}
use Rattle.std.proofs.Common.{false, Option, Some, None, option_and_then, List, [], ◌∷◌, length}
use Rattle.std.proofs.Common.{refl, sym, ap, subst, ◌∙◌, arith, slice_index, slice_get, slice_set}
use Rattle.std.proofs.Common.{if◌then◌else◌}
use Rattle.std.proofs.lemmas.Bool.{eq-eqb}
use Rattle.std.proofs.lemmas.Bool.Decides.{eqb_tells, nat_tests}
use Rattle.numa_machine.specs.declared.frame.Frame.{Frame}
use Rattle.numa_core.specs.World.{Worker, World, newest_published, frame_search_of, is_frame}
use Rattle.numa_core.specs.Steps.{with_worker, with_owner, put_frame}
use Rattle.numa_core.specs.Standing.{CoreState, CoreStandsFor, shown_frame_search, owner_at}
use Rattle.numa_core.specs.Standing.{place_in}
use Rattle.numa_core.proofs.Versions.{by_itself}
use Rattle.numa_core.proofs.InARow.{is_at, same_place, place-is}

-- an idle worker took the newest version
pub stands-idle : (core : CoreState) (world : World) (w : ℕ) → frame_search_of world w ≡ None
    → CoreStandsFor core world
    → CoreStandsFor core (with_worker world w (newest_published world) None)
stands-idle core world w idle stands = record {
  space = stands.space;
  plan = stands.plan;
  frame_searches =
      λ v. by_itself (λ (worker : Worker). shown_frame_search core v ≡ worker.frame_search) w v
      (record { last = newest_published world; frame_search = None }) (world.worker v)
      (λ e. stands.frame_searches v ∙ subst (λ u. frame_search_of world u ≡ None) e idle)
      (stands.frame_searches v);
  owners = stands.owners;
  published = stands.published;
  known = stands.known;
  not_newer = λ v. by_itself (λ (worker : Worker). worker.last ≤ newest_published world) w v
      (record { last = newest_published world; frame_search = None }) (world.worker v)
      (λ e. omega arith) (stands.not_newer v);
}

-- a frame has another owner
pub stands-owner : (core : CoreState) (owners : List (Option ℕ)) (world : World) (frame : Frame)
    (owner : Option ℕ)
    → ((n k : ℕ) → owner_at owners (place_in core.space.machine.frames n k)
    ≡ put_frame (λ n k. owner_at core.owners (place_in core.space.machine.frames n k)) frame owner n
    k)
    → CoreStandsFor core world
    → CoreStandsFor
    (record { space = core.space; plan = core.plan; workers = core.workers; owners = owners })
    (with_owner world frame owner)
stands-owner core owners world frame owner each stands = record {
  space = stands.space;
  plan = stands.plan;
  frame_searches = stands.frame_searches;
  owners = λ n k. each n k ∙ ap (λ o. if is_frame frame n k then owner else o) (stands.owners n k);
  published = stands.published;
  known = stands.known;
  not_newer = stands.not_newer;
}

not_same : (a b : ℕ) → a ≢ b → (a == b) ≡ false
not_same a b h = grind (arith, nat_tests)

-- a table after one write
pub get-set : (xs : List (Option ℕ)) (i j : ℕ) (x : Option ℕ) → i < length xs
    → slice_get (slice_set xs i x) j ≡ (if j == i then Some x else slice_get xs j)
get-set [] i j x low = absurd (omega arith)
get-set (y ∷ ys) zero zero x low = refl
get-set (y ∷ ys) zero (suc j) x low = rw (not_same (suc j) 0 (λ e. omega arith)) refl
get-set (y ∷ ys) (suc i) zero x low = rw (not_same 0 (suc i) (λ e. omega arith)) refl
get-set (y ∷ ys) (suc i) (suc j) x low = get-set ys i j x (omega arith)
    ∙ ap (λ b. if b then Some x else slice_get ys j) (go (eqb_tells j i))
  where
    go : ((j == i ≡ true) × (j ≡ i)) ⊎ ((j == i ≡ false) × (j ≢ i)) → (j == i) ≡ (suc j == suc i)
    go (inl e) = e.0 ∙ sym (eq-eqb (suc j) (suc i) (ap (λ n. suc n) e.1))
    go (inr e) = e.0 ∙ sym (not_same (suc j) (suc i) (λ h. let ne : j ≢ i = e.1 in omega arith))

-- the owners after the owner at a frame's place was written
pub owner-put : (frames : List ℕ) (owners : List (Option ℕ)) (frame : Frame) (place : ℕ)
    (owner : Option ℕ) → frame.number < slice_index frames frame.node
    → place_in frames frame.node frame.number ≡ Some place → place < length owners
    → (n k : ℕ) → owner_at (slice_set owners place owner) (place_in frames n k)
    ≡ put_frame (λ n k. owner_at owners (place_in frames n k)) frame owner n k
owner-put frames owners frame place owner low at within n k =
    go (place_in frames n k)
    (subst (λ p. is_at (place_in frames n k) p ≡ is_frame frame n k)
    (same_some (sym (place-is frames frame.node frame.number low) ∙ at))
    (same_place frames frame.node frame.number n k low))
  where
    same_some : {a b : ℕ} → ◌≡◌ {A = Option ℕ} (Some a) (Some b) → a ≡ b
    same_some e = cc

    pick : (b : Bool) (p : ℕ)
        → option_and_then (λ o. o) (if b then Some owner else slice_get owners p)
        ≡ (if b then owner else owner_at owners (Some p))
    pick true p = refl
    pick false p = refl

    go : (o : Option ℕ) → is_at o place ≡ is_frame frame n k
        → owner_at (slice_set owners place owner) o
        ≡ (if is_frame frame n k then owner else owner_at owners o)
    go None e = rw (sym e) refl
    go (Some p) e =
        rw (sym e) (ap (λ o. option_and_then (λ o. o) o) (get-set owners place p owner within)
        ∙ pick (p == place) p)
