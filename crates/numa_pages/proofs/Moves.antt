-- What pages that move make of a core and its pages.
use Rattle.std.proofs.Common.{◌≡◌, ℕ, ◌+◌, ◌*◌, ◌<◌, Bool, true, Option, Some, None, List, Ok, Err}
use Rattle.std.proofs.Common.{[], refl}
use Rattle.std.proofs.Common.{sym, ap, subst, ◌∙◌, arith, length}
use Rattle.std.specs.Prelude.{IfOk, IsSomeAnd, Result, min, slice_index}
use Rattle.numa_core.specs.Standing.{CoreState, setup_of}
use Rattle.numa_maps.specs.Residents.{Kept}
use Rattle.numa_machine.specs.declared.no_memory.NoMemory.{NoMemory}
use Rattle.numa_placed.specs.declared.moved.Moved.{Moved}
use Rattle.numa_requests.specs.declared.command.Command.{Command}
use Rattle.numa_requests.specs.declared.command.Command.TheVariants.{SetMems}
use Rattle.numa_requests.specs.declared.page_refusal.PlacedRefusal.{PlacedRefusal}
use Rattle.numa_requests.specs.declared.page_refusal.PlacedRefusal.TheVariants as cause
use Rattle.numa_space.specs.Refusals.{refusal_of}
use Rattle.numa_space.specs.Standing.{SpaceState, StandsFor}
use Rattle.numa_huge.specs.Huge.{HugePlaced, places_of}
use Rattle.numa_huge.specs.Moves.{HugeMemory, following, leave_from, told_following}
use Rattle.numa_huge.specs.Tallies.{HasTold, IsWalk}
use Rattle.numa_huge.specs.declared.last.Flows.{Flows}
use Rattle.numa_huge.specs.declared.last.HugeLast.TheVariants.{Nodes}
use Rattle.numa_page_state.specs.Huge.{huge_walk}
use Rattle.numa_page_state.specs.Lying.{Lying, process_in}
use Rattle.numa_page_state.specs.Outcomes.{along_outcome}
use Rattle.numa_page_state.specs.Sending.{asked_of, command_of}
use Rattle.numa_page_state.specs.Standing.{DoesAs, LiesAs, Sends}
use Rattle.numa_page_state.specs.declared.last.Last.TheVariants as went
use Rattle.numa_page_state.specs.declared.sending.Sending.{Sending}
use Rattle.numa_page_state.specs.declared.shift.Shift.{Shift}
use Rattle.numa_page_state.specs.declared.state.PageState.{PageState}
use Rattle.numa_page_state.proofs.Asking.{settles}
use Rattle.numa_page_state.proofs.Few.{sent-few, walk-few}
use Rattle.numa_pages.specs.Changes.{Accepted, Answers, BindsBy, GoAlong, IsLast, IsMovingCause}
use Rattle.numa_pages.specs.Changes.{MovesMems}
use Rattle.numa_pages.specs.Changes.{Moving, PagesState, huge_in, lack_told, lacking, late_errno}
use Rattle.numa_pages.specs.Changes.{may_fill, process_of, shift_of, walk_of}
use Rattle.numa_pages.specs.Sizes.{IsLastSum, alone, both_told}
use Rattle.numa_pages.specs.declared.binding.Rebound.{Rebound}
use Rattle.numa_pages.specs.declared.refusal.ChangeRefusal.TheVariants.{OfPages}
use Rattle.numa_pages.proofs.Refusing.{lies-so, lying_in}
use Rattle.numa_pages.proofs.Summed.{both-so, none-so, shift-sum, summed}

-- the policy's pages were found to go so
abbrev pub Found : Moving → PagesState → Result (Option Sending) PlacedRefusal → Type 0
Found moving pages result = (history : List Command) (lying : Lying)
    → StandsFor pages.core.space history → LiesAs pages.state lying
    → Sends (process_of pages history) moving.said moving.toucher lying result

abbrev pub FoundIn : Moving → PageState → SpaceState → Kept → Result (Option Sending) PlacedRefusal
    → Type 0
FoundIn moving state space kept result = (history : List Command) (lying : Lying)
    → StandsFor space history → LiesAs state lying
    → Sends (process_in space history kept) moving.said moving.toucher lying result

pub found-so : (moving : Moving) (pages : PagesState) (space : SpaceState) (kept : Kept)
    (result came : Result (Option Sending) PlacedRefusal) → space ≡ pages.core.space
    → kept ≡ [] → result ≡ came → FoundIn moving pages.state space kept result
    → Found moving pages came
found-so moving pages space kept result came same none is found =
    subst (λ (r : Result (Option Sending) PlacedRefusal). Found moving pages r) is
    (subst (λ (s : SpaceState). FoundIn moving pages.state s [] result) same
    (subst (λ (k : Kept). FoundIn moving pages.state space k result) none found))

-- how pages of 2 MiB were found to go
abbrev pub SentIn : Moving → HugePlaced → SpaceState
    → Result (Option (HugePlaced × Flows)) NoMemory → Type 0
SentIn moving huge space result = (memory : HugeMemory) (history : List Command) (kept : Kept)
    → places_of huge ≡ memory.pages → StandsFor space history
    → refusal_of space.machine space.bounds history (command_of moving.said) ≡ None
    → IfOk result (λ done. IsSomeAnd done (λ done. IsWalk
    (huge_walk (process_in space history kept) moving.said moving.toucher memory) done.0 done.1))

pub walk-so : (moving : Moving) (pages : PagesState) (space : SpaceState) (sent : Sending)
    (places : HugePlaced) (flows : Flows) (result : Result (Option (HugePlaced × Flows)) NoMemory)
    → space ≡ pages.core.space → result ≡ Ok (Some (places, flows))
    → Found moving pages (Ok (Some sent)) → SentIn moving pages.huge space result
    → (history : List Command) → StandsFor pages.core.space history
    → IsWalk (walk_of pages history moving) places flows
walk-so moving pages space sent places flows result same is found in_space history of =
    let free = (found history (lying_in pages.state) of (lies-so pages.state)).0 in
    let at : SentIn moving pages.huge pages.core.space (Ok (Some (places, flows))) =
    subst (λ (r : Result (Option (HugePlaced × Flows)) NoMemory).
    SentIn moving pages.huge pages.core.space r) is
    (subst (λ (s : SpaceState). SentIn moving pages.huge s result) same in_space) in
    at (alone (huge_in pages)) history [] refl of free

module _ (moving : Moving) (strict : Bool) (before after : PagesState) where
  pub gone : (done : Sending) (places : HugePlaced) (flows : Flows) (told : Rebound)
      → Found moving before (Ok (Some done))
      → ((history : List Command) → StandsFor before.core.space history
      → IsWalk (walk_of before history moving) places flows)
      → (version : ℕ) → Answers before.core (command_of moving.said) (Ok version) after.core
      → setup_of after.core ≡ setup_of before.core
      → after.state ≡ record {
        placed = done.placed;
        rooms = done.rooms;
        follows = before.state.follows;
        last = went.Pages (record {
          moved = done.moved;
          left = done.left;
          before = before.state.placed;
          after = done.copy;
        });
        arrived = before.state.arrived;
      } → after.huge ≡ places
      → told.bound.moved ≡ min (done.moved + length flows.moves.items) 18446744073709551615
      → told.bound.left ≡ min (done.left + flows.left) 18446744073709551615
      → told.errno ≡ late_errno strict moving.said.spec told.bound.left
      → BindsBy moving strict before (Ok told) after
  gone done places flows told found walks version answers setup settled huge moved left errno =
      record {
        core = (version, answers);
        pages = λ history lying of lies.
            let has = (found history lying of lies).1 in
            let walk = walks history of in
            let asked = asked_of (process_of before history) moving.said moving.toucher in
            let few = sent-few [] asked lying in
            let more = walk-few (process_of before history) moving.said moving.toucher
            (alone (huge_in before)) in
            record {
              lies = settles before.state done after.state lying [] asked settled lies has;
              huge = ap places_of huge ∙ walk.pages;
              moved = omega (arith, moved, has.moved, walk.told.moved, few.0, more.0);
              left = omega (arith, left, has.left, walk.told.left, few.1, more.1);
            };
        errno = errno;
        setup = setup;
        err = tt;
        unchanged = tt;
      }

-- something of the pages lacks
module _ (moving : Moving) (strict : Bool) (before : PagesState) where
  refuses : (why : PlacedRefusal) → IsMovingCause moving before (OfPages why)
      → BindsBy moving strict before (Err (OfPages why)) before
  refuses why is = record {
    core = tt;
    pages = tt;
    errno = tt;
    setup = refl;
    err = is;
    unchanged = refl;
  }

  pub lacks : (why : PlacedRefusal) → Found moving before (Err why)
      → BindsBy moving strict before (Err (lack_told why)) before
  lacks cause.NoMemory found = record {
    core = tt;
    pages = tt;
    errno = tt;
    setup = refl;
    err = tt;
    unchanged = refl;
  }
  lacks cause.Unaligned found =
      refuses cause.Unaligned (λ history lying of lies. found history lying of lies refl)
  lacks cause.OutOfSpace found =
      refuses cause.OutOfSpace (λ history lying of lies. found history lying of lies refl)
  lacks cause.NoSuchNode found =
      refuses cause.NoSuchNode (λ history lying of lies. found history lying of lies refl)
  lacks cause.Occupied found =
      refuses cause.Occupied (λ history lying of lies. found history lying of lies refl)
  lacks cause.NodesNotAllowed found =
      refuses cause.NodesNotAllowed (λ history lying of lies. found history lying of lies refl)
  lacks cause.Astray found =
      refuses cause.Astray (λ history lying of lies. found history lying of lies refl)
  lacks cause.BadCpu found =
      refuses cause.BadCpu (λ history lying of lies. found history lying of lies refl)
  lacks cause.Unmapped found =
      refuses cause.Unmapped (λ history lying of lies. found history lying of lies refl)
  lacks cause.NoRoom found =
      refuses cause.NoRoom (λ history lying of lies. found history lying of lies refl)
  lacks cause.TooManyRuns found =
      refuses cause.TooManyRuns (λ history lying of lies. found history lying of lies refl)

-- by the allowed nodes as they were read
goes-in : (before : PagesState) (core : CoreState) (kept : Kept) (old new : ℕ)
    (answer : Result Shift PlacedRefusal) (after : PageState) → kept ≡ []
    → old ≡ before.core.space.allowed → new ≡ core.space.allowed
    → DoesAs before.state answer after lacking (λ lack at. along_outcome lack kept old new at)
    → DoesAs before.state answer after lacking (λ lack at. along_outcome lack []
    before.core.space.allowed core.space.allowed at)
goes-in before core kept old new answer after none from to does =
    subst (λ n. DoesAs before.state answer after lacking
    (λ lack at. along_outcome lack [] before.core.space.allowed n at)) to
    (subst (λ n. DoesAs before.state answer after lacking
    (λ lack at. along_outcome lack [] n new at)) from
    (subst (λ (k : Kept). DoesAs before.state answer after lacking
    (λ lack at. along_outcome lack k old new at)) none does))

-- pages of both sizes went
pub goes-both : (before : PagesState) (core : CoreState) (kept : Kept) (old new : ℕ)
    (shift : Shift) (after : PagesState) → kept ≡ [] → old ≡ before.core.space.allowed
    → new ≡ core.space.allowed → huge_in after ≡ following old new (huge_in before)
    → DoesAs before.state (Ok shift) after.state lacking
    (λ lack at. along_outcome lack kept old new at)
    → GoAlong before core (both_told before.core.space.allowed core.space.allowed (huge_in before)
    (Ok shift)) after
goes-both before core kept old new shift after none from to huge does =
    both-so before.core.space.allowed core.space.allowed before after shift
    (λ lack at. along_outcome lack [] before.core.space.allowed core.space.allowed at)
    (huge ∙ (λ i. following (from i) (to i) (huge_in before)))
    (goes-in before core kept old new (Ok shift) after.state none from to does)

-- none went
pub goes-none : (before : PagesState) (core : CoreState) (kept : Kept) (old new : ℕ)
    (why : PlacedRefusal) (after : PagesState) → kept ≡ [] → old ≡ before.core.space.allowed
    → new ≡ core.space.allowed → after.huge ≡ before.huge
    → DoesAs before.state (Err why) after.state lacking
    (λ lack at. along_outcome lack kept old new at) → GoAlong before core (Err why) after
goes-none before core kept old new why after none from to huge does =
    none-so before.core.space.allowed core.space.allowed before after why
    (λ lack at. along_outcome lack [] before.core.space.allowed core.space.allowed at) huge
    (goes-in before core kept old new (Err why) after.state none from to does)

module _ (mask : ℕ) (before after : PagesState) (core : CoreState)
    (accepted : Accepted before.core (SetMems mask) core) where
  pub went-along : (moved : Moved) → after.core ≡ core → setup_of core ≡ setup_of before.core
      → IsLastSum before.core.space.allowed core.space.allowed (huge_in before) after.state moved
      → GoAlong before core (Ok (shift_of moved)) after → MovesMems mask before (Ok moved) after
  went-along moved is setup last along = record {
    core = subst (Accepted before.core (SetMems mask)) (sym is) accepted;
    pages = subst (λ (k : CoreState). GoAlong before k (Ok (shift_of moved)) after) (sym is) along;
    told = subst (λ (k : CoreState). IsLastSum before.core.space.allowed k.space.allowed
        (huge_in before) after.state moved) (sym is) last;
    setup = ap setup_of is ∙ setup;
    err = tt;
    room = tt;
    unchanged = tt;
  }

  -- as far as there was room, and those of 2 MiB all
  pub along-both : after.core ≡ core → setup_of core ≡ setup_of before.core → (kept : Kept)
      (old new : ℕ) (shift : Shift) (small large told : Moved) → kept ≡ []
      → old ≡ before.core.space.allowed → new ≡ core.space.allowed
      → DoesAs before.state (Ok shift) after.state lacking
      (λ lack at. along_outcome lack kept old new at) → IsLast after.state small
      → shift_of small ≡ shift → huge_in after ≡ following old new (huge_in before)
      → HasTold (Nodes large) (told_following old new (huge_in before).spots)
      → ((node : ℕ) → node < 256
      → slice_index large.from node ≡ leave_from old new (huge_in before).spots node)
      → told.moved ≡ small.moved + large.moved → told.left ≡ small.left
      → ((node : ℕ) → node < 256 → slice_index told.from node
      ≡ slice_index small.from node + slice_index large.from node)
      → told.to ≡ small.to → MovesMems mask before (Ok told) after
  along-both is setup kept old new shift small large told none from to does last counts huge tells
      large_from moved left from_is to_is =
      let was = before.core.space.allowed in
      let now = core.space.allowed in
      let said : HasTold (Nodes large) (told_following was now (huge_in before).spots) =
      subst (λ n. HasTold (Nodes large) (told_following was n (huge_in before).spots)) to
      (subst (λ n. HasTold (Nodes large) (told_following n new (huge_in before).spots)) from tells)
      in
      let leave : (node : ℕ) → node < 256
      → slice_index large.from node ≡ leave_from was now (huge_in before).spots node =
      λ node near. large_from node near
      ∙ (λ i. leave_from (from i) (to i) (huge_in before).spots node) in
      went-along told is setup (summed was now (huge_in before) after.state small large told last
      leave from_is to_is)
      (subst (λ (r : Result Shift PlacedRefusal). GoAlong before core r after)
      (sym (shift-sum was now (huge_in before) shift small large told counts said moved left))
      (goes-both before core kept old new shift after none from to huge does))

  pub stayed : (why : PlacedRefusal) → after.core ≡ before.core → after.state ≡ before.state
      → after.huge ≡ before.huge → may_fill before.state ≡ true
      → GoAlong before core (Err why) after → MovesMems mask before (Err (OfPages why)) after
  stayed why is still huge fills along = record {
    core = tt;
    pages = tt;
    told = tt;
    setup = ap setup_of is;
    err = (core, accepted, along);
    room = λ lack. fills;
    unchanged = λ i. record { core = is i; state = still i; huge = huge i };
  }
