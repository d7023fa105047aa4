-- What is told of moves of pages of both sizes.
use Rattle.std.proofs.Common.{◌≡◌, ℕ, ◌+◌, ◌*◌, ◌<◌, ◌≤◌, Bool, true, Option, Some, None, Ok, Err}
use Rattle.std.proofs.Common.{[], refl, sym, ap, subst, ◌∙◌, arith}
use Rattle.std.specs.Prelude.{Result, slice_index}
use Rattle.numa_maps.specs.Residents.{Kept}
use Rattle.numa_mask.specs.NodeSet.{both}
use Rattle.numa_placed.specs.Refusals.{first_of}
use Rattle.numa_placed.specs.declared.moved.Moved.{Moved}
use Rattle.numa_placed.specs.declared.spot.Spot.{Spot}
use Rattle.numa_requests.specs.declared.page_refusal.PlacedRefusal.{PlacedRefusal}
use Rattle.numa_space.specs.Standing.{SpaceState}
use Rattle.numa_huge.specs.Huge.{HugeLying, places_of}
use Rattle.numa_huge.specs.Moves.{following, leave_all, leave_from, told_following}
use Rattle.numa_huge.specs.Tallies.{HasTold}
use Rattle.numa_huge.specs.declared.last.HugeLast.TheVariants.{Nodes}
use Rattle.numa_page_state.specs.Lying.{Lying, OfNodes, Told, ground_in, motion, with_held}
use Rattle.numa_page_state.specs.Lying.{with_motion}
use Rattle.numa_page_state.specs.Outcomes.{Done, Lack, lack_in, migrate_outcome, moved_outcome}
use Rattle.numa_page_state.specs.Outcomes.{shift_of as shift_told, unless_refused}
use Rattle.numa_page_state.specs.Standing.{DoesAs, LastAs, LiesAs, TellsOf}
use Rattle.numa_page_state.specs.declared.last.Last.{Last}
use Rattle.numa_page_state.specs.declared.last.Last.TheVariants as went
use Rattle.numa_page_state.specs.declared.shift.Shift.{Shift}
use Rattle.numa_page_state.specs.declared.state.PageState.{PageState}
use Rattle.numa_page_state.proofs.Few.{from-few, motion-few}
use Rattle.numa_pages.specs.Changes.{DoesBoth, IsLast, Migrates, PagesState, ground_of, huge_in}
use Rattle.numa_pages.specs.Changes.{lacking, shift_of}
use Rattle.numa_pages.specs.Sizes.{IsLastSum, both_shift, both_told, gone_with}
use Rattle.numa_pages.proofs.Refusing.{lies-so, lying_in}

-- ---- a move of pages of 4 KiB, and beside it one of those of 2 MiB

module _ (old new : ℕ) (before after : PagesState) where
  abbrev Outcome : Type 0
  Outcome = Lack → Lying → Done Shift PlacedRefusal

  -- where those of 4 KiB went
  pub both-so : (shift : Shift) (outcome : Outcome)
      → huge_in after ≡ following old new (huge_in before)
      → DoesAs before.state (Ok shift) after.state lacking (λ lack at. outcome lack at)
      → DoesBoth before (both_told old new (huge_in before) (Ok shift)) after lacking
      (λ lack huge at. both_shift old new huge (outcome lack at))
  both-so shift outcome huge does = λ lying lies.
      let d = does lying lies in (
        d.0,
        d.1,
        huge ∙ sym (ap (gone_with old new (huge_in before)) d.2),
        ap (both_told old new (huge_in before)) d.2,
        λ starved. absurd (ok-lacks shift (d.3 starved).1),
      )
    where
      ok-lacks : (shift : Shift) → Ok shift ≡ lacking → ⊥
      ok-lacks shift is = cc

  -- where they didn't
  pub none-so : (why : PlacedRefusal) (outcome : Outcome) → after.huge ≡ before.huge
      → DoesAs before.state (Err why) after.state lacking (λ lack at. outcome lack at)
      → DoesBoth before (Err why) after lacking
      (λ lack huge at. both_shift old new huge (outcome lack at))
  none-so why outcome huge does = λ lying lies.
      let d = does lying lies in (
        d.0,
        d.1,
        ap places_of huge ∙ sym (ap (gone_with old new (huge_in before)) d.2),
        ap (both_told old new (huge_in before)) d.2,
        λ starved. ((d.3 starved).0, huge, (d.3 starved).1),
      )

-- ---- numbers

abbrev moved_in : Result Shift PlacedRefusal → ℕ
moved_in (Ok shift) = shift.moved
moved_in (Err why) = 0

done-so : (first : Option PlacedRefusal) (at : Lying) (done : Done Shift PlacedRefusal)
    (shift : Shift) → (unless_refused first at done).0 ≡ Ok shift
    → unless_refused first at done ≡ done
done-so None at done shift is = refl
done-so (Some why) at done shift is = cc

-- those of a move of pages of 4 KiB are few
module _ (before after : PageState) (shift : Shift) (small : Moved) (kept : Kept) (old new : ℕ)
    (first : Option PlacedRefusal)
    (does : DoesAs before (Ok shift) after lacking (λ lack at.
    moved_outcome lack kept (motion at.room at.spots old new) first at))
    (last : IsLast after small) (counts : shift_of small ≡ shift) where
  abbrev at : Lying
  at = lying_in before

  abbrev told : Told
  told = with_held kept (motion at.room at.spots old new).told

  abbrev whole : Done Shift PlacedRefusal
  whole = (Ok (shift_told told), with_motion kept at (motion at.room at.spots old new))

  whole-is : (d : (lack : Lack) × LiesAs after
      (moved_outcome lack kept (motion at.room at.spots old new) first at).1
      × ((moved_outcome lack kept (motion at.room at.spots old new) first at).0 ≡ Ok shift))
      → moved_outcome d.0 kept (motion at.room at.spots old new) first at ≡ whole
  whole-is d = done-so (first_of first (lack_in at.room d.0
      (motion at.room at.spots old new).spots)) at whole shift d.2

  pub small-moved : small.moved ≤ 8796093022208
  small-moved =
      let d = does at (lies-so before) in
      let is = whole-is (d.0, d.1, d.2) in
      let same : told.moved ≡ shift.moved =
      ap moved_in (sym (ap (λ (o : Done Shift PlacedRefusal). o.0) is) ∙ d.2) in
      let few = motion-few at.room at.spots old new in
      omega (arith, ap (λ (s : Shift). s.moved) counts, same, few)

  pub small-from : (node : ℕ) → node < 256 → slice_index small.from node ≤ 34359738368
  small-from node near =
      let d = does at (lies-so before) in
      let is = whole-is (d.0, d.1, d.2) in
      let lies : LiesAs after whole.1 =
      subst (λ (o : Done Shift PlacedRefusal). LiesAs after o.1) is d.1 in
      let tells : TellsOf small told =
      subst (λ (l : Last). LastAs l (OfNodes told)) last lies.last in
      let few = from-few at.room at.spots old new node in
      omega (arith, tells.from node near, few)

-- what is told of both
pub summed : (old new : ℕ) (huge : HugeLying) (state : PageState) (small large told : Moved)
    → IsLast state small
    → ((node : ℕ) → node < 256 → slice_index large.from node ≡ leave_from old new huge.spots node)
    → ((node : ℕ) → node < 256 → slice_index told.from node
    ≡ slice_index small.from node + slice_index large.from node)
    → told.to ≡ small.to → IsLastSum old new huge state told
summed old new huge state small large told last large_from from to = (
  small,
  last,
  record {
    from = λ node near. omega (arith, from node near, large_from node near);
    to = to;
  },
)

pub shift-sum : (old new : ℕ) (huge : HugeLying) (shift : Shift) (small large told : Moved)
    → shift_of small ≡ shift → HasTold (Nodes large) (told_following old new huge.spots)
    → told.moved ≡ small.moved + large.moved → told.left ≡ small.left
    → Ok (shift_of told) ≡ both_told old new huge (Ok shift)
shift-sum old new huge shift small large told counts tells moved left =
    let all : told.moved ≡ shift.moved + leave_all old new huge.spots =
    omega (arith, moved, ap (λ (s : Shift). s.moved) counts, tells.moved) in
    let stay : told.left ≡ shift.left = left ∙ ap (λ (s : Shift). s.left) counts in
    λ i. Ok (record { moved = all i; left = stay i })

-- ---- migrate_pages(2)

-- by the space and the kept frames as they were read
pub ground-so : (before after : PageState) (answer : Result Shift PlacedRefusal)
    (read space : SpaceState) (kept : Kept) (from to : ℕ) → read ≡ space → kept ≡ []
    → DoesAs before answer after lacking
    (λ lack at. migrate_outcome lack (ground_in read kept) from to at)
    → DoesAs before answer after lacking
    (λ lack at. migrate_outcome lack (ground_in space []) from to at)
ground-so before after answer read space kept from to same none does =
    subst (λ (s : SpaceState). DoesAs before answer after lacking
    (λ lack at. migrate_outcome lack (ground_in s []) from to at)) same
    (subst (λ (k : Kept). DoesAs before answer after lacking
    (λ lack at. migrate_outcome lack (ground_in read k) from to at)) none does)

module _ (from to : ℕ) (before after : PagesState) (core : after.core ≡ before.core) where
  abbrev targets : ℕ
  targets = both to before.core.space.allowed

  abbrev small_outcome : Lack → Lying → Done Shift PlacedRefusal
  small_outcome lack at = migrate_outcome lack (ground_of before) from to at

  -- pages of both sizes went
  pub migrated-both : (shift : Shift) (small large told : Moved)
      → DoesAs before.state (Ok shift) after.state lacking (λ lack at. small_outcome lack at)
      → IsLast after.state small → shift_of small ≡ shift
      → huge_in after ≡ following from targets (huge_in before)
      → HasTold (Nodes large) (told_following from targets (huge_in before).spots)
      → ((node : ℕ) → node < 256
      → slice_index large.from node ≡ leave_from from targets (huge_in before).spots node)
      → told.moved ≡ small.moved + large.moved → told.left ≡ small.left
      → ((node : ℕ) → node < 256 → slice_index told.from node
      ≡ slice_index small.from node + slice_index large.from node)
      → told.to ≡ small.to → Migrates from to before (Ok told) after
  migrated-both shift small large told does last counts huge tells large_from moved left from_is
      to_is = record {
        does = record {
          does = subst (λ (r : Result Shift PlacedRefusal). DoesBoth before r after lacking
              (λ lack huge at. both_shift from targets huge (small_outcome lack at)))
              (sym (shift-sum from targets (huge_in before) shift small large told counts tells
              moved left)) (both-so from targets before after shift small_outcome huge does);
          core = core;
          unchanged = tt;
        };
        told = summed from targets (huge_in before) after.state small large told last large_from
            from_is to_is;
      }

  -- none went
  pub migrated-none : (why : PlacedRefusal)
      → DoesAs before.state (Err why) after.state lacking (λ lack at. small_outcome lack at)
      → after.state ≡ before.state → after.huge ≡ before.huge
      → Migrates from to before (Err why) after
  migrated-none why does state huge = record {
    does = record {
      does = none-so from targets before after why small_outcome huge does;
      core = core;
      unchanged = λ i. record { core = core i; state = state i; huge = huge i };
    };
    told = tt;
  }
