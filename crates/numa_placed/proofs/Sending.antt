-- Sending pages that lie alike, page by page, and those of a run that a span has.
use Rattle.std.proofs.Common.{◌≡◌, ℕ, ◌+◌, ◌-◌, ◌<◌, ◌≤◌, ◌&&◌, Bool, true, false}
use Rattle.std.proofs.Common.{Option, List, refl, sym, ap, ◌∙◌, subst, arith, inl, inr}
use Rattle.std.specs.Prelude.{if◌then◌else◌}
use Rattle.std.proofs.lemmas.Bool.{cases_lt, and_left, and_right}
use Rattle.numa_ranges.specs.Counts.{count_pages}
use Rattle.numa_ranges.specs.Runs.{in_pages, end_of}
use Rattle.numa_ranges.specs.declared.run.Run.{Run}
use Rattle.numa_ranges.proofs.Apart.{in_pages-true, in_pages-below, in_pages-above}
use Rattle.numa_ranges.proofs.Counted.{count-none, count-split}
use Rattle.numa_placed.specs.Binds.{Asked, first_with_room, goal_at, is_kept, is_sent, room_sent}
use Rattle.numa_placed.specs.Binds.{sent_spot, strays}
use Rattle.numa_placed.specs.Shifts.{AreRooms}
use Rattle.numa_placed.specs.Spots.{changed_spots, pages_if}
use Rattle.numa_placed.specs.Standing.{AreFound, AreSent, Sends}
use Rattle.numa_placed.specs.declared.bind.Walk.{Walk}
use Rattle.numa_placed.specs.declared.spot.Spot.{Spot}
use Rattle.numa_placed.proofs.Binding.{found-still}
use Rattle.numa_placed.proofs.Shared.{IsShared, count-same, in-span, one-page, out-above}
use Rattle.numa_placed.proofs.Shared.{out-below}

-- ---- page by page

abbrev pub all : ℕ → Bool
all page = true

-- as many of the pages before one pass as of all, but for those from it on
count-joined : (test : ℕ → Bool) (from mid to : ℕ) → from ≤ mid → mid ≤ to
    → count_pages test from (to - from)
    ≡ count_pages test from (mid - from) + count_pages test mid (to - mid)
count-joined test from mid to low high =
    let seam : from + (mid - from) ≡ mid = omega arith in
    count-split test from (mid - from) (to - mid) (to - from) (omega arith)
    ∙ ap (λ (p : ℕ). count_pages test from (mid - from) + count_pages test p (to - mid)) seam

module _ (test : ℕ → Bool) (nodes : ℕ → List ℕ) (spot : Spot) where
  -- where none passes, all stay
  pub sends-none : (from to : ℕ) (old : ℕ → Spot) (walk : Walk) → from ≤ to
      → ((page : ℕ) → from ≤ page → page < to → test page ≡ false)
      → Sends test nodes spot from to old old walk walk
  sends-none from to old walk le none rooms are found =
      let nobody : (more : Option ℕ → Spot → Bool) → count_pages (λ page.
      test page && more (goal_at nodes rooms page) spot) from (to - from) ≡ 0 =
      λ more. count-none (λ page. test page && more (goal_at nodes rooms page) spot) from
      (to - from) (λ page low high. and_left (test page) (more (goal_at nodes rooms page) spot)
      (none page low (omega arith))) in (
        record {
          below = λ page lt. refl;
          sent = λ page low high t. let f = none page low high in cc;
          kept = λ page low high e. refl;
          above = λ page le. refl;
          moved = omega (arith, nobody is_sent);
          left = omega (arith, nobody is_kept);
        },
        subst (AreRooms walk.rooms) (sym (found-still test nodes spot from to from to rooms found
            (omega arith) le (omega arith) none)) are,
      )

  -- one page after others
  pub sends-append : (from mid to : ℕ) (old now later : ℕ → Spot) (begun walk walk' : Walk)
      → from ≤ mid → mid ≤ to → Sends test nodes spot from mid old now begun walk
      → Sends test nodes spot mid to now later walk walk'
      → Sends test nodes spot from to old later begun walk'
  sends-append from mid to old now later begun walk walk' low high one other rooms are found =
      let first = one rooms are (λ p l h. found p l (omega arith)) in
      let second = other rooms first.1 (λ p l h. found p (omega arith) h) in (
        record {
          below = λ p lt. second.0.below p (omega arith) ∙ first.0.below p lt;
          sent = λ p l h t. elim (cases_lt p mid) [
            | inl m ↦ second.0.below p m ∙ first.0.sent p l m t
            | inr m ↦ second.0.sent p m h t
                ∙ ap (sent_spot (goal_at nodes rooms p)) (first.0.above p m)
          ];
          kept = λ p l h e. elim (cases_lt p mid) [
            | inl m ↦ second.0.below p m ∙ first.0.kept p l m e
            | inr m ↦ second.0.kept p m h e ∙ first.0.above p m
          ];
          above = λ p le. second.0.above p le ∙ first.0.above p (omega arith);
          moved = omega (
            arith,
            first.0.moved,
            second.0.moved,
            count-joined (λ page.
                test page && is_sent (goal_at nodes rooms page) spot) from mid to low high,
          );
          left = omega (
            arith,
            first.0.left,
            second.0.left,
            count-joined (λ page.
                test page && is_kept (goal_at nodes rooms page) spot) from mid to low high,
          );
        },
        second.1,
      )

  module _ (page : ℕ) (now later : ℕ → Spot) (walk walk' : Walk) (passes : test page ≡ true)
      (told : (room : ℕ → ℕ) → AreRooms walk.rooms room → (p : ℕ)
      → later p ≡ changed_spots page 1 (sent_spot (first_with_room room (nodes page))) now p)
      (moved : (room : ℕ → ℕ) → AreRooms walk.rooms room → walk'.told.moved
      ≡ walk.told.moved + pages_if (is_sent (first_with_room room (nodes page)) spot) 1)
      (left : (room : ℕ → ℕ) → AreRooms walk.rooms room → walk'.told.left
      ≡ walk.told.left + pages_if (is_kept (first_with_room room (nodes page)) spot) 1)
      (taken : (room : ℕ → ℕ) → AreRooms walk.rooms room → AreRooms walk'.rooms
      (room_sent room (first_with_room room (nodes page)) spot)) where
    module _ (rooms : ℕ → ℕ → ℕ) (are : AreRooms walk.rooms (rooms page))
        (found : AreFound test nodes spot page (page + 1) rooms) where
      other-low : (p : ℕ) → p < page → later p ≡ now p
      other-low p lt = told (rooms page) are p ∙ rw (in_pages-below page 1 p lt) refl

      other-high : (p : ℕ) → page + 1 ≤ p → later p ≡ now p
      other-high p high = told (rooms page) are p ∙ rw (in_pages-above page 1 p high) refl

      itself : later page ≡ sent_spot (goal_at nodes rooms page) (now page)
      itself = told (rooms page) are page
          ∙ rw (in_pages-true page 1 page (omega arith) (omega arith)) refl

      counted : (more : Option ℕ → Spot → Bool) → count_pages (λ p.
          test p && more (goal_at nodes rooms p) spot) page (page + 1 - page)
          ≡ pages_if (more (goal_at nodes rooms page) spot) 1
      counted more =
          let size : page + 1 - page ≡ 1 = omega arith in
          rw size (one-page (λ p. test p && more (goal_at nodes rooms p) spot) page
          ∙ rw passes refl)

      sent-one : AreSent test (goal_at nodes rooms) spot page (page + 1) now later walk.told
          walk'.told × AreRooms walk'.rooms (rooms (page + 1))
      sent-one = (
        record {
          below = other-low;
          sent = λ p low high t.
              let same : page ≡ p = omega arith in
              subst (λ (q : ℕ). later q ≡ sent_spot (goal_at nodes rooms q) (now q)) same itself;
          kept = λ p low high e.
              let same : page ≡ p = omega arith in
              let f : test p ≡ true = subst (λ (q : ℕ). test q ≡ true) same passes in cc;
          above = other-high;
          moved = moved (rooms page) are ∙ ap (λ (k : ℕ). walk.told.moved + k)
              (sym (counted is_sent));
          left = left (rooms page) are ∙ ap (λ (k : ℕ). walk.told.left + k)
              (sym (counted is_kept));
        },
        subst (AreRooms walk'.rooms) (sym (found page (omega arith) (omega arith)
            ∙ rw passes refl)) (taken (rooms page) are),
      )

    -- one page
    pub sends-one : Sends test nodes spot page (page + 1) now later walk walk'
    sends-one rooms are found = sent-one rooms are found

  -- where another test passes the same pages
  pub sends-same : (other : ℕ → Bool) (from to : ℕ) (old new : ℕ → Spot) (walk walk' : Walk)
      → ((page : ℕ) → from ≤ page → page < to → test page ≡ other page)
      → Sends other nodes spot from to old new walk walk'
      → Sends test nodes spot from to old new walk walk'
  sends-same other from to old new walk walk' same sends rooms are found =
      let did = sends rooms are (λ p low high. found p low high
      ∙ ap (λ (t : Bool). if t then room_sent (rooms p) (goal_at nodes rooms p) spot
      else rooms p) (same p low high)) in
      let counted : (more : Option ℕ → Spot → Bool) → count_pages (λ page.
      test page && more (goal_at nodes rooms page) spot) from (to - from) ≡ count_pages (λ page.
      other page && more (goal_at nodes rooms page) spot) from (to - from) =
      λ more. count-same (λ page. test page && more (goal_at nodes rooms page) spot)
      (λ page. other page && more (goal_at nodes rooms page) spot) from (to - from)
      (λ page low high. ap (λ (t : Bool). t && more (goal_at nodes rooms page) spot)
      (same page low (omega arith))) in (
        record {
          below = did.0.below;
          sent = λ p low high t. did.0.sent p low high (sym (same p low high) ∙ t);
          kept = λ p low high e. did.0.kept p low high (sym (same p low high) ∙ e);
          above = did.0.above;
          moved = omega (arith, did.0.moved, counted is_sent);
          left = omega (arith, did.0.left, counted is_kept);
        },
        did.1,
      )

-- ---- a run

pub not_wanted : (asked : Asked) (page : ℕ) (spot : Spot) → asked.wants page spot ≡ false
    → strays asked page spot ≡ false
not_wanted asked page spot none =
    and_right (in_pages asked.first asked.pages page) (asked.wants page spot) none

module _ (asked : Asked) (run : Run Spot) where
  strays-out : (page : ℕ) → in_pages asked.first asked.pages page ≡ false
      → strays asked page run.value ≡ false
  strays-out page out =
      and_left (in_pages asked.first asked.pages page) (asked.wants page run.value) out

  pub stay-unshared : (from to : ℕ)
      → IsShared asked.first asked.pages run.first run.pages from to → to ≤ from
      → (page : ℕ) → run.first ≤ page → page < end_of run → strays asked page run.value ≡ false
  stay-unshared from to shared falls page low high =
      strays-out page (elim (cases_lt page from) [
        | inl l ↦ out-below asked.first asked.pages run.first run.pages from to shared page l low
        | inr l ↦ out-above asked.first asked.pages run.first run.pages from to shared page
            (omega arith) high
      ])

  -- the pages that a run shares with the span were sent: so were those of the run
  pub sends-run : (from to : ℕ) (old new : ℕ → Spot) (walk walk' : Walk)
      → IsShared asked.first asked.pages run.first run.pages from to → from < to
      → Sends (λ page. asked.wants page run.value) asked.nodes run.value from to old new walk walk'
      → Sends (λ page. strays asked page run.value) asked.nodes run.value run.first
      (end_of run) old new walk walk'
  sends-run from to old new walk walk' shared rises sends =
      let test : ℕ → Bool = λ page. strays asked page run.value in
      let a = run.first in let n = run.pages in
      let below = sends-none test asked.nodes run.value run.first from old walk shared.low_run
      (λ page low high. strays-out page (out-below asked.first asked.pages a n from to shared page
      high low)) in
      let here = sends-same test asked.nodes run.value (λ page. asked.wants page run.value) from to
      old new walk walk' (λ page low high.
      rw (in-span asked.first asked.pages a n from to shared page low high) refl) sends in
      let behind = sends-none test asked.nodes run.value to (end_of run) new walk' shared.high_run
      (λ page low high. strays-out page (out-above asked.first asked.pages a n from to shared page
      low high)) in
      let le : from ≤ to = omega arith in
      sends-append test asked.nodes run.value run.first to (end_of run) old new new walk walk' walk'
      (omega (arith, shared.low_run)) shared.high_run
      (sends-append test asked.nodes run.value run.first from to old old new walk walk walk'
      shared.low_run le below here) behind
