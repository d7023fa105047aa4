-- Sending the pages of a span that are to go, from the lowest on, whatever is kept of them.
use Rattle.std.proofs.Common.{◌≡◌, ℕ, ◌+◌, ◌-◌, ◌<◌, ◌≤◌, ◌^◌, ◌&&◌, Bool, false}
use Rattle.std.proofs.Common.{refl, sym, ap, ◌∙◌, subst, arith, inl, inr}
use Rattle.std.specs.Prelude.{Err, IfOk, Ok, Result, if◌then◌else◌}
use Rattle.std.proofs.lemmas.Bool.{cases_Bool, cases_lt, and_left}
use Rattle.numa_ranges.specs.Counts.{count_pages}
use Rattle.numa_ranges.specs.Runs.{in_pages}
use Rattle.numa_ranges.proofs.Apart.{in_pages-true, in_pages-below, in_pages-above}
use Rattle.numa_ranges.proofs.Counted.{count-none, count-split}
use Rattle.numa_placed.specs.Binds.{Asked, IsBound, bound_by, goal_at, goals, is_kept, is_sent}
use Rattle.numa_placed.specs.Binds.{room_before, room_sent, sent_spot, strays}
use Rattle.numa_placed.specs.Shifts.{AreRooms}
use Rattle.numa_placed.specs.Standing.{AreFound, AreSent, Sends}
use Rattle.numa_placed.specs.Walks.{IsWalked}
use Rattle.numa_placed.specs.declared.bind.Walk.{Walk}
use Rattle.numa_placed.specs.declared.spot.Spot.{Spot}
use Rattle.numa_placed.proofs.Binding.{Test, before-next, before-none, passes, rooms-same}
use Rattle.numa_placed.proofs.Shared.{count-same}

module _ (asked : Asked) (old : ℕ → Spot) (room : ℕ → ℕ) where
  -- a page that isn't to go stays, and changes nothing
  stays : (page : ℕ) → strays asked page (old page) ≡ false
      → bound_by asked (goals asked old room) old page ≡ old page
  stays page e = rw e refl

  uncounted : (test : Test) (first n : ℕ)
      → ((page : ℕ) → first ≤ page → page < first + n → strays asked page (old page) ≡ false)
      → count_pages (passes test asked (goals asked old room) old) first n ≡ 0
  uncounted test first n none =
      count-none (passes test asked (goals asked old room) old) first n (λ page low high.
      and_left (strays asked page (old page)) (test (goals asked old room page) (old page))
      (none page low high))

  rooms-stay : (from to : ℕ) → from ≤ to
      → ((page : ℕ) → from ≤ page → page < to → strays asked page (old page) ≡ false)
      → room_before asked old room to ≡ room_before asked old room from
  rooms-stay from to le none =
      rooms-same (room_before asked old room) from to le (λ page low high.
      before-next asked old room page ∙ rw (none page low high) refl)

  below-first : (page : ℕ) → page < asked.first → strays asked page (old page) ≡ false
  below-first page lt = and_left (in_pages asked.first asked.pages page)
      (asked.wants page (old page)) (in_pages-below asked.first asked.pages page lt)

  above-last : (page : ℕ) → asked.first + asked.pages ≤ page
      → strays asked page (old page) ≡ false
  above-last page le = and_left (in_pages asked.first asked.pages page)
      (asked.wants page (old page)) (in_pages-above asked.first asked.pages page le)

  -- before the first page
  pub walked-begins : (walk : Walk) → walk.told.moved ≡ 0 → walk.told.left ≡ 0
      → AreRooms walk.rooms room → IsWalked asked old room asked.first old walk
  walked-begins walk none none' are = record {
    done = λ page lt. sym (stays page (below-first page lt));
    ahead = λ page le. refl;
    sent = none ∙ sym (uncounted is_sent 0 asked.first
        (λ page low high. below-first page (omega (arith, high))));
    kept = none' ∙ sym (uncounted is_kept 0 asked.first
        (λ page low high. below-first page (omega (arith, high))));
    rooms = subst (AreRooms walk.rooms)
        (sym (rooms-stay 0 asked.first (omega arith) (λ page low high. below-first page high)
        ∙ before-none asked old room)) are;
  }

  -- the count below a page, and that of the pages from it on up to another
  joined : (test : Test) (low to : ℕ) → low ≤ to
      → count_pages (passes test asked (goals asked old room) old) 0 to
      ≡ count_pages (passes test asked (goals asked old room) old) 0 low
      + count_pages (passes test asked (goals asked old room) old) low (to - low)
  joined test low to le =
      let here : ℕ → Bool = passes test asked (goals asked old room) old in
      let seam : 0 + low ≡ low = omega arith in
      count-split here 0 low (to - low) to (omega (arith, le))
      ∙ ap (λ (p : ℕ). count_pages here 0 low + count_pages here p (to - low)) seam

  -- pages that aren't to go are passed over
  pub walked-over : (low to : ℕ) (next : ℕ → Spot) (walk : Walk) → low ≤ to
      → ((page : ℕ) → low ≤ page → page < to → strays asked page (old page) ≡ false)
      → IsWalked asked old room low next walk → IsWalked asked old room to next walk
  walked-over low to next walk le none walked = record {
    done = λ page lt. elim (cases_lt page low) [
      | inl l ↦ walked.done page l
      | inr g ↦ walked.ahead page g ∙ sym (stays page (none page g lt))
    ];
    ahead = λ page far. walked.ahead page (omega (arith, le, far));
    sent = walked.sent ∙ sym (joined is_sent low to le
        ∙ ap (λ (k : ℕ). count_pages (passes is_sent asked (goals asked old room) old) 0 low + k)
        (uncounted is_sent low (to - low)
        (λ page from end. none page from (omega (arith, end, le))))
        ∙ omega arith);
    kept = walked.kept ∙ sym (joined is_kept low to le
        ∙ ap (λ (k : ℕ). count_pages (passes is_kept asked (goals asked old room) old) 0 low + k)
        (uncounted is_kept low (to - low)
        (λ page from end. none page from (omega (arith, end, le))))
        ∙ omega arith);
    rooms = subst (AreRooms walk.rooms) (sym (rooms-stay low to le none)) walked.rooms;
  }

  -- pages that all lie here went, those of them that were to
  module _ (low to : ℕ) (le : low ≤ to) (spot : Spot) (test : ℕ → Bool) (next later : ℕ → Spot)
      (walk walk' : Walk) (walked : IsWalked asked old room low next walk)
      (says : (page : ℕ) → low ≤ page → page < to → old page ≡ spot)
      (tests : (page : ℕ) → low ≤ page → page < to → test page ≡ strays asked page spot) where
    found : AreFound test asked.nodes spot low to (room_before asked old room)
    found page from end =
        before-next asked old room page
        ∙ ap (λ (s : Spot). if strays asked page s
        then room_sent (room_before asked old room page)
        (goal_at asked.nodes (room_before asked old room) page) s
        else room_before asked old room page) (says page from end)
        ∙ ap (λ (b : Bool). if b then room_sent (room_before asked old room page)
        (goal_at asked.nodes (room_before asked old room) page) spot
        else room_before asked old room page) (sym (tests page from end))

    bound-so : (page : ℕ) → low ≤ page → page < to
        → bound_by asked (goals asked old room) old page
        ≡ (if strays asked page spot then sent_spot (goals asked old room page) spot else spot)
    bound-so page from end = ap (λ (s : Spot). if strays asked page s
        then sent_spot (goals asked old room page) s else s) (says page from end)

    part : (more : Test) → count_pages (passes more asked (goals asked old room) old) low (to - low)
        ≡ count_pages (λ page. test page && more (goals asked old room page) spot) low (to - low)
    part more = count-same (passes more asked (goals asked old room) old)
        (λ page. test page && more (goals asked old room page) spot) low (to - low)
        (λ page from end.
        ap (λ (s : Spot). strays asked page s && more (goals asked old room page) s)
        (says page from (omega (arith, end, le)))
        ∙ ap (λ (b : Bool). b && more (goals asked old room page) spot)
        (sym (tests page from (omega (arith, end, le)))))

    module _ (sent : AreSent test (goals asked old room) spot low to next later walk.told
        walk'.told) where
      went-so : (page : ℕ) → low ≤ page → page < to
          → later page ≡ bound_by asked (goals asked old room) old page
      went-so page from end =
          let here : next page ≡ spot = walked.ahead page from ∙ says page from end in
          elim (cases_Bool (strays asked page spot)) [
            | inl t ↦
                sent.sent page from end (tests page from end ∙ t)
                ∙ ap (sent_spot (goals asked old room page)) here
                ∙ sym (bound-so page from end ∙ rw t refl)
            | inr e ↦
                sent.kept page from end (tests page from end ∙ e) ∙ here
                ∙ sym (bound-so page from end ∙ rw e refl)
          ]

      done-so : (page : ℕ) → page < to
          → later page ≡ bound_by asked (goals asked old room) old page
      done-so page lt = elim (cases_lt page low) [
        | inl l ↦ sent.below page l ∙ walked.done page l
        | inr g ↦ went-so page g lt
      ]

    pub walked-next : Sends test asked.nodes spot low to next later walk walk'
        → IsWalked asked old room to later walk'
    walked-next sends =
        let did = sends (room_before asked old room) walked.rooms found in
        record {
          done = done-so did.0;
          ahead = λ page far. did.0.above page far ∙ walked.ahead page (omega (arith, le, far));
          sent = omega (
            arith,
            did.0.moved,
            walked.sent,
            joined is_sent low to le,
            part is_sent,
          );
          kept = omega (
            arith,
            did.0.left,
            walked.kept,
            joined is_kept low to le,
            part is_kept,
          );
          rooms = did.1;
        }

  -- behind the last page
  pub walked-ends : (low : ℕ) (next : ℕ → Spot) (walk : Walk)
      → asked.first + asked.pages ≤ low → low ≤ 2 ^ 35 → IsWalked asked old room low next walk
      → IsBound asked old room next walk.rooms walk.told
  walked-ends low next walk behind near walked =
      let all = walked-over low (2 ^ 35) next walk near
      (λ page from end. above-last page (omega (arith, behind, from))) walked in
      record {
        pages = λ page. elim (cases_lt page (2 ^ 35)) [
          | inl l ↦ all.done page l
          | inr g ↦ all.ahead page g
              ∙ sym (stays page (above-last page (omega (arith, behind, near, g))))
        ];
        room = all.rooms;
        moved = all.sent;
        left = all.kept;
      }

-- a page of a span is to go as it is to by where it lies
pub strays-here : (asked : Asked) (page : ℕ) (spot : Spot) → asked.first ≤ page
    → page < asked.first + asked.pages → asked.wants page spot ≡ strays asked page spot
strays-here asked page spot low high = rw (in_pages-true asked.first asked.pages page low high) refl

pub strays-none : (asked : Asked) (page : ℕ) (spot : Spot) → asked.wants page spot ≡ false
    → strays asked page spot ≡ false
strays-none asked page spot none = rw none (elim (cases_Bool
    (in_pages asked.first asked.pages page)) [ inl t ↦ rw t refl | inr e ↦ rw e refl ])

-- what holds of a result's value by three facts about it
pub if_ok_three : {A E : Type 0} (P N Q R : A → Type 0) (result : Result A E)
    → ((a : A) → P a → N a → Q a → R a) → IfOk result P → IfOk result N → IfOk result Q
    → IfOk result R
if_ok_three P N Q R (Ok a) both p n q = both a p n q
if_ok_three P N Q R (Err e) both p n q = tt
