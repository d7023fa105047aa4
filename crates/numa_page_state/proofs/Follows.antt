-- Pages that follow the allowed nodes.
use Rattle.std.proofs.Common.{◌≡◌, ℕ, Bool, true, Option, Some, None, sym}
use Rattle.std.proofs.Common.{ap, subst, ◌∙◌}
use Rattle.numa_placed.specs.Laid.{Laid}
use Rattle.numa_placed.specs.Spots.{spot_at}
use Rattle.numa_placed.specs.declared.moved.Moved.{Moved}
use Rattle.numa_requests.specs.declared.page_refusal.PlacedRefusal.{PlacedRefusal}
use Rattle.numa_placed.specs.declared.rooms.Rooms.{Rooms}
use Rattle.std.specs.Prelude.{Err, MatchResult, Ok, Result}
use Rattle.numa_page_state.specs.Lying.{Lying, OfNodes, Told, motion, still, with_held}
use Rattle.numa_page_state.specs.Lying.{with_motion}
use Rattle.numa_maps.specs.Residents.{Kept}
use Rattle.numa_page_state.specs.Outcomes.{Enough, Lack, follow_unless, followed, followed_where}
use Rattle.numa_page_state.specs.Outcomes.{lack_in, lack_told}
use Rattle.numa_page_state.specs.Standing.{ArrivedAs, Followed, HaveRoom, LastAs, LiesAs}
use Rattle.numa_page_state.specs.Standing.{Migrates, Moves, TellsOf}
use Rattle.numa_page_state.specs.declared.arrived.Arrived.{Arrived}
use Rattle.numa_page_state.specs.declared.state.PageState.{PageState}
use Rattle.numa_page_state.specs.declared.last.Last.{Last}

module _ (old new : PageState) (lying : Lying) (lies : LiesAs old lying) (from to : ℕ)
    (kept : Kept) where
  -- the pages followed so
  abbrev pub Follows : Type 0
  Follows = (lack : Lack) × LiesAs new (followed lack from to kept lying)

  arrived-so : new.arrived ≡ old.arrived → ArrivedAs new.arrived lying.arrived
  arrived-so same =
      subst (λ (a : Arrived). ArrivedAs a lying.arrived) (sym same) lies.arrived

  still-so : new.placed ≡ old.placed → new.rooms ≡ old.rooms → new.follows ≡ old.follows
      → new.arrived ≡ old.arrived → LastAs new.last (OfNodes still)
      → LiesAs new (record lying { last = OfNodes still })
  still-so placed rooms follows arrived last = record {
    spots = λ page. ap (λ (runs : Laid). spot_at runs page) placed ∙ lies.spots page;
    room = subst (λ (r : Option Rooms). HaveRoom r lying.room) (sym rooms) lies.room;
    follows = follows ∙ lies.follows;
    last = last;
    arrived = arrived-so arrived;
  }

  follows-on : (b : Bool) (lack : Lack) → b ≡ true → followed_where b lack from to kept lying
      ≡ follow_unless
      (lack_in lying.room lack (motion lying.room lying.spots from to).spots) kept
      (motion lying.room lying.spots from to) lying
  follows-on b lack on = ap (λ (c : Bool). followed_where c lack from to kept lying) on

  module _ (on : old.follows ≡ true) where
    pub follow-done : (before : Moved)
        → lack_in lying.room Enough (motion lying.room lying.spots from to).spots ≡ None
        → Moves new.placed new.rooms before (motion lying.room lying.spots from to)
        → LastAs new.last (OfNodes (with_held kept (motion lying.room lying.spots from to).told))
        → new.follows ≡ old.follows → new.arrived ≡ old.arrived → Follows
    follow-done before none moves last follows arrived =
        let here = motion lying.room lying.spots from to in
        let is : followed Enough from to kept lying ≡ with_motion kept lying here =
        follows-on lying.follows Enough (sym lies.follows ∙ on)
        ∙ ap (λ (c : Option PlacedRefusal). follow_unless c kept here lying) none in (
          Enough,
          subst (LiesAs new) (sym is) (record {
            spots = moves.spots;
            room = moves.room;
            follows = follows ∙ lies.follows;
            last = last;
            arrived = arrived-so arrived;
          }),
        )

    pub follow-lacks : (refusal : PlacedRefusal)
        → lack_in lying.room (lack_told refusal)
        (motion lying.room lying.spots from to).spots ≡ Some refusal
        → new.placed ≡ old.placed → new.rooms ≡ old.rooms → LastAs new.last (OfNodes still)
        → new.follows ≡ old.follows → new.arrived ≡ old.arrived → Follows
    follow-lacks refusal lack placed rooms last follows arrived =
        let here = motion lying.room lying.spots from to in
        let is : followed (lack_told refusal) from to kept lying
        ≡ record lying { last = OfNodes still } =
        follows-on lying.follows (lack_told refusal) (sym lies.follows ∙ on)
        ∙ ap (λ (c : Option PlacedRefusal). follow_unless c kept here lying) lack in (
          lack_told refusal,
          subst (LiesAs new) (sym is) (still-so placed rooms follows arrived last),
        )

    -- by what is known of the pages and of what is kept of it
    pub followed-so : (Keeps : Kept → Type 0) (result : Result Moved PlacedRefusal)
        → Migrates old.placed old.rooms from to None result new.placed new.rooms
        → MatchResult result (λ moved. (told : Told) (kept : Kept) → TellsOf moved told
        → Keeps kept → LastAs new.last (OfNodes (with_held kept told)))
        (λ refusal. LastAs new.last (OfNodes still))
        → Keeps kept → new.follows ≡ old.follows → new.arrived ≡ old.arrived → Follows
    followed-so Keeps (Ok moved) migrates tells by follows arrived =
        let is = migrates lying.spots lying.room lies.spots lies.room in
        follow-done moved is.0 is.1
        (tells (motion lying.room lying.spots from to).told kept is.1.told by) follows arrived
    followed-so Keeps (Err refusal) migrates tells by follows arrived =
        let is = migrates lying.spots lying.room lies.spots lies.room in
        follow-lacks refusal is.0 is.1 is.2 tells follows arrived

-- what a call came to, by its answer
module _ (old new : Laid) (rooms rooms_then : Option Rooms) (from to : ℕ)
    (Keeps : Kept → Type 0) (last : Last) where
  pub followed-ok : (result : Result Moved PlacedRefusal) (moved : Moved) → result ≡ Ok moved
      → Migrates old rooms from to None result new rooms_then
      → ((told : Told) (kept : Kept) → TellsOf moved told → Keeps kept
      → LastAs last (OfNodes (with_held kept told)))
      → Followed old rooms from to new rooms_then Keeps last
  followed-ok result moved is migrates tells = (
    Ok moved,
    subst (λ (r : Result Moved PlacedRefusal). Migrates old rooms from to None r new rooms_then)
        is migrates,
    tells,
  )

  pub followed-err : (result : Result Moved PlacedRefusal) (refusal : PlacedRefusal)
      → result ≡ Err refusal → Migrates old rooms from to None result new rooms_then
      → LastAs last (OfNodes still) → Followed old rooms from to new rooms_then Keeps last
  followed-err result refusal is migrates tells = (
    Err refusal,
    subst (λ (r : Result Moved PlacedRefusal). Migrates old rooms from to None r new rooms_then)
        is migrates,
    tells,
  )
