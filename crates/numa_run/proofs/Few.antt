-- How many pages a reply to a move tells of: few enough to be added.
use Rattle.std.proofs.Common.{◌≡◌, ℕ, ◌≤◌, Bool, true, false, Option, Some, None, Ok, ◌∙◌, arith}
use Rattle.std.specs.Prelude.{◌&&◌, if◌then◌else◌, not}
use Rattle.numa_machine.specs.Machine.{Hardware}
use Rattle.numa_maps.specs.Residents.{Kept}
use Rattle.numa_mask.specs.NodeSet.{both}
use Rattle.numa_requests.specs.declared.page_refusal.PlacedRefusal.{PlacedRefusal}
use Rattle.numa_placed.specs.Refusals.{first_of, migrate_cause}
use Rattle.numa_page_state.specs.Lying.{Ground, Lying, Motion, ground_of, motion}
use Rattle.numa_page_state.specs.Lying.{with_held, with_motion}
use Rattle.numa_page_state.specs.Outcomes.{Lack, is_starved, lack_in, moved_outcome}
use Rattle.numa_page_state.specs.Outcomes.{shift_of as shift_told, unless_refused}
use Rattle.numa_script.specs.declared.page_line.PageLine.TheVariants as page
use Rattle.numa_script.specs.declared.reply.Reply.TheVariants as reply
use Rattle.numa_run.specs.Answering.{Replied, with_reply}
use Rattle.numa_run.specs.PageLines.{change_of, changed, lack_reply, migrate_reply, with_change}
use Rattle.numa_run.specs.States.{State, process_on}
use Rattle.numa_page_state.proofs.Few.{motion-few}

-- a reply that tells of a move tells of few
pub moved-few : (lack : Lack) (kept : Kept) (done : Motion) (first : Option PlacedRefusal)
    (at : Lying) (moved left : ℕ) → done.told.moved ≤ 8796093022208
    → migrate_reply (moved_outcome lack kept done first at).0 ≡ reply.Moved moved left
    → moved ≤ 8796093022208
moved-few lack kept done first at moved left few is =
    by (first_of first (lack_in at.room lack done.spots)) is
  where
    told-few : (n : ℕ) → n ≤ 8796093022208 → (other : ℕ) → reply.Moved n other
        ≡ reply.Moved moved left → moved ≤ 8796093022208
    told-few n small other same = let e : n ≡ moved = cc in omega (arith, small, e)

    by : (why : Option PlacedRefusal)
        → migrate_reply (unless_refused why at
        (Ok (shift_told (with_held kept done.told)), with_motion kept at done)).0
        ≡ reply.Moved moved left → moved ≤ 8796093022208
    by None same = told-few done.told.moved few _ same
    by (Some why) same = cc

pub changed-few : (lack : Lack) (machine : Hardware) (state : State) (from to moved left : ℕ)
    → (changed lack machine state (page.Migrate from to)).answer
    ≡ Replied (reply.Moved moved left) → moved ≤ 8796093022208
changed-few lack machine state from to moved left is =
    by (not state.lying.begun && is_starved lack) is
  where
    by : (starved : Bool) → (if starved then with_reply (lack_reply (page.Migrate from to)) state
        else with_change state (change_of lack (ground_of (process_on machine state))
        (page.Migrate from to) (record state.lying { begun = true }))).answer
        ≡ Replied (reply.Moved moved left) → moved ≤ 8796093022208
    by true same = cc
    by false same =
        let basis : Ground = ground_of (process_on machine state) in
        let at : Lying = record state.lying { begun = true } in
        let told : migrate_reply (moved_outcome lack basis.kept
        (motion state.lying.room state.lying.spots from (both to basis.allowed))
        (migrate_cause basis.allowed to) at).0 ≡ reply.Moved moved left = cc in
        moved-few lack basis.kept
        (motion state.lying.room state.lying.spots from (both to basis.allowed))
        (migrate_cause basis.allowed to) at moved left
        (motion-few state.lying.room state.lying.spots from (both to basis.allowed)) told
