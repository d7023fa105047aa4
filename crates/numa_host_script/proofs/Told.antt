-- What is told of the pages of a host's processes.
use Rattle.std.proofs.Common.{◌≡◌, ℕ, ◌+◌, ◌<◌, Option, Some, None, List, length}
use Rattle.std.proofs.Common.{refl, sym, ap, subst, ◌∙◌, Bor}
use Rattle.std.specs.Prelude.{IsSomeAnd, MatchOption, codes, decimal, ◌++◌}
use Rattle.numa_host_pages.specs.Homes.{HostLying, lent_or_new, pages_in, pages_lent}
use Rattle.numa_host_pages.specs.Standing.{HostLies, LiesApart}
use Rattle.numa_host_pages.specs.Summed.{sum_in}
use Rattle.numa_script.specs.PageTexts.{moved_words}
use Rattle.numa_page_state.specs.Lying.{LastMove, Lying, Process}
use Rattle.numa_page_state.specs.Standing.{LieThere}
use Rattle.numa_page_state.specs.declared.state.PageState.{PageState}
use Rattle.numa_placed.specs.Shifts.{room_of}
use Rattle.numa_placed.specs.declared.rooms.Rooms.{Rooms}
use Rattle.numa_placed.specs.declared.spot.Spot.{Spot}
use Rattle.numa_placed.specs.declared.spot.Spot.TheVariants.{Nowhere}
use Rattle.std.specs.Option.{option_map}
use Rattle.numa_huge.specs.Huge.{HugeLying, HugePlaced, huge_at, places_of}
use Rattle.numa_huge.specs.Moves.{HugeMemory}
use Rattle.numa_huge.specs.Tallies.{HasTold, HaveArrived}
use Rattle.numa_huge.specs.declared.pages.HugePages.{HugePages}
use Rattle.numa_host_huge.specs.Sharing.{HugeHome, Sharing, home_of, lent, memory_in}
use Rattle.numa_host_huge.specs.Standing.{LiesApart as HugeApart}
use Rattle.numa_huge.specs.Moves.{HugeArrival}
use Rattle.numa_huge.specs.Tallies.{flow_of, left_of, moved_of}
use Rattle.numa_huge.specs.declared.arrived.HugeArrived.{HugeArrived}
use Rattle.numa_huge.specs.declared.last.HugeLast.{HugeLast}
use Rattle.numa_page_state.specs.Lying.{Arrival}
use Rattle.numa_page_state.specs.Standing.{ArrivedAs, LastAs}
use Rattle.numa_page_state.specs.declared.arrived.Arrived.{Arrived}
use Rattle.numa_page_state.specs.declared.last.Last.{Last}
use Rattle.numa_run.specs.ArrivedTexts.{arrival_beside, arrival_in, arrival_line, arrival_with}
use Rattle.numa_run.specs.ArrivedTexts.{both_arrival_line, huge_arrival_in, rooms_line}
use Rattle.numa_run.specs.Listings.{both_listing}
use Rattle.numa_run.specs.MovedTexts.{all_flows_text, both_line, flow_of_last, last_of, left_last}
use Rattle.numa_run.specs.MovedTexts.{moved_last, told_line}
use Rattle.numa_run.proofs.Flows.{added-told}
use Rattle.numa_run.proofs.Telling.{arrival-told, both-told, rooms-alike}
use Rattle.numa_run.specs.declared.script.Script.{Script}
use Rattle.numa_space.specs.Limited.{Bounds}
use Rattle.numa_host_script.specs.Acting.{TellsHuge}
use Rattle.numa_host_script.specs.Hosts.{Hosting}
use Rattle.numa_host_script.specs.Paging.{arrived_text, memory_at, moved_text, pages_at}
use Rattle.numa_host_script.specs.Sessions.{Hosted, Session, Single}
use Rattle.numa_host_script.specs.Standing.{ArePagesOf, IsBare, StandsIn}
use Rattle.numa_host_script.specs.declared.running.RunningHost.{RunningHost}

-- the pages of a process, while it acts, once it is found what is kept of them
abbrev pub pages_by : HostLying → Option Lying → Lying
pages_by at found = lent_or_new at.room at.follows found

-- what is kept of a process lies where the host says
pub pages-there : (held : Option (Bor PageState)) (process : ℕ) (at : HostLying)
    → MatchOption held (pages_in process at.homes ≡ None) (λ state. (lying : Lying)
    × (pages_in process at.homes ≡ Some lying) × LiesApart state.now lying)
    → MatchOption held ((page : ℕ) → (pages_lent process at).spots page ≡ Nowhere)
    (λ kept. LieThere kept.now (pages_lent process at).spots)
pages-there None process at none = λ page.
    ap (λ (o : Option Lying). (pages_by at o).spots page) none
pages-there (Some kept) process at found = λ page.
    found.2.2.spots page
    ∙ sym (ap (λ (o : Option Lying). (pages_by at o).spots page) found.1)

-- pages of 2 MiB are listed by what is known of each, whatever pools were lent to them last
pub each-shown : (memory : Option HugeMemory) (kept : HugePlaced)
    → IsSomeAnd memory (λ memory. huge_at kept.runs ≡ memory.pages.spots)
    → (shown : HugeMemory) × (places_of kept ≡ shown.pages)
    × ((process : Process) (spots : ℕ → Spot) (task : ℕ)
    → both_listing process spots (Some shown) task ≡ both_listing process spots memory task)
each-shown None kept is = absurd is
each-shown (Some memory) kept is =
    let shown : HugeMemory = record memory {
      pages = record { pools = kept.pools; spots = memory.pages.spots };
    } in (
      shown,
      (λ i. record { pools = kept.pools; spots = is i }),
      (λ process spots task. refl),
    )

-- the last move of a process, at the version of the host
pub last-told : (at : Hosting) (process version : ℕ) (found : Option Lying) (last : LastMove)
    (memory : Option HugeMemory) → version ≡ length at.history
    → pages_in process at.lying.homes ≡ found → (pages_by at.lying found).last ≡ last
    → both_line version last memory
    ≡ both_line (length at.history) (pages_at at process).last memory
last-told at process version found last memory counts is same =
    ap (λ (n : ℕ). both_line n last memory) counts
    ∙ ap (λ (l : LastMove). both_line (length at.history) l memory) (sym same)
    ∙ ap (λ (o : Option Lying). both_line (length at.history) (pages_by at.lying o).last memory)
    (sym is)

-- the last move of the host, all its processes together: how many moved and stayed, and the nodes
pub sum-told : (at : Hosting) (version moved left : ℕ) → version ≡ length at.history
    → moved ≡ (sum_in at.lying).moved → left ≡ (sum_in at.lying).left
    → ((codes "v" ++ decimal version ++ codes ": " ++ moved_words moved left)
    ++ all_flows_text (sum_in at.lying).flow) ++ codes "\n" ≡ moved_text at
sum-told at version moved left counts gone stayed =
    λ i. told_line (counts i) (gone i) (stayed i) (all_flows_text (sum_in at.lying).flow)

-- what first touches of a process did
pub touches-told : (at : Hosting) (process version : ℕ) (found : Option Lying)
    → version ≡ length at.history → pages_in process at.lying.homes ≡ found
    → arrival_with (memory_at at process) version (pages_by at.lying found).arrived
    ≡ arrived_text at process
touches-told at process version found counts is =
    ap (λ (n : ℕ). arrival_with (memory_at at process) n (pages_by at.lying found).arrived) counts
    ∙ ap (λ (o : Option Lying). arrival_with (memory_at at process) (length at.history)
    (pages_by at.lying o).arrived) (sym is)

-- what is kept of pages of 2 MiB of a process, as it is found
abbrev pub FindsHuge : Option (Bor HugePages) → ℕ → Sharing → Type 0
FindsHuge held process at = MatchOption held (home_of process at.homes ≡ None)
    (λ kept. (home : HugeHome) × (home_of process at.homes ≡ Some home)
    × HugeApart kept.now home)

-- tells of moves, and of first touches
pub huge-told : (held : Option (Bor HugePages)) (process : ℕ) (at : Sharing)
    → FindsHuge held process at
    → MatchOption held (memory_in process at ≡ None) (λ kept. IsSomeAnd (memory_in process at)
    (λ memory. HasTold kept.now.last memory.told))
huge-told None process at none = ap (option_map (lent at.pools)) none
huge-told (Some kept) process at found =
    subst (λ (o : Option HugeHome). IsSomeAnd (option_map (lent at.pools) o)
    (λ memory. HasTold kept.now.last memory.told)) (sym found.1) found.2.1.told

-- and where pages lie
pub huge-there : (held : Option (Bor HugePages)) (process : ℕ) (at : Sharing)
    → FindsHuge held process at
    → MatchOption held (memory_in process at ≡ None) (λ kept. IsSomeAnd (memory_in process at)
    (λ memory. huge_at kept.now.places.runs ≡ memory.pages.spots))
huge-there None process at none = ap (option_map (lent at.pools)) none
huge-there (Some kept) process at found =
    subst (λ (o : Option HugeHome). IsSomeAnd (option_map (lent at.pools) o)
    (λ memory. huge_at kept.now.places.runs ≡ memory.pages.spots)) (sym found.1)
    (ap (λ (p : HugeLying). p.spots) found.2.1.pages)

pub huge-arrived : (held : Option (Bor HugePages)) (process : ℕ) (at : Sharing)
    → FindsHuge held process at
    → MatchOption held (memory_in process at ≡ None) (λ kept. IsSomeAnd (memory_in process at)
    (λ memory. HaveArrived kept.now.arrived memory.arrived))
huge-arrived None process at none = ap (option_map (lent at.pools)) none
huge-arrived (Some kept) process at found =
    subst (λ (o : Option HugeHome). IsSomeAnd (option_map (lent at.pools) o)
    (λ memory. HaveArrived kept.now.arrived memory.arrived)) (sym found.1) found.2.1.arrived

-- and all of it
pub huge-kept : (held : Option (Bor HugePages)) (process : ℕ) (at : Sharing)
    → FindsHuge held process at
    → MatchOption held (memory_in process at ≡ None) (λ kept. IsSomeAnd (memory_in process at)
    (TellsHuge kept.now))
huge-kept None process at none = ap (option_map (lent at.pools)) none
huge-kept (Some kept) process at found =
    subst (λ (o : Option HugeHome). IsSomeAnd (option_map (lent at.pools) o)
    (TellsHuge kept.now)) (sym found.1) (record {
      spots = ap (λ (p : HugeLying). p.spots) found.2.1.pages;
      told = found.2.1.told;
      arrived = found.2.1.arrived;
    })

-- what first touches of pages of both sizes did, said
pub arrived-some : (version : ℕ) (done : Arrived) (arrival : Arrival) (huge : HugeArrived)
    (kept : Option HugeArrived) (memory : Option HugeMemory) → ArrivedAs done arrival
    → kept ≡ Some huge → IsSomeAnd memory (λ memory. HaveArrived kept memory.arrived)
    → both_arrival_line version (arrival_in done) (huge_arrival_in huge)
    ≡ arrival_with memory version arrival
arrived-some version done arrival huge kept None so is have = absurd have
arrived-some version done arrival huge kept (Some memory) so is have =
    by_told memory.arrived
    (subst (λ (k : Option HugeArrived). HaveArrived k memory.arrived) is have)
  where
    by_told : (told : Option HugeArrival) → HaveArrived (Some huge) told
        → both_arrival_line version (arrival_in done) (huge_arrival_in huge)
        ≡ arrival_beside told version arrival
    by_told None none = absurd none
    by_told (Some told) has = both-told version done arrival huge told so has

pub arrived-small : (version : ℕ) (done : Arrived) (arrival : Arrival)
    (kept : Option HugeArrived) (memory : Option HugeMemory) → ArrivedAs done arrival
    → kept ≡ None → IsSomeAnd memory (λ memory. HaveArrived kept memory.arrived)
    → arrival_line version (arrival_in done) ≡ arrival_with memory version arrival
arrived-small version done arrival kept None so is have = absurd have
arrived-small version done arrival kept (Some memory) so is have =
    by_told memory.arrived
    (subst (λ (k : Option HugeArrived). HaveArrived k memory.arrived) is have)
  where
    by_told : (told : Option HugeArrival) → HaveArrived None told
        → arrival_line version (arrival_in done) ≡ arrival_beside told version arrival
    by_told None none = arrival-told version done arrival so
    by_told (Some told) has = absurd has

-- what the last move of pages of both sizes did
pub moved-some : (version : ℕ) (last : Last) (done : LastMove) (huge : HugeLast)
    (memory : Option HugeMemory) → LastAs last done
    → IsSomeAnd memory (λ memory. HasTold huge memory.told)
    → told_line version (moved_last (last_of last) + moved_of huge)
    (left_last (last_of last) + left_of huge)
    (all_flows_text (λ from to. flow_of_last (last_of last) from to + flow_of huge from to))
    ≡ both_line version done memory
moved-some version last done huge None lasts has = absurd has
moved-some version last done huge (Some memory) lasts has =
    added-told version last done huge memory.told lasts has

-- the rooms of a host
pub rooms-told : (rooms : Rooms) (room : ℕ → ℕ)
    → ((node : ℕ) → node < 256 → room_of rooms node ≡ room node)
    → rooms_line (room_of rooms) ≡ rooms_line room
rooms-told rooms room same =
    ap (λ (text : List ℕ). codes "room" ++ text ++ codes "\n")
    (rooms-alike (room_of rooms) room same)

-- what a script of a host keeps of the pages of a process
pub no-host : (script : Script) (limits : Bounds) (process : ℕ) (session : Session)
    → StandsIn script limits None session → IsBare process session
no-host script limits process (Single state) stands = tt
no-host script limits process (Hosted at) stands = absurd stands

-- it says where these lie
abbrev IsFound : Option (Bor PageState) → ℕ → Session → Type 0
IsFound held process session =
    MatchOption held (IsBare process session) (λ kept. ArePagesOf kept.now process session)

pub kept-pages : (script : Script) (limits : Bounds) (host : RunningHost) (process : ℕ)
    (held : Option (Bor PageState)) (session : Session)
    → ((at : HostLying) → HostLies host.pages at → MatchOption held
    (pages_in process at.homes ≡ None) (λ state. (lying : Lying)
    × (pages_in process at.homes ≡ Some lying) × LiesApart state.now lying))
    → StandsIn script limits (Some host) session → IsFound held process session
kept-pages script limits host process held (Single state) finds stands = absurd stands
kept-pages script limits host process held (Hosted at) finds stands =
    by_held held (pages-there held process at.lying (finds at.lying stands.lies))
  where
    by_held : (found : Option (Bor PageState))
        → MatchOption found ((page : ℕ) → (pages_at at process).spots page ≡ Nowhere)
        (λ kept. LieThere kept.now (pages_at at process).spots)
        → IsFound found process (Hosted at)
    by_held None none = none
    by_held (Some kept) lie = lie
