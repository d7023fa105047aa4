-- What commands of a host do to the pages of its processes.
use Rattle.std.proofs.Common.{◌≡◌, ◌≢◌, ◌<◌, ◌≤◌, ℕ, ◌+◌, Bool, true, false, not, List, [], ◌∷◌}
use Rattle.std.proofs.Common.{◌++◌, Option, Some, None, Result, Ok, Err, map, filter, length, eqb}
use Rattle.std.proofs.Common.{leb, refl}
use Rattle.std.specs.Prelude.{MatchOption}
use Rattle.std.proofs.Common.{sym, ap, ◌∙◌, arith, inl, inr, subst, suc, length-append, is_some}
use Rattle.std.proofs.Common.{AllPairs, get_or, unwrap_or, zero}
use Rattle.std.proofs.lemmas.Bool.{both_ways, cases_Bool, cases_lt, le-leb, eqb-true, eq-eqb}
use Rattle.std.proofs.lemmas.List.{length-map, map-append}
use Rattle.numa_machine.specs.Machine.{Hardware}
use Rattle.numa_space.specs.Limited.{Bounds}
use Rattle.numa_host.specs.Causes.{cause_of, host_refusal_of, when}
use Rattle.numa_host.specs.Groups.{effective_mems, groups_of}
use Rattle.numa_host.specs.Processes.{Member as Process, group_in, is_there, members_of, nodes_of}
use Rattle.numa_host.specs.Processes.{moved_member}
use Rattle.numa_host.specs.Standing.{HostState, HostStandsFor, HasHostHistory, IsHostAccepted}
use Rattle.numa_host.specs.Standing.{IsHostApplied}
use Rattle.numa_host.specs.Standing.{IsHostSound, member_of}
use Rattle.numa_host.specs.declared.process.Process.{Process as Kept}
use Rattle.numa_host.proofs.Nested.{first-none, when-none}
use Rattle.numa_requests.specs.declared.host_command.HostCommand.{HostCommand}
use Rattle.numa_requests.specs.declared.host_command.HostCommand.TheVariants as command
use Rattle.numa_requests.specs.declared.host_refusal.HostRefusal.{HostRefusal}
use Rattle.numa_requests.specs.declared.host_refusal.HostRefusal.TheVariants as cause
use Rattle.numa_page_state.specs.Outcomes.{Enough, Lack}
use Rattle.numa_host_pages.specs.Homes.{Home, HostLying, home_followed, other_homes, pages_in}
use Rattle.numa_host_pages.specs.Homes.{all_still, with_attached, with_born, with_ended}
use Rattle.numa_host_pages.specs.Obeying.{pages_after}
use Rattle.numa_host_pages.specs.Standing.{AreOf, AreSame, HostLies, Obeys, arrival_of, count_of}
use Rattle.numa_host_pages.specs.TopDown.{arrivals_of}
use Rattle.numa_host_pages.specs.declared.pages.HostPages.{HostPages}
use Rattle.numa_host_pages.proofs.Arrived.{both-parts, calm-arrivals, each-arrivals, has}
use Rattle.numa_host_pages.proofs.Arrived.{home-arrival, other}
use Rattle.numa_host_pages.proofs.Arrived.{other-arrivals, same-joined}
use Rattle.numa_host_pages.proofs.Arrived.{moved-length, same-moved, same-without}

-- ---- refused, and accepted

pub refused : (old : HostState) (pages : HostPages) (said : HostCommand) (why : HostRefusal)
    (new : HostState) → IsHostApplied old said (Err why) new
    → Obeys old pages said (Err why) new pages
refused old pages said why new applied = record {
  applied = applied;
  lies = λ history at stands lies are. (λ group process. Enough, lies, tt);
}

pub accepted : (old : HostState) (pages : HostPages) (said : HostCommand) (new : HostState)
    (later : HostPages) → IsHostApplied old said (Ok tt) new
    → ((history : List HostCommand) (at : HostLying) → HostStandsFor old history
    → HostLies pages at → AreOf at history
    → host_refusal_of old.blank.machine old.blank.bounds history said ≡ None
    → (lacks : ℕ → ℕ → Lack)
    × HostLies later (pages_after lacks old.blank.machine history said at)
    × AreOf (pages_after lacks old.blank.machine history said at) (said ∷ history))
    → Obeys old pages said (Ok tt) new later
accepted old pages said new later applied does = record {
  applied = applied;
  lies = λ history at stands lies are.
      does history at stands lies are (applied.ok history stands).0;
}

-- there is no memory for a child's pages, or something stands against it: nothing has changed
pub childless : (host : HostState) (parent child from task : ℕ) (why : HostRefusal)
    → ((history : List HostCommand) → HostStandsFor host history → MatchOption
    (host_refusal_of host.blank.machine host.blank.bounds history
    (command.Fork parent child from task)) (why ≡ cause.NoMemory) (λ first. why ≡ first))
    → IsHostApplied host (command.Fork parent child from task) (Err why) host
childless host parent child from task why stands_against = record {
  ok = λ history stands. tt;
  err = stands_against;
  unchanged = refl;
  room = λ same. tt;
  machine = refl;
  bounds = refl;
}

-- a command that no page minds
pub stays : (old : HostState) (pages : HostPages) (said : HostCommand)
    (result : Result (Unit {0}) HostRefusal) (new : HostState)
    → ((lacks : ℕ → ℕ → Lack) (history : List HostCommand) (at : HostLying)
    → pages_after lacks old.blank.machine history said at ≡ at)
    → ((history : List HostCommand) → arrivals_of (said ∷ history) ≡ arrivals_of history)
    → ((history : List HostCommand) → members_of (said ∷ history) ≡ members_of history)
    → IsHostApplied old said result new → Obeys old pages said result new pages
stays old pages said (Err why) new same arrives joins applied =
    refused old pages said why new applied
stays old pages said (Ok done) new same arrives joins applied =
    accepted old pages said new pages applied (λ history at stands lies are none.
    let lacks : ℕ → ℕ → Lack = λ place member. Enough in
    let is = sym (same lacks history at) in (
      lacks,
      subst (HostLies pages) is lies,
      subst (λ (l : HostLying). AreOf l (said ∷ history)) is (record {
        order = are.order ∙ sym (arrives history);
        same = subst (λ (ms : List Process). AreSame ms (members_of (said ∷ history)))
            (sym (arrives history))
            (subst (λ (ms : List Process). AreSame (arrivals_of history) ms)
            (sym (joins history)) are.same);
      }),
    ))

-- the same where it is known which command it is
pub stays-by : (old : HostState) (pages : HostPages) (said same : HostCommand)
    (result : Result (Unit {0}) HostRefusal) (new : HostState) → said ≡ same
    → ((lacks : ℕ → ℕ → Lack) (history : List HostCommand) (at : HostLying)
    → pages_after lacks old.blank.machine history same at ≡ at)
    → ((history : List HostCommand) → arrivals_of (same ∷ history) ≡ arrivals_of history)
    → ((history : List HostCommand) → members_of (same ∷ history) ≡ members_of history)
    → IsHostApplied old said result new → Obeys old pages said result new pages
stays-by old pages said same result new is keeps arrives joins applied =
    subst (λ (s : HostCommand). Obeys old pages s result new pages) (sym is)
    (stays old pages same result new keeps arrives joins
    (subst (λ (s : HostCommand). IsHostApplied old s result new) is applied))

-- ---- how many there are

pub homes-count : (at : HostLying) (history : List HostCommand) → AreOf at history
    → length at.homes ≡ length (members_of history)
homes-count at history are = sym (length-map at.homes arrival_of)
    ∙ ap (λ (ms : List Process). length ms) are.order ∙ are.same.count

few : (count : ℕ) → leb 4096 count ≡ false → count < 4096
few count not-full =
    elim (cases_lt count 4096) [
      | inl low ↦ low
      | inr high ↦ absurd (both_ways (leb 4096 count) not-full (le-leb 4096 count high))
    ]

module _ (machine : Hardware) (bounds : Bounds) (history : List HostCommand) where
  cause-none : (said : HostCommand) → host_refusal_of machine bounds history said ≡ None
      → cause_of machine bounds history said ≡ None
  cause-none said none = (first-none (when (leb bounds.max_commands (length history))
      cause.CommandsSpent) _ none).1

  pub new-few : (process group : ℕ)
      → host_refusal_of machine bounds history (command.NewProcess process group) ≡ None
      → length (members_of history) < 4096
  new-few process group none =
      let judged = first-none (when (is_there (members_of history) process) cause.ProcessExists) _
      (cause-none (command.NewProcess process group) none) in
      let grouped = first-none _ _ judged.1 in
      few (length (members_of history)) (when-none _ _ grouped.1)

  pub fork-few : (parent child from task : ℕ)
      → host_refusal_of machine bounds history (command.Fork parent child from task) ≡ None
      → length (members_of history) < 4096
  fork-few parent child from task none =
      let judged = first-none (when (is_there (members_of history) child) cause.ProcessExists) _
      (cause-none (command.Fork parent child from task) none) in
      let here = first-none _ _ judged.1 in
      let fits = first-none (when (leb 4096 (length (members_of history)))
      cause.TooManyProcesses) _ here.1 in
      few (length (members_of history)) (when-none _ _ fits.0)

  pub attach-there : (process group : ℕ)
      → host_refusal_of machine bounds history (command.Attach process group) ≡ None
      → is_there (members_of history) process ≡ true
  attach-there process group none =
      let judged = first-none (when (not (is_there (members_of history) process))
      cause.NoSuchProcess) _ (cause-none (command.Attach process group) none) in
      negated (is_there (members_of history) process) (when-none _ _ judged.0)
    where
      negated : (b : Bool) → not b ≡ false → b ≡ true
      negated true is = refl
      negated false is = absurd (both_ways true is refl)

-- ---- each is there once

none-else : (kept : List Kept) (process : ℕ)
    → ((j : ℕ) (d : Kept) → j < length kept → (get_or kept j d).id ≢ process)
    → count_of process (map member_of kept) ≡ 0
none-else [] process far = refl
none-else (k ∷ kept) process far =
    let here : eqb k.id process ≡ false =
    elim (cases_Bool (eqb k.id process)) [
      | inl e ↦ absurd (far 0 k (omega arith) (eqb-true k.id process e))
      | inr e ↦ e
    ] in
    rw here (none-else kept process (λ j d inside. far (suc j) d (omega (arith, inside))))

pub once-there : (kept : List Kept) (process : ℕ) → AllPairs (λ (a b : Kept). a.id ≢ b.id) kept
    → is_there (map member_of kept) process ≡ true
    → count_of process (map member_of kept) ≡ 1
once-there [] process once there = absurd (both_ways false refl there)
once-there (k ∷ kept) process once there =
    elim (cases_Bool (eqb process k.id)) [
      | inl e ↦
          let same : process ≡ k.id = eqb-true process k.id e in
          let its : eqb k.id process ≡ true = eq-eqb k.id process (sym same) in
          rw its (ap suc (none-else kept process (λ j d inside is.
          once 0 (suc j) d (omega arith) (omega (arith, inside)) (sym same ∙ sym is))))
      | inr e ↦
          let far : eqb k.id process ≡ false =
          elim (cases_Bool (eqb k.id process)) [
            | inl f ↦ absurd (both_ways (eqb process k.id) e
                (eq-eqb process k.id (sym (eqb-true k.id process f))))
            | inr f ↦ f
          ] in
          rw far (once-there kept process
          (λ i j d low inside. once (suc i) (suc j) d (omega (arith, low)) (omega (arith, inside)))
          (rw e at there))
    ]

pub member-once : (host : HostState) (history : List HostCommand) (process : ℕ)
    → HostStandsFor host history → IsHostSound host
    → is_there (members_of history) process ≡ true → count_of process (members_of history) ≡ 1
member-once host history process stands sound there =
    subst (λ (ms : List Process). count_of process ms ≡ 1) stands.members
    (once-there host.processes process sound.each_once
    (subst (λ (ms : List Process). is_there ms process ≡ true) (sym stands.members) there))

-- ---- there are few

without-le : (process : ℕ) (members : List Process)
    → length (filter (other process) members) ≤ length members
without-le process members = omega (arith, both-parts process members)

pub members-few : (machine : Hardware) (bounds : Bounds) (history : List HostCommand)
    → IsHostAccepted machine bounds history → length (members_of history) ≤ 4096
members-few machine bounds [] accepted = omega arith
members-few machine bounds (command.NewGroup name parent ∷ history) accepted =
    members-few machine bounds history accepted.1
members-few machine bounds (command.SetGroupMems name mems ∷ history) accepted =
    members-few machine bounds history accepted.1
members-few machine bounds (command.In process said ∷ history) accepted =
    members-few machine bounds history accepted.1
members-few machine bounds (command.SetWeight node weight ∷ history) accepted =
    members-few machine bounds history accepted.1
members-few machine bounds (command.NewProcess process group ∷ history) accepted =
    omega (
      arith,
      new-few machine bounds history process group accepted.0,
      length-append (members_of history) ((process, group) ∷ []),
    )
members-few machine bounds (command.Fork parent child from task ∷ history) accepted =
    omega (
      arith,
      fork-few machine bounds history parent child from task accepted.0,
      length-append (members_of history)
          ((child, unwrap_or (group_in (members_of history) parent) 0) ∷ []),
    )
members-few machine bounds (command.Exit process ∷ history) accepted =
    omega (
      arith,
      without-le process (members_of history),
      members-few machine bounds history accepted.1,
    )
members-few machine bounds (command.Attach process group ∷ history) accepted =
    omega (
      arith,
      moved-length process group (members_of history),
      members-few machine bounds history accepted.1,
    )

-- all but one of them are fewer than a host may have
pub others-few : (host : HostState) (history : List HostCommand) (at : HostLying) (process : ℕ)
    → HostStandsFor host history → HasHostHistory host → AreOf at history
    → count_of process (members_of history) ≡ 1 → length (other_homes process at.homes) < 4096
others-few host history at process stands known are once =
    let same : members_of known.history ≡ members_of history =
    sym known.stands.members ∙ stands.members in
    let most : length (members_of history) ≤ 4096 =
    subst (λ (ms : List Process). length ms ≤ 4096) same
    (members-few host.blank.machine host.blank.bounds known.history known.accepted) in
    omega (
      arith,
      sym (length-map (other_homes process at.homes) arrival_of)
          ∙ ap (λ (ms : List Process). length ms) (other-arrivals process at.homes
          ∙ ap (λ (ms : List Process). filter (other process) ms) are.order),
      both-parts process (arrivals_of history),
      are.same.count,
      are.same.each process,
      once,
      most,
    )

-- ---- one more

pub born-are : (at : HostLying) (history : List HostCommand) (process group nodes : ℕ)
    (said : HostCommand) → AreOf at history
    → arrivals_of (said ∷ history) ≡ arrivals_of history ++ (process, group) ∷ []
    → members_of (said ∷ history) ≡ members_of history ++ (process, group) ∷ []
    → AreOf (with_born process group nodes at) (said ∷ history)
born-are at history process group nodes said are arrives joins = record {
  order = map-append arrival_of at.homes _
      ∙ ap (λ (ms : List Process). ms ++ (process, group) ∷ []) are.order ∙ sym arrives;
  same = subst (λ (ms : List Process). AreSame ms (members_of (said ∷ history))) (sym arrives)
      (subst (λ (ms : List Process). AreSame (arrivals_of history ++ (process, group) ∷ []) ms)
      (sym joins) (same-joined (arrivals_of history) (members_of history) (process, group)
      are.same));
}

-- ---- one less

pub ended-are : (at : HostLying) (history : List HostCommand) (process : ℕ) → AreOf at history
    → AreOf (with_ended process at) (command.Exit process ∷ history)
ended-are at history process are = record {
  order = other-arrivals process at.homes
      ∙ ap (λ (ms : List Process). filter (other process) ms) are.order;
  same = same-without (arrivals_of history) (members_of history) process are.same;
}

-- ---- one that moves

pub attached-are : (at : HostLying) (history : List HostCommand) (lack : Lack)
    (process group old new : ℕ) → AreOf at history
    → count_of process (members_of history) ≡ 1
    → AreOf (with_attached lack process group old new at) (command.Attach process group ∷ history)
attached-are at history lack process group old new are once =
    let home : Home =
    record {
      id = process;
      group = group;
      allowed = old;
      lying = pages_in process at.homes;
      along = false;
    } in
    let newer : Home = (home_followed lack at.follows new home at.room).0 in
    let came : arrival_of newer ≡ (process, group) =
    home-arrival lack at.follows new home at.room in record {
      order = map-append arrival_of (other_homes process (all_still at).homes) (newer ∷ [])
          ∙ (λ i. map arrival_of (other_homes process (all_still at).homes) ++ came i ∷ [])
          ∙ ap (λ (ms : List Process). ms ++ (process, group) ∷ [])
          (other-arrivals process (all_still at).homes
          ∙ ap (λ (ms : List Process). filter (other process) ms)
          (calm-arrivals at.homes ∙ are.order));
      same = same-moved (arrivals_of history) (members_of history) process group are.same once;
    }
