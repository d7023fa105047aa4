-- A command of one process, over the whole host.
use Rattle.std.proofs.Common.{◌≡◌, ◌≢◌, ◌≤◌, ◌<◌, ℕ, ◌+◌, true, false, List, [], ◌∷◌, map}
use Rattle.std.proofs.Common.{length, get_or, Option, Some, None, is_some, Result, Ok, Err}
use Rattle.std.proofs.Common.{IfErr, MatchOption, eqb, leb, refl, sym, ap, ◌∙◌, subst, arith}
use Rattle.std.proofs.Common.{inl, inr, suc}
use Rattle.std.proofs.lemmas.Bool.{cases_Bool, eqb-true, eq-eqb, ne_eqb, lt-leb, both_ways}
use Rattle.std.proofs.lemmas.Bool.{cases_lt}
use Rattle.std.proofs.lemmas.Iterator.Adapters.{position_from-zero}
use Rattle.std.specs.List.{position, position_from}
use Rattle.numa_machine.specs.Machine.{Hardware}
use Rattle.numa_space.specs.Refusals.{refusal_of}
use Rattle.numa_space.specs.Standing.{StandsFor}
use Rattle.numa_space.specs.Steps.{allowed_next, MayNeedRoom}
use Rattle.numa_requests.specs.declared.command.Command.{Command}
use Rattle.numa_requests.specs.declared.command.Command.TheVariants as own
use Rattle.numa_requests.specs.declared.refusal.Refusal.{Refusal}
use Rattle.numa_requests.specs.declared.refusal.Refusal.TheVariants as cause
use Rattle.numa_requests.specs.declared.host_command.HostCommand.{HostCommand}
use Rattle.numa_requests.specs.declared.host_command.HostCommand.TheVariants.{In}
use Rattle.numa_host.specs.declared.process.Process.{Process}
use Rattle.numa_requests.specs.declared.host_refusal.HostRefusal.TheVariants.{NoSuchProcess}
use Rattle.numa_requests.specs.declared.host_refusal.HostRefusal.TheVariants.{GroupMems}
use Rattle.numa_requests.specs.HostErrors.{of_space}
use Rattle.numa_host.specs.Causes.{host_refusal_of, is_the_host_s}
use Rattle.numa_host.specs.Following.{AreFollowed, HasAnswered, IsTold}
use Rattle.numa_host.specs.Groups.{effective_mems, is_group}
use Rattle.numa_host.specs.Processes.{commands_of, is_there, members_of}
use Rattle.numa_host.specs.Standing.{HostState, HostStandsFor, IsHostApplied, IsHostSound}
use Rattle.numa_host.specs.Standing.{IsSpaceOf, member_of}
use Rattle.numa_host.proofs.Allowing.{accepted-step}
use Rattle.numa_host.proofs.Answered.{answer-caused, of_space-memory, refusal-no_memory}
use Rattle.numa_host.proofs.Found.{has_id}
use Rattle.numa_host.proofs.Grouped.{member-group, members-followed}
use Rattle.numa_host.proofs.Weighed.{blank-took, blank-kept}

-- ---- where a process is

from-there : (ps : List Process) (id i : ℕ)
    → is_there (map member_of ps) id ≡ is_some (position_from (has_id id) i ps)
from-there [] id i = refl
from-there (p ∷ ps) id i =
    elim (cases_Bool (eqb id p.id)) [
      | inl e ↦ rw e refl
      | inr e ↦
          rw e (from-there ps id (i + 1))
    ]

from-at : (ps : List Process) (id i place : ℕ) → position_from (has_id id) i ps ≡ Some place
    → (k : ℕ) × (place ≡ i + k) × (k < length ps) × ((d : Process) → (get_or ps k d).id ≡ id)
from-at [] id i place is = absurd (cc)
from-at (p ∷ ps) id i place is =
    elim (cases_Bool (eqb id p.id)) [
      | inl e ↦
          let at : Some i ≡ Some place = rw e at is in
          (0, omega (arith, same i place at), omega arith, λ d. sym (eqb-true id p.id e))
      | inr e ↦
          let later = from-at ps id (i + 1) place (rw e at is) in
          (suc later.0, omega (arith, later.1), omega (arith, later.2), later.3)
    ]
  where
    same : (a b : ℕ) → Some a ≡ Some b → a ≡ b
    same a b h = cc

pub position-none : (ps : List Process) (id : ℕ) → position (has_id id) ps ≡ None
    → is_there (map member_of ps) id ≡ false
position-none ps id none = from-there ps id 0
    ∙ ap (λ (o : Option ℕ). is_some o) (sym (position_from-zero (has_id id) ps) ∙ none)

-- the place is one of the list's, and the process there has the number
pub record IsPlaceOf (ps : List Process) (id place : ℕ) : Type 0 where
  pub inside : place < length ps
  pub is : (d : Process) → (get_or ps place d).id ≡ id

pub position-some : (ps : List Process) (id place : ℕ) → position (has_id id) ps ≡ Some place
    → IsPlaceOf ps id place
position-some ps id place some =
    let at = from-at ps id 0 place (sym (position_from-zero (has_id id) ps) ∙ some) in
    let here : at.0 ≡ place = omega (arith, at.1) in
    subst (λ k. IsPlaceOf ps id k) here (record { inside = at.2; is = at.3 })

-- ---- what the host answers

pub absent-refused : (host : HostState) (process : ℕ) (command : Command)
    → host.version < host.blank.bounds.max_commands
    → position (has_id process) host.processes ≡ None
    → IsHostApplied host (In process command) (Err NoSuchProcess) host
absent-refused host process command room none = record {
  ok = λ history stands. tt;
  err = λ history stands.
      let few : leb host.blank.bounds.max_commands (length history) ≡ false =
      lt-leb host.blank.bounds.max_commands (length history)
      (omega (arith, room, stands.version)) in
      let absent : is_there (members_of history) process ≡ false =
      ap (λ ms. is_there ms process) (sym stands.members)
      ∙ position-none host.processes process none in
      rw (few, absent) refl;
  unchanged = refl;
  room = λ same. absurd (cc);
  machine = refl;
  bounds = refl;
}

-- a process that has a place is a member
there-member : (host : HostState) (history : List HostCommand) (process place : ℕ)
    → HostStandsFor host history → IsHostSound host → IsPlaceOf host.processes process place
    → (d : Process) → is_there (members_of history) process ≡ true
there-member host history process place stands sound at d =
    ap (λ ms. is_there ms process) (sym stands.members)
    ∙ ap (λ n. is_there (map member_of host.processes) n) (sym (at.is d))
    ∙ ap (λ (o : Option ℕ). is_some o)
    (member-group host.processes place d sound.each_once at.inside)

pub some-process : (ps : List Process) (place : ℕ) → place < length ps → Process
some-process [] place inside = absurd (omega (arith, inside))
some-process (p ∷ ps) place inside = p

pub there : (host : HostState) (history : List HostCommand) (process place : ℕ)
    → HostStandsFor host history → IsHostSound host → IsPlaceOf host.processes process place
    → is_there (members_of history) process ≡ true
there host history process place stands sound at =
    there-member host history process place stands sound at
    (some-process host.processes place at.inside)

pub group_mems-refused : (host : HostState) (process place : ℕ) (command : Command)
    → host.version < host.blank.bounds.max_commands → IsHostSound host
    → IsPlaceOf host.processes process place → is_the_host_s command ≡ true
    → IsHostApplied host (In process command) (Err GroupMems) host
group_mems-refused host process place command room sound at not_its = record {
  ok = λ history stands. tt;
  err = λ history stands.
      let few : leb host.blank.bounds.max_commands (length history) ≡ false =
      lt-leb host.blank.bounds.max_commands (length history)
      (omega (arith, room, stands.version)) in
      rw (few, there host history process place stands sound at, not_its) refl;
  unchanged = refl;
  room = λ same. absurd (cc);
  machine = refl;
  bounds = refl;
}

-- a command that a process may give leaves the allowed nodes
pub allowed-same : (machine : Hardware) (allowed : ℕ) (command : Command)
    → is_the_host_s command ≡ false → allowed_next machine allowed command ≡ allowed
allowed-same machine allowed (own.Map start bytes offset size) its = refl
allowed-same machine allowed (own.Unmap start bytes) its = refl
allowed-same machine allowed (own.Mbind start bytes spec) its = refl
allowed-same machine allowed (own.SetTask task spec) its = refl
allowed-same machine allowed (own.Inherit heir from) its = refl
allowed-same machine allowed (own.SetHome start bytes node) its = refl
allowed-same machine allowed (own.SetWeight node weight) its = refl
allowed-same machine allowed (own.SetMems mask) its = absurd (cc)

same-list : (xs ys : List Process) → length ys ≡ length xs
    → ((k : ℕ) (d : Process) → k < length xs → get_or ys k d ≡ get_or xs k d) → ys ≡ xs
same-list [] [] count each = refl
same-list [] (y ∷ ys) count each = absurd (omega (arith, count))
same-list (x ∷ xs) [] count each = absurd (omega (arith, count))
same-list (x ∷ xs) (y ∷ ys) count each =
    let first : y ≡ x = each 0 x (omega arith) in
    let rest : ys ≡ xs = same-list xs ys (omega (arith, count))
    (λ k d inside. each (suc k) d (omega (arith, inside))) in
    λ i. first i ∷ rest i

module _ (old : HostState) (process place : ℕ) (command : Command)
    (result : Result (Unit {0}) Refusal) (news : List Process)
    (at : IsPlaceOf old.processes process place)
    (told : IsTold place command result old.processes news) where
  abbrev pub next : HostState
  next = record {
    blank = old.blank;
    version = old.version + 1;
    groups = old.groups;
    processes =
        news;
  }

  abbrev stays : Process → Process → Type 0
  stays p q = (q.id ≡ p.id) × (q.group ≡ p.group)

  far-from : (k : ℕ) → eqb k place ≡ false → k ≢ place
  far-from k e = λ is. both_ways (eqb k place) e (eq-eqb k place is)

  kept : AreFollowed stays old.processes news
  kept = record {
    count = told.count;
    each = λ k d inside.
        elim (cases_Bool (eqb k place)) [
          | inl e ↦ subst (λ n. stays (get_or old.processes n d) (get_or news n d))
              (sym (eqb-true k place e)) ((told.told d).id, (told.told d).group)
          | inr e ↦ (
            ap (λ (p : Process). p.id) (told.others k d (far-from k e)),
            ap (λ (p : Process). p.group) (told.others k d (far-from k e)),
          )
        ];
  }

  -- a refusal leaves the processes as they are
  pub told-kept : (refusal : Refusal) → result ≡ Err refusal → news ≡ old.processes
  told-kept refusal is = same-list old.processes news told.count (λ k d inside.
      elim (cases_Bool (eqb k place)) [
        | inl e ↦
            let answered = told.told d in
            let space : (get_or news place d).space ≡ (get_or old.processes place d).space =
            blank-kept _ _ command result refusal answered.applied is in
            let whole : get_or news place d ≡ get_or old.processes place d =
            λ i. record { id = answered.id i; group = answered.group i; space = space i } in
            subst (λ n. get_or news n d ≡ get_or old.processes n d) (sym (eqb-true k place e))
            whole
        | inr e ↦ told.others k d (far-from k e)
      ])

  module _ (sound : IsHostSound old) (its : is_the_host_s command ≡ false) where
    above : (k : ℕ) → place ≤ k → k ≢ place → place < k
    above k high far = omega (arith, high, far)

    apart : (k : ℕ) (d : Process) → k < length old.processes → k ≢ place
        → process ≢ (get_or old.processes k d).id
    apart k d inside far = λ same.
        elim (cases_lt k place) [
          | inl low ↦ sound.each_once k place d low at.inside (sym same ∙ sym (at.is d))
          | inr high ↦ sound.each_once place k d (above k high far) inside (at.is d ∙ same)
        ]

    pub told-stands : result ≡ Ok tt → (history : List HostCommand) → HostStandsFor old history
        → HostStandsFor next (In process command ∷ history)
    told-stands is history stands = record {
      version = omega (arith, stands.version);
      groups = stands.groups;
      members = members-followed stays old.processes news (λ p q same. same) kept
          ∙ stands.members;
      blank = stands.blank;
      spaces = λ k d inside.
          let within : k < length old.processes = omega (arith, inside, told.count) in
          let Held : Process → Type 0 = λ x. IsSpaceOf old.blank.machine old.blank.bounds
          (commands_of old.blank.machine (In process command ∷ history) x.id) x.space in
          elim (cases_Bool (eqb k place)) [
            | inl e ↦ subst (λ n. Held (get_or news n d)) (sym (eqb-true k place e))
                (one history stands d is)
            | inr e ↦
                let far : k ≢ place = far-from k e in
                let p : Process = get_or old.processes k d in
                let other : eqb process p.id ≡ false =
                ne_eqb process p.id (apart k d within far) in
                let held : IsSpaceOf old.blank.machine old.blank.bounds
                (commands_of old.blank.machine history p.id) p.space =
                stands.spaces k d within in
                let whole : commands_of old.blank.machine (In process command ∷ history) p.id
                ≡ commands_of old.blank.machine history p.id = rw other refl in
                subst Held (sym (told.others k d far))
                (subst (λ cs. IsSpaceOf old.blank.machine old.blank.bounds cs p.space)
                (sym whole) held)
          ];
    }
      where
        one : (history : List HostCommand) → HostStandsFor old history → (d : Process)
            → result ≡ Ok tt → IsSpaceOf old.blank.machine old.blank.bounds
            (commands_of old.blank.machine (In process command ∷ history)
            (get_or news place d).id) (get_or news place d).space
        one history stands d is =
            let p : Process = get_or old.processes place d in
            let q : Process = get_or news place d in
            let answered : HasAnswered command result p q = told.told d in
            let held : IsSpaceOf old.blank.machine old.blank.bounds
            (commands_of old.blank.machine history p.id) p.space =
            stands.spaces place d at.inside in
            let took = blank-took p.space q.space (commands_of old.blank.machine history p.id)
            command result answered.applied is held.stands in
            let mine : eqb process q.id ≡ true =
            eq-eqb process q.id (sym (answered.id ∙ at.is d)) in
            let same : command ∷ commands_of old.blank.machine history p.id
            ≡ commands_of old.blank.machine (In process command ∷ history) q.id =
            rw mine (ap (λ n. command ∷ commands_of old.blank.machine history n)
            (sym answered.id)) in
            record {
              machine = answered.applied.machine ∙ held.machine;
              bounds = answered.applied.bounds ∙ held.bounds;
              stands = subst (λ cs. StandsFor q.space cs) same took.1;
            }

    pub told-sound : result ≡ Ok tt → old.version < old.blank.bounds.max_commands
        → IsHostSound next
    told-sound is room = record {
      each_once = λ i j d low high.
          let here : j < length old.processes = omega (arith, high, told.count) in
          let first = kept.each i d (omega (arith, low, here)) in
          let second = kept.each j d here in
          λ same. sound.each_once i j d low here (sym first.0 ∙ same ∙ second.0);
      memory = sound.memory;
      allowed = λ k d inside.
          let within : k < length old.processes = omega (arith, inside, told.count) in
          let same : (get_or news k d).space.allowed ≡ (get_or old.processes k d).space.allowed =
          elim (cases_Bool (eqb k place)) [
            | inl e ↦
                let p : Process = get_or old.processes place d in
                let q : Process = get_or news place d in
                let here : q.space.allowed ≡ p.space.allowed =
                (accepted-step p.space q.space command result (told.told d).applied
                is).next.allowed ∙ allowed-same p.space.machine p.space.allowed command its in
                subst (λ n. (get_or news n d).space.allowed
                ≡ (get_or old.processes n d).space.allowed) (sym (eqb-true k place e)) here
            | inr e ↦ ap (λ (p : Process). p.space.allowed) (told.others k d (far-from k e))
          ] in
          same ∙ sound.allowed k d within
          ∙ ap (λ g. effective_mems old.blank.machine.memory old.groups g)
          (sym (kept.each k d within).1);
      grouped = λ k d inside.
          let within : k < length old.processes = omega (arith, inside, told.count) in
          ap (λ g. is_group old.groups g) (kept.each k d within).1 ∙ sound.grouped k d within;
      version_limit = omega (arith, room);
    }

    -- what the space judges by is the projection
    judged : (history : List HostCommand) (d : Process) → HostStandsFor old history
        → refusal_of (get_or old.processes place d).space.machine
        (get_or old.processes place d).space.bounds
        (commands_of old.blank.machine history (get_or old.processes place d).id) command
        ≡ refusal_of old.blank.machine old.blank.bounds
        (commands_of old.blank.machine history process) command
    judged history d stands =
        let held = stands.spaces place d at.inside in
        λ i. refusal_of (held.machine i) (held.bounds i)
        (commands_of old.blank.machine history (at.is d i)) command

    pub told-none : result ≡ Ok tt → old.version < old.blank.bounds.max_commands
        → (history : List HostCommand) → HostStandsFor old history
        → host_refusal_of old.blank.machine old.blank.bounds history (In process command) ≡ None
    told-none is room history stands =
        let d : Process = some-process old.processes place at.inside in
        let p : Process = get_or old.processes place d in
        let held = stands.spaces place d at.inside in
        let few : leb old.blank.bounds.max_commands (length history) ≡ false =
        lt-leb old.blank.bounds.max_commands (length history)
        (omega (arith, room, stands.version)) in
        let none : refusal_of old.blank.machine old.blank.bounds
        (commands_of old.blank.machine history process) command ≡ None =
        sym (judged history d stands)
        ∙ (blank-took p.space (get_or news place d).space
        (commands_of old.blank.machine history p.id) command result (told.told d).applied is
        held.stands).0 in
        rw (few, there old history process place stands sound at, its, none) refl

    pub told-applied : result ≡ Ok tt → old.version < old.blank.bounds.max_commands
        → IsHostApplied old (In process command) (Ok tt) next
    told-applied is room = record {
      ok = λ history stands. (told-none is room history stands, told-stands is history stands);
      err = λ history stands. tt;
      unchanged = tt;
      room = tt;
      machine = refl;
      bounds = refl;
    }

    pub told-refused : (refusal : Refusal) → result ≡ Err refusal
        → old.version < old.blank.bounds.max_commands
        → IsHostApplied old (In process command) (Err (of_space refusal)) old
    told-refused refusal is room = record {
      ok = λ history stands. tt;
      err = λ history stands.
          let d : Process = some-process old.processes place at.inside in
          let p : Process = get_or old.processes place d in
          let held = stands.spaces place d at.inside in
          let few : leb old.blank.bounds.max_commands (length history) ≡ false =
          lt-leb old.blank.bounds.max_commands (length history)
          (omega (arith, room, stands.version)) in
          let o : Option Refusal = refusal_of old.blank.machine old.blank.bounds
          (commands_of old.blank.machine history process) command in
          let told_so : MatchOption
          (refusal_of p.space.machine p.space.bounds (commands_of old.blank.machine history p.id)
          command) (refusal ≡ cause.NoMemory) (λ first. refusal ≡ first) =
          subst (λ (r : Result (Unit {0}) Refusal). IfErr r
          (λ refusal. MatchOption
          (refusal_of p.space.machine p.space.bounds (commands_of old.blank.machine history p.id)
          command) (refusal ≡ cause.NoMemory) (λ first. refusal ≡ first))) is
          ((told.told d).applied.err (commands_of old.blank.machine history p.id) held.stands) in
          let here : MatchOption o (refusal ≡ cause.NoMemory) (λ first. refusal ≡ first) =
          subst (λ (x : Option Refusal). MatchOption x (refusal ≡ cause.NoMemory)
          (λ first. refusal ≡ first)) (judged history d stands) told_so in
          rw (few, there old history process place stands sound at, its)
          (answer-caused o refusal
          (refusal-no_memory old.blank.machine old.blank.bounds
          (commands_of old.blank.machine history process) command) here);
      unchanged = refl;
      room = λ same.
          let d : Process = some-process old.processes place at.inside in
          subst (λ (r : Result (Unit {0}) Refusal). IfErr r (λ refusal. refusal ≡ cause.NoMemory
          → MayNeedRoom command)) is (told.told d).applied.room (of_space-memory refusal same);
      machine = refl;
      bounds = refl;
    }
