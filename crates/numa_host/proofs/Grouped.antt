-- A change of a group's nodes, over the whole host.
use Rattle.std.proofs.Common.{◌≡◌, ◌≢◌, ◌<◌, ℕ, ◌+◌, Bool, true, false, List, [], ◌∷◌, map}
use Rattle.std.proofs.Common.{length, get_or, All, AllPairs, Option, Some, None, is_some, not}
use Rattle.std.proofs.Common.{◌&&◌, ◌||◌, eqb, refl, sym, ap, ◌∙◌, subst, arith, zero, suc, Ok}
use Rattle.std.proofs.Common.{Err, leb, inl, inr}
use Rattle.std.proofs.lemmas.Bool.{cases_Bool, eq-eqb, ne_eqb, lt-leb}
use Rattle.std.specs.Option.{option_map_or}
use Rattle.std.specs.List.{list_any}
use Rattle.std.specs.Prelude.{nat_le}
use Rattle.numa_mask.specs.NodeSet.{members}
use Rattle.numa_space.specs.Limited.{Bounds}
use Rattle.numa_host.specs.Causes.{host_refusal_of, is_populated}
use Rattle.numa_host.proofs.Lengths.{commands-few}
use Rattle.numa_machine.specs.Machine.{Hardware}
use Rattle.numa_space.specs.Standing.{StandsFor}
use Rattle.numa_requests.specs.declared.host_command.HostCommand.{HostCommand}
use Rattle.numa_requests.specs.declared.host_command.HostCommand.TheVariants.{SetGroupMems}
use Rattle.numa_host.specs.declared.group.ControlGroup.{ControlGroup}
use Rattle.numa_host.specs.declared.process.Process.{Process}
use Rattle.numa_requests.specs.declared.host_refusal.HostRefusal.TheVariants.{Populated}
use Rattle.numa_host.specs.Groups.{effective_mems, groups_of, has_own_mems, is_group, is_within}
use Rattle.numa_host.specs.Groups.{with_mems}
use Rattle.numa_host.specs.Processes.{Member, has_process, group_in, members_of, nodes_of}
use Rattle.numa_host.specs.Processes.{commands_of, when_moved}
use Rattle.numa_host.specs.Following.{AreFollowed, HasMore}
use Rattle.numa_host.specs.Standing.{HostState, HostStandsFor, IsHostSound, IsSpaceOf}
use Rattle.numa_host.specs.Standing.{IsHostApplied, member_of}

-- the group of a process that is there once
pub member-group : (ps : List Process) (k : ℕ) (d : Process)
    → AllPairs (λ (a b : Process). a.id ≢ b.id) ps → k < length ps
    → group_in (map member_of ps) (get_or ps k d).id ≡ Some (get_or ps k d).group
member-group [] k d once inside = absurd (omega (arith, inside))
member-group (p ∷ ps) zero d once inside = rw (eq-eqb p.id p.id refl) refl
member-group (p ∷ ps) (suc k) d once inside =
    let within : k < length ps = omega (arith, inside) in
    let other : (get_or ps k d).id ≢ p.id = λ same. once 0 (suc k) d (omega arith) inside
    (sym same) in
    rw (ne_eqb (get_or ps k d).id p.id other)
    (member-group ps k d (λ i j e low high. once (suc i) (suc j) e (omega (arith, low))
    (omega (arith, high))) within)

-- the processes keep their numbers and groups
pub members-followed : (became : Process → Process → Type 0) (olds news : List Process)
    → ((p q : Process) → became p q → (q.id ≡ p.id) × (q.group ≡ p.group))
    → AreFollowed became olds news → map member_of news ≡ map member_of olds
members-followed became [] [] keeps followed = refl
members-followed became [] (q ∷ news) keeps followed = absurd (omega (arith, followed.count))
members-followed became (p ∷ olds) [] keeps followed = absurd (omega (arith, followed.count))
members-followed became (p ∷ olds) (q ∷ news) keeps followed =
    let first = keeps p q (followed.each 0 p (omega arith)) in
    let rest : AreFollowed became olds news =
    record {
      count = omega (arith, followed.count);
      each = λ k d inside. followed.each (suc k) d
          (omega (arith, inside));
    } in
    let rest_same = members-followed became olds news keeps rest in
    λ i. (first.0 i, first.1 i) ∷ rest_same i

-- the nodes that a process of the host is allowed
pub nodes-held : (host : HostState) (history : List HostCommand) (k : ℕ) (d : Process)
    → HostStandsFor host history → IsHostSound host → k < length host.processes
    → nodes_of host.blank.machine history (get_or host.processes k d).id
    ≡ (get_or host.processes k d).space.allowed
nodes-held host history k d stands sound inside =
    let group : group_in (members_of history) (get_or host.processes k d).id
    ≡ Some (get_or host.processes k d).group =
    ap (λ ms. group_in ms (get_or host.processes k d).id) (sym stands.members)
    ∙ member-group host.processes k d sound.each_once inside in
    ap (λ o. option_map_or (effective_mems host.blank.machine.memory (groups_of history)) o
    host.blank.machine.memory) group
    ∙ ap (λ gs. effective_mems host.blank.machine.memory gs (get_or host.processes k d).group)
    (sym stands.groups)
    ∙ sym (sound.allowed k d inside)

-- a list of nodes changes no name
named-same : (groups : List ControlGroup) (name : ℕ) (mems : Option ℕ) (known : ℕ)
    → list_any (λ (group : ControlGroup). eqb group.name known)
    (map (with_mems name mems) groups)
    ≡ list_any (λ (group : ControlGroup). eqb group.name known) groups
named-same [] name mems known = refl
named-same (group ∷ groups) name mems known =
    elim (cases_Bool (eqb group.name name)) [
      | inl e ↦ rw e (ap (λ b. eqb group.name known || b) (named-same groups name mems known))
      | inr e ↦ rw e (ap (λ b. eqb group.name known || b) (named-same groups name mems known))
    ]

pub groups-same : (groups : List ControlGroup) (name : ℕ) (mems : Option ℕ) (known : ℕ)
    → is_group (map (with_mems name mems) groups) known ≡ is_group groups known
groups-same groups name mems known =
    ap (λ b. eqb known 0 || b) (named-same groups name mems known)

module _ (old : HostState) (name : ℕ) (mems : Option ℕ) (news : List Process)
    (sound : IsHostSound old) where
  abbrev pub groups_next : List ControlGroup
  groups_next = map (with_mems name mems) old.groups

  abbrev pub nodes_next : Process → ℕ
  nodes_next p = effective_mems old.blank.machine.memory groups_next p.group

  abbrev pub became : Process → Process → Type 0
  became p q = HasMore (when_moved p.space.allowed (nodes_next p)) (nodes_next p) p q

  abbrev pub next : HostState
  next = record {
    blank = old.blank;
    version = old.version + 1;
    groups = groups_next;
    processes =
        news;
  }

  module _ (followed : AreFollowed became old.processes news) where
    unchanged : map member_of news ≡ map member_of old.processes
    unchanged = members-followed became old.processes news (λ p q more. (more.id, more.group))
        followed

    -- the host stands for the history with the change: each process for its commands
    pub group_mems-stands : (history : List HostCommand) → HostStandsFor old history
        → HostStandsFor next (SetGroupMems name mems ∷ history)
    group_mems-stands history stands = record {
      version = omega (arith, stands.version);
      groups = ap (λ gs. map (with_mems name mems) gs) stands.groups;
      members = unchanged ∙ stands.members;
      blank = stands.blank;
      spaces = λ k d inside.
          let within : k < length old.processes = omega (arith, inside, followed.count) in
          let p : Process = get_or old.processes k d in
          let q : Process = get_or news k d in
          let more : became p q = followed.each k d within in
          let held : IsSpaceOf old.blank.machine old.blank.bounds
          (commands_of old.blank.machine history p.id) p.space = stands.spaces k d within in
          let was : nodes_of old.blank.machine history p.id ≡ p.space.allowed =
          nodes-held old history k d stands sound within in
          let group : group_in (members_of history) p.id ≡ Some p.group =
          ap (λ ms. group_in ms p.id) (sym stands.members)
          ∙ member-group old.processes k d sound.each_once within in
          let is : nodes_of old.blank.machine (SetGroupMems name mems ∷ history) p.id
          ≡ nodes_next p =
          ap (λ o. option_map_or
          (effective_mems old.blank.machine.memory
          (groups_of (SetGroupMems name mems ∷ history))) o old.blank.machine.memory) group
          ∙ ap (λ gs. effective_mems old.blank.machine.memory (map (with_mems name mems) gs)
          p.group) (sym stands.groups) in
          let told : StandsFor q.space
          (when_moved p.space.allowed (nodes_next p)
          (commands_of old.blank.machine history p.id)) =
          more.stands (commands_of old.blank.machine history p.id) held.stands in
          let whole : when_moved p.space.allowed (nodes_next p)
          (commands_of old.blank.machine history p.id) ≡ commands_of old.blank.machine
          (SetGroupMems name mems ∷ history) q.id =
          (λ i. when_moved (sym was i) (sym is i) (commands_of old.blank.machine history p.id))
          ∙ ap (λ n. commands_of old.blank.machine (SetGroupMems name mems ∷ history) n)
          (sym more.id) in
          record {
            machine = more.machine ∙ held.machine;
            bounds = more.bounds
                ∙ held.bounds;
            stands = subst (λ cs. StandsFor q.space cs) whole told;
          };
    }

    -- and what holds of every host holds of it
    pub group_mems-sound : old.version < old.blank.bounds.max_commands → IsHostSound next
    group_mems-sound room = record {
      each_once = λ i j d low high.
          let here : j < length old.processes = omega (arith, high, followed.count) in
          let first = followed.each i d (omega (arith, low, here)) in
          let second = followed.each j d here in
          λ same. sound.each_once i j d low here (sym first.id ∙ same ∙ second.id);
      memory = sound.memory;
      allowed = λ k d inside.
          let more = followed.each k d (omega (arith, inside, followed.count)) in
          more.allowed ∙ ap (λ g. effective_mems old.blank.machine.memory groups_next g)
          (sym more.group);
      grouped = λ k d inside.
          let within : k < length old.processes = omega (arith, inside, followed.count) in
          let more = followed.each k d within in
          ap (λ g. is_group groups_next g) more.group
          ∙ groups-same old.groups name mems (get_or old.processes k d).group
          ∙ sound.grouped k d within;
      version_limit = omega (arith, room);
    }

-- nothing stands against it where the group is there and isn't the root, and the list names no
-- other nodes
list_any-map : {X Y : Type 0} (p : Y → Bool) (h : X → Y) (xs : List X)
    → list_any p (map h xs) ≡ list_any (λ x. p (h x)) xs
list_any-map p h [] = refl
list_any-map p h (x ∷ xs) = ap (λ rest. p (h x) || rest) (list_any-map p h xs)

pub group_mems-none : (host : HostState) (name : ℕ) (mems : Option ℕ)
    (history : List HostCommand) → HostStandsFor host history
    → host.version < host.blank.bounds.max_commands
    → is_group host.groups name ≡ true → eqb name 0 ≡ false
    → option_map_or (λ mask. list_any (λ node. nat_le host.blank.machine.nodes node)
    (members mask)) mems false ≡ false
    → (not (is_some mems)
    && (has_own_mems host.groups name && list_any
    (λ (p : Process). is_within host.groups p.group name) host.processes)) ≡ false
    → host_refusal_of host.blank.machine host.blank.bounds history (SetGroupMems name mems)
    ≡ None
group_mems-none host name mems history stands room there root known free =
    let few : leb host.blank.bounds.max_commands (length history) ≡ false =
    lt-leb host.blank.bounds.max_commands (length history)
    (omega (arith, room, stands.version)) in
    let found : is_group (groups_of history) name ≡ true =
    ap (λ gs. is_group gs name) (sym stands.groups) ∙ there in
    let unset : (not (is_some mems) && is_populated history name) ≡ false =
    ap (λ gs. not (is_some mems)
    && (has_own_mems gs name && has_process gs name (members_of history))) (sym stands.groups)
    ∙ ap (λ ms. not (is_some mems)
    && (has_own_mems host.groups name && has_process host.groups name ms)) (sym stands.members)
    ∙ ap (λ b. not (is_some mems) && (has_own_mems host.groups name && b))
    (list_any-map (λ (m : Member). is_within host.groups m.1 name) member_of host.processes)
    ∙ free in
    rw (few, found, root, known, unset) refl

pub group_mems-populated : (host : HostState) (name : ℕ) (mems : Option ℕ)
    (history : List HostCommand) → HostStandsFor host history
    → host.version < host.blank.bounds.max_commands
    → is_group host.groups name ≡ true → eqb name 0 ≡ false
    → option_map_or (λ mask. list_any (λ node. nat_le host.blank.machine.nodes node)
    (members mask)) mems false ≡ false
    → (not (is_some mems)
    && (has_own_mems host.groups name && list_any
    (λ (p : Process). is_within host.groups p.group name) host.processes)) ≡ true
    → host_refusal_of host.blank.machine host.blank.bounds history (SetGroupMems name mems)
    ≡ Some Populated
group_mems-populated host name mems history stands room there root known free =
    let few : leb host.blank.bounds.max_commands (length history) ≡ false =
    lt-leb host.blank.bounds.max_commands (length history)
    (omega (arith, room, stands.version)) in
    let found : is_group (groups_of history) name ≡ true =
    ap (λ gs. is_group gs name) (sym stands.groups) ∙ there in
    let unset : (not (is_some mems) && is_populated history name) ≡ true =
    ap (λ gs. not (is_some mems)
    && (has_own_mems gs name && has_process gs name (members_of history))) (sym stands.groups)
    ∙ ap (λ ms. not (is_some mems)
    && (has_own_mems host.groups name && has_process host.groups name ms)) (sym stands.members)
    ∙ ap (λ b. not (is_some mems) && (has_own_mems host.groups name && b))
    (list_any-map (λ (m : Member). is_within host.groups m.1 name) member_of host.processes)
    ∙ free in
    rw (few, found, root, known, unset) refl

-- a refusal that is the first cause, and changes nothing
pub populated-refused : (host : HostState) (name : ℕ) (mems : Option ℕ)
    → ((history : List HostCommand) → HostStandsFor host history
    → host_refusal_of host.blank.machine host.blank.bounds history (SetGroupMems name mems)
    ≡ Some Populated)
    → IsHostApplied host (SetGroupMems name mems) (Err Populated) host
populated-refused host name mems cause = record {
  ok = λ history stands. tt;
  err = λ history stands. rw (cause history stands) refl;
  unchanged = refl;
  room = λ same. absurd (cc);
  machine = refl;
  bounds = refl;
}

-- every space has room for one command more
pub room-held : (host : HostState) (history : List HostCommand) (memory : ℕ)
    → HostStandsFor host history → host.version < host.blank.bounds.max_commands
    → memory ≡ host.blank.machine.memory
    → All (λ (p : Process). (p.space.version < p.space.bounds.max_commands)
    × (p.space.machine.memory ≡ memory)) host.processes
room-held host history memory stands room is = λ k d inside.
    let p : Process = get_or host.processes k d in
    let held : IsSpaceOf host.blank.machine host.blank.bounds
    (commands_of host.blank.machine history p.id) p.space = stands.spaces k d inside in (
      omega (
        arith,
        held.stands.version,
        commands-few host.blank.machine history p.id,
        stands.version,
        room,
        ap (λ (b : Bounds). b.max_commands) held.bounds,
      ),
      ap (λ (m : Hardware). m.memory) held.machine ∙ sym is,
    )

pub group_mems-applied : (old : HostState) (name : ℕ) (mems : Option ℕ) (news : List Process)
    (sound : IsHostSound old) → AreFollowed (became old name mems news sound) old.processes news
    → ((history : List HostCommand) → HostStandsFor old history
    → host_refusal_of old.blank.machine old.blank.bounds history (SetGroupMems name mems) ≡ None)
    → IsHostApplied old (SetGroupMems name mems) (Ok tt) (next old name mems news sound)
group_mems-applied old name mems news sound followed none = record {
  ok = λ history stands.
      (none history stands, group_mems-stands old name mems news sound followed history stands);
  err = λ history stands. tt;
  unchanged = tt;
  room = tt;
  machine = refl;
  bounds = refl;
}
