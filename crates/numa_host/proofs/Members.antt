-- The processes of a host, as members of groups.
use Rattle.std.proofs.Common.{◌≡◌, ◌≢◌, ◌<◌, ℕ, Bool, false, List, [], ◌∷◌, length}
use Rattle.std.proofs.Common.{map, get_or, All, AllPairs, Option, Some, eqb, refl}
use Rattle.std.proofs.Common.{sym, ap, ◌∙◌, arith, inl, inr, suc, filter}
use Rattle.std.proofs.lemmas.Bool.{cases_Bool, both_ways, eq-eqb}
use Rattle.std.proofs.lemmas.List.Elements.{All-cons, All-nil}
use Rattle.std.specs.List.{list_any}
use Rattle.std.specs.Option.{option_map_or}
use Rattle.numa_machine.specs.Machine.{Hardware}
use Rattle.numa_requests.specs.declared.command.Command.{Command}
use Rattle.numa_requests.specs.declared.host_command.HostCommand.{HostCommand}
use Rattle.numa_host.specs.declared.group.ControlGroup.{ControlGroup}
use Rattle.numa_host.specs.declared.process.Process.{Process}
use Rattle.numa_host.specs.Groups.{effective_mems, groups_of}
use Rattle.numa_host.specs.Processes.{Member, group_in, is_there, members_of, nodes_of}
use Rattle.numa_host.specs.Processes.{when_moved}
use Rattle.numa_host.specs.Standing.{HostState, HostStandsFor, member_of}
use Rattle.numa_host.proofs.Found.{has_id}
use Rattle.numa_host.proofs.Grouped.{member-group}

-- ---- whether a process is there

pub there-any : (ps : List Process) (id : ℕ)
    → is_there (map member_of ps) id ≡ list_any (has_id id) ps
there-any [] id = refl
there-any (p ∷ ps) id =
    elim (cases_Bool (eqb id p.id)) [ inl e ↦ rw e refl | inr e ↦ rw e (there-any ps id) ]

pub there-known : (host : HostState) (history : List HostCommand) (id : ℕ)
    → HostStandsFor host history
    → is_there (members_of history) id ≡ list_any (has_id id) host.processes
there-known host history id stands = ap (λ (ms : List Member). is_there ms id)
    (sym stands.members) ∙ there-any host.processes id

pub absent-others : (ps : List Process) (id : ℕ) → list_any (has_id id) ps ≡ false
    → All (λ (p : Process). p.id ≢ id) ps
absent-others [] id none = All-nil (λ (p : Process). p.id ≢ id)
absent-others (p ∷ ps) id none =
    elim (cases_Bool (eqb id p.id)) [
      | inl e ↦ absurd (both_ways (list_any (has_id id) (p ∷ ps)) none (rw e refl))
      | inr e ↦ All-cons (λ (q : Process). q.id ≢ id) p ps
          (λ same. both_ways (eqb id p.id) e (eq-eqb id p.id (sym same)))
          (absent-others ps id (rw e at none))
    ]

-- ---- lists that are made of lists

-- what becomes of each at its place
pub map-places : {X Y : Type 0} (f g : X → Y) (olds news : List X) → length news ≡ length olds
    → ((k : ℕ) (d : X) → k < length olds → f (get_or news k d) ≡ g (get_or olds k d))
    → map f news ≡ map g olds
map-places f g [] [] count each = refl
map-places f g [] (q ∷ news) count each = absurd (omega (arith, count))
map-places f g (p ∷ olds) [] count each = absurd (omega (arith, count))
map-places f g (p ∷ olds) (q ∷ news) count each =
    let first : f q ≡ g p = each 0 p (omega arith) in
    let rest : map f news ≡ map g olds = map-places f g olds news (omega (arith, count))
    (λ k d inside. each (suc k) d (omega (arith, inside))) in
    λ i. first i ∷ rest i

pub map-filter : {X Y : Type 0} (f : X → Y) (test : Y → Bool) (xs : List X)
    → map f (filter (λ x. test (f x)) xs) ≡ filter test (map f xs)
map-filter f test [] = refl
map-filter f test (x ∷ xs) =
    elim (cases_Bool (test (f x))) [
      | inl e ↦ rw e (λ i. f x ∷ map-filter f test xs i)
      | inr e ↦
          rw e (map-filter f test xs)
    ]

-- ---- the nodes that they are allowed

-- a process of a list that a history means, whose groups it means too
pub nodes-at : (machine : Hardware) (history : List HostCommand) (groups : List ControlGroup)
    (ps : List Process) (k : ℕ) (d : Process) → groups ≡ groups_of history
    → map member_of ps ≡ members_of history → AllPairs (λ (a b : Process). a.id ≢ b.id) ps
    → k < length ps
    → nodes_of machine history (get_or ps k d).id ≡ effective_mems machine.memory groups
    (get_or ps k d).group
nodes-at machine history groups ps k d meant members once inside =
    let group : group_in (members_of history) (get_or ps k d).id ≡ Some (get_or ps k d).group =
    ap (λ (ms : List Member). group_in ms (get_or ps k d).id) (sym members)
    ∙ member-group ps k d once inside in
    ap (λ (o : Option ℕ). option_map_or (effective_mems machine.memory (groups_of history)) o
    machine.memory) group
    ∙ ap (λ (gs : List ControlGroup). effective_mems machine.memory gs (get_or ps k d).group)
    (sym meant)

pub moved-nowhere : (old new : ℕ) (commands : List Command) → old ≡ new
    → when_moved old new commands ≡ commands
moved-nowhere old new commands same = rw (eq-eqb old new same) refl
