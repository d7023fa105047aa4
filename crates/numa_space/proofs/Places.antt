-- Where in a history a command stands, and how the set of the policy that it set moves with one
-- command more.
use Rattle.std.proofs.Common.{◌≡◌, ℕ, Bool, true, false, List, [], ◌∷◌, ◌++◌, Option, Some, None}
use Rattle.std.proofs.Common.{IfSome, refl, sym, ap, ◌∙◌, inl, inr}
use Rattle.std.proofs.lemmas.Bool.{cases_Bool}
use Rattle.std.specs.Option.{option_map}
use Rattle.numa_machine.specs.Machine.{Hardware}
use Rattle.numa_machine.specs.declared.rules.Rules.{Rules}
use Rattle.numa_machine.specs.declared.rules.Rules.TheVariants.{Document, Linux}
use Rattle.numa_mode.specs.Policy.{Specification, effect_when_set, effect_after}
use Rattle.numa_mode.specs.declared.modes.NodeFlag.{NodeFlag}
use Rattle.numa_mode.specs.declared.modes.NodeFlag.TheVariants.{Plain, Static, Relative}
use Rattle.numa_space.specs.History.{Place, last_where, one_later}
use Rattle.numa_space.specs.Policies.{allowed_nodes, documented_set, rebound_set, effective_set}
use Rattle.numa_space.specs.Policies.{set_by, mems_of}
use Rattle.numa_space.specs.Steps.{allowed_next}
use Rattle.numa_requests.specs.declared.command.Command.{Command}
use Rattle.numa_requests.specs.declared.command.Command.TheVariants.{Map, Unmap, Mbind, SetTask}
use Rattle.numa_requests.specs.declared.command.Command.TheVariants.{Inherit, SetHome, SetWeight}
use Rattle.numa_requests.specs.declared.command.Command.TheVariants.{SetMems}

-- the nodes that are allowed after one command more
pub allowed-next : (machine : Hardware) (history : List Command) (command : Command)
    → allowed_nodes machine (command ∷ history) ≡ allowed_next machine
    (allowed_nodes machine history) command
allowed-next machine history (Map start bytes offset size) = refl
allowed-next machine history (Unmap start bytes) = refl
allowed-next machine history (Mbind start bytes spec) = refl
allowed-next machine history (SetTask task spec) = refl
allowed-next machine history (Inherit heir from) = refl
allowed-next machine history (SetHome start bytes node) = refl
allowed-next machine history (SetWeight node weight) = refl
allowed-next machine history (SetMems mask) = refl

-- ---- places

-- whether a command changes the allowed nodes
abbrev pub changes_allowed : Command → Bool
changes_allowed (SetMems mask) = true
changes_allowed _ = false

-- the place is one of the history, with its command between those before and those after it, and
-- its command passes the test
pub record IsPlace (test : Command → Bool) (history : List Command) (place : Place) : Type 0 where
  pub whole : history ≡ place.after ++ place.command ∷ place.before
  pub passes : test place.command ≡ true

pub last_where-place : (test : Command → Bool) (history : List Command)
    → IfSome (last_where test history) (IsPlace test history)
last_where-place test [] = tt
last_where-place test (command ∷ history) =
    elim (cases_Bool (test command)) [
      | inl e ↦ rw e (record { whole = refl; passes = e })
      | inr e ↦ rw e (later (last_where test history) (last_where-place test history))
    ]
  where
    later : (o : Option Place) → IfSome o (IsPlace test history)
        → IfSome (option_map (one_later command) o) (IsPlace test (command ∷ history))
    later None h = tt
    later (Some place) h = record { whole = ap (λ rest. command ∷ rest) h.whole; passes = h.passes }

-- a command that doesn't change the allowed nodes can be left out of a history
pub allowed-left_out : (machine : Hardware) (before after : List Command) (command : Command)
    → changes_allowed command ≡ false → allowed_nodes machine (after ++ command ∷ before)
    ≡ allowed_nodes machine (after ++ before)
allowed-left_out machine before [] (Map start bytes offset size) other = refl
allowed-left_out machine before [] (Unmap start bytes) other = refl
allowed-left_out machine before [] (Mbind start bytes spec) other = refl
allowed-left_out machine before [] (SetTask task spec) other = refl
allowed-left_out machine before [] (Inherit heir from) other = refl
allowed-left_out machine before [] (SetHome start bytes node) other = refl
allowed-left_out machine before [] (SetWeight node weight) other = refl
allowed-left_out machine before [] (SetMems mask) other = absurd (cc)
allowed-left_out machine before (Map start bytes offset size ∷ after) command other =
    allowed-left_out machine before after command other
allowed-left_out machine before (Unmap start bytes ∷ after) command other =
    allowed-left_out machine before after command other
allowed-left_out machine before (Mbind start bytes spec ∷ after) command other =
    allowed-left_out machine before after command other
allowed-left_out machine before (SetTask task spec ∷ after) command other =
    allowed-left_out machine before after command other
allowed-left_out machine before (Inherit heir from ∷ after) command other =
    allowed-left_out machine before after command other
allowed-left_out machine before (SetHome start bytes node ∷ after) command other =
    allowed-left_out machine before after command other
allowed-left_out machine before (SetWeight node weight ∷ after) command other =
    allowed-left_out machine before after command other
allowed-left_out machine before (SetMems mask ∷ after) command other = refl

pub allowed-at_place : (machine : Hardware) (test : Command → Bool) (history : List Command)
    (place : Place) → changes_allowed place.command ≡ false → IsPlace test history place
    → allowed_nodes machine (place.after ++ place.before) ≡ allowed_nodes machine history
allowed-at_place machine test history place other is =
    sym (ap (allowed_nodes machine) is.whole ∙ allowed-left_out machine place.before place.after
    place.command other)

-- ---- effective sets, by the documents

-- right after the command that sets the policy
documented-now : (machine : Hardware) (history : List Command) (spec : Specification)
    → documented_set machine history [] spec ≡ effect_when_set spec (allowed_nodes machine history)
documented-now machine history spec = go spec.flag refl
  where
    go : (f : NodeFlag) → spec.flag ≡ f → documented_set machine history [] spec ≡ effect_when_set
        spec (allowed_nodes machine history)
    go Plain e = rw e refl
    go Static e = rw e refl
    go Relative e = rw e refl

-- after a change of the allowed nodes
documented-mems : (machine : Hardware) (before after : List Command) (spec : Specification)
    (mask : ℕ) → documented_set machine before (SetMems mask ∷ after) spec ≡ effect_after Document
    spec (documented_set machine before after spec) (allowed_nodes machine (after ++ before))
    (mems_of machine mask)
documented-mems machine before after spec mask = go spec.flag refl
  where
    go : (f : NodeFlag) → spec.flag ≡ f → documented_set machine before (SetMems mask ∷ after) spec
        ≡ effect_after Document spec (documented_set machine before after spec)
        (allowed_nodes machine (after ++ before)) (mems_of machine mask)
    go Plain e = rw e refl
    go Static e = rw e refl
    go Relative e = rw e refl

-- after any other command
documented-other : (machine : Hardware) (before after : List Command) (spec : Specification)
    (command : Command) → changes_allowed command ≡ false
    → documented_set machine before (command ∷ after) spec ≡ documented_set machine before after
    spec
documented-other machine before after spec (Map start bytes offset size) other = refl
documented-other machine before after spec (Unmap start bytes) other = refl
documented-other machine before after spec (Mbind start bytes s) other = refl
documented-other machine before after spec (SetTask task s) other = refl
documented-other machine before after spec (Inherit heir from) other = refl
documented-other machine before after spec (SetHome start bytes node) other = refl
documented-other machine before after spec (SetWeight node weight) other = refl
documented-other machine before after spec (SetMems mask) other = absurd (cc)

-- ---- and by the rules of the machine

rebound-other : (machine : Hardware) (before after : List Command) (spec : Specification)
    (command : Command) → changes_allowed command ≡ false
    → rebound_set machine before (command ∷ after) spec ≡ rebound_set machine before after spec
rebound-other machine before after spec (Map start bytes offset size) other = refl
rebound-other machine before after spec (Unmap start bytes) other = refl
rebound-other machine before after spec (Mbind start bytes s) other = refl
rebound-other machine before after spec (SetTask task s) other = refl
rebound-other machine before after spec (Inherit heir from) other = refl
rebound-other machine before after spec (SetHome start bytes node) other = refl
rebound-other machine before after spec (SetWeight node weight) other = refl
rebound-other machine before after spec (SetMems mask) other = absurd (cc)

-- right after the command that sets the policy
pub effective-now : (machine : Hardware) (history : List Command) (spec : Specification)
    → effective_set machine history [] spec ≡ effect_when_set spec (allowed_nodes machine history)
effective-now machine history spec = go machine.rules
  where
    go : (r : Rules) → set_by machine history [] spec r ≡ effect_when_set spec
        (allowed_nodes machine history)
    go Document = documented-now machine history spec
    go Linux = refl

-- after a change of the allowed nodes
pub effective-mems : (machine : Hardware) (before after : List Command) (spec : Specification)
    (mask : ℕ) → effective_set machine before (SetMems mask ∷ after) spec
    ≡ effect_after machine.rules spec (effective_set machine before after spec)
    (allowed_nodes machine (after ++ before)) (mems_of machine mask)
effective-mems machine before after spec mask = go machine.rules
  where
    go : (r : Rules) → set_by machine before (SetMems mask ∷ after) spec r ≡ effect_after r spec
        (set_by machine before after spec r) (allowed_nodes machine (after ++ before))
        (mems_of machine mask)
    go Document = documented-mems machine before after spec mask
    go Linux = refl

-- after any other command
pub effective-other : (machine : Hardware) (before after : List Command) (spec : Specification)
    (command : Command) → changes_allowed command ≡ false
    → effective_set machine before (command ∷ after) spec ≡ effective_set machine before after spec
effective-other machine before after spec command other = go machine.rules
  where
    go : (r : Rules) → set_by machine before (command ∷ after) spec r ≡ set_by machine before after
        spec r
    go Document = documented-other machine before after spec command other
    go Linux = rebound-other machine before after spec command other
