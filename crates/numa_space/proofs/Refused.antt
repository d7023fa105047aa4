-- What a space refuses is what the history that it stands for refuses.
use Rattle.std.proofs.Common.{◌≡◌, ℕ, Bool, true, false, List, Option, Some, None, is_some, refl}
use Rattle.std.proofs.Common.{sym, ap, ◌∙◌}
use Rattle.std.specs.Prelude.{if◌then◌else◌}
use Rattle.numa_machine.specs.Machine.{Hardware}
use Rattle.numa_machine.specs.declared.rules.Rules.{Rules}
use Rattle.numa_machine.specs.declared.rules.Rules.TheVariants.{Document, Linux}
use Rattle.numa_machine.specs.Sizes.{whole}
use Rattle.numa_machine.specs.declared.page_size.PageSize.{PageSize}
use Rattle.numa_machine.specs.declared.page_size.PageSize.TheVariants.{Small, Huge}
use Rattle.numa_mode.specs.Policy.{PolicyRecord}
use Rattle.numa_ranges.specs.Runs.{page_at}
use Rattle.numa_space.specs.Limited.{Bounds}
use Rattle.numa_space.specs.Policies.{allowed_nodes, task_record}
use Rattle.numa_space.specs.Pages.{is_mapped, index_of, range_record, page_in}
use Rattle.numa_space.specs.Refusals.{Scene, first_of, when, bad_span, bad_map_span, bind_cause}
use Rattle.numa_space.specs.Refusals.{bad_policy_span, bad_unmap_span, mems_cause}
use Rattle.numa_space.specs.Refusals.{unaligned_offset}
use Rattle.numa_space.specs.Refusals.{too_many_ranges, cause_in, refusal_in, scene_of, refusal_of}
use Rattle.numa_space.specs.Standing.{SpaceState, StandsFor, record_of}
use Rattle.numa_space.specs.Steps.{pages_next, scene_in}
use Rattle.numa_requests.specs.declared.command.Command.{Command}
use Rattle.numa_requests.specs.declared.command.Command.TheVariants.{Map, Unmap, Mbind, SetTask}
use Rattle.numa_requests.specs.declared.command.Command.TheVariants.{Inherit, SetHome, SetWeight}
use Rattle.numa_requests.specs.declared.command.Command.TheVariants.{SetMems}
use Rattle.numa_requests.specs.declared.refusal.Refusal.{Refusal}
use Rattle.numa_requests.specs.declared.refusal.Refusal.TheVariants.{CommandsSpent, Unaligned}
use Rattle.numa_requests.specs.declared.refusal.Refusal.TheVariants.{OutOfSpace, EmptyLength}
use Rattle.numa_requests.specs.declared.refusal.Refusal.TheVariants.{BadSpan}
use Rattle.numa_requests.specs.declared.refusal.Refusal.TheVariants.{BadOffset, Overlap, Hole}
use Rattle.numa_requests.specs.declared.refusal.Refusal.TheVariants.{NoSuchNode, BadWeight}
use Rattle.numa_requests.specs.declared.refusal.Refusal.TheVariants.{NodesNotAllowed, NotSupported}
use Rattle.numa_requests.specs.declared.refusal.Refusal.TheVariants.{NoPolicy, TooManyTasks}
use Rattle.numa_requests.specs.declared.refusal.Refusal.TheVariants.{TooManyRanges, NoMemory}
use Rattle.numa_space.proofs.Pages.{pages-next}

-- ---- pages

pub mapped-from_page : (machine : Hardware) (history : List Command) (page : ℕ)
    → is_some (page_in machine history page) ≡ true → is_mapped history page ≡ true
mapped-from_page machine history page h = go (is_mapped history page) h
  where
    go : (b : Bool)
        → is_some {T = ℕ × Option PolicyRecord}
        (if b then Some (index_of history page, range_record machine history page) else None) ≡ true
        → b ≡ true
    go true h = refl
    go false h = absurd (cc)

pub page-is_some : (machine : Hardware) (history : List Command) (page : ℕ)
    → is_some (page_in machine history page) ≡ is_mapped history page
page-is_some machine history page = go (is_mapped history page)
  where
    go : (b : Bool)
        → is_some {T = ℕ × Option PolicyRecord}
        (if b then Some (index_of history page, range_record machine history page) else None) ≡ b
    go true = refl
    go false = refl

-- ---- scenes

-- the scene of a history, with the pages after as one step makes them
abbrev stepped : Hardware → Bounds → List Command → Command → Scene
stepped machine bounds history command = record (scene_of machine bounds history command) {
  pages_after = pages_next machine (allowed_nodes machine history) (page_in machine history)
      command;
}

scene-stepped : (space : SpaceState) (history : List Command) (command : Command)
    → StandsFor space history → scene_in space command ≡ stepped space.machine space.bounds history
    command
scene-stepped space history command stands =
    let pages : page_at space.ranges ≡ page_in space.machine history =
    λ i page. stands.pages page i in
    let tasks : record_of space.tasks ≡ task_record space.machine history =
    λ i task. stands.tasks task i in
    λ i. record {
      machine = space.machine;
      bounds = space.bounds;
      version = stands.version i;
      allowed = stands.allowed i;
      pages = pages i;
      pages_after = pages_next space.machine (stands.allowed i) (pages i) command;
      task = tasks i;
      task_count = stands.task_count i;
    }

-- the two scenes are one
refusal-stepped : (machine : Hardware) (bounds : Bounds) (history : List Command)
    (command : Command) → refusal_in (stepped machine bounds history command) command
    ≡ refusal_of machine bounds history command
refusal-stepped machine bounds history command =
    λ i.
    refusal_in (record (scene_of machine bounds history command)
    { pages_after = λ page. sym (pages-next machine history command page) i }) command

pub refusal-same : (space : SpaceState) (history : List Command) (command : Command)
    → StandsFor space history → refusal_in (scene_in space command) command
    ≡ refusal_of space.machine space.bounds history command
refusal-same space history command stands =
    ap (λ s. refusal_in s command) (scene-stepped space history command stands)
    ∙ refusal-stepped space.machine space.bounds history command

-- ---- accepted commands

pub first_of-none : (a b : Option Refusal) → first_of a b ≡ None → (a ≡ None) × (b ≡ None)
first_of-none None b h = (refl, h)
first_of-none (Some cause) b h = absurd (cc)

pub when-none : (b : Bool) (cause : Refusal) → when b cause ≡ None → b ≡ false
when-none true cause h = absurd (cc)
when-none false cause h = refl

pub else-none : (b : Bool) (cause : Option Refusal) → b ≡ false → (if b then None else cause) ≡ None
    → cause ≡ None
else-none true cause e h = absurd (cc)
else-none false cause e h = h

-- ---- want of memory is no cause

first_of-not_memory : (a b : Option Refusal) → (a ≡ Some NoMemory → ⊥) → (b ≡ Some NoMemory → ⊥)
    → first_of a b ≡ Some NoMemory → ⊥
first_of-not_memory None b h k e = k e
first_of-not_memory (Some cause) b h k e = h e

when-not_memory : (b : Bool) (cause : Refusal) → (cause ≡ NoMemory → ⊥)
    → when b cause ≡ Some NoMemory → ⊥
when-not_memory true cause h e = h (cc)
when-not_memory false cause h e = cc

choice-not_memory : (b : Bool) (a other : Option Refusal) → (a ≡ Some NoMemory → ⊥)
    → (other ≡ Some NoMemory → ⊥) → (if b then a else other) ≡ Some NoMemory → ⊥
choice-not_memory true a other h k e = h e
choice-not_memory false a other h k e = k e

bad_span-not_memory : (size : PageSize) (start bytes : ℕ)
    → bad_span size start bytes ≡ Some NoMemory → ⊥
bad_span-not_memory size start bytes = first_of-not_memory _ _ (when-not_memory _ Unaligned (λ e.
    cc))
    (when-not_memory _ OutOfSpace (λ e. cc))

bad_map_span-not_memory : (rules : Rules) (size : PageSize) (start bytes : ℕ)
    → bad_map_span rules size start bytes ≡ Some NoMemory → ⊥
unfolding bad_map_span
bad_map_span-not_memory Document size start bytes = first_of-not_memory (bad_span size start bytes)
    _
    (bad_span-not_memory size start bytes) (when-not_memory _ EmptyLength (λ e. cc))
bad_map_span-not_memory Linux size start bytes =
    first_of-not_memory _ _ (when-not_memory _ EmptyLength (λ e. cc))
    (first_of-not_memory _ _ (when-not_memory _ OutOfSpace (λ e. cc))
    (when-not_memory _ Unaligned (λ e. cc)))

pub bad_unmap_span-not_memory : (rules : Rules) (start bytes : ℕ) → bad_unmap_span rules start bytes
    ≡ Some NoMemory → ⊥
unfolding bad_unmap_span
bad_unmap_span-not_memory Document start bytes = bad_span-not_memory Small start bytes
bad_unmap_span-not_memory Linux start bytes =
    first_of-not_memory _ _ (when-not_memory _ Unaligned (λ e. cc))
    (first_of-not_memory _ _ (when-not_memory _ BadSpan (λ e. cc))
    (when-not_memory _ EmptyLength (λ e. cc)))

pub bad_policy_span-not_memory : (rules : Rules) (start bytes : ℕ)
    → bad_policy_span rules start bytes ≡ Some NoMemory → ⊥
unfolding bad_policy_span
bad_policy_span-not_memory Document start bytes = bad_span-not_memory Small start bytes
bad_policy_span-not_memory Linux start bytes =
    first_of-not_memory _ _ (when-not_memory _ Unaligned (λ e. cc))
    (when-not_memory _ BadSpan (λ e. cc))

mems-not_memory : (rules : Rules) → mems_cause rules ≡ NoMemory → ⊥
mems-not_memory Document e = cc
mems-not_memory Linux e = cc

too_many-not_memory : (scene : Scene) → too_many_ranges scene ≡ Some NoMemory → ⊥
too_many-not_memory scene = when-not_memory _ TooManyRanges (λ e. cc)

bind_cause-not_memory : (rules : Rules) (nodes hole others : Option Refusal)
    → (nodes ≡ Some NoMemory → ⊥) → (hole ≡ Some NoMemory → ⊥) → (others ≡ Some NoMemory → ⊥)
    → bind_cause rules nodes hole others ≡ Some NoMemory → ⊥
bind_cause-not_memory Document nodes hole others n h o =
    first_of-not_memory hole _ h (first_of-not_memory nodes _ n o)
bind_cause-not_memory Linux nodes hole others n h o =
    first_of-not_memory nodes _ n (first_of-not_memory hole _ h o)

unaligned_offset-not_memory : (size : PageSize) (offset : ℕ)
    → unaligned_offset size offset ≡ Some NoMemory → ⊥
unaligned_offset-not_memory Small offset e = cc
unaligned_offset-not_memory Huge offset e = when-not_memory _ Unaligned (λ e. cc) e

-- no page is parted, or else too many ranges
parts-not_memory : (scene : Scene) (parts : Bool)
    → first_of (when parts Unaligned) (too_many_ranges scene) ≡ Some NoMemory → ⊥
parts-not_memory scene parts = first_of-not_memory _ _ (when-not_memory parts Unaligned (λ e. cc))
    (too_many-not_memory scene)

cause-not_memory : (scene : Scene) (command : Command) → cause_in scene command ≡ Some NoMemory → ⊥
cause-not_memory scene (Map start bytes offset size) =
    first_of-not_memory (bad_map_span scene.machine.rules size start (whole size bytes)) _
    (bad_map_span-not_memory scene.machine.rules size start (whole size bytes))
    (first_of-not_memory _ _ (when-not_memory _ BadOffset (λ e. cc))
    (first_of-not_memory _ _ (when-not_memory _ Overlap (λ e. cc))
    (first_of-not_memory (unaligned_offset size offset) _
    (unaligned_offset-not_memory size offset) (too_many-not_memory scene))))
cause-not_memory scene (Unmap start bytes) =
    first_of-not_memory (bad_unmap_span scene.machine.rules start bytes) _
    (bad_unmap_span-not_memory scene.machine.rules start bytes)
    (choice-not_memory _ None _ (λ e. cc) (parts-not_memory scene _))
cause-not_memory scene (Mbind start bytes spec) =
    first_of-not_memory (bad_policy_span scene.machine.rules start bytes) _
    (bad_policy_span-not_memory scene.machine.rules start bytes)
    (choice-not_memory _ None _ (λ e. cc)
    (bind_cause-not_memory scene.machine.rules _ _ _
    (when-not_memory _ NodesNotAllowed (λ e. cc)) (when-not_memory _ Hole (λ e. cc))
    (parts-not_memory scene _)))
cause-not_memory scene (SetTask task spec) =
    first_of-not_memory _ _ (when-not_memory _ NodesNotAllowed (λ e. cc))
    (when-not_memory _ TooManyTasks (λ e. cc))
cause-not_memory scene (Inherit heir from) = when-not_memory _ TooManyTasks (λ e. cc)
cause-not_memory scene (SetHome start bytes node) =
    first_of-not_memory (bad_policy_span scene.machine.rules start bytes) _
    (bad_policy_span-not_memory scene.machine.rules start bytes)
    (first_of-not_memory _ _ (when-not_memory _ NoSuchNode (λ e. cc))
    (choice-not_memory _ None _ (λ e. cc)
    (first_of-not_memory _ _ (when-not_memory _ NotSupported (λ e. cc))
    (first_of-not_memory _ _ (when-not_memory _ NoPolicy (λ e. cc))
    (parts-not_memory scene _)))))
cause-not_memory scene (SetWeight node weight) =
    first_of-not_memory _ _ (when-not_memory _ NoSuchNode (λ e. cc))
    (when-not_memory _ BadWeight (λ e. cc))
cause-not_memory scene (SetMems mask) =
    first_of-not_memory _ _ (when-not_memory _ NoSuchNode (λ e. cc))
    (when-not_memory _ (mems_cause scene.machine.rules) (mems-not_memory scene.machine.rules))

-- no history refuses a command for want of memory
pub refusal-not_memory : (scene : Scene) (command : Command)
    → refusal_in scene command ≡ Some NoMemory → ⊥
refusal-not_memory scene command =
    first_of-not_memory _ _ (when-not_memory _ CommandsSpent (λ e. cc))
    (cause-not_memory scene command)
