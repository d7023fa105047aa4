-- `mbind .. strict`: a policy is refused for a span where pages lie on other nodes than those of
-- its list (mbind(2), MPOL_MF_STRICT).
use Rattle.std.specs.Prelude.{ℕ, ◌&&◌, ◌||◌, Bool, true, false, not, Option, Some, None}
use Rattle.std.specs.Prelude.{if◌then◌else◌}
use Rattle.std.specs.List.{list_any}
use Rattle.numa_machine.specs.Rules.{is_linux}
use Rattle.numa_machine.specs.declared.rules.Rules.{Rules}
use Rattle.numa_mask.specs.NodeSet.{has}
use Rattle.numa_mode.specs.Policy.{Specification, is_default}
use Rattle.numa_ranges.specs.Runs.{in_pages}
use Rattle.numa_space.specs.History.{page_of, page_count}
use Rattle.numa_space.specs.Pages.{page_in}
use Rattle.numa_requests.specs.declared.command.Command.{Command}
use Rattle.numa_requests.specs.declared.refusal.Refusal.{Refusal}
use Rattle.numa_requests.specs.declared.refusal.Refusal.TheVariants.{Hole, NoMemory, TooManyRanges}
use Rattle.numa_maps.specs.Residents.{Kept}
use Rattle.numa_placed.specs.Astray.{judged_pages, strict_cause_by}
use Rattle.numa_placed.specs.declared.spot.Spot.{Spot}
use Rattle.numa_page_state.specs.Lying.{Process}
use Rattle.numa_page_state.specs.Outcomes.{is_astray_cause}
use Rattle.numa_page_state.specs.Sending.{rebinding_in}
use Rattle.numa_page_state.specs.declared.binding.Binding.{Binding}
use Rattle.numa_page_state.specs.declared.sending.Rebinding.{Rebinding}

-- a command that may be refused for pages: `default` takes policies away, and drops `strict`
abbrev pub strict_binding : ℕ → ℕ → Specification → Option Binding
strict_binding start bytes spec = if is_default spec then None
    else Some (record { start = start; length = bytes; list = spec.mask })

abbrev pub strict_binding_of : Option Rebinding → Option Binding
strict_binding_of None = None
strict_binding_of (Some said) = strict_binding said.start said.length said.spec

abbrev pub strict_binding_in : Command → Option Binding
strict_binding_in command = strict_binding_of (rebinding_in command)

-- a page of the span keeps a frame of another node than those of the list
abbrev pub held_astray : Kept → ℕ → ℕ → ℕ → Bool
held_astray kept first pages list =
    list_any (λ at. in_pages first pages at.0 && not (has list at.1.node)) kept

-- how many pages of the span, from its first on, are judged
abbrev pub judged_of : Process → Binding → ℕ
judged_of process said = judged_pages process.machine.rules
    (page_in process.machine process.history) (page_of said.start) (page_count said.length)

-- a judged page of the span lies on another node than those of the list as it is written
abbrev pub has_astray : Process → (ℕ → Spot) → Binding → Bool
has_astray process spots said =
    is_astray_cause (strict_cause_by process.machine.rules
    (page_in process.machine process.history) spots said.start said.length said.list)
    || held_astray process.kept (page_of said.start) (judged_of process said) said.list

-- pages are judged after all that may refuse the command but the number of ranges, and memory; and
-- but a hole, before which the kernel judges some
abbrev pub is_late : Rules → Option Refusal → Bool
is_late rules None = true
is_late rules (Some TooManyRanges) = true
is_late rules (Some NoMemory) = true
is_late rules (Some Hole) = is_linux rules
is_late rules (Some _) = false
