-- `mbind .. move`: once a policy is set for a span, its pages go that lie on other nodes than those
-- of its list, each to its own nodes (mbind(2), MPOL_MF_MOVE).
use Rattle.std.specs.Prelude.{ℕ, ◌+◌, ◌^◌, ◌==◌, ◌&&◌, Bool, true, false, not, Option}
use Rattle.std.specs.Prelude.{Some, None, List, ◌∷◌, if◌then◌else◌, count_by}
use Rattle.numa_machine.specs.Machine.{Hardware}
use Rattle.numa_mode.specs.Policy.{Specification, is_default}
use Rattle.numa_ranges.specs.Counts.{count_pages}
use Rattle.numa_space.specs.History.{page_of, page_count}
use Rattle.numa_requests.specs.declared.command.Command.{Command}
use Rattle.numa_requests.specs.declared.command.Command.TheVariants.{Mbind}
use Rattle.numa_requests.specs.declared.refusal.Refusal.{Refusal}
use Rattle.numa_requests.specs.declared.refusal.Refusal.TheVariants.{NoMemory}
use Rattle.numa_maps.specs.Residents.{Kept}
use Rattle.numa_placed.specs.Binds.{Asked, astray_pages, bound_spots, goals, is_kept, is_sent}
use Rattle.numa_placed.specs.Astray.{is_astray}
use Rattle.numa_placed.specs.Binds.{room_before, span_below, strays}
use Rattle.numa_placed.specs.Spots.{is_on}
use Rattle.numa_placed.specs.declared.spot.Spot.{Spot}
use Rattle.numa_placed.specs.declared.spot.Spot.TheVariants.{Stated}
use Rattle.numa_page_state.specs.Lying.{Lying, OfPages, Process, Sent, lists_of}
use Rattle.numa_page_state.specs.Outcomes.{rooms_of}
use Rattle.numa_page_state.specs.declared.sending.Rebinding.{Rebinding}
use Rattle.numa_page_state.specs.declared.sending.Toucher.{Toucher}

-- ---- the policy

-- the policy that a command sets for a span
abbrev pub rebinding_in : Command → Option Rebinding
rebinding_in (Mbind start bytes spec) =
    Some (record { start = start; length = bytes; spec = spec })
rebinding_in _ = None

-- the policy for the part of its span that can be mapped
abbrev pub below_end : Rebinding → Rebinding
below_end said = record {
  start = (span_below said.start said.length).0;
  length = (span_below said.start said.length).1;
  spec = said.spec;
}

abbrev pub command_of : Rebinding → Command
command_of said = Mbind said.start said.length said.spec

-- whether a refusal tells that memory ran out
abbrev pub lacks_room : Refusal → Bool
lacks_room NoMemory = true
lacks_room _ = false

-- ---- its pages

-- the nodes where a fault of the task on the node `cpu` looks for memory
abbrev pub nodes_of : Hardware → List Command → Toucher → ℕ → List ℕ
nodes_of machine history toucher = lists_of machine history toucher.task toucher.cpu

-- the pages of the span that lie astray of the list as it is written, and the nodes of each page
-- with the policy
abbrev pub asked_of : Process → Rebinding → Toucher → Asked
asked_of process said toucher = record {
  first = page_of (below_end said).start;
  pages = page_count (below_end said).length;
  wants = λ page. is_astray said.spec.mask;
  nodes = nodes_of process.machine (command_of said ∷ process.history) toucher;
}

-- the node to which each page goes
abbrev pub goals_in : Asked → Lying → ℕ → Option ℕ
goals_in asked at = goals asked at.spots (rooms_of at.room)

-- where pages lie once they went, and how many more each node takes then
abbrev pub sent_spots : Asked → Lying → ℕ → Spot
sent_spots asked at = bound_spots asked at.spots (rooms_of at.room)

abbrev pub rooms_sent : Asked → (ℕ → Spot) → Option (ℕ → ℕ) → Option (ℕ → ℕ)
rooms_sent asked spots None = None
rooms_sent asked spots (Some room) = Some (room_before asked spots room (2 ^ 35))

-- ---- what is told

-- whether a page in a frame of a node finds no room, or has another node to go to
abbrev pub is_held : Option ℕ → ℕ → Bool
is_held None node = true
is_held (Some goal) node = not (node == goal)

-- whether a page that keeps a frame of a node is one of the span, and had to go
abbrev pub had_to_go : Asked → (ℕ → Option ℕ) → ℕ → ℕ → Bool
had_to_go asked goal page node =
    strays asked page (Stated node) && is_held (goal page) node

-- how many such pages there are: they stay
abbrev pub held_kept : Kept → Asked → (ℕ → Option ℕ) → ℕ
held_kept kept asked goal = count_by (λ at. had_to_go asked goal at.0 at.1.node) kept

-- whether a page lay on one node and lies on another
abbrev pub has_gone : (ℕ → Spot) → (ℕ → Spot) → ℕ → ℕ → ℕ → Bool
has_gone before after from to page = is_on from (before page) && is_on to (after page)

-- how many pages went from one node to another
abbrev pub flow_between : (ℕ → Spot) → (ℕ → Spot) → ℕ → ℕ → ℕ
flow_between before after from to = if from == to then 0
    else count_pages (has_gone before after from to) 0 (2 ^ 35)

abbrev pub sent_in : Kept → Asked → Lying → Sent
sent_in kept asked at = record {
  moved = astray_pages is_sent asked (goals_in asked at) at.spots;
  left = astray_pages is_kept asked (goals_in asked at) at.spots
      + held_kept kept asked (goals_in asked at);
  flow = flow_between at.spots (sent_spots asked at);
}

-- whether that pages stayed is told as an error: `default` drops `strict`
abbrev pub tells_left : Bool → Specification → ℕ → Bool
tells_left strict spec left = strict && (not (is_default spec) && not (left == 0))

-- the pages once they went
abbrev pub with_sent : Kept → Asked → Lying → Lying
with_sent kept asked at = record {
  begun = true;
  spots = sent_spots asked at;
  room = rooms_sent asked at.spots at.room;
  follows = at.follows;
  last = OfPages (sent_in kept asked at);
  arrived = at.arrived;
}
