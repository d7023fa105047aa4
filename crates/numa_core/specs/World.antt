-- The world of the core, and what a worker sees in it while it looks for a frame.
use Rattle.std.specs.Prelude.{zero, suc, ℕ, ◌+◌, ◌-◌, ◌*◌, ◌/◌, ◌==◌, ◌&&◌, ◌||◌, Bool, false}
use Rattle.std.specs.Prelude.{not, Option, Some, None, is_some, unwrap_or, List, [], ◌∷◌}
use Rattle.std.specs.Prelude.{drop, length, nat_lt, slice_index, if◌then◌else◌}
use Rattle.std.specs.List.{list_any}
use Rattle.std.specs.Option.{option_map_or}
use Rattle.numa_machine.specs.Machine.{Hardware, frames_of}
use Rattle.numa_space.specs.Limited.{Bounds}
use Rattle.numa_space.specs.Lists.{node_list}
use Rattle.numa_space.specs.Pages.{is_mapped}
use Rattle.numa_requests.specs.declared.command.Command.{Command}
use Rattle.numa_machine.specs.declared.frame.Frame.{Frame}
use Rattle.numa_requests.specs.declared.request.Request.{Request}

-- what never changes: the machine, the limits and the number of workers
pub record Setup : Type 0 where
  pub machine : Hardware
  pub bounds : Bounds
  pub workers : ℕ

-- a worker's frame search: its request, or none where it seeks a frame of one node; the version
-- that it took; the nodes in which it looks, in this order; and the frames that it met, by node and
-- number
pub record FrameSearch : Type 0 where
  pub request : Option Request
  pub version : ℕ
  pub nodes : List ℕ
  pub met : ℕ → ℕ → Bool

-- the last version that the worker took, and its frame search: it is busy while it has one, and
-- idle while it has none
pub record Worker : Type 0 where
  pub last : ℕ
  pub frame_search : Option FrameSearch

-- the accepted commands and the published versions, the newest first in both; the workers; who owns
-- a frame, by node and number
pub record World : Type 0 where
  pub history : List Command
  pub published : List ℕ
  pub worker : ℕ → Worker
  pub owner : ℕ → ℕ → Option ℕ

-- at first nothing is accepted, version 0 is published, each worker is idle and no frame is owned
abbrev pub opening : World
opening = record {
  history = [];
  published = 0 ∷ [];
  worker = λ w. record { last = 0; frame_search = None };
  owner = λ n k. None;
}

abbrev pub is_published : World → ℕ → Bool
is_published world version = list_any (λ v. v == version) world.published

-- the newest published version, 0 before any publication
abbrev pub newest_published : World → ℕ
newest_published world = slice_index world.published 0

abbrev pub last_of : World → ℕ → ℕ
last_of world w = (world.worker w).last

abbrev pub frame_search_of : World → ℕ → Option FrameSearch
frame_search_of world w = (world.worker w).frame_search

abbrev pub owner_of : World → Frame → Option ℕ
owner_of world frame = world.owner frame.node frame.number

abbrev pub is_frame : Frame → ℕ → ℕ → Bool
is_frame frame n k = (n == frame.node) && (k == frame.number)

-- ---- the fallback list of a version

-- the first commands of a history, this many of them
abbrev pub first_commands : ℕ → List Command → List Command
first_commands version history = drop (length history - version) history

-- the fallback list that the accepted commands up to the version mean for the request; none where
-- they leave its page unmapped
unfoldable pub list_at : Hardware → List Command → ℕ → Request → Option (List ℕ)
list_at machine history version request =
    if is_mapped (first_commands version history) request.page
    then Some (node_list machine (first_commands version history)
    request.task request.page request.cpu)
    else None

-- ---- frame searches that begin

-- a frame search with no frame met
abbrev pub fresh : Option Request → ℕ → List ℕ → FrameSearch
fresh request version nodes = record {
  request = request;
  version = version;
  nodes = nodes;
  met = λ n k. false;
}

-- one that seeks a frame of this node
abbrev pub seeking : ℕ → ℕ → FrameSearch
seeking version node = fresh None version (node ∷ [])

-- ---- the current node

-- some number below the count passes the test
abbrev pub any_below : (ℕ → Bool) → ℕ → Bool
any_below test zero = false
any_below test (suc n) = test n || any_below test n

abbrev pub one_further : Option ℕ → Option ℕ
one_further None = None
one_further (Some place) = Some (place + 1)

-- the place, from 0, of the first node that passes the test
abbrev pub first_place : (ℕ → Bool) → List ℕ → Option ℕ
first_place test [] = None
first_place test (n ∷ ns) = if test n then Some 0 else one_further (first_place test ns)

module _ (s : Setup) where
  -- the node has a frame that the frame search has not met
  abbrev pub has_unmet : FrameSearch → ℕ → Bool
  has_unmet frame_search n = any_below (λ k. not (frame_search.met n k)) (frames_of s.machine n)

  -- the current node is the first listed one with an unmet frame, and this is its place in the
  -- list: listed nodes without frames count too
  abbrev pub current_rank : FrameSearch → Option ℕ
  current_rank frame_search = first_place (has_unmet frame_search) frame_search.nodes

  -- there is a current node, and it passes the test
  abbrev pub at_current : FrameSearch → (ℕ → Bool) → Bool
  at_current frame_search test = option_map_or (λ rank. test (slice_index frame_search.nodes rank))
      (current_rank frame_search) false

  -- the current node has this word of 64 frames
  abbrev pub may_look : FrameSearch → ℕ → Bool
  may_look frame_search word =
      at_current frame_search (λ n. nat_lt (64 * word) (frames_of s.machine n))

  -- the frame is an unmet one of the current node
  abbrev pub may_try : FrameSearch → Frame → Bool
  may_try frame_search frame = at_current frame_search (λ n. (n == frame.node)
      && (nat_lt frame.number (frames_of s.machine n) && not (frame_search.met n frame.number)))

  -- a frame search that begins: it has the list of its version, and has met no frame
  abbrev pub new_frame_search : World → ℕ → Request → FrameSearch
  new_frame_search world version request =
      fresh (Some request) version (unwrap_or (list_at s.machine world.history version request) [])

  -- a look at this word of the frame search's current node finds the frame owned
  abbrev pub look_finds : World → ℕ → FrameSearch → ℕ → ℕ → Bool
  look_finds world word frame_search n k = at_current frame_search (λ m. n == m)
      && ((k / 64 == word) && is_some (world.owner n k))

  -- the frame search, once it met each frame that the look finds owned
  abbrev pub frame_search_after_look : World → ℕ → FrameSearch → FrameSearch
  frame_search_after_look world word frame_search = record {
    request = frame_search.request;
    version = frame_search.version;
    nodes = frame_search.nodes;
    met = λ n k. look_finds world word frame_search n k || frame_search.met n k;
  }

-- the frame search, once it met the frame
abbrev pub frame_search_past : Frame → FrameSearch → FrameSearch
frame_search_past frame frame_search = record {
  request = frame_search.request;
  version = frame_search.version;
  nodes = frame_search.nodes;
  met = λ n k. is_frame frame n k || frame_search.met n k;
}
