-- Texts said one node after the other.
use Rattle.std.proofs.Common.{◌≡◌, ℕ, zero, suc, ◌+◌, ◌<◌, List, [], ◌++◌, refl, ap, sym, ◌∙◌}
use Rattle.std.proofs.Common.{append_assoc, arith}
use Rattle.std.specs.Prelude.{codes, decimal, if◌then◌else◌, slice_index}
use Rattle.std.specs.List.{flat_map, range_with_len}
use Rattle.numa_machine.proofs.Nodes.{flat_map-range_more}
use Rattle.numa_requests.specs.NodeCounts.{node_text, nodes_text}
use Rattle.numa_mask.specs.NodeSet.{has}
use Rattle.numa_pools.specs.Pools.{PoolCounts, free_at, surplus_at, total_at}
use Rattle.numa_huge.specs.Moves.{HugeArrival}
use Rattle.numa_huge.specs.Tallies.{HasArrived}
use Rattle.numa_huge.specs.declared.arrived.HugeArrived.{HugeArrived}
use Rattle.numa_page_state.specs.Lying.{Arrival}
use Rattle.numa_page_state.specs.Standing.{ArrivedAs}
use Rattle.numa_page_state.specs.declared.arrived.Arrived.{Arrived}
use Rattle.numa_script.specs.PageTexts.{placed_words}
use Rattle.numa_run.specs.ArrivedTexts.{arrival_in, arrival_line, both_arrival_line, limit_of}
use Rattle.numa_run.specs.ArrivedTexts.{huge_arrival_in, room_text, rooms_text}
use Rattle.numa_run.specs.MovedTexts.{all_flows_text, flow_text, flows_from_text}
use Rattle.numa_run.specs.PoolTexts.{pool_text, pools_text}

-- the texts of the nodes below a number
pub texts_below : (ℕ → List ℕ) → ℕ → List ℕ
texts_below text n = flat_map text (range_with_len 0 n)

pub texts-none : (text : ℕ → List ℕ) → texts_below text 0 ≡ []
unfolding texts_below
texts-none text = refl

pub texts-more : (text : ℕ → List ℕ) (n : ℕ)
    → texts_below text (n + 1) ≡ texts_below text n ++ text n
unfolding texts_below
texts-more text n = flat_map-range_more text n

pub texts-alike : (text other : ℕ → List ℕ) (n : ℕ)
    → ((node : ℕ) → node < n → text node ≡ other node) → texts_below text n ≡ texts_below other n
texts-alike text other zero same = texts-none text ∙ sym (texts-none other)
texts-alike text other (suc n) same =
    let size : suc n ≡ n + 1 = omega arith in
    let rest = texts-alike text other n (λ node lt. same node (omega arith)) in
    ap (texts_below text) size ∙ texts-more text n
    ∙ (λ i. rest i ++ same n (omega arith) i)
    ∙ sym (ap (texts_below other) size ∙ texts-more other n)

-- the flows from a node, and from all
abbrev pub flow_from : ℕ → (ℕ → ℕ) → ℕ → List ℕ
flow_from from flow to = flow_text from (flow to) to

pub flows-from_all : (from : ℕ) (flow : ℕ → ℕ) (n : ℕ) → n ≡ 256
    → texts_below (flow_from from flow) n ≡ flows_from_text from flow
unfolding texts_below flows_from_text
flows-from_all from flow n e = ap (λ (k : ℕ). flat_map (flow_from from flow) (range_with_len 0 k)) e

abbrev pub flows_of : (ℕ → ℕ → ℕ) → ℕ → List ℕ
flows_of flow from = flows_from_text from (flow from)

pub all-flows : (flow : ℕ → ℕ → ℕ) (n : ℕ) → n ≡ 256
    → texts_below (flows_of flow) n ≡ all_flows_text flow
unfolding texts_below all_flows_text
all-flows flow n e = ap (λ (k : ℕ). flat_map (flows_of flow) (range_with_len 0 k)) e

-- flows that are equal make one text
pub from-alike : (from : ℕ) (flow other : ℕ → ℕ) → ((to : ℕ) → to < 256 → flow to ≡ other to)
    → flows_from_text from flow ≡ flows_from_text from other
from-alike from flow other same =
    sym (flows-from_all from flow 256 refl)
    ∙ texts-alike (flow_from from flow) (flow_from from other) 256
    (λ to small. ap (λ (k : ℕ). flow_text from k to) (same to small))
    ∙ flows-from_all from other 256 refl

pub all-alike : (flow other : ℕ → ℕ → ℕ)
    → ((from to : ℕ) → from < 256 → to < 256 → flow from to ≡ other from to)
    → all_flows_text flow ≡ all_flows_text other
all-alike flow other same =
    sym (all-flows flow 256 refl)
    ∙ texts-alike (flows_of flow) (flows_of other) 256
    (λ from low. from-alike from (flow from) (other from) (λ to high. same from to low high))
    ∙ all-flows other 256 refl

-- ---- rooms

abbrev pub room_at : (ℕ → ℕ) → ℕ → List ℕ
room_at room node = room_text node (limit_of (room node))

pub rooms-all : (room : ℕ → ℕ) (n : ℕ) → n ≡ 256 → texts_below (room_at room) n ≡ rooms_text room
unfolding texts_below rooms_text
rooms-all room n e = ap (λ (k : ℕ). flat_map (room_at room) (range_with_len 0 k)) e

pub rooms-alike : (room other : ℕ → ℕ) → ((node : ℕ) → node < 256 → room node ≡ other node)
    → rooms_text room ≡ rooms_text other
rooms-alike room other same =
    sym (rooms-all room 256 refl)
    ∙ texts-alike (room_at room) (room_at other) 256
    (λ node small. ap (λ (k : ℕ). room_text node (limit_of k)) (same node small))
    ∙ rooms-all other 256 refl

-- ---- first touches

abbrev count_at : (ℕ → ℕ) → ℕ → List ℕ
count_at pages node = node_text node (pages node)

counts-all : (pages : ℕ → ℕ) (n : ℕ) → n ≡ 256
    → texts_below (count_at pages) n ≡ nodes_text pages
unfolding texts_below nodes_text
counts-all pages n e = ap (λ (k : ℕ). flat_map (count_at pages) (range_with_len 0 k)) e

counts-alike : (pages other : ℕ → ℕ) → ((node : ℕ) → node < 256 → pages node ≡ other node)
    → nodes_text pages ≡ nodes_text other
counts-alike pages other same =
    sym (counts-all pages 256 refl)
    ∙ texts-alike (count_at pages) (count_at other) 256
    (λ node small. ap (λ (k : ℕ). node_text node k) (same node small))
    ∙ counts-all other 256 refl

-- what they did, said
pub arrival-told : (version : ℕ) (done : Arrived) (arrival : Arrival) → ArrivedAs done arrival
    → arrival_line version (arrival_in done) ≡ arrival_line version arrival
arrival-told version done arrival so =
    let counts = counts-alike (slice_index done.on) arrival.on so.on in
    λ i. codes "v" ++ decimal version ++ codes ": " ++ placed_words (so.placed i) (so.exhausted i)
    ++ counts i ++ codes "\n"

-- with what they did to pages of 2 MiB
pub both-told : (version : ℕ) (done : Arrived) (arrival : Arrival) (huge : HugeArrived)
    (told : HugeArrival) → ArrivedAs done arrival → HasArrived huge told
    → both_arrival_line version (arrival_in done) (huge_arrival_in huge)
    ≡ both_arrival_line version arrival told
both-told version done arrival huge told so more =
    let counts = counts-alike (slice_index done.on) arrival.on so.on in
    let others = counts-alike (slice_index huge.on) told.on more.on in
    λ i. codes "v" ++ decimal version ++ codes ": " ++ placed_words (so.placed i) (so.exhausted i)
    ++ counts i ++ codes " huge " ++ placed_words (more.placed i) (more.exhausted i)
    ++ others i ++ codes "\n"

-- texts that are said one after the other
pub both-joined : (v d s w c h x e n : List ℕ)
    → ((v ++ d ++ s ++ w ++ c) ++ (h ++ x ++ e)) ++ n
    ≡ v ++ d ++ s ++ w ++ c ++ h ++ x ++ e ++ n
both-joined v d s w c h x e n =
    let first : List ℕ = v ++ d ++ s ++ w ++ c in
    ap (λ (t : List ℕ). t ++ n) (sym (append_assoc first (h ++ x) e)
    ∙ ap (λ (t : List ℕ). t ++ e) (sym (append_assoc first h x)))

-- ---- pools of pages of 2 MiB

abbrev pub pool_at : PoolCounts → ℕ → List ℕ
pool_at pools node = if has pools.memory node
    then pool_text node (free_at pools node) (total_at pools node) (surplus_at pools node) else []

pub pools-all : (pools : PoolCounts) (n : ℕ) → n ≡ 256
    → texts_below (pool_at pools) n ≡ pools_text pools
unfolding texts_below pools_text
pools-all pools n e = ap (λ (k : ℕ). flat_map (pool_at pools) (range_with_len 0 k)) e
