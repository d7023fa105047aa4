-- What went where, told one node after the other.
use Rattle.std.proofs.Common.{◌≡◌, ℕ, zero, suc, ◌+◌, ◌<◌, ◌==◌, List, [], ◌++◌, Ok, Err, refl, ap, sym}
use Rattle.std.proofs.Common.{◌∙◌, append-nil, append_assoc, arith, subst}
use Rattle.std.proofs.Common.{false}
use Rattle.std.proofs.Common.{inl, inr, length, replicate}
use Rattle.std.proofs.Math.ListN.{set}
use Rattle.std.proofs.lemmas.Bool.{both_ways, cases_eq, eq-eqb, ne_eqb}
use Rattle.std.proofs.lemmas.List.{get_or-set_same, get_or-set_other, length-replicate}
use Rattle.std.proofs.lemmas.Simd.{get_or-replicate}
use Rattle.std.specs.Prelude.{Result, IfOk, if◌then◌else◌, is_ok, slice_index}
use Rattle.numa_host_pages.specs.Summed.{flow_told, sent_last}
use Rattle.numa_machine.specs.declared.no_memory.NoMemory.{NoMemory}
use Rattle.numa_page_state.specs.Lying.{LastMove, OfNodes, OfPages, Sent, Told}
use Rattle.numa_page_state.specs.Sending.{flow_between}
use Rattle.numa_page_state.specs.Standing.{LastAs, SentAs, TellsOf}
use Rattle.numa_page_state.specs.declared.last.Departures.{Departures}
use Rattle.numa_page_state.specs.declared.last.Last.{Last}
use Rattle.numa_page_state.specs.declared.last.Last.TheVariants as went
use Rattle.numa_placed.specs.Spots.{spot_at}
use Rattle.numa_placed.specs.declared.moved.Moved.{Moved}
use Rattle.numaplan_handles.specs.Hosted.{TellsSent, all_flows, each_below, flow_at, flows_from}
use Rattle.numaplan_handles.specs.declared.flows.Flow.{Flow}
use Rattle.numaplan_handles.specs.declared.flows.LastFlows.{LastFlows}

pub below-none : (flows : ℕ → List Flow) → each_below flows 0 ≡ []
unfolding each_below
below-none flows = refl

pub below-more : (flows : ℕ → List Flow) (node : ℕ)
    → each_below flows (node + 1) ≡ each_below flows node ++ flows node
unfolding each_below
below-more flows node =
    let size : suc node ≡ node + 1 = omega arith in sym (ap (each_below flows) size)

pub below-alike : (flows other : ℕ → List Flow) (n : ℕ)
    → ((node : ℕ) → node < n → flows node ≡ other node)
    → each_below flows n ≡ each_below other n
below-alike flows other zero same = below-none flows ∙ sym (below-none other)
below-alike flows other (suc n) same =
    let size : suc n ≡ n + 1 = omega arith in
    let rest = below-alike flows other n (λ node lt. same node (omega arith)) in
    ap (each_below flows) size ∙ below-more flows n
    ∙ (λ i. rest i ++ same n (omega arith) i)
    ∙ sym (ap (each_below other) size ∙ below-more other n)

-- ---- a list to which they are added

pub begun : (flows : ℕ → List Flow) (items : List Flow) → items ≡ items ++ each_below flows 0
begun flows items =
    sym (append-nil items) ∙ ap (λ (l : List Flow). items ++ l) (sym (below-none flows))

pub added : (flows : ℕ → List Flow) (node : ℕ) (before items after here : List Flow)
    → items ≡ before ++ each_below flows node → after ≡ items ++ here → here ≡ flows node
    → after ≡ before ++ each_below flows (node + 1)
added flows node before items after here so more is =
    more ∙ (λ i. so i ++ is i) ∙ append_assoc before (each_below flows node) (flows node)
    ∙ ap (λ (l : List Flow). before ++ l) (sym (below-more flows node))

pub ended : (flows : ℕ → List Flow) (node : ℕ) (before items : List Flow)
    → items ≡ before ++ each_below flows node → node ≡ 256
    → items ≡ before ++ each_below flows 256
ended flows node before items so e =
    so ∙ ap (λ (n : ℕ). before ++ each_below flows n) e

-- ---- the flows from a node

pub from-alike : (from : ℕ) (flow other : ℕ → ℕ) → ((to : ℕ) → to < 256 → flow to ≡ other to)
    → flows_from from flow ≡ flows_from from other
from-alike from flow other same =
    below-alike (λ to. flow_at from to (flow to)) (λ to. flow_at from to (other to)) 256
    (λ to small. ap (λ (k : ℕ). flow_at from to k) (same to small))

-- all go to one
pub to-one : (told : Told) (moved : Moved) (from : ℕ) (went : List ℕ) → from < 256
    → TellsOf moved told
    → ((k : ℕ) → k < 256 → slice_index went k
    ≡ (if slice_index moved.to from == k then slice_index moved.from from else 0))
    → flows_from from (slice_index went) ≡ flows_from from (flow_told told from)
to-one told moved from went low tells is =
    from-alike from (slice_index went) (flow_told told from) (λ to small.
    is to small
    ∙ ap (λ (n : ℕ). if n == to then slice_index moved.from from else 0) (tells.to from low)
    ∙ ap (λ (n : ℕ). if told.to from == to then n else 0) (tells.from from low))

-- ---- the whole

pub all-alike : (flow other : ℕ → ℕ → ℕ) → ((from to : ℕ) → flow from to ≡ other from to)
    → all_flows flow ≡ all_flows other
all-alike flow other same =
    below-alike (λ from. flows_from from (flow from)) (λ from. flows_from from (other from)) 256
    (λ from small. from-alike from (flow from) (other from) (λ to lt. same from to))

-- flows that were added to an empty list
pub flows-told : (sent : Sent) (found : Result LastFlows NoMemory)
    (done : Result (Unit {0}) NoMemory) (items empty : List Flow) (moved left : ℕ) → empty ≡ []
    → IfOk found (λ told. (done ≡ Ok tt) × (told.flows.items ≡ items) × (told.moved ≡ moved)
    × (told.left ≡ left))
    → IfOk done (λ it. items ≡ empty ++ all_flows sent.flow) → moved ≡ sent.moved
    → left ≡ sent.left → IfOk found (TellsSent sent)
flows-told sent (Err lack) done items empty moved left none so are gone stayed = tt
flows-told sent (Ok told) (Err lack) items empty moved left none so are gone stayed =
    absurd (both_ways false refl (ap is_ok so.0))
flows-told sent (Ok told) (Ok it) items empty moved left none so are gone stayed = record {
  flows = so.1 ∙ are ∙ ap (λ (l : List Flow). l ++ all_flows sent.flow) none;
  moved = so.2 ∙ gone;
  left = so.3 ∙ stayed;
}

-- of a move by nodes, or by a policy
pub flows-moved : (moved : Moved) (last : Last) (done : LastMove) → last ≡ went.Nodes moved
    → LastAs last done → (found : Result LastFlows NoMemory) (did : Result (Unit {0}) NoMemory)
    (items empty : List Flow) → empty ≡ []
    → IfOk found (λ told. (did ≡ Ok tt) × (told.flows.items ≡ items) × (told.moved ≡ moved.moved)
    × (told.left ≡ moved.left))
    → ((told : Told) → TellsOf moved told
    → IfOk did (λ it. items ≡ empty ++ all_flows (flow_told told)))
    → IfOk found (TellsSent (sent_last done))
flows-moved moved last done is tells found did items empty none so are =
    by done (subst (λ (l : Last). LastAs l done) is tells)
  where
    by : (at : LastMove) → LastAs (went.Nodes moved) at → IfOk found (TellsSent (sent_last at))
    by (OfNodes told) tells' = flows-told (sent_last (OfNodes told)) found did items empty
        moved.moved moved.left none so (are told tells') tells'.moved tells'.left
    by (OfPages sent) tells' = absurd tells'

pub flows-departed : (gone : Departures) (last : Last) (done : LastMove) → last ≡ went.Pages gone
    → LastAs last done → (found : Result LastFlows NoMemory) (did : Result (Unit {0}) NoMemory)
    (items empty : List Flow) → empty ≡ []
    → IfOk found (λ told. (did ≡ Ok tt) × (told.flows.items ≡ items) × (told.moved ≡ gone.moved)
    × (told.left ≡ gone.left))
    → IfOk did (λ it. items ≡ empty ++ all_flows (flow_between (spot_at gone.before)
    (spot_at gone.after)))
    → IfOk found (TellsSent (sent_last done))
flows-departed gone last done is tells found did items empty none so are =
    by done (subst (λ (l : Last). LastAs l done) is tells)
  where
    with-items : (sent : Sent) → SentAs gone sent → (it : Result (Unit {0}) NoMemory)
        → IfOk it (λ it. items ≡ empty ++ all_flows (flow_between (spot_at gone.before)
        (spot_at gone.after)))
        → IfOk it (λ it. items ≡ empty ++ all_flows sent.flow)
    with-items sent same (Err lack) so' = tt
    with-items sent same (Ok it) so' = so' ∙ ap (λ (l : List Flow). empty ++ l)
        (all-alike (flow_between (spot_at gone.before) (spot_at gone.after)) sent.flow same.flow)

    by : (at : LastMove) → LastAs (went.Pages gone) at → IfOk found (TellsSent (sent_last at))
    by (OfNodes told) tells' = absurd tells'
    by (OfPages sent) tells' = flows-told sent found did items empty gone.moved
        gone.left none so
        (with-items sent tells' did are) tells'.moved tells'.left

-- all pages of a node go to one
pub one-went : (pages to k : ℕ) → to < 256 → k < 256
    → slice_index (set (replicate 256 0) to pages) k ≡ (if to == k then pages else 0)
one-went pages to k low small =
    let long : to < length {A = ℕ} (replicate 256 0) =
    omega (arith, length-replicate {A = ℕ} 256 0, low) in
    elim (cases_eq to k) [
      | inl is ↦ rw (eq-eqb to k is, ← is)
          (get_or-set_same (replicate 256 0) to pages 0 long)
      | inr other ↦ rw (ne_eqb to k other)
          (get_or-set_other (replicate 256 0) to k pages 0 (λ is. other (sym is))
          ∙ get_or-replicate {A = ℕ} 256 k 0 0 small)
    ]
