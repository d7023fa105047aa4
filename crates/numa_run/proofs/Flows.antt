-- Where the pages of each node went, said one node after the other.
use Rattle.std.proofs.Common.{◌≡◌, ℕ, zero, suc, ◌+◌, ◌<◌, List, [], ◌++◌, refl, ap, sym, ◌∙◌}
use Rattle.std.proofs.Common.{arith}
use Rattle.std.proofs.Common.{subst}
use Rattle.std.specs.List.{flat_map, range_with_len}
use Rattle.numa_machine.proofs.Nodes.{flat_map-range_more}
use Rattle.std.specs.Prelude.{◌==◌, codes, decimal, if◌then◌else◌, slice_index}
use Rattle.numa_placed.specs.declared.moved.Moved.{Moved}
use Rattle.numa_page_state.specs.Lying.{LastMove, OfNodes, OfPages, Sent, Told}
use Rattle.numa_page_state.specs.Standing.{LastAs, SentAs, TellsOf, sent_by, told_in}
use Rattle.numa_huge.specs.Moves.{HugeTold}
use Rattle.numa_huge.specs.Tallies.{HasTold, flow_of, left_of, moved_of}
use Rattle.numa_huge.specs.declared.last.HugeLast.{HugeLast}
use Rattle.numa_run.specs.MovedTexts.{added_line, all_flows_text, flow_of_last, flow_text}
use Rattle.numa_run.specs.MovedTexts.{flows_text, last_line, last_of, left_last, moved_last}
use Rattle.numa_run.specs.MovedTexts.{told_line}
use Rattle.numa_script.specs.PageTexts.{moved_words}
use Rattle.numa_page_state.specs.declared.last.Departures.{Departures}
use Rattle.numa_page_state.specs.declared.last.Last.{Last}
use Rattle.numa_page_state.specs.declared.last.Last.TheVariants as went
use Rattle.numa_run.proofs.Telling.{all-alike}

-- the nodes below a number
pub flows_below : (ℕ → ℕ) → (ℕ → ℕ) → ℕ → List ℕ
flows_below from to n = flat_map (λ node. flow_text node (from node) (to node)) (range_with_len 0 n)

pub flows-none : (from to : ℕ → ℕ) → flows_below from to 0 ≡ []
unfolding flows_below
flows-none from to = refl

pub flows-more : (from to : ℕ → ℕ) (n : ℕ) → flows_below from to (n + 1)
    ≡ flows_below from to n ++ flow_text n (from n) (to n)
unfolding flows_below
flows-more from to n = flat_map-range_more (λ node. flow_text node (from node) (to node)) n

pub flows-all : (from to : ℕ → ℕ) (n : ℕ) → n ≡ 256 → flows_below from to n ≡ flows_text from to
unfolding flows_below flows_text
flows-all from to n e =
    ap (λ (k : ℕ). flat_map (λ node. flow_text node (from node) (to node)) (range_with_len 0 k)) e

flows-alike : (from from' to to' : ℕ → ℕ) (n : ℕ)
    → ((node : ℕ) → node < n → from node ≡ from' node)
    → ((node : ℕ) → node < n → to node ≡ to' node)
    → flows_below from to n ≡ flows_below from' to' n
flows-alike from from' to to' zero same same' = flows-none from to ∙ sym (flows-none from' to')
flows-alike from from' to to' (suc n) same same' =
    let size : suc n ≡ n + 1 = omega arith in
    let rest = flows-alike from from' to to' n (λ node lt. same node (omega arith))
    (λ node lt. same' node (omega arith)) in
    let here = same n (omega arith) in
    let there = same' n (omega arith) in
    ap (flows_below from to) size ∙ flows-more from to n
    ∙ ap (λ (l : List ℕ). l ++ flow_text n (from n) (to n)) rest
    ∙ ap (λ (k : ℕ). flows_below from' to' n ++ flow_text n k (to n)) here
    ∙ ap (λ (k : ℕ). flows_below from' to' n ++ flow_text n (from' n) k) there
    ∙ sym (ap (flows_below from' to') size ∙ flows-more from' to' n)

pub flows-same : (from from' to to' : ℕ → ℕ)
    → ((node : ℕ) → node < 256 → from node ≡ from' node)
    → ((node : ℕ) → node < 256 → to node ≡ to' node)
    → flows_text from to ≡ flows_text from' to'
flows-same from from' to to' same same' =
    sym (flows-all from to 256 refl) ∙ flows-alike from from' to to' 256 same same'
    ∙ flows-all from' to' 256 refl

-- what is told of a move, said
pub last-same : (version : ℕ) (moved : Moved) (told : Told) → TellsOf moved told
    → last_line version (OfNodes (told_in moved)) ≡ last_line version (OfNodes told)
last-same version moved told tells =
    let words = ap (λ (k : ℕ). moved_words k moved.left) tells.moved
    ∙ ap (λ (k : ℕ). moved_words told.moved k) tells.left in
    let flows = flows-same (slice_index moved.from) told.from (slice_index moved.to) told.to
    tells.from tells.to in
    ap (λ (w : List ℕ). codes "v" ++ decimal version ++ codes ": " ++ w
    ++ flows_text (slice_index moved.from) (slice_index moved.to) ++ codes "\n") words
    ∙ ap (λ (f : List ℕ). codes "v" ++ decimal version ++ codes ": "
    ++ moved_words told.moved told.left ++ f ++ codes "\n") flows

pub sent-same : (version : ℕ) (done : Departures) (sent : Sent) → SentAs done sent
    → last_line version (OfPages (sent_by done)) ≡ last_line version (OfPages sent)
sent-same version done sent tells =
    let flows : all_flows_text (sent_by done).flow ≡ all_flows_text sent.flow =
    all-alike (sent_by done).flow sent.flow (λ from to low high. tells.flow from to) in
    λ i. told_line version (tells.moved i) (tells.left i) (flows i)

-- the last move, said
pub nodes-told : (version : ℕ) (moved : Moved) (last : Last) (done : LastMove)
    → last ≡ went.Nodes moved → LastAs last done
    → last_line version (OfNodes (told_in moved)) ≡ last_line version done
nodes-told version moved last done is tells =
    by done (subst (λ (l : Last). LastAs l done) is tells)
  where
    by : (at : LastMove) → LastAs (went.Nodes moved) at
        → last_line version (OfNodes (told_in moved)) ≡ last_line version at
    by (OfNodes told) so = last-same version moved told so
    by (OfPages sent) so = absurd so

pub pages-told : (version : ℕ) (gone : Departures) (last : Last) (done : LastMove)
    → last ≡ went.Pages gone → LastAs last done
    → last_line version (OfPages (sent_by gone)) ≡ last_line version done
pages-told version gone last done is tells =
    by done (subst (λ (l : Last). LastAs l done) is tells)
  where
    by : (at : LastMove) → LastAs (went.Pages gone) at
        → last_line version (OfPages (sent_by gone)) ≡ last_line version at
    by (OfNodes told) so = absurd so
    by (OfPages sent) so = sent-same version gone sent so

-- ---- of pages of both sizes

-- how many went from a node to another is told so
by-node : (moved : Moved) (told : Told) → TellsOf moved told → (from to : ℕ) → from < 256
    → flow_of_last (OfNodes (told_in moved)) from to ≡ flow_of_last (OfNodes told) from to
by-node moved told tells from to low =
    ap (λ (n : ℕ). if n == to then slice_index moved.from from else 0) (tells.to from low)
    ∙ ap (λ (n : ℕ). if told.to from == to then n else 0) (tells.from from low)

pub small-flows : (last : Last) (done : LastMove) → LastAs last done → (from to : ℕ) → from < 256
    → flow_of_last (last_of last) from to ≡ flow_of_last done from to
small-flows (went.Nodes moved) (OfNodes told) tells from to low = by-node moved told tells from to
    low
small-flows (went.Nodes moved) (OfPages sent) tells from to low = absurd tells
small-flows (went.Pages gone) (OfNodes told) tells from to low = absurd tells
small-flows (went.Pages gone) (OfPages sent) tells from to low = tells.flow from to

pub moved-told : (last : Last) (done : LastMove) → LastAs last done
    → moved_last (last_of last) ≡ moved_last done
moved-told (went.Nodes moved) (OfNodes told) tells = tells.moved
moved-told (went.Nodes moved) (OfPages sent) tells = absurd tells
moved-told (went.Pages gone) (OfNodes told) tells = absurd tells
moved-told (went.Pages gone) (OfPages sent) tells = tells.moved

pub left-told : (last : Last) (done : LastMove) → LastAs last done
    → left_last (last_of last) ≡ left_last done
left-told (went.Nodes moved) (OfNodes told) tells = tells.left
left-told (went.Nodes moved) (OfPages sent) tells = absurd tells
left-told (went.Pages gone) (OfNodes told) tells = absurd tells
left-told (went.Pages gone) (OfPages sent) tells = tells.left

-- what is kept of both, said
pub added-told : (version : ℕ) (last : Last) (done : LastMove) (huge : HugeLast)
    (told : HugeTold) → LastAs last done → HasTold huge told
    → told_line version (moved_last (last_of last) + moved_of huge)
    (left_last (last_of last) + left_of huge)
    (all_flows_text (λ from to. flow_of_last (last_of last) from to + flow_of huge from to))
    ≡ added_line version done told
added-told version last done huge told lasts has =
    let moved = moved-told last done lasts in
    let left = left-told last done lasts in
    let flows = all-alike
    (λ from to. flow_of_last (last_of last) from to + flow_of huge from to)
    (λ from to. flow_of_last done from to + told.flow from to)
    (λ from to low high. λ i. small-flows last done lasts from to low i
    + has.flow from to low high i) in
    λ i. told_line version (moved i + has.moved i) (left i + has.left i) (flows i)
