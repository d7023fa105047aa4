-- The listing of the pages that are there, line by line.
use Rattle.std.proofs.Common.{◌≡◌, ℕ, zero, suc, ◌+◌, ◌<◌, ◌^◌, ◌==◌, Option, List, []}
use Rattle.std.proofs.Common.{◌∷◌, ◌++◌, codes, decimal, refl, sym, ap, ◌∙◌, arith}
use Rattle.std.proofs.Common.{append_assoc, subst, ◌≤◌, Bor}
use Rattle.std.specs.Option.{option_copied}
use Rattle.std.specs.Prelude.{MatchOption, None, Some, false, true, if◌then◌else◌}
use Rattle.numa_mode.specs.Policy.{PolicyRecord}
use Rattle.numa_ranges.specs.Runs.{AreApart, AreMaximal, end_of}
use Rattle.numa_ranges.specs.declared.run.Run.{Run}
use Rattle.numa_space.proofs.Lists.{policy-same}
use Rattle.numa_space.specs.Pages.{page_in, resolved_policy}
use Rattle.numa_space.proofs.Same.{same_record-exact, same_record-refl}
use Rattle.numa_space.specs.Same.{same_record}
use Rattle.numa_space.specs.Standing.{SpaceState, StandsFor, policy_in}
use Rattle.numa_requests.specs.declared.command.Command.{Command}
use Rattle.numa_huge.specs.Moves.{HugeMemory}
use Rattle.numa_maps.specs.Listing.{address_text, counted_line, huge_line, node_text, nodes_text}
use Rattle.numa_maps.specs.Listing.{policy_or_default, size_text}
use Rattle.numa_machine.proofs.Nodes.{flat_map-range_more}
use Rattle.numa_ranges.proofs.Apart.{apart-top}
use Rattle.std.specs.List.{flat_map, range_with_len}
use Rattle.numa_maps.specs.Residents.{Kept}
use Rattle.numa_placed.specs.Shifts.{sum_below}
use Rattle.numa_page_state.specs.Lying.{Lying}
use Rattle.numa_page_state.specs.Standing.{LieThere, Lies}
use Rattle.numa_page_state.specs.declared.state.PageState.{PageState}
use Rattle.numa_placed.specs.declared.spot.Spot.{Spot}
use Rattle.numa_placed.specs.declared.spot.Spot.TheVariants.{Nowhere}
use Rattle.numa_run.proofs.Listed.{joined-singles}
use Rattle.numa_run.specs.Ranges.{ranges_of}
use Rattle.numa_run.specs.Listings.{both_listing, either_line, either_lines, there_line}
use Rattle.numa_run.specs.Listings.{there_lines, there_listing}

-- ---- nodes

-- the nodes below a number
nodes_below : (ℕ → ℕ) → ℕ → List ℕ
nodes_below pages n = flat_map (λ node. node_text node (pages node)) (range_with_len 0 n)

nodes-none : (pages : ℕ → ℕ) → nodes_below pages 0 ≡ []
unfolding nodes_below
nodes-none pages = refl

nodes-more : (pages : ℕ → ℕ) (n : ℕ) → nodes_below pages (n + 1) ≡ nodes_below pages n
    ++ node_text n (pages n)
unfolding nodes_below
nodes-more pages n = flat_map-range_more (λ node. node_text node (pages node)) n

nodes-all : (pages : ℕ → ℕ) → nodes_below pages 256 ≡ nodes_text pages
unfolding nodes_below nodes_text
nodes-all pages = refl

nodes-same : (p q : ℕ → ℕ) (n : ℕ) → ((node : ℕ) → node < n → p node ≡ q node)
    → nodes_below p n ≡ nodes_below q n
nodes-same p q zero same = nodes-none p ∙ sym (nodes-none q)
nodes-same p q (suc n) same =
    let here : p n ≡ q n = same n (omega arith) in
    let next : suc n ≡ n + 1 = omega arith in
    ap (nodes_below p) next ∙ nodes-more p n
    ∙ (λ i. nodes-same p q n (λ node lt. same node (omega arith)) i ++ node_text n (here i))
    ∙ sym (nodes-more q n) ∙ ap (nodes_below q) (sym next)

texts-same : (p q : ℕ → ℕ) → ((node : ℕ) → node < 256 → p node ≡ q node)
    → nodes_text p ≡ nodes_text q
texts-same p q same = sym (nodes-all p) ∙ nodes-same p q 256 same ∙ nodes-all q

-- ---- ranges

pub apart-next : (from : ℕ) (range : Run (Option PolicyRecord))
    (left rest : List (Run (Option PolicyRecord))) → left ≡ range ∷ rest → AreApart from left
    → AreApart (end_of range) rest × (end_of range ≤ 2 ^ 35)
apart-next from range left rest e apart =
    let whole : AreApart from (range ∷ rest) =
    subst (λ (ranges : List (Run (Option PolicyRecord))). AreApart from ranges) e apart in
    (whole.3, apart-top (end_of range) rest whole.3)

-- ---- lines

pub sum-same : (n : ℕ) (f g : ℕ → ℕ) → ((node : ℕ) → node < n → f node ≡ g node)
    → sum_below n f ≡ sum_below n g
unfolding sum_below
sum-same zero f g same = refl
sum-same (suc n) f g same =
    λ i. sum-same n f g (λ node lt. same node (omega arith)) i + same n (omega arith) i

-- counts that are equal make one line
pub line-same : (policy : Option PolicyRecord) (first count other : ℕ) (p q : ℕ → ℕ)
    → count ≡ other → ((node : ℕ) → node < 256 → p node ≡ q node)
    → counted_line policy first count p ≡ counted_line policy first other q
line-same policy first count other p q is same =
    let nodes = texts-same p q same in
    λ i. address_text first ++ codes " " ++ policy_or_default policy
    ++ (if is i == 0 then [] else codes " anon=" ++ decimal (is i) ++ nodes i
    ++ size_text false) ++ codes "\n"

-- one line more went out
pub line-next : (policy_of : ℕ → Option PolicyRecord) (kept : Kept) (spots : ℕ → Spot)
    (all sent line : List ℕ) (range : Run (Option PolicyRecord))
    (left rest : List (Run (Option PolicyRecord)))
    → all ≡ sent ++ there_lines policy_of kept spots left → left ≡ range ∷ rest
    → line ≡ there_line (policy_of range.first) kept spots range
    → all ≡ (sent ++ line) ++ there_lines policy_of kept spots rest
line-next policy_of kept spots all sent line range left rest so_far e text =
    so_far ∙ ap (λ (ranges : List (Run (Option PolicyRecord))). sent
    ++ there_lines policy_of kept spots ranges) e
    ∙ ap (λ x. sent ++ (x ++ there_lines policy_of kept spots rest)) (sym text)
    ∙ sym (append_assoc sent line (there_lines policy_of kept spots rest))

-- the listing of what a space holds is that of its process
pub there-same : (space : SpaceState) (history : List Command) (task : ℕ) (kept : Kept)
    (spots : ℕ → Spot) → StandsFor space history → AreApart 0 space.ranges
    → AreMaximal space.ranges
    → there_lines (policy_in space task) kept spots space.ranges ≡ there_listing (record {
      machine = space.machine;
      bounds = space.bounds;
      history = history;
      kept = kept;
    }) spots task
unfolding ranges_of
there-same space history task kept spots stands apart maximal =
    let ranges = joined-singles same_record same_record-exact same_record-refl space.ranges
    (page_in space.machine history) (2 ^ 35) refl apart maximal stands.pages in
    let policies : policy_in space task ≡ resolved_policy space.machine history task = λ i page.
    policy-same space history task page stands i in
    λ i. there_lines (policies i) kept spots (sym ranges i)

-- what is kept lies where the state says
pub lie-there : (held : Option (Bor PageState)) (pages : Option PageState) (lying : Lying)
    → option_copied held ≡ pages → Lies pages lying
    → MatchOption held ((page : ℕ) → lying.spots page ≡ Nowhere)
    (λ kept. LieThere kept.now lying.spots)
lie-there None pages lying same lies = λ page.
    ap (λ (l : Lying). l.spots page)
    (subst (λ (p : Option PageState). Lies p lying) (sym same) lies)
lie-there (Some kept) pages lying same lies =
    (subst (λ (p : Option PageState). Lies p lying) (sym same) lies).spots

-- ---- beside pages of 2 MiB

-- counts that are equal make one line
pub huge-same : (policy : Option PolicyRecord) (first count other : ℕ) (p q : ℕ → ℕ)
    → count ≡ other → ((node : ℕ) → node < 256 → p node ≡ q node)
    → huge_line policy first count p ≡ huge_line policy first other q
huge-same policy first count other p q is same =
    let nodes = texts-same p q same in
    λ i. address_text first ++ codes " " ++ policy_or_default policy ++ codes " huge"
    ++ (if is i == 0 then [] else codes " anon=" ++ decimal (is i) ++ nodes i
    ++ size_text true) ++ codes "\n"

-- one line more went out
pub either-next : (policy_of : ℕ → Option PolicyRecord) (kept : Kept) (spots : ℕ → Spot)
    (memory : HugeMemory) (all sent line : List ℕ) (range : Run (Option PolicyRecord))
    (left rest : List (Run (Option PolicyRecord)))
    → all ≡ sent ++ either_lines policy_of kept spots memory left → left ≡ range ∷ rest
    → line ≡ either_line memory (policy_of range.first) kept spots range
    → all ≡ (sent ++ line) ++ either_lines policy_of kept spots memory rest
either-next policy_of kept spots memory all sent line range left rest so_far e text =
    so_far ∙ ap (λ (ranges : List (Run (Option PolicyRecord))). sent
    ++ either_lines policy_of kept spots memory ranges) e
    ∙ ap (λ x. sent ++ (x ++ either_lines policy_of kept spots memory rest)) (sym text)
    ∙ sym (append_assoc sent line (either_lines policy_of kept spots memory rest))

-- the listing of what a space holds is that of its process
pub each-same : (space : SpaceState) (history : List Command) (task : ℕ) (kept : Kept)
    (spots : ℕ → Spot) (memory : HugeMemory) → StandsFor space history
    → AreApart 0 space.ranges → AreMaximal space.ranges
    → either_lines (policy_in space task) kept spots memory space.ranges ≡ both_listing (record {
      machine = space.machine;
      bounds = space.bounds;
      history = history;
      kept = kept;
    }) spots (Some memory) task
unfolding ranges_of
each-same space history task kept spots memory stands apart maximal =
    let ranges = joined-singles same_record same_record-exact same_record-refl space.ranges
    (page_in space.machine history) (2 ^ 35) refl apart maximal stands.pages in
    let policies : policy_in space task ≡ resolved_policy space.machine history task = λ i page.
    policy-same space history task page stands i in
    λ i. either_lines (policies i) kept spots memory (sym ranges i)
