-- The texts of a line, piece by piece.
use Rattle.std.proofs.Common.{◌≡◌, ℕ, zero, suc, refl, ◌+◌, ◌<◌, Bool, cond, List, [], ◌++◌, codes}
use Rattle.std.proofs.Common.{decimal, length, sym, ap, ◌∙◌, arith, append_assoc}
use Rattle.std.specs.List.{flat_map, range_with_len}
use Rattle.std.specs.Prelude.{◌==◌, if◌then◌else◌}
use Rattle.numa_machine.proofs.Nodes.{flat_map-range_more}
use Rattle.std.proofs.lemmas.Bool.{ne_eqb}
use Rattle.numa_maps.specs.Listing.{counted_text, node_text, nodes_text, pages_on, placed_text}
use Rattle.numa_maps.specs.Listing.{size_text}
use Rattle.numa_maps.specs.Residents.{Kept}

-- the nodes below a number, in a loop over them
pub nodes_below : (ℕ → ℕ) → ℕ → List ℕ
nodes_below pages n = flat_map (λ node. node_text node (pages node)) (range_with_len 0 n)

pub nodes-none : (pages : ℕ → ℕ) → nodes_below pages 0 ≡ []
unfolding nodes_below
nodes-none pages = refl

pub nodes-more : (pages : ℕ → ℕ) (n : ℕ) → nodes_below pages (n + 1) ≡ nodes_below pages n
    ++ node_text n (pages n)
unfolding nodes_below
nodes-more pages n = flat_map-range_more (λ node. node_text node (pages node)) n

pub nodes-all : (pages : ℕ → ℕ) (n : ℕ) → n ≡ 256 → nodes_below pages n ≡ nodes_text pages
unfolding nodes_below nodes_text
nodes-all pages n e =
    ap (λ (k : ℕ). flat_map (λ node. node_text node (pages node)) (range_with_len 0 k)) e

-- counts that are equal below 256 make one text
pub nodes-same : (p q : ℕ → ℕ) (n : ℕ) → ((node : ℕ) → node < n → p node ≡ q node)
    → nodes_below p n ≡ nodes_below q n
nodes-same p q zero same = nodes-none p ∙ sym (nodes-none q)
nodes-same p q (suc n) same =
    let here : p n ≡ q n = same n (omega arith) in
    let next : suc n ≡ n + 1 = omega arith in
    ap (nodes_below p) next ∙ nodes-more p n
    ∙ (λ i. nodes-same p q n (λ node lt. same node (omega arith)) i ++ node_text n (here i))
    ∙ sym (nodes-more q n) ∙ ap (nodes_below q) (sym next)

pub texts-same : (p q : ℕ → ℕ) → ((node : ℕ) → node < 256 → p node ≡ q node)
    → nodes_text p ≡ nodes_text q
texts-same p q same = sym (nodes-all p 256 refl) ∙ nodes-same p q 256 same ∙ nodes-all q 256 refl

-- ---- the placed pages of a range

-- counts that are those of placements make the text of these
pub counted-same : (huge : Bool) (count : ℕ) (pages : ℕ → ℕ) (placed : Kept) → count ≡ length placed
    → ((node : ℕ) → node < 256 → pages node ≡ pages_on placed node)
    → counted_text huge count pages ≡ placed_text huge placed
counted-same huge count pages placed is by_node =
    let nodes : nodes_text pages ≡ nodes_text (pages_on placed) =
    texts-same pages (pages_on placed) by_node in
    λ i. if is i == 0 then [] else codes " anon=" ++ decimal (is i) ++ nodes i ++ size_text huge

-- the words of counted pages, written one after another
pub counted-some : (huge : Bool) (old : List ℕ) (count : ℕ) (pages : ℕ → ℕ) → 0 < count
    → old ++ codes " anon=" ++ decimal count ++ nodes_text pages ++ size_text huge
    ≡ old ++ counted_text huge count pages
counted-some huge old count pages some =
    let first : List ℕ = codes " anon=" ++ decimal count in
    let named : List ℕ = first ++ nodes_text pages in
    let whole : List ℕ = named ++ size_text huge in
    let text : counted_text huge count pages ≡ whole =
    ap (λ (b : Bool). cond b [] whole) (ne_eqb count 0 (λ e. omega (arith, some, e))) in
    ap (λ x. x ++ nodes_text pages ++ size_text huge)
    (append_assoc old (codes " anon=") (decimal count))
    ∙ ap (λ x. x ++ size_text huge) (append_assoc old first (nodes_text pages))
    ∙ append_assoc old named (size_text huge)
    ∙ ap (λ x. old ++ x) (sym text)
