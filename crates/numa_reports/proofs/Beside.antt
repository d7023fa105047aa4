-- What pages take that aren't there yet, beside those that are.
use Rattle.std.proofs.Common.{◌≡◌, ℕ, zero, suc, ◌+◌, ◌-◌, ◌<◌, ◌≤◌, ◌^◌, Bool, true, false}
use Rattle.std.proofs.Common.{Option, Some, None, is_some, List, [], get_or, refl, sym, ap, ◌∙◌, arith, cond, eqb}
use Rattle.std.specs.Borrow.{Bor}
use Rattle.numa_placed.specs.Spots.{is_on, node_of, spot_at}
use Rattle.numa_placed.specs.declared.spot.Spot.{Spot}
use Rattle.numa_placed.proofs.Shared.{count-le}
use Rattle.numa_placed.specs.Laid.{Laid}
use Rattle.numa_reports.specs.Filled.{first_free, free_behind, one_less}
use Rattle.numa_reports.specs.Lying.{absent_nodes, alike_left, there_on}
use Rattle.numa_reports.proofs.Repeating.{hit, less-at}
use Rattle.numa_reports.proofs.Taking.{free-none}

-- lists that are the same take the same
free-same : (f g : ℕ → List ℕ) (free : List ℕ) (a n : ℕ)
    → ((page : ℕ) → a ≤ page → page < a + n → f page ≡ g page)
    → free_behind f free a n ≡ free_behind g free a n
unfolding free_behind
free-same f g free a zero same = refl
free-same f g free a (suc n) same =
    ap (λ (l : List ℕ). free_behind f (one_less free (first_free free l)) (a + 1) n)
    (same a (omega arith) (omega arith))
    ∙ free-same f g (one_less free (first_free free (g a))) (a + 1) n
    (λ page low high. same page (omega (arith, low)) (omega (arith, high)))

-- pages that lie alike
pub alike-free : (spots : ℕ → Spot) (nodes : ℕ → List ℕ) (free : List ℕ) (a n : ℕ)
    (there : Option ℕ)
    → ((page : ℕ) → a ≤ page → page < a + n → node_of (spots page) ≡ there)
    → alike_left there nodes free a n ≡ free_behind (absent_nodes spots nodes) free a n
alike-free spots nodes free a n None same =
    free-same nodes (absent_nodes spots nodes) free a n
    (λ page low high. sym (ap (λ (o : Option ℕ). cond (is_some o) [] (nodes page))
    (same page low high)))
alike-free spots nodes free a n (Some there) same =
    sym (free-none (absent_nodes spots nodes) free a n
    (λ page low high. ap (λ (o : Option ℕ). cond (is_some o) [] (nodes page))
    (same page low high)))

hit-one : (took : Option ℕ) (x : ℕ) → hit took x ≤ 1
hit-one None x = omega arith
hit-one (Some node) x = go (eqb node x)
  where
    go : (b : Bool) → cond {A = ℕ} b 1 0 ≤ 1
    go true = omega arith
    go false = omega arith

-- a node gives no more than there are pages
few-taken : (nodes : ℕ → List ℕ) (free : List ℕ) (a n x : ℕ)
    → get_or free x 0 ≤ get_or (free_behind nodes free a n) x 0 + n
unfolding free_behind
few-taken nodes free a zero x = omega arith
few-taken nodes free a (suc n) x =
    let took : Option ℕ = first_free free (nodes a) in
    omega (
      arith,
      few-taken nodes (one_less free took) (a + 1) n x,
      less-at free took x,
      hit-one took x,
    )

there-few : (placed : Option (Bor Laid)) (first pages node : ℕ)
    → there_on placed first pages node ≤ pages
there-few None first pages node = omega arith
there-few (Some placed) first pages node =
    count-le (λ page. is_on node (spot_at placed.now page)) first pages

-- so both together are a word
pub both-fit : (placed : Option (Bor Laid)) (nodes : ℕ → List ℕ)
    (free left : List ℕ) (first pages node : ℕ) → left ≡ free_behind nodes free first pages
    → first + pages ≤ 2 ^ 35
    → there_on placed first pages node + (get_or free node 0 - get_or left node 0) < 2 ^ 64
both-fit placed nodes free left first pages node is small =
    omega (
      arith,
      small,
      there-few placed first pages node,
      few-taken nodes free first pages node,
      ap (λ (l : List ℕ). get_or l node 0) is,
    )
