-- Where pages of a process lie, and what is told where none was touched or stated to lie anywhere.
use Rattle.std.proofs.Common.{◌≡◌, ℕ, ◌^◌, ◌<◌, ap, sym, ◌∙◌}
use Rattle.std.proofs.lemmas.Simd.{get_or-replicate}
use Rattle.std.specs.Prelude.{replicate, slice_index}
use Rattle.numa_placed.specs.Spots.{is_on, pages_where}
use Rattle.numa_placed.specs.declared.spot.Spot.{Spot}
use Rattle.numa_placed.specs.declared.spot.Spot.TheVariants.{Nowhere}
use Rattle.numa_ranges.proofs.Counted.{count-none}

-- none lies on a node
pub none-lies : (spots : ℕ → Spot) → ((page : ℕ) → spots page ≡ Nowhere) → (node : ℕ)
    → node < 256 → slice_index (replicate 256 0) node ≡ pages_where (is_on node) spots
none-lies spots none node small =
    get_or-replicate {A = ℕ} 256 node 0 0 small
    ∙ sym (count-none (λ page. is_on node (spots page)) 0 (2 ^ 35)
    (λ page low high. ap (is_on node) (none page)))
