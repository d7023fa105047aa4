use Rattle.std.proofs.Common.{◌≡◌, ℕ, false, refl, ap, sym, ◌∙◌, arith}
use Rattle.std.proofs.lemmas.Simd.{get_or-replicate}
use Rattle.numa_placed.proofs.Shared.{count-le}
use Rattle.numa_placed.specs.Laid.{Laid}
use Rattle.numa_placed.specs.Spots.{is_on, pages_within, spot_at}
use Rattle.numa_placed.specs.declared.spot.Spot.{Spot}
use Rattle.numa_placed.specs.declared.spot.Spot.TheVariants.{Nowhere}
use Rattle.numa_ranges.proofs.Counted.{count-none}
use Rattle.numa_run.specs.Listings.{stated_in}
use Rattle.numa_run.proofs.listing.stated_in.Goals as goal

pub returns-in-None-clause-counts : goal.returns-in-None-clause-counts
returns-in-None-clause-counts c = rw c.in-None.is (λ spots none node small.
    let nowhere : spots ≡ (λ page. Nowhere) = λ i page. none page i in
    get_or-replicate {A = ℕ} 256 node 0 0 small
    ∙ sym (ap (λ (s : ℕ → Spot). stated_in s c.args.range.now node) nowhere
    ∙ count-none (λ page. false) c.args.range.now.first c.args.range.now.pages
    (λ page low high. refl)))

pub returns-in-None-clause-few : goal.returns-in-None-clause-few
returns-in-None-clause-few c node small =
    omega (arith, get_or-replicate {A = ℕ} 256 node 0 0 small)

pub returns-in-Some-clause-counts : goal.returns-in-Some-clause-counts
returns-in-Some-clause-counts c = rw c.in-Some.is (λ spots lies node small.
    let alike : spot_at c.placed.result.now ≡ spots =
    ap (λ (runs : Laid). spot_at runs) c.placed.ensures.same
    ∙ (λ i page. lies page i) in
    c.counts_in.ensures node small
    ∙ ap (λ (s : ℕ → Spot). pages_within (is_on node) s c.args.range.now.first
    c.args.range.now.pages) alike)

pub returns-in-Some-clause-few : goal.returns-in-Some-clause-few
returns-in-Some-clause-few c node small =
    omega (
      arith,
      c.counts_in.ensures node small,
      count-le (λ page. is_on node (spot_at c.placed.result.now page)) c.args.range.now.first
          c.args.range.now.pages,
      c.requires,
    )
