use Rattle.std.proofs.Common.{◌≡◌, ℕ, ◌+◌, ◌-◌, ◌<◌, ◌≤◌, ◌∙◌, ap, arith, inl, inr, min, sym}
use Rattle.std.specs.Prelude.{◌^◌, nat_lt, sum}
use Rattle.std.proofs.lemmas.Bool.{cases_lt, le-ltb, lt-ltb}
use Rattle.numa_pools.specs.Pools.{PoolCounts, unreserved}
use Rattle.numa_pools.proofs.Keeping.{frees-fit, totals-fit}
use Rattle.numa_pools.proofs.pools.Pools.lacks_unreserved.Goals as goal

-- what is reserved is taken from the one, or added to the other
moved : (free reserved pages most asked : ℕ) → reserved ≤ free → free < most
    → asked ≡ min (pages + reserved) most
    → nat_lt free asked ≡ nat_lt (free - reserved) pages
moved free reserved pages most asked within small is = elim (cases_lt (free - reserved) pages) [
  | inl l ↦ lt-ltb free asked (omega (arith, within, small, is, l))
      ∙ sym (lt-ltb (free - reserved) pages l)
  | inr l ↦ le-ltb free asked (omega (arith, within, small, is, l))
      ∙ sym (le-ltb (free - reserved) pages l)
]

pub are_fewer-requires : goal.are_fewer-requires
are_fewer-requires c =
    omega (arith, totals-fit _ c.self.invariant, frees-fit _ c.self.invariant)

pub returns : goal.returns
returns c =
    c.are_fewer.ensures
    ∙ moved (sum c.self.inside.free) c.self.inside.reserved c.args.pages (2 ^ 64 - 1)
    c.saturating_add-asked.result c.self.invariant.reserved
    (omega (arith, totals-fit _ c.self.invariant, frees-fit _ c.self.invariant))
    c.saturating_add-asked.ensures
    ∙ ap (λ (p : PoolCounts). nat_lt (unreserved p) c.args.pages) c.self.view_is
