use Rattle.std.proofs.Common.{◌≡◌, ◌≢◌, ℕ, Option, Some, Result, Ok, Err, OnOk, OnErr, ap, sym, ◌∙◌}
use native.Mathlib.Decide.{ℕ_discrete}
use Rattle.std.specs.Option.{ForSome}
use Rattle.numa_requests.specs.declared.placement.Placement.{Placement}
use Rattle.numa_maps.specs.Residents.{Kept, placed_at}
use Rattle.numa_maps.proofs.resident.Resident.record.Goals as goal

same_some : (a b : Placement) → ◌≡◌ {A = Option Placement} (Some a) (Some b) → a ≡ b
same_some a b e = cc

-- each placement still names its page, whether one more was put or not
keeps-own : {T E : Type 0} (r : Result T E) (old new : Kept) (placement : Placement)
    → OnOk r (placed_at new placement.page ≡ Some placement)
    → OnOk r ((page : ℕ) → page ≢ placement.page → placed_at new page ≡ placed_at old page)
    → OnErr r (new ≡ old) → ((page : ℕ) → ForSome (placed_at old page) (λ p. p.page ≡ page))
    → (page : ℕ) → ForSome (placed_at new page) (λ p. p.page ≡ page)
keeps-own (Ok u) old new placement kept others same own page = by (ℕ_discrete page placement.page)
  where
    by : Dec (page ≡ placement.page) → ForSome (placed_at new page) (λ p. p.page ≡ page)
    by (yes e) x is =
        ap (λ (p : Placement). p.page)
        (same_some x placement (sym is ∙ (ap (placed_at new) e ∙ kept))) ∙ sym e
    by (no ne) x is = own page x (sym (others page ne) ∙ is)
keeps-own (Err e) old new placement kept others same own page = λ x is.
    own page x (ap (λ (k : Kept). placed_at k page) (sym same) ∙ is)

pub invariant_of-self : goal.invariant_of-self
invariant_of-self c = record {
  own = keeps-own c.put.result c.self.inside.placements.entries c.put.new.placements.entries
      c.args.placement c.put.ensures.kept c.put.ensures.others c.put.ensures.unchanged
      c.self.invariant.own;
  rising = c.put.ensures.rising;
}
