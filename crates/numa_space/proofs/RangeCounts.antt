-- Commands that name no pages don't raise the number of ranges.
use Rattle.std.proofs.Common.{◌≡◌, ℕ, zero, suc, ◌+◌, ◌≤◌, ◌&&◌, not, eqb, Bool, true, is_some}
use Rattle.std.proofs.Common.{Option, Some, None, List, ◌∷◌, refl, ap, arith, inl, inr}
use Rattle.std.proofs.lemmas.Bool.{cases_Bool, both_ways, and_parts, and_from, not-true}
use Rattle.numa_machine.specs.Machine.{Hardware}
use Rattle.numa_mode.specs.Policy.{Specification, PolicyRecord}
use Rattle.numa_ranges.specs.Counts.{goes_on, is_start, count_pages, range_count}
use Rattle.numa_ranges.specs.Maps.{changed_page}
use Rattle.numa_space.specs.Pages.{page_in}
use Rattle.numa_space.specs.Policies.{allowed_nodes, mems_of}
use Rattle.numa_space.specs.Refusals.{PageMap, range_count_of}
use Rattle.numa_space.specs.Same.{same_record}
use Rattle.numa_space.specs.Steps.{policy_after}
use Rattle.numa_requests.specs.declared.command.Command.{Command}
use Rattle.numa_requests.specs.declared.command.Command.TheVariants.{SetTask, SetWeight, SetMems}
use Rattle.numa_space.proofs.Pages.{pages-next}
use Rattle.numa_space.proofs.Same.{same_record-exact, same_record-refl}

-- ---- counts

-- fewer pages pass where each page that passes the one test passes the other
count-fewer : (f g : ℕ → Bool) (a n : ℕ) → ((page : ℕ) → f page ≡ true → g page ≡ true)
    → count_pages f a n ≤ count_pages g a n
unfolding count_pages
count-fewer f g a zero h = omega arith
count-fewer f g a (suc n) h =
    let rest : count_pages f (a + 1) n ≤ count_pages g (a + 1) n = count-fewer f g (a + 1) n h in
    elim (cases_Bool (f a)) [
      | inl t ↦ rw (t, h a t) (omega (arith, rest))
      | inr e ↦ elim (cases_Bool (g a)) [
        | inl t ↦ rw (e, t) (omega (arith, rest))
        | inr o ↦ rw (e, o) (omega (arith, rest))
      ]
    ]

-- ---- a page where a range begins

module _ (change : Option PolicyRecord → Option PolicyRecord) where
  -- records that were equal are equal after the same change
  same-changed : (a b : Option PolicyRecord) → same_record a b ≡ true
      → same_record (change a) (change b) ≡ true
  same-changed a b same = rw (← same_record-exact a b same) (same_record-refl (change a))

  -- where a range begins after the change, one began before it
  begins-changed : (before here : Option (ℕ × Option PolicyRecord))
      → (is_some (changed_page change here)
      && not (goes_on same_record (changed_page change before) (changed_page change here))) ≡ true
      → (is_some here && not (goes_on same_record before here)) ≡ true
  begins-changed None None h = h
  begins-changed None (Some y) h = refl
  begins-changed (Some x) None h = h
  begins-changed (Some x) (Some y) h =
      elim (cases_Bool (eqb y.0 (x.0 + 1) && same_record x.1 y.1)) [
        | inl t ↦
            let parts = and_parts (eqb y.0 (x.0 + 1)) (same_record x.1 y.1) t in
            let on = and_from (eqb y.0 (x.0 + 1)) (same_record (change x.1) (change y.1)) parts.0
            (same-changed x.1 y.1 parts.1) in
            absurd (both_ways (eqb y.0 (x.0 + 1) && same_record (change x.1) (change y.1))
            (not-true _ h) on)
        | inr e ↦ rw e refl
      ]

  start-changed : (at : PageMap) (page : ℕ) → is_start same_record (λ p. changed_page change (at p))
      page ≡ true → is_start same_record at page ≡ true
  start-changed at zero h = go (at zero) h
    where
      go : (o : Option (ℕ × Option PolicyRecord)) → is_some (changed_page change o) ≡ true
          → is_some o ≡ true
      go None h = h
      go (Some p) h = refl
  start-changed at (suc page) h = begins-changed (at page) (at (suc page)) h

  count-changed : (at : PageMap) → range_count same_record (λ page. changed_page change (at page))
      ≤ range_count same_record at
  count-changed at = count-fewer _ _ 0 _ (start-changed at)

-- ---- commands

pub count-task : (machine : Hardware) (history : List Command) (task : ℕ) (spec : Specification)
    → range_count_of machine (SetTask task spec ∷ history) ≡ range_count_of machine history
count-task machine history task spec =
    let same : page_in machine (SetTask task spec ∷ history) ≡ page_in machine history = λ i page.
    pages-next machine history (SetTask task spec) page i in
    ap (λ at. range_count same_record at) same

pub count-weight : (machine : Hardware) (history : List Command) (node weight : ℕ)
    → range_count_of machine (SetWeight node weight ∷ history) ≡ range_count_of machine history
count-weight machine history node weight =
    let same : page_in machine (SetWeight node weight ∷ history) ≡ page_in machine history =
    λ i page. pages-next machine history (SetWeight node weight) page i in
    ap (λ at. range_count same_record at) same

pub count-mems : (machine : Hardware) (history : List Command) (mask : ℕ)
    → range_count_of machine (SetMems mask ∷ history) ≤ range_count_of machine history
count-mems machine history mask =
    let change : Option PolicyRecord → Option PolicyRecord =
    policy_after machine.rules (allowed_nodes machine history) (mems_of machine mask) in
    let moved : page_in machine (SetMems mask ∷ history)
    ≡ (λ page. changed_page change (page_in machine history page)) = λ i page.
    pages-next machine history (SetMems mask) page i in
    let fewer : range_count same_record (λ page. changed_page change (page_in machine history page))
    ≤ range_count same_record (page_in machine history) =
    count-changed change (page_in machine history) in
    omega (arith, fewer, ap (λ at. range_count same_record at) moved)
