-- Routes that compare as equal are one, so that what is counted for one is counted for no other.
use Rattle.std.proofs.Common.{◌≡◌, ◌==◌, ℕ, Bool, true, Option, Some, None, List, refl, ap, ◌∙◌}
use Rattle.std.proofs.Common.{inl, inr}
use Rattle.std.specs.Prelude.{nat_lt, unwrap_or, if◌then◌else◌}
use Rattle.std.specs.BTreeMap.{is_at}
use Rattle.std.specs.Map.{lookup}
use Rattle.std.specs.Option.{option_cmp}
use Rattle.std.specs.Ordering.{nat_cmp, ordering_then, is_eq}
use Rattle.std.specs.declared.cmp.Ordering.{Ordering}
use Rattle.std.specs.declared.cmp.Ordering.TheVariants.{Less, Equal, Greater}
use Rattle.std.proofs.lemmas.Bool.{cases_Bool, eqb-true}
use Rattle.numa_traces.specs.Tallies.{Route, route_cmp, is_route, tally_at, with_accesses}
use Rattle.numa_traces.specs.Tallies.{no_accesses}
use Rattle.numa_traces.specs.Tallies.{Counts}
use Rattle.numa_traces.specs.declared.tallies.AccessCounts.{AccessCounts}

then-equal : (o p : Ordering) → is_eq (ordering_then o p) ≡ true → (is_eq o ≡ true)
    × (is_eq p ≡ true)
then-equal Less p h = absurd (cc)
then-equal Equal p h = (refl, h)
then-equal Greater p h = absurd (cc)

nat-equal : (x y : ℕ) → is_eq (nat_cmp x y) ≡ true → x ≡ y
nat-equal x y h = elim (cases_Bool (nat_lt x y)) [
  | inl t ↦ let no : is_eq Less ≡ true = rw t at h in absurd (cc)
  | inr f ↦ elim (cases_Bool (x == y)) [
    | inl same ↦ eqb-true x y same
    | inr other ↦ let no : is_eq Greater ≡ true = rw (f, other) at h in absurd (cc)
  ]
]

option-equal : (x y : Option ℕ) → is_eq (option_cmp nat_cmp x y) ≡ true → x ≡ y
option-equal None None h = refl
option-equal None (Some y) h = absurd (cc)
option-equal (Some x) None h = absurd (cc)
option-equal (Some x) (Some y) h = ap Some (nat-equal x y h)

pub route-same : (a b : Route) → is_route a b ≡ true → a ≡ b
route-same a b h =
    let last = then-equal (ordering_then (nat_cmp a.0 b.0) (nat_cmp a.1 b.1))
    (option_cmp nat_cmp a.2 b.2) h in
    let first = then-equal (nat_cmp a.0 b.0) (nat_cmp a.1 b.1) last.0 in
    let task : a.0 ≡ b.0 = nat-equal a.0 b.0 first.0 in
    let cpu : a.1 ≡ b.1 = nat-equal a.1 b.1 first.1 in
    let node : a.2 ≡ b.2 = option-equal a.2 b.2 last.1 in
    λ i. (task i, cpu i, node i)

-- one route's tally is written
pub counted : (old new : List (Route × AccessCounts)) (route : Route) (tally : AccessCounts)
    (count : ℕ)
    (is_fault : Bool)
    → ((q : Route) → lookup (is_at (route_cmp q)) new
    ≡ (if is_at (route_cmp route) q then Some tally else lookup (is_at (route_cmp q)) old))
    → tally ≡ with_accesses (tally_at old route) count is_fault
    → Counts old route count is_fault new
counted old new route tally count is_fault written is other =
    elim (cases_Bool (is_route route other)) [
      | inl t ↦
          let here : tally_at new other ≡ tally =
          ap (λ o. unwrap_or o no_accesses) (rw t at (written other)) in
          let same : route ≡ other = route-same route other t in
          rw t (here ∙ is ∙ ap (λ w. with_accesses (tally_at old w) count is_fault) same)
      | inr f ↦ rw f (ap (λ o. unwrap_or o no_accesses) (rw f at (written other)))
    ]
