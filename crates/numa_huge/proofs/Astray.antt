-- Pages of 2 MiB that lie astray of a list, by how many lie on each node.
use Rattle.std.proofs.Common.{◌≡◌, ℕ, ◌+◌, ◌<◌, ◌≤◌, ◌∙◌, Bool, true, false, not, Option, Some}
use Rattle.std.proofs.Common.{None, arith, refl, ap, inl, inr}
use Rattle.std.proofs.lemmas.Bool.{both_ways, cases_Bool, eq-eqb, eqb-true}
use Rattle.numa_mask.specs.NodeSet.{has}
use Rattle.numa_ranges.specs.Maps.{any_page}
use Rattle.numa_ranges.proofs.Counted.{count-none}
use Rattle.numa_ranges.proofs.Pages.{any_page-false, any_page-true}
use Rattle.numa_placed.proofs.Shared.{zero-none}
use Rattle.numa_huge.specs.Huge.{on_node, pages_in}
use Rattle.numa_huge.specs.Moves.{is_astray}
use Rattle.numa_huge.specs.declared.spot.HugeSpot.{HugeSpot}
use Rattle.numa_huge.specs.declared.spot.HugeSpot.TheVariants.{Bare, Reserved, On}

-- a page on a node that isn't in the list lies astray
on-astray : (list node : ℕ) (spot : Option HugeSpot) → has list node ≡ false
    → on_node node spot ≡ true → is_astray list spot ≡ true
on-astray list node None out on = absurd (cc)
on-astray list node (Some Bare) out on = absurd (cc)
on-astray list node (Some Reserved) out on = absurd (cc)
on-astray list node (Some (On other)) out on =
    ap not (ap (has list) (eqb-true other node on) ∙ out)

module _ (spots : ℕ → Option HugeSpot) (list first n : ℕ) where
  -- where some page of a span lies on a node that isn't in the list, some page lies astray
  pub astray-some : (node : ℕ) → has list node ≡ false → 0 < pages_in (on_node node) spots first n
      → any_page (λ page. is_astray list (spots page)) first n ≡ true
  astray-some node out some =
      let any : Bool = any_page (λ page. is_astray list (spots page)) first n in
      elim (cases_Bool any) [
        | inl t ↦ t
        | inr e ↦
            let none : pages_in (on_node node) spots first n ≡ 0 =
            count-none (λ page. on_node node (spots page)) first n (λ page low high.
            elim (cases_Bool (on_node node (spots page))) [
              | inl on ↦ absurd (both_ways any e
                  (any_page-true (λ page. is_astray list (spots page)) first n page low high
                  (on-astray list node (spots page) out on)))
              | inr off ↦ off
            ]) in
            absurd (omega (arith, some, none))
      ]

  -- a page of the span lies nowhere, or on a node of the list
  stays : ((node : ℕ) → node < 256 → has list node ≡ false
      → pages_in (on_node node) spots first n ≡ 0)
      → (page : ℕ) → first ≤ page → page < first + n → (spot : Option HugeSpot)
      → spots page ≡ spot → ((node : ℕ) → spot ≡ Some (On node) → node < 256)
      → is_astray list spot ≡ false
  stays none page low high None is near = refl
  stays none page low high (Some Bare) is near = refl
  stays none page low high (Some Reserved) is near = refl
  stays none page low high (Some (On node)) is near = elim (cases_Bool (has list node)) [
    | inl t ↦ ap not t
    | inr out ↦
        let gone : on_node node (spots page) ≡ false =
        zero-none (λ p. on_node node (spots p)) first n page (none node (near node refl) out) low
        high in
        let here : on_node node (spots page) ≡ true =
        ap (on_node node) is ∙ eq-eqb node node refl in
        absurd (both_ways (on_node node (spots page)) gone here)
  ]

  pub astray-none : ((page node : ℕ) → spots page ≡ Some (On node) → node < 256)
      → ((node : ℕ) → node < 256 → has list node ≡ false
      → pages_in (on_node node) spots first n ≡ 0)
      → any_page (λ page. is_astray list (spots page)) first n ≡ false
  astray-none near none =
      any_page-false (λ page. is_astray list (spots page)) first n
      (λ page low high. stays none page low high (spots page) refl (near page))
