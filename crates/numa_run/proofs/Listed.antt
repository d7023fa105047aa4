-- The ranges that a space keeps are those of its history, in this order.
use Rattle.std.proofs.Common.{◌≡◌, ℕ, zero, suc, ◌+◌, ◌-◌, ◌<◌, ◌≤◌, ◌^◌, is_some, Bool, true}
use Rattle.std.proofs.Common.{false, Option, Some, None, List, [], ◌∷◌, ◌++◌, refl, sym, ap, ◌∙◌}
use Rattle.std.proofs.Common.{arith, inl, inr}
use Rattle.std.specs.Prelude.{unwrap_or}
use Rattle.std.proofs.lemmas.Bool.{cases_lt}
use Rattle.numa_ranges.specs.Runs.{page_at, end_of, AreApart, AreMaximal}
use Rattle.numa_ranges.specs.Edits.{maximal_runs}
use Rattle.numa_ranges.specs.declared.run.Run.{Run}
use Rattle.numa_ranges.proofs.Apart.{in_pages-true, in_pages-below, in_pages-above, apart-top}
use Rattle.numa_ranges.proofs.Joined.{page_at-joined, apart-joined, maximal-joined}
use Rattle.numa_ranges.proofs.Laws.{same-runs}
use Rattle.numa_space.specs.Pages.{page_in, resolved_policy}
use Rattle.numa_space.specs.Same.{same_record}
use Rattle.numa_space.specs.Standing.{SpaceState, StandsFor, policy_in}
use Rattle.numa_requests.specs.declared.command.Command.{Command}
use Rattle.numa_space.proofs.Same.{same_record-exact, same_record-refl}
use Rattle.numa_space.proofs.Lists.{policy-same}
use Rattle.numa_maps.specs.Listing.{listing, listing_in}
use Rattle.numa_maps.specs.Residents.{Kept}
use Rattle.numa_run.specs.Ranges.{single, singles, ranges_of, listing_of}

module _ {T : Type 0} where
  -- each index fits a range
  abbrev pub AreSmall : (ℕ → Option (ℕ × T)) → Type 0
  AreSmall at = (page : ℕ) (p : ℕ × T) → at page ≡ Some p → p.0 + 1 ≤ 2 ^ 48

  -- what a list of runs that are apart says of a page
  page_at-small : (from : ℕ) (runs : List (Run T)) → AreApart from runs → AreSmall (page_at runs)
  page_at-small from [] apart page p is = let odd : false ≡ true = ap is_some is in cc
  page_at-small from (run ∷ runs) apart page p is =
      elim (cases_lt page run.first) [
        | inl low ↦ page_at-small (end_of run) runs apart.3 page p
            (sym (rw (in_pages-below run.first run.pages page low) refl) ∙ is)
        | inr low ↦ elim (cases_lt page (end_of run)) [
          | inl high ↦
              let here : Some (run.index + (page - run.first), run.value) ≡ Some p =
              sym (rw (in_pages-true run.first run.pages page low high) refl) ∙ is in
              let place : run.index + (page - run.first) ≡ p.0 =
              ap (λ (o : Option (ℕ × T)). (unwrap_or o p).0) here in
              omega (arith, apart.2, place, low, high)
          | inr past ↦ page_at-small (end_of run) runs apart.3 page p
              (sym (rw (in_pages-above run.first run.pages page past) refl) ∙ is)
        ]
      ]

  page_at-behind : (from : ℕ) (runs : List (Run T)) (page : ℕ) → AreApart from runs → 2 ^ 35 ≤ page
      → page_at runs page ≡ None
  page_at-behind from [] page apart far = refl
  page_at-behind from (run ∷ runs) page apart far =
      let top = apart-top (end_of run) runs apart.3 in
      rw (in_pages-above run.first run.pages page (omega arith))
      (page_at-behind (end_of run) runs page apart.3 far)

  -- pages as runs of their own are apart
  apart-singles : (at : ℕ → Option (ℕ × T)) (pages first from : ℕ) → AreSmall at → from ≤ first
      → first + pages ≤ 2 ^ 35 → AreApart from (singles at first pages)
  unfolding singles
  apart-singles at zero first from small low room = omega arith
  apart-singles at (suc pages) first from small low room =
      by_page (at first) refl
      (apart-singles at pages (first + 1) from small (omega arith) (omega arith))
      (apart-singles at pages (first + 1) (first + 1) small (omega arith) (omega arith))
    where
      by_page : (o : Option (ℕ × T)) → at first ≡ o → AreApart from (singles at (first + 1) pages)
          → AreApart (first + 1) (singles at (first + 1) pages)
          → AreApart from (single first o ++ singles at (first + 1) pages)
      by_page None is rest next = rest
      by_page (Some p) is rest next = (low, omega arith, small first p is, next)

  -- and say of each of these pages what the map does
  singles-behind : (at : ℕ → Option (ℕ × T)) (pages first page : ℕ) → page < first
      → page_at (singles at first pages) page ≡ None
  unfolding singles
  singles-behind at zero first page low = refl
  singles-behind at (suc pages) first page low =
      by_page (at first) (singles-behind at pages (first + 1) page (omega arith))
    where
      by_page : (o : Option (ℕ × T)) → page_at (singles at (first + 1) pages) page ≡ None
          → page_at (single first o ++ singles at (first + 1) pages) page ≡ None
      by_page None rest = rest
      by_page (Some p) rest = rw (in_pages-below first 1 page low) rest

  page_at-singles : (at : ℕ → Option (ℕ × T)) (pages first page : ℕ) → first ≤ page
      → page < first + pages → page_at (singles at first pages) page ≡ at page
  unfolding singles
  page_at-singles at zero first page low high = absurd (omega arith)
  page_at-singles at (suc pages) first page low high =
      by_page (at first) refl (λ past. page_at-singles at pages (first + 1) page (omega arith)
      (omega arith))
    where
      by_page : (o : Option (ℕ × T)) → at first ≡ o
          → (first < page → page_at (singles at (first + 1) pages) page ≡ at page)
          → page_at (single first o ++ singles at (first + 1) pages) page ≡ at page
      by_page None is rest =
          elim (cases_lt first page) [
            | inl past ↦ rest past
            | inr le ↦
                let here : first ≡ page = omega arith in
                singles-behind at pages (first + 1) page (omega arith) ∙ sym is ∙ ap at here
          ]
      by_page (Some p) is rest =
          elim (cases_lt first page) [
            | inl past ↦ rw (in_pages-above first 1 page (omega arith)) (rest past)
            | inr le ↦
                let here : first ≡ page = omega arith in
                let place : p.0 + (page - first) ≡ p.0 = omega arith in
                rw (in_pages-true first 1 page low (omega arith))
                ((λ i. Some (place i, p.1)) ∙ sym is ∙ ap at here)
          ]

  page_at-singles_past : (at : ℕ → Option (ℕ × T)) (pages first page : ℕ) → first + pages ≤ page
      → page_at (singles at first pages) page ≡ None
  unfolding singles
  page_at-singles_past at zero first page high = refl
  page_at-singles_past at (suc pages) first page high =
      by_page (at first) (page_at-singles_past at pages (first + 1) page (omega arith))
    where
      by_page : (o : Option (ℕ × T)) → page_at (singles at (first + 1) pages) page ≡ None
          → page_at (single first o ++ singles at (first + 1) pages) page ≡ None
      by_page None rest = rest
      by_page (Some p) rest = rw (in_pages-above first 1 page (omega arith)) rest

module _ {T : Type 0} (same : T → T → Bool) (exact : (a b : T) → same a b ≡ true → a ≡ b)
    (itself : (a : T) → same a a ≡ true) where
  joined-apart : (runs : List (Run T)) → AreApart 0 runs → AreApart 0 (maximal_runs same runs)
  joined-apart [] apart = apart
  joined-apart (run ∷ runs) apart = apart-joined same exact itself 0 runs run apart

  joined-maximal : (runs : List (Run T)) → AreMaximal (maximal_runs same runs)
  joined-maximal [] = tt
  joined-maximal (run ∷ runs) = maximal-joined same exact itself runs run

  joined-page : (runs : List (Run T)) (page : ℕ) → page_at (maximal_runs same runs) page
      ≡ page_at runs page
  joined-page [] page = refl
  joined-page (run ∷ runs) page = page_at-joined same exact itself runs run page

  -- runs that are apart and maximal are their pages, each as a run of its own, joined
  pub joined-singles : (runs : List (Run T)) (at : ℕ → Option (ℕ × T)) (pages : ℕ) → pages ≡ 2 ^ 35
      → AreApart 0 runs → AreMaximal runs → ((page : ℕ) → page_at runs page ≡ at page)
      → maximal_runs same (singles at 0 pages) ≡ runs
  joined-singles runs at pages all apart maximal shows =
      let small : AreSmall at = λ page p is. page_at-small 0 runs apart page p (shows page ∙ is) in
      same-runs same exact itself 0 (maximal_runs same (singles at 0 pages)) runs
      (joined-apart (singles at 0 pages)
      (apart-singles at pages 0 0 small (omega arith) (omega arith))) apart
      (joined-maximal (singles at 0 pages)) maximal
      (λ page. joined-page (singles at 0 pages) page ∙ elim (cases_lt page pages) [
        | inl low ↦ page_at-singles at pages 0 page (omega arith) (omega arith) ∙ sym (shows page)
        | inr past ↦ page_at-singles_past at pages 0 page (omega arith)
            ∙ sym (page_at-behind 0 runs page apart (omega arith))
      ])

-- the listing of what a space holds is that of its history
pub listing-same : (space : SpaceState) (history : List Command) (task : ℕ) (kept : Kept)
    → StandsFor space history → AreApart 0 space.ranges → AreMaximal space.ranges
    → listing_in space task kept ≡ listing_of space.machine history task kept
unfolding ranges_of
listing-same space history task kept stands apart maximal =
    let ranges = joined-singles same_record same_record-exact same_record-refl space.ranges
    (page_in space.machine history) (2 ^ 35) refl apart maximal stands.pages in
    let policies : policy_in space task ≡ resolved_policy space.machine history task = λ i page.
    policy-same space history task page stands i in
    λ i. listing (policies i) kept (sym ranges i)
