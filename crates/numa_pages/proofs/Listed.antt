-- The runs of pages that lie somewhere, listed one after the other.
use Rattle.std.proofs.Common.{◌≡◌, ◌≢◌, ℕ, ◌+◌, ◌-◌, ◌<◌, ◌≤◌, ◌^◌, List, [], ◌∷◌, ◌++◌, inl, inr}
use Rattle.std.proofs.Common.{sym, subst, arith, append_assoc, append-nil}
use Rattle.std.proofs.lemmas.Bool.{cases_lt}
use Rattle.numa_placed.specs.declared.spot.Spot.{Spot}
use Rattle.numa_placed.specs.declared.spot.Spot.TheVariants.{Stated}
use Rattle.numa_pages.specs.Listing.{AreListed, AreNowhere}
use Rattle.numa_pages.specs.declared.listing.PageRun.{PageRun}

module _ (spots : ℕ → Spot) where
  joined : (from page end : ℕ) → AreNowhere spots from page → AreNowhere spots page end
      → AreNowhere spots from end
  joined from page end here ahead p low high = elim (cases_lt p page) [
    | inl l ↦ here p low l
    | inr r ↦ ahead p r high
  ]

  -- pages that lie nowhere come before those that are listed
  pub nowhere-listed : (from page : ℕ) (runs : List PageRun) → from ≤ page
      → AreNowhere spots from page → AreListed spots page runs → AreListed spots from runs
  nowhere-listed from page [] rises here listed = joined from page (2 ^ 35) here listed
  nowhere-listed from page (run ∷ runs) rises here listed = (
    omega (arith, rises, listed.0),
    joined from page run.first here listed.1,
    listed.2,
    listed.3,
  )

  -- one run more
  pub run-listed : (page end node : ℕ) (runs : List PageRun) → page < end → end ≤ 2 ^ 35
      → ((p : ℕ) → page ≤ p → p < end → spots p ≡ Stated node)
      → (end < 2 ^ 35 → spots end ≢ Stated node) → AreListed spots end runs
      → AreListed spots page (record { first = page; pages = end - page; node = node } ∷ runs)
  run-listed page end node runs rises within alike ends listed =
      let size : page + (end - page) ≡ end = omega (arith, rises) in (
        omega arith,
        λ p low high. absurd (omega (arith, low, high)),
        record {
          some = omega (arith, rises);
          within = omega (arith, size, within);
          alike = λ p low high. alike p low (omega (arith, size, high));
          ends = subst (λ (e : ℕ). e < 2 ^ 35 → spots e ≢ Stated node) (sym size) ends;
        },
        subst (λ (e : ℕ). AreListed spots e runs) (sym size) listed,
      )

  -- with one run more the list goes on behind it
  pub next-listed : (list : List PageRun) (run : PageRun) (page : ℕ)
      → ((runs : List PageRun) → AreListed spots page runs → AreListed spots 0 (list ++ runs))
      → (end : ℕ)
      → ((runs : List PageRun) → AreListed spots end runs → AreListed spots page (run ∷ runs))
      → (runs : List PageRun) → AreListed spots end runs
      → AreListed spots 0 ((list ++ run ∷ []) ++ runs)
  next-listed list run page so_far end one runs listed =
      subst (λ (all : List PageRun). AreListed spots 0 all)
      (sym (append_assoc list (run ∷ []) runs)) (so_far (run ∷ runs) (one runs listed))

  -- at the end nothing is left
  pub all-listed : (list : List PageRun) (page : ℕ) → page ≡ 2 ^ 35
      → ((runs : List PageRun) → AreListed spots page runs → AreListed spots 0 (list ++ runs))
      → AreListed spots 0 list
  all-listed list page end so_far =
      subst (λ (all : List PageRun). AreListed spots 0 all) (append-nil list)
      (so_far [] (λ p low high. absurd (omega (arith, end, low, high))))
