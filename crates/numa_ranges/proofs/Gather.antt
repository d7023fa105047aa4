-- Runs that are gathered one by one.
use Rattle.std.proofs.Common.{◌≡◌, Bool, true, Option, Some, None, List, [], ◌∷◌, ◌++◌}
use Rattle.std.proofs.Common.{append_assoc, append-nil, refl, sym, ap, ◌∙◌}
use Rattle.numa_ranges.specs.Runs.{Continues}
use Rattle.numa_ranges.specs.Edits.{joined_from, maximal_runs, joined_after}
use Rattle.numa_ranges.specs.declared.run.Run.{Run}
use Rattle.numa_ranges.proofs.Joined.{not-joins}

module _ {T : Type 0} (same : T → T → Bool) (exact : (a b : T) → same a b ≡ true → a ≡ b)
    (itself : (a : T) → same a a ≡ true) where
  -- a run that does not continue the open one closes that
  pub so_far-closed : (added closed : List (Run T)) (open_run : Option (Run T)) (last run : Run T)
      → open_run ≡ Some last → (Continues last run → ⊥)
      → ((rest : List (Run T)) → maximal_runs same (added ++ rest) ≡ closed
      ++ joined_after same open_run rest)
      → (rest : List (Run T)) → maximal_runs same ((added ++ run ∷ []) ++ rest)
      ≡ (closed ++ last ∷ []) ++ joined_after same (Some run) rest
  so_far-closed added closed open_run last run is stops h rest =
      let here : joined_after same open_run (run ∷ rest) ≡ last ∷ joined_from same rest run =
      rw is (rw (not-joins same exact itself last run stops) refl) in
      rw (append_assoc, append_assoc) (h (run ∷ rest) ∙ ap (λ l. closed ++ l) here)

  -- the closed runs and the open one are the joined form
  pub sealed-some : (added closed : List (Run T)) (open_run : Option (Run T)) (last : Run T)
      → open_run ≡ Some last
      → ((rest : List (Run T)) → maximal_runs same (added ++ rest) ≡ closed
      ++ joined_after same open_run rest) → maximal_runs same added ≡ closed ++ last ∷ []
  sealed-some added closed open_run last is h = sym (ap (maximal_runs same) (append-nil added))
      ∙ h [] ∙ ap (λ o. closed ++ joined_after same o []) is

  pub sealed-none : (added closed : List (Run T)) (open_run : Option (Run T)) → open_run ≡ None
      → ((rest : List (Run T)) → maximal_runs same (added ++ rest) ≡ closed
      ++ joined_after same open_run rest) → maximal_runs same added ≡ closed
  sealed-none added closed open_run is h = sym (ap (maximal_runs same) (append-nil added)) ∙ h []
      ∙ ap (λ o. closed ++ joined_after same o []) is ∙ append-nil closed
