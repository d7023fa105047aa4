-- What a handle keeps of a plan that was made.
use Rattle.std.proofs.Common.{◌≡◌, Option, Some, None, Result, Ok, subst}
use Rattle.std.specs.Prelude.{IfSome, IfOk, MatchOption}

module _ {A E : Type 0} (P : A → Type 0) (Q : Type 0) where
  pub kept-made : (made : Option (Result A E)) (kept : Option A)
      → IfSome kept (λ k. made ≡ Some (Ok k)) → MatchOption made Q (λ answer. IfOk answer P)
      → IfSome kept P
  kept-made made None is all = tt
  kept-made made (Some k) is all =
      subst (λ (made : Option (Result A E)). MatchOption made Q (λ answer. IfOk answer P)) is all
