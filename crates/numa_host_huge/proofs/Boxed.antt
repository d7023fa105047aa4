-- Pages that are put on the heap, if they could be mapped.
use Rattle.std.proofs.Common.{◌≡◌, ◌⊎◌, Box, Result, Ok, Err, IfOk, IfErr, inl, inr, sym, subst}
use Rattle.std.specs.Global.{Global}
use Rattle.std.specs.Prelude.{IsErrOf, IsOkAnd}
use Rattle.numa_requests.specs.declared.page_refusal.PlacedRefusal.{PlacedRefusal}
use Rattle.numa_requests.specs.declared.page_refusal.PlacedRefusal.TheVariants.{NoMemory}
use Rattle.numa_huge.specs.Huge.{HugePlaced}
use Rattle.numa_huge.specs.declared.pages.HugePages.{HugePages}

pub IfOk-both : {A E : Type 0} (r : Result A E) (P Q S : A → Type 0)
    → ((a : A) → P a → Q a → S a) → IfOk r P → IfOk r Q → IfOk r S
IfOk-both (Ok a) P Q S f one other = f a one other
IfOk-both (Err why) P Q S f one other = tt

module _ (made : Result (Box HugePages Global) PlacedRefusal)
    (mapped : Result HugePlaced PlacedRefusal) where
  -- what holds of the pages holds of those on the heap
  pub boxed-ok : (P : HugePlaced → Type 0)
      → IfOk made (λ after. IsOkAnd mapped (λ places. after.value.places ≡ places))
      → IfOk mapped P → IfOk made (λ after. P after.value.places)
  boxed-ok P is holds = by made mapped is holds
    where
      by : (r : Result (Box HugePages Global) PlacedRefusal) (m : Result HugePlaced PlacedRefusal)
          → IfOk r (λ after. IsOkAnd m (λ places. after.value.places ≡ places)) → IfOk m P
          → IfOk r (λ after. P after.value.places)
      by (Ok after) (Ok places) is holds = subst P (sym is) holds
      by (Ok after) (Err why) is holds = absurd is
      by (Err why) m is holds = tt

  pub boxed-err : (Q : PlacedRefusal → Type 0) → Q NoMemory
      → IfErr made (λ why. (why ≡ NoMemory) ⊎ IsErrOf mapped why) → IfErr mapped Q → IfErr made Q
  boxed-err Q lack is holds = by made mapped is holds
    where
      from : (m : Result HugePlaced PlacedRefusal) (why : PlacedRefusal) → m ≡ Err why
          → IfErr m Q → Q why
      from m why is holds = subst (λ (r : Result HugePlaced PlacedRefusal). IfErr r Q) is holds

      by : (r : Result (Box HugePages Global) PlacedRefusal) (m : Result HugePlaced PlacedRefusal)
          → IfErr r (λ why. (why ≡ NoMemory) ⊎ IsErrOf m why) → IfErr m Q → IfErr r Q
      by (Ok after) m is holds = tt
      by (Err why) m is holds = elim is [
        | inl none ↦ subst Q (sym none) lack
        | inr refused ↦ from m why refused holds
      ]
