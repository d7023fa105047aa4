-- Runs that copy ranges, where a window of them is copied anew.
use Rattle.std.proofs.Common.{◌≡◌, ℕ, zero, suc, ◌+◌, ◌-◌, ◌<◌, Bool, true, false, cond, Option}
use Rattle.std.proofs.Common.{Some, None, List, [], ◌∷◌, ◌++◌, take, drop, refl, ap, subst, ◌∙◌}
use Rattle.std.proofs.Common.{arith}
use Rattle.std.proofs.lemmas.Bool.{eq-eqb}
use Rattle.std.proofs.lemmas.List.Sums.{sum_by-cons}
use Rattle.std.specs.List.{splice}
use Rattle.std.specs.Prelude.{unwrap_or, count_by}
use Rattle.numa_mode.specs.Policy.{PolicyRecord}
use Rattle.numa_ranges.specs.Runs.{page_at, in_pages}
use Rattle.numa_ranges.specs.declared.run.Run.{Run}
use Rattle.numa_space.specs.Policies.{where_live}
use Rattle.numa_plan.specs.Meaning.{is_number}
use Rattle.numa_compile.specs.Copies.{IsNumber, AreCopies}
use Rattle.numa_compile.proofs.CopyLemmas.{same-pages}

module _ (at : ℕ → Option PolicyRecord) where
  copies-append : (rs ns : List (Run (Option PolicyRecord))) (xs ys : List (Run (Option ℕ)))
      → AreCopies at rs xs → AreCopies at ns ys → AreCopies at (rs ++ ns) (xs ++ ys)
  copies-append [] ns [] ys one two = two
  copies-append [] ns (x ∷ xs) ys one two = absurd one
  copies-append (a ∷ rs) ns [] ys one two = absurd one
  copies-append (a ∷ rs) ns (x ∷ xs) ys one two = (one.0, copies-append rs ns xs ys one.1 two)

  copies-take : (n : ℕ) (rs : List (Run (Option PolicyRecord))) (xs : List (Run (Option ℕ)))
      → AreCopies at rs xs → AreCopies at (take n rs) (take n xs)
  copies-take zero rs xs one = tt
  copies-take (suc n) [] [] one = tt
  copies-take (suc n) [] (x ∷ xs) one = absurd one
  copies-take (suc n) (a ∷ rs) [] one = absurd one
  copies-take (suc n) (a ∷ rs) (x ∷ xs) one = (one.0, copies-take n rs xs one.1)

  copies-drop : (n : ℕ) (rs : List (Run (Option PolicyRecord))) (xs : List (Run (Option ℕ)))
      → AreCopies at rs xs → AreCopies at (drop n rs) (drop n xs)
  copies-drop zero rs xs one = one
  copies-drop (suc n) [] [] one = tt
  copies-drop (suc n) [] (x ∷ xs) one = absurd one
  copies-drop (suc n) (a ∷ rs) [] one = absurd one
  copies-drop (suc n) (a ∷ rs) (x ∷ xs) one = copies-drop n rs xs one.1

  -- a window of the ranges copied anew
  pub copies-splice : (rs ns : List (Run (Option PolicyRecord))) (xs ys : List (Run (Option ℕ)))
      (from to : ℕ) → AreCopies at rs xs → AreCopies at ns ys
      → AreCopies at (splice rs from to ns) (splice xs from to ys)
  copies-splice rs ns xs ys from to one two = copies-append (take from rs) (ns ++ drop to rs)
      (take from xs) (ys ++ drop to xs) (copies-take from rs xs one)
      (copies-append ns (drop to rs) ys (drop to xs) two (copies-drop to rs xs one))

-- the number of a page's run is that of its range's policy
pub copies-at : (at : ℕ → Option PolicyRecord) (ranges : List (Run (Option PolicyRecord)))
    (runs : List (Run (Option ℕ))) (page index : ℕ) (number : Option ℕ)
    (policy : Option PolicyRecord)
    → AreCopies at ranges runs → page_at runs page ≡ Some (index, number)
    → page_at ranges page ≡ Some (index, policy) → IsNumber at (where_live policy) number
copies-at at [] runs page index number policy copies is there =
    absurd (let odd : ◌≡◌ {A = Option (ℕ × Option PolicyRecord)} None (Some (index, policy)) =
    there in cc)
copies-at at (range ∷ ranges) [] page index number policy copies is there = absurd copies
copies-at at (range ∷ ranges) (run ∷ runs) page index number policy copies is there =
    go (in_pages range.first range.pages page) (in_pages run.first run.pages page)
    (same-pages at range run page copies.0)
    (λ one two. copies-at at ranges runs page index number policy copies.1 one two) is there
  where
    go : (b c : Bool) → c ≡ b
        → (page_at runs page ≡ Some (index, number) → page_at ranges page ≡ Some (index, policy)
        → IsNumber at (where_live policy) number)
        → cond c (Some (run.index + (page - run.first), run.value)) (page_at runs page)
        ≡ Some (index, number)
        → cond b (Some (range.index + (page - range.first), range.value)) (page_at ranges page)
        ≡ Some (index, policy) → IsNumber at (where_live policy) number
    go true true same later one two =
        let own : run.value ≡ number =
        ap (λ (o : Option (ℕ × Option ℕ)). (unwrap_or o (0, number)).1) one in
        let other : range.value ≡ policy =
        ap (λ (o : Option (ℕ × Option PolicyRecord)). (unwrap_or o (0, policy)).1) two in
        subst (λ (p : Option PolicyRecord). IsNumber at (where_live p) number) other
        (subst (λ (n : Option ℕ). IsNumber at (where_live range.value) n) own copies.0.value)
    go false false same later one two = later one two
    go true false same later one two = absurd (let odd : ◌≡◌ {A = Bool} false true = same in cc)
    go false true same later one two = absurd (let odd : ◌≡◌ {A = Bool} true false = same in cc)

-- what is dropped or written beside the numbers in use changes no copy
pub copies-kept : (old new : ℕ → Option PolicyRecord) (ranges : List (Run (Option PolicyRecord)))
    (runs : List (Run (Option ℕ)))
    → ((number : ℕ) (r : PolicyRecord) → 0 < count_by (λ run. is_number number run.value) runs
    → old number ≡ Some r → new number ≡ Some r) → AreCopies old ranges runs
    → AreCopies new ranges runs
copies-kept old new [] [] same copies = tt
copies-kept old new [] (run ∷ runs) same copies = absurd copies
copies-kept old new (range ∷ ranges) [] same copies = absurd copies
copies-kept old new (range ∷ ranges) (run ∷ runs) same copies =
    let all : (n : ℕ) → count_by (λ run. is_number n run.value) (run ∷ runs)
    ≡ cond (is_number n run.value) 1 0 + count_by (λ run. is_number n run.value) runs =
    λ n. sum_by-cons (λ (run : Run (Option ℕ)). cond {A = ℕ} (is_number n run.value) 1 0) run
    runs in (
      record {
        first = copies.0.first;
        pages = copies.0.pages;
        index = copies.0.index;
        value =
            here all (where_live range.value) copies.0.value;
      },
      copies-kept old new ranges runs (λ n r some is. same n r (omega (arith, all n, some)) is)
          copies.1,
    )
  where
    here :
        ((n : ℕ) → count_by (λ run. is_number n run.value) (run ∷ runs)
        ≡ cond (is_number n run.value) 1 0 + count_by (λ run. is_number n run.value) runs)
        → (policy : Option PolicyRecord) → IsNumber old policy run.value
        → IsNumber new policy run.value
    here all None is = is
    here all (Some r) is =
        let one : cond {A = ℕ} (is_number is.0 run.value) 1 0 ≡ 1 =
        ap (λ (v : Option ℕ). cond {A = ℕ} (is_number is.0 v) 1 0) is.1
        ∙ ap (λ (b : Bool). cond {A = ℕ} b 1 0) (eq-eqb is.0 is.0 refl) in
        (is.0, is.1, same is.0 r (omega (arith, all is.0, one)) is.2)
