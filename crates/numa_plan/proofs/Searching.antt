-- A search by halves.
use Rattle.std.proofs.Common.{◌≡◌, ℕ, zero, suc, ◌+◌, ◌-◌, ◌*◌, ◌/◌, ◌<◌, ◌≤◌, ◌^◌, pow-add, Option}
use Rattle.std.proofs.Common.{Some, None, List, [], ◌∷◌, length, get_or, is_some, pow-suc}
use Rattle.std.proofs.Common.{add-sub_cancel, refl, sym, ap, subst, ◌∙◌, arith, inl, inr}
use Rattle.std.specs.Prelude.{IsSome}
use Rattle.std.specs.List.{AllWithin}
use Rattle.std.proofs.lemmas.Bool.{cases_lt}
use Rattle.std.proofs.lemmas.List.{get_or_default}
use Rattle.std.proofs.Math.Nat.{mul-le-mul_left, mul-le-mul}
use native.Mathlib.Nat.{pow-le-pow_right}
use Rattle.numa_ranges.specs.Runs.{AreApart, end_of, page_at}
use Rattle.numa_ranges.specs.declared.run.Run.{Run}
use Rattle.numa_ranges.proofs.Apart.{apart-rising, apart-from, apart-bounds, page_at-last}
use Rattle.numa_ranges.proofs.Apart.{apart-top}
use Rattle.numa_ranges.proofs.Apart.{page_at-none, in_pages-true, in_pages-above}
use Rattle.numa_plan.specs.Counted.{Counted, FindsByInterpolation, FindsQuickly, FindsTwice}
use Rattle.numa_plan.specs.Counted.{LooksAtMost}
use Rattle.numa_plan.specs.Found.{IsPartOf, IsAt, IsSplit}
use Rattle.numa_plan.specs.declared.runs.Found.{Found}

-- the runs before `low` begin at the page or before it, and those from `high` on behind it; the run
-- before `low` begins `far` before the page
pub record IsNarrowed (runs : List (Run (Option ℕ))) (page low high far : ℕ) : Type 0 where
  pub within : low ≤ high
  pub top : high ≤ length runs
  pub before : AllWithin (λ run. run.first ≤ page) runs 0 low
  pub after : AllWithin (λ run. page < run.first) runs high (length runs)
  pub lies : (d : Run (Option ℕ)) → 0 < low → (get_or runs (low - 1) d).first + far ≡ page

-- so many comparisons from so many runs to those that are left
pub record IsSparing (old new left runs : ℕ) : Type 0 where
  pub never_less : old ≤ new
  pub halved : 2 ^ (new - old) * left ≤ runs
  pub few : 2 ^ (new - old) ≤ 2 * runs + 1

-- one more comparison, which leaves at most half of the runs
pub spare : (old new left left' runs : ℕ) → 0 < left → left' ≤ left / 2
    → IsSparing old new left runs → IsSparing old (new + 1) left' runs
spare old new left left' runs some half h =
    let more : new + 1 - old ≡ suc (new - old) = omega (arith, h.never_less) in
    let twice : 2 * left' ≤ left = omega arith in
    record {
      never_less = omega (arith, h.never_less);
      halved =
          rw (more, pow-suc 2 (new - old))
          (scaled (2 ^ (new - old)) left left' runs twice h.halved);
      few = rw (more, pow-suc 2 (new - old)) (doubled (2 ^ (new - old)) left runs some h.halved);
    }
  where
    scaled : (p left left' runs : ℕ) → 2 * left' ≤ left → p * left ≤ runs → p * 2 * left' ≤ runs
    scaled p left left' runs twice h = grind (arith, mul-le-mul_left p twice)

    doubled : (p left runs : ℕ) → 0 < left → p * left ≤ runs → p * 2 ≤ 2 * runs + 1
    doubled p left runs some h = grind (arith, mul-le-mul_left p some)

module _ (runs : List (Run (Option ℕ))) (page : ℕ) where
  pub narrow_up : (low high far middle far' : ℕ) → AreApart 0 runs → low ≤ middle → middle < high
      → ((d : Run (Option ℕ)) → (get_or runs middle d).first + far' ≡ page)
      → IsNarrowed runs page low high far → IsNarrowed runs page (middle + 1) high far'
  narrow_up low high far middle far' apart ge lt lies h = record {
    within = omega arith;
    top = h.top;
    before = λ k d k_low k_high.
        omega (
          arith,
          apart-rising 0 runs apart k middle d (omega arith) (omega (arith, h.top)),
          lies d,
        );
    after = h.after;
    lies = λ d some. rw (add-sub_cancel middle 1) (lies d);
  }

  pub narrow_down : (low high far middle : ℕ) → AreApart 0 runs → low ≤ middle → middle < high
      → ((d : Run (Option ℕ)) → page < (get_or runs middle d).first)
      → IsNarrowed runs page low high far → IsNarrowed runs page low middle far
  narrow_down low high far middle apart ge lt above h = record {
    within = ge;
    top = omega (arith, h.top);
    before = h.before;
    after = λ k d k_low k_high. omega (
      arith,
      apart-rising 0 runs apart middle k d k_low k_high,
      above d,
    );
    lies = h.lies;
  }

-- what is read of a row holds of the run at its place
pub read_far : (runs : List (Run (Option ℕ))) (place : ℕ) (run : Run (Option ℕ)) (far page : ℕ)
    → ((d : Run (Option ℕ)) → run ≡ get_or runs place d) → run.first + far ≡ page
    → (d : Run (Option ℕ)) → (get_or runs place d).first + far ≡ page
read_far runs place run far page is lies d = subst (λ (r : Run (Option ℕ)). r.first + far ≡ page)
    (is d) lies

pub read_above : (runs : List (Run (Option ℕ))) (place : ℕ) (run : Run (Option ℕ)) (page : ℕ)
    → ((d : Run (Option ℕ)) → run ≡ get_or runs place d) → page < run.first → (d : Run (Option ℕ))
    → page < (get_or runs place d).first
read_above runs place run page is above d = subst (λ (r : Run (Option ℕ)). page < r.first) (is d)
    above

pub apart-ends : (from : ℕ) (runs : List (Run (Option ℕ))) → AreApart from runs
    → (i j : ℕ) (d : Run (Option ℕ)) → i < j → j < length runs
    → end_of (get_or runs i d) ≤ (get_or runs j d).first
apart-ends from [] apart i j d lt l = absurd (omega arith)
apart-ends from (run ∷ runs) apart zero zero d lt l = absurd (omega arith)
apart-ends from (run ∷ runs) apart zero (suc j) d lt l = apart-from (end_of run) runs j d apart.3
    (omega arith)
apart-ends from (run ∷ runs) apart (suc i) zero d lt l = absurd (omega arith)
apart-ends from (run ∷ runs) apart (suc i) (suc j) d lt l = apart-ends (end_of run) runs apart.3 i j
    d (omega arith) (omega arith)

blank : Run (Option ℕ)
blank = record { first = 0; pages = 0; index = 0; value = None }

-- a search that is at its end
pub is_split : (runs : List (Run (Option ℕ))) (page low high far : ℕ) → high ≤ low
    → IsNarrowed runs page low high far → IsSplit runs page low far
is_split runs page low high far le h = record {
  within = omega (arith, h.within, h.top);
  before = h.before;
  behind = λ k d k_low k_high. h.after k d (omega arith) k_high;
  lies = h.lies;
}

pub none_found : (runs : List (Run (Option ℕ))) (page place far : ℕ) → AreApart 0 runs → place ≡ 0
    → IsSplit runs page place far → page_at runs page ≡ None
none_found runs page place far apart is h =
    page_at-none 0 runs page apart (λ k d k_low k_high. h.behind k d (omega arith) k_high)

-- the run before `low` has the page
pub part_found : (runs : List (Run (Option ℕ))) (page low far : ℕ) (found : Found) → AreApart 0 runs
    → 0 < low → IsSplit runs page low far
    → ((d : Run (Option ℕ)) → IsPartOf (get_or runs (low - 1) d) far found) → IsAt runs page found
part_found runs page low far found apart some h part =
    let run : Run (Option ℕ) = get_or runs (low - 1) blank in
    let is : run ≡ get_or runs (low - 1) run =
    get_or_default runs (low - 1) _ _ (omega (arith, h.within)) in
    let own : IsPartOf run far found = part blank in
    let first : run.first + far ≡ page = h.lies blank some in
    let bounds : (end_of run ≤ 2 ^ 35) × (run.index + run.pages ≤ 2 ^ 48) =
    apart-bounds 0 runs (low - 1) blank apart (omega (arith, h.within)) in
    record {
      some = own.some;
      few = omega (arith, own.index, own.left, bounds.1);
      low = omega (arith, own.left, bounds.0, first);
      each = λ q short.
          page_at-last 0 runs (low - 1) (page + q) run apart (omega (arith, h.within)) is
          (λ k d k_low k_high. omega (arith, h.before k d k_low (omega arith)))
          (λ k d k_low k_high.
          omega (
            arith,
            apart-ends 0 runs apart (low - 1) k d (omega arith) k_high,
            (part d).left,
            h.lies d some,
          ))
          ∙ rw (in_pages-true run.first run.pages (page + q) (omega (arith, first))
          (omega (arith, first, own.left)))
          (let index : run.index + (page + q - run.first) ≡ found.index + q =
          omega (arith, own.index, first) in
          let rule : run.value ≡ found.rule = sym own.rule in
          cc);
    }

-- a run that has the page, whether a search found it or not
pub split_in : (runs : List (Run (Option ℕ))) (page place far : ℕ) → AreApart 0 runs
    → place < length runs → ((d : Run (Option ℕ)) → (get_or runs place d).first + far ≡ page)
    → ((d : Run (Option ℕ)) → far < (get_or runs place d).pages)
    → IsSplit runs page (place + 1) far
split_in runs page place far apart within lies has =
    let is : place + 1 - 1 ≡ place = add-sub_cancel place 1 in
    record {
      within = omega arith;
      before = λ k d k_low k_high.
          omega (arith, apart-rising 0 runs apart k place d (omega arith) within, lies d);
      behind = λ k d k_low k_high.
          omega (arith, apart-ends 0 runs apart place k d (omega arith) k_high, lies d, has d);
      lies = λ d some. subst (λ (n : ℕ). (get_or runs n d).first + far ≡ page) (sym is) (lies d);
    }

pub beside_found : (runs : List (Run (Option ℕ))) (page place far : ℕ) (found : Found)
    → AreApart 0 runs → place < length runs
    → ((d : Run (Option ℕ)) → (get_or runs place d).first + far ≡ page)
    → ((d : Run (Option ℕ)) → IsPartOf (get_or runs place d) far found) → IsAt runs page found
beside_found runs page place far found apart within lies part =
    let is : place + 1 - 1 ≡ place = add-sub_cancel place 1 in
    part_found runs page (place + 1) far found apart (omega arith)
    (split_in runs page place far apart within lies
    (λ d. omega (arith, (part d).left, (part d).some)))
    (λ d. subst (λ (n : ℕ). IsPartOf (get_or runs n d) far found) (sym is) (part d))

-- the run before `low` ends before the page
pub past_found : (runs : List (Run (Option ℕ))) (page low far : ℕ) → AreApart 0 runs → 0 < low
    → IsSplit runs page low far → ((d : Run (Option ℕ)) → (get_or runs (low - 1) d).pages ≤ far)
    → page_at runs page ≡ None
past_found runs page low far apart some h short =
    let run : Run (Option ℕ) = get_or runs (low - 1) blank in
    let is : run ≡ get_or runs (low - 1) run =
    get_or_default runs (low - 1) _ _ (omega (arith, h.within)) in
    let first : run.first + far ≡ page = h.lies blank some in
    page_at-last 0 runs (low - 1) page run apart (omega (arith, h.within)) is
    (λ k d k_low k_high. h.before k d k_low (omega arith))
    (λ k d k_low k_high. h.behind k d (omega arith) k_high)
    ∙ rw (in_pages-above run.first run.pages page (omega (arith, first, short blank))) refl

-- no page is mapped that is so high
pub high_none : (from : ℕ) (runs : List (Run (Option ℕ))) (page : ℕ) → AreApart from runs
    → 2 ^ 35 ≤ page → page_at runs page ≡ None
high_none from [] page apart high = refl
high_none from (run ∷ runs) page apart high =
    rw (in_pages-above run.first run.pages page
    (omega (arith, apart-top (end_of run) runs apart.3))) (high_none (end_of run) runs page apart.3
    high)

-- what a search found, of its page
pub at_page : (runs : List (Run (Option ℕ))) (page : ℕ) (found : Found) → IsAt runs page found
    → page_at runs page ≡ Some (found.index, found.rule)
at_page runs page found h =
    let e : page + 0 ≡ page = omega arith in
    let i : found.index + 0 ≡ found.index = omega arith in
    sym (ap (page_at runs) e) ∙ h.each 0 h.some ∙ ap (λ (n : ℕ). Some (n, found.rule)) i

-- each page as far as the run reaches is mapped
pub is_mapped : (runs : List (Run (Option ℕ))) (page : ℕ) (found : Found) (q : ℕ)
    → IsAt runs page found → page ≤ q → q < page + found.left → IsSome (page_at runs q)
is_mapped runs page found q h low high =
    let e : page + (q - page) ≡ q = omega arith in
    let here : page_at runs q ≡ Some (found.index + (q - page), found.rule) =
    sym (ap (page_at runs) e) ∙ h.each (q - page) (omega arith) in
    ap is_some here

-- ---- windows

module _ (runs : List (Run (Option ℕ))) (page place far : ℕ) (apart : AreApart 0 runs)
    (some : 0 < place) (split : IsSplit runs page place far) where
  -- the run before the place reaches over the page
  pub reaching : (found : Found)
      → ((d : Run (Option ℕ)) → IsPartOf (get_or runs (place - 1) d) far found)
      → AllWithin (λ run. end_of run < page + 1) runs 0 (place - 1)
      × AllWithin (λ run. page + 1 ≤ end_of run) runs (place - 1) (length runs)
  reaching found part = (
    λ k d low high.
        omega (
          arith,
          apart-ends 0 runs apart k (place - 1) d high (omega (arith, split.within)),
          split.lies d some,
        ),
    λ k d low high. elim (cases_lt k place) [
      | inl early ↦
          let is : k ≡ place - 1 = omega arith in
          subst (λ (n : ℕ). page + 1 ≤ end_of (get_or runs n d)) (sym is)
          (omega (arith, split.lies d some, (part d).left, (part d).some))
      | inr late ↦ omega (arith, split.behind k d late high)
    ],
  )

  -- the run before the place ends at the page or before it
  pub ending : ((d : Run (Option ℕ)) → (get_or runs (place - 1) d).pages ≤ far)
      → AllWithin (λ run. end_of run < page + 1) runs 0 place
  ending short k d low high = elim (cases_lt k (place - 1)) [
    | inl early ↦
        omega (
          arith,
          apart-ends 0 runs apart k (place - 1) d early (omega (arith, split.within)),
          split.lies d some,
        )
    | inr late ↦
        let is : k ≡ place - 1 = omega arith in
        subst (λ (n : ℕ). end_of (get_or runs n d) < page + 1) (sym is)
        (omega (arith, split.lies d some, short d))
  ]

-- two searches, one behind the other
pub twice : (old middle new : Counted) (runs : ℕ) → FindsQuickly old middle runs
    → FindsQuickly middle new runs → FindsTwice old new runs
twice old middle new runs first second = record {
  compares = omega (arith, first.compares, second.compares);
  few =
      let both : new.comparisons - old.comparisons ≡ middle.comparisons - old.comparisons
      + (new.comparisons - middle.comparisons) =
      omega (arith, first.compares, second.compares) in
      rw (
        both,
        pow-add 2 (middle.comparisons - old.comparisons)
            (new.comparisons - middle.comparisons),
      ) (mul-le-mul first.few second.few);
  writes_no_run = second.writes_no_run ∙ first.writes_no_run;
  writes_no_rule = second.writes_no_rule ∙ first.writes_no_rule;
}

-- a run that ends before `first` begins before `end`
pub window_rises : (runs : List (Run (Option ℕ))) (first end from to : ℕ) → first ≤ end
    → from ≤ length runs → AllWithin (λ run. end_of run < first) runs 0 from
    → AllWithin (λ run. end < run.first) runs to (length runs) → from ≤ to
window_rises runs first end from to le within before behind =
    elim (cases_lt to from) [
      | inl lt ↦
          absurd (omega (
            arith,
            before to blank (omega arith) lt,
            behind to blank (omega arith) (omega arith),
          ))
      | inr ge ↦ ge
    ]

-- ---- by interpolation

-- so many comparisons and so many more
looks-few : (old middle new : Counted) (runs count : ℕ) → count ≤ 3 → LooksAtMost count old middle
    → middle.comparisons ≤ new.comparisons
    → 2 ^ (new.comparisons - middle.comparisons) ≤ 2 * runs + 1
    → 2 ^ (new.comparisons - old.comparisons) ≤ 2 ^ 3 * (2 * runs + 1)
looks-few old middle new runs count bound looks more few =
    let both : new.comparisons - old.comparisons ≡ middle.comparisons - old.comparisons
    + (new.comparisons - middle.comparisons) = omega (arith, looks.compares, more) in
    let short : middle.comparisons - old.comparisons ≤ 3 = omega (arith, looks.few, bound) in
    let most : 2 ^ (middle.comparisons - old.comparisons) ≤ 2 ^ 3 =
    pow-le-pow_right (omega arith) short in
    rw (
      both,
      pow-add 2 (middle.comparisons - old.comparisons) (new.comparisons - middle.comparisons),
    ) (mul-le-mul most few)

-- two looks and one more
pub looks-more : (old middle new : Counted) → LooksAtMost 2 old middle → LooksAtMost 1 middle new
    → LooksAtMost 3 old new
looks-more old middle new first second = record {
  compares = omega (arith, first.compares, second.compares);
  few = omega (arith, first.few, second.few);
  writes_no_run = second.writes_no_run ∙ first.writes_no_run;
  writes_no_rule = second.writes_no_rule ∙ first.writes_no_rule;
}

one_few : (runs : ℕ) → 2 ^ 0 ≤ 2 * runs + 1
one_few runs = omega arith

-- three looks are enough
pub looked : (old new : Counted) (runs : ℕ) → LooksAtMost 3 old new
    → FindsByInterpolation old new runs
looked old new runs looks = record {
  compares = looks.compares;
  few = looks-few old new new runs 3 (omega arith) looks (omega arith)
      (let none : new.comparisons - new.comparisons ≡ 0 = omega arith in
      subst (λ (d : ℕ). 2 ^ d ≤ 2 * runs + 1) (sym none) (one_few runs));
  writes_no_run = looks.writes_no_run;
  writes_no_rule = looks.writes_no_rule;
}

-- three looks, and then a search
pub sought : (old middle new : Counted) (runs : ℕ) → LooksAtMost 3 old middle
    → FindsQuickly middle new runs → FindsByInterpolation old new runs
sought old middle new runs looks search = record {
  compares = omega (arith, looks.compares, search.compares);
  few = looks-few old middle new runs 3 (omega arith) looks search.compares search.few;
  writes_no_run = search.writes_no_run ∙ looks.writes_no_run;
  writes_no_rule = search.writes_no_rule ∙ looks.writes_no_rule;
}
