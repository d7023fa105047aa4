-- What a walk or a search with guesses tells of a page.
use Rattle.std.proofs.Common.{◌≡◌, ℕ, zero, suc, ◌+◌, ◌-◌, ◌<◌, ◌≤◌, Option, None, List, []}
use Rattle.std.proofs.Common.{◌∷◌, length, get_or, refl, sym, subst, arith, inl, inr}
use Rattle.std.specs.Prelude.{Result, Ok, Err, IfOk, IfErr}
use Rattle.std.specs.List.{AllWithin}
use Rattle.std.proofs.lemmas.Bool.{cases_lt}
use Rattle.numa_ranges.specs.Runs.{AreApart, end_of, page_at}
use Rattle.numa_ranges.specs.declared.run.Run.{Run}
use Rattle.numa_ranges.proofs.Apart.{apart-rising, page_at-none, in_pages-above}
use Rattle.numa_plan.specs.Found.{IsAt, Tells}
use Rattle.numa_plan.specs.declared.runs.Found.{Found}
use Rattle.numa_plan.proofs.Searching.{apart-ends}

-- the runs before `low` end at the page or before it, and the run at `high`, if there is one,
-- begins so many pages behind it
pub record IsBetween (runs : List (Run (Option ℕ))) (page low high ahead : ℕ) : Type 0 where
  pub within : low ≤ high
  pub top : high ≤ length runs
  pub ended : AllWithin (λ run. end_of run ≤ page) runs 0 low
  pub behind : (d : Run (Option ℕ)) → high < length runs → page + ahead ≡ (get_or runs high d).first
  pub some : 0 < ahead

-- runs that end by a page, and then such as begin behind it
none_between : (from : ℕ) (runs : List (Run (Option ℕ))) (page low : ℕ) → AreApart from runs
    → AllWithin (λ run. end_of run ≤ page) runs 0 low
    → AllWithin (λ run. page < run.first) runs low (length runs) → page_at runs page ≡ None
none_between from [] page low apart ended behind = refl
none_between from (run ∷ runs) page zero apart ended behind =
    page_at-none from (run ∷ runs) page apart behind
none_between from (run ∷ runs) page (suc low) apart ended behind =
    let past : end_of run ≤ page = ended 0 run (omega arith) (omega arith) in
    rw (in_pages-above run.first run.pages page past)
    (none_between (end_of run) runs page low apart.3
    (λ k d k_low k_high. ended (suc k) d (omega arith) (omega arith))
    (λ k d k_low k_high. behind (suc k) d (omega arith) (omega arith)))

module _ (runs : List (Run (Option ℕ))) (page : ℕ) (apart : AreApart 0 runs) where
  -- where a search begins
  pub between_all : (high ahead : ℕ) → high ≤ length runs → 0 < ahead
      → ((d : Run (Option ℕ)) → high < length runs → page + ahead ≡ (get_or runs high d).first)
      → IsBetween runs page 0 high ahead
  between_all high ahead top some behind = record {
    within = omega arith;
    top = top;
    ended = λ k d k_low k_high. absurd (omega arith);
    behind = behind;
    some = some;
  }

  -- a look at a run that ends at the page or before it
  pub between_up : (low high ahead middle far : ℕ) → middle < high
      → ((d : Run (Option ℕ)) → (get_or runs middle d).first + far ≡ page)
      → ((d : Run (Option ℕ)) → (get_or runs middle d).pages ≤ far)
      → IsBetween runs page low high ahead → IsBetween runs page (middle + 1) high ahead
  between_up low high ahead middle far lt lies past h = record {
    within = omega arith;
    top = h.top;
    ended = λ k d k_low k_high. elim (cases_lt k middle) [
      | inl early ↦
          omega (arith, apart-ends 0 runs apart k middle d early (omega (arith, h.top)), lies d)
      | inr late ↦
          let is : k ≡ middle = omega arith in
          subst (λ (n : ℕ). end_of (get_or runs n d) ≤ page) (sym is)
          (omega (arith, lies d, past d))
    ];
    behind = h.behind;
    some = h.some;
  }

  -- a look at a run that begins behind the page
  pub between_down : (low high ahead middle ahead' : ℕ) → low ≤ middle → middle < high
      → ((d : Run (Option ℕ)) → page + ahead' ≡ (get_or runs middle d).first) → 0 < ahead'
      → IsBetween runs page low high ahead → IsBetween runs page low middle ahead'
  between_down low high ahead middle ahead' ge lt behind some h = record {
    within = ge;
    top = omega (arith, h.top);
    ended = h.ended;
    behind = λ d l. behind d;
    some = some;
  }

  -- no run is left
  pub hole_between : (low high ahead : ℕ) → high ≤ low → IsBetween runs page low high ahead
      → Tells runs page (Err ahead)
  hole_between low high ahead le h =
      let is : high ≡ low = omega (arith, h.within) in (
        h.some,
        λ q lt.
            none_between 0 runs (page + q) low apart
            (λ k d k_low k_high. omega (arith, h.ended k d k_low k_high))
            (λ k d k_low k_high.
            omega (
              arith,
              lt,
              subst (λ (n : ℕ). page + ahead ≡ (get_or runs n d).first) is
                  (h.behind d (omega (arith, h.top))),
              apart-rising 0 runs apart low k d k_low k_high,
            )),
      )

  -- a page before the first run
  pub hole_first : (place ahead : ℕ) → place ≡ 0 → place < length runs → 0 < ahead
      → ((d : Run (Option ℕ)) → page + ahead ≡ (get_or runs place d).first)
      → Tells runs page (Err ahead)
  hole_first place ahead is within some behind =
      hole_between 0 place ahead (omega arith)
      (between_all place ahead (omega arith) some (λ d l. behind d))

  -- a page between two runs
  pub hole_behind : (place ahead far : ℕ) → 0 < place → place < length runs → 0 < ahead
      → ((d : Run (Option ℕ)) → page + ahead ≡ (get_or runs place d).first)
      → ((d : Run (Option ℕ)) → (get_or runs (place - 1) d).first + far ≡ page)
      → ((d : Run (Option ℕ)) → (get_or runs (place - 1) d).pages ≤ far)
      → Tells runs page (Err ahead)
  hole_behind place ahead far before within some behind lies past =
      hole_between (place - 1 + 1) place ahead (omega arith)
      (between_up 0 place ahead (place - 1) far (omega arith) lies past
      (between_all place ahead (omega arith) some (λ d l. behind d)))

-- what is told of a page is one of the two
pub found_of : (runs : List (Run (Option ℕ))) (page : ℕ) (told : Result Found ℕ)
    → Tells runs page told → IfOk told (λ found. IsAt runs page found)
found_of runs page (Ok found) h = h
found_of runs page (Err count) h = tt

pub some_of : (runs : List (Run (Option ℕ))) (page : ℕ) (told : Result Found ℕ)
    → Tells runs page told → IfErr told (λ count. 0 < count)
some_of runs page (Ok found) h = tt
some_of runs page (Err count) h = h.0

pub hole_of : (runs : List (Run (Option ℕ))) (page : ℕ) (told : Result Found ℕ)
    → Tells runs page told
    → IfErr told (λ count. (q : ℕ) → q < count → page_at runs (page + q) ≡ None)
hole_of runs page (Ok found) h = tt
hole_of runs page (Err count) h = h.1
