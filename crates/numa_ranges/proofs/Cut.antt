-- Runs that are cut at the ends of a span and edited inside.
use Rattle.std.proofs.Common.{◌≡◌, append_assoc, ℕ, ◌+◌, ◌-◌, ◌<◌, ◌≤◌, ◌^◌, min, max, true, false}
use Rattle.std.proofs.Common.{Option, Some, None, List, [], ◌∷◌, ◌++◌, refl, sym, ap, subst, ◌∙◌}
use Rattle.std.proofs.Common.{arith, ◌⊎◌, inl, inr}
use Rattle.std.specs.Prelude.{if◌then◌else◌}
use Rattle.std.proofs.lemmas.Bool.{cases_lt, lt-ltb, le-ltb}
use Rattle.std.proofs.lemmas.Bool.Decides.{nat_tests}
use Rattle.numa_ranges.specs.Runs.{page_at, in_pages, end_of, AreApart}
use Rattle.numa_ranges.specs.Edits.{part_before, part_from, part_within, with_value, parts, edit_of}
use Rattle.numa_ranges.specs.Edits.{edited_page, edited_span}
use Rattle.std.specs.Prelude.{nat_lt, option_map}
use Rattle.numa_ranges.specs.declared.run.Run.{Run}
use Rattle.numa_ranges.proofs.Apart.{in_pages-true, in_pages-below, in_pages-above, page_at-before}

module _ {T : Type 0} where
  -- the runs before a span keep what they say where the runs after them agree
  pub page_at-append : (xs ys zs : List (Run T)) (page : ℕ) → page_at ys page ≡ page_at zs page
      → page_at (xs ++ ys) page ≡ page_at (xs ++ zs) page
  page_at-append [] ys zs page h = h
  page_at-append (run ∷ xs) ys zs page h =
      ap (λ o. if in_pages run.first run.pages page then Some (
        run.index + (page - run.first),
        run.value,
      ) else o) (page_at-append xs ys zs page h)

  -- the part before a page says what the run says, before that page, and nothing from there on
  before-said : (cut : ℕ) (run : Run T) (rest : List (Run T)) (page : ℕ) → page < cut
      → page_at (part_before cut run ++ rest) page
      ≡ (if in_pages run.first run.pages page then Some (run.index + (page - run.first), run.value)
      else page_at rest page)
  before-said cut run rest page low =
      elim (cases_lt run.first cut) [
        | inl some ↦
            let shorter : in_pages run.first (min run.pages (cut - run.first)) page
            ≡ in_pages run.first run.pages page = grind (arith, nat_tests) in
            rw (lt-ltb _ _ some)
            (ap (λ b. if b then Some (run.index + (page - run.first), run.value) else page_at
            rest page) shorter)
        | inr none ↦ rw (le-ltb _ _ none, in_pages-below run.first run.pages page (omega arith))
            refl
      ]

  before-silent : (cut : ℕ) (run : Run T) (rest : List (Run T)) (page : ℕ) → cut ≤ page
      → page_at (part_before cut run ++ rest) page ≡ page_at rest page
  before-silent cut run rest page high =
      elim (cases_lt run.first cut) [
        | inl some ↦
            rw (
              lt-ltb _ _ some,
              in_pages-above run.first (min run.pages (cut - run.first)) page
                  (omega arith),
            ) refl
        | inr none ↦ rw (le-ltb _ _ none) refl
      ]

  from-said : (cut : ℕ) (run : Run T) (rest : List (Run T)) (page : ℕ) → cut ≤ page
      → page_at (part_from cut run ++ rest) page
      ≡ (if in_pages run.first run.pages page then Some (run.index + (page - run.first), run.value)
      else page_at rest page)
  from-said cut run rest page high =
      elim (cases_lt cut (end_of run)) [
        | inr none ↦ rw (le-ltb _ _ none, in_pages-above run.first run.pages page (omega arith))
            refl
        | inl some ↦ elim (cases_lt page run.first) [
          | inl early ↦
              rw (
                lt-ltb _ _ some,
                in_pages-below (max cut run.first)
                    (end_of run - max cut run.first) page (omega arith),
                in_pages-below run.first run.pages page early,
              ) refl
          | inr late ↦ elim (cases_lt page (end_of run)) [
            | inl here ↦
                let place : run.index + (max cut run.first - run.first) + (page - max cut run.first)
                ≡ run.index + (page - run.first) = omega arith in
                rw (
                  lt-ltb _ _ some,
                  in_pages-true (max cut run.first) (end_of run - max cut run.first) page
                      (omega arith) (omega arith),
                  in_pages-true run.first run.pages page late here,
                )
                (ap (λ n. Some (n, run.value)) place)
            | inr past ↦
                rw (
                  lt-ltb _ _ some,
                  in_pages-above (max cut run.first) (end_of run - max cut run.first) page
                      (omega arith),
                  in_pages-above run.first run.pages page past,
                ) refl
          ]
        ]
      ]

  from-silent : (cut : ℕ) (run : Run T) (rest : List (Run T)) (page : ℕ) → page < cut
      → page_at (part_from cut run ++ rest) page ≡ page_at rest page
  from-silent cut run rest page low =
      elim (cases_lt cut (end_of run)) [
        | inl some ↦
            rw (
              lt-ltb _ _ some,
              in_pages-below (max cut run.first) (end_of run - max cut run.first)
                  page (omega arith),
            ) refl
        | inr none ↦ rw (le-ltb _ _ none) refl
      ]

  -- what an edited run says of its pages
  abbrev said : Option T → ℕ → Option (ℕ × T) → Option (ℕ × T)
  said None index rest = rest
  said (Some value) index rest = Some (index, value)

  within-silent : (first end : ℕ) (edit : T → Option T) (run : Run T) (rest : List (Run T))
      (page : ℕ) → (page < max first run.first) ⊎ (min end (end_of run) ≤ page)
      → page_at (part_within first end edit run ++ rest) page ≡ page_at rest page
  within-silent first end edit run rest page out =
      let lo = max first run.first in
      let hi = min end (end_of run) in
      elim (cases_lt lo hi) [
        | inr none ↦ rw (le-ltb _ _ none) refl
        | inl some ↦
            let silent : in_pages lo (hi - lo) page ≡ false =
            elim out [
              | inl low ↦ in_pages-below lo (hi - lo) page low
              | inr high ↦
                  in_pages-above lo (hi - lo) page (omega arith)
            ] in
            rw (lt-ltb _ _ some)
            (elim (edit run.value) as
            (λ o.
            page_at (with_value
            (record {
              first = lo;
              pages = hi - lo;
              index = run.index + (lo - run.first);
              value =
                  run.value;
            }) o ++ rest) page ≡ page_at rest page)
            [ None ↦ refl | Some value ↦ rw silent refl ])
      ]

  within-said : (first end : ℕ) (edit : T → Option T) (run : Run T) (rest : List (Run T)) (page : ℕ)
      → first ≤ page → page < end → run.first ≤ page → page < end_of run
      → page_at (part_within first end edit run ++ rest) page ≡ said (edit run.value)
      (run.index + (page - run.first)) (page_at rest page)
  within-said first end edit run rest page a b c d =
      let lo = max first run.first in
      let hi = min end (end_of run) in
      let some : lo < hi = omega arith in
      let here : in_pages lo (hi - lo) page ≡ true = in_pages-true lo (hi - lo) page (omega arith)
      (omega arith) in
      let place : run.index + (lo - run.first) + (page - lo) ≡ run.index + (page - run.first) =
      omega arith in
      rw (lt-ltb _ _ some)
      (elim (edit run.value) as
      (λ o.
      page_at (with_value
      (record {
        first = lo;
        pages = hi - lo;
        index = run.index + (lo - run.first);
        value =
            run.value;
      }) o ++ rest) page ≡ said o (run.index + (page - run.first))
      (page_at rest page))
      [ None ↦ refl | Some value ↦ rw here (ap (λ n. Some (n, value)) place) ])

  pub apart-lower : (low from : ℕ) (runs : List (Run T)) → low ≤ from → AreApart from runs
      → AreApart low runs
  apart-lower low from [] le apart = omega (arith, apart)
  apart-lower low from (run ∷ runs) le apart = (omega (arith, apart.0), apart.1, apart.2, apart.3)

  apart-part_from : (from cut : ℕ) (run : Run T) (rest : List (Run T)) → from ≤ end_of run
      → from ≤ max cut run.first → 0 < run.pages → run.index + run.pages ≤ 2 ^ 48
      → AreApart (end_of run) rest → AreApart from (part_from cut run ++ rest)
  apart-part_from from cut run rest le low some_pages index after =
      elim (cases_lt cut (end_of run)) [
        | inl some ↦
            let end : end_of run ≡ max cut run.first + (end_of run - max cut run.first) =
            omega arith in
            rw (lt-ltb _ _ some) (
              low,
              omega arith,
              omega arith,
              subst (λ (n : ℕ). AreApart n rest) end after,
            )
        | inr none ↦ rw (le-ltb _ _ none) (apart-lower from (end_of run) rest le after)
      ]

  apart-part_within : (from first end : ℕ) → first ≤ end
      → (edit : T → Option T) (run : Run T) (rest : List (Run T)) → from ≤ max first run.first
      → from ≤ end_of run → 0 < run.pages → run.index + run.pages ≤ 2 ^ 48
      → AreApart (end_of run) rest
      → AreApart from (part_within first end edit run ++ (part_from end run ++ rest))
  apart-part_within from first end le edit run rest low below some index after =
      let lo = max first run.first in
      let hi = min end (end_of run) in
      elim (cases_lt lo hi) [
        | inr none ↦
            rw (le-ltb _ _ none) (apart-part_from from end run rest below (omega arith) some index
            after)
        | inl inside ↦
            let behind : AreApart (lo + (hi - lo)) (part_from end run ++ rest) =
            apart-part_from (lo + (hi - lo)) end run rest (omega arith) (omega arith) some index
            after in
            rw (lt-ltb _ _ inside)
            (elim (edit run.value) as
            (λ o.
            AreApart from
            (with_value (record {
              first = lo;
              pages = hi - lo;
              index =
                  run.index + (lo - run.first);
              value = run.value;
            }) o
            ++ (part_from end run ++ rest))) [
              | None ↦ apart-part_from from end run rest below (omega arith) some index after
              | Some value ↦ (low, omega arith, omega arith, behind)
            ])
      ]

  apart-parts : (from first end : ℕ) → first ≤ end
      → (edit : T → Option T) (run : Run T) (rest : List (Run T)) → from ≤ run.first → 0 < run.pages
      → run.index + run.pages ≤ 2 ^ 48 → AreApart (end_of run) rest
      → AreApart from
      (part_before first run ++ (part_within first end edit run ++ (part_from end run ++ rest)))
  apart-parts from first end le edit run rest low some index after =
      elim (cases_lt run.first first) [
        | inl begins ↦
            rw (lt-ltb _ _ begins) (
              low,
              omega arith,
              omega arith,
              apart-part_within (run.first + min run.pages (first - run.first)) first end le edit
                  run rest (omega arith) (omega arith) some index after,
            )
        | inr none ↦
            rw (le-ltb _ _ none)
            (apart-part_within from first end le edit run rest (omega arith) (omega arith) some
            index after)
      ]

  regroup : (a b c d : List (Run T)) → (a ++ (b ++ c)) ++ d ≡ a ++ (b ++ (c ++ d))
  regroup a b c d = simp append_assoc

  pub apart-edited : (from first end : ℕ) (edit : T → Option T) (runs : List (Run T)) → first ≤ end
      → AreApart from runs → AreApart from (edit_of first end edit runs)
  apart-edited from first end edit [] le apart = apart
  apart-edited from first end edit (run ∷ runs) le apart =
      subst (AreApart from)
      (sym (regroup (part_before first run) (part_within first end edit run) (part_from end run)
      (edit_of first end edit runs)))
      (apart-parts from first end le edit run (edit_of first end edit runs) apart.0 apart.1 apart.2
      (apart-edited (end_of run) first end edit runs le apart.3))

  edited-here : (edit : T → Option T) (run : Run T) (page : ℕ) (o : Option T)
      → said o (run.index + (page - run.first)) None
      ≡ option_map (λ value. (run.index + (page - run.first), value)) o
  edited-here edit run page None = refl
  edited-here edit run page (Some value) = refl

  -- what the edited runs say, page by page
  pub page_at-edited : (from first pages : ℕ) (edit : T → Option T) (runs : List (Run T)) (page : ℕ)
      → AreApart from runs → page_at (edit_of first (first + pages) edit runs) page
      ≡ edited_span first pages edit (page_at runs) page
  page_at-edited from first pages edit [] page apart = let none : Option (ℕ × T) = None in
      elim (in_pages first pages page) as (λ b. none ≡ (if b then none else none))
      [ true ↦ refl | false ↦ refl ]
  page_at-edited from first pages edit (run ∷ runs) page apart =
      let end = first + pages in
      let rest = edit_of first end edit runs in
      let more = part_from end run ++ rest in
      let hyp : page_at rest page ≡ edited_span first pages edit (page_at runs) page =
      page_at-edited (end_of run) first pages edit runs page apart.3 in
      ap (λ l. page_at l page) (regroup (part_before first run) (part_within first end edit run)
      (part_from end run) rest)
      ∙ elim (cases_lt page first) [
        | inl low ↦
            let out : in_pages first pages page ≡ false = in_pages-below first pages page low in
            let plain : page_at rest page ≡ page_at runs page = hyp ∙ rw out refl in
            before-said first run (part_within first end edit run ++ more) page low
            ∙ ap
            (λ o. if in_pages run.first run.pages page then Some (
              run.index + (page - run.first),
              run.value,
            ) else o) (within-silent first end edit run more page (inl (omega arith))
            ∙ from-silent end run rest page (omega arith) ∙ plain)
            ∙ rw out refl
        | inr high ↦ elim (cases_lt page end) [
          | inr past ↦
              let out : in_pages first pages page ≡ false = in_pages-above first pages page past in
              let plain : page_at rest page ≡ page_at runs page = hyp ∙ rw out refl in
              before-silent first run (part_within first end edit run ++ more) page high
              ∙ within-silent first end edit run more page (inr (omega arith))
              ∙ from-said end run rest page past
              ∙ ap
              (λ o. if in_pages run.first run.pages page then Some (
                run.index + (page - run.first),
                run.value,
              ) else o) plain
              ∙ rw out refl
          | inl inside ↦
              let on : in_pages first pages page ≡ true =
              in_pages-true first pages page high inside in
              let changed : page_at rest page ≡ edited_page edit (page_at runs page) = hyp
              ∙ rw on refl in
              let silent : page_at more page ≡ page_at rest page =
              from-silent end run rest page inside in
              before-silent first run (part_within first end edit run ++ more) page high
              ∙ elim (cases_lt page run.first) [
                | inl early ↦
                    within-silent first end edit run more page (inl (omega arith)) ∙ silent
                    ∙ changed
                    ∙ rw (on, in_pages-below run.first run.pages page early) refl
                | inr late ↦ elim (cases_lt page (end_of run)) [
                  | inr over ↦
                      within-silent first end edit run more page (inr (omega arith)) ∙ silent
                      ∙ changed
                      ∙ rw (on, in_pages-above run.first run.pages page over) refl
                  | inl here ↦
                      let empty : page_at runs page ≡ None = page_at-before (end_of run) runs page
                      apart.3 here in
                      within-said first end edit run more page high inside late here
                      ∙ ap (said (edit run.value) (run.index + (page - run.first)))
                      (silent ∙ changed ∙ ap (edited_page edit) empty)
                      ∙ edited-here edit run page (edit run.value)
                      ∙ rw (on, in_pages-true run.first run.pages page late here) refl
                ]
              ]
        ]
      ]

  -- a run outside the span stays whole
  pub parts-below : (first end : ℕ) (edit : T → Option T) (run : Run T) → first ≤ end
      → 0 < run.pages → end_of run ≤ first → parts first end edit run ≡ run ∷ []
  parts-below first end edit run le some low =
      let whole : min run.pages (first - run.first) ≡ run.pages = omega arith in
      let b : nat_lt run.first first ≡ true = lt-ltb _ _ (omega arith) in
      let w : nat_lt (max first run.first) (min end (end_of run)) ≡ false =
      le-ltb _ _ (omega arith) in
      let f : nat_lt end (end_of run) ≡ false = le-ltb _ _ (omega arith) in
      rw (b, w, f)
      (ap (λ (n : ℕ). record {
        first = run.first;
        pages = n;
        index = run.index;
        value =
            run.value;
      } ∷ []) whole)

  pub parts-above : (first end : ℕ) (edit : T → Option T) (run : Run T) → first ≤ end
      → 0 < run.pages → end ≤ run.first → parts first end edit run ≡ run ∷ []
  parts-above first end edit run le some high =
      let place : max end run.first ≡ run.first = omega arith in
      let whole : end_of run - run.first ≡ run.pages = omega arith in
      let index : run.index + (run.first - run.first) ≡ run.index = omega arith in
      let b : nat_lt run.first first ≡ false = le-ltb _ _ (omega arith) in
      let w : nat_lt (max first run.first) (min end (end_of run)) ≡ false =
      le-ltb _ _ (omega arith) in
      let f : nat_lt end (end_of run) ≡ true = lt-ltb _ _ (omega arith) in
      rw (b, w, f, place)
      (λ i. record { first = run.first; pages = whole i; index = index i; value = run.value }
      ∷ [])
