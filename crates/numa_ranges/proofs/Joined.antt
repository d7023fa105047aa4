-- Runs that continue each other, joined.
use Rattle.std.proofs.Common.{◌≡◌, ℕ, ◌+◌, ◌-◌, ◌&&◌, eqb, Bool, true, false, Some, List, [], ◌∷◌}
use Rattle.std.proofs.Common.{◌++◌, append_assoc, append-nil, refl, sym, ap, subst, ◌∙◌, arith, ◌⊎◌}
use Rattle.std.proofs.Common.{inl, inr}
use Rattle.std.specs.Prelude.{if◌then◌else◌}
use Rattle.std.proofs.lemmas.Bool.{cases_lt, cases_Bool, eqb-true, eq-eqb}
use Rattle.numa_ranges.specs.Runs.{page_at, in_pages, end_of, AreApart, AreMaximal, NotContinued}
use Rattle.numa_ranges.specs.Runs.{Continues}
use Rattle.numa_ranges.specs.Edits.{joins, run_and_next, joined_from, maximal_runs}
use Rattle.numa_ranges.specs.declared.run.Run.{Run}
use Rattle.numa_ranges.proofs.Apart.{in_pages-true, in_pages-below, in_pages-above}

pub and_split : (a b : Bool) → (a && b) ≡ true → (a ≡ true) × (b ≡ true)
and_split true true h = (refl, refl)
and_split true false h = cc
and_split false b h = cc

module _ {T : Type 0} (same : T → T → Bool) (exact : (a b : T) → same a b ≡ true → a ≡ b)
    (itself : (a : T) → same a a ≡ true) where
  pub continues-joins : (run next : Run T) → joins same run next ≡ true → Continues run next
  continues-joins run next h =
      let outer = and_split (eqb next.first (end_of run)) _ h in
      let inner = and_split (eqb next.index (run.index + run.pages)) _ outer.1 in
      record {
        page = eqb-true _ _ outer.0;
        index = eqb-true _ _ inner.0;
        value =
            sym (exact _ _ inner.1);
      }

  pub joins-continues : (run next : Run T) → Continues run next → joins same run next ≡ true
  joins-continues run next h =
      let a : eqb next.first (end_of run) ≡ true = eq-eqb _ _ h.page in
      let b : eqb next.index (run.index + run.pages) ≡ true = eq-eqb _ _ h.index in
      let c : same run.value next.value ≡ true = ap (same run.value) h.value ∙ itself run.value in
      rw (a, b, c) refl

  -- a run and the one that continues it have the pages of both
  pub page_at-grown : (run next : Run T) (runs : List (Run T)) (page : ℕ) → Continues run next
      → page_at (run_and_next run next ∷ runs) page ≡ page_at (run ∷ next ∷ runs) page
  page_at-grown run next runs page h =
      elim (cases_lt page run.first) [
        | inl low ↦
            rw (
              in_pages-below run.first (run.pages + next.pages) page low,
              in_pages-below run.first run.pages page low,
              in_pages-below next.first next.pages page
                  (omega (arith, h.page)),
            ) refl
        | inr low ↦ elim (cases_lt page (end_of run)) [
          | inl in_run ↦
              rw (
                in_pages-true run.first (run.pages + next.pages) page low (omega arith),
                in_pages-true run.first run.pages page low in_run,
              ) refl
          | inr past ↦ elim (cases_lt page (end_of run + next.pages)) [
            | inl in_next ↦
                let place : run.index + (page - run.first) ≡ next.index + (page - next.first) =
                omega (arith, h.page, h.index) in
                rw (
                  in_pages-true run.first (run.pages + next.pages) page low (omega arith),
                  in_pages-above run.first run.pages page past,
                  in_pages-true next.first next.pages page (omega (arith, h.page))
                      (omega (arith, h.page)),
                )
                (λ i. Some (place i, sym h.value i))
            | inr over ↦ rw (
              in_pages-above run.first (run.pages + next.pages) page (omega arith),
              in_pages-above run.first run.pages page past,
              in_pages-above next.first next.pages
                  page (omega (arith, h.page)),
            ) refl
          ]
        ]
      ]

  pub apart-grown : (from : ℕ) (run next : Run T) (runs : List (Run T)) → Continues run next
      → AreApart from (run ∷ next ∷ runs) → AreApart from (run_and_next run next ∷ runs)
  apart-grown from run next runs h apart =
      let end : end_of next ≡ run.first + (run.pages + next.pages) = omega (arith, h.page) in (
        apart.0,
        omega (arith, apart.1),
        omega (arith, h.index, apart.3.2),
        subst (λ (n : ℕ). AreApart n runs) end apart.3.3,
      )

  pub page_at-joined : (runs : List (Run T)) (run : Run T) (page : ℕ)
      → page_at (joined_from same runs run) page ≡ page_at (run ∷ runs) page
  page_at-joined [] run page = refl
  page_at-joined (next ∷ runs) run page =
      elim (cases_Bool (joins same run next)) [
        | inl goes ↦
            rw goes (page_at-joined runs (run_and_next run next) page
            ∙ page_at-grown run next runs page (continues-joins run next goes))
        | inr stops ↦
            rw stops
            (ap (λ o. if in_pages run.first run.pages page then Some
            (run.index + (page - run.first), run.value) else o) (page_at-joined runs next page))
      ]

  pub apart-joined : (from : ℕ) (runs : List (Run T)) (run : Run T) → AreApart from (run ∷ runs)
      → AreApart from (joined_from same runs run)
  apart-joined from [] run apart = apart
  apart-joined from (next ∷ runs) run apart =
      elim (cases_Bool (joins same run next)) [
        | inl goes ↦
            rw goes
            (apart-joined from runs (run_and_next run next)
            (apart-grown from run next runs (continues-joins run next goes) apart))
        | inr stops ↦
            rw stops (apart.0, apart.1, apart.2, apart-joined (end_of run) runs next apart.3)
      ]

  -- joining leaves where the first run begins
  not_continued-joined : (before : Run T) (runs : List (Run T)) (run : Run T)
      → (Continues before run → ⊥) → NotContinued before (joined_from same runs run)
  not_continued-joined before [] run h = h
  not_continued-joined before (next ∷ runs) run h =
      elim (cases_Bool (joins same run next)) [
        | inl goes ↦
            rw goes
            (not_continued-joined before runs (run_and_next run next)
            (λ k. h (record { page = k.page; index = k.index; value = k.value })))
        | inr stops ↦ rw stops h
      ]

  pub maximal-joined : (runs : List (Run T)) (run : Run T) → AreMaximal (joined_from same runs run)
  maximal-joined [] run = (tt, tt)
  maximal-joined (next ∷ runs) run =
      elim (cases_Bool (joins same run next)) [
        | inl goes ↦ rw goes (maximal-joined runs (run_and_next run next))
        | inr stops ↦
            let apart : Continues run next → ⊥ = λ h. let odd : true ≡ false =
            sym (joins-continues run next h) ∙ stops in cc in
            rw stops (not_continued-joined run runs next apart, maximal-joined runs next)
      ]

  pub not-joins : (run next : Run T) → (Continues run next → ⊥) → joins same run next ≡ false
  not-joins run next h = elim (cases_Bool (joins same run next))
      [ inl goes ↦ absurd (h (continues-joins run next goes)) | inr stops ↦ stops ]

  -- a maximal list is its own joined form
  pub joined-still : (runs : List (Run T)) (run : Run T) → NotContinued run runs → AreMaximal runs
      → joined_from same runs run ≡ run ∷ runs
  joined-still [] run stops maximal = refl
  joined-still (next ∷ runs) run stops maximal =
      rw (not-joins run next stops) (ap (λ l. run ∷ l) (joined-still runs next maximal.0 maximal.1))

  -- a run that grew is continued by what continues its last part
  not_continued-grown : (run next : Run T) (runs : List (Run T)) → Continues run next
      → NotContinued next runs → NotContinued (run_and_next run next) runs
  not_continued-grown run next [] h stops = tt
  not_continued-grown run next (more ∷ runs) h stops =
      λ k.
      stops (record {
        page = omega (arith, k.page, h.page);
        index =
            omega (arith, k.index, h.index);
        value = k.value ∙ sym h.value;
      })

  seam-right : (xs : List (Run T)) (run last : Run T) (after : List (Run T))
      → NotContinued last after → AreMaximal after → joined_from same (xs ++ last ∷ after) run
      ≡ joined_from same (xs ++ last ∷ []) run ++ after
  seam-right [] run last after stops maximal =
      elim (cases_Bool (joins same run last)) [
        | inl goes ↦
            rw goes
            (joined-still after (run_and_next run last)
            (not_continued-grown run last after (continues-joins run last goes) stops) maximal)
        | inr apart ↦ rw apart (ap (λ l. run ∷ l) (joined-still after last stops maximal))
      ]
  seam-right (x ∷ xs) run last after stops maximal =
      elim (cases_Bool (joins same run x)) [
        | inl goes ↦ rw goes (seam-right xs (run_and_next run x) last after stops maximal)
        | inr apart ↦ rw apart (ap (λ l. run ∷ l) (seam-right xs x last after stops maximal))
      ]

  seam-left : (before : List (Run T)) (run next : Run T) (rest : List (Run T))
      → AreMaximal (run ∷ before ++ next ∷ []) → joined_from same (before ++ next ∷ rest) run ≡ run
      ∷ before ++ joined_from same rest next
  seam-left [] run next rest maximal = rw (not-joins run next maximal.0) refl
  seam-left (x ∷ before) run next rest maximal =
      rw (not-joins run x maximal.0) (ap (λ l. run ∷ l) (seam-left before x next rest maximal.1))

  -- what stands before a list, and the list begins with a run that did not continue it
  abbrev pub LeftSeam : List (Run T) → List (Run T) → Type 0
  LeftSeam before runs = (before ≡ [])
      ⊎ ((first : Run T) × (rest : List (Run T)) × (runs ≡ first ∷ rest)
      × AreMaximal (before ++ first ∷ []))

  abbrev pub RightSeam : List (Run T) → List (Run T) → Type 0
  RightSeam runs after = (after ≡ [])
      ⊎ ((front : List (Run T)) × (last : Run T) × (runs ≡ front ++ last ∷ [])
      × AreMaximal (last ∷ after))

  pub joined-before : (before runs : List (Run T)) → LeftSeam before runs
      → maximal_runs same (before ++ runs) ≡ before ++ maximal_runs same runs
  joined-before before runs (inl none) = rw none refl
  joined-before [] runs (inr h) = refl
  joined-before (run ∷ before) runs (inr h) = rw h.2 (seam-left before run h.0 h.1 h.3)

  pub joined-after : (runs after : List (Run T)) → RightSeam runs after
      → maximal_runs same (runs ++ after) ≡ maximal_runs same runs ++ after
  joined-after runs after (inl none) = rw (none, append-nil runs) (sym (append-nil _))
  joined-after runs after (inr h) =
      rw (h.2, append_assoc)
      (elim h.0 as (λ front. maximal_runs same (front ++ h.1 ∷ after) ≡ maximal_runs same
      (front ++ h.1 ∷ []) ++ after) [
        | [] ↦ joined-still after h.1 h.3.0 h.3.1
        | x ∷ xs ↦ seam-right xs x h.1 after h.3.0 h.3.1
      ])
