-- Runs whose values stand under numbers: what is done to their rows is done to them.
use Rattle.std.proofs.Common.{◌≡◌, ℕ, zero, suc, ◌+◌, ◌-◌, ◌<◌, ◌≤◌, Some, List, [], ◌∷◌, ◌++◌}
use Rattle.std.proofs.Common.{length, map, take, drop, get_or, refl, sym, ap, subst, ◌∙◌, arith}
use Rattle.std.proofs.Math.ListN.{set}
use Rattle.std.specs.Prelude.{slice_get, Result, Ok, Err, OnErr}
use Rattle.std.specs.List.{AllWithin, splice}
use Rattle.std.proofs.Common.{inl, inr}
use Rattle.std.proofs.lemmas.Bool.{cases_lt}
use Rattle.std.proofs.lemmas.Option.{slice_get-map, slice_get-get_or, slice_get_within}
use Rattle.std.proofs.lemmas.Grind.{flat_map-append}
use Rattle.std.proofs.lemmas.List.{get_or_default, take_more}
use Rattle.numa_ranges.specs.Edits.{StartsAround, with_new_value}
use Rattle.numa_ranges.specs.Runs.{AreApart, AreMaximal}
use Rattle.numa_ranges.specs.Numbered.{run_of_row, run_of, runs_of, AreNumbered, IsLonger}
use Rattle.numa_ranges.specs.Numbered.{AreDifferent}
use Rattle.numa_ranges.specs.declared.run.Run.{Run}
use Rattle.numa_ranges.specs.declared.row.Row.{Row}
use Rattle.numa_ranges.proofs.Apart.{apart-rising}

-- what holds anyway holds where a call was refused
pub at_err : {A E P : Type 0} (r : Result A E) → P → OnErr r P
at_err (Ok a) p = tt
at_err (Err e) p = p

module _ {T : Type 0} where
  -- ---- numbers of a longer list

  pub longer-same : (values : List T) → IsLonger values values
  longer-same values = record { size = omega arith; same = λ n l. refl }

  pub longer-both : (a b c : List T) → IsLonger a b → IsLonger b c → IsLonger a c
  longer-both a b c first second = record {
    size = omega (arith, first.size, second.size);
    same = λ n l. second.same n (omega (arith, first.size)) ∙ first.same n l;
  }

  pub longer-more : (values : List T) (value : T) → IsLonger values (values ++ value ∷ [])
  longer-more values value = record { size = size values; same = same values }
    where
      size : (xs : List T) → length xs ≤ length (xs ++ value ∷ [])
      size [] = omega arith
      size (x ∷ xs) = omega (arith, size xs)

      same : (xs : List T) (n : ℕ) → n < length xs → slice_get (xs ++ value ∷ []) n ≡ slice_get xs n
      same [] n l = absurd (omega arith)
      same (x ∷ xs) zero l = refl
      same (x ∷ xs) (suc n) l = same xs n (omega arith)

  pub last-value : (values : List T) (value : T) (n : ℕ) → n ≡ length values
      → slice_get (values ++ value ∷ []) n ≡ Some value
  last-value [] value zero is = refl
  last-value [] value (suc n) is = absurd (omega arith)
  last-value (x ∷ values) value zero is = absurd (omega arith)
  last-value (x ∷ values) value (suc n) is = last-value values value n (omega arith)

  pub numbered-longer : (old new : List T) (rows : List Row) → IsLonger old new
      → AreNumbered old rows → AreNumbered new rows
  numbered-longer old new [] longer numbered = tt
  numbered-longer old new (row ∷ rows) longer numbered =
      (omega (arith, longer.size, numbered.0), numbered-longer old new rows longer numbered.1)

  pub runs-longer : (old new : List T) (rows : List Row) → IsLonger old new → AreNumbered old rows
      → runs_of new rows ≡ runs_of old rows
  runs-longer old new [] longer numbered = refl
  runs-longer old new (row ∷ rows) longer numbered =
      let head : run_of new row ≡ run_of old row =
      ap (run_of_row row) (longer.same row.number numbered.0) in
      let rest = runs-longer old new rows longer numbered.1 in
      λ i. head i ++ rest i

  -- ---- parts of the rows

  -- one row has one run
  pub one-run : (values : List T) (row : Row) (d : T) → row.number < length values
      → run_of values row ≡ record {
        first = row.first;
        pages = row.pages;
        index = row.index;
        value = get_or values row.number d;
      } ∷ []
  one-run values row d within = ap (run_of_row row) (slice_get-get_or values row.number d within)

  pub length-runs : (values : List T) (rows : List Row) → AreNumbered values rows
      → length (runs_of values rows) ≡ length rows
  length-runs values [] numbered = refl
  length-runs [] (row ∷ rows) numbered = absurd (omega (arith, numbered.0))
  length-runs (v ∷ vs) (row ∷ rows) numbered =
      let head = ap (λ l. length (l ++ runs_of (v ∷ vs) rows))
      (one-run (v ∷ vs) row v numbered.0) in
      omega (arith, head, length-runs (v ∷ vs) rows numbered.1)

  pub numbered-append : (values : List T) (xs ys : List Row) → AreNumbered values xs
      → AreNumbered values ys → AreNumbered values (xs ++ ys)
  numbered-append values [] ys a b = b
  numbered-append values (x ∷ xs) ys a b = (a.0, numbered-append values xs ys a.1 b)

  pub numbered-take : (values : List T) (n : ℕ) (rows : List Row) → AreNumbered values rows
      → AreNumbered values (take n rows)
  numbered-take values zero rows numbered = tt
  numbered-take values (suc n) [] numbered = tt
  numbered-take values (suc n) (row ∷ rows) numbered =
      (numbered.0, numbered-take values n rows numbered.1)

  pub numbered-drop : (values : List T) (n : ℕ) (rows : List Row) → AreNumbered values rows
      → AreNumbered values (drop n rows)
  numbered-drop values zero rows numbered = numbered
  numbered-drop values (suc n) [] numbered = tt
  numbered-drop values (suc n) (row ∷ rows) numbered = numbered-drop values n rows numbered.1

  pub runs-take : (values : List T) (n : ℕ) (rows : List Row) → AreNumbered values rows
      → runs_of values (take n rows) ≡ take n (runs_of values rows)
  runs-take values zero rows numbered = refl
  runs-take values (suc n) [] numbered = refl
  runs-take [] (suc n) (row ∷ rows) numbered = absurd (omega (arith, numbered.0))
  runs-take (v ∷ vs) (suc n) (row ∷ rows) numbered =
      let head = one-run (v ∷ vs) row v numbered.0 in
      let rest = runs-take (v ∷ vs) n rows numbered.1 in
      rw head
      (λ i. record {
        first = row.first;
        pages = row.pages;
        index = row.index;
        value =
            get_or (v ∷ vs) row.number v;
      } ∷ rest i)

  pub runs-drop : (values : List T) (n : ℕ) (rows : List Row) → AreNumbered values rows
      → runs_of values (drop n rows) ≡ drop n (runs_of values rows)
  runs-drop values zero rows numbered = refl
  runs-drop values (suc n) [] numbered = refl
  runs-drop [] (suc n) (row ∷ rows) numbered = absurd (omega (arith, numbered.0))
  runs-drop (v ∷ vs) (suc n) (row ∷ rows) numbered =
      let head = one-run (v ∷ vs) row v numbered.0 in
      rw head (runs-drop (v ∷ vs) n rows numbered.1)

  -- ---- one row

  pub number-at : (values : List T) (rows : List Row) (k : ℕ) (row : Row) → AreNumbered values rows
      → k < length rows → row ≡ get_or rows k row → row.number < length values
  number-at values rows k row numbered within is = subst (λ (r : Row). r.number < length values)
      (sym is) (at rows k numbered within)
    where
      at : (xs : List Row) (k : ℕ) → AreNumbered values xs → k < length xs
          → (get_or xs k row).number < length values
      at [] k numbered within = absurd (omega arith)
      at (x ∷ xs) zero numbered within = numbered.0
      at (x ∷ xs) (suc k) numbered within = at xs k numbered.1 (omega arith)

  pub run-at : (values : List T) (rows : List Row) (k : ℕ) (row : Row) (run d : Run T)
      → AreNumbered values rows → k < length rows → row ≡ get_or rows k row
      → run_of values row ≡ run ∷ [] → run ≡ get_or (runs_of values rows) k d
  run-at values rows k row run d numbered within is one = at rows k numbered within is
    where
      at : (xs : List Row) (k : ℕ) → AreNumbered values xs → k < length xs → row ≡ get_or xs k row
          → run ≡ get_or (runs_of values xs) k d
      at [] k numbered within is = absurd (omega arith)
      at (x ∷ xs) zero numbered within is =
          sym (ap (λ l. get_or (l ++ runs_of values xs) 0 d) (ap (run_of values) (sym is) ∙ one))
      at (x ∷ xs) (suc k) numbered within is =
          let head = one-run values x run.value numbered.0 in
          rw head (at xs k numbered.1 (omega arith) is)

  pub numbered-set : (values : List T) (rows : List Row) (k : ℕ) (row : Row)
      → AreNumbered values rows → row.number < length values → AreNumbered values (set rows k row)
  numbered-set values [] k row numbered within = tt
  numbered-set values (x ∷ xs) zero row numbered within = (within, numbered.1)
  numbered-set values (x ∷ xs) (suc k) row numbered within =
      (numbered.0, numbered-set values xs k row numbered.1 within)

  pub runs-set : (values : List T) (rows : List Row) (k : ℕ) (row : Row) (run : Run T)
      → AreNumbered values rows → run_of values row ≡ run ∷ [] → runs_of values (set rows k row)
      ≡ set (runs_of values rows) k run
  runs-set values [] k row run numbered one = refl
  runs-set values (x ∷ xs) zero row run numbered one =
      let head = one-run values x run.value numbered.0 in
      rw (one, head) refl
  runs-set values (x ∷ xs) (suc k) row run numbered one =
      let head = one-run values x run.value numbered.0 in
      let rest = runs-set values xs k row run numbered.1 one in
      rw head
      (λ i. record {
        first = x.first;
        pages = x.pages;
        index = x.index;
        value =
            get_or values x.number run.value;
      } ∷ rest i)

  -- ---- rows put in the place of others

  pub numbered-splice : (values : List T) (rows more : List Row) (from to : ℕ)
      → AreNumbered values rows → AreNumbered values more
      → AreNumbered values (splice rows from to more)
  numbered-splice values rows more from to a b =
      numbered-append values (take from rows) (more ++ drop to rows)
      (numbered-take values from rows a)
      (numbered-append values more (drop to rows) b (numbered-drop values to rows a))

  pub runs-splice : (values : List T) (rows more : List Row) (from to : ℕ) → AreNumbered values rows
      → runs_of values (splice rows from to more) ≡ splice (runs_of values rows) from to
      (runs_of values more)
  runs-splice values rows more from to numbered =
      let behind = flat_map-append (run_of values) more (drop to rows)
      ∙ ap (λ l. runs_of values more ++ l) (runs-drop values to rows numbered) in
      flat_map-append (run_of values) (take from rows) (more ++ drop to rows)
      ∙ (λ i. runs-take values from rows numbered i ++ behind i)

  -- ---- values that change

  pub numbered-changed : (old new : List T) (rows : List Row) → length new ≡ length old
      → AreNumbered old rows → AreNumbered new rows
  numbered-changed old new [] size numbered = tt
  numbered-changed old new (row ∷ rows) size numbered =
      (omega (arith, numbered.0), numbered-changed old new rows size numbered.1)

  pub runs-changed : (change : T → T) (values : List T) (rows : List Row) → AreNumbered values rows
      → runs_of (map change values) rows ≡ map (with_new_value change) (runs_of values rows)
  runs-changed change values [] numbered = refl
  runs-changed change [] (row ∷ rows) numbered = absurd (omega (arith, numbered.0))
  runs-changed change (v ∷ vs) (row ∷ rows) numbered =
      let value = slice_get-get_or (v ∷ vs) row.number v numbered.0 in
      let rest = runs-changed change (v ∷ vs) rows numbered.1 in
      rw (slice_get-map change (v ∷ vs) row.number, value)
      (λ i. record {
        first = row.first;
        pages = row.pages;
        index = row.index;
        value =
            change (get_or (v ∷ vs) row.number v);
      } ∷ rest i)

  -- ---- rows and runs start at the same pages

  pub first-at : (values : List T) (rows : List Row) (k : ℕ) (row : Row) (d : Run T)
      → AreNumbered values rows → k < length rows → (get_or (runs_of values rows) k d).first
      ≡ (get_or rows k row).first
  first-at values [] k row d numbered within = absurd (omega arith)
  first-at values (x ∷ xs) zero row d numbered within =
      let head = one-run values x d.value numbered.0 in
      rw head refl
  first-at values (x ∷ xs) (suc k) row d numbered within =
      let head = one-run values x d.value numbered.0 in
      rw head (first-at values xs k row d numbered.1 (omega arith))

  pub some-value : (values : List T) (n : ℕ) → n < length values → T
  some-value [] n within = absurd (omega arith)
  some-value (v ∷ vs) n within = v

  pub rows-rising : (values : List T) (rows : List Row) → AreNumbered values rows
      → AreApart 0 (runs_of values rows) → (i j : ℕ) (d : Row) → i ≤ j → j < length rows
      → (get_or rows i d).first ≤ (get_or rows j d).first
  rows-rising values rows numbered apart i j d le within =
      let row = get_or rows j d in
      let inside : row.number < length values = number-at values rows j row numbered within
      (get_or_default rows j d row within) in
      let run : Run T =
      record { first = 0; pages = 0; index = 0; value = some-value values row.number inside } in
      let size = length-runs values rows numbered in
      omega (
        arith,
        apart-rising 0 (runs_of values rows) apart i j run le (omega (arith, size)),
        first-at values rows i d run numbered (omega arith),
        first-at values rows j d run numbered
            within,
      )

  pub starts-around : (values : List T) (rows : List Row) (place page : ℕ) → AreNumbered values rows
      → place ≤ length rows → AllWithin (λ row. row.first ≤ page) rows 0 place
      → AllWithin (λ row. page < row.first) rows place (length rows)
      → StartsAround (runs_of values rows) place page
  starts-around values rows place page numbered within low high =
      let none : Row = record { first = 0; pages = 0; index = 0; number = 0 } in
      let size = length-runs values rows numbered in (
        λ k d a b.
            omega (arith, low k none a b, first-at values rows k none d numbered (omega arith)),
        λ k d a b.
            omega (
              arith,
              high k none a (omega (arith, size)),
              first-at values rows k none d numbered (omega (arith, size)),
            ),
      )

  -- two rows beside each other tell where those end that start at a page or before it
  pub starts-all : (values : List T) (rows : List Row) (count page : ℕ) → AreNumbered values rows
      → AreApart 0 (runs_of values rows) → 0 < count → count ≡ length rows
      → ((d : Row) → (get_or rows (count - 1) d).first ≤ page)
      → StartsAround (runs_of values rows) count page
  starts-all values rows count page numbered apart some all before =
      starts-around values rows count page numbered (omega arith)
      (λ k d low high.
      omega (
        arith,
        rows-rising values rows numbered apart k (count - 1) d (omega arith)
            (omega arith),
        before d,
      ))
      (λ k d low high. absurd (omega (arith, low, high, all)))

  pub starts-beside : (values : List T) (rows : List Row) (count page : ℕ) → AreNumbered values rows
      → AreApart 0 (runs_of values rows) → 0 < count → count < length rows
      → ((d : Row) → (get_or rows (count - 1) d).first ≤ page)
      → ((d : Row) → page < (get_or rows count d).first)
      → StartsAround (runs_of values rows) count page
  starts-beside values rows count page numbered apart some within before behind =
      starts-around values rows count page numbered (omega arith)
      (λ k d low high.
      omega (
        arith,
        rows-rising values rows numbered apart k (count - 1) d (omega arith)
            (omega arith),
        before d,
      ))
      (λ k d low high. omega (
        arith,
        rows-rising values rows numbered apart count k d low high,
        behind d,
      ))

  -- ---- one more row

  pub runs-more : (old new : List T) (rows : List Row) (runs : List (Run T)) (row : Row)
      (run : Run T) (i : ℕ) → IsLonger old new → AreNumbered old rows
      → runs_of old rows ≡ take i runs → i < length runs → run ≡ get_or runs i run
      → run_of new row ≡ run ∷ [] → runs_of new (rows ++ row ∷ []) ≡ take (i + 1) runs
  runs-more old new rows runs row run i longer numbered so_far within is one =
      let last : runs_of new (row ∷ []) ≡ run ∷ [] = ap (λ l. l ++ []) one in
      flat_map-append (run_of new) rows (row ∷ [])
      ∙ (λ k. (runs-longer old new rows longer numbered ∙ so_far) k
      ++ (last ∙ ap (λ r. r ∷ []) is) k)
      ∙ sym (take_more runs i run within)

  pub numbered-more : (old new : List T) (rows : List Row) (row : Row) → IsLonger old new
      → AreNumbered old rows → row.number < length new → AreNumbered new (rows ++ row ∷ [])
  numbered-more old new rows row longer numbered within =
      numbered-append new rows (row ∷ []) (numbered-longer old new rows longer numbered)
      (within, tt)

  pub no-runs : (values : List T) (rows : List Row) → length rows ≡ 0 → runs_of values rows ≡ []
  no-runs values [] none = refl
  no-runs values (row ∷ rows) none = absurd (omega arith)

  -- ---- values that stay different

  pub same-number : (values : List T) (i j : ℕ) (value : T) → AreDifferent values
      → slice_get values i ≡ Some value → slice_get values j ≡ Some value → i ≡ j
  same-number values i j value different a b =
      let li : i < length values = slice_get_within values i value a in
      let lj : j < length values = slice_get_within values j value b in
      let at : (k : ℕ) → k < length values → slice_get values k ≡ Some value
      → get_or values k value ≡ value =
      λ k l is. let e : Some (get_or values k value) ≡ Some value =
      sym (slice_get-get_or values k value l) ∙ is in cc in
      elim (cases_lt i j) [
        | inl low ↦ absurd (different j lj i value low (at i li a ∙ sym (at j lj b)))
        | inr high ↦ elim (cases_lt j i) [
          | inl low ↦ absurd (different i li j value low (at j lj b ∙ sym (at i li a)))
          | inr top ↦ omega arith
        ]
      ]

  -- where no two values are the same, two rows beside each other that had not one value have none
  pub maximal-different : (old new : List T) (rows : List Row) → AreNumbered old rows
      → length new ≡ length old → AreDifferent new → AreMaximal (runs_of old rows)
      → AreMaximal (runs_of new rows)
  maximal-different old new [] numbered size different maximal = tt
  maximal-different [] new (row ∷ rows) numbered size different maximal =
      absurd (omega (arith, numbered.0))
  maximal-different (v ∷ vs) new (row ∷ []) numbered size different maximal =
      let within : row.number < length new = omega (arith, numbered.0, size) in
      rw (one-run new row v within) (tt, tt)
  maximal-different (v ∷ vs) new (row ∷ next ∷ rows) numbered size different maximal =
      let old = v ∷ vs in
      let a : row.number < length new = omega (arith, numbered.0, size) in
      let b : next.number < length new = omega (arith, numbered.1.0, size) in
      let before : AreMaximal (record {
        first = row.first;
        pages = row.pages;
        index = row.index;
        value = get_or old row.number v;
      } ∷ record {
        first = next.first;
        pages = next.pages;
        index = next.index;
        value = get_or old next.number v;
      } ∷ runs_of old rows) =
      subst AreMaximal (λ i. one-run old row v numbered.0 i
      ++ (one-run old next v numbered.1.0 i ++ runs_of old rows)) maximal in
      let rest : AreMaximal (runs_of new (next ∷ rows)) =
      maximal-different old new (next ∷ rows) numbered.1 size different
      (subst AreMaximal (λ i. sym (one-run old next v numbered.1.0) i ++ runs_of old rows)
      before.1) in
      let after : AreMaximal (record {
        first = next.first;
        pages = next.pages;
        index = next.index;
        value = get_or new next.number v;
      } ∷ runs_of new rows) =
      subst AreMaximal (λ i. one-run new next v b i ++ runs_of new rows) rest in
      rw (one-run new row v a, one-run new next v b) (
        λ k.
            let here : slice_get new row.number ≡ Some (get_or new row.number v) =
            slice_get-get_or new row.number v a in
            let there : slice_get new next.number ≡ Some (get_or new row.number v) =
            slice_get-get_or new next.number v b ∙ ap Some k.value in
            let one : next.number ≡ row.number =
            same-number new next.number row.number (get_or new row.number v) different there here
            in
            before.0 (record {
              page = k.page;
              index = k.index;
              value = ap (λ n. get_or old n v) one;
            }),
        after,
      )
