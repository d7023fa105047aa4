-- Rows that an edit makes, and the runs that they stand for.
use Rattle.std.proofs.Common.{◌≡◌, ℕ, zero, suc, ◌+◌, ◌<◌, ◌≤◌, Bool, true, false, Option, Some}
use Rattle.std.proofs.Common.{None}
use Rattle.std.proofs.Common.{List, [], ◌∷◌, ◌++◌, length, take, get_or, refl, sym, ap, subst, ◌∙◌}
use Rattle.std.proofs.Common.{inl, inr}
use Rattle.std.proofs.Common.{arith, append_assoc, drop, length-append, length-take, ◌-◌, min, max}
use Rattle.std.specs.Prelude.{All, slice_get}
use Rattle.std.specs.List.{slice_range}
use Rattle.std.proofs.lemmas.Bool.{cases_lt, le-ltb, lt-ltb}
use Rattle.std.proofs.lemmas.Option.{slice_get_within}
use Rattle.std.proofs.lemmas.List.{get_or_default, get_or-take}
use Rattle.numa_ranges.specs.Runs.{Continues, end_of}
use Rattle.numa_ranges.specs.Edits.{IsInRange, maximal_runs, joined_after, run_and_next, edit_of}
use Rattle.numa_ranges.specs.Edits.{part_before, part_within, part_from}
use Rattle.numa_ranges.specs.Edited.{IsPlaced, IsEditedRow, AreEditedRows, IsOpen, value_of_row}
use Rattle.numa_ranges.specs.Edited.{edited_value}
use Rattle.numa_ranges.specs.Gathered.{AreGathered}
use Rattle.numa_ranges.specs.Numbered.{run_of_row, run_of, runs_of, AreNumbered, IsLonger}
use Rattle.numa_ranges.specs.Numbered.{AreRowsOf}
use Rattle.numa_ranges.specs.declared.run.Run.{Run}
use Rattle.numa_ranges.specs.declared.row.Row.{Row}
use Rattle.numa_ranges.specs.declared.edited_row.EditedRow.{EditedRow}
use Rattle.numa_ranges.specs.declared.edited_rows.EditedRows.{EditedRows}
use Rattle.numa_ranges.proofs.Gather.{sealed-some, sealed-none}
use Rattle.numa_ranges.proofs.Joined.{joins-continues}
use Rattle.numa_ranges.proofs.Moves.{any-run}
use Rattle.numa_ranges.proofs.Numbered.{length-runs, number-at, numbered-more, one-run, run-at}
use Rattle.numa_ranges.proofs.Numbered.{runs-drop, runs-more, some-value}
use Rattle.numa_ranges.proofs.Walked.{step-read, step-short}
use Rattle.numa_ranges.proofs.Window.{within-some}

module _ {T : Type 0} where
  -- what a row with a value has
  pub record IsOfRow (row : Row) (value : Option T) (run : Run T) : Type 0 where
    pub first : row.first ≡ run.first
    pub pages : row.pages ≡ run.pages
    pub index : row.index ≡ run.index
    pub holds : value ≡ Some run.value

  of-row : (row : Row) (value : Option T) (run : Run T) → run_of_row row value ≡ run ∷ []
      → IsOfRow row value run
  of-row row None run one = absurd (let odd : 0 ≡ 1 = ap length one in omega (arith, odd))
  of-row row (Some value) run one =
      let made : Run T =
      record { first = row.first; pages = row.pages; index = row.index; value = value } in
      let same : made ≡ run = ap (λ (l : List (Run T)). get_or l 0 run) one in
      record {
        first = ap (λ (r : Run T). r.first) same;
        pages = ap (λ (r : Run T). r.pages) same;
        index = ap (λ (r : Run T). r.index) same;
        holds = ap (λ (r : Run T). Some r.value) same;
      }

  pub row-has : (values : List T) (row : Row) (run : Run T) → run_of values row ≡ run ∷ []
      → IsOfRow row (slice_get values row.number) run
  row-has values row run one = of-row row (slice_get values row.number) run one

  pub row-placed : (values : List T) (row : Row) (run : Run T) → run_of values row ≡ run ∷ []
      → IsInRange run → IsPlaced row.first row.pages row.index
  row-placed values row run one inside =
      let has = row-has values row run one in
      record {
        last_page = omega (arith, has.first, has.pages, inside.end);
        last_index = omega (arith, has.index, has.pages, inside.index);
      }

  -- the run of the row that a walk has come to
  pub record RunThere (values : List T) (rows : List Row) (k : ℕ) (row : Row) : Type 0 where
    pub run : Run T
    pub one : run_of values row ≡ run ∷ []
    pub within : k < length (runs_of values rows)
    pub is : run ≡ get_or (runs_of values rows) k run

  pub row-there : (values : List T) (rows rest ys : List Row) (k : ℕ) (row : Row)
      → AreNumbered values rows → rest ≡ drop k rows → rest ≡ row ∷ ys
      → RunThere values rows k row
  row-there values rows rest ys k row numbered left opens =
      let short : k < length rows = step-short rows rest ys k row left opens in
      let read : row ≡ get_or rows k row = step-read rows rest ys k row row left opens in
      let inside : row.number < length values = number-at values rows k row numbered short read in
      let d = some-value values row.number inside in
      let made : Run T = record {
        first = row.first;
        pages = row.pages;
        index = row.index;
        value = get_or values row.number d;
      } in
      let one : run_of values row ≡ made ∷ [] = one-run values row d inside in
      record {
        run = made;
        one = one;
        within = omega (arith, short, length-runs values rows numbered);
        is = run-at values rows k row made made numbered short read one;
      }

  pub there-placed : (values : List T) (rows : List Row) (k n : ℕ) (row : Row)
      → RunThere values rows k row → k < n → All IsInRange (take n (runs_of values rows))
      → IsPlaced row.first row.pages row.index
  there-placed values rows k n row there below all =
      let runs = runs_of values rows in
      row-placed values row there.run there.one
      (subst IsInRange (get_or-take n runs k there.run below ∙ sym there.is)
      (all k there.run (omega (arith, length-take n runs, there.within, below))))

  pub there-some : (values : List T) (rows : List Row) (k n : ℕ) (row : Row)
      (there : RunThere values rows k row) → k < n
      → All (λ run. 0 < run.pages) (take n (runs_of values rows)) → 0 < there.run.pages
  there-some values rows k n row there below all =
      let runs = runs_of values rows in
      subst (λ (run : Run T). 0 < run.pages)
      (get_or-take n runs k there.run below ∙ sym there.is)
      (all k there.run (omega (arith, length-take n runs, there.within, below)))

  -- no part of a run is inside a span that it doesn't meet
  pub within-out : (first end start stop : ℕ) (change : T → Option T) (run : Run T)
      → start ≡ max first run.first → stop ≡ min end (end_of run) → stop ≤ start
      → part_within first end change run ≡ []
  within-out first end start stop change run a b out =
      let c : min end (end_of run) ≤ max first run.first = omega (arith, a, b, out) in
      rw (le-ltb _ _ c) refl

  -- the part between the first page and another is the part before that
  pub kept-before : (page : ℕ) (run : Run T) → 0 < run.pages
      → part_within 0 page (λ value. Some value) run ≡ part_before page run
  kept-before page run some = elim (cases_lt run.first page) [
    | inl below ↦
        let pages : min page (end_of run) - run.first ≡ min run.pages (page - run.first) =
        omega (arith, some, below) in
        let index : run.index + (run.first - run.first) ≡ run.index = omega arith in
        within-some 0 page run.first (min page (end_of run)) (λ value. Some value) run run.value
        (omega arith) refl (omega (arith, some, below)) refl
        ∙ rw (lt-ltb _ _ below, pages, index) refl
    | inr above ↦
        within-out 0 page run.first (min page (end_of run)) (λ value. Some value) run
        (omega arith) refl (omega (arith, above))
        ∙ sym (rw (le-ltb _ _ above) refl)
  ]

  -- the part between a page and one behind a run is the part from that page on
  pub kept-from : (page top : ℕ) (run : Run T) → 0 < run.pages → end_of run ≤ top
      → part_within page top (λ value. Some value) run ≡ part_from page run
  kept-from page top run some inside = elim (cases_lt page (end_of run)) [
    | inl below ↦
        within-some page top (max page run.first) (end_of run) (λ value. Some value) run run.value
        refl (omega (arith, inside)) (omega (arith, some, below)) refl
        ∙ rw (lt-ltb _ _ below) refl
    | inr above ↦
        within-out page top (max page run.first) (end_of run) (λ value. Some value) run
        refl (omega (arith, inside)) (omega (arith, above))
        ∙ sym (rw (le-ltb _ _ above) refl)
  ]

module _ {T : Type 0} (change : T → Option T) where
  -- ---- one more row

  pub rows-more : (values : List T) (rows : List EditedRow) (runs : List (Run T))
      (row : EditedRow) (run : Run T) → AreEditedRows change values rows runs
      → IsEditedRow change values row run
      → AreEditedRows change values (rows ++ row ∷ []) (runs ++ run ∷ [])
  rows-more values [] [] row run all one = (one, tt)
  rows-more values [] (r ∷ runs) row run all one = absurd all
  rows-more values (x ∷ rows) [] row run all one = absurd all
  rows-more values (x ∷ rows) (r ∷ runs) row run all one =
      (all.0, rows-more values rows runs row run all.1 one)

  pub edited-length : (values : List T) (rows : List EditedRow) (runs : List (Run T))
      → AreEditedRows change values rows runs → length runs ≡ length rows
  edited-length values [] [] all = refl
  edited-length values [] (r ∷ runs) all = absurd all
  edited-length values (x ∷ rows) [] all = absurd all
  edited-length values (x ∷ rows) (r ∷ runs) all =
      ap (λ n. suc n) (edited-length values rows runs all.1)

  pub edited-at : (values : List T) (rows : List EditedRow) (runs : List (Run T)) (k : ℕ)
      (row : EditedRow) (d : Run T) → AreEditedRows change values rows runs → k < length rows
      → row ≡ get_or rows k row → IsEditedRow change values row (get_or runs k d)
  edited-at values [] runs k row d all within is = absurd (omega arith)
  edited-at values (x ∷ rows) [] k row d all within is = absurd all
  edited-at values (x ∷ rows) (r ∷ runs) zero row d all within is =
      subst (λ (e : EditedRow). IsEditedRow change values e r) (sym is) all.0
  edited-at values (x ∷ rows) (r ∷ runs) (suc k) row d all within is =
      edited-at values rows runs k row d all.1 (omega arith) is

  -- the value of a row stays where there are more values
  pub value-longer : (old new : List T) (row : EditedRow) (value : T) → IsLonger old new
      → value_of_row change old row ≡ Some value → value_of_row change new row ≡ Some value
  value-longer old new row value longer is =
      go (slice_get old row.number) refl
    where
      go : (o : Option T) → slice_get old row.number ≡ o
          → value_of_row change new row ≡ Some value
      go None none =
          let odd : None ≡ Some value =
          ap (edited_value change row.is_edited) (sym none) ∙ is in cc
      go (Some v) some =
          ap (edited_value change row.is_edited)
          (longer.same row.number (slice_get_within old row.number v some)) ∙ is

  -- ---- the open row

  pub opened : (values : List T) (row : Option EditedRow) (run : Option (Run T)) (last : EditedRow)
      → row ≡ Some last → IsOpen change values row run
      → (r : Run T) × (run ≡ Some r) × IsEditedRow change values last r
  opened values None run last is open_ = absurd (let odd : None ≡ Some last = is in cc)
  opened values (Some row) None last is open_ = absurd open_
  opened values (Some row) (Some run) last is open_ =
      let same : row ≡ last = cc in
      (run, refl, subst (λ (e : EditedRow). IsEditedRow change values e run) same open_)

  pub not-opened : (values : List T) (row : Option EditedRow) (run : Option (Run T)) → row ≡ None
      → IsOpen change values row run → run ≡ None
  not-opened values None None is open_ = refl
  not-opened values None (Some run) is open_ = absurd open_
  not-opened values (Some row) run is open_ = absurd (let odd : Some row ≡ None = is in cc)

  pub grown : (values : List T) (row next joined : EditedRow) (run other : Run T)
      → IsEditedRow change values row run → IsEditedRow change values next other
      → joined ≡ record {
        first = row.first;
        pages = row.pages + next.pages;
        index = row.index;
        number = row.number;
        is_edited = row.is_edited;
      } → IsEditedRow change values joined (run_and_next run other)
  grown values row next joined run other a b is =
      subst (λ (e : EditedRow). IsEditedRow change values e (run_and_next run other)) (sym is)
      (record {
        first = a.first;
        pages = omega (arith, a.pages, b.pages);
        index = a.index;
        value = a.value;
      })

  -- ---- numbers for the values of rows

  pub rows-step : (start old new : List T) (edited : List EditedRow) (rows : List Row)
      (runs : List (Run T)) (i number : ℕ) (row : EditedRow) → IsLonger start old
      → IsLonger old new → AreEditedRows change start edited runs → i < length edited
      → row ≡ get_or edited i row → AreRowsOf old rows (take i runs)
      → ((value : T) → value_of_row change old row ≡ Some value
      → slice_get new number ≡ Some value)
      → AreRowsOf new (rows ++ record {
        first = row.first;
        pages = row.pages;
        index = row.index;
        number = number;
      } ∷ []) (take (i + 1) runs)
  rows-step start old new edited rows runs i number row longer more all within is so_far gives =
      let size = edited-length start edited runs all in
      let below : i < length runs = omega (arith, size, within) in
      let d = any-run runs (omega (arith, below)) in
      let run : Run T = get_or runs i d in
      let one = edited-at start edited runs i row d all within is in
      let here : slice_get new number ≡ Some run.value =
      gives run.value (value-longer start old row run.value longer one.value) in
      let made : Row = record {
        first = row.first;
        pages = row.pages;
        index = row.index;
        number = number;
      } in
      let fields : run_of new made ≡ run ∷ [] = ap (run_of_row made) here
      ∙ (λ k. record {
        first = one.first k;
        pages = one.pages k;
        index = one.index k;
        value = run.value;
      } ∷ []) in
      record {
        numbered = numbered-more old new rows made more so_far.numbered
            (slice_get_within new number run.value here);
        runs = runs-more old new rows runs made run i more so_far.numbered so_far.runs below
            (get_or_default runs i d run below) fields;
      }

module _ {T : Type 0} (same : T → T → Bool) (exact : (a b : T) → same a b ≡ true → a ≡ b)
    (itself : (a : T) → same a a ≡ true) where
  pub so_far-opened : (added closed : List (Run T)) (open_run : Option (Run T)) (run : Run T)
      → open_run ≡ None
      → ((rest : List (Run T)) → maximal_runs same (added ++ rest) ≡ closed
      ++ joined_after same open_run rest)
      → (rest : List (Run T)) → maximal_runs same ((added ++ run ∷ []) ++ rest)
      ≡ closed ++ joined_after same (Some run) rest
  so_far-opened added closed open_run run is h rest =
      ap (maximal_runs same) (append_assoc added (run ∷ []) rest) ∙ (h (run ∷ rest)
      ∙ ap (λ o. closed ++ joined_after same o (run ∷ rest)) is)

  pub so_far-joined : (added closed : List (Run T)) (open_run : Option (Run T)) (last run : Run T)
      → open_run ≡ Some last → Continues last run
      → ((rest : List (Run T)) → maximal_runs same (added ++ rest) ≡ closed
      ++ joined_after same open_run rest)
      → (rest : List (Run T)) → maximal_runs same ((added ++ run ∷ []) ++ rest)
      ≡ closed ++ joined_after same (Some (run_and_next last run)) rest
  so_far-joined added closed open_run last run is goes h rest =
      let here : joined_after same (Some last) (run ∷ rest)
      ≡ joined_after same (Some (run_and_next last run)) rest =
      rw (joins-continues same exact itself last run goes) refl in
      ap (maximal_runs same) (append_assoc added (run ∷ []) rest) ∙ (h (run ∷ rest)
      ∙ (ap (λ o. closed ++ joined_after same o (run ∷ rest)) is ∙ ap (λ l. closed ++ l) here))

  -- the closed rows and their number, once the open one is closed
  pub record IsSealed (change : T → Option T) (values : List T) (rows : EditedRows)
      (added : List (Run T)) : Type 0 where
    pub size : rows.count ≡ length (maximal_runs same added)
    pub kept : rows.is_refused ≡ false
        → AreEditedRows change values rows.closed.items (maximal_runs same added)

  pub sealed : (change : T → Option T) (values : List T) (rows new : EditedRows)
      (added : List (Run T)) → AreGathered same change values rows added
      → (rows.open_row ≡ None → (new.count ≡ rows.count) × (new.is_refused ≡ rows.is_refused)
      × (new.closed.items ≡ rows.closed.items))
      → ((row : EditedRow) → rows.open_row ≡ Some row → (new.count ≡ rows.count + 1)
      × (new.is_refused ≡ false → (rows.is_refused ≡ false)
      × (new.closed.items ≡ rows.closed.items ++ row ∷ [])))
      → IsSealed change values new added
  sealed change values rows new added h none some = go rows.open_row refl
    where
      go : (o : Option EditedRow) → rows.open_row ≡ o → IsSealed change values new added
      go None is =
          let closed = none is in
          let open_ = not-opened change values rows.open_row h.open_run is h.opened in
          let all : maximal_runs same added ≡ h.closed =
          sealed-none same exact itself added h.closed h.open_run open_ h.so_far in
          record {
            size = omega (arith, closed.0, h.count, ap length all);
            kept = λ e. subst (λ (l : List (Run T)).
                AreEditedRows change values new.closed.items l) (sym all)
                (subst (λ (l : List EditedRow). AreEditedRows change values l h.closed)
                (sym closed.2) (h.kept (sym closed.1 ∙ e)));
          }
      go (Some last) is =
          let closed = some last is in
          let open_ = opened change values rows.open_row h.open_run last is h.opened in
          let all : maximal_runs same added ≡ h.closed ++ open_.0 ∷ [] =
          sealed-some same exact itself added h.closed h.open_run open_.0 open_.1 h.so_far in
          record {
            size = omega (
              arith,
              closed.0,
              h.count,
              ap length all,
              length-append h.closed (open_.0 ∷ []),
            );
            kept = λ e. subst (λ (l : List (Run T)).
                AreEditedRows change values new.closed.items l) (sym all)
                (subst (λ (l : List EditedRow).
                AreEditedRows change values l (h.closed ++ open_.0 ∷ [])) (sym (closed.1 e).1)
                (rows-more change values rows.closed.items h.closed last open_.0
                (h.kept (closed.1 e).0) open_.2));
          }

  -- what was gathered of rows from a place on is of a window of the runs
  pub gathered-window : (change : T → Option T) (seen values : List T) (rest rows : List Row)
      (edited : EditedRows) (from to first end : ℕ) → AreNumbered values rows → seen ≡ values
      → rest ≡ drop from rows
      → AreGathered same change seen edited
      (edit_of first end change (take (to - from) (runs_of seen rest)))
      → AreGathered same change values edited
      (edit_of first end change (slice_range (runs_of values rows) from to))
  gathered-window change seen values rest rows edited from to first end numbered a is h =
      let runs : runs_of values rest ≡ drop from (runs_of values rows) =
      ap (runs_of values) is ∙ runs-drop values from rows numbered in
      let here = subst (λ (v : List T). AreGathered same change v edited
      (edit_of first end change (take (to - from) (runs_of v rest)))) a h in
      subst (λ (l : List (Run T)). AreGathered same change values edited
      (edit_of first end change (take (to - from) l))) runs here

pub placed-some : (row x : EditedRow) → Some row ≡ Some x → IsPlaced row.first row.pages row.index
    → IsPlaced x.first x.pages x.index
placed-some row x is placed =
    let same : row ≡ x = cc in
    subst (λ (e : EditedRow). IsPlaced e.first e.pages e.index) same placed
