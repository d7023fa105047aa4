-- What a change of a span's pages leaves of a list of maximal runs: those that end before the span
-- stay, and those that begin behind it only move.
use Rattle.std.proofs.Common.{◌≡◌, ℕ, zero, suc, ◌+◌, ◌-◌, ◌<◌, ◌≤◌, cond, Bool, true, false}
use Rattle.std.proofs.Common.{is_some, Option, Some, None, List, [], ◌∷◌, ◌++◌, length, length-take}
use Rattle.std.proofs.Common.{length-drop, take, drop, get_or, get_or-drop, get_or-take, refl, sym}
use Rattle.std.proofs.Common.{ap, subst, ◌∙◌, arith, inl, inr}
use Rattle.std.specs.Prelude.{nat_le}
use Rattle.std.specs.List.{AllWithin, slice_range, splice}
use Rattle.std.proofs.lemmas.Bool.{cases_lt, le-leb, lt-leb}
use Rattle.std.proofs.lemmas.List.{get_or_default, take_more}
use Rattle.numa_ranges.specs.Runs.{end_of, page_at, AreApart, AreMaximal}
use Rattle.numa_ranges.specs.Counts.{goes_on, is_start, IsRange}
use Rattle.numa_ranges.specs.Windows.{IsWindow, AgreeOutside, to_now, Moves}
use Rattle.numa_ranges.specs.declared.run.Run.{Run}
use Rattle.numa_ranges.proofs.Apart.{in_pages-true, page_at-before, apart-from}
use Rattle.numa_ranges.proofs.Counted.{behind-run, gap, head, starts-alone}
use Rattle.numa_ranges.proofs.Laws.{range-head, goes-inside, one-range, same-runs}
use Rattle.numa_ranges.proofs.Window.{around}

module _ {T : Type 0} where
  -- the runs that begin behind a page
  abbrev pub behind_page : ℕ → List (Run T) → List (Run T)
  behind_page end [] = []
  behind_page end (run ∷ runs) = cond (nat_le run.first end) (behind_page end runs) (run ∷ runs)

  pub passed-one : (end : ℕ) (run : Run T) (runs : List (Run T)) → run.first ≤ end
      → behind_page end (run ∷ runs) ≡ behind_page end runs
  passed-one end run runs low = rw (le-leb run.first end low) refl

  pub kept-one : (end : ℕ) (run : Run T) (runs : List (Run T)) → end < run.first
      → behind_page end (run ∷ runs) ≡ run ∷ runs
  kept-one end run runs high = rw (lt-leb run.first end high) refl

  -- the place from which on the runs begin behind a page
  pub record PlaceBehind (end : ℕ) (runs : List (Run T)) : Type 0 where
    pub place : ℕ
    pub within : place ≤ length runs
    pub rest : drop place runs ≡ behind_page end runs
    pub beginning : AllWithin (λ run. run.first ≤ end) runs 0 place

  pub place-behind : (end : ℕ) (runs : List (Run T)) → PlaceBehind end runs
  place-behind end [] = record {
    place = 0;
    within = omega arith;
    rest = refl;
    beginning =
        λ k d low high. absurd (omega arith);
  }
  place-behind end (run ∷ runs) =
      elim (cases_lt end run.first) [
        | inl high ↦
            record {
              place = 0;
              within = omega arith;
              rest = sym (kept-one end run runs high);
              beginning = λ k d a b. absurd (omega arith);
            }
        | inr low ↦
            let later = place-behind end runs in
            record {
              place = suc later.place;
              within = omega (arith, later.within);
              rest = later.rest ∙ sym (passed-one end run runs low);
              beginning = one run runs later.place low later.beginning;
            }
      ]
    where
      one : (run : Run T) (runs : List (Run T)) (place : ℕ) → run.first ≤ end
          → AllWithin (λ run. run.first ≤ end) runs 0 place
          → AllWithin (λ run. run.first ≤ end) (run ∷ runs) 0 (suc place)
      one run runs place low all zero d a b = low
      one run runs place low all (suc k) d a b = all k d (omega arith) (omega arith)

  -- what a window leaves behind itself
  pub drop-behind : (end : ℕ) (runs : List (Run T)) (to : ℕ) → to ≤ length runs
      → AllWithin (λ run. run.first ≤ end) runs 0 to → AllWithin (λ run. end < run.first) runs to
      (length runs) → drop to runs ≡ behind_page end runs
  drop-behind end [] zero within low high = refl
  drop-behind end [] (suc to) within low high = absurd (omega arith)
  drop-behind end (run ∷ runs) zero within low high =
      sym (kept-one end run runs (high 0 run (omega arith) (omega arith)))
  drop-behind end (run ∷ runs) (suc to) within low high =
      drop-behind end runs to (omega arith) (λ k d a b. low (suc k) d (omega arith) (omega arith))
      (λ k d a b. high (suc k) d (omega arith) (omega arith))
      ∙ sym (passed-one end run runs (low 0 run (omega arith) (omega arith)))

  -- a run of the list, where it has one
  pub any-run : (runs : List (Run T)) → 0 < length runs → Run T
  any-run [] some = absurd (omega arith)
  any-run (run ∷ runs) some = run

  -- a run ends before a later one begins
  pub ends-rising : (low : ℕ) (runs : List (Run T)) (j k : ℕ) (d : Run T) → AreApart low runs
      → j < k → k < length runs → end_of (get_or runs j d) ≤ (get_or runs k d).first
  ends-rising low [] j k d apart lt l = absurd (omega arith)
  ends-rising low (run ∷ runs) j zero d apart lt l = absurd (omega arith)
  ends-rising low (run ∷ runs) zero (suc k) d apart lt l = apart-from (end_of run) runs k d apart.3
      (omega arith)
  ends-rising low (run ∷ runs) (suc j) (suc k) d apart lt l =
      ends-rising (end_of run) runs j k d apart.3 (omega arith) (omega arith)

  pub each-some : (low : ℕ) (runs : List (Run T)) (k : ℕ) (d : Run T) → AreApart low runs
      → k < length runs → 0 < (get_or runs k d).pages
  each-some low [] k d apart l = absurd (omega arith)
  each-some low (run ∷ runs) zero d apart l = apart.1
  each-some low (run ∷ runs) (suc k) d apart l = each-some (end_of run) runs k d apart.3
      (omega arith)

  pub taken-same : (xs ys : List (Run T)) (n k : ℕ) (d : Run T) → take n xs ≡ take n ys → k < n
      → get_or xs k d ≡ get_or ys k d
  taken-same xs ys n k d same l = sym (get_or-take n xs k d l) ∙ ap (λ l. get_or l k d) same
      ∙ get_or-take n ys k d l

  -- the runs of a list up to one that ends before a page do so too
  all-before : (runs : List (Run T)) (k first : ℕ) (d : Run T) → AreApart 0 runs → k < length runs
      → end_of (get_or runs k d) < first → AllWithin (λ run. end_of run < first) runs 0 (k + 1)
  all-before runs k first d apart l short j e a b =
      let default : get_or runs k e ≡ get_or runs k d = get_or_default runs k e d l in
      let short' : end_of (get_or runs k e) < first = subst (λ (run : Run T). end_of run < first)
      (sym default) short in
      elim (cases_lt j k) [
        | inl lt ↦ omega (arith, ends-rising 0 runs j k e apart lt l, each-some 0 runs k e apart l)
        | inr ge ↦ let same : k ≡ j = omega arith in
            subst (λ (n : ℕ). end_of (get_or runs n e) < first) same short'
      ]

  apart-low : (low : ℕ) (run : Run T) (runs : List (Run T)) → AreApart low (run ∷ runs)
      → AreApart 0 (run ∷ runs)
  apart-low low run runs apart = (omega arith, apart.1, apart.2, apart.3)

module _ {T : Type 0} (same : T → T → Bool) (exact : (a b : T) → same a b ≡ true → a ≡ b)
    (itself : (a : T) → same a a ≡ true) where
  -- a range of one map is one of another that says the same of its pages and of the page behind
  -- them
  pub range-agreed : (at at' : ℕ → Option (ℕ × T)) (run : Run T) → is_start same at' run.first
      ≡ true → ((page : ℕ) → run.first ≤ page → page ≤ end_of run → at page ≡ at' page)
      → IsRange same at run → IsRange same at' run
  range-agreed at at' run begins agree is =
      let some = is.some in
      let last = agree (end_of run - 1) (omega arith) (omega arith) in
      let next = agree (end_of run) (omega arith) (omega arith) in
      record {
        some = is.some;
        pages = λ page low high. sym (agree page low (omega arith)) ∙ is.pages page low high;
        begins = begins;
        ends = (λ i. goes_on same (sym last i) (sym next i)) ∙ is.ends;
      }

  -- where the first of some runs begins below a page up to which another list says the same, that
  -- one begins there or before
  first-below : (first : ℕ) (x y : Run T) (xs ys : List (Run T)) → 0 < x.pages
      → AreApart (end_of y) ys → x.first < first
      → ((page : ℕ) → page < first → page_at (x ∷ xs) page ≡ page_at (y ∷ ys) page)
      → y.first ≤ x.first
  first-below first x y xs ys some apart low agree =
      elim (cases_lt x.first y.first) [
        | inr le ↦ le
        | inl lt ↦
            let odd : true ≡ false =
            ap is_some (sym (head same exact itself x xs x.first refl some) ∙ agree x.first low
            ∙ gap same exact itself y ys x.first apart lt) in
            cc
      ]

  -- the runs that end before the span are the first of the new list too
  pub front-same : (low first : ℕ) (old new : List (Run T)) (from : ℕ) → AreApart low old
      → AreApart low new → AreMaximal old → AreMaximal new
      → ((page : ℕ) → page < first → page_at old page ≡ page_at new page) → from ≤ length old
      → AllWithin (λ run. end_of run < first) old 0 from → take from new ≡ take from old
  front-same low first old new zero apart apart' maximal maximal' agree within before = refl
  front-same low first [] new (suc from) apart apart' maximal maximal' agree within before =
      absurd (omega arith)
  front-same low first (x ∷ xs) [] (suc from) apart apart' maximal maximal' agree within before =
      let ends : end_of x < first = before 0 x (omega arith) (omega arith) in
      let odd : true ≡ false =
      ap is_some (sym (head same exact itself x xs x.first refl apart.1)
      ∙ agree x.first (omega arith)) in
      cc
  front-same low first (x ∷ xs) (y ∷ ys) (suc from) apart apart' maximal maximal' agree within
      before =
      let ends : end_of x < first = before 0 x (omega arith) (omega arith) in
      let some = apart.1 in
      let some' = apart'.1 in
      let le : y.first ≤ x.first = first-below first x y xs ys apart.1 apart'.3 (omega arith)
      agree in
      let ge : x.first ≤ y.first = first-below first y x ys xs apart'.1 apart.3 (omega arith)
      (λ page l. sym (agree page l)) in
      let begins : is_start same (page_at (y ∷ ys)) x.first ≡ true =
      starts-alone same exact itself y ys x.first (omega arith) apart'.1 apart'.3 in
      let there : IsRange same (page_at (y ∷ ys)) x =
      range-agreed (page_at (x ∷ xs)) (page_at (y ∷ ys)) x begins
      (λ page a b. agree page (omega arith))
      (range-head same exact itself low x xs apart maximal) in
      let one : x ≡ y = one-range same exact itself (page_at (y ∷ ys)) x y x.first there
      (range-head same exact itself low y ys apart' maximal') (omega arith) (omega arith)
      (omega arith) (omega arith) in
      let both : end_of x ≡ end_of y = ap end_of one in
      let behind : (page : ℕ) → page < first → page_at xs page ≡ page_at ys page =
      λ page l. elim (cases_lt page (end_of x)) [
        | inl in_x ↦ page_at-before (end_of x) xs page apart.3 in_x
            ∙ sym (page_at-before (end_of y) ys page apart'.3 (omega (arith, both)))
        | inr past ↦ sym (behind-run same exact itself x xs page past) ∙ agree page l
            ∙ behind-run same exact itself y ys page (omega (arith, both))
      ] in
      let rest : take from ys ≡ take from xs = front-same (end_of x) first xs ys from apart.3
      (subst (λ (n : ℕ). AreApart n ys) (sym both) apart'.3) maximal.1 maximal'.1 behind
      (omega arith) (λ k d a b. before (suc k) d (omega arith) (omega arith)) in
      λ i. sym one i ∷ rest i

  -- two ranges over a page from which on their maps say the same end together
  end-agreed : (at at' : ℕ → Option (ℕ × T)) (a b : Run T) (end : ℕ) → IsRange same at a
      → IsRange same at' b → a.first ≤ end → end < end_of b
      → ((page : ℕ) → end ≤ page → at page ≡ at' page) → end_of a ≤ end_of b
  end-agreed at at' a b end in_a in_b low high agree =
      elim (cases_lt (end_of b) (end_of a)) [
        | inr le ↦ le
        | inl lt ↦
            let before : end_of b - 1 + 1 ≡ end_of b = omega arith in
            let goes : goes_on same (at (end_of b - 1)) (at (end_of b - 1 + 1)) ≡ true =
            goes-inside same exact itself at a (end_of b - 1) in_a (omega arith)
            (omega arith) in
            let last = agree (end_of b - 1) (omega arith) in
            let next = agree (end_of b) (omega arith) in
            let odd : true ≡ false = sym goes ∙ ap (λ n. goes_on same (at (end_of b - 1)) (at n))
            before ∙ (λ i. goes_on same (last i) (next i)) ∙ in_b.ends in
            cc
      ]

  -- a page that a run has isn't one of no runs, nor of runs that begin behind it
  reached : (x : Run T) (xs : List (Run T)) (page : ℕ) → x.first ≤ page → page < end_of x
      → page_at (x ∷ xs) page ≡ None → ⊥
  reached x xs page low high none =
      let here : page_at (x ∷ xs) page ≡ Some (x.index + (page - x.first), x.value) =
      rw (in_pages-true x.first x.pages page low high) refl in
      let odd : true ≡ false = ap is_some (sym here ∙ none) in
      cc

  -- the runs that begin behind the span are the same
  pub behind-same : (low low' end : ℕ) (xs ys : List (Run T)) → AreApart low xs → AreApart low' ys
      → AreMaximal xs → AreMaximal ys
      → ((page : ℕ) → end ≤ page → page_at xs page ≡ page_at ys page)
      → behind_page end xs ≡ behind_page end ys
  behind-same low low' end [] [] apart apart' maximal maximal' agree = refl
  behind-same low low' end [] (y ∷ ys) apart apart' maximal maximal' agree =
      elim (cases_lt end (end_of y)) [
        | inr short ↦
            let some' = apart'.1 in
            behind-same low (end_of y) end [] ys apart apart'.3 tt maximal'.1
            (λ page l. agree page l ∙ behind-run same exact itself y ys page (omega arith))
            ∙ sym (passed-one end y ys (omega arith))
        | inl long ↦
            let some' = apart'.1 in
            absurd (elim (cases_lt end y.first) [
              | inl later ↦ reached y ys y.first (omega arith) (omega arith)
                  (sym (agree y.first (omega arith)))
              | inr here ↦ reached y ys end here long (sym (agree end (omega arith)))
            ])
      ]
  behind-same low low' end (x ∷ xs) [] apart apart' maximal maximal' agree =
      elim (cases_lt end (end_of x)) [
        | inr short ↦
            let some = apart.1 in
            passed-one end x xs (omega arith) ∙ behind-same (end_of x) low' end xs [] apart.3 apart'
            maximal.1 tt (λ page l. sym (behind-run same exact itself x xs page (omega arith))
            ∙ agree page l)
        | inl long ↦
            let some = apart.1 in
            absurd (elim (cases_lt end x.first) [
              | inl later ↦ reached x xs x.first (omega arith) (omega arith)
                  (agree x.first (omega arith))
              | inr here ↦ reached x xs end here long (agree end (omega arith))
            ])
      ]
  behind-same low low' end (x ∷ xs) (y ∷ ys) apart apart' maximal maximal' agree =
      elim (cases_lt end (end_of x)) [
        | inr short ↦
            let some = apart.1 in
            passed-one end x xs (omega arith) ∙ behind-same (end_of x) low' end xs (y ∷ ys) apart.3
            apart' maximal.1 maximal'
            (λ page l. sym (behind-run same exact itself x xs page (omega arith))
            ∙ agree page l)
        | inl long ↦ elim (cases_lt end (end_of y)) [
          | inr short' ↦
              let some' = apart'.1 in
              behind-same low (end_of y) end (x ∷ xs) ys apart apart'.3 maximal maximal'.1
              (λ page l. agree page l ∙ behind-run same exact itself y ys page (omega arith))
              ∙ sym (passed-one end y ys (omega arith))
          | inl long' ↦ both-long end x y xs ys low low' apart apart' maximal maximal' agree long
              long'
        ]
      ]
    where
      -- all pages agree where the first pages are behind the span, or the runs over its end end
      -- together
      both-long : (end : ℕ) (x y : Run T) (xs ys : List (Run T)) (low low' : ℕ)
          → AreApart low (x ∷ xs) → AreApart low' (y ∷ ys) → AreMaximal (x ∷ xs)
          → AreMaximal (y ∷ ys)
          → ((page : ℕ) → end ≤ page → page_at (x ∷ xs) page ≡ page_at (y ∷ ys) page)
          → end < end_of x → end < end_of y → behind_page end (x ∷ xs) ≡ behind_page end (y ∷ ys)
      both-long end x y xs ys low low' apart apart' maximal maximal' agree long long' =
          elim (cases_lt end x.first) [
            | inl later ↦ elim (cases_lt end y.first) [
              | inl later' ↦
                  let all : (page : ℕ) → page_at (x ∷ xs) page ≡ page_at (y ∷ ys) page =
                  λ page. elim (cases_lt page end) [
                    | inl l ↦ gap same exact itself x xs page apart.3 (omega arith)
                        ∙ sym (gap same exact itself y ys page apart'.3 (omega arith))
                    | inr l ↦ agree page l
                  ] in
                  ap (behind_page end)
                  (same-runs same exact itself 0 (x ∷ xs) (y ∷ ys) (apart-low low x xs apart)
                  (apart-low low' y ys apart') maximal maximal' all)
              | inr here' ↦
                  absurd (reached y ys end here' long' (sym (agree end (omega arith))
                  ∙ gap same exact itself x xs end apart.3 later))
            ]
            | inr here ↦ elim (cases_lt end y.first) [
              | inl later' ↦
                  absurd (reached x xs end here long
                  (agree end (omega arith) ∙ gap same exact itself y ys end apart'.3 later'))
              | inr here' ↦
                  let in_x = range-head same exact itself low x xs apart maximal in
                  let in_y = range-head same exact itself low' y ys apart' maximal' in
                  let le = end-agreed (page_at (x ∷ xs)) (page_at (y ∷ ys)) x y end in_x in_y here
                  long' agree in
                  let ge = end-agreed (page_at (y ∷ ys)) (page_at (x ∷ xs)) y x end in_y in_x here'
                  long (λ page l. sym (agree page l)) in
                  let both : end_of x ≡ end_of y = omega (arith, le, ge) in
                  let all : (page : ℕ) → page_at xs page ≡ page_at ys page =
                  λ page. elim (cases_lt page (end_of x)) [
                    | inl l ↦ page_at-before (end_of x) xs page apart.3 l
                        ∙ sym (page_at-before (end_of y) ys page apart'.3 (omega (arith, both)))
                    | inr l ↦ sym (behind-run same exact itself x xs page l)
                        ∙ agree page (omega arith) ∙ behind-run same exact itself y ys page
                        (omega (arith, both))
                  ] in
                  let rest : xs ≡ ys = same-runs same exact itself (end_of x) xs ys apart.3
                  (subst (λ (n : ℕ). AreApart n ys) (sym both) apart'.3) maximal.1 maximal'.1
                  all in
                  passed-one end x xs here ∙ ap (behind_page end) rest
                  ∙ sym (passed-one end y ys here')
            ]
          ]

  -- how two lists stand that say the same of each page outside a span
  pub record AreLeft (first end : ℕ) (old new : List (Run T)) : Type 0 where
    pub rises : first ≤ end
    pub apart : AreApart 0 old
    pub apart_now : AreApart 0 new
    pub maximal : AreMaximal old
    pub maximal_now : AreMaximal new
    pub agree : AgreeOutside first end old new

  module _ (first end : ℕ) (old new : List (Run T)) (left : AreLeft first end old new) (from to : ℕ)
      (window : IsWindow old first end from to) where
    front : take from new ≡ take from old
    front = front-same 0 first old new from left.apart left.apart_now left.maximal left.maximal_now
        left.agree.below (omega (arith, window.rises, window.within)) window.before

    from-within : from ≤ length new
    from-within = omega (
      arith,
      length-take from new,
      length-take from old,
      ap length front,
      window.rises,
      window.within,
    )

    later : PlaceBehind end new
    later = place-behind end new

    back : drop later.place new ≡ drop to old
    back = later.rest
        ∙ sym (behind-same 0 0 end old new left.apart left.apart_now left.maximal left.maximal_now
        left.agree.behind) ∙ sym
        (drop-behind end old to window.within window.beginning window.behind)

    place-is : to_now old new to ≡ later.place
    place-is = omega (
      arith,
      ap length back,
      length-drop later.place new,
      length-drop to old,
      later.within,
      window.within,
    )

    before-now : AllWithin (λ run. end_of run < first) new 0 from
    before-now k d a b = subst (λ (run : Run T). end_of run < first)
        (sym (taken-same new old from k d front b)) (window.before k d a b)

    behind-now : AllWithin (λ run. end < run.first) new later.place (length new)
    behind-now k d a b =
        let far : later.place + (k - later.place) ≡ k = omega arith in
        let same : get_or new k d ≡ get_or old (to + (k - later.place)) d =
        ap (λ n. get_or new n d) (sym far) ∙ sym (get_or-drop later.place new (k - later.place) d)
        ∙ ap (λ l. get_or l (k - later.place) d) back ∙ get_or-drop to old (k - later.place)
        d in
        subst (λ (run : Run T). end < run.first) (sym same)
        (window.behind (to + (k - later.place)) d (omega arith)
        (omega (
          arith,
          ap length back,
          length-drop later.place new,
          length-drop to old,
          later.within,
          window.within,
        )))

    rises-now : from ≤ later.place
    rises-now =
        elim (cases_lt later.place from) [
          | inr le ↦ le
          | inl lt ↦
              let within = from-within in
              let d = any-run new (omega arith) in
              absurd (omega (
                arith,
                left.rises,
                before-now later.place d (omega arith) lt,
                behind-now later.place d (omega arith) (omega arith),
              ))
        ]

    reaching-now : AllWithin (λ run. first ≤ end_of run) new from (length new)
    reaching-now k d a b =
        elim (cases_lt (end_of (get_or new k d)) first) [
          | inr long ↦ long
          | inl short ↦
              let same : take (k + 1) old ≡ take (k + 1) new =
              front-same 0 first new old (k + 1) left.apart_now left.apart left.maximal_now
              left.maximal (λ page l. sym (left.agree.below page l)) (omega arith)
              (all-before new k first d left.apart_now b short) in
              let there : k < length old =
              omega (arith, ap length same, length-take (k + 1) old, length-take (k + 1) new) in
              let one : get_or old k d ≡ get_or new k d =
              taken-same old new (k + 1) k d same (omega arith) in
              let long : first ≤ end_of (get_or old k d) = window.reaching k d a there in
              let long' : first ≤ end_of (get_or new k d) =
              subst (λ (run : Run T). first ≤ end_of run) one long in
              absurd (omega arith)
        ]

    -- the runs of the new list that meet the span or stand beside it are those between
    pub window-now : IsWindow new first end from (to_now old new to)
    window-now = subst (λ (place : ℕ). IsWindow new first end from place) (sym place-is) (record {
      rises = rises-now;
      within = later.within;
      before = before-now;
      reaching = reaching-now;
      beginning = later.beginning;
      behind = behind-now;
    })

    -- the lists differ in the window alone
    pub moves : Moves old new from to
    moves = record {
      front = front;
      back = subst (λ (place : ℕ). drop place new ≡ drop to old) (sym place-is) back;
      rises = window-now.rises;
      within = window-now.within;
    }

module _ {T : Type 0} where
  -- the new list is the old one with a window replaced
  pub moved-splice : (old new : List (Run T)) (from to : ℕ) → Moves old new from to
      → new ≡ splice old from to (slice_range new from (to_now old new to))
  moved-splice old new from to moved =
      around new from (to_now old new to) moved.rises
      ∙ (λ i. moved.front i ++ (slice_range new from (to_now old new to) ++ moved.back i))

  -- a run of the window that is the same in both lists may be left out of it
  pub moves-next : (old new : List (Run T)) (from to : ℕ) (d : Run T) → Moves old new from to
      → from < to → to ≤ length old → from < to_now old new to
      → get_or new from d ≡ get_or old from d → Moves old new (from + 1) to
  moves-next old new from to d moved some within some' same = record {
    front = take_more new from d (omega (arith, moved.within)) ∙ (λ i. moved.front i ++ same i ∷ [])
        ∙ sym (take_more old from d (omega arith));
    back = moved.back;
    rises = omega arith;
    within = moved.within;
  }
