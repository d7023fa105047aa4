-- A list that is walked from its front: what one step says of the whole.
use Rattle.std.proofs.Common.{◌≡◌, ℕ, zero, suc, ◌+◌, ◌-◌, ◌<◌, ◌≤◌, ◌^◌, min, max, true, false}
use Rattle.std.proofs.Common.{not}
use Rattle.std.proofs.Common.{is_some, Option, Some, None, List, [], ◌∷◌, ◌++◌, length, take, drop}
use Rattle.std.proofs.Common.{get_or}
use Rattle.std.proofs.Common.{refl, sym, ap, subst, ◌∙◌, arith, inl, inr}
use Rattle.std.specs.Prelude.{All, nat_lt, IfSome, IfNone, OnSome}
use Rattle.std.specs.List.{AllWithin, slice_range}
use Rattle.std.proofs.lemmas.Bool.{cases_lt, lt-ltb, le-ltb}
use Rattle.std.proofs.lemmas.List.{drop-drop, drop_more, take_more, get_or-drop, get_or-take}
use Rattle.std.proofs.lemmas.List.{length-drop, length-take}
use Rattle.numa_ranges.specs.Runs.{page_at, end_of, AreApart}
use Rattle.numa_ranges.specs.Maps.{any_page}
use Rattle.numa_ranges.specs.Edits.{Each, StartsAround, MayBegin, IsAround}
use Rattle.numa_ranges.specs.declared.run.Run.{Run}
use Rattle.numa_ranges.proofs.Apart.{in_pages-true, in_pages-below, in_pages-above, page_at-before}
use Rattle.numa_ranges.proofs.Apart.{apart-top, apart-rising}
use Rattle.numa_ranges.proofs.Pages.{any_page-true, any_page-false}
use Rattle.numa_ranges.proofs.Window.{ends-before}

module _ {X : Type 0} where
  behind : List X → List X
  behind [] = []
  behind (x ∷ xs) = xs

  pub step-short : (xs rest ys : List X) (k : ℕ) (x : X) → rest ≡ drop k xs → rest ≡ x ∷ ys
      → k < length xs
  step-short xs rest ys k x is opens =
      omega (arith, ap length is, ap length opens, length-drop k xs)

  pub step-read : (xs rest ys : List X) (k : ℕ) (x d : X) → rest ≡ drop k xs → rest ≡ x ∷ ys
      → x ≡ get_or xs k d
  step-read xs rest ys k x d is opens =
      let place : k + 0 ≡ k = omega arith in
      ap (λ l. get_or l 0 d) (sym opens ∙ is)
      ∙ (get_or-drop k xs 0 d ∙ ap (λ n. get_or xs n d) place)

  pub step-left : (xs rest ys : List X) (k : ℕ) (x : X) → rest ≡ drop k xs → rest ≡ x ∷ ys
      → ys ≡ drop (k + 1) xs
  unfolding behind
  step-left xs rest ys k x is opens =
      ap behind (sym opens ∙ (is ∙ drop_more xs k x (step-short xs rest ys k x is opens)))

  pub step-taken : (xs rest ys : List X) (k : ℕ) (x : X) → rest ≡ drop k xs → rest ≡ x ∷ ys
      → take (k + 1) xs ≡ take k xs ++ x ∷ []
  step-taken xs rest ys k x is opens = take_more xs k x (step-short xs rest ys k x is opens)
      ∙ ap (λ y. take k xs ++ y ∷ []) (sym (step-read xs rest ys k x x is opens))

  pub step-all : (P : X → Type 0) (xs rest ys : List X) (k n : ℕ) (x : X) → rest ≡ drop k xs
      → rest ≡ x ∷ ys → k < n → All P (take n xs) → P x
  step-all P xs rest ys k n x is opens below all =
      subst P (get_or-take n xs k x below ∙ sym (step-read xs rest ys k x x is opens))
      (all k x (omega (arith, length-take n xs, step-short xs rest ys k x is opens, below)))

  -- what is left behind a window's front
  pub left-of : (xs rest left : List X) (from place : ℕ) → from ≤ place → rest ≡ drop from xs
      → left ≡ drop (place - from) rest → left ≡ drop place xs
  left-of xs rest left from place le is so =
      let far : from + (place - from) ≡ place = omega arith in
      so ∙ (ap (drop (place - from)) is
      ∙ (drop-drop (place - from) from xs ∙ ap (λ n. drop n xs) far))

  -- two windows that were read from what is left
  pub both-seen : (P : List X → Type 0) (xs rest left : List X) (x : X) (from place to : ℕ)
      → rest ≡ drop from xs → left ≡ drop place xs
      → P (([] ++ take (place - from) rest ++ x ∷ []) ++ take (to - place) left)
      → P (([] ++ slice_range xs from place ++ x ∷ []) ++ slice_range xs place to)
  both-seen P xs rest left x from place to is so h =
      subst (λ l. P (([] ++ slice_range xs from place ++ x ∷ []) ++ take (to - place) l)) so
      (subst (λ l. P (([] ++ take (place - from) l ++ x ∷ []) ++ take (to - place) left)) is h)

-- what is found where the walk ends: a window, unless a page is not mapped
pub record IsFound (from len count last_end page end : ℕ) (found : Option (ℕ × ℕ)) : Type 0 where
  pub none : page < end → found ≡ None
  pub behind : end ≤ page → end < last_end → found ≡ Some (from, count)
  pub before : end ≤ page → last_end ≤ end → found ≡ Some (from, min len (count + 1))

pub found-none : {P : Type 0} (from len count last_end page end : ℕ) (found : Option (ℕ × ℕ))
    → IsFound from len count last_end page end found → (page < end → P) → IfNone found P
found-none {P} from len count last_end page end found is lacks =
    elim (cases_lt page end) [
      | inl low ↦ subst (λ o. IfNone o P) (sym (is.none low)) (lacks low)
      | inr past ↦
          elim (cases_lt end last_end) [
            | inl over ↦ subst (λ o. IfNone o P) (sym (is.behind past over)) tt
            | inr short ↦ subst (λ o. IfNone o P) (sym (is.before past short)) tt
          ]
    ]

pub found-whole : {P : Type 0} (from len count last_end page end : ℕ) (found : Option (ℕ × ℕ))
    → IsFound from len count last_end page end found → (end ≤ page → P) → OnSome found P
found-whole {P} from len count last_end page end found is whole =
    elim (cases_lt page end) [
      | inl low ↦ subst (λ o. OnSome o P) (sym (is.none low)) tt
      | inr past ↦
          elim (cases_lt end last_end) [
            | inl over ↦ subst (λ o. OnSome o P) (sym (is.behind past over)) (whole past)
            | inr short ↦ subst (λ o. OnSome o P) (sym (is.before past short)) (whole past)
          ]
    ]

module _ {T : Type 0} where
  -- so far every page of a span is mapped, and the runs ahead say what the pages ahead are
  pub record IsWalked (runs rest : List (Run T)) (first page : ℕ) : Type 0 where
    pub from : first ≤ page
    pub mapped : (p : ℕ) → first ≤ p → p < page → is_some (page_at runs p) ≡ true
    pub ahead : (p : ℕ) → page ≤ p → page_at runs p ≡ page_at rest p
    pub apart : (low : ℕ) × AreApart low rest

  pub apart-ahead : (from n : ℕ) (runs : List (Run T)) → AreApart from runs → (low : ℕ)
      × AreApart low (drop n runs)
  apart-ahead from zero runs apart = (from, apart)
  apart-ahead from (suc n) [] apart = (from, apart)
  apart-ahead from (suc n) (run ∷ runs) apart = apart-ahead (end_of run) n runs apart.3

  page_at-ahead : (n page : ℕ) (runs : List (Run T))
      → Each (λ run. (0 < run.pages) × (end_of run ≤ page)) (take n runs)
      → page_at runs page ≡ page_at (drop n runs) page
  page_at-ahead zero page runs before = refl
  page_at-ahead (suc n) page [] before = refl
  page_at-ahead (suc n) page (run ∷ runs) before =
      rw (in_pages-above run.first run.pages page before.0.1) (page_at-ahead n page runs before.1)

  pub walk-begins : (runs rest : List (Run T)) (place n first : ℕ) → AreApart 0 runs
      → place ≤ length runs → StartsAround runs place first → n ≡ place - 1 → rest ≡ drop n runs
      → IsWalked runs rest first first
  walk-begins runs rest zero n first apart within parts is left =
      let none : n ≡ 0 = omega arith in
      let whole : rest ≡ runs = left ∙ ap (λ k. drop k runs) none in
      record {
        from = omega arith;
        mapped = λ p low high. absurd (omega arith);
        ahead =
            λ p low. ap (λ l. page_at l p) (sym whole);
        apart =
            (0, subst (AreApart 0) (sym whole) apart);
      }
  walk-begins [] rest (suc place) n first apart within parts is left = absurd (omega arith)
  walk-begins (run ∷ runs) rest (suc place) n first apart within parts is left =
      let all = run ∷ runs in
      let here : n ≡ place = omega arith in
      let low : (get_or all place run).first ≤ first =
      parts.0 place run (omega arith) (omega arith) in
      let left' : rest ≡ drop place all = left ∙ ap (λ k. drop k all) here in
      record {
        from = omega arith;
        mapped = λ p a b. absurd (omega arith);
        ahead =
            λ p a.
            page_at-ahead place p all
            (ends-before 0 all place p run apart (omega arith) (omega arith))
            ∙ ap (λ l. page_at l p) (sym left');
        apart = subst (λ (l : List (Run T)). (low : ℕ) × AreApart low l) (sym left')
            (apart-ahead 0 place all apart);
      }

  pub walk-fits : (runs before rest : List (Run T)) (run : Run T) (first page : ℕ)
      → IsWalked runs before first page → before ≡ run ∷ rest → end_of run ≤ 2 ^ 35
  walk-fits runs before rest run first page walked steps =
      apart-top (end_of run) rest (subst (AreApart walked.apart.0) steps walked.apart.1).3

  pub walk-on : (runs before rest : List (Run T)) (run : Run T) (first page next : ℕ)
      → IsWalked runs before first page → before ≡ run ∷ rest → run.first ≤ page
      → next ≡ max page (end_of run) → IsWalked runs rest first next
  walk-on runs before rest run first page next walked steps starts is = record {
    from = omega (arith, walked.from);
    mapped = λ p low high. elim (cases_lt p page) [
      | inl seen ↦ walked.mapped p low seen
      | inr new ↦ ap is_some (walked.ahead p new ∙ (ap (λ l. page_at l p) steps ∙ here p new high))
    ];
    ahead = λ p low. walked.ahead p (omega arith)
        ∙ (ap (λ l. page_at l p) steps ∙ past p (omega arith));
    apart = (end_of run, (subst (AreApart walked.apart.0) steps walked.apart.1).3);
  }
    where
      here : (p : ℕ) → page ≤ p → p < next
          → page_at (run ∷ rest) p ≡ Some (run.index + (p - run.first), run.value)
      here p low high = rw (in_pages-true run.first run.pages p (omega arith) (omega arith)) refl

      past : (p : ℕ) → end_of run ≤ p → page_at (run ∷ rest) p ≡ page_at rest p
      past p low = rw (in_pages-above run.first run.pages p low) refl

  pub lacking : (runs rest : List (Run T)) (first pages page : ℕ) → IsWalked runs rest first page
      → page < first + pages → page_at rest page ≡ None
      → any_page (λ p. not (is_some (page_at runs p))) first pages ≡ true
  lacking runs rest first pages page walked low none =
      any_page-true (λ p. not (is_some (page_at runs p))) first pages page walked.from low
      (ap (λ o. not (is_some o)) (walked.ahead page (omega arith) ∙ none))

  pub walk-lacks : (runs before rest : List (Run T)) (run : Run T) (first pages page : ℕ)
      → IsWalked runs before first page → before ≡ run ∷ rest → page < first + pages
      → page < run.first → any_page (λ p. not (is_some (page_at runs p))) first pages ≡ true
  walk-lacks runs before rest run first pages page walked steps low high =
      let apart = subst (AreApart walked.apart.0) steps walked.apart.1 in
      let none : page_at (run ∷ rest) page ≡ None =
      rw (in_pages-below run.first run.pages page high)
      (page_at-before (end_of run) rest page apart.3 (omega arith)) in
      lacking runs before first pages page walked low (ap (λ l. page_at l page) steps ∙ none)

  pub walk-whole : (runs rest : List (Run T)) (first pages page : ℕ) → IsWalked runs rest first page
      → first + pages ≤ page → any_page (λ p. not (is_some (page_at runs p))) first pages ≡ false
  walk-whole runs rest first pages page walked past =
      any_page-false (λ p. not (is_some (page_at runs p))) first pages
      (λ p low high. ap not (walked.mapped p low (omega arith)))

  pub walk-ends : (runs rest : List (Run T)) (first pages page : ℕ) → IsWalked runs rest first page
      → rest ≡ [] → nat_lt page (first + pages) ≡ any_page (λ p. not (is_some (page_at runs p)))
      first pages
  walk-ends runs rest first pages page walked none =
      elim (cases_lt page (first + pages)) [
        | inl low ↦ lt-ltb page (first + pages) low
            ∙ sym (lacking runs rest first pages page walked low (ap (λ l. page_at l page) none))
        | inr past ↦ le-ltb page (first + pages) past
            ∙ sym (walk-whole runs rest first pages page walked past)
      ]

  -- the runs up to a count start at a page or before it, and the others are ahead
  pub record IsCounted (runs rest : List (Run T)) (count page : ℕ) : Type 0 where
    pub ahead : rest ≡ drop count runs
    pub within : count ≤ length runs
    pub low : AllWithin (λ run. run.first ≤ page) runs 0 count

  pub count-begins : (runs rest : List (Run T)) (place first page : ℕ) → first ≤ page
      → place ≤ length runs → StartsAround runs place first → rest ≡ drop place runs
      → IsCounted runs rest place page
  count-begins runs rest place first page rises within parts left = record {
    ahead = left;
    within = within;
    low = λ k d from to. let starts : (get_or runs k d).first ≤ first = parts.0 k d from to in
        omega arith;
  }

  -- the count begins at the run before
  pub count-before : (runs rest : List (Run T)) (place n first page : ℕ) → first ≤ page
      → place ≤ length runs → StartsAround runs place first → n ≡ place - 1 → rest ≡ drop n runs
      → IsCounted runs rest n page
  count-before runs rest place n first page rises within parts is left = record {
    ahead = left;
    within = omega (arith, within);
    low = λ k d from to. let starts : (get_or runs k d).first ≤ first =
        parts.0 k d from (omega (arith, to)) in omega arith;
  }

  -- the end of the last run that was counted
  abbrev pub EndsLast : List (Run T) → ℕ → ℕ → Type 0
  EndsLast runs count last_end = 0 < last_end → (0 < count)
      × ((d : Run T) → last_end ≡ end_of (get_or runs (count - 1) d))

  pub ends-next : (runs before rest : List (Run T)) (run : Run T) (count page last_end : ℕ)
      → IsCounted runs before count page → before ≡ run ∷ rest → last_end ≡ end_of run
      → EndsLast runs (count + 1) last_end
  ends-next runs before rest run count page last_end counted steps is = λ some. (
    omega arith,
    λ d.
        let place : count + 1 - 1 ≡ count = omega arith in
        is ∙ (ap end_of (step-read runs before rest count run d counted.ahead steps)
        ∙ ap (λ n. end_of (get_or runs n d)) (sym place)),
  )

  pub found-window : (runs : List (Run T)) (place first end from len count last_end page : ℕ)
      (found : Option (ℕ × ℕ)) → IsFound from len count last_end page end found
      → len ≡ length runs → MayBegin runs place first from → count ≤ length runs
      → StartsAround runs count end → EndsLast runs count last_end
      → IfSome found (λ window. IsAround runs place first end window.0 window.1)
  found-window runs place first end from len count last_end page found is size begins within parts
      last =
      let Around = λ (o : Option (ℕ × ℕ)). IfSome o (λ window.
      IsAround runs place first end window.0 window.1) in
      elim (cases_lt page end) [
        | inl low ↦ subst Around (sym (is.none low)) tt
        | inr past ↦
            elim (cases_lt end last_end) [
              | inl over ↦
                  let some = last (omega (arith, over)) in
                  subst Around (sym (is.behind past over)) (record {
                    count = count;
                    within = within;
                    parts = parts;
                    begins = begins;
                    ends = inr (refl, some.0, λ d. omega (arith, over, some.1 d));
                  })
              | inr short ↦
                  subst Around (sym (is.before past short)) (record {
                    count = count;
                    within = within;
                    parts = parts;
                    begins = begins;
                    ends = inl (omega (arith, size));
                  })
            ]
      ]

  pub count-on : (runs before rest : List (Run T)) (run : Run T) (count page : ℕ)
      → IsCounted runs before count page → before ≡ run ∷ rest → run.first ≤ page
      → IsCounted runs rest (count + 1) page
  count-on runs before rest run count page counted steps starts = record {
    ahead = step-left runs before rest count run counted.ahead steps;
    within = omega (arith, step-short runs before rest count run counted.ahead steps);
    low = λ k d from to. elim (cases_lt k count) [
      | inl seen ↦ counted.low k d from seen
      | inr new ↦
          let place : k ≡ count = omega arith in
          subst (λ (r : Run T). r.first ≤ page)
          (step-read runs before rest count run d counted.ahead steps
          ∙ ap (λ n. get_or runs n d) (sym place)) starts
    ];
  }

  pub count-stops : (runs before rest : List (Run T)) (run : Run T) (count page : ℕ)
      → AreApart 0 runs → IsCounted runs before count page → before ≡ run ∷ rest → page < run.first
      → StartsAround runs count page
  count-stops runs before rest run count page apart counted steps starts = (
    counted.low,
    λ k d from to.
        let rising = apart-rising 0 runs apart count k d from to in
        let here : run.first ≡ (get_or runs count d).first =
        ap (λ (r : Run T). r.first)
        (step-read runs before rest count run d counted.ahead steps) in
        omega arith,
  )

  pub count-ends : (runs rest : List (Run T)) (count page : ℕ) → IsCounted runs rest count page
      → rest ≡ [] → StartsAround runs count page
  count-ends runs rest count page counted none = (
    counted.low,
    λ k d from to.
        absurd (omega (arith, ap length none, ap length counted.ahead, length-drop count runs)),
  )
