-- What becomes of shares is what becomes of the pages that they stand for.
use Rattle.std.proofs.Common.{◌≡◌, ◌∙◌, ℕ, zero, suc, ◌+◌, ◌-◌, ◌<◌, ◌≤◌, ◌^◌, ◌&&◌, ◌||◌, ◌++◌}
use Rattle.std.proofs.Common.{Bool, true, false, List, [], ◌∷◌, refl, sym, ap, ap₂, arith, inl, inr}
use Rattle.std.specs.Prelude.{min, nat_lt}
use Rattle.std.proofs.lemmas.Bool.{both_ways, cases_Bool, cases_eq, cases_lt, eq-eqb, le-ltb, lt-ltb}
use Rattle.std.proofs.lemmas.Bool.{ne_eqb}
use Rattle.numa_ranges.specs.Counts.{count_pages}
use Rattle.numa_ranges.specs.Runs.{in_pages}
use Rattle.numa_ranges.proofs.Apart.{in_pages-true, in_pages-below, in_pages-above}
use Rattle.numa_ranges.proofs.Counted.{count-none, count-split}
use Rattle.numa_placed.specs.Moves.{moved_node}
use Rattle.numa_placed.specs.Shifts.{counted_shift, is_stated, shift_of, stated_below, stated_on}
use Rattle.numa_placed.specs.Spots.{pages_if}
use Rattle.numa_placed.specs.declared.spot.Spot.{Spot}
use Rattle.numa_placed.proofs.Shared.{count-more}
use Rattle.numa_reports.specs.Common.{AreRising, has_page, span_end}
use Rattle.numa_reports.specs.declared.outlook.PageSpan.{PageSpan}
use Rattle.numa_moves.specs.Moving.{HaveAll, gone_in, less_share, move_by, moves_by, moves_of}
use Rattle.numa_moves.specs.Moving.{moves_over, moves_within, page_moves}
use Rattle.numa_moves.specs.Shares.{pages_on, share_by, shares_over, shares_within, stated_in}
use Rattle.numa_moves.specs.declared.moving.ShareMove.{ShareMove}
use Rattle.numa_moves.specs.declared.share.Share.{Share}
use Rattle.numa_moves.proofs.Counted.{pages-append, within-above, within-below}

-- ---- lists of moves

less-on : (share : Share) (left : ℕ → ℕ) (shares : List Share) (node : ℕ)
    → less_share share left node - pages_on shares node ≡ left node - pages_on (share ∷ shares) node
less-on share left shares node =
    elim (cases_eq share.node node) [
      | inl same ↦ rw (eq-eqb share.node node same) (omega arith)
      | inr apart ↦ rw (ne_eqb share.node node apart) (omega arith)
    ]

-- the moves of shares one behind the other: those of the first ones, and then of as many pages as
-- are still to go
moves-append : (go left : ℕ → ℕ) (xs ys : List Share) → moves_by go left (xs ++ ys)
    ≡ moves_by go left xs ++ moves_by go (λ node. left node - pages_on xs node) ys
moves-append go left [] ys =
    let same : (node : ℕ) → left node ≡ left node - pages_on [] node = λ node. omega arith in
    ap (λ (f : ℕ → ℕ). moves_by go f ys) (λ i node. same node i)
moves-append go left (x ∷ xs) ys =
    let head : ShareMove = record {
      share = x;
      to = go x.node;
      moved = min x.there (left x.node);
    } in
    let rest = moves_by go (less_share x left) xs in
    ap (λ (l : List ShareMove). head ∷ l) (moves-append go (less_share x left) xs ys
    ∙ ap (λ (f : ℕ → ℕ). rest ++ moves_by go f ys) (λ i node. less-on x left xs node i))

one-move : (go left : ℕ → ℕ) (span : PageSpan) (node there moved : ℕ)
    → min there (left node) ≡ moved
    → moves_by go left (share_by span node there) ≡ move_by span node (go node) there moved
one-move go left span node there moved is =
    let made : ℕ → List ShareMove = λ m. record {
      share = record { span = span; node = node; there = there };
      to = go node;
      moved = m;
    } ∷ [] in
    elim (cases_eq there 0) [
      | inl none ↦ rw (eq-eqb there 0 none) refl
      | inr some ↦ rw (ne_eqb there 0 some) (ap made is)
    ]

within-moves : (go left count gone : ℕ → ℕ) (span : PageSpan)
    → ((node : ℕ) → min (count node) (left node) ≡ gone node) → (nodes : ℕ)
    → moves_by go left (shares_within count span nodes) ≡ moves_within go count gone span nodes
within-moves go left count gone span is zero = refl
within-moves go left count gone span is (suc n) =
    let before = shares_within count span n in
    let none : pages_on before n ≡ 0 = within-above count span n n (omega arith) in
    let here : min (count n) (left n - pages_on before n) ≡ gone n = omega (arith, none, is n) in
    moves-append go left before (share_by span n (count n))
    ∙ ap₂ (λ (a b : List ShareMove). a ++ b) (within-moves go left count gone span is n)
    (one-move go (λ node. left node - pages_on before node) span n (count n) (gone n) here)

-- ---- pages

add-zero : (a : ℕ) → 0 + a ≡ a
add-zero a = omega arith

-- of the pages of a span on a node as many go as are still to go behind those below it
gone-counted : (spots : ℕ → Spot) (gone : ℕ → ℕ) (node first n : ℕ) → count_pages
    (λ page. is_stated node (spots page) && nat_lt (stated_below spots page node) (gone node))
    first n ≡ min (count_pages (λ page. is_stated node (spots page)) first n)
    (gone node - stated_below spots first node)
unfolding count_pages
gone-counted spots gone node first zero = omega arith
gone-counted spots gone node first (suc n) =
    let test : ℕ → Bool = λ page. is_stated node (spots page) in
    let below : ℕ = stated_below spots first node in
    let next : stated_below spots (first + 1) node ≡ below + pages_if (test first) 1 =
    count-more test 0 first first (omega arith) in
    let rest = gone-counted spots gone node (first + 1) n in
    elim (cases_Bool (is_stated node (spots first))) [
      | inl t ↦
          let more : stated_below spots (first + 1) node ≡ below + 1 =
          next ∙ ap (λ (b : Bool). below + pages_if b 1) t in
          elim (cases_lt below (gone node)) [
            | inl l ↦ rw (t, lt-ltb below (gone node) l) (omega (arith, rest, more))
            | inr h ↦ rw (t, le-ltb below (gone node) h) (omega (arith, rest, more))
          ]
      | inr e ↦
          let more : stated_below spots (first + 1) node ≡ below + 0 =
          next ∙ ap (λ (b : Bool). below + pages_if b 1) e in
          rw e (omega (arith, rest, more))
    ]

page-before : (from : ℕ) (spans : List PageSpan) (page : ℕ) → AreRising from spans → page < from
    → has_page spans page ≡ false
page-before from [] page rises low = refl
page-before from (span ∷ spans) page rises low =
    rw (in_pages-below span.first span.pages page (omega (arith, rises.0)))
    (page-before (span_end span) spans page rises.3 (omega (arith, rises.0)))

module _ (spots : ℕ → Spot) (nodes : ℕ)
    (few : (page node : ℕ) → is_stated node (spots page) ≡ true → node < nodes) where
  -- from a page on, all that are stated to lie somewhere are in these spans
  abbrev HaveFrom : ℕ → List PageSpan → Type 0
  HaveFrom from spans = (page node : ℕ) → from ≤ page → is_stated node (spots page) ≡ true
      → has_page spans page ≡ true

  have-next : (from : ℕ) (span : PageSpan) (spans : List PageSpan) → from ≤ span.first
      → HaveFrom from (span ∷ spans) → HaveFrom (span_end span) spans
  have-next from span spans low have page node high stated =
      let is : (in_pages span.first span.pages page || has_page spans page) ≡ true =
      have page node (omega arith) stated in
      rw (in_pages-above span.first span.pages page high) at is

  -- none lies between two spans
  hole : (from : ℕ) (span : PageSpan) (spans : List PageSpan) → AreRising from (span ∷ spans)
      → HaveFrom from (span ∷ spans) → (node page : ℕ) → from ≤ page → page < span.first
      → is_stated node (spots page) ≡ false
  hole from span spans rises have node page low high =
      elim (cases_Bool (is_stated node (spots page))) [
        | inl t ↦
            let out : has_page (span ∷ spans) page ≡ false =
            rw (in_pages-below span.first span.pages page high)
            (page-before (span_end span) spans page rises.3 (omega arith)) in
            absurd (both_ways (has_page (span ∷ spans) page) out (have page node low t))
        | inr e ↦ e
      ]

  below-first : (from : ℕ) (span : PageSpan) (spans : List PageSpan)
      → AreRising from (span ∷ spans) → HaveFrom from (span ∷ spans) → (node : ℕ)
      → stated_below spots span.first node ≡ stated_below spots from node
  below-first from span spans rises have node =
      let test : ℕ → Bool = λ page. is_stated node (spots page) in
      let gap = span.first - from in
      omega (
        arith,
        count-split test 0 from gap span.first (omega (arith, rises.0)),
        ap (λ (a : ℕ). count_pages test a gap) (add-zero from),
        count-none test from gap (λ page low high. hole from span spans rises have node page low
            (omega (arith, rises.0))),
      )

  below-end : (span : PageSpan) (node : ℕ) → stated_below spots (span_end span) node
      ≡ stated_below spots span.first node + stated_in spots span node
  below-end span node =
      let test : ℕ → Bool = λ page. is_stated node (spots page) in
      count-split test 0 span.first span.pages (span_end span) refl
      ∙ ap (λ (a : ℕ). count_pages test 0 span.first + count_pages test a span.pages)
      (add-zero span.first)

  -- a share for each node has all pages of its span
  all-within : (span : PageSpan) (node : ℕ)
      → pages_on (shares_within (stated_in spots span) span nodes) node ≡ stated_in spots span node
  all-within span node =
      elim (cases_lt node nodes) [
        | inl l ↦ within-below (stated_in spots span) span nodes node l
        | inr h ↦ within-above (stated_in spots span) span nodes node h
            ∙ sym (count-none (λ page. is_stated node (spots page)) span.first span.pages
            (λ page low high. elim (cases_Bool (is_stated node (spots page))) [
              | inl t ↦
                  let small = few page node t in
                  absurd (omega arith)
              | inr e ↦ e
            ]))
      ]

  spans-counted : (from n : ℕ) (spans : List PageSpan) → from + n ≡ 2 ^ 35 → AreRising from spans
      → HaveFrom from spans → ((page : ℕ) → has_page spans page ≡ true → page < 2 ^ 35)
      → (node : ℕ) → pages_on (shares_over (stated_in spots) nodes spans) node
      ≡ count_pages (λ page. is_stated node (spots page)) from n
  spans-counted from n [] top rises have below node =
      sym (count-none (λ page. is_stated node (spots page)) from n
      (λ page low high. elim (cases_Bool (is_stated node (spots page))) [
        | inl t ↦ absurd (both_ways false refl (have page node low t))
        | inr e ↦ e
      ]))
  spans-counted from n (span ∷ spans) top rises have below node =
      let test : ℕ → Bool = λ page. is_stated node (spots page) in
      let last = (span.first + span.pages) - 1 in
      let in_span : in_pages span.first span.pages last ≡ true =
      in_pages-true span.first span.pages last (omega (arith, rises.1)) (omega (arith, rises.1)) in
      let room : last < 2 ^ 35 = below last (rw in_span refl) in
      let gap = span.first - from in
      let tail = 2 ^ 35 - span_end span in
      let rest : pages_on (shares_over (stated_in spots) nodes spans) node
      ≡ count_pages test (span_end span) tail =
      spans-counted (span_end span) tail spans (omega (arith, room, rises.1)) rises.3
      (have-next from span spans rises.0 have)
      (λ page is. below page (later span spans page is)) node in
      omega (
        arith,
        pages-append (shares_within (stated_in spots span) span nodes)
            (shares_over (stated_in spots) nodes spans) node,
        all-within span node,
        rest,
        count-split test from gap (span.pages + tail) n (omega (arith, room, rises.0, rises.1)),
        ap (λ (a : ℕ). count_pages test a (span.pages + tail)) (seam from span.first rises.0),
        count-split test span.first span.pages tail (span.pages + tail) refl,
        count-none test from gap (λ page low high. hole from span spans rises have node page low
            (omega (arith, rises.0))),
      )
    where
      later : (span : PageSpan) (spans : List PageSpan) (page : ℕ) → has_page spans page ≡ true
          → has_page (span ∷ spans) page ≡ true
      later span spans page is = elim (cases_Bool (in_pages span.first span.pages page)) [
        | inl t ↦ rw t refl
        | inr e ↦ rw e is
      ]

      seam : (a b : ℕ) → a ≤ b → a + (b - a) ≡ b
      seam a b low = omega arith

  module _ (go gone : ℕ → ℕ) where
    spans-moves : (from : ℕ) (spans : List PageSpan) → AreRising from spans
        → HaveFrom from spans → (left : ℕ → ℕ)
        → ((node : ℕ) → left node ≡ gone node - stated_below spots from node)
        → moves_by go left (shares_over (stated_in spots) nodes spans)
        ≡ moves_over go (stated_in spots) (gone_in spots gone) nodes spans
    spans-moves from [] rises have left is = refl
    spans-moves from (span ∷ spans) rises have left is =
        let within = shares_within (stated_in spots span) span nodes in
        let low : (node : ℕ)
        → stated_below spots span.first node ≡ stated_below spots from node =
        below-first from span spans rises have in
        let here : (node : ℕ)
        → min (stated_in spots span node) (left node) ≡ gone_in spots gone span node =
        λ node. omega (
          arith,
          gone-counted spots gone node span.first span.pages,
          is node,
          low node,
        ) in
        let next : (node : ℕ) → left node - pages_on within node
        ≡ gone node - stated_below spots (span_end span) node =
        λ node. omega (arith, is node, low node, below-end span node, all-within span node) in
        moves-append go left within (shares_over (stated_in spots) nodes spans)
        ∙ ap₂ (λ (a b : List ShareMove). a ++ b)
        (within-moves go left (stated_in spots span) (gone_in spots gone span) span here nodes)
        (spans-moves (span_end span) spans rises.3 (have-next from span spans rises.0 have)
        (λ node. left node - pages_on within node) next)

-- ---- the laws

pub shares-counted : (spots : ℕ → Spot) (nodes : ℕ) (spans : List PageSpan) (node : ℕ)
    → HaveAll spots nodes spans
    → pages_on (shares_over (stated_in spots) nodes spans) node ≡ stated_on spots node
shares-counted spots nodes spans node all =
    spans-counted spots nodes all.few 0 (2 ^ 35) spans refl all.rising
    (λ page other low stated. all.within page other stated) all.below node

pub shares-moved : (spots : ℕ → Spot) (nodes : ℕ) (spans : List PageSpan) (old new : ℕ)
    (room : ℕ → ℕ) → HaveAll spots nodes spans
    → moves_of (shares_over (stated_in spots) nodes spans) old new room
    ≡ page_moves spots old new room nodes spans
shares-moved spots nodes spans old new room all =
    let go = moved_node old new in
    let shares = shares_over (stated_in spots) nodes spans in
    let counts : (node : ℕ) → pages_on shares node ≡ stated_on spots node =
    λ node. shares-counted spots nodes spans node all in
    let gone = (shift_of spots old new room).gone in
    let none : (node : ℕ) → gone node ≡ gone node - stated_below spots 0 node =
    λ node. omega (
      arith,
      count-none (λ page. is_stated node (spots page)) 0 0
          (λ page low high. absurd (omega arith)),
    ) in
    ap (λ (count : ℕ → ℕ). moves_by go (counted_shift count old new room).gone shares)
    (λ i node. counts node i)
    ∙ spans-moves spots nodes all.few go gone 0 spans all.rising
    (λ page other low stated. all.within page other stated) gone none
