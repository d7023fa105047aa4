-- First nodes of a span's lists, run by run.
use Rattle.std.proofs.Common.{◌≡◌, ℕ, ◌+◌, ◌-◌, ◌<◌, ◌≤◌, ◌^◌, Bool, eqb, Option, Some, List, ◌++◌}
use Rattle.std.proofs.Common.{take, drop, length, length-append, length-drop, get_or, sym, ap, ◌∙◌}
use Rattle.std.proofs.Common.{None, arith, inl, inr, unwrap_or}
use Rattle.std.specs.Option.{option_map}
use Rattle.std.proofs.lemmas.Bool.{cases_lt}
use Rattle.std.proofs.lemmas.List.{get_or_append_left, get_or-append_right, get_or-drop}
use Rattle.std.proofs.lemmas.List.{get_or-take, length-take, length-take-le}
use borrow.Rule.Slice.PartMut.{put_mid}
use Rattle.numa_ranges.specs.Counts.{count_pages}
use Rattle.numa_ranges.specs.Runs.{AreApart, page_at}
use Rattle.numa_ranges.specs.declared.run.Run.{Run}
use Rattle.numa_ranges.proofs.Counted.{count-split}
use Rattle.numa_plan.proofs.CountLemmas.{shift, count-most}
use Rattle.numa_plan.proofs.Searching.{high_none, is_mapped}
use Rattle.numa_plan.specs.Found.{IsAt, IsMapped}
use Rattle.numa_plan.specs.Rows.{RuleData, first_of, row_of}
use Rattle.numa_plan.specs.Meaning.{PlanData, planned_first, rule_for, is_number, CountsFirsts}
use Rattle.numa_plan.specs.Meaning.{IsNear, first_or}
use Rattle.numa_plan.specs.declared.runs.Found.{Found}

-- what a write to a part leaves
pub put_length : (a n : ℕ) (xs ys : List ℕ) → length ys ≡ n → a + n ≤ length xs
    → length (put_mid a n xs ys) ≡ length xs
put_length a n xs ys is le = simp (length-append, length-take, length-drop) (omega arith)

get_or-put_mid_below : (a n : ℕ) (xs ys : List ℕ) (i d : ℕ) → i < a → a ≤ length xs
    → get_or (put_mid a n xs ys) i d ≡ get_or xs i d
get_or-put_mid_below a n xs ys i d lt le =
    let long : length (take a xs) ≡ a = length-take-le a xs le in
    let inside : i < length (take a xs) = omega arith in
    get_or_append_left (take a xs) (ys ++ drop n (drop a xs)) d i inside ∙ get_or-take a xs i d lt

get_or-put_mid_mid : (a n : ℕ) (xs ys : List ℕ) (i d : ℕ) → a ≤ length xs → a ≤ i
    → i < a + length ys → get_or (put_mid a n xs ys) i d ≡ get_or ys (i - a) d
get_or-put_mid_mid a n xs ys i d le ge lt =
    get_or-append_right (take a xs) (ys ++ drop n (drop a xs)) a i d (length-take-le a xs le) ge
    ∙ get_or_append_left ys (drop n (drop a xs)) d (i - a) (omega arith)

-- a part more of what is written place by place
pub fill-more : (f : ℕ → ℕ) (done count : ℕ) (out ys : List ℕ) → done + count ≤ length out
    → length ys ≡ count → ((k : ℕ) → k < done → get_or out k 0 ≡ f k)
    → ((k : ℕ) → k < count → get_or ys k 0 ≡ f (done + k)) → (k : ℕ) → k < done + count
    → get_or (put_mid done (done + count - done) out ys) k 0 ≡ f k
fill-more f done count out ys within long before here k lt =
    elim (cases_lt k done) [
      | inl early ↦
          get_or-put_mid_below done (done + count - done) out ys k 0 early (omega arith)
          ∙ before k early
      | inr late ↦
          let place : done + (k - done) ≡ k = omega arith in
          get_or-put_mid_mid done (done + count - done) out ys k 0 (omega arith) late (omega arith)
          ∙ here (k - done) (omega arith) ∙ ap f place
    ]

-- the first node of a page with this index, whose run has this rule
first-here : (plan : PlanData) (task cpu page index : ℕ) (number : Option ℕ) (rule : RuleData)
    → page_at plan.runs page ≡ Some (index, number) → rule ≡ rule_for plan task number
    → planned_first plan task page cpu ≡ Some (first_of rule cpu index)
first-here plan task cpu page index number rule at is =
    ap (λ o. option_map (λ (nodes : List ℕ). get_or nodes 0 0)
    (option_map (λ at. row_of (rule_for plan task at.1) cpu at.0) o)) at
    ∙ ap (λ (r : RuleData). Some (first_of r cpu index)) (sym is)

-- the first node of a page that a run has
first-at : (plan : PlanData) (task cpu page k : ℕ) (found : Found) (rule : RuleData)
    → k < found.left → IsAt plan.runs page found → rule ≡ rule_for plan task found.rule
    → planned_first plan task (page + k) cpu ≡ Some (first_of rule cpu (found.index + k))
first-at plan task cpu page k found rule short at is =
    first-here plan task cpu (page + k) (found.index + k) found.rule rule (at.each k short) is

pub filled_more : (plan : PlanData) (task cpu first done count : ℕ) (out ys : List ℕ)
    (found : Found) (rule : RuleData)
    → done + count ≤ length out → length ys ≡ count → count ≤ found.left
    → IsAt plan.runs (first + done) found → rule ≡ rule_for plan task found.rule
    → ((k : ℕ) → k < done → planned_first plan task (first + k) cpu ≡ Some (get_or out k 0))
    → ((k : ℕ) → k < length ys → get_or ys k 0 ≡ first_of rule cpu (found.index + k))
    → (k : ℕ) → k < done + count → planned_first plan task (first + k) cpu
    ≡ Some (get_or (put_mid done (done + count - done) out ys) k 0)
filled_more plan task cpu first done count out ys found rule within long short at is before here k
    lt =
    elim (cases_lt k done) [
      | inl early ↦ before k early
          ∙ ap Some
          (sym (get_or-put_mid_below done (done + count - done) out ys k 0 early (omega arith)))
      | inr late ↦
          let place : first + done + (k - done) ≡ first + k = omega arith in
          ap (λ (page : ℕ). planned_first plan task page cpu) (sym place)
          ∙ first-at plan task cpu (first + done) (k - done) found rule (omega arith) at is
          ∙ ap Some (sym (here (k - done) (omega arith)))
          ∙ ap Some
          (sym (get_or-put_mid_mid done (done + count - done) out ys k 0 (omega arith) late
          (omega arith)))
    ]

-- the same for pages of an array
pub marked_more : (plan : PlanData) (task cpu mark done count : ℕ) (pages out ys : List ℕ)
    → length out ≡ length pages → done + length ys ≡ length out → count ≤ length ys
    → ((k : ℕ) → k < done → get_or out k 0 ≡ first_or mark plan task (get_or pages k 0) cpu)
    → ((k : ℕ) → k < count → get_or ys k 0
    ≡ first_or mark plan task (get_or (take (length pages - done) (drop done pages)) k 0) cpu)
    → (k : ℕ) → k < done + count → get_or (put_mid done (length out - done) out ys) k 0
    ≡ first_or mark plan task (get_or pages k 0) cpu
marked_more plan task cpu mark done count pages out ys same long within before here k lt =
    elim (cases_lt k done) [
      | inl early ↦
          get_or-put_mid_below done (length out - done) out ys k 0 early (omega arith)
          ∙ before k early
      | inr late ↦
          let place : done + (k - done) ≡ k = omega arith in
          let is : get_or (take (length pages - done) (drop done pages)) (k - done) 0
          ≡ get_or pages k 0 =
          get_or-take (length pages - done) (drop done pages) (k - done) 0 (omega arith)
          ∙ get_or-drop done pages (k - done) 0
          ∙ ap (λ (at : ℕ). get_or pages at 0) place in
          get_or-put_mid_mid done (length out - done) out ys k 0 (omega arith) late (omega arith)
          ∙ here (k - done) (omega arith)
          ∙ ap (λ (at : ℕ). first_or mark plan task at cpu) is
    ]

-- pages of a run that go on by one
pub marked_here : (plan : PlanData) (task cpu mark count far page : ℕ) (pages ys : List ℕ)
    (found : Found) (rule : RuleData)
    → far + count ≤ found.left → IsNear plan task page found rule
    → ((k : ℕ) → k < count → get_or pages k 0 ≡ page + far + k)
    → ((k : ℕ) → k < count → get_or ys k 0 ≡ first_of rule cpu (found.index + far + k))
    → (k : ℕ) → k < count → get_or ys k 0 ≡ first_or mark plan task (get_or pages k 0) cpu
marked_here plan task cpu mark count far page pages ys found rule within near row here k lt =
    let q : ℕ = far + k in
    let there : page + far + k ≡ page + q = omega arith in
    let turn : found.index + far + k ≡ found.index + q = omega arith in
    let is : get_or pages k 0 ≡ page + q = row k lt ∙ there in
    here k lt
    ∙ ap (λ (index : ℕ). first_of rule cpu index) turn
    ∙ sym
    (ap (λ o. unwrap_or o mark)
    (ap (λ (at : ℕ). planned_first plan task at cpu) is
    ∙ first-here plan task cpu (page + q) (found.index + q) found.rule rule
    (near.each q (omega arith)) (near.serves (omega arith))))

-- a page that no run has is marked
first-mark : (plan : PlanData) (task cpu mark page : ℕ) → page_at plan.runs page ≡ None
    → first_or mark plan task page cpu ≡ mark
first-mark plan task cpu mark page none =
    ap (λ o. unwrap_or (option_map (λ (nodes : List ℕ). get_or nodes 0 0)
    (option_map (λ at. row_of (rule_for plan task at.1) cpu at.0) o)) mark) none

-- the same for a span, whose other pages lie higher than any that is mapped
pub marked_rest : (plan : PlanData) (task cpu mark first done : ℕ) (out ys : List ℕ)
    → AreApart 0 plan.runs → done ≤ length out → length ys ≡ length out - done
    → (done < length out → 2 ^ 35 ≤ first + done)
    → ((k : ℕ) → k < done → get_or out k 0 ≡ first_or mark plan task (first + k) cpu)
    → ((k : ℕ) → k < length ys → get_or ys k 0 ≡ mark) → (k : ℕ) → k < length out
    → get_or (put_mid done (length out - done) out ys) k 0
    ≡ first_or mark plan task (first + k) cpu
marked_rest plan task cpu mark first done out ys apart within long high before marks k lt =
    elim (cases_lt k done) [
      | inl early ↦
          get_or-put_mid_below done (length out - done) out ys k 0 early (omega arith)
          ∙ before k early
      | inr late ↦
          let top : 2 ^ 35 ≤ first + k = omega (arith, high (omega arith)) in
          get_or-put_mid_mid done (length out - done) out ys k 0 (omega arith) late (omega arith)
          ∙ marks (k - done) (omega arith)
          ∙ sym
          (first-mark plan task cpu mark (first + k)
          (high_none 0 plan.runs (first + k) apart top))
    ]

-- pages of a hole that go on by one
pub marked_none : (plan : PlanData) (task cpu mark count hole page : ℕ) (pages ys : List ℕ)
    → count ≤ hole → ((q : ℕ) → q < hole → page_at plan.runs (page + q) ≡ None)
    → ((k : ℕ) → k < count → get_or pages k 0 ≡ page + k)
    → ((k : ℕ) → k < count → get_or ys k 0 ≡ mark) → (k : ℕ) → k < count
    → get_or ys k 0 ≡ first_or mark plan task (get_or pages k 0) cpu
marked_none plan task cpu mark count hole page pages ys within none row here k lt =
    here k lt
    ∙ sym
    (ap (λ (at : ℕ). first_or mark plan task at cpu) (row k lt)
    ∙ first-mark plan task cpu mark (page + k) (none k (omega arith)))

pub counted_more : (plan : PlanData) (task cpu first page count : ℕ) (old new : List ℕ)
    (found : Found) (rule : RuleData)
    → first ≤ page → count ≤ found.left → IsAt plan.runs page found
    → rule ≡ rule_for plan task found.rule
    → CountsFirsts plan task first (page - first) cpu old
    → ((node : ℕ) → node < 256 → get_or new node 0 ≡ get_or old node 0 + count_pages
    (λ k. eqb (first_of rule cpu k) node) found.index count)
    → CountsFirsts plan task first (page + count - first) cpu new
counted_more plan task cpu first page count old new found rule low short at is before here node
    small =
    let test : ℕ → Bool = λ page. is_number node (planned_first plan task page cpu) in
    let split : count_pages test first (page + count - first) ≡ count_pages test first
    (page - first) + count_pages test (first + (page - first)) count =
    count-split test first (page - first) count (page + count - first) (omega arith) in
    let place : first + (page - first) ≡ page = omega arith in
    let moved : count_pages test (first + (page - first)) count ≡ count_pages test page count =
    ap (λ (a : ℕ). count_pages test a count) place in
    let own : count_pages test page count ≡ count_pages (λ k. eqb (first_of rule cpu k) node)
    found.index count = shift test (λ k. eqb (first_of rule cpu k) node) page found.index count
    (λ k lt.
    ap (is_number node) (first-at plan task cpu page k found rule (omega arith) at is)) in
    omega (arith, split, moved, own, before node small, here node small)

pub mapped_more : (runs : List (Run (Option ℕ))) (first page count : ℕ) (found : Found)
    → first ≤ page → count ≤ found.left → IsAt runs page found → IsMapped runs first (page - first)
    → IsMapped runs first (page + count - first)
mapped_more runs first page count found low short at before q from to =
    elim (cases_lt q page) [
      | inl early ↦ before q from (omega arith)
      | inr late ↦ is_mapped runs page found q at late (omega arith)
    ]

-- no node has more pages than there are
pub counted_room : (plan : PlanData) (task cpu first page count : ℕ) (counts : List ℕ)
    (found : Found) → first ≤ page → count ≤ found.left → IsAt plan.runs page found
    → CountsFirsts plan task first (page - first) cpu counts → (node : ℕ) → node < 256
    → get_or counts node 0 + count < 2 ^ 64
counted_room plan task cpu first page count counts found low short at before node small =
    omega (
      arith,
      before node small,
      count-most (λ page. is_number node (planned_first plan task page cpu)) first (page - first),
      at.low,
    )

-- nothing is counted yet
pub counted_none : (plan : PlanData) (task cpu first : ℕ) (counts : List ℕ)
    → ((node : ℕ) → node < 256 → get_or counts node 0 ≡ 0)
    → CountsFirsts plan task first (first - first) cpu counts
counted_none plan task cpu first counts none node small =
    omega (
      arith,
      none node small,
      count-most (λ page. is_number node (planned_first plan task page cpu)) first
          (first - first),
    )
