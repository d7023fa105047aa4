-- Pages that move, one by one and block by block.
use Rattle.std.proofs.Common.{◌≡◌, ℕ, ◌+◌, ◌-◌, ◌*◌, ◌<◌, ◌≤◌, ◌^◌, ◌&&◌, eqb, length, Bool, Some}
use Rattle.std.proofs.Common.{List, get_or, refl, sym, ap, ◌∙◌, arith, inl, inr, zero-add, add-zero}
use Rattle.std.proofs.lemmas.Bool.{cases_Bool}
use Rattle.std.specs.Option.{option_map}
use Rattle.std.specs.Prelude.{if◌then◌else◌}
use Rattle.numa_machine.specs.Machine.{Hardware}
use Rattle.numa_ranges.specs.Counts.{count_pages}
use Rattle.numa_ranges.proofs.Counted.{count-split}
use Rattle.numa_plan.specs.Meaning.{PlanData, is_number, planned_first}
use Rattle.numa_plan.proofs.CountLemmas.{shift}
use Rattle.numa_space.specs.Pages.{is_mapped}
use Rattle.numa_requests.specs.declared.command.Command.{Command}
use Rattle.numa_compile.specs.Spans.{first_node}
use Rattle.numa_compile.specs.Standing.{PlanStandsFor}
use Rattle.numa_reports.specs.Moved.{AddsMoves, HasRoomFor, meant_moves, moves_in, pairs}
use Rattle.numa_reports.specs.Moved.{planned_moves}

pub count-zero : (test : ℕ → Bool) → count_pages test 0 0 ≡ 0
unfolding count_pages
count-zero test = refl

count-no : (test : ℕ → Bool) (first : ℕ) → count_pages test first 0 ≡ 0
unfolding count_pages
count-no test first = refl

pub none-moved : (test : ℕ → Bool) (first : ℕ) → count_pages test first (first - first) ≡ 0
none-moved test first =
    let none : first - first ≡ 0 = omega arith in
    ap (λ (n : ℕ). count_pages test first n) none ∙ count-no test first

one-page : (test : ℕ → Bool) (n : ℕ) → count_pages test (0 + n) 1 ≡ (if test n then 1 else 0)
unfolding count_pages
one-page test n = simp (zero-add, add-zero)

-- one page more
pub count-next : (test : ℕ → Bool) (n : ℕ) → count_pages test 0 (n + 1) ≡ count_pages test 0 n
    + (if test n then 1 else 0)
count-next test n = omega (arith, count-split test 0 n 1 (n + 1) refl, one-page test n)

-- more pages of a span
pub count-more : (test : ℕ → Bool) (first page more : ℕ) → first ≤ page
    → count_pages test first (page + more - first) ≡ count_pages test first (page - first)
    + count_pages test page more
count-more test first page more low =
    let place : first + (page - first) ≡ page = omega arith in
    omega (
      arith,
      count-split test first (page - first) more (page + more - first) (omega arith),
      ap (λ (a : ℕ). count_pages test a more) place,
    )

-- what two plans wrote for a span has a pair for each page
filled-pairs : (before after : PlanData) (task cpu first : ℕ) (old new : List ℕ) (n from to : ℕ)
    → ((k : ℕ) → k < n → planned_first before task (first + k) cpu ≡ Some (get_or old k 0))
    → ((k : ℕ) → k < n → planned_first after task (first + k) cpu ≡ Some (get_or new k 0))
    → count_pages (λ k. eqb (get_or old k 0) from && eqb (get_or new k 0) to) 0 n
    ≡ planned_moves before after task first n cpu from to
filled-pairs before after task cpu first old new n from to filled filled' =
    shift (λ k. eqb (get_or old k 0) from && eqb (get_or new k 0) to)
    (λ page. is_number from (planned_first before task page cpu)
    && is_number to (planned_first after task page cpu)) 0 first n
    (λ k lt. rw zero-add (rw (filled k lt, filled' k lt) refl))

-- what is added for such pairs is what the span's pages move
pub filled-moves : (before after : PlanData) (task cpu first : ℕ) (old new : List ℕ) (n : ℕ)
    → length old ≡ n → length new ≡ n
    → ((k : ℕ) → k < length old → planned_first before task (first + k) cpu ≡ Some (get_or old k 0))
    → ((k : ℕ) → k < length new → planned_first after task (first + k) cpu ≡ Some (get_or new k 0))
    → (table table' : List ℕ) → AddsMoves table table' (pairs old new)
    → AddsMoves table table' (planned_moves before after task first n cpu)
filled-moves before after task cpu first old new n long long' filled filled' table table' adds from
    to f t =
    let all = filled-pairs before after task cpu first old new n from to
    (λ k lt. filled k (omega (arith, long, lt)))
    (λ k lt. filled' k (omega (arith, long', lt))) in
    adds from to f t ∙ ap (λ (m : ℕ). moves_in table from to + m)
    (ap (λ (m : ℕ). count_pages (λ k. eqb (get_or old k 0) from && eqb (get_or new k 0) to) 0 m)
    long ∙ all)

module _ (machine : Hardware) (plan : PlanData) (history : List Command)
    (stands : PlanStandsFor machine plan history) where
  -- whether a plan sends a page to a node
  pub number-meant : (task page cpu node : ℕ) → cpu < machine.nodes
      → is_number node (planned_first plan task page cpu)
      ≡ (is_mapped history page && eqb (first_node machine history task page cpu) node)
  number-meant task page cpu node lt =
      elim (cases_Bool (is_mapped history page)) [
        | inl t ↦ ap (λ o. is_number node (option_map (λ (nodes : List ℕ). get_or nodes 0 0) o))
            (stands.lists task page cpu lt t)
            ∙ sym (ap (λ b. b && eqb (first_node machine history task page cpu) node) t)
        | inr f ↦ ap (λ o. is_number node (option_map (λ (nodes : List ℕ). get_or nodes 0 0) o))
            (stands.unmapped task page cpu f)
            ∙ sym (ap (λ b. b && eqb (first_node machine history task page cpu) node) f)
      ]

-- the pages that two plans send to other nodes are those of the histories
pub moves-meant : (machine : Hardware) (before after : PlanData) (old new : List Command)
    (task cpu first pages from to : ℕ) → PlanStandsFor machine before old
    → PlanStandsFor machine after new → cpu < machine.nodes
    → planned_moves before after task first pages cpu from to ≡ meant_moves machine old new task
    first pages cpu from to
moves-meant machine before after old new task cpu first pages from to was is lt =
    shift (λ page. is_number from (planned_first before task page cpu)
    && is_number to (planned_first after task page cpu))
    (λ page. (is_mapped old page && eqb (first_node machine old task page cpu) from)
    && (is_mapped new page && eqb (first_node machine new task page cpu) to)) first first pages
    (λ k short i. number-meant machine before old was task (first + k) cpu from lt i
    && number-meant machine after new is task (first + k) cpu to lt i)

-- a table without pages
pub empty-room : (table : List ℕ) (entries pages : ℕ) → length table ≡ entries → entries ≡ 65536
    → ((k : ℕ) → k < entries → get_or table k 0 ≡ 0) → pages < 2 ^ 64 → HasRoomFor table pages
empty-room table entries pages all is none low = record {
  entries = all ∙ is;
  room = λ from to f t. omega (arith, none (from * 256 + to) (omega arith));
}
