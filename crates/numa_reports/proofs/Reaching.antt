-- How pages come to a node: one node more to fault on, and the nodes that have to be full.
use Rattle.std.proofs.Common.{◌≡◌, ◌≢◌, ◌∙◌, ℕ, suc, ◌+◌, ◌++◌, true, false}
use Rattle.std.proofs.Common.{Some, None, List, [], ◌∷◌, refl, sym, ap, arith, inl, inr}
use Rattle.std.specs.Prelude.{◌==◌, ◌||◌}
use Rattle.std.proofs.lemmas.Bool.{cases_Bool, cases_eq, eqb-true, ne_eqb, eq-eqb}
use Rattle.numa_mask.specs.NodeSet.{has, with_node}
use Rattle.numa_mask.proofs.Images.{has-none, has-with}
use Rattle.numa_machine.specs.Machine.{Hardware}
use Rattle.numa_requests.specs.declared.command.Command.{Command}
use Rattle.numa_placed.specs.Binds.{first_with_room}
use Rattle.numa_reports.specs.Comings.{AreFull, coming_if, coming_on, comings_from, runs_on, set_before}
use Rattle.numa_reports.specs.declared.coming.Coming.{Coming}

-- one node more
pub comings-next : (machine : Hardware) (history : List Command) (task page node cpu : ℕ)
    (before after : List Coming) → before ≡ comings_from machine history task page node cpu
    → after ≡ before ++ coming_if (runs_on machine.fallback cpu)
    (coming_on machine history task page node cpu)
    → after ≡ comings_from machine history task page node (cpu + 1)
comings-next machine history task page node cpu before after was added =
    let next : suc cpu ≡ cpu + 1 = omega arith in
    added ∙ ap (λ l. l ++ coming_if (runs_on machine.fallback cpu)
    (coming_on machine history task page node cpu)) was
    ∙ ap (λ (n : ℕ). comings_from machine history task page node n) next

-- ---- a page comes to the node that has room, where those before it are full

has-self : (set other : ℕ) → has (with_node set other) other ≡ true
has-self set other =
    let both : has (with_node set other) other ≡ (has set other || (other == other)) =
    has-with set other other in
    grind (arith, both, eq-eqb other other refl)

-- the set found has what the given one has
kept-before : (node : ℕ) (nodes : List ℕ) (set found one : ℕ)
    → set_before node nodes set ≡ Some found → has set one ≡ true → has found one ≡ true
kept-before node [] set found one none it = absurd (let odd : None ≡ Some found = none in cc)
kept-before node (other ∷ nodes) set found one is it = elim (cases_Bool (other == node)) [
  | inl here ↦
      let same : set_before node (other ∷ nodes) set ≡ Some set = rw here refl in
      grind (arith, same, is, it)
  | inr there ↦
      let rest : set_before node (other ∷ nodes) set
      ≡ set_before node nodes (with_node set other) = rw there refl in
      kept-before node nodes (with_node set other) found one (sym rest ∙ is)
      (has-with set other one ∙ rw it refl)
]

pub comes-on : (node : ℕ) (nodes : List ℕ) (set found : ℕ) (room : ℕ → ℕ)
    → set_before node nodes set ≡ Some found → AreFull found room → room node ≢ 0
    → first_with_room room nodes ≡ Some node
comes-on node [] set found room none full some = absurd (let odd : None ≡ Some found = none in cc)
comes-on node (other ∷ nodes) set found room is full some = elim (cases_Bool (other == node)) [
  | inl here ↦
      let same : other ≡ node = eqb-true other node here in
      let left : (room other == 0) ≡ false =
      ne_eqb (room other) 0 (λ e. some (ap room (sym same) ∙ e)) in
      let first : first_with_room room (other ∷ nodes) ≡ Some other = rw left refl in
      first ∙ ap (λ n. Some n) same
  | inr there ↦
      let step : set_before node (other ∷ nodes) set
      ≡ set_before node nodes (with_node set other) = rw there refl in
      let rest : set_before node nodes (with_node set other) ≡ Some found = sym step ∙ is in
      let none : room other ≡ 0 = full other (kept-before node nodes (with_node set other) found
      other rest (has-self set other)) in
      let away : (room other == 0) ≡ true = eq-eqb (room other) 0 none in
      let first : first_with_room room (other ∷ nodes) ≡ first_with_room room nodes =
      rw away refl in
      first ∙ comes-on node nodes (with_node set other) found room rest full some
]

-- the node that is found has room
pub found-room : (node : ℕ) (nodes : List ℕ) (room : ℕ → ℕ)
    → first_with_room room nodes ≡ Some node → room node ≢ 0
found-room node [] room none = absurd (let odd : None ≡ Some node = none in cc)
found-room node (other ∷ nodes) room is = elim (cases_Bool (room other == 0)) [
  | inl none ↦
      let step : first_with_room room (other ∷ nodes) ≡ first_with_room room nodes =
      rw none refl in
      found-room node nodes room (sym step ∙ is)
  | inr some ↦
      let first : first_with_room room (other ∷ nodes) ≡ Some other = rw some refl in
      let same : other ≡ node = grind (arith, first, is) in
      λ e. grind (arith, some, eq-eqb (room other) 0 (ap room same ∙ e))
]

-- one node more is full
full-with : (set other : ℕ) (room : ℕ → ℕ) → AreFull set room → room other ≡ 0
    → AreFull (with_node set other) room
full-with set other room full none node it = elim (cases_eq node other) [
  | inl same ↦ ap room same ∙ none
  | inr apart ↦
      let away : (node == other) ≡ false = ne_eqb node other apart in
      let both : has (with_node set other) node ≡ (has set node || (node == other)) =
      has-with set other node in
      full node (grind (arith, away, both, it))
]

pub needs-on : (node : ℕ) (nodes : List ℕ) (set : ℕ) (room : ℕ → ℕ) → AreFull set room
    → first_with_room room nodes ≡ Some node
    → (found : ℕ) × (set_before node nodes set ≡ Some found) × AreFull found room
needs-on node [] set room full none = absurd (let odd : None ≡ Some node = none in cc)
needs-on node (other ∷ nodes) set room full is = elim (cases_Bool (room other == 0)) [
  | inl none ↦
      let step : first_with_room room (other ∷ nodes) ≡ first_with_room room nodes =
      rw none refl in
      let rest = sym step ∙ is in
      let empty : room other ≡ 0 = eqb-true (room other) 0 none in
      let apart : (other == node) ≡ false = ne_eqb other node
      (λ same. found-room node nodes room rest (ap room (sym same) ∙ empty)) in
      let on : set_before node (other ∷ nodes) set
      ≡ set_before node nodes (with_node set other) = rw apart refl in
      let found = needs-on node nodes (with_node set other) room
      (full-with set other room full empty) rest in
      (found.0, on ∙ found.1, found.2)
  | inr some ↦
      let first : first_with_room room (other ∷ nodes) ≡ Some other = rw some refl in
      let same : other ≡ node = grind (arith, first, is) in
      let here : (other == node) ≡ true = eq-eqb other node same in
      let at : set_before node (other ∷ nodes) set ≡ Some set = rw here refl in
      (set, at, full)
]

-- no node of none is full
pub none-full : (room : ℕ → ℕ) → AreFull 0 room
none-full room node it =
    absurd (let odd : false ≡ true = sym (has-none node) ∙ it in cc)
