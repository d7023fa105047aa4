use Rattle.std.proofs.Common.{◌≡◌, ℕ, Option, Some, None, List, slice_get, slice_set}
use Rattle.std.proofs.Common.{insert, ap, arith, subst, sym, ◌∙◌}
use Rattle.std.specs.BTreeMap.{insert_entry}
use Rattle.std.specs.Ordering.{nat_cmp}
use Rattle.numa_plan.specs.Meaning.{number_of}
use Rattle.numa_plan.specs.TaskTable.{AreSorted, IsPlaceOf}
use Rattle.numa_plan.proofs.TaskPlaces.{entry-within, insert-nowhere, number-kept, number-set}
use Rattle.numa_plan.proofs.TaskPlaces.{set-there, sorted-set}
use Rattle.numa_plan.proofs.task_numbers.TaskNumbers.insert.Goals as goal

-- the task's first entry, by what the calls read
module _ (task number place : ℕ) (items first second new : List (ℕ × ℕ)) (same : first ≡ items)
    (also : second ≡ items) (at : IsPlaceOf task first place) where
  here : IsPlaceOf task items place
  here = subst (λ (l : List (ℕ × ℕ)). IsPlaceOf task l place) same at

  fresh : (found : Option ℕ) → found ≡ number_of second task → found ≡ None
      → new ≡ insert items place (task, number) → new ≡ insert_entry nat_cmp items task number
  fresh found is none made =
      made ∙ insert-nowhere task number items place here
      (sym (ap (λ (l : List (ℕ × ℕ)). number_of l task) also) ∙ sym is ∙ none)

  there : (had : ℕ) → slice_get second place ≡ Some (task, had)
      → slice_set items place (task, number) ≡ insert_entry nat_cmp items task number
  there had is = set-there task number items place had here
      (sym (ap (λ (l : List (ℕ × ℕ)). slice_get l place) also) ∙ is)

-- what the clauses say of the new table
module _ (task number : ℕ) (items now new : List (ℕ × ℕ)) (view : items ≡ now)
    (is : new ≡ insert_entry nat_cmp items task number) where
  sorted : AreSorted items → AreSorted new
  sorted rises = subst (λ (l : List (ℕ × ℕ)). AreSorted l) (sym is)
      (sorted-set task number items rises)

  entries : new ≡ insert_entry nat_cmp now task number
  entries = is ∙ ap (λ (l : List (ℕ × ℕ)). insert_entry nat_cmp l task number) view

  given : number_of new task ≡ Some number
  given = ap (λ (l : List (ℕ × ℕ)). number_of l task) is ∙ number-set task number items

  others : (other : ℕ) → (other ≡ task → ⊥) → number_of new other ≡ number_of now other
  others other ne = ap (λ (l : List (ℕ × ℕ)). number_of l other) is
      ∙ number-kept task number other ne items ∙ ap (λ (l : List (ℕ × ℕ)). number_of l other) view

pub invariant_of-self-in_default : goal.invariant_of-self-in_default
invariant_of-self-in_default c =
    sorted c.args.task c.args.number c.self.inside.entries.items c.args.self.now
    c.insert.new.self.items c.self.view_is
    (fresh c.args.task c.args.number c.place_of-place.result c.self.inside.entries.items
    c.deref.result.now c.deref-2.result.now c.insert.new.self.items c.deref.ensures.value
    c.deref-2.ensures.value c.place_of-place.ensures.place c.number_at.result
    c.number_at.ensures.number c.in_default.is c.in-Ok.ensures.items) c.self.invariant

pub returns-in_default-clause-entries : goal.returns-in_default-clause-entries
returns-in_default-clause-entries c =
    entries c.args.task c.args.number c.self.inside.entries.items c.args.self.now
    c.insert.new.self.items c.self.view_is
    (fresh c.args.task c.args.number c.place_of-place.result c.self.inside.entries.items
    c.deref.result.now c.deref-2.result.now c.insert.new.self.items c.deref.ensures.value
    c.deref-2.ensures.value c.place_of-place.ensures.place c.number_at.result
    c.number_at.ensures.number c.in_default.is c.in-Ok.ensures.items)

pub returns-in_default-clause-given : goal.returns-in_default-clause-given
returns-in_default-clause-given c =
    given c.args.task c.args.number c.self.inside.entries.items c.args.self.now
    c.insert.new.self.items c.self.view_is
    (fresh c.args.task c.args.number c.place_of-place.result c.self.inside.entries.items
    c.deref.result.now c.deref-2.result.now c.insert.new.self.items c.deref.ensures.value
    c.deref-2.ensures.value c.place_of-place.ensures.place c.number_at.result
    c.number_at.ensures.number c.in_default.is c.in-Ok.ensures.items)

pub returns-in_default-clause-others : goal.returns-in_default-clause-others
returns-in_default-clause-others c =
    others c.args.task c.args.number c.self.inside.entries.items c.args.self.now
    c.insert.new.self.items c.self.view_is
    (fresh c.args.task c.args.number c.place_of-place.result c.self.inside.entries.items
    c.deref.result.now c.deref-2.result.now c.insert.new.self.items c.deref.ensures.value
    c.deref-2.ensures.value c.place_of-place.ensures.place c.number_at.result
    c.number_at.ensures.number c.in_default.is c.in-Ok.ensures.items)

pub index_mut-requires : goal.index_mut-requires
index_mut-requires c =
    omega (
      arith,
      entry-within c.deref-2.result.now c.place_of-place.result (c.args.task, c.in-Some.had)
          c.in-Some.ensures.there,
      c.deref-2.ensures.len,
    )

pub invariant_of-self-2 : goal.invariant_of-self-2
invariant_of-self-2 c =
    let set = slice_set c.self.inside.entries.items c.place_of-place.result
    (c.args.task, c.args.number) in
    sorted c.args.task c.args.number c.self.inside.entries.items c.args.self.now set
    c.self.view_is
    (there c.args.task c.args.number c.place_of-place.result c.self.inside.entries.items
    c.deref.result.now c.deref-2.result.now set c.deref.ensures.value c.deref-2.ensures.value
    c.place_of-place.ensures.place c.in-Some.had c.in-Some.ensures.there) c.self.invariant

pub returns-clause-entries : goal.returns-clause-entries
returns-clause-entries c =
    let set = slice_set c.self.inside.entries.items c.place_of-place.result
    (c.args.task, c.args.number) in
    entries c.args.task c.args.number c.self.inside.entries.items c.args.self.now set
    c.self.view_is
    (there c.args.task c.args.number c.place_of-place.result c.self.inside.entries.items
    c.deref.result.now c.deref-2.result.now set c.deref.ensures.value c.deref-2.ensures.value
    c.place_of-place.ensures.place c.in-Some.had c.in-Some.ensures.there)

pub returns-clause-given : goal.returns-clause-given
returns-clause-given c =
    let set = slice_set c.self.inside.entries.items c.place_of-place.result
    (c.args.task, c.args.number) in
    given c.args.task c.args.number c.self.inside.entries.items c.args.self.now set
    c.self.view_is
    (there c.args.task c.args.number c.place_of-place.result c.self.inside.entries.items
    c.deref.result.now c.deref-2.result.now set c.deref.ensures.value c.deref-2.ensures.value
    c.place_of-place.ensures.place c.in-Some.had c.in-Some.ensures.there)

pub returns-clause-others : goal.returns-clause-others
returns-clause-others c =
    let set = slice_set c.self.inside.entries.items c.place_of-place.result
    (c.args.task, c.args.number) in
    others c.args.task c.args.number c.self.inside.entries.items c.args.self.now set
    c.self.view_is
    (there c.args.task c.args.number c.place_of-place.result c.self.inside.entries.items
    c.deref.result.now c.deref-2.result.now set c.deref.ensures.value c.deref-2.ensures.value
    c.place_of-place.ensures.place c.in-Some.had c.in-Some.ensures.there)
