use Rattle.std.proofs.Common.{◌≡◌, ℕ, Some, List, slice_get, remove}
use Rattle.std.proofs.Common.{ap, arith, subst, sym, ◌∙◌}
use Rattle.std.specs.BTreeMap.{is_at}
use Rattle.std.specs.Map.{remove_entry}
use Rattle.std.specs.Ordering.{nat_cmp}
use Rattle.numa_plan.specs.Meaning.{number_of}
use Rattle.numa_plan.specs.TaskTable.{AreSorted, IsPlaceOf}
use Rattle.numa_plan.proofs.TaskPlaces.{entry-within, number-left, number-removed}
use Rattle.numa_plan.proofs.TaskPlaces.{remove-nowhere, remove-there, sorted-removed}
use Rattle.numa_plan.proofs.task_numbers.TaskNumbers.remove.Goals as goal

gone : (task place had : ℕ) (items first second new : List (ℕ × ℕ)) → first ≡ items
    → second ≡ items → IsPlaceOf task first place → slice_get second place ≡ Some (task, had)
    → new ≡ remove items place → new ≡ remove_entry (is_at (nat_cmp task)) items
gone task place had items first second new same also at is made =
    made ∙ remove-there task items place had
    (subst (λ (l : List (ℕ × ℕ)). IsPlaceOf task l place) same at)
    (sym (ap (λ (l : List (ℕ × ℕ)). slice_get l place) also) ∙ is)

pub returns-in_default-clause-entries : goal.returns-in_default-clause-entries
returns-in_default-clause-entries c =
    remove-nowhere c.args.task c.args.self.now
    (sym (ap (λ (l : List (ℕ × ℕ)). number_of l c.args.task)
    (c.deref-2.ensures.value ∙ c.self.view_is)) ∙ sym c.number_at.ensures.number
    ∙ c.in_default.is)

pub remove-requires : goal.remove-requires
remove-requires c =
    omega (
      arith,
      entry-within c.deref-2.result.now c.place_of-place.result (c.args.task, c.in-Some.had)
          c.in-Some.ensures.there,
      c.deref-2.ensures.len,
    )

pub invariant_of-self : goal.invariant_of-self
invariant_of-self c =
    subst (λ (l : List (ℕ × ℕ)). AreSorted l)
    (sym (gone c.args.task c.place_of-place.result c.in-Some.had c.self.inside.entries.items
    c.deref.result.now c.deref-2.result.now c.remove.new.self.items c.deref.ensures.value
    c.deref-2.ensures.value c.place_of-place.ensures.place c.in-Some.ensures.there
    c.remove.ensures.items))
    (sorted-removed c.args.task c.self.inside.entries.items c.self.invariant)

pub returns-clause-entries : goal.returns-clause-entries
returns-clause-entries c =
    gone c.args.task c.place_of-place.result c.in-Some.had c.self.inside.entries.items
    c.deref.result.now c.deref-2.result.now c.remove.new.self.items c.deref.ensures.value
    c.deref-2.ensures.value c.place_of-place.ensures.place c.in-Some.ensures.there
    c.remove.ensures.items
    ∙ ap (remove_entry (is_at (nat_cmp c.args.task))) c.self.view_is

pub returns-clause-given : goal.returns-clause-given
returns-clause-given c =
    ap (λ (l : List (ℕ × ℕ)). number_of l c.args.task)
    (gone c.args.task c.place_of-place.result c.in-Some.had c.self.inside.entries.items
    c.deref.result.now c.deref-2.result.now c.remove.new.self.items c.deref.ensures.value
    c.deref-2.ensures.value c.place_of-place.ensures.place c.in-Some.ensures.there
    c.remove.ensures.items)
    ∙ number-removed c.args.task c.self.inside.entries.items c.self.invariant

pub returns-clause-others : goal.returns-clause-others
returns-clause-others c = λ other ne.
    ap (λ (l : List (ℕ × ℕ)). number_of l other)
    (gone c.args.task c.place_of-place.result c.in-Some.had c.self.inside.entries.items
    c.deref.result.now c.deref-2.result.now c.remove.new.self.items c.deref.ensures.value
    c.deref-2.ensures.value c.place_of-place.ensures.place c.in-Some.ensures.there
    c.remove.ensures.items)
    ∙ number-left c.args.task other ne c.self.inside.entries.items c.self.invariant
    ∙ ap (λ (l : List (ℕ × ℕ)). number_of l other) c.self.view_is
