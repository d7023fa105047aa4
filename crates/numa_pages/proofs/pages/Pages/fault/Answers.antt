use Rattle.std.proofs.Common.{◌≡◌, ◌*◌, ℕ, List, None, Ok, Some, false, true, refl, sym, ap, ◌∙◌}
use Rattle.std.proofs.Common.{subst, is_some}
use Rattle.numa_machine.specs.declared.refusal.PlaceRefusal.{PlaceRefusal}
use Rattle.numa_space.specs.History.{page_of}
use Rattle.numa_space.specs.Standing.{SpaceState}
use Rattle.numa_huge.specs.Huge.{huge_at}
use Rattle.numa_page_state.specs.Huge.{HugeFaults, fault_outcome, huge_page}
use Rattle.numa_page_state.specs.Lying.{Ground, ground_in}
use Rattle.numa_pages.specs.Changes.{PagesState, ground_of}
use Rattle.numa_pages.proofs.Touched.{fault-huge, fault-refused, fault-small, faulted-so, listed-so}
use Rattle.numa_pages.proofs.pages.Pages.fault.Goals as goal

pub returns-in-Err : goal.returns-in-Err
returns-in-Err c =
    rw (← c.self.view_is, c.place_cause.ensures) (fault-refused c.args.task c.args.address
    c.args.cpu
    (record { core = c.self.inside.core; state = c.self.inside.state; huge = c.self.inside.huge })
    c.in-Err.why (rw c.space.ensures.space at c.in-Err.ensures.meaning))

pub huge_fault-requires : goal.huge_fault-requires
huge_fault-requires c = sym c.is_huge_in.ensures ∙ c.if-is_huge_in.true

pub returns-then-is_huge_in : goal.returns-then-is_huge_in
returns-then-is_huge_in c =
    let before : PagesState = record {
      core = c.self.inside.core;
      state = c.self.inside.state;
      huge = c.self.inside.huge;
    } in
    let places = rw c.space.ensures.space at c.in-Ok.ensures.meaning in
    rw (← c.self.view_is, c.fault_told.ensures) (fault-huge c.args.task c.args.address c.args.cpu
    before (λ history of. (places history of).0) (record {
      core = c.self.inside.core;
      state = c.self.inside.state;
      huge = c.huge_fault.new.huge;
    }) refl c.huge_fault.result (sym c.is_huge_in.ensures ∙ c.if-is_huge_in.true) refl
    (subst (λ (nodes : List ℕ). HugeFaults c.self.inside.huge c.huge_fault.result
    c.huge_fault.new.huge (huge_page c.args.address) nodes)
    (c.deref.ensures.0 ∙ listed-so c.args.task c.args.address c.args.cpu before c.space.result.now
    c.in-Ok.list.items c.space.ensures.space c.in-Ok.ensures.answer) c.huge_fault.ensures.faults)
    c.huge_fault.ensures.unchanged)

pub returns : goal.returns
returns c =
    let before : PagesState = record {
      core = c.self.inside.core;
      state = c.self.inside.state;
      huge = c.self.inside.huge;
    } in
    let places = rw c.space.ensures.space at c.in-Ok.ensures.meaning in
    rw (← c.self.view_is, c.fault_told-2.ensures) (fault-small c.args.task c.args.address c.args.cpu
    before (λ history of. (places history of).0) (record {
      core = c.self.inside.core;
      state = c.fault-done.new.self;
      huge = c.self.inside.huge;
    }) refl c.fault-done.result (sym c.is_huge_in.ensures ∙ c.if-is_huge_in.false) refl
    (faulted-so c.args.task c.args.address c.args.cpu before c.fault-done.new.self
    c.fault-done.result c.space-2.result.now c.new-none.result c.space-2.ensures.space
    c.new-none.ensures c.fault-done.ensures))
