use Rattle.std.proofs.Common.{◌≡◌, ℕ, Option, ap, sym, subst, ◌∙◌}
use Rattle.numa_page_state.specs.Lying.{Lying}
use Rattle.numa_page_state.specs.Outcomes.{rooms_of}
use Rattle.numa_page_state.specs.Standing.{Lies}
use Rattle.numa_page_state.specs.declared.state.PageState.{PageState}
use Rattle.numa_placed.specs.Shifts.{AreRooms}
use Rattle.numa_run.proofs.running.rooms_in.Goals as goal

pub returns-in_default : goal.returns-in_default
returns-in_default c = λ lying lies.
    let none = subst (λ (p : Option PageState). Lies p lying) c.in_default.is lies in
    subst (λ (l : Lying). AreRooms c.endless.result (rooms_of l.room)) (sym none) c.endless.ensures

pub returns-in-Some-rooms : goal.returns-in-Some-rooms
returns-in-Some-rooms c = λ lying lies.
    let have = c.in-Some-rooms.ensures lying
    (subst (λ (p : Option PageState). Lies p lying) c.in-Some.is lies) in
    λ node small. have.2 node small
    ∙ sym (ap (λ (room : Option (ℕ → ℕ)). rooms_of room node) have.1)

pub returns-in-None : goal.returns-in-None
returns-in-None c = λ lying lies.
    let none = c.in-None.ensures lying
    (subst (λ (p : Option PageState). Lies p lying) c.in-Some.is lies) in
    λ node small. c.endless-in-None.ensures node small
    ∙ sym (ap (λ (room : Option (ℕ → ℕ)). rooms_of room node) none)
