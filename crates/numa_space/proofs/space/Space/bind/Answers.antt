use Rattle.std.proofs.Common.{◌≡◌, ◌+◌, Ok, Err, refl, rules, arith, ap, ◌∙◌}
use Rattle.numa_space.specs.Inside.{shown_of}
use Rattle.numa_space.specs.Steps.{IsAnswer}
use Rattle.numa_requests.specs.declared.command.Command.TheVariants.{Mbind}
use Rattle.numa_space.specs.declared.space.Space.TheInside.{Inside}
use Rattle.numa_space.proofs.Kept.{kept-answer}
use Rattle.numa_space.proofs.Refused.{bad_policy_span-not_memory}
use Rattle.numa_space.proofs.space.Space.bind.Goals as goal
use Rattle.std.proofs.Common.{subst}
use Rattle.numa_space.specs.Standing.{SpaceState}
use Rattle.numa_requests.specs.declared.refusal.Refusal.{Refusal}
use Rattle.std.proofs.Common.{Result}
use Rattle.numa_space.specs.declared.change.Change.{Change}
use Rattle.numa_space.proofs.Answers.{answer-done, answer-refused}
use Rattle.numa_space.proofs.Changes.{bind-answer, bind-after}
use Rattle.numa_space.proofs.Parting.{bind-parts, parts_bound}
use Rattle.numa_ranges.specs.Runs.{page_at}
use Rattle.numa_space.specs.History.{page_of, page_count}
use Rattle.numa_space.specs.Refusals.{lacks_pages, parts_pages}
use Rattle.numa_space.specs.Same.{same_record}
use Rattle.std.proofs.Common.{◌&&◌, not}
use Rattle.numa_space.proofs.Telling.{told-bind}
use Rattle.std.proofs.Common.{None, Some, false, sym}
use Rattle.std.proofs.lemmas.Bool.{ne_eqb}
use Rattle.numa_space.specs.Refusals.{bad_policy_span, has_no_node, passes_holes}
use Rattle.numa_space.specs.Steps.{record_now}

pub invariant_of-self-2 : goal.invariant_of-self-2
invariant_of-self-2 c =
    let span : bad_policy_span (shown_of c.self.inside).machine.rules c.args.start c.args.length
    ≡ None = ap (λ (s : SpaceState). bad_policy_span s.machine.rules c.args.start c.args.length)
    c.self.view_is ∙ c.in_ok-first.ensures.span.0 in
    let node : has_no_node (shown_of c.self.inside).allowed c.args.spec.now ≡ false =
    ap (λ (s : SpaceState). has_no_node s.allowed c.args.spec.now) c.self.view_is
    ∙ c.in-Ok.ensures.0 in
    let is : c.in-Ok.policy ≡ record_now (shown_of c.self.inside).allowed c.args.spec.now =
    c.in-Ok.ensures.1 ∙ ap (λ (s : SpaceState). record_now s.allowed c.args.spec.now)
    (sym c.self.view_is) in
    let passes : c.passes_holes-passes_holes.result
    ≡ passes_holes (shown_of c.self.inside).machine.rules c.args.spec.now =
    c.passes_holes-passes_holes.ensures ∙ ap
    (λ (s : SpaceState). passes_holes s.machine.rules c.args.spec.now) (sym c.self.view_is) in
    let whole : parts_bound (shown_of c.self.inside) c.args.spec.now (page_of c.args.start)
    (page_count c.args.length) ≡ false =
    (λ i. parts_pages (same_record (sym is i)) (page_at (c.self.view_is i).ranges)
    (sym c.in_ok-first.ensures.span.1 i) (sym c.in_ok-first.ensures.span.2 i)
    && not (lacks_pages (sym passes i) (page_at (c.self.view_is i).ranges)
    (sym c.in_ok-first.ensures.span.1 i) (sym c.in_ok-first.ensures.span.2 i)))
    ∙ sym c.parts_bound.ensures ∙ c.if-parts_bound.false in
    let answer : IsAnswer (shown_of c.self.inside) (Mbind c.args.start c.args.length c.args.spec.now)
    c.bind_span.result (bind-after (shown_of c.self.inside) c.args.start c.args.length
    c.args.spec.now (omega (
      arith,
      c.requires,
      ap (λ (s : SpaceState). s.version) c.self.view_is,
      ap (λ (s : SpaceState). s.bounds.max_commands) c.self.view_is,
    )) span
    (ne_eqb c.args.length 0 c.if-length-eq0.false) node whole c.bind_span.result
    c.bind_span.new.self) =
    bind-answer (shown_of c.self.inside) c.args.start c.args.length c.args.spec.now
    (omega (
      arith,
      c.requires,
      ap (λ (s : SpaceState). s.version) c.self.view_is,
      ap (λ (s : SpaceState). s.bounds.max_commands) c.self.view_is,
    )) span
    (ne_eqb c.args.length 0 c.if-length-eq0.false) node whole c.in_ok-first.first
    c.in_ok-first.pages
    c.self.inside.pages.limit c.in-Ok.policy c.passes_holes-passes_holes.result
    c.bind_span.new.self c.bind_span.result
    c.in_ok-first.ensures.span.1 c.in_ok-first.ensures.span.2 c.self.invariant.limit is passes
    c.bind_span.ensures.edit in
    let P : Result (Unit {0}) Refusal → Type 0 = λ r. IsAnswer (shown_of c.self.inside)
    (Mbind c.args.start c.args.length c.args.spec.now) r
    (bind-after (shown_of c.self.inside) c.args.start c.args.length c.args.spec.now
    (omega (
      arith,
      c.requires,
      ap (λ (s : SpaceState). s.version) c.self.view_is,
      ap (λ (s : SpaceState). s.bounds.max_commands) c.self.view_is,
    )) span
    (ne_eqb c.args.length 0 c.if-length-eq0.false) node whole r c.bind_span.new.self) in
    let new : Inside =
    record c.self.inside {
      pages = c.bind_span.new.self;
      version =
          c.self.inside.version + 1;
    } in
    let done : IsAnswer (shown_of c.self.inside) (Mbind c.args.start c.args.length c.args.spec.now)
    (Ok (tt {0})) (shown_of new) = subst P c.in_ok-bind_span.was answer in
    kept-answer c.self.inside new (Mbind c.args.start c.args.length c.args.spec.now) (Ok (tt {0}))
    c.self.invariant c.bind_span.ensures.limit refl (λ none. (none, refl)) done

pub returns-clause-answer : goal.returns-clause-answer
returns-clause-answer c =
    let span : bad_policy_span (shown_of c.self.inside).machine.rules c.args.start c.args.length
    ≡ None = ap (λ (s : SpaceState). bad_policy_span s.machine.rules c.args.start c.args.length)
    c.self.view_is ∙ c.in_ok-first.ensures.span.0 in
    let node : has_no_node (shown_of c.self.inside).allowed c.args.spec.now ≡ false =
    ap (λ (s : SpaceState). has_no_node s.allowed c.args.spec.now) c.self.view_is
    ∙ c.in-Ok.ensures.0 in
    let is : c.in-Ok.policy ≡ record_now (shown_of c.self.inside).allowed c.args.spec.now =
    c.in-Ok.ensures.1 ∙ ap (λ (s : SpaceState). record_now s.allowed c.args.spec.now)
    (sym c.self.view_is) in
    let passes : c.passes_holes-passes_holes.result
    ≡ passes_holes (shown_of c.self.inside).machine.rules c.args.spec.now =
    c.passes_holes-passes_holes.ensures ∙ ap
    (λ (s : SpaceState). passes_holes s.machine.rules c.args.spec.now) (sym c.self.view_is) in
    let whole : parts_bound (shown_of c.self.inside) c.args.spec.now (page_of c.args.start)
    (page_count c.args.length) ≡ false =
    (λ i. parts_pages (same_record (sym is i)) (page_at (c.self.view_is i).ranges)
    (sym c.in_ok-first.ensures.span.1 i) (sym c.in_ok-first.ensures.span.2 i)
    && not (lacks_pages (sym passes i) (page_at (c.self.view_is i).ranges)
    (sym c.in_ok-first.ensures.span.1 i) (sym c.in_ok-first.ensures.span.2 i)))
    ∙ sym c.parts_bound.ensures ∙ c.if-parts_bound.false in
    let answer : IsAnswer (shown_of c.self.inside) (Mbind c.args.start c.args.length c.args.spec.now)
    c.bind_span.result (bind-after (shown_of c.self.inside) c.args.start c.args.length
    c.args.spec.now (omega (
      arith,
      c.requires,
      ap (λ (s : SpaceState). s.version) c.self.view_is,
      ap (λ (s : SpaceState). s.bounds.max_commands) c.self.view_is,
    )) span
    (ne_eqb c.args.length 0 c.if-length-eq0.false) node whole c.bind_span.result
    c.bind_span.new.self) =
    bind-answer (shown_of c.self.inside) c.args.start c.args.length c.args.spec.now
    (omega (
      arith,
      c.requires,
      ap (λ (s : SpaceState). s.version) c.self.view_is,
      ap (λ (s : SpaceState). s.bounds.max_commands) c.self.view_is,
    )) span
    (ne_eqb c.args.length 0 c.if-length-eq0.false) node whole c.in_ok-first.first
    c.in_ok-first.pages
    c.self.inside.pages.limit c.in-Ok.policy c.passes_holes-passes_holes.result
    c.bind_span.new.self c.bind_span.result
    c.in_ok-first.ensures.span.1 c.in_ok-first.ensures.span.2 c.self.invariant.limit is passes
    c.bind_span.ensures.edit in
    let P : Result (Unit {0}) Refusal → Type 0 = λ r. IsAnswer (shown_of c.self.inside)
    (Mbind c.args.start c.args.length c.args.spec.now) r
    (bind-after (shown_of c.self.inside) c.args.start c.args.length c.args.spec.now
    (omega (
      arith,
      c.requires,
      ap (λ (s : SpaceState). s.version) c.self.view_is,
      ap (λ (s : SpaceState). s.bounds.max_commands) c.self.view_is,
    )) span
    (ne_eqb c.args.length 0 c.if-length-eq0.false) node whole r c.bind_span.new.self) in
    let new : Inside =
    record c.self.inside {
      pages = c.bind_span.new.self;
      version =
          c.self.inside.version + 1;
    } in
    let done : IsAnswer (shown_of c.self.inside) (Mbind c.args.start c.args.length c.args.spec.now)
    (Ok (tt {0})) (shown_of new) = subst P c.in_ok-bind_span.was answer in
    let told : Change = c.bound.result in
    let Q : SpaceState → Type 0 = λ s. IsAnswer s (Mbind c.args.start c.args.length c.args.spec.now)
    (Ok told) (shown_of new) in
    subst Q c.self.view_is
    (answer-done (shown_of c.self.inside) (shown_of new)
    (Mbind c.args.start c.args.length c.args.spec.now) (tt {0}) told done)

pub returns-in_err-bind_span-clause-answer : goal.returns-in_err-bind_span-clause-answer
returns-in_err-bind_span-clause-answer c =
    let span : bad_policy_span (shown_of c.self.inside).machine.rules c.args.start c.args.length
    ≡ None = ap (λ (s : SpaceState). bad_policy_span s.machine.rules c.args.start c.args.length)
    c.self.view_is ∙ c.in_ok-first.ensures.span.0 in
    let node : has_no_node (shown_of c.self.inside).allowed c.args.spec.now ≡ false =
    ap (λ (s : SpaceState). has_no_node s.allowed c.args.spec.now) c.self.view_is
    ∙ c.in-Ok.ensures.0 in
    let is : c.in-Ok.policy ≡ record_now (shown_of c.self.inside).allowed c.args.spec.now =
    c.in-Ok.ensures.1 ∙ ap (λ (s : SpaceState). record_now s.allowed c.args.spec.now)
    (sym c.self.view_is) in
    let passes : c.passes_holes-passes_holes.result
    ≡ passes_holes (shown_of c.self.inside).machine.rules c.args.spec.now =
    c.passes_holes-passes_holes.ensures ∙ ap
    (λ (s : SpaceState). passes_holes s.machine.rules c.args.spec.now) (sym c.self.view_is) in
    let whole : parts_bound (shown_of c.self.inside) c.args.spec.now (page_of c.args.start)
    (page_count c.args.length) ≡ false =
    (λ i. parts_pages (same_record (sym is i)) (page_at (c.self.view_is i).ranges)
    (sym c.in_ok-first.ensures.span.1 i) (sym c.in_ok-first.ensures.span.2 i)
    && not (lacks_pages (sym passes i) (page_at (c.self.view_is i).ranges)
    (sym c.in_ok-first.ensures.span.1 i) (sym c.in_ok-first.ensures.span.2 i)))
    ∙ sym c.parts_bound.ensures ∙ c.if-parts_bound.false in
    let answer : IsAnswer (shown_of c.self.inside) (Mbind c.args.start c.args.length c.args.spec.now)
    c.bind_span.result (bind-after (shown_of c.self.inside) c.args.start c.args.length
    c.args.spec.now (omega (
      arith,
      c.requires,
      ap (λ (s : SpaceState). s.version) c.self.view_is,
      ap (λ (s : SpaceState). s.bounds.max_commands) c.self.view_is,
    )) span
    (ne_eqb c.args.length 0 c.if-length-eq0.false) node whole c.bind_span.result
    c.bind_span.new.self) =
    bind-answer (shown_of c.self.inside) c.args.start c.args.length c.args.spec.now
    (omega (
      arith,
      c.requires,
      ap (λ (s : SpaceState). s.version) c.self.view_is,
      ap (λ (s : SpaceState). s.bounds.max_commands) c.self.view_is,
    )) span
    (ne_eqb c.args.length 0 c.if-length-eq0.false) node whole c.in_ok-first.first
    c.in_ok-first.pages
    c.self.inside.pages.limit c.in-Ok.policy c.passes_holes-passes_holes.result
    c.bind_span.new.self c.bind_span.result
    c.in_ok-first.ensures.span.1 c.in_ok-first.ensures.span.2 c.self.invariant.limit is passes
    c.bind_span.ensures.edit in
    let P : Result (Unit {0}) Refusal → Type 0 = λ r. IsAnswer (shown_of c.self.inside)
    (Mbind c.args.start c.args.length c.args.spec.now) r
    (bind-after (shown_of c.self.inside) c.args.start c.args.length c.args.spec.now
    (omega (
      arith,
      c.requires,
      ap (λ (s : SpaceState). s.version) c.self.view_is,
      ap (λ (s : SpaceState). s.bounds.max_commands) c.self.view_is,
    )) span
    (ne_eqb c.args.length 0 c.if-length-eq0.false) node whole r c.bind_span.new.self) in
    let new : Inside = record c.self.inside { pages = c.bind_span.new.self } in
    let done : IsAnswer {A = Unit {0}} (shown_of c.self.inside)
    (Mbind c.args.start c.args.length c.args.spec.now) (Err c.in_err-bind_span.field-0.0)
    (shown_of new) = subst P c.in_err-bind_span.was answer in
    let is_err : c.from_residual-in_err-bind_span.result ≡ Err c.in_err-bind_span.field-0.0 =
    search rules in
    let Q : SpaceState → Type 0 = λ s. IsAnswer s (Mbind c.args.start c.args.length c.args.spec.now)
    c.from_residual-in_err-bind_span.result (shown_of new) in
    let refused : IsAnswer {A = Change} (shown_of c.self.inside)
    (Mbind c.args.start c.args.length c.args.spec.now) (Err c.in_err-bind_span.field-0.0)
    (shown_of new) = answer-refused (Unit {0}) Change (shown_of c.self.inside) (shown_of new)
    (Mbind c.args.start c.args.length c.args.spec.now) c.in_err-bind_span.field-0.0 done in
    subst Q c.self.view_is (rw is_err refused)

pub invariant_of-self-in_err-bind_span : goal.invariant_of-self-in_err-bind_span
invariant_of-self-in_err-bind_span c =
    let span : bad_policy_span (shown_of c.self.inside).machine.rules c.args.start c.args.length
    ≡ None = ap (λ (s : SpaceState). bad_policy_span s.machine.rules c.args.start c.args.length)
    c.self.view_is ∙ c.in_ok-first.ensures.span.0 in
    let node : has_no_node (shown_of c.self.inside).allowed c.args.spec.now ≡ false =
    ap (λ (s : SpaceState). has_no_node s.allowed c.args.spec.now) c.self.view_is
    ∙ c.in-Ok.ensures.0 in
    let is : c.in-Ok.policy ≡ record_now (shown_of c.self.inside).allowed c.args.spec.now =
    c.in-Ok.ensures.1 ∙ ap (λ (s : SpaceState). record_now s.allowed c.args.spec.now)
    (sym c.self.view_is) in
    let passes : c.passes_holes-passes_holes.result
    ≡ passes_holes (shown_of c.self.inside).machine.rules c.args.spec.now =
    c.passes_holes-passes_holes.ensures ∙ ap
    (λ (s : SpaceState). passes_holes s.machine.rules c.args.spec.now) (sym c.self.view_is) in
    let whole : parts_bound (shown_of c.self.inside) c.args.spec.now (page_of c.args.start)
    (page_count c.args.length) ≡ false =
    (λ i. parts_pages (same_record (sym is i)) (page_at (c.self.view_is i).ranges)
    (sym c.in_ok-first.ensures.span.1 i) (sym c.in_ok-first.ensures.span.2 i)
    && not (lacks_pages (sym passes i) (page_at (c.self.view_is i).ranges)
    (sym c.in_ok-first.ensures.span.1 i) (sym c.in_ok-first.ensures.span.2 i)))
    ∙ sym c.parts_bound.ensures ∙ c.if-parts_bound.false in
    let answer : IsAnswer (shown_of c.self.inside) (Mbind c.args.start c.args.length c.args.spec.now)
    c.bind_span.result (bind-after (shown_of c.self.inside) c.args.start c.args.length
    c.args.spec.now (omega (
      arith,
      c.requires,
      ap (λ (s : SpaceState). s.version) c.self.view_is,
      ap (λ (s : SpaceState). s.bounds.max_commands) c.self.view_is,
    )) span
    (ne_eqb c.args.length 0 c.if-length-eq0.false) node whole c.bind_span.result
    c.bind_span.new.self) =
    bind-answer (shown_of c.self.inside) c.args.start c.args.length c.args.spec.now
    (omega (
      arith,
      c.requires,
      ap (λ (s : SpaceState). s.version) c.self.view_is,
      ap (λ (s : SpaceState). s.bounds.max_commands) c.self.view_is,
    )) span
    (ne_eqb c.args.length 0 c.if-length-eq0.false) node whole c.in_ok-first.first
    c.in_ok-first.pages
    c.self.inside.pages.limit c.in-Ok.policy c.passes_holes-passes_holes.result
    c.bind_span.new.self c.bind_span.result
    c.in_ok-first.ensures.span.1 c.in_ok-first.ensures.span.2 c.self.invariant.limit is passes
    c.bind_span.ensures.edit in
    let P : Result (Unit {0}) Refusal → Type 0 = λ r. IsAnswer (shown_of c.self.inside)
    (Mbind c.args.start c.args.length c.args.spec.now) r
    (bind-after (shown_of c.self.inside) c.args.start c.args.length c.args.spec.now
    (omega (
      arith,
      c.requires,
      ap (λ (s : SpaceState). s.version) c.self.view_is,
      ap (λ (s : SpaceState). s.bounds.max_commands) c.self.view_is,
    )) span
    (ne_eqb c.args.length 0 c.if-length-eq0.false) node whole r c.bind_span.new.self) in
    let new : Inside = record c.self.inside { pages = c.bind_span.new.self } in
    let done : IsAnswer {A = Unit {0}} (shown_of c.self.inside)
    (Mbind c.args.start c.args.length c.args.spec.now) (Err c.in_err-bind_span.field-0.0)
    (shown_of new) = subst P c.in_err-bind_span.was answer in
    kept-answer c.self.inside new (Mbind c.args.start c.args.length c.args.spec.now)
    (Err c.in_err-bind_span.field-0.0) c.self.invariant c.bind_span.ensures.limit refl (λ none.
    (none, refl)) done

pub invariant_of-self : goal.invariant_of-self
invariant_of-self c =
    let new : Inside = record c.self.inside { version = c.self.inside.version + 1 } in
    let answer : IsAnswer (shown_of c.self.inside) (Mbind c.args.start c.args.length c.args.spec.now)
    (Ok (tt {0})) (shown_of new) = search rules in
    kept-answer c.self.inside new (Mbind c.args.start c.args.length c.args.spec.now) (Ok (tt {0}))
    c.self.invariant refl refl (λ none. (none, refl)) answer

pub returns-clause-change : goal.returns-clause-change
returns-clause-change c =
    told-bind c.args.self.now c.args.start c.args.length c.in_ok-first.first c.in_ok-first.pages
    c.changed-pages.result c.changed-pages.ensures.first c.changed-pages.ensures.end
    c.in_ok-first.ensures.span.1 c.in_ok-first.ensures.span.2
    (ne_eqb c.args.length 0 c.if-length-eq0.false) c.args.spec.now c.in-Ok.policy
    c.in-Ok.ensures.1 c.bound.result c.bound.ensures

pub returns-in_err-first-clause-room : goal.returns-in_err-first-clause-room
returns-in_err-first-clause-room c =
    let is_err : c.from_residual.result ≡ Err c.in_err-first.field-0.0 = search rules in
    rw is_err (λ memory. absurd (bad_policy_span-not_memory c.args.self.now.machine.rules
    c.args.start c.args.length (c.in_err-first.ensures.span ∙ ap Some memory)))

-- a span that parts a page of 2 MiB
pub returns-then-parts_bound-clause-answer : goal.returns-then-parts_bound-clause-answer
returns-then-parts_bound-clause-answer c =
    let node : has_no_node c.args.self.now.allowed c.args.spec.now ≡ false = c.in-Ok.ensures.0 in
    bind-parts c.args.self.now c.args.start c.args.length c.args.spec.now c.requires
    c.in_ok-first.ensures.span.0 (ne_eqb c.args.length 0 c.if-length-eq0.false) node
    c.in_ok-first.first c.in_ok-first.pages c.in_ok-first.ensures.span.1
    c.in_ok-first.ensures.span.2
    ((λ i. parts_pages (same_record (sym c.in-Ok.ensures.1 i)) (page_at c.args.self.now.ranges)
    c.in_ok-first.first c.in_ok-first.pages
    && not (lacks_pages (sym c.passes_holes-passes_holes.ensures i)
    (page_at c.args.self.now.ranges) c.in_ok-first.first c.in_ok-first.pages))
    ∙ sym c.parts_bound.ensures ∙ c.if-parts_bound.true)
