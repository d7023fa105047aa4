use Rattle.std.proofs.Common.{◌+◌, Ok, refl, rules}
use Rattle.numa_space.specs.Inside.{shown_of}
use Rattle.numa_space.specs.Steps.{IsAnswer}
use Rattle.numa_requests.specs.declared.command.Command.TheVariants.{SetHome}
use Rattle.numa_space.specs.declared.space.Space.TheInside.{Inside}
use Rattle.std.proofs.Common.{◌≡◌, ◌<◌, ◌==◌, Err, None, Some, false, sym, ap, ◌∙◌, arith}
use Rattle.std.proofs.lemmas.Bool.{ne_eqb}
use Rattle.numa_ranges.specs.Maps.{any_page, changed_span}
use Rattle.numa_ranges.specs.Runs.{page_at}
use Rattle.numa_space.specs.Edits.{IsEdit, too_many}
use Rattle.numa_space.specs.Refusals.{bad_policy_span, keeps_home, lacks_policy, parts_pages}
use Rattle.numa_space.specs.Refusals.{takes_no_home}
use Rattle.numa_space.specs.Standing.{SpaceState}
use Rattle.numa_space.specs.Steps.{policy_with_home}
use Rattle.numa_space.proofs.Changes.{home-answer}
use Rattle.numa_space.proofs.Parting.{home-parts}
use Rattle.numa_space.specs.declared.change.Change.{Change}
use Rattle.numa_space.specs.declared.change.Change.TheVariants.{Homed}
use Rattle.std.proofs.Common.{subst}
use Rattle.numa_space.proofs.Answers.{answer-done}
use Rattle.numa_space.proofs.Kept.{kept-answer}
use Rattle.numa_space.proofs.Telling.{told-home}
use Rattle.numa_space.proofs.Refused.{bad_policy_span-not_memory}
use Rattle.numa_space.proofs.space.Space.set_home.Goals as goal

pub invariant_of-self-2 : goal.invariant_of-self-2
invariant_of-self-2 c =
    let room : c.self.inside.version < c.self.inside.limits.max_commands =
    omega (
      arith,
      c.requires,
      ap (λ (s : SpaceState). s.version) c.self.view_is,
      ap (λ (s : SpaceState). s.bounds.max_commands) c.self.view_is,
    ) in
    let some : (c.args.length == 0) ≡ false = ne_eqb c.args.length 0 c.if-length-eq0.false in
    let span : bad_policy_span (shown_of c.self.inside).machine.rules c.args.start c.args.length
    ≡ None = ap (λ (s : SpaceState). bad_policy_span s.machine.rules c.args.start c.args.length)
    c.self.view_is ∙ c.in_ok-first.ensures.span.0 in
    let new : Inside =
    record c.self.inside {
      pages = c.home_span.new.self;
      version =
          c.self.inside.version + 1;
    } in
    let there : c.args.node < c.self.inside.machine.nodes = search rules in
    let homes : any_page (λ page. takes_no_home (page_at c.self.inside.pages.runs page))
    c.in_ok-first.first c.in_ok-first.pages ≡ false = sym c.has_page.ensures
    ∙ c.if-has_page.false in
    let policies : lacks_policy c.self.inside.machine.rules (page_at c.self.inside.pages.runs)
    c.in_ok-first.first c.in_ok-first.pages ≡ false =
    ap (λ (s : SpaceState). lacks_policy s.machine.rules (page_at s.ranges) c.in_ok-first.first
    c.in_ok-first.pages) c.self.view_is ∙ sym c.lacks_policy.ensures ∙ c.if-lacks_policy.false in
    let whole : parts_pages (keeps_home c.args.node) (page_at (shown_of c.self.inside).ranges)
    c.in_ok-first.first c.in_ok-first.pages ≡ false =
    ap (λ (s : SpaceState). parts_pages (keeps_home c.args.node) (page_at s.ranges)
    c.in_ok-first.first c.in_ok-first.pages) c.self.view_is
    ∙ sym c.parts_homed.ensures ∙ c.if-parts_homed.false in
    let edit : IsEdit (too_many c.self.inside.pages.limit (changed_span c.in_ok-first.first
    c.in_ok-first.pages (policy_with_home c.args.node) (page_at c.self.inside.pages.runs)))
    (changed_span c.in_ok-first.first c.in_ok-first.pages (policy_with_home c.args.node)
    (page_at c.self.inside.pages.runs)) c.self.inside.pages (Ok (tt {0})) c.home_span.new.self =
    search (rules, c.in_ok-home_span.ensures.edit) in
    let answer : IsAnswer (shown_of c.self.inside) (SetHome c.args.start c.args.length c.args.node)
    (Ok (tt {0})) (shown_of new) = home-answer (shown_of c.self.inside) c.args.start c.args.length
    c.in_ok-first.first c.in_ok-first.pages c.self.inside.pages.limit c.home_span.new.self room
    some c.in_ok-first.ensures.span.1 c.in_ok-first.ensures.span.2 c.self.invariant.limit span
    c.args.node there homes policies whole edit in
    kept-answer c.self.inside new (SetHome c.args.start c.args.length c.args.node) (Ok (tt {0}))
    c.self.invariant c.home_span.ensures.limit refl (λ none. (none, refl)) answer

pub returns-clause-change : goal.returns-clause-change
returns-clause-change c =
    told-home c.args.self.now c.args.start c.args.length c.in_ok-first.first c.in_ok-first.pages
    c.changed.result c.changed.ensures.first c.changed.ensures.end c.in_ok-first.ensures.span.1
    c.in_ok-first.ensures.span.2 (ne_eqb c.args.length 0 c.if-length-eq0.false) c.args.node

pub invariant_of-self : goal.invariant_of-self
invariant_of-self c =
    let new : Inside = record c.self.inside { version = c.self.inside.version + 1 } in
    let answer : IsAnswer (shown_of c.self.inside) (SetHome c.args.start c.args.length c.args.node)
    (Ok (tt {0})) (shown_of new) = search rules in
    kept-answer c.self.inside new (SetHome c.args.start c.args.length c.args.node) (Ok (tt {0}))
    c.self.invariant refl refl (λ none. (none, refl)) answer

pub returns-clause-answer : goal.returns-clause-answer
returns-clause-answer c =
    let room : c.self.inside.version < c.self.inside.limits.max_commands =
    omega (
      arith,
      c.requires,
      ap (λ (s : SpaceState). s.version) c.self.view_is,
      ap (λ (s : SpaceState). s.bounds.max_commands) c.self.view_is,
    ) in
    let some : (c.args.length == 0) ≡ false = ne_eqb c.args.length 0 c.if-length-eq0.false in
    let span : bad_policy_span (shown_of c.self.inside).machine.rules c.args.start c.args.length
    ≡ None = ap (λ (s : SpaceState). bad_policy_span s.machine.rules c.args.start c.args.length)
    c.self.view_is ∙ c.in_ok-first.ensures.span.0 in
    let new : Inside =
    record c.self.inside {
      pages = c.home_span.new.self;
      version =
          c.self.inside.version + 1;
    } in
    let there : c.args.node < c.self.inside.machine.nodes = search rules in
    let homes : any_page (λ page. takes_no_home (page_at c.self.inside.pages.runs page))
    c.in_ok-first.first c.in_ok-first.pages ≡ false = sym c.has_page.ensures
    ∙ c.if-has_page.false in
    let policies : lacks_policy c.self.inside.machine.rules (page_at c.self.inside.pages.runs)
    c.in_ok-first.first c.in_ok-first.pages ≡ false =
    ap (λ (s : SpaceState). lacks_policy s.machine.rules (page_at s.ranges) c.in_ok-first.first
    c.in_ok-first.pages) c.self.view_is ∙ sym c.lacks_policy.ensures ∙ c.if-lacks_policy.false in
    let whole : parts_pages (keeps_home c.args.node) (page_at (shown_of c.self.inside).ranges)
    c.in_ok-first.first c.in_ok-first.pages ≡ false =
    ap (λ (s : SpaceState). parts_pages (keeps_home c.args.node) (page_at s.ranges)
    c.in_ok-first.first c.in_ok-first.pages) c.self.view_is
    ∙ sym c.parts_homed.ensures ∙ c.if-parts_homed.false in
    let edit : IsEdit (too_many c.self.inside.pages.limit (changed_span c.in_ok-first.first
    c.in_ok-first.pages (policy_with_home c.args.node) (page_at c.self.inside.pages.runs)))
    (changed_span c.in_ok-first.first c.in_ok-first.pages (policy_with_home c.args.node)
    (page_at c.self.inside.pages.runs)) c.self.inside.pages (Ok (tt {0})) c.home_span.new.self =
    search (rules, c.in_ok-home_span.ensures.edit) in
    let answer : IsAnswer (shown_of c.self.inside) (SetHome c.args.start c.args.length c.args.node)
    (Ok (tt {0})) (shown_of new) = home-answer (shown_of c.self.inside) c.args.start c.args.length
    c.in_ok-first.first c.in_ok-first.pages c.self.inside.pages.limit c.home_span.new.self room
    some c.in_ok-first.ensures.span.1 c.in_ok-first.ensures.span.2 c.self.invariant.limit span
    c.args.node there homes policies whole edit in
    let told : Change = Homed c.changed.result c.args.node in
    let Q : SpaceState → Type 0 = λ s. IsAnswer s (SetHome c.args.start c.args.length c.args.node) (Ok told)
    (shown_of new) in
    subst Q c.self.view_is
    (answer-done (shown_of c.self.inside) (shown_of new) (SetHome c.args.start c.args.length c.args.node)
    (tt {0}) told answer)

pub returns-in_err-first-clause-room : goal.returns-in_err-first-clause-room
returns-in_err-first-clause-room c =
    let is_err : c.from_residual.result ≡ Err c.in_err-first.field-0.0 = search rules in
    rw is_err (λ memory. absurd (bad_policy_span-not_memory c.args.self.now.machine.rules
    c.args.start c.args.length (c.in_err-first.ensures.span ∙ ap Some memory)))

-- a span that parts a page of 2 MiB
pub returns-then-parts_homed-clause-answer : goal.returns-then-parts_homed-clause-answer
returns-then-parts_homed-clause-answer c =
    let there : c.args.node < c.args.self.now.machine.nodes = search rules in
    home-parts c.args.self.now c.args.start c.args.length c.in_ok-first.first c.in_ok-first.pages
    c.requires (ne_eqb c.args.length 0 c.if-length-eq0.false) c.in_ok-first.ensures.span.1
    c.in_ok-first.ensures.span.2 c.in_ok-first.ensures.span.0 c.args.node there
    (ap (λ (s : SpaceState). any_page (λ page. takes_no_home (page_at s.ranges page))
    c.in_ok-first.first c.in_ok-first.pages) (sym c.self.view_is)
    ∙ sym c.has_page.ensures ∙ c.if-has_page.false)
    (sym c.lacks_policy.ensures ∙ c.if-lacks_policy.false)
    (sym c.parts_homed.ensures ∙ c.if-parts_homed.true)
