use Rattle.std.proofs.Common.{◌+◌, Ok, refl, rules}
use Rattle.numa_space.specs.Inside.{shown_of}
use Rattle.numa_space.specs.Steps.{IsAnswer}
use Rattle.numa_requests.specs.declared.command.Command.TheVariants.{Unmap}
use Rattle.numa_space.specs.declared.space.Space.TheInside.{Inside}
use Rattle.std.proofs.Common.{◌≡◌, ◌<◌, ◌==◌, Err, None, Some, false, ap, ◌∙◌, arith}
use Rattle.numa_ranges.specs.Runs.{page_at}
use Rattle.numa_space.specs.Refusals.{bad_unmap_span, parts_pages}
use Rattle.std.proofs.lemmas.Bool.{ne_eqb}
use Rattle.numa_space.specs.Standing.{SpaceState}
use Rattle.numa_space.proofs.Changes.{unmap-answer}
use Rattle.numa_space.proofs.Parting.{unmap-parts}
use Rattle.std.proofs.Common.{sym}
use Rattle.numa_space.specs.declared.change.Change.{Change}
use Rattle.numa_space.specs.declared.change.Change.TheVariants.{Unmapped}
use Rattle.std.proofs.Common.{subst}
use Rattle.numa_space.proofs.Answers.{answer-done}
use Rattle.numa_space.proofs.Kept.{kept-answer}
use Rattle.numa_space.proofs.Telling.{told-unmap}
use Rattle.numa_space.proofs.Refused.{bad_unmap_span-not_memory}
use Rattle.numa_space.proofs.space.Space.unmap.Goals as goal

pub invariant_of-self-2 : goal.invariant_of-self-2
invariant_of-self-2 c =
    let room : c.self.inside.version < c.self.inside.limits.max_commands =
    omega (
      arith,
      c.requires,
      ap (λ (s : SpaceState). s.version) c.self.view_is,
      ap (λ (s : SpaceState). s.bounds.max_commands) c.self.view_is,
    ) in
    let some : (c.args.length == 0) ≡ false = ne_eqb c.args.length 0 c.if-length-eq0.false in
    let span : bad_unmap_span (shown_of c.self.inside).machine.rules c.args.start c.args.length
    ≡ None = ap (λ (s : SpaceState). bad_unmap_span s.machine.rules c.args.start c.args.length)
    c.self.view_is ∙ c.in_ok-first.ensures.span.0 in
    let new : Inside =
    record c.self.inside {
      pages = c.unmap_span.new.self;
      version =
          c.self.inside.version + 1;
    } in
    let whole : parts_pages (λ policy. false) (page_at (shown_of c.self.inside).ranges)
    c.in_ok-first.first c.in_ok-first.pages ≡ false =
    ap (λ (s : SpaceState). parts_pages (λ policy. false) (page_at s.ranges) c.in_ok-first.first
    c.in_ok-first.pages) c.self.view_is
    ∙ sym c.parts_mapped.ensures ∙ c.if-parts_mapped.false in
    let answer : IsAnswer (shown_of c.self.inside) (Unmap c.args.start c.args.length) (Ok (tt {0}))
    (shown_of new) = unmap-answer (shown_of c.self.inside) c.args.start c.args.length
    c.in_ok-first.first c.in_ok-first.pages c.self.inside.pages.limit c.unmap_span.new.self room
    some c.in_ok-first.ensures.span.1 c.in_ok-first.ensures.span.2 c.self.invariant.limit span
    whole c.in_ok-unmap_span.ensures.edit in
    kept-answer c.self.inside new (Unmap c.args.start c.args.length) (Ok (tt {0})) c.self.invariant
    c.unmap_span.ensures.limit refl (λ none. (none, refl)) answer

pub returns-clause-change : goal.returns-clause-change
returns-clause-change c =
    told-unmap c.args.self.now c.args.start c.args.length c.in_ok-first.first c.in_ok-first.pages
    c.changed.result c.changed.ensures.first c.changed.ensures.end c.in_ok-first.ensures.span.1
    c.in_ok-first.ensures.span.2 (ne_eqb c.args.length 0 c.if-length-eq0.false)

pub invariant_of-self : goal.invariant_of-self
invariant_of-self c =
    let new : Inside = record c.self.inside { version = c.self.inside.version + 1 } in
    let answer : IsAnswer (shown_of c.self.inside) (Unmap c.args.start c.args.length) (Ok (tt {0}))
    (shown_of new) = search rules in
    kept-answer c.self.inside new (Unmap c.args.start c.args.length) (Ok (tt {0})) c.self.invariant refl
    refl (λ none. (none, refl)) answer

pub returns-clause-answer : goal.returns-clause-answer
returns-clause-answer c =
    let room : c.self.inside.version < c.self.inside.limits.max_commands =
    omega (
      arith,
      c.requires,
      ap (λ (s : SpaceState). s.version) c.self.view_is,
      ap (λ (s : SpaceState). s.bounds.max_commands) c.self.view_is,
    ) in
    let some : (c.args.length == 0) ≡ false = ne_eqb c.args.length 0 c.if-length-eq0.false in
    let span : bad_unmap_span (shown_of c.self.inside).machine.rules c.args.start c.args.length
    ≡ None = ap (λ (s : SpaceState). bad_unmap_span s.machine.rules c.args.start c.args.length)
    c.self.view_is ∙ c.in_ok-first.ensures.span.0 in
    let new : Inside =
    record c.self.inside {
      pages = c.unmap_span.new.self;
      version =
          c.self.inside.version + 1;
    } in
    let whole : parts_pages (λ policy. false) (page_at (shown_of c.self.inside).ranges)
    c.in_ok-first.first c.in_ok-first.pages ≡ false =
    ap (λ (s : SpaceState). parts_pages (λ policy. false) (page_at s.ranges) c.in_ok-first.first
    c.in_ok-first.pages) c.self.view_is
    ∙ sym c.parts_mapped.ensures ∙ c.if-parts_mapped.false in
    let answer : IsAnswer (shown_of c.self.inside) (Unmap c.args.start c.args.length) (Ok (tt {0}))
    (shown_of new) = unmap-answer (shown_of c.self.inside) c.args.start c.args.length
    c.in_ok-first.first c.in_ok-first.pages c.self.inside.pages.limit c.unmap_span.new.self room
    some c.in_ok-first.ensures.span.1 c.in_ok-first.ensures.span.2 c.self.invariant.limit span
    whole c.in_ok-unmap_span.ensures.edit in
    let told : Change = Unmapped c.changed.result in
    let Q : SpaceState → Type 0 = λ s. IsAnswer s (Unmap c.args.start c.args.length) (Ok told)
    (shown_of new) in
    subst Q c.self.view_is
    (answer-done (shown_of c.self.inside) (shown_of new) (Unmap c.args.start c.args.length)
    (tt {0}) told answer)

pub returns-in_err-first-clause-room : goal.returns-in_err-first-clause-room
returns-in_err-first-clause-room c =
    let is_err : c.from_residual.result ≡ Err c.in_err-first.field-0.0 = search rules in
    rw is_err (λ memory. absurd (bad_unmap_span-not_memory c.args.self.now.machine.rules
    c.args.start c.args.length (c.in_err-first.ensures.span ∙ ap Some memory)))

-- a span that parts a page of 2 MiB
pub returns-then-parts_mapped-clause-answer : goal.returns-then-parts_mapped-clause-answer
returns-then-parts_mapped-clause-answer c =
    unmap-parts c.args.self.now c.args.start c.args.length c.in_ok-first.first c.in_ok-first.pages
    c.requires (ne_eqb c.args.length 0 c.if-length-eq0.false) c.in_ok-first.ensures.span.1
    c.in_ok-first.ensures.span.2 c.in_ok-first.ensures.span.0
    (sym c.parts_mapped.ensures ∙ c.if-parts_mapped.true)
