use Rattle.std.proofs.Common.{◌≡◌, ◌<◌, ◌+◌, ◌||◌, Bool, true, false, None, Result, Ok, Err, refl}
use Rattle.std.proofs.Common.{arith, rules, sym, ap, subst, ◌∙◌}
use Rattle.numa_machine.specs.Sizes.{is_huge, whole}
use Rattle.numa_space.specs.Inside.{shown_of}
use Rattle.numa_space.specs.Refusals.{bad_map_span}
use Rattle.numa_space.specs.Standing.{SpaceState}
use Rattle.numa_space.specs.Steps.{IsAnswer}
use Rattle.numa_requests.specs.declared.refusal.Refusal.{Refusal}
use Rattle.numa_space.specs.declared.change.Change.{Change}
use Rattle.numa_space.specs.declared.change.Change.TheVariants.{Mapped}
use Rattle.numa_requests.specs.declared.command.Command.TheVariants.{Map}
use Rattle.numa_space.specs.declared.space.Space.TheInside.{Inside}
use Rattle.numa_space.proofs.Kept.{kept-answer}
use Rattle.numa_space.proofs.Answers.{answer-done, answer-refused}
use Rattle.numa_space.proofs.Parting.{edited_space, lacks_offset, map-answer, map-odd}
use Rattle.numa_space.proofs.Telling.{told-map}
use Rattle.numa_space.proofs.space.Space.map.Goals as goal

-- where the mark isn't set, it wasn't, and the map is none of pages of 2 MiB
neither : (had huge mark : Bool) → mark ≡ (had || huge) → mark ≡ false
    → (had ≡ false) × (huge ≡ false)
neither true huge mark is none = let odd : true ≡ false = sym is ∙ none in absurd (cc)
neither false true mark is none = let odd : true ≡ false = sym is ∙ none in absurd (cc)
neither false false mark is none = (refl, refl)

pub invariant_of-self : goal.invariant_of-self
invariant_of-self c =
    let old = shown_of c.self.inside in
    let room : c.self.inside.version < c.self.inside.limits.max_commands =
    omega (
      arith,
      c.requires,
      ap (λ (s : SpaceState). s.version) c.self.view_is,
      ap (λ (s : SpaceState). s.bounds.max_commands) c.self.view_is,
    ) in
    let span : bad_map_span old.machine.rules c.args.size c.args.start
    (whole c.args.size c.args.length) ≡ None =
    ap (λ (s : SpaceState). bad_map_span s.machine.rules c.args.size c.args.start
    (whole c.args.size c.args.length)) c.self.view_is ∙ c.in_ok-first.ensures.span.0 in
    let even : lacks_offset old c.args.size c.args.offset c.in_ok-first.first c.in_ok-first.pages
    ≡ false =
    ap (λ (s : SpaceState). lacks_offset s c.args.size c.args.offset c.in_ok-first.first
    c.in_ok-first.pages) c.self.view_is ∙ sym c.lacks_offset.ensures ∙ c.if-lacks_offset.false in
    let answer : IsAnswer old (Map c.args.start c.args.length c.args.offset c.args.size)
    c.map_span.result (edited_space old c.map_span.result c.map_span.new.self) =
    map-answer old c.args.start c.args.length c.args.offset c.args.size room span (omega arith)
    c.in_ok-first.first c.in_ok-first.pages c.index.result c.self.inside.pages.limit
    c.map_span.new.self c.map_span.result c.in_ok-first.ensures.span.1 c.in_ok-first.ensures.span.2
    c.index.ensures c.self.invariant.limit even c.map_span.ensures.edit in
    let P : Result (Unit {0}) Refusal → Type 0 = λ r.
    IsAnswer old (Map c.args.start c.args.length c.args.offset c.args.size) r
    (edited_space old r c.map_span.new.self) in
    let new : Inside =
    record c.self.inside { pages = c.map_span.new.self; has_huge = c.marked-self-inside.result } in
    let done : IsAnswer {A = Unit {0}} old
    (Map c.args.start c.args.length c.args.offset c.args.size) (Err c.in_err-map_span.field-0.0)
    (shown_of new) = subst P c.in_err-map_span.was answer in
    kept-answer c.self.inside new (Map c.args.start c.args.length c.args.offset c.args.size)
    (Err c.in_err-map_span.field-0.0) c.self.invariant c.map_span.ensures.limit refl
    (neither c.self.inside.has_huge (is_huge c.args.size) c.marked-self-inside.result
    c.marked-self-inside.ensures) done

pub invariant_of-self-2 : goal.invariant_of-self-2
invariant_of-self-2 c =
    let old = shown_of c.self.inside in
    let room : c.self.inside.version < c.self.inside.limits.max_commands =
    omega (
      arith,
      c.requires,
      ap (λ (s : SpaceState). s.version) c.self.view_is,
      ap (λ (s : SpaceState). s.bounds.max_commands) c.self.view_is,
    ) in
    let span : bad_map_span old.machine.rules c.args.size c.args.start
    (whole c.args.size c.args.length) ≡ None =
    ap (λ (s : SpaceState). bad_map_span s.machine.rules c.args.size c.args.start
    (whole c.args.size c.args.length)) c.self.view_is ∙ c.in_ok-first.ensures.span.0 in
    let even : lacks_offset old c.args.size c.args.offset c.in_ok-first.first c.in_ok-first.pages
    ≡ false =
    ap (λ (s : SpaceState). lacks_offset s c.args.size c.args.offset c.in_ok-first.first
    c.in_ok-first.pages) c.self.view_is ∙ sym c.lacks_offset.ensures ∙ c.if-lacks_offset.false in
    let answer : IsAnswer old (Map c.args.start c.args.length c.args.offset c.args.size)
    c.map_span.result (edited_space old c.map_span.result c.map_span.new.self) =
    map-answer old c.args.start c.args.length c.args.offset c.args.size room span (omega arith)
    c.in_ok-first.first c.in_ok-first.pages c.index.result c.self.inside.pages.limit
    c.map_span.new.self c.map_span.result c.in_ok-first.ensures.span.1 c.in_ok-first.ensures.span.2
    c.index.ensures c.self.invariant.limit even c.map_span.ensures.edit in
    let P : Result (Unit {0}) Refusal → Type 0 = λ r.
    IsAnswer old (Map c.args.start c.args.length c.args.offset c.args.size) r
    (edited_space old r c.map_span.new.self) in
    let new : Inside =
    record c.self.inside {
      pages = c.map_span.new.self;
      has_huge = c.marked-self-inside.result;
      version = c.self.inside.version + 1;
    } in
    let done : IsAnswer old (Map c.args.start c.args.length c.args.offset c.args.size)
    (Ok (tt {0})) (shown_of new) = subst P c.in_ok-map_span.was answer in
    kept-answer c.self.inside new (Map c.args.start c.args.length c.args.offset c.args.size)
    (Ok (tt {0})) c.self.invariant c.map_span.ensures.limit refl
    (neither c.self.inside.has_huge (is_huge c.args.size) c.marked-self-inside.result
    c.marked-self-inside.ensures) done

pub returns-clause-answer : goal.returns-clause-answer
returns-clause-answer c =
    let old = shown_of c.self.inside in
    let room : c.self.inside.version < c.self.inside.limits.max_commands =
    omega (
      arith,
      c.requires,
      ap (λ (s : SpaceState). s.version) c.self.view_is,
      ap (λ (s : SpaceState). s.bounds.max_commands) c.self.view_is,
    ) in
    let span : bad_map_span old.machine.rules c.args.size c.args.start
    (whole c.args.size c.args.length) ≡ None =
    ap (λ (s : SpaceState). bad_map_span s.machine.rules c.args.size c.args.start
    (whole c.args.size c.args.length)) c.self.view_is ∙ c.in_ok-first.ensures.span.0 in
    let even : lacks_offset old c.args.size c.args.offset c.in_ok-first.first c.in_ok-first.pages
    ≡ false =
    ap (λ (s : SpaceState). lacks_offset s c.args.size c.args.offset c.in_ok-first.first
    c.in_ok-first.pages) c.self.view_is ∙ sym c.lacks_offset.ensures ∙ c.if-lacks_offset.false in
    let answer : IsAnswer old (Map c.args.start c.args.length c.args.offset c.args.size)
    c.map_span.result (edited_space old c.map_span.result c.map_span.new.self) =
    map-answer old c.args.start c.args.length c.args.offset c.args.size room span (omega arith)
    c.in_ok-first.first c.in_ok-first.pages c.index.result c.self.inside.pages.limit
    c.map_span.new.self c.map_span.result c.in_ok-first.ensures.span.1 c.in_ok-first.ensures.span.2
    c.index.ensures c.self.invariant.limit even c.map_span.ensures.edit in
    let P : Result (Unit {0}) Refusal → Type 0 = λ r.
    IsAnswer old (Map c.args.start c.args.length c.args.offset c.args.size) r
    (edited_space old r c.map_span.new.self) in
    let new : Inside =
    record c.self.inside {
      pages = c.map_span.new.self;
      has_huge = c.marked-self-inside.result;
      version = c.self.inside.version + 1;
    } in
    let done : IsAnswer old (Map c.args.start c.args.length c.args.offset c.args.size)
    (Ok (tt {0})) (shown_of new) = subst P c.in_ok-map_span.was answer in
    let told : Change = Mapped c.changed.result in
    let Q : SpaceState → Type 0 = λ s.
    IsAnswer s (Map c.args.start c.args.length c.args.offset c.args.size) (Ok told)
    (shown_of new) in
    subst Q c.self.view_is
    (answer-done old (shown_of new) (Map c.args.start c.args.length c.args.offset c.args.size)
    (tt {0}) told done)

pub returns-in_err-map_span-clause-answer : goal.returns-in_err-map_span-clause-answer
returns-in_err-map_span-clause-answer c =
    let old = shown_of c.self.inside in
    let room : c.self.inside.version < c.self.inside.limits.max_commands =
    omega (
      arith,
      c.requires,
      ap (λ (s : SpaceState). s.version) c.self.view_is,
      ap (λ (s : SpaceState). s.bounds.max_commands) c.self.view_is,
    ) in
    let span : bad_map_span old.machine.rules c.args.size c.args.start
    (whole c.args.size c.args.length) ≡ None =
    ap (λ (s : SpaceState). bad_map_span s.machine.rules c.args.size c.args.start
    (whole c.args.size c.args.length)) c.self.view_is ∙ c.in_ok-first.ensures.span.0 in
    let even : lacks_offset old c.args.size c.args.offset c.in_ok-first.first c.in_ok-first.pages
    ≡ false =
    ap (λ (s : SpaceState). lacks_offset s c.args.size c.args.offset c.in_ok-first.first
    c.in_ok-first.pages) c.self.view_is ∙ sym c.lacks_offset.ensures ∙ c.if-lacks_offset.false in
    let answer : IsAnswer old (Map c.args.start c.args.length c.args.offset c.args.size)
    c.map_span.result (edited_space old c.map_span.result c.map_span.new.self) =
    map-answer old c.args.start c.args.length c.args.offset c.args.size room span (omega arith)
    c.in_ok-first.first c.in_ok-first.pages c.index.result c.self.inside.pages.limit
    c.map_span.new.self c.map_span.result c.in_ok-first.ensures.span.1 c.in_ok-first.ensures.span.2
    c.index.ensures c.self.invariant.limit even c.map_span.ensures.edit in
    let P : Result (Unit {0}) Refusal → Type 0 = λ r.
    IsAnswer old (Map c.args.start c.args.length c.args.offset c.args.size) r
    (edited_space old r c.map_span.new.self) in
    let new : Inside =
    record c.self.inside { pages = c.map_span.new.self; has_huge = c.marked-self-inside.result } in
    let done : IsAnswer {A = Unit {0}} old
    (Map c.args.start c.args.length c.args.offset c.args.size) (Err c.in_err-map_span.field-0.0)
    (shown_of new) = subst P c.in_err-map_span.was answer in
    let is_err : c.from_residual-in_err-map_span.result ≡ Err c.in_err-map_span.field-0.0 =
    search rules in
    let Q : SpaceState → Type 0 = λ s.
    IsAnswer s (Map c.args.start c.args.length c.args.offset c.args.size)
    c.from_residual-in_err-map_span.result (shown_of new) in
    let refused : IsAnswer {A = Change} old
    (Map c.args.start c.args.length c.args.offset c.args.size) (Err c.in_err-map_span.field-0.0)
    (shown_of new) = answer-refused (Unit {0}) Change old (shown_of new)
    (Map c.args.start c.args.length c.args.offset c.args.size) c.in_err-map_span.field-0.0 done in
    subst Q c.self.view_is (rw is_err refused)

-- an offset at which no page begins
pub returns-then-lacks_offset-clause-answer : goal.returns-then-lacks_offset-clause-answer
returns-then-lacks_offset-clause-answer c =
    map-odd c.args.self.now c.args.start c.args.length c.args.offset c.args.size c.requires
    c.in_ok-first.ensures.span.0 (omega arith) c.in_ok-first.first c.in_ok-first.pages
    c.in_ok-first.ensures.span.1 c.in_ok-first.ensures.span.2
    (sym c.lacks_offset.ensures ∙ c.if-lacks_offset.true)

pub returns-clause-change : goal.returns-clause-change
returns-clause-change c =
    told-map c.args.self.now c.args.start (whole c.args.size c.args.length) c.in_ok-first.first
    c.in_ok-first.pages c.changed.result c.changed.ensures.first c.changed.ensures.end
    c.in_ok-first.ensures.span.1 c.in_ok-first.ensures.span.2 c.args.length c.args.offset
    c.args.size
    refl
