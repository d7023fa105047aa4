use Rattle.std.proofs.Common.{◌≡◌, ◌*◌, ◌∙◌, ℕ, Option, Some, None, ap, refl, subst, sym}
use Rattle.std.proofs.lemmas.Result.{on_ok_weaker}
use Rattle.numa_huge.specs.Huge.{huge_at, places_of}
use Rattle.numa_huge.specs.Moves.{HugeWalk, goal, is_astray, named_in, sending}
use Rattle.numa_huge.specs.Tallies.{IsWalk}
use Rattle.numa_huge.proofs.Keeping.{keeps-same}
use Rattle.numa_huge.proofs.Where.{on-of, sent-astray, sent-kept, sent-nowhere}
use Rattle.numa_huge.proofs.places.HugePlaces.send_page.Goals as goals

pub returns-in_default-clause-sent : goals.returns-in_default-clause-sent
returns-in_default-clause-sent c told has =
    let spot = huge_at c.args.self.now.runs c.args.page in
    let walk : HugeWalk = record { huge = places_of c.args.self.now; told = told } in
    subst (λ (w : HugeWalk). IsWalk w c.args.self.now c.args.flows.now)
    (sym (sent-nowhere spot (sym c.node_at.ensures ∙ c.in_default.is)
    (is_astray c.args.said.now spot) c.args.page
    (named_in c.args.space.now c.args.task c.args.cpu (c.args.page * 512)) walk))
    (record { pages = refl; told = has })

pub returns-then-has-clause-sent : goals.returns-then-has-clause-sent
returns-then-has-clause-sent c told has =
    let spot = huge_at c.args.self.now.runs c.args.page in
    let walk : HugeWalk = record { huge = places_of c.args.self.now; told = told } in
    subst (λ (w : HugeWalk). IsWalk w c.args.self.now c.args.flows.now)
    (sym (sent-kept spot c.in-Some.from
    (on-of spot c.in-Some.from (sym c.node_at.ensures ∙ c.in-Some.is)) c.args.said.now c.args.page
    (named_in c.args.space.now c.args.task c.args.cpu (c.args.page * 512)) walk
    (sym c.has.ensures ∙ c.if-has.true)))
    (record { pages = refl; told = has })

pub returns-in_default-goal-clause-sent : goals.returns-in_default-goal-clause-sent
returns-in_default-goal-clause-sent c told has =
    let spot = huge_at c.args.self.now.runs c.args.page in
    let nodes = named_in c.args.space.now c.args.task c.args.cpu (c.args.page * 512) in
    let walk : HugeWalk = record { huge = places_of c.args.self.now; told = told } in
    let found : goal c.args.self.now.pools nodes ≡ None =
    (λ i. goal (sym c.pools.ensures i) ((sym c.named-nodes.ensures ∙ sym c.deref.ensures.0) i))
    ∙ sym c.goal.ensures ∙ c.in_default-goal.is in
    subst (λ (w : HugeWalk). IsWalk w c.args.self.now c.stay.new.self)
    (sym (sent-astray spot c.in-Some.from
    (on-of spot c.in-Some.from (sym c.node_at.ensures ∙ c.in-Some.is)) c.args.said.now c.args.page
    nodes walk (sym c.has.ensures ∙ c.if-has.false)
    ∙ ap (λ (to : Option ℕ). sending c.args.page c.in-Some.from to walk) found))
    (record { pages = refl; told = c.stay.ensures.told told has })

pub replace-requires : goals.replace-requires
replace-requires c =
    on-of (huge_at c.args.self.now.runs c.args.page) c.in-Some.from
    (sym c.node_at.ensures ∙ c.in-Some.is)

pub returns-clause-sent : goals.returns-clause-sent
returns-clause-sent c told has =
    let spot = huge_at c.args.self.now.runs c.args.page in
    let nodes = named_in c.args.space.now c.args.task c.args.cpu (c.args.page * 512) in
    let walk : HugeWalk = record { huge = places_of c.args.self.now; told = told } in
    let found : goal c.args.self.now.pools nodes ≡ Some c.in-Some-goal.to =
    (λ i. goal (sym c.pools.ensures i) ((sym c.named-nodes.ensures ∙ sym c.deref.ensures.0) i))
    ∙ sym c.goal.ensures ∙ c.in-Some-goal.is in
    let is = sent-astray spot c.in-Some.from
    (on-of spot c.in-Some.from (sym c.node_at.ensures ∙ c.in-Some.is)) c.args.said.now c.args.page
    nodes walk (sym c.has.ensures ∙ c.if-has.false)
    ∙ ap (λ (to : Option ℕ). sending c.args.page c.in-Some.from to walk) found in
    on_ok_weaker c.pass.result (λ so.
    subst (λ (w : HugeWalk). IsWalk w c.replace.new.self c.pass.new.self) (sym is)
    (record { pages = c.in-Ok.ensures.pages; told = so }))
    (c.pass.ensures.told told has)

pub returns-in_default-clause-keeps : goals.returns-in_default-clause-keeps
returns-in_default-clause-keeps c = keeps-same c.args.self.now c.args.self.now refl

pub returns-then-has-clause-keeps : goals.returns-then-has-clause-keeps
returns-then-has-clause-keeps c = keeps-same c.args.self.now c.args.self.now refl

pub returns-in_default-goal-clause-keeps : goals.returns-in_default-goal-clause-keeps
returns-in_default-goal-clause-keeps c = keeps-same c.args.self.now c.args.self.now refl

pub returns-in_default-replace-clause-keeps : goals.returns-in_default-replace-clause-keeps
returns-in_default-replace-clause-keeps c = c.replace.ensures.keeps

pub returns-clause-keeps : goals.returns-clause-keeps
returns-clause-keeps c = c.replace.ensures.keeps
