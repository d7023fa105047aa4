use Rattle.std.proofs.Common.{◌≡◌, ◌≢◌, ◌∙◌, ℕ, refl}
use Rattle.std.proofs.lemmas.Bool.{eq-eqb, ne_eqb}
use Rattle.std.proofs.lemmas.Result.{on_ok_weaker}
use Rattle.numa_pools.specs.Pools.{renewing}
use Rattle.numa_huge.specs.Huge.{HugeLying, places_of}
use Rattle.numa_huge.specs.Moves.{passing, replacing}
use Rattle.numa_huge.proofs.places.HugePlaces.replace.Goals as goal

-- to its own node, and to another
stays : (page from node : ℕ) (huge : HugeLying) → from ≡ node
    → (let lying : HugeLying = record { pools = renewing huge.pools from; spots = huge.spots } in
    lying) ≡ replacing page from node huge
stays page from node huge is = rw (eq-eqb from node is) refl

passes : (page from node : ℕ) (huge : HugeLying) → from ≢ node
    → passing page from node huge ≡ replacing page from node huge
passes page from node huge ne = rw (ne_eqb from node ne) refl

pub returns-then-from-node-clause-pages : goal.returns-then-from-node-clause-pages
returns-then-from-node-clause-pages c =
    c.renew.ensures.pages
    ∙ stays c.args.page c.args.from c.args.node (places_of c.args.self.now) c.if-from-node.true

pub returns-then-from-node-clause-keeps : goal.returns-then-from-node-clause-keeps
returns-then-from-node-clause-keeps c = c.renew.ensures.keeps

pub returns-clause-pages : goal.returns-clause-pages
returns-clause-pages c =
    on_ok_weaker c.pass.result (λ is. is ∙ passes c.args.page c.args.from c.args.node
    (places_of c.args.self.now) c.if-from-node.false) c.pass.ensures.pages

pub returns-clause-keeps : goal.returns-clause-keeps
returns-clause-keeps c = c.pass.ensures.keeps
