use Rattle.std.proofs.Common.{◌*◌, ℕ, List, ap, refl, sym, subst, true, ◌∙◌}
use Rattle.numa_placed.specs.Binds.{nodes_in}
use Rattle.numa_huge.specs.Huge.{giver_for, huge_at, places_of}
use Rattle.numa_huge.specs.Moves.{HugeTouch, touched_page}
use Rattle.numa_huge.specs.Tallies.{IsTouch}
use Rattle.numa_huge.proofs.Keeping.{keeps-same}
use Rattle.numa_huge.proofs.Touched.{few-given, few-next, touch-same, touch_at, touched-given}
use Rattle.numa_huge.proofs.Touched.{touched-same, untouched-is}
use Rattle.numa_huge.proofs.places.HugePlaces.touch_page.Goals as goal

pub returns-then-not-is_untouched-clause-touched : goal.returns-then-not-is_untouched-clause-touched
returns-then-not-is_untouched-clause-touched c told has =
    let nodes : ℕ → List ℕ =
    λ page. nodes_in c.args.space.now c.args.task c.args.cpu (page * 512) in
    let touch : HugeTouch = touch_at c.args.self.now told in
    touch-same touch (touched_page nodes c.args.page touch) c.args.self.now c.args.arrived.now
    (touched-same nodes c.args.page touch
    (sym c.is_untouched.ensures ∙ c.if-not-is_untouched.true)) refl has

pub returns-then-not-is_untouched-clause-few : goal.returns-then-not-is_untouched-clause-few
returns-then-not-is_untouched-clause-few c =
    few-next c.args.arrived.now c.args.page c.requires.few

pub fault-requires-clause-mapped : goal.fault-requires-clause-mapped
fault-requires-clause-mapped c =
    (untouched-is (huge_at c.args.self.now.runs c.args.page)
    (sym c.is_untouched.ensures ∙ c.if-not-is_untouched.false)).0

pub fault-requires-clause-untouched : goal.fault-requires-clause-untouched
fault-requires-clause-untouched c =
    (untouched-is (huge_at c.args.self.now.runs c.args.page)
    (sym c.is_untouched.ensures ∙ c.if-not-is_untouched.false)).1

pub returns-in_default-clause-few : goal.returns-in_default-clause-few
returns-in_default-clause-few c = few-next c.args.arrived.now c.args.page c.requires.few

pub returns-clause-touched : goal.returns-clause-touched
returns-clause-touched c told has =
    let nodes : ℕ → List ℕ =
    λ page. nodes_in c.args.space.now c.args.task c.args.cpu (page * 512) in
    let page = c.args.page in
    let touch : HugeTouch = touch_at c.args.self.now told in
    subst (λ (t : HugeTouch). IsTouch t c.fault.new.self c.count.new.self)
    (sym (touched-given nodes page touch c.in-Ok.given
    (sym c.is_untouched.ensures ∙ c.if-not-is_untouched.false)
    (c.in-Ok.ensures.node ∙ ap (λ (list : List ℕ). giver_for (places_of c.args.self.now) page list)
    (c.deref.ensures.0 ∙ c.nodes_of-list.ensures))))
    (record {
      pages = c.in-Ok.ensures.pages;
      arrived_is = c.count.ensures told has;
    })

pub returns-clause-few : goal.returns-clause-few
returns-clause-few c =
    few-given c.args.arrived.now c.count.new.self c.in-Ok.given c.args.page c.requires.few
    c.count.ensures

pub returns-then-not-is_untouched-clause-keeps : goal.returns-then-not-is_untouched-clause-keeps
returns-then-not-is_untouched-clause-keeps c = keeps-same c.args.self.now c.args.self.now refl

pub returns-in_default-clause-keeps : goal.returns-in_default-clause-keeps
returns-in_default-clause-keeps c = c.fault.ensures.keeps

pub returns-clause-keeps : goal.returns-clause-keeps
returns-clause-keeps c = c.fault.ensures.keeps
