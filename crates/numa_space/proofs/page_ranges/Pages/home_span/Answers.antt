use Rattle.std.proofs.Common.{ℕ, ap, ◌∙◌, subst}
use Rattle.numa_ranges.specs.Maps.{changed_span}
use Rattle.numa_space.specs.Steps.{policy_with_home}
use Rattle.numa_space.specs.contracts.range_record.RangeRecordPartialEq.TheImpl as range_test
use Rattle.numa_space.specs.Edits.{AreMappable}
use Rattle.numa_space.proofs.SameTest.{range_test-same}
use Rattle.numa_space.proofs.Editing.{count-edit}
use Rattle.numa_space.proofs.Ends.{edit-none, edit-mappable}
use Rattle.numa_space.proofs.page_ranges.Pages.home_span.Goals as goal

pub update_span-requires-clause-function : goal.update_span-requires-clause-function
update_span-requires-clause-function c =
    (policy_with_home c.args.node, λ x r h. h.says.met ∙ ap (policy_with_home c.args.node) h.shows)

pub returns-then-pages-eq0-clause-edit : goal.returns-then-pages-eq0-clause-edit
returns-then-pages-eq0-clause-edit c =
    edit-none c.args.self.now c.mappable_pages-pages.ensures.rising c.args.first c.args.pages
    (subst (λ (n : ℕ). AreMappable c.args.first c.args.pages n) c.if-pages-eq0.true
    c.mappable_pages-pages.ensures.there) (policy_with_home c.args.node)
    c.mappable_pages-pages.ensures.few

pub returns-clause-edit : goal.returns-clause-edit
returns-clause-edit c =
    let there = c.mappable_pages-pages.result in
    edit-mappable c.args.self.now _ c.mappable_pages-pages.ensures.rising c.args.first
    c.args.pages there
    c.mappable_pages-pages.ensures.there (policy_with_home c.args.node) c.answered.result
    (count-edit range_test.ghosts.eq range_test-same c.self.inside.map c.update_span.new.self
    c.args.self.now c.self.view_is c.args.first there c.update_span.result
    c.answered.result c.answered.ensures c.update_span.ensures.unchanged
    (changed_span c.args.first there (policy_with_home c.args.node))
    (c.update_span.ensures.ok (policy_with_home c.args.node)
    (λ x r h. h.says.met ∙ ap (policy_with_home c.args.node) h.shows))
    (c.update_span.ensures.accepted (policy_with_home c.args.node)
    (λ x r h. h.says.met ∙ ap (policy_with_home c.args.node) h.shows))
    (c.update_span.ensures.err (policy_with_home c.args.node)
    (λ x r h. h.says.met ∙ ap (policy_with_home c.args.node) h.shows)))
