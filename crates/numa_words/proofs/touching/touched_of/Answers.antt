use Rattle.std.proofs.Common.{◌≡◌, ℕ, refl, ap, subst, sym, ◌∙◌}
use Rattle.numa_huge.specs.Huge.{has_huge}
use Rattle.numa_host_huge.specs.Kept.{spots_in}
use Rattle.numa_host_huge.specs.Sharing.{Sharing}
use Rattle.numa_host_huge.specs.Standing.{HugeLies}
use Rattle.numa_page_state.specs.Huge.{huge_count, huge_first}
use Rattle.numa_space.specs.History.{page_of}
use Rattle.numa_words.proofs.Touched.{not-touched, was-touched}
use Rattle.numa_words.proofs.touching.touched_of.Goals as goal

pub populated-requires : goal.populated-requires
populated-requires c =
    ap (λ (n : ℕ). has_huge (spots_in c.args.process c.args.huge.now.sharers)
    (huge_first (page_of c.args.start)) (huge_count (page_of c.args.start) n))
    (sym c.page_count-pages.ensures.pages)
    ∙ sym c.has_huge_in.ensures.kept ∙ c.if-not-has_huge_in.false

pub settle_touched-requires : goal.settle_touched-requires
settle_touched-requires c = c.in-Ok.ensures.can

pub returns-then-not-has_huge_in : goal.returns-then-not-has_huge_in
returns-then-not-has_huge_in c = λ at lies.
    subst (λ (p : Sharing × ℕ). (0 ≡ p.1) × HugeLies c.args.huge.now p.0)
    (sym (not-touched c.args.process c.args.start c.args.length c.page_count-pages.result
    c.args.space.now c.args.touch at c.page_count-pages.ensures.pages
    (sym (c.has_huge_in.ensures.huge at lies) ∙ c.if-not-has_huge_in.true))) (refl, lies)

pub returns : goal.returns
returns c = λ at lies.
    was-touched c.args.huge.now c.populated.new.self c.settle_touched.new.self c.args.process
    c.args.start c.args.length c.page_count-pages.result c.args.space.now c.args.touch
    c.in-Ok.touched.0 c.in-Ok.touched.1 at c.page_count-pages.ensures.pages
    (sym (c.has_huge_in.ensures.huge at lies) ∙ c.if-not-has_huge_in.false) lies
    (c.in-Ok.ensures.same at lies) c.in-Ok.ensures.touched c.settle_touched.ensures
