use Rattle.std.proofs.Common.{false, true, sym, ◌∙◌}
use Rattle.numa_pages.proofs.pages.Pages.move_page.Goals as goal

pub move_huge-requires : goal.move_huge-requires
move_huge-requires c = rw (← c.self.view_is) (sym c.is_huge_in.ensures ∙ c.if-is_huge_in.true)

pub move_small-requires : goal.move_small-requires
move_small-requires c = rw (← c.self.view_is) (sym c.is_huge_in.ensures ∙ c.if-is_huge_in.false)
