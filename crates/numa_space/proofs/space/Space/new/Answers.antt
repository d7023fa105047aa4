-- A new space stands for the history without commands.
use Rattle.std.proofs.Common.{◌≡◌, [], ◌∙◌, false, IfSome, ap, refl, rules, subst, sym}
use Rattle.numa_machine.specs.Sizes.{is_inside, is_part}
use Rattle.numa_ranges.specs.Runs.{page_at}
use Rattle.numa_space.specs.Edits.{PageRanges}
use Rattle.numa_space.proofs.InForce.{sound-new}
use Rattle.numa_space.proofs.space.Space.new.Goals as goal

pub invariant_of-result : goal.invariant_of-result
invariant_of-result c = record {
  sound = sound-new _ refl c.memory-allowed.ensures.memory
      (λ e. c.memory-allowed.ensures.some (c.memory-allowed.ensures.memory ∙ e))
      (ap (λ (p : PageRanges). p.runs) c.new.ensures) c.new-2.ensures;
  history = record { history = []; accepted = tt; stands = search rules };
  limit = search rules;
  nodes = search rules;
  memory = search rules;
  sizes = λ none page. subst (λ runs. IfSome (page_at runs page) (λ at. is_part at.0 ≡ false))
      (sym (ap (λ (p : PageRanges). p.runs) c.new.ensures)) tt;
  aligned = λ page even. subst (λ runs. IfSome (page_at runs page) (λ at. is_inside at.0 ≡ false))
      (sym (ap (λ (p : PageRanges). p.runs) c.new.ensures)) tt;
  of_the_machine = search rules;
}
