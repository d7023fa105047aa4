use Rattle.std.proofs.Common.{◌∙◌, sym, subst, Option}
use Rattle.numa_huge.specs.Tallies.{StandsForHuge}
use Rattle.numa_huge.specs.declared.pages.HugePages.{HugePages}
use Rattle.numa_page_state.specs.Lying.{process_in}
use Rattle.numa_run.proofs.Strays.{strays-none, strays-small, strays-some}
use Rattle.numa_run.proofs.binding.any_astray.Goals as goal

pub returns-then-has_astray : goal.returns-then-has_astray
returns-then-has_astray c = λ lying memory history lies kept stands.
    strays-small memory (process_in c.args.space.now history c.args.resident.now) lying.spots
    c.args.said.now
    (sym (c.has_astray.ensures lying history lies stands) ∙ c.if-has_astray.true)

pub returns-in-Some : goal.returns-in-Some
returns-in-Some c = λ lying memory history lies kept stands.
    strays-some c.in-Some.kept memory (process_in c.args.space.now history c.args.resident.now)
    lying.spots c.args.said.now c.huge_astray.result
    (subst (λ (h : Option HugePages). StandsForHuge h memory) c.in-Some.is kept)
    (sym (c.has_astray.ensures lying history lies stands) ∙ c.if-has_astray.false)
    (λ known pages. c.huge_astray.ensures known history c.args.resident.now pages stands)

pub returns-in-None : goal.returns-in-None
returns-in-None c = λ lying memory history lies kept stands.
    strays-none c.args.huge.now memory
    (process_in c.args.space.now history c.args.resident.now) lying.spots c.args.said.now
    c.in-None.is kept
    (sym (c.has_astray.ensures lying history lies stands) ∙ c.if-has_astray.false)
