use Rattle.std.proofs.Common.{◌≡◌, ◌∙◌, arith, slice_index, subst, sym, true, false}
use Rattle.numa_ranges.specs.Maps.{any_page}
use Rattle.numa_placed.proofs.Others.{other-none, other-so}
use Rattle.numa_huge.specs.Huge.{HugePlaced, huge_at}
use Rattle.numa_huge.specs.Moves.{is_astray}
use Rattle.numa_huge.proofs.Astray.{astray-none, astray-some}
use Rattle.numa_huge.proofs.Own.{own-node}
use Rattle.numa_huge.proofs.places.HugePlaces.has_astray.Goals as goal

pub returns-in-Some : goal.returns-in-Some
returns-in-Some c =
    let node = c.in-Some._node in
    let other = other-so c.args.list.now (slice_index c.counts_of-counts.result.on) node
    c.in-Some.ensures.some in
    sym (subst (λ (h : HugePlaced). any_page (λ page. is_astray c.args.list.now
    (huge_at h.runs page)) c.args.first c.args.pages ≡ true) c.self.view_is
    (astray-some (huge_at c.self.inside.map.runs) c.args.list.now c.args.first c.args.pages node
    other.0 (omega (arith, other.1, c.counts_of-counts.ensures.on node (omega arith)))))

pub returns-in-None : goal.returns-in-None
returns-in-None c =
    let runs = c.self.inside.map.runs in
    sym (subst (λ (h : HugePlaced). any_page (λ page. is_astray c.args.list.now
    (huge_at h.runs page)) c.args.first c.args.pages ≡ false) c.self.view_is
    (astray-none (huge_at runs) c.args.list.now c.args.first c.args.pages
    (λ page node is. own-node runs page node c.self.invariant.1.own is)
    (λ node small out. sym (c.counts_of-counts.ensures.on node small)
    ∙ other-none c.args.list.now (slice_index c.counts_of-counts.result.on) node
    (c.in-None.ensures.none node small) out)))
