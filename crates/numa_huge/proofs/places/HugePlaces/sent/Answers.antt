use Rattle.std.proofs.Common.{◌≡◌, ◌<◌, ◌*◌, ◌+◌, ◌-◌, ◌∙◌, ℕ, List, Some, ap, arith, max, min}
use Rattle.std.proofs.Common.{subst, sym}
use Rattle.numa_ranges.specs.Runs.{end_of}
use Rattle.numa_ranges.specs.declared.run.Run.{Run}
use Rattle.numa_placed.proofs.Stating.{AreLeft, left-fits, left-next}
use Rattle.numa_huge.specs.Huge.{HugePlaced, huge_at, places_of, spot_in}
use Rattle.numa_huge.specs.Moves.{HugeWalk, is_astray, named_in, sent_pages, walk_from}
use Rattle.numa_huge.specs.declared.spot.HugeSpot.{HugeSpot}
use Rattle.numa_huge.proofs.Keeping.{keeps-same, keeps-then}
use Rattle.numa_huge.proofs.Sending.{part-within, reached-end, reached-from, reached-next}
use Rattle.numa_huge.proofs.Sending.{reached-over}
use Rattle.numa_huge.proofs.Where.{sending-start}
use Rattle.numa_huge.proofs.places.HugePlaces.sent.Goals as goal

pub loop-run-init : goal.loop-run-init
loop-run-init c =
    let part = c.iter_from-run-items.result in
    let same : c.into_iter-run-iterator.result ≡ part =
    c.into_iter-run-iterator.ensures.into_iter_gives in
    record {
      reached = record {
        sent = sending-start c.args.list.now
            (λ page. named_in c.args.space.now c.args.task c.args.cpu (page * 512)) c.args.first
            c.args.pages (c.args.first + c.args.pages - c.args.first) c.in-Ok.sent c.args.self.now
            c.new-flows.result (omega arith) c.in-Ok.ensures c.new-flows.ensures.told;
        ahead = λ p low far. ap (λ (h : HugePlaced). huge_at h.runs p) c.in-Ok.ensures
            ∙ sym (ap (λ (h : HugePlaced). huge_at h.runs p) c.self.view_is)
            ∙ sym (ap spot_in (c.iter_from-run-items.ensures.pages p low))
            ∙ sym (ap (λ (r : List (Run HugeSpot)). huge_at r p) same);
        high = omega arith;
      };
      left = subst AreLeft (sym same)
          (record { low = 0; apart = c.iter_from-run-items.ensures.rising });
      few = omega (arith, c.new-flows.ensures.left);
      keeps = keeps-same c.args.self.now c.in-Ok.sent c.in-Ok.ensures;
    }

pub overflow_add-behind : goal.overflow_add-behind
overflow_add-behind c =
    omega (
      arith,
      left-fits c.loop-run.run-iterator c.next.new.self c.in-Some.run'
          c.loop-run.invariant.left c.in-Some.ensures.steps,
    )

pub returns-then-run-end-clause-sent : goal.returns-then-run-end-clause-sent
returns-then-run-end-clause-sent c =
    let nodes : ℕ → List ℕ =
    λ page. named_in c.args.space.now c.args.task c.args.cpu (page * 512) in
    reached-over c.args.list.now nodes (sent_pages c.args.list.now nodes c.args.first c.args.pages
    (walk_from (places_of c.args.self.now))) (c.args.first + c.args.pages) c.loop-run.page
    c.loop-run.sent c.loop-run.flows c.loop-run.run-iterator c.next.new.self c.in-Some.run'
    c.loop-run.invariant.left c.in-Some.ensures.steps c.loop-run.invariant.reached
    (omega (arith, c.if-run-end.true))

pub send_part-requires-clause-rises : goal.send_part-requires-clause-rises
send_part-requires-clause-rises c =
    (part-within (is_astray c.args.list.now (Some c.in-Some.run'.value)) c.max-from.result
    c.max-to.result c.part_end-part.result (omega (arith, c.max-to.ensures))
    c.part_end-part.ensures).0

pub send_part-requires-clause-within : goal.send_part-requires-clause-within
send_part-requires-clause-within c = omega (
  arith,
  (part-within (is_astray c.args.list.now (Some c.in-Some.run'.value)) c.max-from.result
      c.max-to.result c.part_end-part.result (omega (arith, c.max-to.ensures))
      c.part_end-part.ensures).1,
  c.max-to.ensures,
  c.min-last.ensures,
  c.max-from.ensures,
  c.if-run-end.false,
  c.loop-run.invariant.reached.high,
  c.requires,
)

pub send_part-requires-clause-left : goal.send_part-requires-clause-left
send_part-requires-clause-left c = omega (arith, c.loop-run.invariant.few, c.max-from.ensures)

pub loop-run-preserved : goal.loop-run-preserved
loop-run-preserved c =
    let nodes : ℕ → List ℕ =
    λ page. named_in c.args.space.now c.args.task c.args.cpu (page * 512) in
    let list : ℕ = c.args.list.now in
    let all : HugeWalk =
    sent_pages list nodes c.args.first c.args.pages (walk_from (places_of c.args.self.now)) in
    let end : ℕ = c.args.first + c.args.pages in
    let page : ℕ = c.loop-run.page in
    let run : Run HugeSpot = c.in-Some.run' in
    let from : ℕ = c.max-from.result in
    let to : ℕ = c.max-to.result in
    let part : ℕ = c.part_end-part.result in
    let from_is : from ≡ max run.first page = omega (arith, c.max-from.ensures) in
    let begins : run.first < end = omega (arith, c.if-run-end.false) in
    let to_is : to ≡ max (min (end_of run) end) from =
    omega (arith, c.max-to.ensures, c.min-last.ensures) in
    let so = c.loop-run.invariant.reached in
    let at = reached-from list nodes all end page c.loop-run.sent c.loop-run.flows
    c.loop-run.run-iterator c.next.new.self run c.loop-run.invariant.left c.in-Some.ensures.steps so
    from from_is begins in
    let within = part-within (is_astray list (Some run.value)) from to part
    (omega (arith, to_is)) c.part_end-part.ensures in
    record {
      reached = reached-next list nodes all end page c.loop-run.sent c.loop-run.flows
          c.loop-run.run-iterator c.next.new.self run c.loop-run.invariant.left
          c.in-Some.ensures.steps so from part to from_is begins to_is c.part_end-part.ensures
          c.send_part.new.self c.send_part.new.flows at
          (c.in-Ok-send_part.ensures.sent at.told at.has);
      left = left-next c.loop-run.run-iterator c.next.new.self c.in-Some.run'
          c.loop-run.invariant.left c.in-Some.ensures.steps;
      few = omega (
        arith,
        c.send_part.ensures.left,
        c.loop-run.invariant.few,
        from_is,
        within.0,
        within.1,
      );
      keeps = keeps-then (places_of c.args.self.now) (places_of c.loop-run.sent)
          (places_of c.send_part.new.self) c.loop-run.invariant.keeps c.send_part.ensures.keeps;
    }

pub returns-then-run-end-clause-keeps : goal.returns-then-run-end-clause-keeps
returns-then-run-end-clause-keeps c = c.loop-run.invariant.keeps

pub returns-clause-keeps : goal.returns-clause-keeps
returns-clause-keeps c = c.loop-run.invariant.keeps

pub returns-clause-sent : goal.returns-clause-sent
returns-clause-sent c =
    let nodes : ℕ → List ℕ =
    λ page. named_in c.args.space.now c.args.task c.args.cpu (page * 512) in
    reached-end c.args.list.now nodes (sent_pages c.args.list.now nodes c.args.first c.args.pages
    (walk_from (places_of c.args.self.now))) (c.args.first + c.args.pages) c.loop-run.page
    c.loop-run.sent c.loop-run.flows c.loop-run.run-iterator c.in-None.ensures.steps.0
    c.loop-run.invariant.reached
