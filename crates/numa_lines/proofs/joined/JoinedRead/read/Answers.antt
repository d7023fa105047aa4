use Rattle.std.proofs.Common.{◌≡◌, ◌<◌, length, rules, arith, refl, sym, ◌∙◌}
use Rattle.std.specs.Vec.Iter.{into_iter_items}
use Rattle.numa_lines.specs.Joined.{joined_bytes}
use Rattle.numa_lines.proofs.InTurn.{kept-self, read-end, read-nothing, read-some}
use Rattle.numa_lines.proofs.joined.JoinedRead.read.Goals as goal

pub loop-self-init : goal.loop-self-init
loop-self-init g c = record {
  room = refl;
  kept = kept-self (joined_bytes g.R.Read.remaining c.args.self.now);
}

pub loop-self-preserved : goal.loop-self-preserved
loop-self-preserved g c =
    let remaining = g.R.Read.remaining in
    let self = c.loop-self.self in
    let start = joined_bytes remaining c.args.self.now in
    let left = joined_bytes remaining c.go_on.new.self in
    let read = c.in_ok-count.ensures in
    let same : length c.read.new.buf ≡ length c.args.buffer.now = search rules in
    let room : 0 < length c.read.new.buf = search rules in
    record {
      room = same;
      kept = read-nothing remaining self.reader (into_iter_items self.others) _ c.read.new.self
          self.is_open start left c.in_ok-count.count c.read.new.buf c.loop-self.invariant.kept
          c.in-Some.is c.if-count-gt0.false (sym c.go_on.ensures.was_open ∙ c.if-go_on.false)
          c.go_on.ensures.bytes read.bytes.0 read.bytes.1 room;
    }

pub returns-then-count-gt0-clause-bytes : goal.returns-then-count-gt0-clause-bytes
returns-then-count-gt0-clause-bytes g c =
    let remaining = g.R.Read.remaining in
    let self = c.loop-self.self in
    let start = joined_bytes remaining c.args.self.now in
    let read = c.in_ok-count.ensures in
    let count = c.in_ok-count.count in (
      read-some remaining self.reader (into_iter_items self.others) _ c.read.new.self self.is_open
          start count c.read.new.buf c.loop-self.invariant.kept c.in-Some.is c.if-count-gt0.true
          (omega (arith, read.bound.0)) read.bytes.0,
      λ zero room. absurd (omega (arith, zero, c.if-count-gt0.true)),
    )

pub returns-then-go_on-clause-bytes : goal.returns-then-go_on-clause-bytes
returns-then-go_on-clause-bytes g c =
    let remaining = g.R.Read.remaining in
    let self = c.loop-self.self in
    let start = joined_bytes remaining c.args.self.now in
    let left = joined_bytes remaining c.go_on.new.self in
    let read = c.in_ok-count.ensures in
    let count = c.in_ok-count.count in
    let room : 0 < length c.read.new.buf = search rules in (
      read-end remaining self.reader (into_iter_items self.others) _ c.read.new.self self.is_open
          start left count c.read.new.buf c.loop-self.invariant.kept c.in-Some.is
          c.if-count-gt0.false (sym c.go_on.ensures.was_open ∙ c.if-go_on.true)
          c.go_on.ensures.bytes read.bytes.0 read.bytes.1 room,
      λ zero feed. absurd (omega (arith, zero)),
    )
