use Rattle.std.proofs.Common.{◌≡◌, ◌+◌, ◌≤◌, length, drop, decimal, ap, arith, ◌∙◌}
use Rattle.std.proofs.Common.{length-append}
use Rattle.std.proofs.Common.{length-drop}
use Rattle.std.proofs.lemmas.Fmt.{length-decimal-le}
use Rattle.numa_script.proofs.short.ShortText.put_number.Goals as goal

pub write_number-self-inside-requires : goal.write_number-self-inside-requires
write_number-self-inside-requires g c =
    let long : length (decimal c.args.number) ≤ 20 =
    length-decimal-le 20 c.args.number (omega arith) (omega arith) c.ranges.number.fits in
    let same : length (drop c.self.inside.start c.self.inside.bytes) ≡ length c.args.self.now =
    ap length c.self.view_is in
    record {
      room = omega (
        arith,
        long,
        same,
        length-drop c.self.inside.start c.self.inside.bytes,
        c.self.invariant.0,
        c.self.invariant.1,
      );
      within = omega (arith, c.self.invariant.0, c.self.invariant.1);
    }

pub returns-clause-short : goal.returns-clause-short
returns-clause-short g c =
    let long : length (decimal c.args.number) ≤ 20 =
    length-decimal-le 20 c.args.number (omega arith) (omega arith) c.ranges.number.fits in
    let same : length (drop c.self.inside.start c.self.inside.bytes) ≡ length c.args.self.now =
    ap length c.self.view_is in
    let all : length (drop c.write_number-self-inside.result c.write_number-self-inside.new.bytes)
    ≡ length (decimal c.args.number) + length (drop c.self.inside.start c.self.inside.bytes) =
    ap length c.write_number-self-inside.ensures.written
    ∙ length-append (decimal c.args.number) (drop c.self.inside.start c.self.inside.bytes) in
    omega (arith, all, long, same)
