use Rattle.std.proofs.Common.{◌≡◌, ◌-◌, Bool, true, false, ap, sym, ◌∙◌, arith}
use Rattle.numa_placed.specs.Spots.{is_on, pages_if, pages_within, spot_at}
use Rattle.numa_placed.proofs.Shared.{count-le}
use Rattle.numa_page_state.proofs.between.add_stay.Goals as goal

pub returns-then-not-is_on : goal.returns-then-not-is_on
returns-then-not-is_on c to small =
    let off : is_on c.args.from c.args.stay.spot ≡ false =
    sym c.is_on.ensures ∙ c.if-not-is_on.true in
    omega (
      arith,
      ap (λ (b : Bool). pages_if b (pages_within (is_on to) (spot_at c.args.after.now) c.args.first
          (c.args.stay.end - c.args.first))) off,
    )

pub returns : goal.returns
returns c to small =
    let on : is_on c.args.from c.args.stay.spot ≡ true =
    sym c.is_on.ensures ∙ c.if-not-is_on.false in
    omega (
      arith,
      c.add-sum.ensures to small,
      c.counts_in-counts.ensures to small,
      ap (λ (b : Bool). pages_if b (pages_within (is_on to) (spot_at c.args.after.now) c.args.first
          (c.args.stay.end - c.args.first))) on,
    )

pub add-sum-requires : goal.add-sum-requires
add-sum-requires c = record {
  held = c.requires.room;
  stated = λ node small. omega (
    arith,
    c.counts_in-counts.ensures node small,
    c.requires.rises,
    c.requires.within,
    count-le (λ page. is_on node (spot_at c.args.after.now page)) c.args.first
        (c.args.stay.end - c.args.first),
  );
}
