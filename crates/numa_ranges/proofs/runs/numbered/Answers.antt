-- One more run has its row.
use Rattle.std.proofs.Common.{◌+◌, ap, ◌∙◌, arith}
use Rattle.std.proofs.lemmas.List.{take_all}
use Rattle.std.proofs.lemmas.Option.{slice_get_within}
use Rattle.numa_ranges.specs.Numbered.{run_of_row, runs_of}
use Rattle.numa_ranges.specs.declared.row.Row.{Row}
use Rattle.numa_ranges.proofs.Numbered.{longer-same, longer-both, runs-more, numbered-more}
use Rattle.numa_ranges.proofs.runs.numbered.Goals as goal

pub loop-i-preserved : goal.loop-i-preserved
loop-i-preserved g c =
    let inv = c.loop-i.invariant in
    let run = c.index-runs-i.result in
    let row : Row = record {
      first = run.first;
      pages = run.pages;
      index = run.index;
      number =
          c.in-Ok-add.number;
    } in
    let within = slice_get_within c.add.new.self c.in-Ok-add.number run.value
    c.in-Ok-add.ensures.number in
    record {
      longer = longer-both c.args.values.now c.loop-i.values c.add.new.self inv.longer
          c.add.ensures.longer;
      numbered =
          rw c.push_reserved.ensures.items
          (numbered-more c.loop-i.values c.add.new.self c.loop-i.rows.items row c.add.ensures.longer
          inv.numbered within);
      so_far = ap (runs_of c.add.new.self) c.push_reserved.ensures.items
          ∙ runs-more c.loop-i.values c.add.new.self c.loop-i.rows.items c.args.runs.now row run
          c.loop-i.i c.add.ensures.longer inv.numbered inv.so_far (omega arith) c.index-runs-i.is
          (ap (run_of_row row) c.in-Ok-add.ensures.number);
      size = c.push_reserved.ensures.len ∙ ap (λ n. n + 1) inv.size;
      room = omega (arith, c.push_reserved.ensures.capacity, inv.room);
    }

pub push_reserved-requires : goal.push_reserved-requires
push_reserved-requires g c = omega (arith, c.loop-i.invariant.size, c.loop-i.invariant.room)

pub returns-clause-rows : goal.returns-clause-rows
returns-clause-rows g c = record {
  numbered = c.loop-i.invariant.numbered;
  runs = c.loop-i.invariant.so_far ∙ take_all c.loop-i.i c.args.runs.now (omega arith);
}

pub loop-i-init : goal.loop-i-init
loop-i-init g c = record {
  longer = longer-same c.args.values.now;
  numbered = rw c.in-Ok.ensures.items tt;
  so_far = ap (runs_of c.args.values.now) c.in-Ok.ensures.items;
  size = c.in-Ok.ensures.len;
  room = c.in-Ok.ensures.capacity;
}

pub returns-clause-longer : goal.returns-clause-longer
returns-clause-longer g c = c.loop-i.invariant.longer

pub returns-in_default-add-clause-longer : goal.returns-in_default-add-clause-longer
returns-in_default-add-clause-longer g c = longer-both c.args.values.now c.loop-i.values
    c.add.new.self c.loop-i.invariant.longer c.add.ensures.longer

pub returns-in_default-clause-longer : goal.returns-in_default-clause-longer
returns-in_default-clause-longer g c = longer-same c.args.values.now
