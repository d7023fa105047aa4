use Rattle.std.proofs.Common.{◌≡◌, ◌+◌, ℕ, List}
use Rattle.std.specs.Prelude.{Ok}
use Rattle.numa_lines.specs.Reading.{HasRead}
use Rattle.numa_lines.specs.Watching.{has_failed, read_count}
use Rattle.numa_lines.proofs.reading.read_text.Given as goal

abbrev pub invariant-loop-made : goal.invariant-loop-made
invariant-loop-made g l = record {
  read : (bytes : List ℕ) × HasRead g.R.Read.remaining g.T.TakeText.has_taken l.fn.input l.input
      l.fn.taker l.taker l.fn.output l.output bytes;
  settled : g.T.TakeText.handed (Ok tt) l.fn.output → g.T.TakeText.handed (Ok tt) l.output;
  sound : has_failed l.input ≡ has_failed l.fn.input;
  counted : read_count l.input ≡ read_count l.fn.input + l.made;
}
