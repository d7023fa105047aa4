use Rattle.std.proofs.Common.{◌<◌, ◌≤◌, Option, sym, subst, arith}
use Rattle.std.proofs.lemmas.Bool.{OnFalse_from, OnTrue_from}
use Rattle.numa_mode.specs.Policy.{PolicyRecord}
use Rattle.numa_ranges.specs.Runs.{end_of}
use Rattle.numa_ranges.specs.declared.run.Run.{Run}
use Rattle.numa_compile.specs.Windows.{BeginsBeside, BeginsInside}
use Rattle.numa_compile.proofs.recompiler.map.begins_beside.Goals as goal

pub returns-clause-beside : goal.returns-clause-beside
returns-clause-beside c =
    OnTrue_from c.ends_by.result (BeginsBeside c.args.space.now c.args.window.now)
    (λ is. (
      omega arith,
      λ d. subst (λ (run : Run (Option PolicyRecord)). end_of run ≤ c.args.window.now.first)
          (sym (c.range_there.ensures.there d)) (c.ends_by.ensures.ended is),
    ))

pub returns-clause-inside : goal.returns-clause-inside
returns-clause-inside c =
    OnFalse_from c.ends_by.result (BeginsInside c.args.space.now c.args.window.now)
    (λ is lt d. subst (λ (run : Run (Option PolicyRecord)). c.args.window.now.first < end_of run)
    (sym (c.range_there.ensures.there d)) (c.ends_by.ensures.reaches is))
