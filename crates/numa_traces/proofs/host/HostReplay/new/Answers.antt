use Rattle.std.proofs.Common.{◌≡◌, ◌∙◌, ℕ, List, [], Option, Some, None, ap, refl, sym}
use Rattle.numa_traces.specs.Hosting.{process_of}
use Rattle.numa_traces.specs.declared.process.ProcessReplay.{ProcessReplay}
use Rattle.numa_traces.proofs.host.HostReplay.new.Goals as goal

never : {A : Type 0} (one : ProcessReplay) → ◌≡◌ {A = Option ProcessReplay} None (Some one) → A
never one odd = absurd (let no = odd in cc)

pub returns-clause-replay : goal.returns-clause-replay
returns-clause-replay c plans = record {
  start = record { pages = λ process. []; free = c.args.room.items };
  fresh = record { pages = λ process. refl; free = refl };
  free = refl;
  each = λ process one found. never one (sym (ap
      (λ (entries : List (ℕ × ProcessReplay)). process_of entries process) c.new.ensures.empty)
      ∙ found);
}
