-- What a span of pages is that a plan serves.
use Rattle.std.specs.Prelude.{◌≡◌, ℕ, ◌+◌, ◌<◌, ◌^◌, true, List}
use Rattle.numa_machine.specs.Machine.{Hardware}
use Rattle.numa_space.specs.Pages.{is_mapped}
use Rattle.numa_requests.specs.declared.command.Command.{Command}

-- the faulting node is one of the machine's, and each page of the span is mapped; so each lies
-- below page 2^35
pub record SpanStands (machine : Hardware) (history : List Command) (first pages cpu : ℕ)
    : Type 0 where
  pub cpu_known : cpu < machine.nodes
  pub mapped : (k : ℕ) → k < pages → is_mapped history (first + k) ≡ true
  pub low : (k : ℕ) → k < pages → first + k < 2 ^ 35
