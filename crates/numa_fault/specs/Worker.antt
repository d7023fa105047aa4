-- What a fault worker shows.
use Rattle.std.specs.Prelude.{◌≡◌, ℕ, List, [], Option, Some, None}
use Rattle.numa_machine.specs.declared.fallback.Fallback.TheVariants.{Nearest}
use Rattle.numa_machine.specs.declared.rules.Rules.TheVariants.{Document}
use Rattle.numa_pool.specs.Seats.{SeatView}
use Rattle.numa_publish.specs.Shown.{ReaderState}
use Rattle.numa_fault.specs.declared.answer.Answer.{Answer}

-- its parts: a reader of published plans, and a seat at the pools
pub record Parts : Type 0 where
  pub reader : ReaderState
  pub seat : SeatView

-- the parts; and, while a crew runs, the answers that it keeps and for how many it has room
pub record WorkerState : Type 0 where
  pub reader : ReaderState
  pub seat : SeatView
  pub kept : List Answer
  pub room : ℕ

abbrev pub parts_of : WorkerState → Parts
parts_of w = record { reader = w.reader; seat = w.seat }

-- outside of a crew a worker keeps no answers, and has no room for any
abbrev pub KeepsNothing : WorkerState → Type 0
KeepsNothing w = (w.kept ≡ []) × (w.room ≡ 0)

-- the reader that stands for none
abbrev pub no_reader : ReaderState
no_reader = record {
  desk = record {
    book = record { number = 0; log_name = 0; cells_name = 0 };
    machine = record {
      nodes = 0;
      memory = 0;
      distances = [];
      frames = [];
      rules = Document;
      fallback = Nearest;
    };
  };
  history = [];
  versions = [];
  enters = 0;
  refused = 0;
}

-- what is shown of a reader, and of none while a view has it
abbrev pub shown_by : Option ReaderState → ReaderState
shown_by (Some r) = r
shown_by None = no_reader
