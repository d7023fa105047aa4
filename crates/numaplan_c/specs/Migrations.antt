-- What an exported call that moves a page to a frame of another node answers and does.
use Rattle.std.specs.Prelude.{◌≡◌, ℕ, Result, Ok, Err}
use Rattle.numa_machine.specs.declared.frame.Frame.{Frame}
use Rattle.numa_pool.specs.declared.owned_seat.ExchangeRefusal.{ExchangeRefusal}
use Rattle.numa_pool.specs.declared.owned_seat.ExchangeRefusal.TheVariants.{NotOwned, Exhausted}
use Rattle.numaplan_c.specs.declared.pools.NpFrame.{NpFrame}

-- the number of an answer, and the frame that it tells
abbrev pub exchange_code : Result Frame ExchangeRefusal → ℕ
exchange_code (Ok found) = 0
exchange_code (Err NotOwned) = 34
exchange_code (Err Exhausted) = 42

abbrev pub TellsFrame : Result Frame ExchangeRefusal → NpFrame → NpFrame → Type 0
TellsFrame (Ok found) old new = new ≡ record { node = found.node; number = found.number }
TellsFrame (Err refusal) old new = new ≡ old
