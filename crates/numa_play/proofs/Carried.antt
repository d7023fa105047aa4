-- What calls of running scripts say, taken on to where a line ends.
use Rattle.std.proofs.Common.{Ok, Err, OnOk, Result}

-- what holds whatever came of a call
pub on-any : {A E P : Type 0} (result : Result A E) → P → OnOk result P
on-any (Ok a) p = p
on-any (Err e) p = tt
