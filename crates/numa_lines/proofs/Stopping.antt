-- Why a run ended, where its server meets no fault of its own.
use Rattle.std.specs.Prelude.{◌≡◌, ◌⊎◌, Result, Err}
use Rattle.std.proofs.Common.{inl, inr}
use Rattle.numa_lines.specs.declared.fault.RunFault.{RunFault}
use Rattle.numa_lines.specs.declared.fault.RunFault.TheVariants.{Read, Write}

abbrev pub ended : RunFault → Result (Unit {0}) RunFault
ended why = Err why

-- at the input, where the fault is `Read`
pub at_input : (why : RunFault) (Input Output : Type 0) → (Output → why ≡ Write)
    → ended why ≡ ended Read → ⊥ ⊎ (((why ≡ Read) × Input) ⊎ Output) → Input
at_input why Input Output is e (inl fault) = absurd fault
at_input why Input Output is e (inr (inl (read, stops))) = stops
at_input why Input Output is e (inr (inr stops)) = let write = is stops in cc

-- at the output, where it is `Write`
pub at_output : (why : RunFault) (Input Output : Type 0) → (Output → why ≡ Write)
    → ended why ≡ ended Write → ⊥ ⊎ (((why ≡ Read) × Input) ⊎ Output) → Output
at_output why Input Output is e (inl fault) = absurd fault
at_output why Input Output is e (inr (inl (read, stops))) = cc
at_output why Input Output is e (inr (inr stops)) = stops
