-- A new host stands for the history without commands.
use Rattle.std.proofs.Common.{◌≡◌, ◌≢◌, true, List, [], map, AllPairs, sym, ap, subst, arith}
use Rattle.std.proofs.lemmas.List.Elements.{All-nil, All-same}
use Rattle.numa_space.specs.Standing.{StandsFor}
use Rattle.numa_host.specs.declared.process.Process.{Process}
use Rattle.numa_host.specs.Groups.{effective_mems, is_group}
use Rattle.numa_host.specs.Processes.{commands_of}
use Rattle.numa_host.specs.Standing.{HostState, HostStandsFor, IsHostSound, IsSpaceOf, member_of}

pub stands-new : (host : HostState) → host.version ≡ 0 → host.groups ≡ [] → host.processes ≡ []
    → StandsFor host.blank [] → HostStandsFor host []
stands-new host version groups processes blank = record {
  version = version;
  groups = groups;
  members = ap (λ ps. map member_of ps) processes;
  blank = blank;
  spaces = let P : Process
      → Type 0 = λ p. IsSpaceOf host.blank.machine host.blank.bounds
      (commands_of host.blank.machine [] p.id) p.space in All-same P host.processes [] processes
      (All-nil P);
}

pub sound-new : (host : HostState) → host.version ≡ 0 → host.processes ≡ []
    → StandsFor host.blank [] → IsHostSound host
sound-new host version processes blank = record {
  each_once = let P : List Process
      → Type 0 = λ ps. AllPairs (λ (a b : Process). a.id ≢ b.id) ps in
      subst P (sym processes) (λ i j d h k. absurd (omega arith));
  memory = blank.allowed;
  allowed = let P : Process
      → Type 0 = λ p. p.space.allowed ≡ effective_mems host.blank.machine.memory host.groups
      p.group in All-same P host.processes [] processes (All-nil P);
  grouped = let P : Process → Type 0 = λ p. is_group host.groups p.group ≡ true in
      All-same P host.processes [] processes (All-nil P);
  version_limit = omega (arith, version);
}
