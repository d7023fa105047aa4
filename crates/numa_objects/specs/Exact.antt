-- Policies that are equal are one policy.
use Rattle.std.specs.Prelude.{◌≡◌, ◌&&◌, Bool, true, false, refl}
use Rattle.std.proofs.Common.{rules}
use Rattle.numa_mode.specs.Policy.{PolicyRecord, Specification}
use Rattle.numa_mode.specs.declared.modes.Mode.{Mode}
use Rattle.numa_mode.specs.declared.modes.Mode.TheVariants.{Default, Preferred, Bind, Interleave}
use Rattle.numa_mode.specs.declared.modes.Mode.TheVariants.{Local, PreferredMany}
use Rattle.numa_mode.specs.declared.modes.Mode.TheVariants.{WeightedInterleave}
use Rattle.numa_mode.specs.declared.modes.NodeFlag.{NodeFlag}
use Rattle.numa_mode.specs.declared.modes.NodeFlag.TheVariants.{Plain, Static, Relative}
use Rattle.numa_mode.specs.contracts.modes.ModePartialEq.TheImpl as mode_test
use Rattle.numa_mode.specs.contracts.modes.NodeFlagPartialEq.TheImpl as flag_test
use Rattle.numa_mode.specs.contracts.specification.PolicySpecPartialEq.TheImpl as spec_test
use Rattle.numa_mode.specs.contracts.records.RecordPartialEq.TheImpl as record_test
use Rattle.numa_objects.specs.contracts.place_policy.PlacePolicyPartialEq.TheImpl as place_test
use Rattle.std.proofs.lemmas.Grind.{common_steps}

pub mode-exact : (a b : Mode) → mode_test.ghosts.eq a b ≡ true → a ≡ b
mode-exact Default Default h = refl
mode-exact Preferred Preferred h = refl
mode-exact Bind Bind h = refl
mode-exact Interleave Interleave h = refl
mode-exact Local Local h = refl
mode-exact PreferredMany PreferredMany h = refl
mode-exact WeightedInterleave WeightedInterleave h = refl
mode-exact a b h = cc

pub flag-exact : (a b : NodeFlag) → flag_test.ghosts.eq a b ≡ true → a ≡ b
flag-exact Plain Plain h = refl
flag-exact Static Static h = refl
flag-exact Relative Relative h = refl
flag-exact a b h = cc

pub spec-exact : (a b : Specification) → spec_test.ghosts.eq a b ≡ true → a ≡ b
spec-exact a b h = Prim.search (rules, common_steps, mode-exact, flag-exact)

pub record-exact : (a b : PolicyRecord) → record_test.ghosts.eq a b ≡ true → a ≡ b
record-exact a b h = Prim.search (rules, common_steps, spec-exact)

pub policy-exact : (a b : PolicyRecord) → place_test.ghosts.eq a b ≡ true → a ≡ b
policy-exact a b h = record-exact a b h
