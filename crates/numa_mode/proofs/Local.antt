-- LOCAL has no node.
use Rattle.std.proofs.Common.{◌≡◌, ℕ, true, refl, ap, ◌∙◌, if◌then◌else◌}
use Rattle.numa_mask.specs.NodeSet.{members, remap_set}
use Rattle.numa_mode.specs.Policy.{Specification, is_local, is_local_mode, kept_nodes, given_nodes}
use Rattle.numa_mode.specs.Policy.{effect_when_set, stays, never_empty, effect_by_flag}
use Rattle.numa_mode.specs.Policy.{effect_after}
use Rattle.numa_machine.specs.declared.rules.Rules.{Rules}
use Rattle.numa_machine.specs.declared.rules.Rules.TheVariants.{Document, Linux}
use Rattle.numa_mode.specs.declared.modes.NodeFlag.{NodeFlag}
use Rattle.numa_mode.specs.declared.modes.NodeFlag.TheVariants.{Plain, Static, Relative}
use Rattle.numa_mode.specs.declared.modes.Mode.{Mode}
use Rattle.numa_mode.specs.declared.modes.Mode.TheVariants.{Default, Preferred, Bind, Interleave}
use Rattle.numa_mode.specs.declared.modes.Mode.TheVariants.{Local, PreferredMany}
use Rattle.numa_mode.specs.declared.modes.Mode.TheVariants.{WeightedInterleave}

kept-local : (mode : Mode) (set : ℕ) → is_local_mode mode ≡ true → kept_nodes mode set ≡ 0
kept-local Default set h = cc
kept-local Preferred set h = cc
kept-local Bind set h = cc
kept-local Interleave set h = cc
kept-local Local set h = refl
kept-local PreferredMany set h = cc
kept-local WeightedInterleave set h = cc

pub effect_when_set-local : (spec : Specification) (allowed : ℕ) → is_local spec ≡ true
    → effect_when_set spec allowed ≡ 0
effect_when_set-local spec allowed h =
    kept-local spec.mode (given_nodes spec.flag spec.mask allowed) h

pub remap_set-zero : (old new : ℕ) → remap_set 0 old new ≡ 0
unfolding members
remap_set-zero old new = refl

by_flag-local : (flag : NodeFlag) (spec : Specification) (effective old new : ℕ)
    → is_local spec ≡ true → effective ≡ 0 → effect_by_flag flag spec effective old new ≡ 0
by_flag-local Plain spec effective old new h none = ap (λ set. remap_set set old new) none
    ∙ remap_set-zero old new
by_flag-local Static spec effective old new h none = effect_when_set-local spec new h
by_flag-local Relative spec effective old new h none = effect_when_set-local spec new h

pub effect_after-local : (rules : Rules) (spec : Specification) (effective old new : ℕ)
    → is_local spec ≡ true → effective ≡ 0 → effect_after rules spec effective old new ≡ 0
effect_after-local Document spec effective old new h none = by_flag-local spec.flag spec effective
    old new h none
effect_after-local Linux spec effective old new h none = go spec.mode h
  where
    go : (mode : Mode) → is_local_mode mode ≡ true
        → (if stays Linux mode then effective else never_empty Linux
        (effect_by_flag spec.flag spec effective old new) new) ≡ 0
    go Local h = none
    go Preferred h = cc
    go Default h = cc
    go Bind h = cc
    go Interleave h = cc
    go PreferredMany h = cc
    go WeightedInterleave h = cc
