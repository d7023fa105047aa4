-- After how many pages the lists of a policy come again.
use Rattle.std.proofs.Common.{◌≡◌, ℕ, ◌+◌, ◌<◌, Some, refl, sym, ap, ◌∙◌, get_or, subst, unwrap_or}
use Rattle.std.proofs.Math.Nat.{add-mod_right}
use Rattle.numa_mask.specs.NodeSet.{members, weight_of}
use Rattle.numa_machine.specs.Sizes.{turn_at}
use Rattle.numa_machine.proofs.Sizes.{round-later}
use Rattle.numa_machine.specs.Weights.{interleave_node, node_at, total_weight, weighted_node}
use Rattle.numa_mode.specs.Policy.{PolicyRecord}
use Rattle.numa_mode.specs.declared.modes.Mode.{Mode}
use Rattle.numa_mode.specs.declared.modes.Mode.TheVariants.{Default, Preferred, Bind, Interleave}
use Rattle.numa_mode.specs.declared.modes.Mode.TheVariants.{Local, PreferredMany}
use Rattle.numa_mode.specs.declared.modes.Mode.TheVariants.{WeightedInterleave}
use Rattle.numa_space.specs.Lists.{Setting, list_by_mode, near}
use Rattle.numa_placed.specs.Periods.{IsPeriod, period_by, period_for}

interleaved : (set turn : ℕ) → interleave_node set (turn + weight_of set) ≡ interleave_node set turn
unfolding interleave_node
interleaved set turn = ap (λ (n : ℕ). get_or (members set) n 0) (add-mod_right turn (weight_of set))

weighted : (weight : ℕ → ℕ) (set turn : ℕ)
    → weighted_node weight set (turn + total_weight weight set) ≡ weighted_node weight set turn
unfolding weighted_node
weighted weight set turn = ap (λ (n : ℕ). node_at weight (members set) n)
    (add-mod_right turn (total_weight weight set))

module _ (setting : Setting) (index pages : ℕ) where
  by-mode : (mode : Mode) (set from k : ℕ)
      → k + period_by setting.weight index pages mode set < pages
      → list_by_mode setting mode set from
      (turn_at (index + k + period_by setting.weight index pages mode set))
      ≡ list_by_mode setting mode set from (turn_at (index + k))
  by-mode Default set from k within = refl
  by-mode Preferred set from k within = refl
  by-mode Bind set from k within = refl
  by-mode Interleave set from k within =
      ap (λ (turn : ℕ). near setting (interleave_node set turn))
      (round-later (weight_of set) index pages k within)
      ∙ ap (near setting) (interleaved set (turn_at (index + k)))
  by-mode Local set from k within = refl
  by-mode PreferredMany set from k within = refl
  by-mode WeightedInterleave set from k within =
      ap (λ (turn : ℕ). near setting (weighted_node setting.weight set turn))
      (round-later (total_weight setting.weight set) index pages k within)
      ∙ ap (near setting) (weighted setting.weight set (turn_at (index + k)))

  -- the lists of a policy come again after its period
  pub is-period : (weight : ℕ → ℕ) (policy : PolicyRecord) (period : ℕ)
      → ((node : ℕ) → weight node ≡ setting.weight node)
      → period ≡ period_for weight (Some policy) index pages
      → IsPeriod setting (Some policy) index pages period
  is-period weight policy period same is cpu k =
      let all : period_by setting.weight index pages policy.spec.mode policy.effective ≡ period =
      sym (is
      ∙ (λ i. period_by (λ node. same node i) index pages policy.spec.mode policy.effective)) in
      subst (λ (n : ℕ). k + n < pages
      → list_by_mode setting policy.spec.mode policy.effective (unwrap_or policy.home cpu)
      (turn_at (index + k + n))
      ≡ list_by_mode setting policy.spec.mode policy.effective (unwrap_or policy.home cpu)
      (turn_at (index + k))) all
      (by-mode policy.spec.mode policy.effective (unwrap_or policy.home cpu) k)
