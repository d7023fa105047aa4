-- The answers of exported questions about policies in force.
use Rattle.std.specs.Prelude.{◌≡◌, ℕ, Option, Some, None}
use Rattle.numa_mask.specs.Words.{number_of}
use Rattle.numa_mode.specs.Policy.{PolicyRecord, is_relative, is_static, word_of}
use Rattle.numa_ranges.specs.declared.run.Run.{Run}
use Rattle.numaplan_c.specs.declared.standing.NpPolicy.{NpPolicy}

-- the number of a home node; no node of a machine has that of none
abbrev pub home_number : Option ℕ → ℕ
home_number None = 256
home_number (Some node) = node

-- the struct of a policy: the word of its mode and its flag, as set_mempolicy(2) takes it, its home
-- node, the nodes that were asked for, and those that it has. No policy is MPOL_DEFAULT, without
-- nodes
abbrev pub TellsPolicy : Option PolicyRecord → NpPolicy → Type 0
TellsPolicy None told = (told.mode ≡ 0) × (told.home ≡ home_number None)
    × (number_of told.asked.words ≡ 0) × (number_of told.nodes.words ≡ 0)
TellsPolicy (Some r) told =
    (told.mode ≡ word_of r.spec.mode (is_static r.spec.flag) (is_relative r.spec.flag))
    × (told.home ≡ home_number r.home) × (number_of told.asked.words ≡ r.spec.mask)
    × (number_of told.nodes.words ≡ r.effective)

-- that of a range's own policy, if there is a range
abbrev pub TellsRangePolicy : Option (Run (Option PolicyRecord)) → ℕ → NpPolicy → NpPolicy → Type 0
TellsRangePolicy None code old new = (code ≡ 37) × (new ≡ old)
TellsRangePolicy (Some range) code old new = (code ≡ 0) × TellsPolicy range.value new
