-- Which orders may be taken: what the settings of a machine and the advice of an area enable
-- ("Transparent Hugepage Support"; madvise(2), MADV_HUGEPAGE).
use Rattle.std.specs.Prelude.{ℕ, ◌-◌, ◌&&◌, Bool, true, false, not, Option, Some, None}
use Rattle.std.specs.Prelude.{◌++◌, [], ◌∷◌, replicate, set, slice_get}
use Rattle.numa_blocks.specs.declared.settings.Advice.{Advice}
use Rattle.numa_blocks.specs.declared.settings.Advice.TheVariants.{Neither, Huge, NoHuge}
use Rattle.numa_blocks.specs.declared.settings.BlockSettings.{BlockSettings}
use Rattle.numa_blocks.specs.declared.settings.Enabled.{Enabled}
use Rattle.numa_blocks.specs.declared.settings.Enabled.TheVariants.{Always, Madvise, Never}
use Rattle.numa_blocks.specs.declared.settings.SizeEnabled.{SizeEnabled}
use Rattle.numa_blocks.specs.declared.settings.SizeEnabled.TheVariants.{Inherit, Own}

-- ---- advice

abbrev pub is_advised : Advice → Bool
is_advised Neither = false
is_advised Huge = true
is_advised NoHuge = false

abbrev pub is_refused : Advice → Bool
is_refused Neither = false
is_refused Huge = false
is_refused NoHuge = true

-- ---- settings

-- whether a setting holds in an area that is advised, or isn't
abbrev pub holds : Enabled → Bool → Bool
holds Always advised = true
holds Madvise advised = advised
holds Never advised = false

-- the setting of one order, beside that of all sizes
abbrev pub size_holds : Enabled → SizeEnabled → Bool → Bool
size_holds all Inherit advised = holds all advised
size_holds all (Own own) advised = holds own advised

-- orders past the last aren't taken
abbrev pub order_holds : Enabled → Option SizeEnabled → Bool → Bool
order_holds all None advised = false
order_holds all (Some size) advised = size_holds all size advised

-- whether blocks of an order, from 2 on, may be taken in an area with this advice: the order's own
-- setting counts, or that of all sizes where it inherits. An area that is advised against blocks
-- gets none
abbrev pub is_enabled : BlockSettings → Advice → ℕ → Bool
is_enabled settings advice order = not (is_refused advice)
    && order_holds settings.enabled (slice_get settings.sizes (order - 2)) (is_advised advice)

-- whether other nodes are asked for a block of 2 MiB that one node lacks
abbrev pub asks_others : BlockSettings → Advice → Bool
asks_others settings advice = holds settings.defrag (is_advised advice)

-- ---- what lines make of them

-- before any: no block is ever taken; 2 MiB goes by the setting of all sizes
abbrev pub first_settings : BlockSettings
first_settings = record {
  enabled = Never;
  defrag = Never;
  sizes = replicate 7 (Own Never) ++ Inherit ∷ [];
}

abbrev pub with_all : Enabled → Enabled → BlockSettings → BlockSettings
with_all enabled defrag settings = record {
  enabled = enabled;
  defrag = defrag;
  sizes = settings.sizes;
}

abbrev pub with_size : ℕ → SizeEnabled → BlockSettings → BlockSettings
with_size order size settings = record {
  enabled = settings.enabled;
  defrag = settings.defrag;
  sizes = set settings.sizes (order - 2) size;
}
