-- Whether two records are one: in specification (mode, flag and the user's mask), effective set,
-- home, and whether they are of places of a shared object.
use Rattle.std.specs.Prelude.{ℕ, ◌&&◌, ◌==◌, not, Bool, true, false, Option, Some, None}
use Rattle.numa_mode.specs.Policy.{PolicyRecord, Specification}
use Rattle.numa_mode.specs.declared.modes.Mode.{Mode}
use Rattle.numa_mode.specs.declared.modes.Mode.TheVariants.{Default, Preferred, Bind, Interleave}
use Rattle.numa_mode.specs.declared.modes.Mode.TheVariants.{Local, PreferredMany}
use Rattle.numa_mode.specs.declared.modes.Mode.TheVariants.{WeightedInterleave}
use Rattle.numa_mode.specs.declared.modes.NodeFlag.{NodeFlag}
use Rattle.numa_mode.specs.declared.modes.NodeFlag.TheVariants.{Plain, Static, Relative}

-- a mode's number (set_mempolicy(2))
abbrev pub mode_number : Mode → ℕ
mode_number Default = 0
mode_number Preferred = 1
mode_number Bind = 2
mode_number Interleave = 3
mode_number Local = 4
mode_number PreferredMany = 5
mode_number WeightedInterleave = 6

abbrev pub same_flag : NodeFlag → NodeFlag → Bool
same_flag Plain Plain = true
same_flag Static Static = true
same_flag Relative Relative = true
same_flag _ _ = false

abbrev pub same_home : Option ℕ → Option ℕ → Bool
same_home None None = true
same_home (Some a) (Some b) = a == b
same_home _ _ = false

abbrev pub same_specification : Specification → Specification → Bool
same_specification a b = (mode_number a.mode == mode_number b.mode)
    && (same_flag a.flag b.flag && (a.mask == b.mask))

abbrev pub same_scope : Bool → Bool → Bool
same_scope true other = other
same_scope false other = not other

abbrev pub same_record : Option PolicyRecord → Option PolicyRecord → Bool
same_record None None = true
same_record (Some a) (Some b) = same_specification a.spec b.spec
    && ((a.effective == b.effective) && (same_home a.home b.home
    && same_scope a.of_object b.of_object))
same_record _ _ = false
