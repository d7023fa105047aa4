use Rattle.std.proofs.Common.{◌≡◌, ◌+◌, refl, sym, ap, ◌∙◌, cond}
use denote.Enum.Declared.{tag_of}
use Rattle.numa_mode.specs.contracts.modes.Mode.{the_type}
use Rattle.numa_mode.specs.declared.modes.Mode.{Mode}
use Rattle.numa_mode.specs.declared.modes.Mode.TheVariants.{Default, Preferred, Bind, Interleave}
use Rattle.numa_mode.specs.declared.modes.Mode.TheVariants.{Local, PreferredMany}
use Rattle.numa_mode.specs.declared.modes.Mode.TheVariants.{WeightedInterleave}
use Rattle.numa_mode.specs.Policy.{number_of, raw_specification}
use Rattle.numa_mode.specs.Flags.{has_static, has_relative}
use Rattle.numa_mode.proofs.Words.{raw_specification-word_of}
use Rattle.numa_mode.proofs.modes.Mode.word.Goals as goal
use Rattle.numa_mode.proofs.modes.Mode.word.Goals.{then-is_static, else-is_static, then-is_relative}
use Rattle.numa_mode.proofs.modes.Mode.word.Goals.{else-is_relative}

tag-number : (mode : Mode) → tag_of the_type mode ≡ number_of mode
tag-number Default = refl
tag-number Preferred = refl
tag-number Bind = refl
tag-number Interleave = refl
tag-number Local = refl
tag-number PreferredMany = refl
tag-number WeightedInterleave = refl

pub returns-clause-word : goal.returns-clause-word
returns-clause-word c =
    let static_bit : c.if-is_static.static_bit ≡ cond (has_static c.args.flags) 0x8000 0 =
    elim c.if-is_static.branch [
      | then-is_static w ↦ w.static_bit-is
          ∙ ap (λ b. cond b 0x8000 0) (sym w.if-is_static.true ∙ c.is_static.ensures)
      | else-is_static w ↦ w.static_bit-is
          ∙ ap (λ b. cond b 0x8000 0) (sym w.if-is_static.false ∙ c.is_static.ensures)
    ] in
    let relative_bit : c.if-is_relative.relative_bit ≡ cond (has_relative c.args.flags) 0x4000 0 =
    elim c.if-is_relative.branch [
      | then-is_relative w ↦ w.relative_bit-is
          ∙ ap (λ b. cond b 0x4000 0) (sym w.if-is_relative.true ∙ c.is_relative.ensures)
      | else-is_relative w ↦ w.relative_bit-is
          ∙ ap (λ b. cond b 0x4000 0) (sym w.if-is_relative.false ∙ c.is_relative.ensures)
    ] in
    ap (λ n. n + c.if-is_static.static_bit + c.if-is_relative.relative_bit) (tag-number c.args.self)
    ∙ ap (λ n. number_of c.args.self + n + c.if-is_relative.relative_bit) static_bit
    ∙ ap (λ n. number_of c.args.self + cond (has_static c.args.flags) 0x8000 0 + n) relative_bit

pub returns-clause-agrees : goal.returns-clause-agrees
returns-clause-agrees c mask =
    ap (λ word. raw_specification word mask) (returns-clause-word c)
    ∙ raw_specification-word_of c.args.self (has_static c.args.flags) (has_relative c.args.flags)
    mask
