use Rattle.std.proofs.Common.{rules, Ok, Err, refl, subst}
use Rattle.numaplan_c.specs.Ranges.{RefusesPlaced}
use Rattle.numaplan_c.specs.Texts.{IsWritten}
use Rattle.numaplan_c.specs.declared.listings.MapsRefusal.TheVariants as refused
use Rattle.numaplan_c.proofs.listings.np_core_maps.Goals as goal

pub returns-in-Ok : goal.returns-in-Ok
returns-in-Ok c = (
  search rules,
  (
    search rules,
    λ kept is. (
      Ok c.in-Ok.found.items,
      c.in-Ok.ensures.listed,
      subst (λ text. IsWritten text c.write.result c.args.text.now c.write.new.room
          c.write.new.length) c.as_slice.ensures.value c.write.ensures,
    ),
  ),
)

pub returns-in-Err-Twice : goal.returns-in-Err-Twice
returns-in-Err-Twice c = (
  search rules,
  (
    search rules,
    λ kept is. (
      Err refused.Twice,
      subst (RefusesPlaced c.args.placements.now) c.in-Err-Twice.field-0-is
          c.in-Err-Twice.ensures.refused,
      (search rules, refl, refl),
    ),
  ),
)

pub returns-in-Err-NoMemory : goal.returns-in-Err-NoMemory
returns-in-Err-NoMemory c =
    (search rules, (search rules, λ kept is. (Err refused.NoMemory, tt, (search rules, refl, refl))))
