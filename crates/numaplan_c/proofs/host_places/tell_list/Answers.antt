use Rattle.std.proofs.Common.{subst}
use Rattle.numaplan_c.specs.Compared.{IsListed}
use Rattle.numaplan_c.proofs.host_places.tell_list.Goals as goal

pub returns : goal.returns
returns g c =
    subst (λ items. IsListed items c.write_items-code.result c.args.room.now
    c.write_items-code.new.room c.write_items-code.new.count) c.as_slice.ensures.value
    c.write_items-code.ensures
