-- How objects are kept.
use Rattle.std.specs.Prelude.{List, []}
use Rattle.std.specs.Option.{option_map_or}
use Rattle.numa_objects.specs.Objects.{ObjectData}
use Rattle.numa_objects.specs.declared.objects.Objects.TheInside.{Inside}

abbrev pub shown_of : Inside → List ObjectData
shown_of a = option_map_or (λ table. table.value.items) a.table []
