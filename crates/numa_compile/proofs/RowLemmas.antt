-- The rows of a space's rules, and what rules of them give.
use Rattle.std.proofs.Common.{◌≡◌, ◌≢◌, ℕ, ◌%◌, ◌<◌, ◌≤◌, not, ◌&&◌, List, length, length-append}
use Rattle.std.proofs.Common.{filter, get_or, All, refl, sym, ◌∙◌, arith}
use Rattle.std.specs.List.{range_with_len}
use Rattle.std.specs.Prelude.{slice_index}
use Rattle.std.proofs.Math.Nat.{mod-lt}
use Rattle.std.proofs.lemmas.List.Elements.{All-get_or}
use Rattle.numa_mask.specs.NodeSet.{has, both, members, weight_of}
use Rattle.numa_mask.proofs.Images.{weight-some}
use Rattle.numa_machine.specs.Machine.{fallback_order}
use Rattle.numa_machine.specs.Sizes.{turn_at}
use Rattle.numa_space.specs.Lists.{Setting, within, near}
use Rattle.numa_space.specs.Standing.{SpaceState, setting_in}
use Rattle.numa_space.proofs.ListSizes.{filter-short, split-short, order-short}
use Rattle.numa_space.proofs.NodeLists.{within-both}
use Rattle.numa_plan.specs.Rows.{Faulting, Fixed, InTurns}
use Rattle.numa_plan.proofs.RowLemmas.{has_rows-faulting, row_of-faulting, has_rows-fixed}
use Rattle.numa_plan.proofs.RowLemmas.{row_of-fixed, has_row-joined, row_at-joined}
use Rattle.numa_compile.specs.Rules.{row_from, rows_from, set_in, width_in, GivesRows, IsFilled}
use Rattle.numa_compile.specs.Rules.{IsReady}
use Rattle.numa_compile.specs.declared.reach.Reach.{Reach}
use Rattle.numa_compile.specs.declared.reach.Reach.TheVariants.{Only, First}
use Rattle.numa_compile.proofs.AllowedLemmas.{allowed-small}
use Rattle.numa_compile.proofs.Widths.{width-bind, width-many}

-- ---- rows

-- each row has as many nodes
pub row-width : (space : SpaceState) (reach : Reach) (from : ℕ) → IsReady space
    → both (set_in reach) space.allowed ≡ set_in reach
    → length (row_from (setting_in space) reach from) ≡ width_in (setting_in space) reach
row-width space (Only set) from ready inside = width-bind (setting_in space) set from
    ready.sound.allowed_memory inside
row-width space (First set) from ready inside = width-many (setting_in space) set from
    ready.sound.allowed_memory inside

width-some : (space : SpaceState) (reach : Reach) → IsReady space → IsFilled reach
    → both (set_in reach) space.allowed ≡ set_in reach → 0 < width_in (setting_in space) reach
width-some space (Only set) ready some inside =
    weight-some set (allowed-small space set ready inside) some
width-some space (First set) ready some inside =
    weight-some space.allowed
    (allowed-small space space.allowed ready
    (within-both space.allowed space.allowed (λ node member. member))) ready.sound.allowed_some

pub row-some : (space : SpaceState) (reach : Reach) (from : ℕ) → IsReady space → IsFilled reach
    → both (set_in reach) space.allowed ≡ set_in reach
    → 0 < length (row_from (setting_in space) reach from)
row-some space reach from ready some inside =
    omega (arith, row-width space reach from ready inside, width-some space reach ready some inside)

pub row-few : (setting : Setting) (reach : Reach) (from : ℕ) → length (row_from setting reach from)
    ≤ 256
row-few setting (Only set) from =
    omega (
      arith,
      filter-short (has set) (fallback_order setting.machine from),
      order-short setting.machine from,
    )
row-few setting (First set) from =
    let order : List ℕ = fallback_order setting.machine from in
    omega (
      arith,
      length-append (within set order)
          (filter (λ node. has setting.allowed node && not (has set node)) order),
      split-short (has set) (has setting.allowed) order,
      order-short setting.machine from,
    )

-- ---- rules

-- a row for each faulting node
pub faulting-gives : (space : SpaceState) (reach : Reach) (width : ℕ) → IsReady space
    → IsFilled reach → both (set_in reach) space.allowed ≡ set_in reach
    → width ≡ width_in (setting_in space) reach
    → GivesRows space.machine.nodes
    (record {
      key = Faulting;
      width = width;
      rows =
          rows_from (setting_in space) reach (range_with_len 0 space.machine.nodes);
    })
    (λ cpu index. row_from (setting_in space) reach cpu)
faulting-gives space reach width ready some inside is cpu index lt =
    let nodes : ℕ = space.machine.nodes in
    let row : ℕ → List ℕ = row_from (setting_in space) reach in
    let even : (k : ℕ) → k < nodes → length (row k) ≡ width =
    λ k l. row-width space reach k ready inside ∙ sym is in
    let filled : 0 < width = omega (arith, is, width-some space reach ready some inside) in
    let few : width ≤ 256 =
    omega (
      arith,
      row-few (setting_in space) reach 0,
      row-width space reach 0 ready inside,
      is,
    ) in (
      has_rows-faulting (row_from (setting_in space) reach) width space.machine.nodes
          (rows_from (setting_in space) reach (range_with_len 0 space.machine.nodes)) refl even
          filled few cpu index lt,
      row_of-faulting (row_from (setting_in space) reach) width space.machine.nodes
          (rows_from (setting_in space) reach (range_with_len 0 space.machine.nodes)) refl even cpu
          index lt,
    )

-- one row
pub fixed-gives : (space : SpaceState) (reach : Reach) (from : ℕ) → IsReady space → IsFilled reach
    → both (set_in reach) space.allowed ≡ set_in reach
    → GivesRows space.machine.nodes
    (record {
      key = Fixed;
      width = length (row_from (setting_in space) reach from);
      rows =
          row_from (setting_in space) reach from;
    }) (λ cpu index. row_from (setting_in space) reach from)
fixed-gives space reach from ready some inside cpu index lt = (
  has_rows-fixed space.machine.nodes (row_from (setting_in space) reach from)
      (row-some space reach from ready some inside) (row-few (setting_in space) reach from) cpu
      index lt,
  row_of-fixed (row_from (setting_in space) reach from) cpu index,
)

-- the rows of a set's members, in turns
pub turns-gives : (space : SpaceState) (set width : ℕ) (cycle : List ℕ) → IsReady space → set ≢ 0
    → 0 < length cycle → All (λ place. place < weight_of set) cycle
    → width ≡ weight_of space.allowed
    → GivesRows space.machine.nodes
    (record {
      key = InTurns cycle;
      width = width;
      rows =
          rows_from (setting_in space) (Only space.allowed) (members set);
    })
    (λ cpu index.
    near (setting_in space) (slice_index (members set) (slice_index cycle (turn_at index % length
    cycle))))
turns-gives space set width cycle ready some turns below is cpu index lt =
    let whole : both space.allowed space.allowed ≡ space.allowed =
    within-both space.allowed space.allowed (λ node member. member) in
    let even : (k d : ℕ) → k < length (members set)
    → length (row_from (setting_in space) (Only space.allowed) (get_or (members set) k d))
    ≡ width = λ k d l. row-width space (Only space.allowed) (get_or (members set) k d) ready
    whole ∙ sym is in
    let filled : 0 < width =
    omega (
      arith,
      is,
      width-some space (Only space.allowed) ready ready.sound.allowed_some
          whole,
    ) in
    let few : width ≤ 256 =
    omega (
      arith,
      row-few (setting_in space) (Only space.allowed) 0,
      row-width space (Only space.allowed) 0 ready whole,
      is,
    ) in
    let turn : get_or cycle (turn_at index % length cycle) 0 < length (members set) =
    All-get_or (λ place. place < weight_of set) cycle (turn_at index % length cycle) 0
    (mod-lt (turn_at index) turns) below in (
      has_row-joined (row_from (setting_in space) (Only space.allowed)) width (members set)
          (InTurns cycle) (rows_from (setting_in space) (Only space.allowed) (members set)) refl
          even filled few (get_or cycle (turn_at index % length cycle) 0) turn,
      row_at-joined (row_from (setting_in space) (Only space.allowed)) width (members set)
          (InTurns cycle) (rows_from (setting_in space) (Only space.allowed) (members set)) refl
          even (get_or cycle (turn_at index % length cycle) 0) 0 turn,
    )
