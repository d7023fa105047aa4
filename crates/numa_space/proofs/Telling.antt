-- What an accepted command is told to have changed.
use Rattle.std.proofs.Common.{◌≡◌, ℕ, ◌+◌, ◌==◌, Bool, false, cond, Option, sym, ap, ◌∙◌}
use Rattle.numa_machine.specs.Sizes.{whole}
use Rattle.numa_machine.specs.declared.page_size.PageSize.{PageSize}
use Rattle.numa_mode.specs.Policy.{PolicyRecord, Specification}
use Rattle.numa_space.specs.Changed.{IsChange, pages_at}
use Rattle.numa_space.specs.declared.change.Change.{Change}
use Rattle.numa_space.specs.declared.change.Change.TheVariants.{Nothing, Mapped, Unmapped, Bound}
use Rattle.numa_space.specs.declared.change.Change.TheVariants.{Homed}
use Rattle.numa_space.specs.declared.change.ChangedPages.{ChangedPages}
use Rattle.numa_requests.specs.declared.command.Command.TheVariants.{Map, Unmap, Mbind, SetHome}
use Rattle.numa_space.specs.History.{page_of, page_count}
use Rattle.numa_space.specs.Standing.{SpaceState}
use Rattle.numa_space.specs.Steps.{record_now}

module _ (old : SpaceState) (start bytes first count : ℕ) (pages : ChangedPages)
    (begins : pages.first ≡ first) (ends : pages.end ≡ first + count)
    (is_first : first ≡ page_of start) (is_count : count ≡ page_count bytes) where
  same : pages ≡ pages_at pages.place start bytes
  same = λ i. record {
    first = (begins ∙ is_first) i;
    end = (ends ∙ (λ j. is_first j + is_count j)) i;
    place = pages.place;
  }

  pub told-map : (extent offset : ℕ) (size : PageSize) → bytes ≡ whole size extent
      → IsChange old (Map start extent offset size) (Mapped pages)
  told-map extent offset size is = (
    pages.place,
    ap Mapped (same ∙ ap (pages_at pages.place start) is),
  )

  module _ (some : (bytes == 0) ≡ false) where
    unless : (told : Change) → told ≡ cond (bytes == 0) Nothing told
    unless told = sym (ap (λ (none : Bool). cond none Nothing told) some)

    pub told-unmap : IsChange old (Unmap start bytes) (Unmapped pages)
    told-unmap = (
      pages.place,
      ap Unmapped same ∙ unless (Unmapped (pages_at pages.place start bytes)),
    )

    pub told-home : (node : ℕ) → IsChange old (SetHome start bytes node) (Homed pages node)
    told-home node = (
      pages.place,
      ap (λ (p : ChangedPages). Homed p node) same
          ∙ unless (Homed (pages_at pages.place start bytes) node),
    )

    pub told-bind : (spec : Specification) (policy : Option PolicyRecord)
        → policy ≡ record_now old.allowed spec → (told : Change) → told ≡ Bound pages policy
        → IsChange old (Mbind start bytes spec) told
    told-bind spec policy set told is = (
      pages.place,
      is ∙ (λ i. Bound (same i) (set i))
          ∙ unless (Bound (pages_at pages.place start bytes) (record_now old.allowed spec)),
    )
