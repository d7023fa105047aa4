-- What one command more makes of the pages.
use Rattle.std.proofs.Common.{◌≡◌, ℕ, Bool, true, false, not, List, [], ◌∷◌, Option, Some, None}
use Rattle.std.proofs.Common.{refl, sym, ap, ◌∙◌, inl, inr}
use Rattle.std.proofs.lemmas.Bool.{cases_Bool}
use Rattle.std.specs.Option.{option_map, option_map_or}
use Rattle.std.specs.Prelude.{if◌then◌else◌, option_and_then}
use Rattle.numa_machine.specs.Machine.{Hardware}
use Rattle.numa_machine.specs.Sizes.{whole}
use Rattle.numa_mode.specs.Policy.{Specification, PolicyRecord, is_default, takes_home}
use Rattle.numa_mode.specs.Policy.{mode_takes_home, effect_after}
use Rattle.numa_ranges.specs.Maps.{changed_page}
use Rattle.numa_space.specs.History.{Place, last_where, one_later, in_span}
use Rattle.numa_space.specs.Policies.{allowed_nodes, effective_set, record_set, mems_of}
use Rattle.numa_space.specs.Pages.{covers, cover_of, is_unmap, maps_or_unmaps, is_mapped, maps}
use Rattle.numa_space.specs.Pages.{index_by, index_of, last_home, at_home, bound_by, range_record}
use Rattle.numa_space.specs.Pages.{page_in}
use Rattle.numa_space.specs.Steps.{record_now, policy_with_home, policy_after, pages_next}
use Rattle.numa_requests.specs.declared.command.Command.{Command}
use Rattle.numa_requests.specs.declared.command.Command.TheVariants.{Map, Unmap, Mbind, SetTask}
use Rattle.numa_requests.specs.declared.command.Command.TheVariants.{Inherit, SetHome, SetWeight}
use Rattle.numa_requests.specs.declared.command.Command.TheVariants.{SetMems}
use Rattle.numa_space.proofs.Places.{changes_allowed, IsPlace, last_where-place, allowed-at_place}
use Rattle.numa_space.proofs.Places.{effective-now, effective-mems, effective-other}

-- ---- a command that neither covers the page nor changes records

later-mapped : (command : Command) (o : Option Place)
    → option_map_or (λ place. not (is_unmap place.command)) (option_map (one_later command) o) false
    ≡ option_map_or (λ place. not (is_unmap place.command)) o false
later-mapped command None = refl
later-mapped command (Some place) = refl

later-index : (page : ℕ) (command : Command) (o : Option Place)
    → option_map_or (λ place. index_by page place.command) (option_map (one_later command) o) 0
    ≡ option_map_or (λ place. index_by page place.command) o 0
later-index page command None = refl
later-index page command (Some place) = refl

-- the page, as it stays mapped: only its record may change
abbrev with_record : Hardware → List Command → ℕ → Option PolicyRecord
    → Option (ℕ × Option PolicyRecord)
with_record machine history page r = if is_mapped history page then Some (index_of history page, r)
    else None

-- whether a command gives homes
abbrev gives_home : Command → Bool
gives_home (SetHome start bytes node) = true
gives_home _ = false

-- the home that a command more gives
last_home-other : (page : ℕ) (command : Command) (after : List Command) → gives_home command ≡ false
    → last_home page (command ∷ after) ≡ last_home page after
last_home-other page (Map start bytes offset size) after other = refl
last_home-other page (Unmap start bytes) after other = refl
last_home-other page (Mbind start bytes spec) after other = refl
last_home-other page (SetTask task spec) after other = refl
last_home-other page (Inherit heir from) after other = refl
last_home-other page (SetHome start bytes node) after other = absurd (cc)
last_home-other page (SetWeight node weight) after other = refl
last_home-other page (SetMems mask) after other = refl

-- the record of a page after a command that isn't its cover, from the place of its cover
later-record : (machine : Hardware) (page : ℕ) (command : Command) (change : Option PolicyRecord
    → Option PolicyRecord) (o : Option Place) → change None ≡ None
    → ((place : Place) (start bytes : ℕ) (spec : Specification) → o ≡ Some place
    → place.command ≡ Mbind start bytes spec → option_map (at_home page (command ∷ place.after))
    (record_set machine spec (one_later command place))
    ≡ change (option_map (at_home page place.after) (record_set machine spec place)))
    → option_and_then (λ place. bound_by machine page place.command place)
    (option_map (one_later command) o)
    ≡ change (option_and_then (λ place. bound_by machine page place.command place) o)
later-record machine page command change None none h = sym none
later-record machine page command change (Some place) none h = go place.command refl
  where
    go : (c : Command) → place.command ≡ c → bound_by machine page c (one_later command place)
        ≡ change (bound_by machine page c place)
    go (Map start bytes offset size) e = sym none
    go (Unmap start bytes) e = sym none
    go (Mbind start bytes spec) e = h place start bytes spec refl e
    go (SetTask task spec) e = sym none
    go (Inherit heir from) e = sym none
    go (SetHome start bytes node) e = sym none
    go (SetWeight node weight) e = sym none
    go (SetMems mask) e = sym none

-- a page that the command neither maps, unmaps nor binds
kept : (machine : Hardware) (history : List Command) (page : ℕ) (command : Command)
    → covers page command ≡ false → maps page command ≡ false → maps_or_unmaps page command ≡ false
    → page_in machine (command ∷ history) page ≡ with_record machine history page
    (option_and_then (λ place. bound_by machine page place.command place)
    (option_map (one_later command) (cover_of history page)))
kept machine history page command c m u =
    rw (c, m, u) (λ i. if later-mapped command (last_where (maps_or_unmaps page) history) i
    then Some (
      later-index page command (last_where (maps page) history) i,
      option_and_then (λ place. bound_by machine page place.command place)
          (option_map (one_later command) (cover_of history page)),
    ) else None)

-- ---- records of ranges

record-other : (machine : Hardware) (history : List Command) (page : ℕ) (command : Command)
    → changes_allowed command ≡ false → gives_home command ≡ false
    → option_and_then (λ place. bound_by machine page place.command place)
    (option_map (one_later command) (cover_of history page)) ≡ range_record machine history page
record-other machine history page command same none =
    later-record machine page command (λ r. r) (cover_of history page) refl
    (λ place start bytes spec found is i.
    option_map (λ r. if takes_home r then record r
    { home = last_home-other page command place.after none i } else r)
    (if is_default spec then None else Some
    (record {
      spec = spec;
      effective = effective-other machine place.before place.after spec
          command same i;
      home = None;
      of_object = false;
    })))

record-home : (machine : Hardware) (history : List Command) (page start bytes node : ℕ)
    → in_span start bytes page ≡ true
    → option_and_then (λ place. bound_by machine page place.command place)
    (option_map (one_later (SetHome start bytes node)) (cover_of history page)) ≡ policy_with_home
    node (range_record machine history page)
record-home machine history page start bytes node inside =
    later-record machine page (SetHome start bytes node) (policy_with_home node)
    (cover_of history page) refl (λ place s b spec found is. go place spec)
  where
    go : (place : Place) (spec : Specification)
        → option_map (at_home page (SetHome start bytes node ∷ place.after))
        (record_set machine spec (one_later (SetHome start bytes node) place)) ≡ policy_with_home
        node (option_map (at_home page place.after) (record_set machine spec place))
    go place spec =
        elim (cases_Bool (is_default spec)) [
          | inl d ↦ rw d refl
          | inr d ↦ elim (cases_Bool (mode_takes_home spec.mode))
              [ inl t ↦ rw (d, t, inside, t) refl | inr t ↦ rw (d, t, t) refl ]
        ]

record-home_elsewhere : (machine : Hardware) (history : List Command) (page start bytes node : ℕ)
    → in_span start bytes page ≡ false
    → option_and_then (λ place. bound_by machine page place.command place)
    (option_map (one_later (SetHome start bytes node)) (cover_of history page))
    ≡ range_record machine history page
record-home_elsewhere machine history page start bytes node outside =
    later-record machine page (SetHome start bytes node) (λ r. r) (cover_of history page) refl
    (λ place s b spec found is i.
    option_map (λ r. if takes_home r then record r { home = none place.after i } else r)
    (record_set machine spec place))
  where
    none : (after : List Command) → last_home page (SetHome start bytes node ∷ after)
        ≡ last_home page after
    none after = rw outside refl

record-mems : (machine : Hardware) (history : List Command) (page mask : ℕ)
    → option_and_then (λ place. bound_by machine page place.command place)
    (option_map (one_later (SetMems mask)) (cover_of history page)) ≡ policy_after machine.rules
    (allowed_nodes machine history) (mems_of machine mask) (range_record machine history page)
record-mems machine history page mask =
    later-record machine page (SetMems mask)
    (policy_after machine.rules (allowed_nodes machine history) (mems_of machine mask))
    (cover_of history page) refl
    (λ place start bytes spec found is.
    let here : IsPlace (covers page) history place =
    rw found at (last_where-place (covers page) history) in
    go place spec (effective-mems machine place.before place.after spec mask
    ∙ ap
    (λ a. effect_after machine.rules spec (effective_set machine place.before place.after spec)
    a (mems_of machine mask))
    (allowed-at_place machine (covers page) history place (ap changes_allowed is) here)))
  where
    go : (place : Place) (spec : Specification)
        → effective_set machine place.before (SetMems mask ∷ place.after) spec
        ≡ effect_after machine.rules spec (effective_set machine place.before place.after spec)
        (allowed_nodes machine history) (mems_of machine mask)
        → option_map (at_home page (SetMems mask ∷ place.after))
        (record_set machine spec (one_later (SetMems mask) place)) ≡ policy_after machine.rules
        (allowed_nodes machine history) (mems_of machine mask)
        (option_map (at_home page place.after) (record_set machine spec place))
    go place spec moved =
        elim (cases_Bool (is_default spec)) [
          | inl d ↦ rw d refl
          | inr d ↦ elim (cases_Bool (mode_takes_home spec.mode)) [
            | inl t ↦
                rw (d, t)
                (λ i.
                Some (record {
                  spec = spec;
                  effective = moved i;
                  home =
                      last_home page place.after;
                  of_object = false;
                }))
            | inr t ↦
                rw (d, t) (λ i. Some (record {
                  spec = spec;
                  effective = moved i;
                  home = None;
                  of_object = false;
                }))
          ]
        ]

bound-now : (machine : Hardware) (history : List Command) (page : ℕ) (command : Command)
    (spec : Specification)
    → option_map (at_home page [])
    (record_set machine spec (record { before = history; command = command; after = [] }))
    ≡ record_now (allowed_nodes machine history) spec
bound-now machine history page command spec =
    let now = effective-now machine history spec in
    elim (cases_Bool (is_default spec)) [
      | inl d ↦ rw d refl
      | inr d ↦ elim (cases_Bool (mode_takes_home spec.mode)) [
        | inl t ↦ rw (d, t) (λ i. Some (record {
          spec = spec;
          effective = now i;
          home = None;
          of_object = false;
        }))
        | inr t ↦ rw (d, t) (λ i. Some (record {
          spec = spec;
          effective = now i;
          home = None;
          of_object = false;
        }))
      ]
    ]

-- ---- one command more

changed-either : (change : Option PolicyRecord → Option PolicyRecord) (mapped : Bool) (index : ℕ)
    (r : Option PolicyRecord) → (if mapped then Some (index, change r) else None)
    ≡ changed_page change (if mapped then Some (index, r) else None)
changed-either change true index r = refl
changed-either change false index r = refl

-- the index and the record of each page after one command more
pub pages-next : (machine : Hardware) (history : List Command) (command : Command) (page : ℕ)
    → page_in machine (command ∷ history) page ≡ pages_next machine (allowed_nodes machine history)
    (page_in machine history) command page
pages-next machine history (Map start bytes offset size) page =
    elim (cases_Bool (in_span start (whole size bytes) page)) [
      | inl e ↦ rw e refl
      | inr e ↦ kept machine history page (Map start bytes offset size) e e e
          ∙ ap (with_record machine history page)
          (record-other machine history page (Map start bytes offset size) refl refl) ∙ rw e refl
    ]
pages-next machine history (Unmap start bytes) page =
    elim (cases_Bool (in_span start bytes page)) [
      | inl e ↦ rw e refl
      | inr e ↦ kept machine history page (Unmap start bytes) e refl e
          ∙ ap (with_record machine history page)
          (record-other machine history page (Unmap start bytes) refl refl) ∙ rw e refl
    ]
pages-next machine history (Mbind start bytes spec) page =
    elim (cases_Bool (in_span start bytes page)) [
      | inl e ↦
          rw e
          ((λ i. if later-mapped (Mbind start bytes spec)
          (last_where (maps_or_unmaps page) history) i then Some (
            later-index page (Mbind start bytes spec) (last_where (maps page) history) i,
            bound-now machine history page (Mbind start bytes spec) spec i,
          ) else None)
          ∙ changed-either (λ r. record_now (allowed_nodes machine history) spec)
          (is_mapped history page) (index_of history page) (range_record machine history page))
      | inr e ↦ kept machine history page (Mbind start bytes spec) e refl refl
          ∙ ap (with_record machine history page)
          (record-other machine history page (Mbind start bytes spec) refl refl) ∙ rw e refl
    ]
pages-next machine history (SetTask task spec) page =
    kept machine history page (SetTask task spec) refl refl refl
    ∙ ap (with_record machine history page)
    (record-other machine history page (SetTask task spec) refl refl)
pages-next machine history (Inherit heir from) page =
    kept machine history page (Inherit heir from) refl refl refl
    ∙ ap (with_record machine history page)
    (record-other machine history page (Inherit heir from) refl refl)
pages-next machine history (SetHome start bytes node) page =
    elim (cases_Bool (in_span start bytes page)) [
      | inl e ↦ kept machine history page (SetHome start bytes node) refl refl refl
          ∙ ap (with_record machine history page)
          (record-home machine history page start bytes node e)
          ∙ changed-either (policy_with_home node) (is_mapped history page) (index_of history page)
          (range_record machine history page) ∙ rw e refl
      | inr e ↦ kept machine history page (SetHome start bytes node) refl refl refl
          ∙ ap (with_record machine history page)
          (record-home_elsewhere machine history page start bytes node e) ∙ rw e refl
    ]
pages-next machine history (SetWeight node weight) page =
    kept machine history page (SetWeight node weight) refl refl refl
    ∙ ap (with_record machine history page)
    (record-other machine history page (SetWeight node weight) refl refl)
pages-next machine history (SetMems mask) page =
    kept machine history page (SetMems mask) refl refl refl ∙ ap (with_record machine history page)
    (record-mems machine history page mask)
    ∙ changed-either
    (policy_after machine.rules (allowed_nodes machine history) (mems_of machine mask))
    (is_mapped history page) (index_of history page) (range_record machine history page)
