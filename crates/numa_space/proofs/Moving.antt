-- What a command over a span leaves of a space's ranges: those outside a window stay, and few are
-- new.
use Rattle.std.proofs.Common.{◌≡◌, ℕ, ◌+◌, ◌-◌, ◌<◌, ◌≤◌, ◌^◌, cond, Bool, true, false, is_some}
use Rattle.std.proofs.Common.{Option, Some, None, length, get_or, refl, sym, ap, ◌∙◌, arith, inl}
use Rattle.std.proofs.Common.{inr}
use Rattle.std.specs.Prelude.{unwrap_or, ◌==◌, nat_le}
use Rattle.std.proofs.lemmas.Bool.{cases_Bool, eqb-false}
use Rattle.numa_machine.specs.Sizes.{index_in, whole}
use Rattle.numa_machine.specs.declared.page_size.PageSize.{PageSize}
use Rattle.numa_mode.specs.Policy.{PolicyRecord, Specification}
use Rattle.numa_machine.specs.Machine.{Hardware}
use Rattle.numa_ranges.specs.Runs.{in_pages, end_of, page_at, AreApart, AreMaximal}
use Rattle.numa_ranges.specs.Maps.{any_page, changed_page}
use Rattle.numa_ranges.specs.Edits.{edited_page}
use Rattle.numa_ranges.specs.Windows.{begins_in, met, starts_in, IsWindow, AgreeOutside, to_now}
use Rattle.numa_ranges.specs.Windows.{Moves}
use Rattle.numa_ranges.specs.declared.run.Run.{Run}
use Rattle.numa_ranges.proofs.Apart.{in_pages-true, in_pages-below, in_pages-above}
use Rattle.numa_ranges.proofs.Beside.{run-page, left-same}
use Rattle.numa_ranges.proofs.Changed.{met-edited, met-none, met-mapped}
use Rattle.numa_ranges.proofs.Fewer.{window-few, window-fewer, window-rest, begun-met, begins-split}
use Rattle.numa_ranges.proofs.Laws.{same-runs, inside}
use Rattle.numa_ranges.proofs.Moves.{AreLeft, moves, moves-next, window-now}
use Rattle.numa_ranges.proofs.Pages.{any_page-true}
use Rattle.numa_requests.specs.declared.command.Command.{Command}
use Rattle.numa_requests.specs.declared.command.Command.TheVariants.{Map, Unmap, Mbind, SetTask}
use Rattle.numa_requests.specs.declared.command.Command.TheVariants.{Inherit, SetHome, SetWeight}
use Rattle.numa_requests.specs.declared.command.Command.TheVariants.{SetMems}
use Rattle.numa_requests.specs.declared.refusal.Refusal.TheVariants.{CommandsSpent, EmptyLength}
use Rattle.numa_requests.specs.declared.refusal.Refusal.TheVariants.{BadOffset, Overlap}
use Rattle.numa_space.specs.History.{page_of, page_count}
use Rattle.numa_space.specs.Refusals.{PageMap, cause_in, first_of, too_many_ranges, when}
use Rattle.numa_space.specs.Refusals.{bad_map_span, bad_span, unaligned_offset}
use Rattle.numa_machine.specs.declared.rules.Rules.{Rules}
use Rattle.numa_machine.specs.declared.rules.Rules.TheVariants.{Document, Linux}
use Rattle.numa_space.specs.Same.{same_record}
use Rattle.numa_space.specs.Spans.{span_first, span_pages, span_end, StaysInSpan, EditsSpan}
use Rattle.numa_space.specs.Spans.{span_edit}
use Rattle.numa_space.specs.Standing.{SpaceState}
use Rattle.numa_space.specs.Steps.{record_now, policy_with_home, pages_next, scene_in, IsStep}
use Rattle.numa_space.proofs.Refused.{first_of-none, when-none}
use Rattle.numa_space.proofs.Same.{same_record-exact, same_record-refl}

-- ---- pages

next-outside : (machine : Hardware) (allowed : ℕ) (pages : PageMap) (command : Command) (page : ℕ)
    → StaysInSpan command → in_pages (span_first command) (span_pages command) page ≡ false
    → pages_next machine allowed pages command page ≡ pages page
next-outside machine allowed pages (Map start bytes offset size) page stays out =
    ap (λ (b : Bool). cond b (Some (index_in size offset + (page - page_of start), None))
    (pages page)) out
next-outside machine allowed pages (Unmap start bytes) page stays out =
    ap (λ (b : Bool). cond b None (pages page)) out
next-outside machine allowed pages (Mbind start bytes spec) page stays out =
    ap (λ (b : Bool). cond b (changed_page (λ old. record_now allowed spec) (pages page))
    (pages page)) out
next-outside machine allowed pages (SetTask task spec) page stays out = refl
next-outside machine allowed pages (Inherit heir from) page stays out = refl
next-outside machine allowed pages (SetHome start bytes node) page stays out =
    ap (λ (b : Bool). cond b (changed_page (policy_with_home node) (pages page)) (pages page)) out
next-outside machine allowed pages (SetWeight node weight) page stays out = refl
next-outside machine allowed pages (SetMems mask) page stays out = absurd stays

edit-none : (o : Option (ℕ × Option PolicyRecord)) → None ≡ edited_page (λ policy. None) o
edit-none None = refl
edit-none (Some p) = refl

edit-some : (change : Option PolicyRecord → Option PolicyRecord)
    (o : Option (ℕ × Option PolicyRecord))
    → changed_page change o ≡ edited_page (λ policy. Some (change policy)) o
edit-some change None = refl
edit-some change (Some p) = refl

next-edited : (machine : Hardware) (allowed : ℕ) (pages : PageMap) (command : Command) (page : ℕ)
    → EditsSpan command → in_pages (span_first command) (span_pages command) page ≡ true
    → pages_next machine allowed pages command page ≡ edited_page (span_edit allowed command)
    (pages page)
next-edited machine allowed pages (Map start bytes offset size) page edits in_span = absurd edits
next-edited machine allowed pages (Unmap start bytes) page edits in_span =
    ap (λ (b : Bool). cond b None (pages page)) in_span ∙ edit-none (pages page)
next-edited machine allowed pages (Mbind start bytes spec) page edits in_span =
    ap (λ (b : Bool). cond b (changed_page (λ old. record_now allowed spec) (pages page))
    (pages page)) in_span ∙ edit-some (λ old. record_now allowed spec) (pages page)
next-edited machine allowed pages (SetTask task spec) page edits in_span = absurd edits
next-edited machine allowed pages (Inherit heir from) page edits in_span = absurd edits
next-edited machine allowed pages (SetHome start bytes node) page edits in_span =
    ap (λ (b : Bool). cond b (changed_page (policy_with_home node) (pages page)) (pages page))
    in_span ∙ edit-some (policy_with_home node) (pages page)
next-edited machine allowed pages (SetWeight node weight) page edits in_span = absurd edits
next-edited machine allowed pages (SetMems mask) page edits in_span = absurd edits

edits-stays : (command : Command) → EditsSpan command → StaysInSpan command
edits-stays (Map start bytes offset size) edits = absurd edits
edits-stays (Unmap start bytes) edits = tt
edits-stays (Mbind start bytes spec) edits = tt
edits-stays (SetTask task spec) edits = absurd edits
edits-stays (Inherit heir from) edits = absurd edits
edits-stays (SetHome start bytes node) edits = tt
edits-stays (SetWeight node weight) edits = absurd edits
edits-stays (SetMems mask) edits = absurd edits

-- ---- any command but SetMems

module _ (old new : SpaceState) (command : Command) (step : IsStep old command new)
    (stays : StaysInSpan command) where
  -- each page outside the span is as it was
  pub page-kept : (page : ℕ) → in_pages (span_first command) (span_pages command) page ≡ false
      → page_at old.ranges page ≡ page_at new.ranges page
  page-kept page out =
      sym (step.next.pages page ∙ next-outside old.machine old.allowed (page_at old.ranges) command
      page stays out)

  pub span-agrees : AgreeOutside (span_first command) (span_end command) old.ranges new.ranges
  span-agrees = record {
    below = λ page low.
        page-kept page (in_pages-below (span_first command) (span_pages command) page low);
    behind = λ page high.
        page-kept page (in_pages-above (span_first command) (span_pages command) page high);
  }

  module _ (apart : AreApart 0 new.ranges) (maximal : AreMaximal new.ranges) where
    pub span-left : AreLeft same_record same_record-exact same_record-refl (span_first command)
        (span_end command) old.ranges new.ranges
    span-left = record {
      rises = omega arith;
      apart = step.rising;
      apart_now = apart;
      maximal =
          step.maximal;
      maximal_now = maximal;
      agree = span-agrees;
    }

    -- the ranges differ in a window alone
    pub span-moves : (from to : ℕ) → IsWindow old.ranges (span_first command) (span_end command)
        from to → Moves old.ranges new.ranges from to
    span-moves from to window = moves same_record same_record-exact same_record-refl
        (span_first command) (span_end command) old.ranges new.ranges span-left from to window

    -- and the window of the new ranges is that from the same place on
    pub span-window : (from to : ℕ) → IsWindow old.ranges (span_first command) (span_end command)
        from to → IsWindow new.ranges (span_first command) (span_end command) from
        (to_now old.ranges new.ranges to)
    span-window from to window = window-now same_record same_record-exact same_record-refl
        (span_first command) (span_end command) old.ranges new.ranges span-left from to window

    -- a command without pages changes no range
    pub none-changed : span_pages command ≡ 0 → new.ranges ≡ old.ranges
    none-changed none =
        same-runs same_record same_record-exact same_record-refl 0 new.ranges old.ranges apart
        step.rising maximal step.maximal (λ page. sym (page-kept page (out page)))
      where
        out : (page : ℕ) → in_pages (span_first command) (span_pages command) page ≡ false
        out page =
            elim (cases_Bool (in_pages (span_first command) (span_pages command) page)) [
              | inr not_in ↦ not_in
              | inl in_it ↦
                  absurd (let both = inside (span_first command) (span_pages command) page in_it in
                  omega arith)
            ]

    -- a range that begins outside the span has the index and the policy that the old ranges give
    -- its first page
    pub kept-value : (k : ℕ) (d : Run (Option PolicyRecord)) → k < length new.ranges
        → begins_in (span_first command) (span_end command) (get_or new.ranges k d) ≡ false
        → page_at old.ranges (get_or new.ranges k d).first
        ≡ Some ((get_or new.ranges k d).index, (get_or new.ranges k d).value)
    kept-value k d l out = page-kept (get_or new.ranges k d).first out
        ∙ run-page 0 new.ranges k d apart l

-- ---- Unmap, Mbind and SetHome

module _ (old new : SpaceState) (command : Command) (step : IsStep old command new)
    (edits : EditsSpan command) (apart : AreApart 0 new.ranges) (maximal : AreMaximal new.ranges)
  where
    -- at most as many ranges meet the span as before
    pub met-few : 0 < span_pages command → met (span_first command) (span_end command) new.ranges
        ≤ met (span_first command) (span_end command) old.ranges
    met-few some =
        met-edited same_record same_record-exact same_record-refl (span_first command)
        (span_end command) old.ranges new.ranges step.rising apart step.maximal maximal
        (span_edit old.allowed command) (omega arith)
        (λ page low high. step.next.pages page ∙ next-edited old.machine old.allowed
        (page_at old.ranges) command page edits
        (in_pages-true (span_first command) (span_pages command) page low high))

    -- the new window holds at most two ranges more than met the span
    pub changed-few : 0 < span_pages command → (from to : ℕ)
        → IsWindow old.ranges (span_first command) (span_end command) from to
        → to_now old.ranges new.ranges to - from ≤ met (span_first command) (span_end command)
        old.ranges + 2
    changed-few some from to window =
        let now = span-window old new command step (edits-stays command edits) apart maximal from to
        window in
        omega (
          arith,
          met-few some,
          window-few new.ranges (span_first command) (span_end command) from
              (to_now old.ranges new.ranges to) apart now,
        )

    -- and at most as many begin in the span as met it
    pub begun-few : 0 < span_pages command → starts_in (span_first command) (span_end command)
        new.ranges ≤ met (span_first command) (span_end command) old.ranges
    begun-few some =
        omega (
          arith,
          met-few some,
          begun-met 0 (span_first command) (span_end command) new.ranges
              apart,
        )

    -- a range that begins in the span has what the command made of the policy there
    pub edited-value : (k : ℕ) (d : Run (Option PolicyRecord)) → k < length new.ranges
        → begins_in (span_first command) (span_end command) (get_or new.ranges k d) ≡ true
        → Some ((get_or new.ranges k d).index, (get_or new.ranges k d).value)
        ≡ edited_page (span_edit old.allowed command)
        (page_at old.ranges (get_or new.ranges k d).first)
    edited-value k d l in_span =
        sym (run-page 0 new.ranges k d apart l) ∙ step.next.pages (get_or new.ranges k d).first
        ∙ next-edited old.machine old.allowed (page_at old.ranges) command
        (get_or new.ranges k d).first edits in_span

module _ (old new : SpaceState) (start bytes : ℕ) (step : IsStep old (Unmap start bytes) new)
    (apart : AreApart 0 new.ranges) (maximal : AreMaximal new.ranges) where
  -- no range begins in the span
  pub unmap-none : (k : ℕ) (d : Run (Option PolicyRecord)) → k < length new.ranges
      → begins_in (page_of start) (page_of start + page_count bytes) (get_or new.ranges k d) ≡ false
  unmap-none k d l =
      let run : Run (Option PolicyRecord) = get_or new.ranges k d in
      elim (cases_Bool (begins_in (page_of start) (page_of start + page_count bytes) run)) [
        | inr not_in ↦ not_in
        | inl in_it ↦
            let odd : true ≡ false =
            ap is_some (edited-value old new (Unmap start bytes) step tt apart maximal k d l
            in_it ∙ sym (edit-none (page_at old.ranges run.first))) in
            absurd (cc)
      ]

module _ (old new : SpaceState) (start bytes : ℕ) (spec : Specification)
    (step : IsStep old (Mbind start bytes spec) new) (apart : AreApart 0 new.ranges)
    (maximal : AreMaximal new.ranges) where
  -- a range that begins in the span has the record that is set now
  pub mbind-value : (k : ℕ) (d : Run (Option PolicyRecord)) → k < length new.ranges
      → begins_in (page_of start) (page_of start + page_count bytes) (get_or new.ranges k d) ≡ true
      → (get_or new.ranges k d).value ≡ record_now old.allowed spec
  mbind-value k d l in_span =
      let run : Run (Option PolicyRecord) = get_or new.ranges k d in
      go run.index run.value (page_at old.ranges run.first)
      (edited-value old new (Mbind start bytes spec) step tt apart maximal k d l in_span)
    where
      go : (index : ℕ) (value : Option PolicyRecord) (o : Option (ℕ × Option PolicyRecord))
          → Some (index, value) ≡ edited_page (λ policy. Some (record_now old.allowed spec)) o
          → value ≡ record_now old.allowed spec
      go index value None is = let odd : true ≡ false = ap is_some is in absurd (cc)
      go index value (Some p) is =
          ap (λ (q : Option (ℕ × Option PolicyRecord)). (unwrap_or q (index, value)).1) is

module _ (old new : SpaceState) (start bytes node : ℕ)
    (step : IsStep old (SetHome start bytes node) new) (apart : AreApart 0 new.ranges)
    (maximal : AreMaximal new.ranges) where
  -- a range that begins in the span has the policy that its first page had, with the home
  pub home-value : (k : ℕ) (d : Run (Option PolicyRecord)) → k < length new.ranges
      → begins_in (page_of start) (page_of start + page_count bytes) (get_or new.ranges k d) ≡ true
      → (policy : Option PolicyRecord)
      × (page_at old.ranges (get_or new.ranges k d).first
      ≡ Some ((get_or new.ranges k d).index, policy))
      × ((get_or new.ranges k d).value ≡ policy_with_home node policy)
  home-value k d l in_span =
      let run : Run (Option PolicyRecord) = get_or new.ranges k d in
      go run.index run.value (page_at old.ranges run.first)
      (edited-value old new (SetHome start bytes node) step tt apart maximal k d l in_span)
    where
      go : (index : ℕ) (value : Option PolicyRecord) (o : Option (ℕ × Option PolicyRecord))
          → Some (index, value) ≡ edited_page (λ policy. Some (policy_with_home node policy)) o
          → (policy : Option PolicyRecord) × (o ≡ Some (index, policy))
          × (value ≡ policy_with_home node policy)
      go index value None is = let odd : true ≡ false = ap is_some is in absurd (cc)
      go index value (Some p) is =
          let both : (index, value) ≡ (p.0, policy_with_home node p.1) =
          ap (λ (q : Option (ℕ × Option PolicyRecord)). unwrap_or q (index, value)) is in
          let place : index ≡ p.0 = ap (λ (q : ℕ × Option PolicyRecord). q.0) both in (
            p.1,
            ap (λ (n : ℕ). Some (n, p.1)) (sym place),
            ap (λ (q : ℕ × Option PolicyRecord). q.1)
                both,
          )

-- ---- Map

-- a map that isn't refused has a byte
map-length : (rules : Rules) (size : PageSize) (start bytes : ℕ)
    → bad_map_span rules size start bytes ≡ None → (bytes == 0) ≡ false
unfolding bad_map_span
map-length Document size start bytes none = when-none (bytes == 0) EmptyLength
    (first_of-none (bad_span size start bytes) (when (bytes == 0) EmptyLength) none).1
map-length Linux size start bytes none = when-none (bytes == 0) EmptyLength
    (first_of-none (when (bytes == 0) EmptyLength) _ none).0

module _ (old new : SpaceState) (start extent offset : ℕ) (size : PageSize)
    (step : IsStep old (Map start extent offset size) new) where
  -- the bytes up to the end of the last page
  abbrev pub bytes : ℕ
  bytes = whole size extent

  -- the command has a page, and none of its span was mapped
  map-causes : ((bytes == 0) ≡ false)
      × (any_page (λ page. is_some (page_at old.ranges page)) (page_of start) (page_count bytes)
      ≡ false)
  map-causes =
      let scene = scene_in old (Map start extent offset size) in
      let room = first_of-none (when (nat_le old.bounds.max_commands old.version) CommandsSpent)
      (cause_in scene (Map start extent offset size)) step.accepted in
      let overlap =
      when (any_page (λ page. is_some (page_at old.ranges page)) (page_of start)
      (page_count bytes)) Overlap in
      let others = first_of (unaligned_offset size offset) (too_many_ranges scene) in
      let offsets = first_of (when (nat_le (2 ^ 35) offset) BadOffset) (first_of overlap others) in
      let span = first_of-none (bad_map_span old.machine.rules size start bytes) offsets room.1 in
      let index = first_of-none (when (nat_le (2 ^ 35) offset) BadOffset)
      (first_of overlap others) span.1 in
      let free = first_of-none overlap others index.1 in (
        map-length old.machine.rules size start bytes span.0,
        when-none (any_page (λ page. is_some (page_at old.ranges page)) (page_of start)
            (page_count bytes)) Overlap free.0,
      )

  pub map-free : (page : ℕ) → page_of start ≤ page → page < page_of start + page_count bytes
      → page_at old.ranges page ≡ None
  map-free page low high = go (page_at old.ranges page) refl
    where
      go : (o : Option (ℕ × Option PolicyRecord)) → page_at old.ranges page ≡ o → o ≡ None
      go None is = refl
      go (Some p) is =
          let mapped = any_page-true (λ page. is_some (page_at old.ranges page)) (page_of start)
          (page_count bytes) page low high (ap is_some is) in
          let odd : true ≡ false = sym mapped ∙ map-causes.1 in
          absurd (cc)

  pub map-some : 0 < page_count bytes
  map-some = omega (arith, eqb-false bytes 0 map-causes.0)

  pub map-page : (page : ℕ) → page_of start ≤ page → page < page_of start + page_count bytes
      → page_at new.ranges page ≡ Some (index_in size offset + (page - page_of start), None)
  map-page page low high =
      step.next.pages page
      ∙ ap (λ (b : Bool). cond b (Some (index_in size offset + (page - page_of start), None))
      (page_at old.ranges page))
      (in_pages-true (page_of start) (page_count bytes) page low high)

  -- no range met the span
  pub map-none : met (page_of start) (page_of start + page_count bytes) old.ranges ≡ 0
  map-none = met-none same_record same_record-exact same_record-refl (page_of start)
      (page_of start + page_count bytes) old.ranges step.rising step.maximal
      (omega (arith, map-some)) map-free

  module _ (apart : AreApart 0 new.ranges) (maximal : AreMaximal new.ranges) where
    -- a range that begins in the span has no policy of its own
    pub map-value : (k : ℕ) (d : Run (Option PolicyRecord)) → k < length new.ranges
        → begins_in (page_of start) (page_of start + page_count bytes) (get_or new.ranges k d)
        ≡ true → (get_or new.ranges k d).value ≡ None
    map-value k d l in_span =
        let run : Run (Option PolicyRecord) = get_or new.ranges k d in
        let bounds = begins-split (page_of start) (page_of start + page_count bytes) run in_span in
        let is : Some (run.index, run.value) ≡ Some (
          index_in size offset + (run.first - page_of
              start),
          None,
        ) =
        sym (run-page 0 new.ranges k d apart l) ∙ map-page run.first bounds.0 bounds.1 in
        ap (λ (q : Option (ℕ × Option PolicyRecord)). (unwrap_or q (run.index, run.value)).1) is

    module _ (from to : ℕ)
        (window : IsWindow old.ranges (page_of start) (page_of start + page_count bytes) from to)
        (d : Run (Option PolicyRecord)) where
      now : IsWindow new.ranges (page_of start) (page_of start + page_count bytes) from
          (to_now old.ranges new.ranges to)
      now = span-window old new (Map start extent offset size) step tt apart maximal from to window

      one : met (page_of start) (page_of start + page_count bytes) new.ranges ≤ 1
      one = met-mapped same_record same_record-exact same_record-refl (page_of start)
          (page_of start + page_count bytes) new.ranges apart maximal (index_in size offset) None
          (omega (arith, map-some)) map-page

      -- where the first range of the new window ends at the span's first page, it stayed, and the
      -- window without it holds at most two
      pub map-beside : from < to_now old.ranges new.ranges to → end_of (get_or new.ranges from d)
          ≤ page_of start → (from < to) × Moves old.ranges new.ranges (from + 1) to
          × (to_now old.ranges new.ranges to - (from + 1) ≤ 2)
      map-beside some short =
          let left = span-left old new (Map start extent offset size) step tt apart maximal in
          let stayed = left-same same_record same_record-exact same_record-refl (page_of start)
          (page_of start + page_count bytes) old.ranges new.ranges left from to window d
          (map-free (page_of start) (omega arith) (omega (arith, map-some))) some short in (
            stayed.0,
            moves-next old.ranges new.ranges from to d
                (span-moves old new (Map start extent offset size) step tt apart maximal from to
                window)
                stayed.0 window.within some stayed.1,
            omega (
              arith,
              one,
              window-rest new.ranges (page_of start)
                  (page_of start + page_count bytes) from (to_now old.ranges new.ranges to) apart
                  now,
            ),
          )

      -- elsewhere the window holds at most two
      pub map-few : page_of start < end_of (get_or new.ranges from d)
          → to_now old.ranges new.ranges to - from ≤ 2
      map-few long =
          omega (
            arith,
            one,
            window-fewer new.ranges (page_of start)
                (page_of start + page_count bytes) from (to_now old.ranges new.ranges to) apart now
                d
                long,
          )
