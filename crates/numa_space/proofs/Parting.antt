-- Pages of 2 MiB: where a map doesn't begin at one, and where a change would part one.
use Rattle.std.proofs.Common.{sym, ◌≡◌, ◌<◌, ◌+◌, ◌-◌, ◌%◌, ◌^◌, ℕ, Bool, true, false, not, ◌&&◌}
use Rattle.std.proofs.Common.{Option}
use Rattle.std.proofs.Common.{Some, None, is_some, Result, Ok, Err, List, [], ◌∷◌, length, refl, ap}
use Rattle.std.proofs.Common.{◌∙◌, subst, arith}
use Rattle.std.specs.Prelude.{if◌then◌else◌, nat_le, ◌==◌}
use Rattle.std.proofs.lemmas.Bool.{lt-leb}
use Rattle.numa_machine.specs.Sizes.{index_in, whole}
use Rattle.numa_machine.specs.declared.page_size.PageSize.{PageSize}
use Rattle.numa_machine.specs.declared.page_size.PageSize.TheVariants.{Small, Huge}
use Rattle.numa_machine.specs.declared.rules.Rules.{Rules}
use Rattle.numa_machine.specs.declared.rules.Rules.TheVariants.{Document, Linux}
use Rattle.numa_mode.specs.Policy.{Specification, PolicyRecord, is_default, record_when_set}
use Rattle.numa_ranges.specs.Runs.{page_at}
use Rattle.numa_ranges.specs.Maps.{any_page, changed_span, with_span, without_span}
use Rattle.numa_ranges.specs.declared.run.Run.{Run}
use Rattle.numa_space.specs.declared.change.Change.{Change}
use Rattle.numa_requests.specs.declared.command.Command.{Command}
use Rattle.numa_requests.specs.declared.command.Command.TheVariants.{Mbind, SetTask, Inherit}
use Rattle.numa_requests.specs.declared.command.Command.TheVariants.{Map, Unmap, SetHome}
use Rattle.numa_requests.specs.declared.refusal.Refusal.{Refusal}
use Rattle.numa_requests.specs.declared.refusal.Refusal.TheVariants.{Hole, NodesNotAllowed}
use Rattle.numa_requests.specs.declared.refusal.Refusal.TheVariants.{NoMemory, TooManyTasks}
use Rattle.numa_requests.specs.declared.refusal.Refusal.TheVariants.{Overlap, Unaligned}
use Rattle.numa_space.specs.Edits.{PageRanges, IsEdit, hole_cause, overlap_cause, too_many}
use Rattle.numa_space.specs.History.{page_of, page_count}
use Rattle.numa_machine.specs.Rules.{is_linux}
use Rattle.numa_space.specs.Refusals.{PageMap, bad_policy_span, bad_unmap_span, first_of}
use Rattle.numa_space.specs.Refusals.{has_no_node, passes_holes}
use Rattle.numa_space.specs.Refusals.{bind_cause, refusal_in, lacks_policy, takes_no_home}
use Rattle.numa_space.specs.Refusals.{bad_map_span, keeps_home, lacks_pages, parts_pages}
use Rattle.numa_space.specs.Refusals.{unaligned_offset, when}
use Rattle.numa_space.specs.Same.{same_record}
use Rattle.numa_space.specs.Standing.{SpaceState, lacks_place, record_of}
use Rattle.numa_space.specs.Steps.{IsAnswer, IsGiven, IsNext, scene_in, record_now}
use Rattle.numa_space.specs.Steps.{policy_with_home}

-- ---- an edit

-- the space after an edit, which is the old one where it was refused
abbrev pub edited_space : SpaceState → Result (Unit {0}) Refusal → PageRanges → SpaceState
edited_space old (Ok u) pages = record old { ranges = pages.runs; version = old.version + 1 }
edited_space old (Err r) pages = record old { ranges = pages.runs }

-- the same whatever became of the edit
pub edited-result : (old : SpaceState) (command : Command) (after : PageMap) (limit : ℕ)
    (new : PageRanges) (cause : Option Refusal) (result : Result (Unit {0}) Refusal)
    → refusal_in (scene_in old command) command ≡ cause
    → (((page : ℕ) → page_at new.runs page ≡ after page)
    → IsNext old command (record old { ranges = new.runs; version = old.version + 1 }))
    → IsEdit cause after (record { runs = old.ranges; limit = limit }) result new
    → IsAnswer old command result (edited_space old result new)
edited-result old command after limit new None (Ok u) e next edit = rw e (next edit)
edited-result old command after limit new None (Err r) e next edit =
    rw e (edit.0, ap (λ (p : PageRanges). record old { ranges = p.runs }) edit.1)
edited-result old command after limit new (Some cause) (Ok u) e next edit =
    let odd : ◌≡◌ {A = Result (Unit {0}) Refusal} (Ok u) (Err cause) = edit.0 in absurd (cc)
edited-result old command after limit new (Some cause) (Err r) e next edit =
    rw e (edit.0, ap (λ (p : PageRanges). record old { ranges = p.runs }) edit.1)

-- ---- a Map

-- a page that is there comes before an offset at which no page begins
overlap-first : (overlap : Bool) (odd rest : Option Refusal) → (is_some odd && not overlap) ≡ false
    → first_of (when overlap Overlap) (first_of odd rest) ≡ first_of (when overlap Overlap) rest
overlap-first true odd rest e = refl
overlap-first false None rest e = refl
overlap-first false (Some cause) rest e = absurd (cc)

cause-only : (b : Bool) (cause c : Refusal) → when b cause ≡ Some c → c ≡ cause
cause-only true cause c e = cc
cause-only false cause c e = absurd (cc)

odd-only : (size : PageSize) (offset : ℕ) (c : Refusal) → unaligned_offset size offset ≡ Some c
    → c ≡ Unaligned
odd-only Small offset c e = absurd (cc)
odd-only Huge offset c e = cause-only (not (offset % 512 == 0)) Unaligned c e

-- whether no page begins at the offset of a Map whose span is free
abbrev pub lacks_offset : SpaceState → PageSize → ℕ → ℕ → ℕ → Bool
lacks_offset old size offset first count = is_some (unaligned_offset size offset)
    && not (any_page (λ page. is_some (page_at old.ranges page)) first count)

module _ (old : SpaceState) (start extent offset : ℕ) (size : PageSize)
    (room : old.version < old.bounds.max_commands)
    (span : bad_map_span old.machine.rules size start (whole size extent) ≡ None)
    (low : offset < 2 ^ 35) where
  abbrev pub mapped : ℕ → ℕ → PageMap
  mapped first count = with_span first count (index_in size offset) None (page_at old.ranges)

  map-cause : lacks_offset old size offset (page_of start) (page_count (whole size extent)) ≡ false
      → refusal_in (scene_in old (Map start extent offset size)) (Map start extent offset size)
      ≡ first_of
      (overlap_cause (page_at old.ranges) (page_of start) (page_count (whole size extent)))
      (too_many old.bounds.max_ranges
      (mapped (page_of start) (page_count (whole size extent))))
  map-cause even =
      rw (lt-leb old.bounds.max_commands old.version room, span, lt-leb (2 ^ 35) offset low)
      (overlap-first
      (any_page (λ page. is_some (page_at old.ranges page)) (page_of start)
      (page_count (whole size extent))) (unaligned_offset size offset)
      (too_many old.bounds.max_ranges
      (mapped (page_of start) (page_count (whole size extent)))) even)

  map-next : (runs : List (Run (Option PolicyRecord)))
      → ((page : ℕ) → page_at runs page
      ≡ mapped (page_of start) (page_count (whole size extent)) page)
      → IsNext old (Map start extent offset size)
      (record old { ranges = runs; version = old.version + 1 })
  map-next runs pages = record {
    machine = refl;
    bounds = refl;
    version = refl;
    allowed = refl;
    pages = pages;
    tasks = λ task. refl;
    task_count = refl;
    weights = λ n. refl;
  }

  pub map-answer : (first count index limit : ℕ) (new : PageRanges)
      (result : Result (Unit {0}) Refusal)
      → first ≡ page_of start → count ≡ page_count (whole size extent)
      → index ≡ index_in size offset → limit ≡ old.bounds.max_ranges
      → lacks_offset old size offset first count ≡ false
      → IsEdit
      (first_of (overlap_cause (page_at old.ranges) first count)
      (too_many limit (with_span first count index None (page_at old.ranges))))
      (with_span first count index None (page_at old.ranges))
      (record { runs = old.ranges; limit = limit }) result new
      → IsAnswer old (Map start extent offset size) result (edited_space old result new)
  map-answer first count index limit new result is_first is_count is_index is_limit even edit =
      let there : lacks_offset old size offset (page_of start) (page_count (whole size extent))
      ≡ false = (λ i. lacks_offset old size offset (sym is_first i) (sym is_count i)) ∙ even in
      let P : ℕ → ℕ → ℕ → ℕ → Type 0 = λ a b n l.
      IsEdit (first_of (overlap_cause (page_at old.ranges) a b)
      (too_many l (with_span a b n None (page_at old.ranges))))
      (with_span a b n None (page_at old.ranges)) (record { runs = old.ranges; limit = l })
      result new in
      let placed : P (page_of start) (page_count (whole size extent)) (index_in size offset)
      old.bounds.max_ranges =
      subst (λ l. P (page_of start) (page_count (whole size extent)) (index_in size offset) l)
      is_limit
      (subst (λ n. P (page_of start) (page_count (whole size extent)) n limit) is_index
      (subst (λ b. P (page_of start) b index limit) is_count
      (subst (λ a. P a count index limit) is_first edit))) in
      edited-result old (Map start extent offset size)
      (mapped (page_of start) (page_count (whole size extent))) old.bounds.max_ranges new
      (first_of
      (overlap_cause (page_at old.ranges) (page_of start) (page_count (whole size extent)))
      (too_many old.bounds.max_ranges
      (mapped (page_of start) (page_count (whole size extent))))) result (map-cause there)
      (map-next new.runs) placed

  -- an offset at which no page begins
  pub map-odd : (first count : ℕ) → first ≡ page_of start → count ≡ page_count (whole size extent)
      → lacks_offset old size offset first count ≡ true
      → IsAnswer {A = Change} old (Map start extent offset size) (Err Unaligned) old
  map-odd first count is_first is_count lacks =
      go (unaligned_offset size offset) refl
      (any_page (λ page. is_some (page_at old.ranges page)) (page_of start)
      (page_count (whole size extent))) refl
      ((λ i. lacks_offset old size offset (sym is_first i) (sym is_count i)) ∙ lacks)
    where
      go : (o : Option Refusal) → unaligned_offset size offset ≡ o → (overlap : Bool)
          → any_page (λ page. is_some (page_at old.ranges page)) (page_of start)
          (page_count (whole size extent)) ≡ overlap → (is_some o && not overlap) ≡ true
          → IsAnswer {A = Change} old (Map start extent offset size) (Err Unaligned) old
      go None o overlap e h = absurd (cc)
      go (Some c) o true e h = absurd (cc)
      go (Some c) o false e h =
          let cause : refusal_in (scene_in old (Map start extent offset size))
          (Map start extent offset size) ≡ Some Unaligned =
          rw (
            lt-leb old.bounds.max_commands old.version room,
            span,
            lt-leb (2 ^ 35) offset low,
            e,
            o,
          ) (ap Some (odd-only size offset c o)) in
          rw cause (refl, refl)

-- ---- an unmap and a home

module _ (old : SpaceState) (start bytes first count : ℕ)
    (room : old.version < old.bounds.max_commands)
    (some : (bytes == 0) ≡ false) (is_first : first ≡ page_of start)
    (is_count : count ≡ page_count bytes) where
  -- an unmap that parts a page of 2 MiB is refused
  pub unmap-parts : bad_unmap_span old.machine.rules start bytes ≡ None
      → parts_pages (λ policy. false) (page_at old.ranges) first count ≡ true
      → IsAnswer {A = Change} old (Unmap start bytes) (Err Unaligned) old
  unmap-parts span parted = rw cause (refl, refl)
    where
      parts : parts_pages (λ policy. false) (page_at old.ranges) (page_of start)
          (page_count bytes) ≡ true
      parts = (λ i. parts_pages (λ policy. false) (page_at old.ranges) (sym is_first i)
          (sym is_count i)) ∙ parted

      cause : refusal_in (scene_in old (Unmap start bytes)) (Unmap start bytes) ≡ Some Unaligned
      cause = rw (lt-leb old.bounds.max_commands old.version room, span, some, parts) refl

  -- so is a home
  pub home-parts : bad_policy_span old.machine.rules start bytes ≡ None
      → (node : ℕ) → node < old.machine.nodes
      → any_page (λ page. takes_no_home (page_at old.ranges page)) first count ≡ false
      → lacks_policy old.machine.rules (page_at old.ranges) first count ≡ false
      → parts_pages (keeps_home node) (page_at old.ranges) first count ≡ true
      → IsAnswer {A = Change} old (SetHome start bytes node) (Err Unaligned) old
  home-parts span node there homes policies parted = rw cause (refl, refl)
    where
      takes : any_page (λ page. takes_no_home (page_at old.ranges page)) (page_of start)
          (page_count bytes) ≡ false
      takes = (λ i. any_page (λ page. takes_no_home (page_at old.ranges page)) (sym is_first i)
          (sym is_count i)) ∙ homes

      lacks : lacks_policy old.machine.rules (page_at old.ranges) (page_of start)
          (page_count bytes) ≡ false
      lacks = (λ i. lacks_policy old.machine.rules (page_at old.ranges) (sym is_first i)
          (sym is_count i)) ∙ policies

      parts : parts_pages (keeps_home node) (page_at old.ranges) (page_of start)
          (page_count bytes) ≡ true
      parts = (λ i. parts_pages (keeps_home node) (page_at old.ranges) (sym is_first i)
          (sym is_count i)) ∙ parted

      cause : refusal_in (scene_in old (SetHome start bytes node)) (SetHome start bytes node)
          ≡ Some Unaligned
      cause = rw (
        lt-leb old.bounds.max_commands old.version room,
        span,
        lt-leb old.machine.nodes node there,
        some,
        takes,
        lacks,
        parts,
      ) refl

-- ---- an Mbind

-- a page that isn't there comes before one of 2 MiB that is parted
pub lacks-first : (lacks parts : Bool) (rest : Option Refusal) → (parts && not lacks) ≡ false
    → first_of (when lacks Hole) (first_of (when parts Unaligned) rest)
    ≡ first_of (when lacks Hole) rest
lacks-first true parts rest e = refl
lacks-first false false rest e = refl
lacks-first false true rest e = absurd (cc)

pub by_rules : (r : Rules) (hole other : Option Refusal)
    → bind_cause r None hole other ≡ first_of hole other
by_rules Document hole other = refl
by_rules Linux hole other = refl

-- whether an Mbind parts a page of 2 MiB of a span that is there
abbrev pub parts_bound : SpaceState → Specification → ℕ → ℕ → Bool
parts_bound old spec first count =
    parts_pages (same_record (record_now old.allowed spec)) (page_at old.ranges) first count
    && not (lacks_pages (passes_holes old.machine.rules spec) (page_at old.ranges) first count)

module _ (old : SpaceState) (start bytes : ℕ) (spec : Specification)
    (room : old.version < old.bounds.max_commands)
    (span : bad_policy_span old.machine.rules start bytes ≡ None)
    (some : (bytes == 0) ≡ false) (node : has_no_node old.allowed spec ≡ false) where
  -- one that parts a page is refused
  pub bind-parts : (first count : ℕ) → first ≡ page_of start → count ≡ page_count bytes
      → parts_bound old spec first count ≡ true
      → IsAnswer {A = Change} old (Mbind start bytes spec) (Err Unaligned) old
  bind-parts first count is_first is_count parted =
      let lacks : Bool = lacks_pages (passes_holes old.machine.rules spec) (page_at old.ranges)
      (page_of start) (page_count bytes) in
      let parts : Bool = parts_pages (same_record (record_now old.allowed spec))
      (page_at old.ranges) (page_of start) (page_count bytes) in
      let here : (parts && not lacks) ≡ true =
      (λ i. parts_bound old spec (sym is_first i) (sym is_count i)) ∙ parted in
      go lacks parts refl refl here
    where
      go : (lacks parts : Bool)
          → lacks_pages (passes_holes old.machine.rules spec) (page_at old.ranges) (page_of start)
          (page_count bytes) ≡ lacks
          → parts_pages (same_record (record_now old.allowed spec)) (page_at old.ranges)
          (page_of start) (page_count bytes) ≡ parts
          → (parts && not lacks) ≡ true
          → IsAnswer {A = Change} old (Mbind start bytes spec) (Err Unaligned) old
      go true true l p e = absurd (cc)
      go true false l p e = absurd (cc)
      go false false l p e = absurd (cc)
      go false true l p e =
          let cause : refusal_in (scene_in old (Mbind start bytes spec)) (Mbind start bytes spec)
          ≡ Some Unaligned =
          rw (lt-leb old.bounds.max_commands old.version room, span, some, node, l, p)
          (by_rules old.machine.rules None (Some Unaligned)) in
          rw cause (refl, refl)
