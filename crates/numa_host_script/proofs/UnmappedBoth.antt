-- What an `unmap` of pages of both sizes of a process makes of a host that answers it.
use Rattle.std.proofs.Common.{◌≡◌, ◌≢◌, ℕ, Bool, true, false, Option, Some, None, Result, Ok, Err}
use Rattle.std.proofs.Common.{List, ◌∷◌, refl, sym, ap, subst, ◌∙◌, inl, inr, length, arith}
use Rattle.std.proofs.lemmas.Bool.{both_ways, cases_Bool}
use Rattle.std.specs.Option.{option_map}
use Rattle.std.specs.Prelude.{IfSome, IsSome, MatchOption, if◌then◌else◌, is_some}
use Rattle.numa_ranges.proofs.Pages.{any_page-false}
use Rattle.numa_requests.specs.declared.command.Command.TheVariants as own
use Rattle.numa_requests.specs.declared.host_command.HostCommand.{HostCommand}
use Rattle.numa_requests.specs.declared.host_command.HostCommand.TheVariants.{In}
use Rattle.numa_requests.specs.declared.host_refusal.HostRefusal.{HostRefusal}
use Rattle.numa_requests.specs.declared.host_refusal.HostRefusal.TheVariants.{NoMemory}
use Rattle.numa_requests.specs.declared.page_refusal.PlacedRefusal.{PlacedRefusal}
use Rattle.numa_requests.specs.declared.page_refusal.PlacedRefusal.TheVariants as cause
use Rattle.numa_space.specs.History.{page_count, page_of}
use Rattle.numa_host.specs.Causes.{first_of, host_refusal_of}
use Rattle.numa_host.specs.Standing.{HostState, HostStandsFor, IsHostApplied}
use Rattle.numa_huge.specs.Huge.{HugeLying, has_huge, lack_for, too_many, unmapping}
use Rattle.numa_huge.specs.Huge.{with_span}
use Rattle.numa_huge.specs.Moves.{HugeMemory}
use Rattle.numa_huge.specs.Tallies.{IsLackFor}
use Rattle.numa_huge.specs.declared.spot.HugeSpot.{HugeSpot}
use Rattle.numa_host_huge.specs.Kept.{HugeKept, lying_of, spots_in}
use Rattle.numa_host_huge.specs.Sharing.{given_back as huge_back, given_if}
use Rattle.numa_host_huge.specs.Standing.{Changes as HugeChanges, HugeLies, IsSame}
use Rattle.numa_host_pages.specs.Homes.{HostLying, given_back, pages_in, pages_lent, with_huge}
use Rattle.numa_host_pages.specs.Standing.{AreOf, HostLies}
use Rattle.numa_host_pages.specs.declared.pages.HostPages.{HostPages}
use Rattle.numa_page_state.specs.Huge.{has_huge_in, huge_count, huge_first, unmap_lack}
use Rattle.numa_page_state.specs.Huge.{unmapped_in}
use Rattle.numa_page_state.specs.Lying.{Lying, with_spots}
use Rattle.numa_page_state.specs.Outcomes.{Enough, Lack, Starved, forgotten, has_stated}
use Rattle.numa_page_state.specs.Outcomes.{is_starved, lack_of, lack_told}
use Rattle.numa_placed.specs.Laid.{Laid}
use Rattle.numa_placed.specs.Spots.{spot_at}
use Rattle.numa_placed.specs.declared.spot.Spot.{Spot}
use Rattle.numa_script.specs.declared.reply.Reply.{Reply}
use Rattle.numa_script.specs.declared.reply.Reply.TheVariants as reply
use Rattle.numa_run.specs.Obeying.{lying_lack, lying_without}
use Rattle.numa_run.specs.Replies.{reply_in}
use Rattle.numa_run.proofs.Binds.{starved-why}
use Rattle.numa_run.proofs.Fitting.{few-lacks, lack_by, lack-by}
use Rattle.numa_host_script.specs.Acting.{IsLackOf, is_lack}
use Rattle.numa_host_script.specs.Hosts.{Hosting, HostLack, Outcome, command_unless, with_reply}
use Rattle.numa_host_script.specs.Paging.{huge_unmap, lying_with, memory_at, pages_at, pages_reply}
use Rattle.numa_host_script.specs.Paging.{small_unmap, small_without, unless_pages, unmap_outcome}
use Rattle.numa_host_script.specs.Paging.{unmap_where, unmapped_with}
use Rattle.numa_host_script.specs.Standing.{ForgetsIn, Replies, RunsAs, UnmapsBoth, hosting_with}
use Rattle.numa_host_script.specs.declared.running.RunningHost.{RunningHost}
use Rattle.numa_host_script.proofs.Lent.{given-are}
use Rattle.numa_host_script.proofs.Obeyed.{cause-here}
use Rattle.numa_host_script.proofs.Sharers.{has-in, has-there, huge-lies, kept-lying}
use Rattle.numa_host_script.proofs.Unmapped.{flag, told-or}

-- ---- what can be lacked

-- of no bytes no page is unmapped
pub has-bytes : (spots : ℕ → Option HugeSpot) (start bytes : ℕ)
    → has_huge spots (huge_first (page_of start)) (huge_count (page_of start) (page_count bytes))
    ≡ true → bytes ≢ 0
has-bytes spots start bytes has none =
    let no_pages : page_count bytes ≡ 0 = omega (arith, none) in
    let clear : has_huge spots (huge_first (page_of start))
    (huge_count (page_of start) (page_count bytes)) ≡ false =
    ap (λ (n : ℕ). has_huge spots (huge_first (page_of start)) (huge_count (page_of start) n))
    no_pages
    ∙ any_page-false (λ page. is_some (spots page)) (huge_first (page_of start)) 0
    (λ page low high. absurd (omega (arith, low, high))) in
    both_ways (has_huge spots (huge_first (page_of start))
    (huge_count (page_of start) (page_count bytes))) clear has

lacks-so : (starved : Bool) (after : ℕ → Option HugeSpot) (why : PlacedRefusal)
    → lack_for starved after ≡ Some why → is_lack why ≡ true
lacks-so starved after why is = by starved (too_many after) is
  where
    by : (lacks many : Bool) → (if lacks then Some cause.NoMemory
        else if many then Some cause.TooManyRuns else None) ≡ Some why → is_lack why ≡ true
    by true many same = let it : cause.NoMemory ≡ why = cc in ap is_lack (sym it)
    by false true same = let it : cause.TooManyRuns ≡ why = cc in ap is_lack (sym it)
    by false false same = absurd (cc)

pub huge-lack : (spots : ℕ → Option HugeSpot) (start bytes : ℕ) (why : PlacedRefusal)
    → has_huge spots (huge_first (page_of start)) (huge_count (page_of start) (page_count bytes))
    ≡ true
    → IsLackFor (with_span (huge_first (page_of start))
    (huge_count (page_of start) (page_count bytes)) None spots) why
    → IsLackOf bytes why
huge-lack spots start bytes why has lacks = record {
  some = has-bytes spots start bytes has;
  lack = lacks-so lacks.0 (with_span (huge_first (page_of start))
      (huge_count (page_of start) (page_count bytes)) None spots) why lacks.1;
}

-- with memory pages of 4 KiB lack nothing
lying-enough : (start bytes : ℕ) (lying : Lying) → lying_lack Enough start bytes lying ≡ None
lying-enough start bytes lying = by (has_stated lying.spots start bytes)
  where
    by : (b : Bool) → (if b then lack_of Enough (forgotten start bytes lying.spots) else None)
        ≡ None
    by true = refl
    by false = refl

module _ (old : RunningHost) (process start bytes : ℕ) where
  abbrev said : HostCommand
  said = In process (own.Unmap start bytes)

  abbrev pub unmaps_all : HostLack → Hosting → Outcome
  unmaps_all lack at = unmap_outcome lack.lacked at process start bytes

  -- the process has such pages
  both-where : (lacked : Lack) (at : Hosting) (memory : HugeMemory)
      → memory_at at process ≡ Some memory
      → has_huge_in (Some memory) (page_of start) (page_count bytes) ≡ true
      → unmap_outcome lacked at process start bytes
      ≡ huge_unmap lacked at process start bytes memory
  both-where lacked at memory is has =
      ap (λ (m : Option HugeMemory). unmap_where m lacked at process start bytes) is
      ∙ ap (λ (b : Bool). if b then huge_unmap lacked at process start bytes memory
      else small_unmap lacked at process start bytes) has

  -- or none in the span
  none-where : (memory : Option HugeMemory) (lacked : Lack) (at : Hosting)
      → has_huge_in memory (page_of start) (page_count bytes) ≡ false
      → unmap_where memory lacked at process start bytes
      ≡ small_unmap lacked at process start bytes
  none-where None lacked at none = refl
  none-where (Some memory) lacked at none =
      ap (λ (b : Bool). if b then huge_unmap lacked at process start bytes memory
      else small_unmap lacked at process start bytes) none

  pub small-unmaps : (new : RunningHost) (answer : Reply)
      → ((at : Hosting) → RunsAs old at
      → has_huge_in (memory_at at process) (page_of start) (page_count bytes) ≡ false)
      → Replies old answer new (λ lack at. small_unmap lack.lacked at process start bytes)
      → Replies old answer new unmaps_all
  small-unmaps new answer none serves = λ at stands.
      let s = serves at stands in
      let is : unmaps_all s.0 at ≡ small_unmap s.0.lacked at process start bytes =
      none-where (memory_at at process) s.0.lacked at (none at stands) in (
        s.0,
        s.1 ∙ sym (ap (λ (o : Outcome). reply_in o.answer) is),
        subst (λ (o : Outcome). RunsAs new (hosting_with at o)) (sym is) s.2,
      )

  module _ (has : has_huge (spots_in process old.pages.huge.sharers) (huge_first (page_of start))
      (huge_count (page_of start) (page_count bytes)) ≡ true) (mid : HugeKept)
      (same : IsSame old.pages.huge mid) where
    abbrev pub prepared : RunningHost
    prepared = record { host = old.host; pages = record old.pages { huge = mid } }

    pub prepared-runs : (at : Hosting) → RunsAs old at → RunsAs prepared at
    prepared-runs at stands = record {
      machine = stands.machine;
      bounds = stands.bounds;
      stands = stands.stands;
      lies = huge-lies old.pages mid at.lying at.lying.huge stands.lies
          (same at.lying.huge stands.lies.huge);
      are = stands.are;
    }

    abbrev IsBoth : Hosting → Type 0
    IsBoth at = (memory : HugeMemory) × (memory_at at process ≡ Some memory)
        × ((lacked : Lack) → unmap_outcome lacked at process start bytes
        ≡ huge_unmap lacked at process start bytes memory)

    both-here : (at : Hosting) → RunsAs old at → IsBoth at
    both-here at stands =
        let there = has-there old.pages.huge at.lying.huge process stands.lies.huge
        (huge_first (page_of start)) (huge_count (page_of start) (page_count bytes)) has in (
          there.0,
          there.1,
          λ lacked. both-where lacked at there.0 there.1
              (has-in old.pages.huge at.lying.huge process stands.lies.huge (page_of start)
              (page_count bytes) there.0 there.1 has),
        )

    -- the reply is known, and nothing has changed
    still-prepared : (answer : Reply) (lacked : Lack) (at : Hosting) → RunsAs old at
        → unmaps_all (flag lacked) at ≡ with_reply answer at
        → (lack : HostLack) × (Some answer ≡ reply_in (unmaps_all lack at).answer)
        × RunsAs prepared (hosting_with at (unmaps_all lack at))
    still-prepared answer lacked at stands is = (
      flag lacked,
      sym (ap (λ (o : Outcome). reply_in o.answer) is),
      subst (λ (o : Outcome). RunsAs prepared (hosting_with at o)) (sym is)
          (prepared-runs at stands),
    )

    -- runs of pages of 2 MiB, or memory for them, lack
    pub both-lacks : (why : PlacedRefusal)
        → IsLackFor (with_span (huge_first (page_of start))
        (huge_count (page_of start) (page_count bytes)) None
        (spots_in process old.pages.huge.sharers)) why
        → Replies old (pages_reply why) prepared unmaps_all
    both-lacks why lacks = λ at stands.
        let here = both-here at stands in
        let lack : Lack = lack_by lacks.0 in
        let first : unmap_lack lack start bytes here.0 ≡ Some why =
        (λ i. lack_for (lack-by lacks.0 i) (with_span (huge_first (page_of start))
        (huge_count (page_of start) (page_count bytes)) None
        (sym (kept-lying old.pages.huge at.lying.huge process stands.lies.huge here.0 here.1)
        i).spots)) ∙ lacks.1 in
        still-prepared (pages_reply why) lack at stands (here.2 lack
        ∙ ap (λ (o : Option PlacedRefusal). unless_pages o at
        (unless_pages (lying_lack lack start bytes (pages_at at process)) at
        (unmapped_with here.0 lack at process start bytes))) first)

    module _ (huge : HugeLying)
        (is : huge ≡ unmapping (huge_first (page_of start))
        (huge_count (page_of start) (page_count bytes)) (lying_of process old.pages.huge))
        (few : too_many huge.spots ≡ false) where
      without : (at : Hosting) → RunsAs old at → (memory : HugeMemory)
          → memory_at at process ≡ Some memory → huge ≡ (unmapped_in start bytes memory).pages
      without at stands memory some = is ∙ ap (unmapping (huge_first (page_of start))
          (huge_count (page_of start) (page_count bytes)))
          (kept-lying old.pages.huge at.lying.huge process stands.lies.huge memory some)

      few-here : (at : Hosting) → RunsAs old at → (memory : HugeMemory)
          → memory_at at process ≡ Some memory
          → too_many (unmapped_in start bytes memory).pages.spots ≡ false
      few-here at stands memory some = ap (λ (p : HugeLying). too_many p.spots)
          (sym (without at stands memory some)) ∙ few

      abbrev denied_by : PlacedRefusal → Hosting → HugeMemory → Option PlacedRefusal
          → Option PlacedRefusal → Outcome
      denied_by why at memory first second = unless_pages first at (unless_pages second at
          (unmapped_with memory (lack_told why) at process start bytes))

      -- pages of 4 KiB stand against it
      pub both-denied : (why : PlacedRefusal)
          → ((at : HostLying) → HostLies prepared.pages at → ForgetsIn
          (pages_in process at.homes) (pages_lent process at).spots start bytes (Err why))
          → Replies old (pages_reply why) prepared unmaps_all
      both-denied why forgets = λ at stands.
          let here = both-here at stands in
          let f = forgets at.lying (prepared-runs at stands).lies in
          let small : lying_lack (lack_told why) start bytes (pages_at at process) ≡ Some why =
          ap (λ (b : Bool). if b then lack_of (lack_told why)
          (forgotten start bytes (pages_at at process).spots) else None) f.0 ∙ f.1 in
          still-prepared (pages_reply why) (lack_told why) at stands (here.2 (lack_told why)
          ∙ both-why why at here.0 (few-here at stands here.0 here.1) small
          (is_starved (lack_told why)) refl)
        where
          both-why : (why : PlacedRefusal) (at : Hosting) (memory : HugeMemory)
              → too_many (unmapped_in start bytes memory).pages.spots ≡ false
              → lying_lack (lack_told why) start bytes (pages_at at process) ≡ Some why
              → (starved : Bool) → is_starved (lack_told why) ≡ starved
              → huge_unmap (lack_told why) at process start bytes memory
              ≡ with_reply (pages_reply why) at
          both-why why at memory fewer small true starved =
              ap (λ (b : Bool). denied_by why at memory
              (lack_for b (unmapped_in start bytes memory).pages.spots)
              (lying_lack (lack_told why) start bytes (pages_at at process))) starved
              ∙ ap (λ (r : PlacedRefusal). with_reply (pages_reply r) at)
              (sym (starved-why why starved))
          both-why why at memory fewer small false starved =
              ap (λ (b : Bool). denied_by why at memory
              (lack_for b (unmapped_in start bytes memory).pages.spots)
              (lying_lack (lack_told why) start bytes (pages_at at process))) starved
              ∙ (λ i. denied_by why at memory
              (few-lacks (unmapped_in start bytes memory).pages.spots fewer i) (small i))

      -- nothing stands against it but the host
      pub both-serves : (new : RunningHost) (answer : Reply) (small : Option Laid)
          → ((at : HostLying) → HostLies prepared.pages at → ForgetsIn
          (pages_in process at.homes) (pages_lent process at).spots start bytes (Ok small))
          → UnmapsBoth prepared answer new process start bytes small huge
          → Replies old answer new unmaps_all
      both-serves new answer small forgets serves = λ at stands.
          let here = both-here at stands in
          let ready = prepared-runs at stands in
          let s = serves at here.0 ready (forgets at.lying ready.lies) here.1
          (without at stands here.0 here.1) in
          let same = here.2 s.0.lacked in (
            s.0,
            s.1 ∙ sym (ap (λ (o : Outcome). reply_in o.answer) same),
            subst (λ (o : Outcome). RunsAs new (hosting_with at o)) (sym same) s.2,
          )

  -- ---- the host is told

  module _ (small : Option Laid) (huge : HugeLying) (few : too_many huge.spots ≡ false) where
    abbrev lying_then : Hosting → HugeMemory → HostLying
    lying_then at memory = with_huge process (unmapped_in start bytes memory)
        (small_without start bytes at process)

    enough : (at : Hosting) (memory : HugeMemory) → huge ≡ (unmapped_in start bytes memory).pages
        → huge_unmap Enough at process start bytes memory
        ≡ command_unless (first_of (host_refusal_of at.machine at.bounds at.history said) None)
        (lying_then at memory) at said
    enough at memory is =
        let none = few-lacks (unmapped_in start bytes memory).pages.spots
        (ap (λ (p : HugeLying). too_many p.spots) (sym is) ∙ few) in
        λ i. unless_pages (none i) at (unless_pages
        (lying-enough start bytes (pages_at at process) i) at
        (unmapped_with memory Enough at process start bytes))

    pub unmaps-refused : (host : HostState) (why : HostRefusal)
        → IsHostApplied old.host said (Err why) host
        → UnmapsBoth old (reply.HostRefused why) (record { host = host; pages = old.pages })
        process start bytes small huge
    unmaps-refused host why applied = λ at memory stands forgets there is.
        let new : RunningHost = record { host = host; pages = old.pages } in
        let runs : RunsAs new at = record {
          machine = applied.machine ∙ stands.machine;
          bounds = applied.bounds ∙ stands.bounds;
          stands = subst (λ (h : HostState). HostStandsFor h at.history)
              (sym applied.unchanged) stands.stands;
          lies = stands.lies;
          are = stands.are;
        } in
        elim (told-or (host_refusal_of at.machine at.bounds at.history said) why
        (subst (λ (c : Option HostRefusal). MatchOption c (why ≡ NoMemory) (λ f. why ≡ f))
        (cause-here old at said stands) (applied.err at.history stands.stands))) [
          | inl first ↦
              let so : huge_unmap Enough at process start bytes memory
              ≡ with_reply (reply.HostRefused why) at =
              enough at memory is ∙ ap (λ (c : Option HostRefusal).
              command_unless (first_of c None) (lying_then at memory) at said) first in (
                flag Enough,
                sym (ap (λ (o : Outcome). reply_in o.answer) so),
                subst (λ (o : Outcome). RunsAs new (hosting_with at o)) (sym so) runs,
              )
          | inr lack ↦
              let so : huge_unmap Starved at process start bytes memory
              ≡ with_reply (reply.HostRefused why) at =
              ap (λ (w : HostRefusal). with_reply (reply.HostRefused w) at) (sym lack) in (
                flag Starved,
                sym (ap (λ (o : Outcome). reply_in o.answer) so),
                subst (λ (o : Outcome). RunsAs new (hosting_with at o)) (sym so) runs,
              )
        ]

    module _ (host : HostState) (mid : HugeKept) (pages_then : HostPages) (version : ℕ)
        (applied : IsHostApplied old.host said (Ok tt) host)
        (counts : (history : List HostCommand) → HostStandsFor host history
        → version ≡ length history)
        (settles : HugeChanges process old.pages.huge mid
        (λ memory. record memory { pages = huge }))
        (none : small ≡ None → pages_then ≡ record old.pages { huge = mid })
        (some : IfSome small (λ after. (at : HostLying) (spots : ℕ → Spot)
        → HostLies (record old.pages { huge = mid }) at → IsSome (pages_in process at.homes)
        → ((page : ℕ) → spot_at after page ≡ spots page)
        → HostLies pages_then (given_back process (with_spots spots (pages_lent process at)) at)))
      where
        small-lies : (at : Hosting) (after : HugeMemory) (laid : Option Laid) → small ≡ laid
            → ForgetsIn (pages_in process at.lying.homes) (pages_at at process).spots start bytes
            (Ok laid)
            → HostLies (record old.pages { huge = mid }) (with_huge process after at.lying)
            → HostLies pages_then (with_huge process after (small_without start bytes at process))
        small-lies at after None so forgets lies =
            subst (λ (b : Bool). HostLies pages_then (with_huge process after (if b
            then lying_with at process (lying_without start bytes (pages_at at process))
            else at.lying))) (sym forgets)
            (subst (λ (p : HostPages). HostLies p (with_huge process after at.lying))
            (sym (none so)) lies)
        small-lies at after (Some laid) so forgets lies =
            let told = subst (λ (o : Option Laid). IfSome o (λ after. (at : HostLying)
            (spots : ℕ → Spot) → HostLies (record old.pages { huge = mid }) at
            → IsSome (pages_in process at.homes) → ((page : ℕ) → spot_at after page ≡ spots page)
            → HostLies pages_then
            (given_back process (with_spots spots (pages_lent process at)) at))) so some in
            let gone = forgotten start bytes (pages_at at process).spots in
            subst (λ (b : Bool). HostLies pages_then (with_huge process after (if b
            then lying_with at process (if b then with_spots gone (pages_at at process)
            else pages_at at process) else at.lying))) (sym forgets.0)
            (told (with_huge process after at.lying) gone lies forgets.1 forgets.2)

        small-are : (at : Hosting) → AreOf at.lying at.history
            → AreOf (small_without start bytes at process) at.history
        small-are at are =
            elim (cases_Bool (has_stated (pages_at at process).spots start bytes)) [
              | inl t ↦ rw t (given-are process (with_spots
                  (forgotten start bytes (pages_at at process).spots) (pages_at at process)) at.lying
                  at.history are)
              | inr e ↦ rw e are
            ]

        pub unmaps-done : UnmapsBoth old (reply.Accepted version)
            (record { host = host; pages = pages_then }) process start bytes small huge
        unmaps-done = λ at memory stands forgets there is.
            let new : RunningHost = record { host = host; pages = pages_then } in
            let ok = applied.ok at.history stands.stands in
            let first : host_refusal_of at.machine at.bounds at.history said ≡ None =
            sym (cause-here old at said stands) ∙ ok.0 in
            let so : huge_unmap Enough at process start bytes memory
            ≡ command_unless None (lying_then at memory) at said =
            enough at memory is ∙ ap (λ (c : Option HostRefusal).
            command_unless (first_of c None) (lying_then at memory) at said) first in
            let after : HugeMemory = unmapped_in start bytes memory in
            let kept : HugeLies mid (huge_back process (record memory { pages = huge })
            at.lying.huge) = subst (λ (o : Option HugeMemory). HugeLies mid (given_if process
            (option_map (λ (m : HugeMemory). record m { pages = huge }) o) at.lying.huge)) there
            (settles at.lying.huge stands.lies.huge) in
            let shares : HugeLies mid (huge_back process after at.lying.huge) =
            subst (λ (p : HugeLying). HugeLies mid (huge_back process (record memory { pages = p })
            at.lying.huge)) is kept in
            let are = small-are at stands.are in (
              flag Enough,
              ap (λ (n : ℕ). Some (reply.Accepted n)) (counts (said ∷ at.history) ok.1)
                  ∙ sym (ap (λ (o : Outcome). reply_in o.answer) so),
              subst (λ (o : Outcome). RunsAs new (hosting_with at o)) (sym so) (record {
                machine = applied.machine ∙ stands.machine;
                bounds = applied.bounds ∙ stands.bounds;
                stands = ok.1;
                lies = small-lies at after small refl forgets (huge-lies old.pages mid at.lying
                    (huge_back process after at.lying.huge) stands.lies shares);
                are = record { order = are.order; same = are.same };
              }),
            )
