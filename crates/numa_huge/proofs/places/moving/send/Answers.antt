use Rattle.std.proofs.Common.{ℕ, ◌≡◌, ◌∙◌, ap, refl, subst, Some}
use Rattle.std.specs.Prelude.{slice_index}
use Rattle.numa_ranges.specs.Runs.{page_at}
use Rattle.numa_huge.specs.Huge.{spot_in}
use Rattle.numa_huge.specs.Moves.{gone_spot}
use Rattle.numa_huge.specs.declared.spot.HugeSpot.{HugeSpot}
use Rattle.numa_huge.proofs.Own.{own-all}
use Rattle.numa_huge.proofs.Sent.{sent_spot, some-sent, spot-sent, node-sent}
use Rattle.numa_huge.proofs.places.moving.send.Goals as goal

pub update_all-requires-clause-function : goal.update_all-requires-clause-function
update_all-requires-clause-function c =
    let go : ℕ → ℕ = slice_index c.args.targets.now in (
      sent_spot go,
      λ x r h. some-sent go r x (subst (λ (s : HugeSpot). Some r ≡ gone_spot go (Some s)) h.shows
          (h.says.met go (λ node small. refl))),
    )

pub returns-clause-spots : goal.returns-clause-spots
returns-clause-spots c go are page =
    let pages = c.update_all.ensures.pages (sent_spot go)
    (λ x r h. some-sent go r x (subst (λ (s : HugeSpot). Some r ≡ gone_spot go (Some s)) h.shows
    (h.says.met go are))) in
    ap spot_in (pages page) ∙ spot-sent go (page_at c.args.map.now.runs page)

pub returns-clause-own : goal.returns-clause-own
returns-clause-own c own =
    let go : ℕ → ℕ = slice_index c.args.targets.now in
    let pages = c.update_all.ensures.pages (sent_spot go)
    (λ x r h. some-sent go r x (subst (λ (s : HugeSpot). Some r ≡ gone_spot go (Some s)) h.shows
    (h.says.met go (λ node small. refl)))) in
    own-all c.args.map.now.runs c.update_all.new.self.runs (sent_spot go)
    (node-sent go c.look.ensures) own pages
