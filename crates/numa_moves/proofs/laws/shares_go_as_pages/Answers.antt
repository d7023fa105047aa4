use Rattle.std.proofs.Common.{◌≡◌, ℕ, List, Some, ap, sym}
use Rattle.numa_mask.specs.NodeSet.{both}
use Rattle.numa_placed.specs.Shifts.{Going, counted_shift, shift_of, stated_on}
use Rattle.numa_placed.specs.declared.spot.Spot.{Spot}
use Rattle.numa_reports.specs.declared.outlook.PageSpan.{PageSpan}
use Rattle.numa_moves.specs.Moving.{HaveAll, shift_by}
use Rattle.numa_moves.specs.Shares.{pages_on, shares_over, stated_in}
use Rattle.numa_moves.proofs.PageMoves.{shares-counted}
use Rattle.numa_moves.proofs.laws.shares_go_as_pages.Goals as goal

-- the shares have as many pages on each node as lie there, so as many go
same-shift : (spots : ℕ → Spot) (nodes : ℕ) (spans : List PageSpan) (old new : ℕ) (room : ℕ → ℕ)
    → HaveAll spots nodes spans → shift_of spots old new room
    ≡ shift_by (shares_over (stated_in spots) nodes spans) old new room
same-shift spots nodes spans old new room have =
    let shares = shares_over (stated_in spots) nodes spans in
    let same : stated_on spots ≡ pages_on shares =
    λ i node. sym (shares-counted spots nodes spans node have) i in
    ap (λ (f : ℕ → ℕ). counted_shift f old new room) same

pub returns-clause-gone : goal.returns-clause-gone
returns-clause-gone c spots nodes spans old new room have =
    ap (λ (g : Going). g.gone) (same-shift spots nodes spans old new room have)

pub returns-clause-migrated : goal.returns-clause-migrated
returns-clause-migrated c lack basis from to nodes spans at room have is free enough =
    let more = rw is at enough in
    rw (is, free, more)
    (ap (λ (g : Going). Some g.room)
    (same-shift at.spots nodes spans from (both to basis.allowed) room have))

pub returns-clause-followed : goal.returns-clause-followed
returns-clause-followed c lack kept old new nodes spans at room have is follows enough =
    let more = rw is at enough in
    rw (follows, is, more)
    (ap (λ (g : Going). Some g.room) (same-shift at.spots nodes spans old new room have))
