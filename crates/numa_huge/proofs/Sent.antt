-- Pages that are kept, once the pages of each node went to another.
use Rattle.std.proofs.Common.{◌≡◌, ℕ, ◌<◌, Option, Some, None, refl, ap, ◌∙◌}
use Rattle.std.specs.Prelude.{unwrap_or}
use Rattle.numa_ranges.specs.Maps.{changed_page}
use Rattle.numa_huge.specs.Huge.{spot_in}
use Rattle.numa_huge.specs.Kept.{HasNode}
use Rattle.numa_huge.specs.Moves.{gone_spot}
use Rattle.numa_huge.specs.declared.spot.HugeSpot.{HugeSpot}
use Rattle.numa_huge.specs.declared.spot.HugeSpot.TheVariants.{Bare, Reserved, On}

-- a page that is mapped
abbrev pub sent_spot : (ℕ → ℕ) → HugeSpot → HugeSpot
sent_spot go Bare = Bare
sent_spot go Reserved = Reserved
sent_spot go (On node) = On (go node)

gone-some : (go : ℕ → ℕ) (spot : HugeSpot) → gone_spot go (Some spot) ≡ Some (sent_spot go spot)
gone-some go Bare = refl
gone-some go Reserved = refl
gone-some go (On node) = refl

pub some-sent : (go : ℕ → ℕ) (after spot : HugeSpot) → Some after ≡ gone_spot go (Some spot)
    → after ≡ sent_spot go spot
some-sent go after spot is =
    ap (λ (o : Option HugeSpot). unwrap_or o Bare) (is ∙ gone-some go spot)

pub spot-sent : (go : ℕ → ℕ) (p : Option (ℕ × HugeSpot))
    → spot_in (changed_page (sent_spot go) p) ≡ gone_spot go (spot_in p)
spot-sent go None = refl
spot-sent go (Some (at, Bare)) = refl
spot-sent go (Some (at, Reserved)) = refl
spot-sent go (Some (at, On node)) = refl

pub node-sent : (go : ℕ → ℕ) → ((node : ℕ) → go node < 256) → (spot : HugeSpot) → HasNode spot
    → HasNode (sent_spot go spot)
node-sent go near Bare node = tt
node-sent go near Reserved node = tt
node-sent go near (On other) node = near other
