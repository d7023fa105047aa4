-- What is told of one more process.
use Rattle.std.proofs.Common.{◌≡◌, ◌∙◌, ℕ, ◌++◌, List, [], ◌∷◌, ap, ap₂, append_assoc}
use Rattle.std.proofs.Common.{◌+◌, ◌<◌, get_or, length, set, sym, take}
use Rattle.std.specs.Prelude.{map}
use Rattle.std.proofs.lemmas.List.{map-append, map_more, take_more_set}
use Rattle.numa_moves.specs.Moving.{IsSame, IsTold, Moved, SharesOf, left_by, moved_by, moves_in}
use Rattle.numa_moves.specs.Moving.{moves_of, nodes_in, rooms_by, shares_behind, shares_in}
use Rattle.numa_moves.specs.Moving.{shift_by, told_by}
use Rattle.numa_moves.specs.declared.holding.Holding.{Holding}
use Rattle.numa_moves.specs.declared.holding.HoldingMoves.{HoldingMoves}
use Rattle.numa_moves.specs.declared.share.Share.{Share}
use Rattle.numa_moves.specs.declared.moving.ShareMove.{ShareMove}

-- the rooms behind those of a process
abbrev pub behind : (Holding → ℕ) → (Holding → ℕ) → Holding → (ℕ → ℕ) → ℕ → ℕ
behind from to holding room =
    (shift_by holding.shares.items (from holding) (to holding) room).room

-- what is told of a process, part by part
abbrev moved-parts : ℕ → ℕ → List ShareMove → Moved
moved-parts p m l = record {
  process = p;
  made = m;
  moves = l;
}

told-as : (from to : Holding → ℕ) (holding : Holding) (told : HoldingMoves) (room : ℕ → ℕ)
    → IsTold holding told
    → told.moves.items ≡ moves_of holding.shares.items (from holding) (to holding) room
    → moves_in told ≡ moved_by from to holding room
told-as from to holding told room named moves =
    ap (λ (p : ℕ). moved-parts p told.made told.moves.items) named.0
    ∙ ap (λ (m : ℕ). moved-parts holding.process m told.moves.items) named.1
    ∙ ap (λ (l : List ShareMove). moved-parts holding.process holding.made l) moves

pub told-next : (from to : Holding → ℕ) (ahead rest : List Holding) (holding : Holding)
    (before after : List HoldingMoves) (told : HoldingMoves) (room : ℕ → ℕ)
    (whole : List Moved) → ahead ≡ holding ∷ rest → after ≡ before ++ (told ∷ [])
    → IsTold holding told
    → told.moves.items ≡ moves_of holding.shares.items (from holding) (to holding) room
    → map moves_in before ++ told_by from to ahead room ≡ whole
    → map moves_in after ++ told_by from to rest (behind from to holding room) ≡ whole
told-next from to ahead rest holding before after told room whole is added named moves done =
    let more = told_by from to rest (behind from to holding room) in
    ap (λ (l : List HoldingMoves). map moves_in l ++ more) added
    ∙ ap (λ (l : List Moved). l ++ more) (map-append moves_in before (told ∷ []))
    ∙ append_assoc (map moves_in before) (moves_in told ∷ []) more
    ∙ ap (λ (m : Moved). map moves_in before ++ (m ∷ more))
    (told-as from to holding told room named moves)
    ∙ ap (λ (l : List Holding). map moves_in before ++ told_by from to l room) (sym is)
    ∙ done

pub rooms-next : (from to : Holding → ℕ) (ahead rest : List Holding) (holding : Holding)
    (room whole : ℕ → ℕ) → ahead ≡ holding ∷ rest → rooms_by from to ahead room ≡ whole
    → rooms_by from to rest (behind from to holding room) ≡ whole
rooms-next from to ahead rest holding room whole is done =
    ap (λ (l : List Holding). rooms_by from to l room) (sym is) ∙ done

-- whose pages lie where, part by part
abbrev shares-parts : ℕ → ℕ → List Share → SharesOf
shares-parts p m l = record {
  process = p;
  made = m;
  shares = l;
}

left-as : (holding new : Holding) (told : HoldingMoves) → IsTold holding told
    → IsSame holding new → new.shares.items ≡ shares_behind told.moves.items
    → shares_in new ≡ left_by told
left-as holding new told named same behind =
    ap (λ (p : ℕ). shares-parts p new.made new.shares.items) (same.0 ∙ sym named.0)
    ∙ ap (λ (m : ℕ). shares-parts told.process m new.shares.items) (same.1 ∙ sym named.1)
    ∙ ap (λ (l : List Share). shares-parts told.process told.made l) behind

-- one more process whose pages lie as was told
pub left-next : (k : ℕ) (news : List Holding) (holding new : Holding)
    (before after : List HoldingMoves) (told : HoldingMoves) → k < length {A = Holding} news
    → after ≡ before ++ (told ∷ []) → IsTold holding told → IsSame holding new
    → new.shares.items ≡ shares_behind told.moves.items
    → map shares_in (take k news) ≡ map left_by before
    → map shares_in (take (k + 1) (set news k new)) ≡ map left_by after
left-next k news holding new before after told inside added named same behind done =
    ap (λ (l : List Holding). map shares_in l) (take_more_set news k new inside)
    ∙ map-append shares_in (take k news) (new ∷ [])
    ∙ ap₂ (λ (l : List SharesOf) (s : SharesOf). l ++ (s ∷ [])) done
    (left-as holding new told named same behind)
    ∙ sym (map-append left_by before (told ∷ []))
    ∙ ap (λ (l : List HoldingMoves). map left_by l) (sym added)

-- one more process, with the nodes that a line leaves it
pub nodes-next : (by : Holding → ℕ) (k : ℕ) (olds news : List Holding) (d new : Holding)
    → k < length {A = Holding} olds → k < length {A = Holding} news
    → new.allowed ≡ by (get_or olds k d)
    → map nodes_in (take k news) ≡ map by (take k olds)
    → map nodes_in (take (k + 1) (set news k new)) ≡ map by (take (k + 1) olds)
nodes-next by k olds news d new here there is done =
    ap (λ (l : List Holding). map nodes_in l) (take_more_set news k new there)
    ∙ map-append nodes_in (take k news) (new ∷ [])
    ∙ ap₂ (λ (l : List ℕ) (n : ℕ). l ++ (n ∷ [])) done is
    ∙ sym (map_more by olds k d here)
