-- The ranks before the window stay, and those from its start on are written.
use Rattle.std.proofs.Common.{◌++◌, length, take, drop, arith, ap, refl, ◌∙◌, sym}
use Rattle.numa_rows.specs.Parts.{flat, starts_from}
use Rattle.numa_rows.proofs.InParts.{length-starts}
use Rattle.numa_rows.proofs.Editing.{length-placed, same-front, same-starts}
use Rattle.numa_rows.proofs.edit.take_in.Goals as goal

pub replace-requires-clause-rises : goal.replace-requires-clause-rises
replace-requires-clause-rises g c = c.requires.places

pub replace-requires-clause-within : goal.replace-requires-clause-within
replace-requires-clause-within g c = c.requires.within

pub refill-requires-clause-room : goal.refill-requires-clause-room
refill-requires-clause-room g c =
    let parts = c.args.chunks.now.items in
    omega (
      arith,
      c.in_default.ensures.ok,
      c.saturating_sub-more.ensures,
      c.args.starts.now.ok.0,
      c.args.pieces.ok.0,
      ap length c.requires.ranks,
      length-starts 0 parts,
      ap length c.deref.ensures.value,
      ap length c.in_default-replace.ensures.ok,
      length-placed parts c.args.pieces.items c.args.window.place.chunk c.args.window.high
          c.requires.places c.requires.within,
    )

pub refill-requires-clause-small : goal.refill-requires-clause-small
refill-requires-clause-small g c =
    omega (
      arith,
      ap (λ l. length (flat l)) c.deref.ensures.value,
      ap (λ l. length (flat l)) c.in_default-replace.ensures.ok,
      c.requires.few,
    )

pub refill-requires-clause-places : goal.refill-requires-clause-places
refill-requires-clause-places g c = (
  omega (
    arith,
    ap length c.deref.ensures.value,
    ap length c.in_default-replace.ensures.ok,
    length-placed c.args.chunks.now.items c.args.pieces.items c.args.window.place.chunk
        c.args.window.high c.requires.places c.requires.within,
    c.requires.places,
    c.requires.within,
  ),
  omega (
    arith,
    ap length c.reserve.ensures.items,
    ap length c.requires.ranks,
    length-starts 0 c.args.chunks.now.items,
    c.requires.places,
    c.requires.within,
  ),
)

pub refill-requires-clause-before : goal.refill-requires-clause-before
refill-requires-clause-before g c =
    let parts = c.args.chunks.now.items in
    let low = c.args.window.place.chunk in
    ap (take low) (c.reserve.ensures.items ∙ c.requires.ranks)
    ∙ (same-starts parts c.replace.new.items.items
    (c.args.pieces.items ++ drop c.args.window.high parts) low
    (omega (arith, c.requires.places, c.requires.within))
    c.in_default-replace.ensures.ok
    ∙ ap (λ l. take low (starts_from 0 l)) (sym c.deref.ensures.value))

pub refill-requires-clause-start : goal.refill-requires-clause-start
refill-requires-clause-start g c =
    let parts = c.args.chunks.now.items in
    let low = c.args.window.place.chunk in
    let front = same-front parts c.replace.new.items.items
    (c.args.pieces.items ++ drop c.args.window.high parts) low
    (omega (arith, c.requires.places, c.requires.within))
    c.in_default-replace.ensures.ok in
    c.requires.start
    ∙ (ap (λ l. length (flat l)) (sym front)
    ∙ ap (λ l. length (flat (take low l))) (sym c.deref.ensures.value))

pub returns-clause-ok : goal.returns-clause-ok
returns-clause-ok g c = (
  c.in_default-replace.ensures.ok,
  c.refill.ensures ∙ ap (starts_from 0) c.deref.ensures.value,
)

pub returns-in-Err-clause-unchanged : goal.returns-in-Err-clause-unchanged
returns-in-Err-clause-unchanged g c = (refl, c.reserve.ensures.items)

pub returns-in-Err-replace-clause-unchanged : goal.returns-in-Err-replace-clause-unchanged
returns-in-Err-replace-clause-unchanged g c =
    (c.in-Err-replace.ensures.unchanged, c.reserve.ensures.items)
