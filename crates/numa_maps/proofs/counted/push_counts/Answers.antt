use Rattle.std.proofs.Common.{ℕ, ◌+◌, ◌≤◌, ◌++◌, codes, decimal, length, slice_index, arith, ap}
use Rattle.std.proofs.Common.{◌∙◌, length-append}
use Rattle.std.proofs.lemmas.Fmt.{length-decimal-le}
use Rattle.numa_maps.specs.Listing.{nodes_text, size_text}
use Rattle.numa_maps.proofs.Lines.{counted-some}
use Rattle.numa_maps.proofs.counted.push_counts.Goals as goal

pub push_number-requires : goal.push_number-requires
push_number-requires c =
    omega (
      arith,
      c.requires.room,
      length-decimal-le 20 c.args.count (omega arith)
          (omega (arith, c.ranges.count.fits)) c.ranges.count.fits,
    )

pub push_nodes-requires : goal.push_nodes-requires
push_nodes-requires c = record {
  room =
      omega (
        arith,
        c.requires.room,
        length-decimal-le 20 c.args.count (omega arith)
            (omega (arith, c.ranges.count.fits)) c.ranges.count.fits,
        ap length c.push_number.ensures,
        length-append (c.args.text.now.bytes ++ codes " anon=") (decimal c.args.count),
        length-append c.args.text.now.bytes (codes " anon="),
      );
}

pub push_str-requires : goal.push_str-requires
push_str-requires c = omega (
  arith,
  c.requires.room,
  c.size_word.ensures.short,
  length-decimal-le 20 c.args.count (omega arith)
      (omega (arith, c.ranges.count.fits)) c.ranges.count.fits,
  ap length c.push_number.ensures,
  length-append (c.args.text.now.bytes ++ codes " anon=") (decimal c.args.count),
  length-append c.args.text.now.bytes (codes " anon="),
  c.push_nodes.ensures.short,
)

pub returns-then-count-gt0-clause-bytes : goal.returns-then-count-gt0-clause-bytes
returns-then-count-gt0-clause-bytes c =
    let pages : ℕ → ℕ = λ node. slice_index c.args.pages.now node in
    c.push_str.ensures.bytes ∙ ap (λ x. c.push_nodes.new.text.bytes ++ x) c.size_word.ensures.word
    ∙ ap (λ x. x ++ size_text c.args.huge)
    (c.push_nodes.ensures.bytes ∙ ap (λ x. x ++ nodes_text pages) c.push_number.ensures)
    ∙ counted-some c.args.huge c.args.text.now.bytes c.args.count pages c.if-count-gt0.true

pub returns-then-count-gt0-clause-short : goal.returns-then-count-gt0-clause-short
returns-then-count-gt0-clause-short c =
    omega (
      arith,
      c.size_word.ensures.short,
      length-decimal-le 20 c.args.count (omega arith)
          (omega (arith, c.ranges.count.fits)) c.ranges.count.fits,
      ap length c.push_number.ensures,
      length-append (c.args.text.now.bytes ++ codes " anon=") (decimal c.args.count),
      length-append c.args.text.now.bytes (codes " anon="),
      c.push_nodes.ensures.short,
      c.push_str.ensures.len,
    )
