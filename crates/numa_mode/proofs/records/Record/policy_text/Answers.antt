use Rattle.std.proofs.Common.{◌+◌, ◌≤◌, [], ◌∷◌, length, arith, ap, ◌∙◌, lit<, length-append}
use Rattle.numa_mode.proofs.TextRoom.{text_of-length}
use Rattle.numa_mode.proofs.records.Record.policy_text.Goals as goal

pub push_str-requires-then-not-is_empty : goal.push_str-requires-then-not-is_empty
push_str-requires-then-not-is_empty c =
    let list : length c.as_str.result.now ≤ 914 =
    omega (
      arith,
      ap length (c.as_str.ensures.value ∙ c.list_text.ensures.text),
      text_of-length c.effective-nodes.result,
    ) in
    let words : length c.push_str-2.new.self.bytes ≤ 28 =
    omega (
      arith,
      ap length c.push_str-2.ensures.bytes,
      length-append c.push_str.new.self.bytes c.text-2.result.now,
      c.text-2.ensures.short,
      ap length c.push_str.ensures.bytes,
      length-append c.new-text.result.bytes c.text.result.now,
      c.text.ensures.short,
      ap length c.new-text.ensures,
    ) in
    let colon : length c.push.new.self.bytes ≤ 29 =
    omega (
      arith,
      words,
      ap length (c.push.ensures.ascii (lit< tt)),
      length-append c.push_str-2.new.self.bytes (58 ∷ []),
    ) in
    let fits : length c.push.new.self.bytes + length c.as_str.result.now ≤ 1024 =
    omega (arith, list, colon) in
    (omega arith, fits)
