use Rattle.std.proofs.Common.{arith}
use Rattle.numa_page_state.proofs.frames.keep_whole.Goals as goal

pub returns : goal.returns
returns c = λ told kept tells is. record {
  moved = tells.moved;
  left = omega (arith, tells.left, is);
  from = tells.from;
  to = tells.to;
}
