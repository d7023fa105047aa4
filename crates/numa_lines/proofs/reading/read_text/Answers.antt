use Rattle.std.proofs.Common.{ℕ, List, [], ◌++◌, ◌∙◌, take, arith, inr, subst}
use Rattle.std.proofs.lemmas.List.{append-nil}
use Rattle.std.proofs.KnownBytes.{Consumes-trans}
use Rattle.numa_lines.specs.Reading.{Takes}
use Rattle.numa_lines.proofs.Cuts.{takes_both}
use Rattle.numa_lines.proofs.reading.read_text.Goals as goal

-- what was read and taken before, the piece, and what was handed over
taken : {T O : Type 0} (has_taken : T → O → T → O → List ℕ → Type 0) (taker : T) (output : O)
    (made_taker : T) (made_output : O) (piece_taker : T) (piece_output : O) (then : T)
    (output_then : O) (made got : List ℕ)
    → Takes has_taken taker output made_taker made_output made
    → Takes has_taken made_taker made_output piece_taker piece_output got
    → Takes has_taken piece_taker piece_output then output_then []
    → Takes has_taken taker output then output_then (made ++ got)
taken has_taken taker output made_taker made_output piece_taker piece_output then output_then made
    got
    first piece handed =
    subst (λ bytes. Takes has_taken taker output then output_then (made ++ bytes)) (append-nil got)
    (takes_both has_taken taker output made_taker made_output then output_then made (got ++ [])
    first
    (takes_both has_taken made_taker made_output piece_taker piece_output then output_then got []
    piece handed))

pub returns-in-Err-handed-clause-err : goal.returns-in-Err-handed-clause-err
returns-in-Err-handed-clause-err g c =
    let made = c.loop-made.invariant in
    let got : List ℕ = take c.in-Ok.count c.read.new.buffer in
    inr
    (inr
    (record {
      bytes = made.read.0 ++ got;
      has_read = record {
        read = Consumes-trans _ _ _ made.read.0 got made.read.1.read c.in-Ok.ensures.bytes.0;
        takes = taken g.T.TakeText.has_taken c.args.taker.now c.args.output.now c.loop-made.taker
            c.loop-made.output c.take-taken.new.self c.take-taken.new.output
            c.hand_over-handed.new.self
            c.hand_over-handed.new.output made.read.0 got made.read.1.takes c.in-Ok-taken.ensures.ok
            c.hand_over-handed.ensures.takes;
      };
      lost = c.in-Err-handed.ensures.handed;
      sound = c.in-Ok.ensures.ok ∙ made.sound;
    }))

pub loop-made-preserved : goal.loop-made-preserved
loop-made-preserved g c =
    let made = c.loop-made.invariant in
    let got : List ℕ = take c.in-Ok.count c.read.new.buffer in
    record {
      read = (
        made.read.0 ++ got,
        record {
          read = Consumes-trans _ _ _ made.read.0 got made.read.1.read c.in-Ok.ensures.bytes.0;
          takes = taken g.T.TakeText.has_taken c.args.taker.now c.args.output.now c.loop-made.taker
              c.loop-made.output c.take-taken.new.self c.take-taken.new.output
              c.hand_over-handed.new.self
              c.hand_over-handed.new.output made.read.0 got made.read.1.takes
              c.in-Ok-taken.ensures.ok
              c.hand_over-handed.ensures.takes;
        },
      );
      settled = λ h. c.in-Ok-handed.ensures.handed;
      sound = c.in-Ok.ensures.ok ∙ made.sound;
      counted = omega (arith, c.in-Ok.ensures.counted, made.counted);
    }
