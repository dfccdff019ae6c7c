-- `sender::Frame::write` meets its contract: the raw bytes of the frame stand at the start of the array, and make its line.
-- Assumes nothing.
use mathlib.Core.Path.{◌≡◌, sym, ap, ◌∙◌}
use mathlib.Core.List.{List}
use Prim.Native.Nat.{ℕ}
use lib.ListN.{length, take, drop, replicate}
use lib.Seq.{take_at}
use Rattle.laws.specs.Bytes.{pasted}
use Rattle.laws.proofs.Lists.{pasted_start}
use Rattle.frame.specs.Line.{raw_most, frame}
use Rattle.sender.specs.Sender.{piece_of, marker_of, frame_of}
use Rattle.sender.proofs.Frame.write.Goals as goal

pub returns : goal.returns
unfolding frame_of
returns c =
    let a = c.args.self in
    let n = c.put_piece-n.result in
    let last = c.put_piece-n.new.raw in
    let x = piece_of a.body.now a.k in
    let part : take n last ≡ x = ap (λ (l : List ℕ). take n l) (c.put_piece-n.ensures.1 ∙ pasted_start (replicate raw_most 0) x) ∙ take_at x
    (drop (length x) (replicate raw_most 0)) n (sym c.put_piece-n.ensures.0) in (
      c.put_line.ensures.0 ∙ ap (λ (l : List ℕ). length (frame (marker_of a.k) l)) part,
      c.put_line.ensures.1 ∙ ap (λ (l : List ℕ). pasted c.args.out.now 0 (frame (marker_of a.k) l)) part,
    )
