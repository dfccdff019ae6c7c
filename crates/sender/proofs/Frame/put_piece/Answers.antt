-- `sender::Frame::put_piece` meets its contract: its three parts, one after the other, are the frame's raw bytes.
-- Assumes nothing.
use mathlib.Core.Path.{sym, refl}
use mathlib.Core.List.{◌++◌}
use Prim.Native.Nat.{◌≤◌}
use native.Mathlib.Omega.{arith}
use lib.ListN.{length, length-append}
use Rattle.frame.specs.Line.{raw_most}
use Rattle.sender.specs.declared.Frame.{Frame}
use Rattle.sender.specs.Inner.{head_of, middle_of, tail_of}
use Rattle.sender.proofs.Laws.{piece_parts, piece_length, parts_length, second_room, third_room, wrote_three, written_back}
use Rattle.sender.proofs.Frame.put_piece.Goals as goal

-- the three parts fit
fits : (f : Frame) → length (head_of (length f.body.now) f.k ++ (middle_of f.body.now f.k ++ tail_of f.body.now f.k)) ≤ raw_most
fits f = omega (arith, parts_length f.body.now f.k, piece_length f.body.now f.k (omega (arith, f.counted, f.one_of_them)))

pub put_head-requires : goal.put_head-requires
put_head-requires c =
    let a = c.args.self in
    let s = a.body.now in
    omega (arith, fits a, c.requires, length-append (head_of (length s) a.k) (middle_of s a.k ++ tail_of s a.k))

pub put_middle-requires : goal.put_middle-requires
put_middle-requires c =
    let a = c.args.self in
    let s = a.body.now in
    second_room (head_of (length s) a.k) (middle_of s a.k) (tail_of s a.k) c.put_head.ensures (omega (arith, fits a, c.requires))

pub put_tail-requires : goal.put_tail-requires
put_tail-requires c =
    let a = c.args.self in
    let s = a.body.now in
    third_room (head_of (length s) a.k) (middle_of s a.k) (tail_of s a.k) c.put_head.ensures c.put_middle.ensures (omega (arith, fits a, c.requires))

pub returns : goal.returns
returns c =
    let a = c.args.self in
    let s = a.body.now in
    let w = wrote_three (head_of (length s) a.k) (middle_of s a.k) (tail_of s a.k) c.put_head.ensures c.put_middle.ensures c.put_tail.ensures
    (omega (arith, fits a, c.requires)) in
    let most : c.put_tail.new.raw.at ≤ raw_most = omega (arith, w.place, fits a) in
    let e = written_back w refl (grind (arith, sym w.same_buffer)) in
    rw (piece_parts s a.k) (e.0, e.1, most)
