-- `sender::put_line` meets its contract: marker, text and 0A one after the other are the line.
-- Assumes nothing.
use mathlib.Core.Path.{sym, refl}
use mathlib.Core.List.{[], ◌∷◌, ◌++◌}
use native.Mathlib.Omega.{arith}
use lib.ListN.{length-append}
use Rattle.strict_base64.specs.Base64.{encode}
use Rattle.frame.specs.Line.{newline, frame}
use Rattle.sender.specs.Sender.{marker_of}
use Rattle.sender.proofs.Laws.{line_room, second_room, third_room, wrote_three, written_back}
use Rattle.sender.proofs.put_line.Goals as goal

pub put_marker-requires : goal.put_marker-requires
unfolding frame
put_marker-requires c =
    let a = c.args in
    omega (arith, line_room a.k a.raw.now c.requires.0, c.requires.1, length-append (marker_of a.k) (encode a.raw.now ++ (newline ∷ [])))

pub put_text-requires : goal.put_text-requires
unfolding frame
put_text-requires c =
    let a = c.args in
    second_room (marker_of a.k) (encode a.raw.now) (newline ∷ []) c.put_marker.ensures (omega (arith, line_room a.k a.raw.now c.requires.0, c.requires.1))

pub byte-requires : goal.byte-requires
unfolding frame
byte-requires c =
    let a = c.args in
    third_room (marker_of a.k) (encode a.raw.now) (newline ∷ []) c.put_marker.ensures c.put_text.ensures
    (omega (arith, line_room a.k a.raw.now c.requires.0, c.requires.1))

pub returns : goal.returns
unfolding frame
returns c =
    let a = c.args in
    let w = wrote_three (marker_of a.k) (encode a.raw.now) (newline ∷ []) c.put_marker.ensures c.put_text.ensures c.byte.ensures
    (omega (arith, line_room a.k a.raw.now c.requires.0, c.requires.1)) in
    written_back w refl (grind (arith, sym w.same_buffer))
