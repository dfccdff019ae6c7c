-- `encoder::encode`: the text of the whole groups, then that of the one or two bytes that are left.
-- Assumes nothing.
use mathlib.Core.Path.{◌≡◌, sym}
use Prim.Native.Nat.{◌/◌}
use native.Mathlib.Omega.{arith}
use lib.ListN.{length}
use Rattle.laws.proofs.Lists.{pasted_none}
use Rattle.strict_base64.specs.Base64.{encode}
use Rattle.encoder.proofs.Texts.{encode_next, encodes_whole, encodes_one, encodes_two}
use Rattle.encoder.proofs.encode.Goals as goal
use Rattle.encoder.proofs.encode.Goals.{in-1, in_default}

pub loop-g-init : goal.loop-g-init
unfolding encode
loop-g-init c = sym (pasted_none _ 0)

pub loop-g-preserved : goal.loop-g-preserved
loop-g-preserved c =
    let a = c.args in
    let at = c.loop-g in
    encode_next a.raw.now a.out.now at.out c.encode_group.new.out at.g (omega arith) (omega arith) at.invariant c.encode_group.ensures

pub returns-in-0 : goal.returns-in-0
returns-in-0 c =
    let a = c.args in
    let n : c.loop-g.g ≡ length a.raw.now / 3 = omega arith in
    encodes_whole a.raw.now a.out.now c.loop-g.out (length a.raw.now / 3) (omega arith) (rw n at c.loop-g.invariant)

pub returns : goal.returns
returns c =
    let a = c.args in
    let at = c.loop-g in
    let n : at.g ≡ length a.raw.now / 3 = omega arith in
    elim c.match-raw-rem3.branch [
      | in-1 w ↦
          rw w.out-is
          (encodes_one a.raw.now a.out.now at.out w.encode_one.new.out (length a.raw.now / 3) (omega arith) (omega arith)
          (rw n at at.invariant) w.encode_one.ensures)
      | in_default w ↦
          rw w.out-is
          (encodes_two a.raw.now a.out.now at.out w.encode_two.new.out (length a.raw.now / 3) (omega arith) (omega arith)
          (rw n at at.invariant) w.encode_two.ensures)
    ]
