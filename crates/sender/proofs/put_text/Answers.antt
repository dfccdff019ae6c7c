-- `sender::put_text` meets its contract: the text stands at the start of the part from the writer's place on.
-- Assumes nothing.
use mathlib.Core.Path.{refl, ap}
use Prim.Native.Nat.{ℕ, ◌+◌}
use native.Mathlib.Omega.{arith}
use lib.ListN.{length-take, length-drop}
use Rattle.strict_base64.specs.Base64.{encode}
use Rattle.strict_base64.proofs.Laws.{encode_length}
use Rattle.laws.proofs.Lists.{part_pasted}
use Rattle.sender.proofs.put_text.Goals as goal

pub encode-n-requires : goal.encode-n-requires
encode-n-requires c = simp (length-take, length-drop) (omega (arith, c.requires, encode_length c.args.raw.now))

pub returns : goal.returns
returns c =
    let out = c.args.out.now in
    record {
      same_buffer = refl;
      place = ap (λ (n : ℕ). out.at + n) c.encode-n.ensures.count;
      written = part_pasted out.buf.now out.at (encode c.args.raw.now) c.encode-n.new.out c.encode-n.ensures.text;
    }
