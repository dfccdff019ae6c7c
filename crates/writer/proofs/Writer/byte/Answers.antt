-- `writer::Writer::byte` meets its contract: one byte stored is one byte written.
-- Assumes nothing.
use mathlib.Core.Path.{refl}
use native.Mathlib.Omega.{arith}
use Rattle.laws.proofs.Lists.{set_pasted}
use Rattle.writer.proofs.Writer.byte.Goals as goal

pub returns : goal.returns
returns c =
    let w = c.args.self.now in
    record { same_buffer = refl; place = refl; written = set_pasted w.buf.now w.at c.args.b (omega (arith, c.requires)) }
