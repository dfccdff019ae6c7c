-- `reader::Packet::begin` meets its contract: total stands in the first two raw bytes, and what follows it comes first of its packet.
-- Assumes nothing.
use mathlib.Core.Path.{sym, ap, ◌∙◌}
use Prim.Native.Nat.{ℕ}
use native.Mathlib.Omega.{arith}
use lib.ListN.{drop}
use Rattle.reader.specs.Reader.{absorb}
use Rattle.reader.proofs.Laws.{begin_short, begin_small, begin_packet_lem}
use Rattle.reader.proofs.Packet.begin.Goals as goal

pub returns-then-raw-lt2 : goal.returns-then-raw-lt2
returns-then-raw-lt2 c = λ p. sym (begin_short c.args.raw.now p (omega arith))

pub returns-then-total-lt10 : goal.returns-then-total-lt10
returns-then-total-lt10 c = λ p. sym (begin_small c.args.raw.now p (omega arith) (omega arith))

pub returns : goal.returns
returns c =
    let raw = c.args.raw.now in (
      omega arith,
      λ p. ap (λ (n : ℕ). absorb n 0 0 (drop 2 raw) p) c.be16_at-total.ensures.0 ∙ sym (begin_packet_lem raw p (omega arith) (omega arith)),
    )
