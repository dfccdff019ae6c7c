-- `sender::put_marker` meets its contract: the marker is that of the frame's number.
-- Assumes nothing.
use Rattle.sender.proofs.Laws.{marker_first, marker_later}
use Rattle.sender.proofs.put_marker.Goals as goal

pub bytes-requires : goal.bytes-requires
bytes-requires c = rw (marker_first c.args.k c.if-k-eq0.true) at c.requires

pub bytes-requires-else-k-eq0 : goal.bytes-requires-else-k-eq0
bytes-requires-else-k-eq0 c = rw (marker_later c.args.k c.if-k-eq0.false) at c.requires

pub returns-then-k-eq0 : goal.returns-then-k-eq0
returns-then-k-eq0 c = rw (marker_first c.args.k c.if-k-eq0.true) c.bytes.ensures

pub returns-else-k-eq0 : goal.returns-else-k-eq0
returns-else-k-eq0 c = rw (marker_later c.args.k c.if-k-eq0.false) c.bytes-else-k-eq0.ensures
