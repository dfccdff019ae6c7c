-- What the request writers return, and what every lent number and byte holds afterwards.
-- Assumes nothing.
use Rattle.std.specs.Prelude.{ℕ}
use Rattle.host.specs.Write as writing
use Rattle.records.specs.Results.{WroteC, wrote_by}

-- the request writers, by what they leave
unfoldable pub wrote_c : ℕ → writing.Outcome → WroteC
wrote_c n o = wrote_by n o.buffer o.says
