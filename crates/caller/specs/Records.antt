-- A record that a call stored in the caller's array is read back by the next call.
-- Assumes nothing.
use Rattle.std.specs.Prelude.{◌<◌, ◌≡◌}
use Rattle.collector.specs.declared.Collector.{Collector}
use Rattle.reader.specs.declared.Reader.{Reader}
use Rattle.reader.specs.declared.Reader.TheVariants.{Idle, Open}
use Rattle.session.specs.declared.Session.{Session}
use Rattle.records.specs.Records.{collector_of, collector_numbers, reader_of, reader_numbers, session_of, session_numbers}

-- the collector's record
abbrev pub CollectorBack : Type 0
CollectorBack = (c : Collector) → collector_of (collector_numbers c) c.held ≡ c

-- the session record
abbrev pub SessionBack : Type 0
SessionBack = (s : Session) → session_of (session_numbers s) ≡ s

-- the first CRC byte of a reader's record is a byte
abbrev pub FirstByte : Reader → Type 0
FirstByte Idle = Unit {0}
FirstByte (Open total come first) = first < 256

-- the reader's record
abbrev pub ReaderBack : Type 0
ReaderBack = (r : Reader) → FirstByte r → reader_of (reader_numbers r) ≡ r
