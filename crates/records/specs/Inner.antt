-- Only proofs need this file: which records and answers the arrays of 32-bit numbers can hold.
-- Assumes nothing.
use Rattle.std.specs.Prelude.{◌≤◌, ◌<◌, ◌≡◌, false}
use Rattle.reader.specs.declared.Reader.{Reader}
use Rattle.reader.specs.declared.Reader.TheVariants.{Idle, Open}
use Rattle.reader.specs.Reader as reading
use Rattle.session.specs.declared.Session.{Session}
use Rattle.controller.specs.Handle as handling
use Rattle.replies.specs.declared.Reply.{Reply}
use Rattle.replies.specs.Read.{or_zero}
use Rattle.records.specs.Records.{run_start_def, run_length_def}
use Rattle.records.specs.Results.{keeps_record_def}

-- a reader's record whose numbers fit
abbrev pub Storable : Reader → Type 0
Storable Idle = Unit {0}
Storable (Open total come first) = (total ≤ 65535) × (come ≤ 65535)

-- what the reader said, with its record, can be handed over
abbrev pub SmallBy : reading.Said → Reader → Type 0
SmallBy reading.more r = Storable r
SmallBy (reading.body n) r = (n ≤ 65533) × Storable r
SmallBy (reading.refused n) r = keeps_record_def n ≡ false → Storable r
SmallBy (reading.is_bad_text i) r = (i < 4294967296) × Storable r

-- a session record whose numbers fit
abbrev pub Held32 : Session → Type 0
Held32 s = (s.length < 4294967296) × (s.place < 4294967296)

-- what the request call said can be handed over
abbrev pub HandledSmall : handling.Said → Type 0
HandledSmall (handling.replied n) = n < 4294967296
HandledSmall (handling.reset_asked n) = n < 4294967296
HandledSmall (handling.refused n) = Unit {0}

-- a reply's numbers fit the 32 bits that C reads; its four other header fields are bytes
pub record ReplySmall (r : Reply) : Type 0 where
  pub length : r.header.length ≤ 4294967295
  pub group : r.header.group ≤ 4294967295
  pub rc : r.rc ≤ 4294967295
  pub off : or_zero r.off ≤ 4294967295
  pub start : run_start_def r.text ≤ 4294967295
  pub run : run_length_def r.text ≤ 4294967295
