-- Stored records are read back.
-- Assumes nothing.
use mathlib.Core.Path.{◌≡◌, refl, ap, ap₂}
use mathlib.Core.Bool.{Bool, true, false}
use borrow.Author.Tests.{le-ltb}
use native.Mathlib.Omega.{arith}
use Rattle.laws.specs.Choice.{pick}
use Rattle.reader.specs.declared.Reader.TheVariants.{Idle, Open}
use Rattle.fields.specs.Fields.{flag_number_def}
use Rattle.records.specs.Records.{flag_of_def, collector_numbers, reader_from_def, reader_numbers, session_numbers}
use Rattle.caller.specs.Records.{CollectorBack, SessionBack, ReaderBack}

-- a flag that was stored is read back
flag_back : (b : Bool) → flag_of_def (flag_number_def b) ≡ b
unfolding flag_number_def
flag_back true = refl
flag_back false = refl

-- a collector's record that was stored is read back
pub collector_back : CollectorBack
unfolding collector_numbers
collector_back c = ap (λ (s : Bool). record { held = c.held; count = c.count; skipping = s }) (flag_back c.skipping)

-- a session record that was stored is read back
pub session_back : SessionBack
unfolding session_numbers
session_back s =
    ap₂ (λ (r t : Bool). record { running = r; length = s.length; place = s.place; tagged = t }) (flag_back s.running) (flag_back s.tagged)

-- a reader's record that was stored is read back
pub reader_back : ReaderBack
unfolding reader_numbers reader_from_def pick
reader_back Idle h = refl
reader_back (Open total come first) h = rw (le-ltb 255 first (omega arith))
