-- What a request does to memory, session and tag, whoever asked for it.
-- Assumes nothing.
use Rattle.std.specs.Prelude.{ℕ, ◌+◌, Bool, true, List, length, replicate, Option, is_some, Result, Ok, Err}
use Rattle.laws.specs.declared.Run.{Run}
use Rattle.laws.specs.Choice.{pick}
use Rattle.laws.specs.Bytes.{pasted}
use Rattle.laws.specs.Parts.{part_of, bytes_in}
use Rattle.reason.specs.declared.Reason.{Reason}
use Rattle.session.specs.declared.Slot.{Slot}
use Rattle.session.specs.declared.Session.{Session}
use Rattle.rules.specs.declared.Upload.{Upload}
use Rattle.rules.specs.declared.Plan.{Plan}
use Rattle.rules.specs.declared.Plan.TheVariants.{Tell, Append, Start}
use Rattle.session.specs.Session.{State, state_of, no_tag, closed_in}

-- what may be done: nothing; data added at the session's place, with the offset that its request names; a session started, with its length,
-- whether it has a tag, the tag and the first data; the slot erased; the session ended
pub data Act : Type 0 where
  keep : Act
  append : ℕ → List ℕ → Act
  start : ℕ → Bool → List ℕ → List ℕ → Act
  erase : Act
  end : Act

-- the memory with every byte of the slot 255
unfoldable pub blank : Slot → List ℕ → List ℕ
blank slot m = pasted m slot.start (replicate slot.size 255)

-- the session with n bytes more
abbrev pub grown : Session → ℕ → Session
grown s n = record { running = s.running; length = s.length; place = s.place + n; tagged = s.tagged }

-- the session of this length, at place n, with a tag or none
abbrev pub opened : ℕ → ℕ → Bool → Session
opened l n tagged = record { running = true; length = l; place = n; tagged = tagged }

-- the state after an act
unfoldable pub done : Slot → Act → State → State
done slot keep st = st
done slot (append off x) st = state_of (pasted st.memory (slot.start + st.session.place) x) st.tag (grown st.session (length x))
done slot (start l tagged tag x) st = state_of (pasted (blank slot st.memory) slot.start x) tag (opened l (length x) tagged)
done slot erase st = closed_in (blank slot st.memory)
done slot end st = closed_in st.memory

-- a request's data, out of the bytes that it came in
abbrev pub data_in : List ℕ → Upload → List ℕ
data_in s u = part_of s u.data.start u.data.len

-- the tag that a session keeps: the request's, or zeros where it has none
unfoldable pub tag_kept : List ℕ → Option Run → List ℕ
tag_kept s sha = pick (is_some sha) (bytes_in s sha) no_tag

-- the act that a plan comes to, for a request
unfoldable pub act_of : List ℕ → Upload → Result Plan Reason → Act
act_of s u (Err why) = keep
act_of s u (Ok (Tell n)) = keep
act_of s u (Ok Append) = append u.off (data_in s u)
act_of s u (Ok (Start l)) = start l (is_some u.sha) (tag_kept s u.sha) (data_in s u)
