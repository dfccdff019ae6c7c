-- What each call of packets returns, and what every lent number and byte holds afterwards.
-- Assumes nothing.
use Rattle.std.specs.Prelude.{ℕ, List}
use Rattle.session.specs.Session as slots
use Rattle.controller.specs.Handle as handling
use Rattle.replies.specs.Read as hearing
use Rattle.records.specs.Records.{layout_of, session_of, session_numbers, reply_numbers_def}
use Rattle.records.specs.Results.{HandledC, handled_by}

-- bg_configure: the result, the session numbers and the tag
pub record ConfiguredC : Type 0 where
  pub result : ℕ
  pub session : List ℕ
  pub tag : List ℕ

unfoldable pub configured_by : List ℕ → List ℕ → slots.Said → ConfiguredC
configured_by s tag (slots.ready layout) = record { result = 0; session = session_numbers slots.closed; tag = slots.no_tag }
configured_by s tag (slots.refused n) = record { result = n; session = s; tag = tag }

unfoldable pub configured_c : List ℕ → ℕ → List ℕ → List ℕ → ConfiguredC
configured_c layout m s tag = configured_by s tag (slots.configured (layout_of layout) m)

-- bg_handle: by what the request call said of the state that was lent
unfoldable pub handled_c : List ℕ → List ℕ → List ℕ → List ℕ → List ℕ → List ℕ → List ℕ → HandledC
handled_c layout m s tag p b a =
    let o : handling.Outcome = handling.handle (layout_of layout) (slots.state_of m tag (session_of s)) p b in
    handled_by s a o o.says

-- bg_read_reply: the result, and the reply's numbers
pub record ReadC : Type 0 where
  pub result : ℕ
  pub reply : List ℕ

unfoldable pub read_by : List ℕ → hearing.Said → ReadC
read_by was (hearing.reply r) = record { result = 0; reply = reply_numbers_def r }
read_by was (hearing.refused n) = record { result = n; reply = was }

unfoldable pub read_c : List ℕ → List ℕ → ReadC
read_c p was = read_by was (hearing.read_reply_def p)
