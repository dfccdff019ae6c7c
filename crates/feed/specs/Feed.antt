-- Lines fed to a controller on a bench, by hand: each goes to the call that takes a line, and each packet that this completes to the request call. What is
-- said of each line, and what it leaves.
-- Assumes nothing.
use Rattle.std.specs.Prelude.{ℕ, ◌≡◌, ◌≢◌, List, [], ◌∷◌, eqb, take, get_or, replicate, Option, Some, None, Result, Ok, Err, IfErr}
use Rattle.laws.specs.Choice.{pick}
use Rattle.records.specs.Results.{TookLine, HandledC}
use Rattle.line_calls.specs.Calls.{took_line}
use Rattle.packet_calls.specs.Calls.{handled_c, read_c}
use Rattle.feed.specs.declared.Refused.{Refused}

-- a controller on the bench, in the numbers and bytes of the calls: memory, session and tag, the reader's record, and the packet and reply buffers
pub record Bench : Type 0 where
  pub memory : List ℕ
  pub session : List ℕ
  pub tag : List ℕ
  pub reader : List ℕ
  pub packet : List ℕ
  pub reply : List ℕ

-- what is said of a line: the refusal of the line, or of the packet that it completed, or 0; 1 where it completed a packet that was replied to, else 0;
-- the reply's return code, or 0; and the place in a line that is refused for its text, or 0
pub record Answer : Type 0 where
  pub refusal : ℕ
  pub replied : ℕ
  pub rc : ℕ
  pub place : ℕ

-- "slot 0 the first half, upload slot the second", of 8,192 bytes
abbrev pub halves : List ℕ
halves = 0 ∷ 4096 ∷ 4096 ∷ 4096 ∷ []

-- what is said of a line: nothing yet, a reply with this return code, or the refusal of this number, with a place in the line or 0
abbrev pub more : Answer
more = record { refusal = 0; replied = 0; rc = 0; place = 0 }

abbrev pub replying : ℕ → Answer
replying n = record { refusal = 0; replied = 1; rc = n; place = 0 }

abbrev pub refusing : ℕ → ℕ → Answer
refusing n i = record { refusal = n; replied = 0; rc = 0; place = i }

-- each answer's meaning
abbrev pub said : Result (Option ℕ) Refused → Answer
said (Ok None) = more
said (Ok (Some rc)) = replying rc
said (Err r) = refusing r.refusal r.place

-- an answer that refuses has the refusal's number, which is never 0
abbrev pub IsNumbered : Result (Option ℕ) Refused → Type 0
IsNumbered x = IfErr x (λ why. why.refusal ≢ 0)

-- such an answer is determined by what it means
abbrev pub AnswerDetermined : Type 0
AnswerDetermined = (x y : Result (Option ℕ) Refused) → IsNumbered x → IsNumbered y → said x ≡ said y → x ≡ y

-- what is said of a line, and what it leaves
pub record Fed : Type 0 where
  pub says : Answer
  pub bench : Bench

-- the return code of a reply, the seventh number that is read of it: "A reply without "rc" prints 0." So does one that is not read, the list of images
unfoldable pub rc_in : List ℕ → ℕ
rc_in p = get_or (read_c p (replicate 12 0)).reply 6 0

-- what the request call leaves on the bench
abbrev pub handed : Bench → HandledC → Bench
handed b h = record { memory = h.memory; session = h.session; tag = h.tag; reader = b.reader; packet = b.packet; reply = h.reply }

-- what is said of a packet by what the request call gives: its refusal, or the return code of its reply
unfoldable pub answered : HandledC → Answer
answered h = pick (eqb h.result 0) (replying (rc_in (take (get_or h.answer 0 0) h.reply))) (refusing h.result 0)

-- a packet of n bytes at the packet buffer's start goes to the request call
unfoldable pub hand_over_def : Bench → ℕ → Fed
hand_over_def b n =
    let h : HandledC = handled_c halves b.memory b.session b.tag (take n b.packet) b.reply (0 ∷ 0 ∷ []) in
    record { says = answered h; bench = handed b h }

-- what the reader leaves on the bench
abbrev pub took : Bench → TookLine → Bench
took b t = record { memory = b.memory; session = b.session; tag = b.tag; reader = t.record_after; packet = t.packet; reply = b.reply }

-- a line by what the reader gives: its refusal with the place, more is wanted, or a packet of so many bytes
unfoldable pub go_on : Bench → TookLine → Fed
go_on b t =
    pick (eqb t.result 0)
    (pick (eqb t.body 0) (record { says = more; bench = took b t }) (hand_over_def (took b t) t.body))
    (record { says = refusing t.result t.place; bench = took b t })

-- one line: it goes to the reader, with *body and *place 0
unfoldable pub feed_line_def : Bench → List ℕ → Fed
feed_line_def b line = go_on b (took_line b.reader line b.packet 0 0)
