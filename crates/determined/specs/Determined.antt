-- "Each public call's promise determines the answer and every lent byte afterwards": any two outcomes that a promise allows are equal.
-- A promise is an equation, `outcome .. ≡ definition of the inputs`, so this says of each call that what it gives and leaves, taken together,
-- is read off the outcome in one way only. (The calls of the C interface, and the replay, promise the record of all that they return and leave itself,
-- so nothing is left to show of them.)
-- Assumes nothing.
use Rattle.std.specs.Prelude.{ℕ, ◌≡◌, List, Option, Result}
use Rattle.refusal.specs.declared.Refusal.{Refusal}
use Rattle.collector.specs.declared.Step.{Step}
use Rattle.collector.specs.Collector as collecting
use Rattle.reader.specs.declared.Taken.{Taken}
use Rattle.reader.specs.Reader as reading
use Rattle.sender.specs.declared.Sent.{Sent}
use Rattle.sender.specs.Sender as sending
use Rattle.session.specs.declared.Layout.{Layout}
use Rattle.session.specs.Session as slots
use Rattle.controller.specs.declared.Handled.{Handled}
use Rattle.controller.specs.Handle as handling
use Rattle.host.specs.Write as writing
use Rattle.replies.specs.declared.Reply.{Reply}
use Rattle.replies.specs.Read as hearing
use Rattle.recording.specs.declared.First.{First}
use Rattle.recording.specs.declared.Record.{Record}
use Rattle.recording.specs.Recording as recording
use Rattle.transcript.specs.Transcript as printing

-- a promise `f a ≡ o` determines a
abbrev pub Determines : {A O : Type 0} → (A → O) → Type 0
Determines {A} {O} f = (o : O) (a b : A) → f a ≡ o → f b ≡ o → a ≡ b

-- collect: the answer with the place and the record, and the lent array
abbrev pub StepDetermined : Type 0
StepDetermined = Determines {A = Step × List ℕ} {O = collecting.Outcome} (λ x. collecting.outcome x.0 x.1)

-- take_line: the answer with the record, and the packet buffer
abbrev pub LineDetermined : Type 0
LineDetermined = Determines {A = Taken × List ℕ} {O = reading.Outcome} (λ x. reading.outcome x.0 x.1)

-- send_frame: the answer, and the output
abbrev pub FrameDetermined : Type 0
FrameDetermined = Determines {A = Result Sent Refusal × List ℕ} {O = sending.Outcome} (λ x. sending.outcome x.0 x.1)

-- configure: the answer
abbrev pub ConfiguredDetermined : Type 0
ConfiguredDetermined = Determines {A = Result Layout Refusal} {O = slots.Said} slots.said

-- handle_packet: the answer with the session record, the memory, the tag and the reply buffer
abbrev pub HandledDetermined : Type 0
HandledDetermined = Determines {A = Handled × List ℕ × List ℕ × List ℕ} {O = handling.Outcome} (λ x. handling.outcome x.0 x.1 x.2 x.3)

-- the request writers: the answer, and the output
abbrev pub WrittenDetermined : Type 0
WrittenDetermined = Determines {A = Result ℕ Refusal × List ℕ} {O = writing.Outcome} (λ x. writing.outcome x.0 x.1)

-- read_reply: the answer
abbrev pub HeardDetermined : Type 0
HeardDetermined = Determines {A = Result Reply Refusal} {O = hearing.Said} hearing.said

-- first_record: the answer
abbrev pub FirstDetermined : Type 0
FirstDetermined = Determines {A = Result First Refusal} {O = recording.Begun} recording.begun

-- read_at, and the recording reader: the answer
abbrev pub FoundDetermined : Type 0
FoundDetermined = Determines {A = Result (Option Record) Refusal} {O = recording.Said} recording.said

-- write_transcript: the answer, and the output
abbrev pub TextDetermined : Type 0
TextDetermined = Determines {A = Result ℕ Refusal × List ℕ} {O = printing.Outcome} (λ x. record { says = printing.said x.0; out = x.1 })
