-- Each call's outcome leads back to what the call gave and left, so no two of these have one outcome. One law serves every call.
-- Assumes nothing.
use Prim.Native.Nat.{ℕ}
use mathlib.Core.Path.{◌≡◌, refl, sym, ap, ◌∙◌}
use mathlib.Core.Bool.{Bool, true, false}
use mathlib.Core.List.{List}
use Rattle.std.specs.Prelude.{Option, Some, None, Result, Ok, Err}
use Rattle.laws.specs.Choice.{pick}
use Rattle.refusal.specs.declared.Refusal.{Refusal}
use Rattle.refusal.specs.Number.{number_of}
use Rattle.refusal.proofs.Once.{refusal_of, number_back}
use Rattle.collector.specs.declared.Step.{Step}
use Rattle.collector.specs.Collector as collecting
use Rattle.reader.specs.declared.Taken.{Taken}
use Rattle.reader.specs.declared.LineError.{LineError}
use Rattle.reader.specs.Reader as reading
use Rattle.sender.specs.declared.Sent.{Sent}
use Rattle.sender.specs.Sender as sending
use Rattle.session.specs.declared.Layout.{Layout}
use Rattle.session.specs.Session as slots
use Rattle.controller.specs.declared.Handled.{Handled}
use Rattle.controller.specs.declared.Replied.{Replied}
use Rattle.controller.specs.Handle as handling
use Rattle.host.specs.Write as writing
use Rattle.replies.specs.declared.Reply.{Reply}
use Rattle.replies.specs.Read as hearing
use Rattle.recording.specs.declared.First.{First}
use Rattle.recording.specs.declared.Record.{Record}
use Rattle.recording.specs.Recording as recording
use Rattle.transcript.specs.Transcript as printing
use Rattle.determined.specs.Determined.{
  Determines,
  StepDetermined,
  LineDetermined,
  FrameDetermined,
  ConfiguredDetermined,
  HandledDetermined,
  WrittenDetermined,
  HeardDetermined,
  FirstDetermined,
  FoundDetermined,
  TextDetermined,
}

-- what leads back determines
pub by_return : {A O : Type 0} (f : A → O) (back : O → A) → ((a : A) → back (f a) ≡ a) → Determines f
by_return f back returns o a b p q = sym (returns a) ∙ ap back (p ∙ sym q) ∙ returns b

-- a refusal, from its number
abbrev refusing : {A : Type 0} → ℕ → Result A Refusal
refusing n = Err (refusal_of n)

refusing_back : {A : Type 0} (r : Refusal) → ◌≡◌ {A = Result A Refusal} (Err (refusal_of (number_of r))) (Err r)
refusing_back {A} r = ap {A = Refusal} {B = Result A Refusal} (λ x. Err x) (number_back r)

-- what a step of the collector gave, from what it said
abbrev ungiven : collecting.Said → Result (Option ℕ) Refusal
ungiven (collecting.line_of n) = Ok (Some n)
ungiven collecting.used_up = Ok None
ungiven (collecting.refusing n) = refusing n

ungiven_said : (g : Result (Option ℕ) Refusal) → ungiven (collecting.said g) ≡ g
ungiven_said (Ok (Some n)) = refl
ungiven_said (Ok None) = refl
ungiven_said (Err r) = refusing_back r

pub step_determined : StepDetermined
step_determined =
    by_return (λ x. collecting.outcome x.0 x.1)
    (λ o. (record { got = ungiven o.says; place = o.place; collector = o.collector }, o.buffer))
    (λ x. ap {A = Result (Option ℕ) Refusal} {B = Step × List ℕ} (λ g. (record { got = g; place = x.0.place; collector = x.0.collector }, x.1))
    (ungiven_said x.0.got))

-- the reader's answer, from what it said
abbrev unsaid : reading.Said → Result (Option ℕ) LineError
unsaid reading.more = Ok None
unsaid (reading.body n) = Ok (Some n)
unsaid (reading.refused n) = Err (LineError.Refused (refusal_of n))
unsaid (reading.is_bad_text i) = Err (LineError.BadText i)

unsaid_said : (a : Result (Option ℕ) LineError) → unsaid (reading.said a) ≡ a
unsaid_said (Ok None) = refl
unsaid_said (Ok (Some n)) = refl
unsaid_said (Err (LineError.Refused r)) = ap {A = Refusal} {B = Result (Option ℕ) LineError} (λ x. Err (LineError.Refused x)) (number_back r)
unsaid_said (Err (LineError.BadText i)) = refl

pub line_determined : LineDetermined
line_determined =
    by_return (λ x. reading.outcome x.0 x.1)
    (λ o. (record { answer = unsaid o.says; reader = o.reader }, o.buffer))
    (λ x. ap {A = Result (Option ℕ) LineError} {B = Taken × List ℕ} (λ a. (record { answer = a; reader = x.0.reader }, x.1)) (unsaid_said x.0.answer))

-- the sender's answer, from what it said
abbrev untold : sending.Told → Result Sent Refusal
untold (sending.is_frame n count) = Ok (record { length = n; count = count })
untold (sending.refused n) = refusing n

untold_told : (s : Result Sent Refusal) → untold (sending.told s) ≡ s
untold_told (Ok s) = refl
untold_told (Err r) = refusing_back r

pub frame_determined : FrameDetermined
frame_determined =
    by_return (λ x. sending.outcome x.0 x.1)
    (λ o. (untold o.says, o.buffer))
    (λ x. ap {A = Result Sent Refusal} {B = Result Sent Refusal × List ℕ} (λ s. (s, x.1)) (untold_told x.0))

-- what configuring gave, from what it said
abbrev unready : slots.Said → Result Layout Refusal
unready (slots.ready layout) = Ok layout
unready (slots.refused n) = refusing n

pub configured_determined : ConfiguredDetermined
configured_determined = by_return slots.said unready back
  where
    back : (c : Result Layout Refusal) → unready (slots.said c) ≡ c
    back (Ok layout) = refl
    back (Err r) = refusing_back r

-- what the request call gave, from what it said
abbrev unhandled : handling.Said → Result Replied Refusal
unhandled (handling.replied n) = Ok (record { length = n; asks_reset = false })
unhandled (handling.reset_asked n) = Ok (record { length = n; asks_reset = true })
unhandled (handling.refused n) = refusing n

asked_back : (n : ℕ) (b : Bool) → unhandled (pick b (handling.reset_asked n) (handling.replied n)) ≡ Ok (record { length = n; asks_reset = b })
unfolding pick
asked_back n true = refl
asked_back n false = refl

unhandled_said : (a : Result Replied Refusal) → unhandled (handling.said a) ≡ a
unhandled_said (Ok r) = asked_back r.length r.asks_reset
unhandled_said (Err r) = refusing_back r

pub handled_determined : HandledDetermined
handled_determined =
    by_return (λ x. handling.outcome x.0 x.1 x.2 x.3)
    (λ o. (record { answer = unhandled o.says; session = o.state.session }, o.state.memory, o.state.tag, o.reply))
    (λ x. ap {A = Result Replied Refusal} {B = Handled × List ℕ × List ℕ × List ℕ}
    (λ a. (record { answer = a; session = x.0.session }, x.1, x.2, x.3)) (unhandled_said x.0.answer))

-- what a writer gave, from what it said
abbrev unwritten : writing.Told → Result ℕ Refusal
unwritten (writing.packet n) = Ok n
unwritten (writing.refused n) = refusing n

unwritten_told : (w : Result ℕ Refusal) → unwritten (writing.told w) ≡ w
unwritten_told (Ok n) = refl
unwritten_told (Err r) = refusing_back r

pub written_determined : WrittenDetermined
written_determined =
    by_return (λ x. writing.outcome x.0 x.1) (λ o. (unwritten o.says, o.buffer))
    (λ x. ap {A = Result ℕ Refusal} {B = Result ℕ Refusal × List ℕ} (λ w. (w, x.1)) (unwritten_told x.0))

-- what the reply reader gave, from what it said
abbrev unheard : hearing.Said → Result Reply Refusal
unheard (hearing.reply r) = Ok r
unheard (hearing.refused n) = refusing n

pub heard_determined : HeardDetermined
heard_determined = by_return hearing.said unheard back
  where
    back : (h : Result Reply Refusal) → unheard (hearing.said h) ≡ h
    back (Ok r) = refl
    back (Err r) = refusing_back r

-- where a recording's first record stands, from what is said of it
abbrev unbegun : recording.Begun → Result First Refusal
unbegun (recording.first_at place number) = Ok (record { place = place; number = number })
unbegun (recording.unreadable n) = refusing n

pub first_determined : FirstDetermined
first_determined = by_return recording.begun unbegun back
  where
    back : (f : Result First Refusal) → unbegun (recording.begun f) ≡ f
    back (Ok first) = refl
    back (Err r) = refusing_back r

-- what stands at a place of a recording, from what is said of it
abbrev unfound : recording.Said → Result (Option Record) Refusal
unfound (recording.is_record to start len) = Ok (Some (record { to_controller = to; line = record { start = start; len = len } }))
unfound recording.over = Ok None
unfound (recording.refused n) = refusing n

pub found_determined : FoundDetermined
found_determined = by_return recording.said unfound back
  where
    back : (s : Result (Option Record) Refusal) → unfound (recording.said s) ≡ s
    back (Ok (Some r)) = refl
    back (Ok None) = refl
    back (Err r) = refusing_back r

-- what writing a text gave, from what is said of it
abbrev unprinted : printing.Said → Result ℕ Refusal
unprinted (printing.text n) = Ok n
unprinted (printing.refused n) = refusing n

unprinted_said : (t : Result ℕ Refusal) → unprinted (printing.said t) ≡ t
unprinted_said (Ok n) = refl
unprinted_said (Err r) = refusing_back r

pub text_determined : TextDetermined
text_determined =
    by_return (λ x. record { says = printing.said x.0; out = x.1 }) (λ o. (unprinted o.says, o.out))
    (λ x. ap {A = Result ℕ Refusal} {B = Result ℕ Refusal × List ℕ} (λ t. (t, x.1)) (unprinted_said x.0))
