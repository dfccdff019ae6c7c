-- Lumps for a caller in C: each call goes on as a step of the collector does, and what it stores is read back by the next.
-- Assumes nothing.
use mathlib.Core.Path.{◌≡◌, refl, sym, ap, ap₂, subst, ◌∙◌}
use Prim.Native.Nat.{ℕ, ◌+◌, ◌≤◌}
use native.Mathlib.Omega.{arith}
use mathlib.Core.List.{List, [], ◌∷◌, ◌++◌}
use lib.ListN.{length, get_or, take, drop}
use Rattle.laws.specs.Choice.{pick}
use Rattle.laws.specs.Bytes.{pasted}
use Rattle.frame.specs.Line.{longest}
use Rattle.collector.specs.declared.Collector.{Collector}
use Rattle.collector.specs.Collector.{longest_lump, before, empty, longer, Handed, line, refused, too_long_def, line_of, used_up, refusing, Outcome, collect}
use Rattle.collector.specs.Lumps as lumping
use Rattle.collector.specs.Lumps.{Steps, Lumps, Possible}
use Rattle.collector.proofs.Cut.{possible_empty}
use Rattle.collector.proofs.Lumps.{Stepping, to_end, to_line, to_long, stepping, steps_possible, lumps_give}
use Rattle.reader.specs.declared.Reader.{Reader}
use Rattle.reader.specs.Reader as reading
use Rattle.reader.specs.Lines as reader-lines
use Rattle.roundtrip.specs.Lumped.{hear}
use Rattle.roundtrip.proofs.Lumped.{lumps_heard, lumped_round_trip}
use Rattle.records.specs.Records.{collector_numbers, collector_of, reader_of}
use Rattle.records.specs.Results.{step_result_def, step_length_def, TookLine}
use Rattle.line_calls.specs.Calls.{CollectedC, collected_by, collected_c, took_line}
use Rattle.caller.specs.Lines as row-lines
use Rattle.caller.specs.Lumps.{Calls, over, lined, long, Lumped, none, next, CallerLumps, hearing, RowHears, CallerHears, CallerLumpedRoundTrip}
use Rattle.caller.proofs.Records.{collector_back}
use Rattle.caller.proofs.Lines.{one_line}

-- what a call leaves that was lent the numbers and bytes of a record, by what the collector's step leaves
call_is : (c : Collector) (r held lump : List ℕ) (at : ℕ) (b got : List ℕ) (o : Outcome) → r ≡ collector_numbers c → held ≡ c.held
    → collect c lump at b ≡ o → collected_c r held lump at b got ≡ collected_by r held got o
unfolding collected_c
call_is c r held lump at b got o er eh e =
    ap (λ (x : Outcome). collected_by r held got x)
    (ap₂ (λ (n l : List ℕ). collect (collector_of n l) lump at b) er eh ∙ ap (λ (x : Collector). collect x lump at b) (collector_back c) ∙ e)

-- a step to the lump's end, to a line, and to a line too long
by_end : (r held got b : List ℕ) (place : ℕ) (d : Collector)
    → collected_by r held got (record { says = used_up; place = place; collector = d; buffer = b })
    ≡ record { result = 0; record_after = collector_numbers d; held = d.held; line = b; got = 0 ∷ place ∷ [] }
unfolding collected_by step_result_def step_length_def pick
by_end r held got b place d = refl

by_line : (r held got b : List ℕ) (n place : ℕ) (d : Collector)
    → collected_by r held got (record { says = line_of n; place = place; collector = d; buffer = b })
    ≡ record { result = 0; record_after = collector_numbers d; held = d.held; line = b; got = n ∷ place ∷ [] }
unfolding collected_by step_result_def step_length_def pick
by_line r held got b n place d = refl

by_long : (r held got b : List ℕ) (place : ℕ) (d : Collector)
    → collected_by r held got (record { says = refusing 2; place = place; collector = d; buffer = b })
    ≡ record { result = 2; record_after = collector_numbers d; held = d.held; line = b; got = 0 ∷ place ∷ [] }
unfolding collected_by step_result_def step_length_def pick
by_long r held got b place d = refl

-- the steps of the collector that a caller's calls through a lump are, and the record that his arrays then hold
data Went (c : Collector) (lump : List ℕ) (at : ℕ) (hs : List Handed) (r held : List ℕ) : Type 0 where
  went : (d : Collector) → Steps c lump at hs d → r ≡ collector_numbers d → held ≡ d.held → Went c lump at hs r held

-- a call that used the lump up
went_over : (c : Collector) (r held lump : List ℕ) (at : ℕ) (b got : List ℕ) → r ≡ collector_numbers c → held ≡ c.held → length b ≡ longest
    → Stepping c lump at b → (collected_c r held lump at b got).result ≡ 0 → get_or (collected_c r held lump at b got).got 0 0 ≡ 0
    → Went c lump at [] (collected_c r held lump at b got).record_after (collected_c r held lump at b got).held
went_over c r held lump at b got er eh size (to_end clean o) e f =
    let k = call_is c r held lump at b got _ er eh o ∙ by_end r held got b (length lump) (longer c (drop at lump)) in
    let step = lumping.over {c = c} {lump = lump} {at = at} b size (ap (λ (x : Outcome). x.says) o) in
    went (longer c (drop at lump)) (subst (λ (d : Collector). Steps c lump at [] d) (ap (λ (x : Outcome). x.collector) o) step)
    (ap (λ (x : CollectedC). x.record_after) k) (ap (λ (x : CollectedC). x.held) k)
went_over c r held lump at b got er eh size (to_line l h g small o) e f =
    let k = call_is c r held lump at b got _ er eh o ∙ by_line r held got (pasted b 0 l) (length l) (at + before (drop at lump) + 1) empty in
    let n : length l ≡ 0 = sym (ap (λ (x : CollectedC). get_or x.got 0 0) k) ∙ f in
    absurd (omega (arith, n, small.0))
went_over c r held lump at b got er eh size (to_long h g o) e f =
    let k = call_is c r held lump at b got _ er eh o ∙ by_long r held got b (at + before (drop at lump) + 1) empty in
    let n : ◌≡◌ {A = ℕ} 2 0 = sym (ap (λ (x : CollectedC). x.result) k) ∙ e in
    absurd (omega (arith, n))

-- one more step before others, to a line and to a line too long
line_more : (c : Collector) (lump : List ℕ) (at n place : ℕ) (b buffer : List ℕ) (hs : List Handed) (r held : List ℕ) → length b ≡ longest
    → collect c lump at b ≡ record { says = line_of n; place = place; collector = empty; buffer = buffer } → Went empty lump place hs r held
    → Went c lump at (line (take n buffer) ∷ hs) r held
line_more c lump at n place b buffer hs r held size o (went d steps er eh) =
    let rest : Steps (collect c lump at b).collector lump (collect c lump at b).place hs d = rw o steps in
    let step = lumping.lined {c = c} {lump = lump} {at = at} b n size (ap (λ (x : Outcome). x.says) o) rest in
    went d (rw o at step) er eh

long_more : (c : Collector) (lump : List ℕ) (at place : ℕ) (b buffer : List ℕ) (hs : List Handed) (r held : List ℕ) → length b ≡ longest
    → collect c lump at b ≡ record { says = refusing 2; place = place; collector = empty; buffer = buffer } → Went empty lump place hs r held
    → Went c lump at (too_long_def ∷ hs) r held
long_more c lump at place b buffer hs r held size o (went d steps er eh) =
    let rest : Steps (collect c lump at b).collector lump (collect c lump at b).place hs d = rw o steps in
    went d (lumping.long {c = c} {lump = lump} {at = at} b size (ap (λ (x : Outcome). x.says) o) rest) er eh

-- a call that gave a line, and the calls after it
went_line : (c : Collector) (r held lump : List ℕ) (at : ℕ) (b got : List ℕ) (hs : List Handed)
    (r' held' : List ℕ) → r ≡ collector_numbers c → held ≡ c.held
    → length b ≡ longest → Stepping c lump at b → (collected_c r held lump at b got).result ≡ 0
    → (get_or (collected_c r held lump at b got).got 0 0 ≡ 0 → ⊥)
    → ((collected_c r held lump at b got).record_after ≡ collector_numbers empty → (collected_c r held lump at b got).held ≡ empty.held
    → Went empty lump (get_or (collected_c r held lump at b got).got 1 0) hs r' held')
    → Went c lump at (line (take (get_or (collected_c r held lump at b got).got 0 0) (collected_c r held lump at b got).line) ∷ hs) r' held'
went_line c r held lump at b got hs r' held' er eh size (to_end clean o) e f rest =
    let k = call_is c r held lump at b got _ er eh o ∙ by_end r held got b (length lump) (longer c (drop at lump)) in
    absurd (f (ap (λ (x : CollectedC). get_or x.got 0 0) k))
went_line c r held lump at b got hs r' held' er eh size (to_long h g o) e f rest =
    let k = call_is c r held lump at b got _ er eh o ∙ by_long r held got b (at + before (drop at lump) + 1) empty in
    let n : ◌≡◌ {A = ℕ} 2 0 = sym (ap (λ (x : CollectedC). x.result) k) ∙ e in
    absurd (omega (arith, n))
went_line c r held lump at b got hs r' held' er eh size (to_line l h g small o) e f rest =
    let k = call_is c r held lump at b got _ er eh o ∙ by_line r held got (pasted b 0 l) (length l) (at + before (drop at lump) + 1) empty in
    let after = rest (ap (λ (x : CollectedC). x.record_after) k) (ap (λ (x : CollectedC). x.held) k) in
    let here : Went empty lump (at + before (drop at lump) + 1) hs r' held' = rw k at after in
    rw k (line_more c lump at (length l) (at + before (drop at lump) + 1) b (pasted b 0 l) hs r' held' size o here)

-- a call that refused a line too long, and the calls after it
went_long : (c : Collector) (r held lump : List ℕ) (at : ℕ) (b got : List ℕ) (hs : List Handed)
    (r' held' : List ℕ) → r ≡ collector_numbers c → held ≡ c.held
    → length b ≡ longest → Stepping c lump at b → (collected_c r held lump at b got).result ≡ 2
    → ((collected_c r held lump at b got).record_after ≡ collector_numbers empty → (collected_c r held lump at b got).held ≡ empty.held
    → Went empty lump (get_or (collected_c r held lump at b got).got 1 0) hs r' held')
    → Went c lump at (too_long_def ∷ hs) r' held'
went_long c r held lump at b got hs r' held' er eh size (to_end clean o) e rest =
    let k = call_is c r held lump at b got _ er eh o ∙ by_end r held got b (length lump) (longer c (drop at lump)) in
    let n : ◌≡◌ {A = ℕ} 0 2 = sym (ap (λ (x : CollectedC). x.result) k) ∙ e in
    absurd (omega (arith, n))
went_long c r held lump at b got hs r' held' er eh size (to_line l h g small o) e rest =
    let k = call_is c r held lump at b got _ er eh o ∙ by_line r held got (pasted b 0 l) (length l) (at + before (drop at lump) + 1) empty in
    let n : ◌≡◌ {A = ℕ} 0 2 = sym (ap (λ (x : CollectedC). x.result) k) ∙ e in
    absurd (omega (arith, n))
went_long c r held lump at b got hs r' held' er eh size (to_long h g o) e rest =
    let k = call_is c r held lump at b got _ er eh o ∙ by_long r held got b (at + before (drop at lump) + 1) empty in
    let after = rest (ap (λ (x : CollectedC). x.record_after) k) (ap (λ (x : CollectedC). x.held) k) in
    let here : Went empty lump (at + before (drop at lump) + 1) hs r' held' = rw k at after in
    long_more c lump at (at + before (drop at lump) + 1) b b hs r' held' size o here

-- a caller's calls through a lump
calls_went : (r held lump : List ℕ) (at : ℕ) (hs : List Handed) (r' held' : List ℕ) → Calls r held lump at hs r' held'
    → (c : Collector) → r ≡ collector_numbers c → held ≡ c.held → Possible c → length lump ≤ longest_lump → Went c lump at hs r' held'
calls_went r held lump at hs r' held' (over b got size e f) c er eh p short =
    went_over c r held lump at b got er eh size (stepping c lump at b p short) e f
calls_went r held lump at hs r' held' (lined {hs = ks} b got size e f rest) c er eh p short =
    went_line c r held lump at b got ks r' held' er eh size (stepping c lump at b p short) e f
    (λ er2 eh2. calls_went _ _ lump _ ks r' held' rest empty er2 eh2 possible_empty short)
calls_went r held lump at hs r' held' (long {hs = ks} b got size e rest) c er eh p short =
    went_long c r held lump at b got ks r' held' er eh size (stepping c lump at b p short) e
    (λ er2 eh2. calls_went _ _ lump _ ks r' held' rest empty er2 eh2 possible_empty short)

-- and through lumps one after the other
data WentAll (c : Collector) (lumps : List (List ℕ)) (hs : List Handed) (r held : List ℕ) : Type 0 where
  went_all : (d : Collector) → Lumps c lumps hs d → r ≡ collector_numbers d → held ≡ d.held → WentAll c lumps hs r held

one_lump : (c d : Collector) (lump : List ℕ) (lumps : List (List ℕ)) (hs ks : List Handed) (r held : List ℕ) → length lump ≤ longest_lump
    → Steps c lump 0 hs d → WentAll d lumps ks r held → WentAll c (lump ∷ lumps) (hs ++ ks) r held
one_lump c d lump lumps hs ks r held short steps (went_all e rest er eh) = went_all e (lumping.next short steps rest) er eh

by_lump : (c : Collector) (lump : List ℕ) (lumps : List (List ℕ)) (hs ks : List Handed)
    (r held r' held' : List ℕ) → Possible c → length lump ≤ longest_lump
    → Went c lump 0 hs r held → ((d : Collector) → r ≡ collector_numbers d → held ≡ d.held → Possible d → WentAll d lumps ks r' held')
    → WentAll c (lump ∷ lumps) (hs ++ ks) r' held'
by_lump c lump lumps hs ks r held r' held' p short (went d steps er eh) rest =
    one_lump c d lump lumps hs ks r' held' short steps (rest d er eh (steps_possible c lump 0 hs d p short steps))

lumped_went : (r held : List ℕ) (lumps : List (List ℕ)) (hs : List Handed) (r' held' : List ℕ) → Lumped r held lumps hs r' held'
    → (c : Collector) → r ≡ collector_numbers c → held ≡ c.held → Possible c → WentAll c lumps hs r' held'
lumped_went r held lumps hs r' held' none c er eh p = went_all c lumping.none er eh
lumped_went r held lumps hs r' held' (next {r' = r1} {held' = h1} {lump = lump} {lumps = rest} {hs = hs1} {ks = ks} short calls more) c er eh p =
    by_lump c lump rest hs1 ks r1 h1 r' held' p short (calls_went r held lump 0 hs1 r1 h1 calls c er eh p short)
    (λ d er2 eh2 q. lumped_went r1 h1 rest ks r' held' more d er2 eh2 q)

-- what holds of the steps holds of the calls
by_steps : (c : Collector) (lumps : List (List ℕ)) (hs : List Handed) (r held : List ℕ) (P : Type 0)
    → ((d : Collector) → Lumps c lumps hs d → r ≡ collector_numbers d → held ≡ d.held → P) → WentAll c lumps hs r held → P
by_steps c lumps hs r held P f (went_all d given er eh) = f d given er eh

pub caller_lumps : CallerLumps
caller_lumps c lumps hs r held p given =
    by_steps c lumps hs r held _
    (λ d steps er eh. let w = lumps_give c lumps hs d p steps in
    (w.0, er ∙ ap collector_numbers w.1, eh ∙ ap (λ (x : Collector). x.held) w.1))
    (lumped_went _ _ lumps hs r held given c refl refl p)

-- what is said to what was handed on is what the reader says
pub row_hears : RowHears
unfolding hearing hear row-lines.saying reader-lines.saying
row_hears [] r p b i = refl
row_hears (line l ∷ hs) r p b i =
    let t : TookLine = took_line r l p b i in
    let m = one_line r l p b i in
    let o : reading.Outcome = reading.take_line_def (reader_of r) l p in
    ap₂ reader-lines.saying m.says (row_hears hs t.record_after t.packet t.body t.place)
    ∙ ap₂ (λ (k : Reader) (q : List ℕ). reader-lines.saying o.says (hear hs k q)) m.reader m.packet
row_hears (refused n ∷ hs) r p b i = ap (λ (x : reader-lines.Run). reader-lines.saying (reading.refused n) x) (row_hears hs r p b i)

pub caller_hears : CallerHears
caller_hears r p b i lumps hs record_after held given =
    by_steps empty lumps hs record_after held _ (λ d steps er eh. row_hears hs r p b i ∙ lumps_heard lumps hs d (reader_of r) p steps)
    (lumped_went _ _ lumps hs record_after held given empty refl refl possible_empty)

pub caller_lumped_round_trip : CallerLumpedRoundTrip
caller_lumped_round_trip s r p b i lines says lumps hs record_after held bytes least most room amid whole same given =
    by_steps empty lumps hs record_after held _
    (λ d steps er eh. let w = lumped_round_trip s p (reader_of r) lines says lumps hs d bytes least most room amid whole same steps in
    (row_hears hs r p b i ∙ w.0, er ∙ ap collector_numbers w.1, eh ∙ ap (λ (x : Collector). x.held) w.1))
    (lumped_went _ _ lumps hs record_after held given empty refl refl possible_empty)
