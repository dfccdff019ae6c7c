-- Laws of the replay: a record of a recording after others, and how far a replay has come.
-- Assumes nothing.
use mathlib.Core.Path.{◌≡◌, sym, ap, ap₂, ◌∙◌}
use mathlib.Core.Bool.{Bool, true}
use mathlib.Core.List.{List, [], ◌∷◌, ◌++◌}
use mathlib.Core.Option.{none, some}
use Prim.Native.Nat.{ℕ, suc, ◌+◌, ◌*◌, ◌-◌, ◌≤◌, ◌<◌}
use native.Mathlib.Nat.{add-zero}
use native.Mathlib.Omega.{arith}
use lib.ListN.{length}
use borrow.Author.Tests.{lt-ltb, le-ltb}
use Rattle.laws.specs.Bytes.{pasted}
use Rattle.laws.specs.Parts.{part_of}
use Rattle.laws.proofs.Choice.{pick_yes, pick_no}
use Rattle.laws.proofs.Lists.{pasted_none, pasted_twice, pasted_length}
use Rattle.recording.specs.Recording.{Entry, is_record, step_at_def, records_of, Reads}
use Rattle.recording.specs.declared.First.{First}
use Rattle.recording.proofs.Along.{reads_next, reads_once}
use Rattle.feed.specs.declared.Rig.{Rig}
use Rattle.feed.specs.Feed.{Answer, Bench, Fed, feed_line_def}
use Rattle.feed.specs.Rig.{bench_in, SameRig}
use Rattle.replay.specs.declared.Answers.{Answers}
use Rattle.replay.specs.Inner.{Ahead, Room, Pushed, Grown, leads_to, came_to}
use Rattle.replay.specs.Replay.{Run, saying, fed, numbers, all_numbers, Replayed, fresh, ending, kept, replayed_by, replayed}

-- the bench with these in its places
abbrev pub bench_of : List ℕ → List ℕ → List ℕ → List ℕ → List ℕ → List ℕ → Bench
bench_of m s tag r p b = record { memory = m; session = s; tag = tag; reader = r; packet = p; reply = b }

-- one answer more, stored behind those before it
ending_next : (k : ℕ) (answers : List ℕ) (a : Answer) (run : Run) → 4 * k + 4 ≤ length answers
    → ending (k + 1) (pasted answers (4 * k) (numbers a)) run ≡ ending k answers (saying a run)
unfolding ending saying all_numbers
ending_next k answers a run h =
    let there : 4 * (k + 1) ≡ 4 * k + 4 = omega arith in
    let one : k + 1 + length run.says ≡ k + suc (length run.says) = omega arith in
    let all : pasted (pasted answers (4 * k) (numbers a)) (4 * (k + 1)) (all_numbers run.says) ≡ pasted answers (4 * k) (numbers a ++ all_numbers run.says) =
    ap (λ (at : ℕ). pasted (pasted answers (4 * k) (numbers a)) at (all_numbers run.says)) there
    ∙ pasted_twice answers (4 * k) (numbers a) (all_numbers run.says) h in
    ap₂ (λ (n : ℕ) (l : List ℕ). record { result = 0; bench = run.bench; answers = l; count = n }) one all

-- a line to the controller is fed, and its answer stored
pub record_fed : (k : ℕ) (answers : List ℕ) (b : Bench) (to : Bool) (line : List ℕ) (rest : List Entry) (f : Fed) → to ≡ true
    → 4 * k + 4 ≤ length answers → f ≡ feed_line_def b line
    → ending (k + 1) (pasted answers (4 * k) (numbers f.says)) (fed rest f.bench)
    ≡ ending k answers (fed (record { is_to_controller = to; line = line } ∷ rest) b)
unfolding fed
record_fed k answers b to line rest f e h g =
    ending_next k answers f.says (fed rest f.bench) h
    ∙ ap (λ (x : Fed). ending k answers (saying x.says (fed rest x.bench))) g
    ∙ rw (e, pick_yes)

-- no record is left
ending_over : (es : List Entry) (k : ℕ) (answers : List ℕ) (b : Bench) → length es ≡ 0
    → ◌≡◌ {A = Replayed} (record { result = 0; bench = b; answers = answers; count = k }) (ending k answers (fed es b))
unfolding ending fed all_numbers
ending_over [] k answers b h = rw (add-zero, pasted_none)
ending_over (e ∷ es) k answers b h = absurd (omega arith)

-- a file without records is refused
pub replayed_none : (b : Bench) (answers : List ℕ) (count : ℕ) (file : List ℕ) → records_of file ≡ none
    → kept b answers count ≡ replayed b answers count file
unfolding replayed_by
replayed_none b answers count file e = rw e

-- so is one with more records than there is room for answers
pub replayed_short : (b : Bench) (answers : List ℕ) (count : ℕ) (file : List ℕ) (es : List Entry) → records_of file ≡ some es
    → length answers < 4 * length es → kept b answers count ≡ replayed b answers count file
unfolding replayed_by
replayed_short b answers count file es e h = rw (e, lt-ltb (length answers) (4 * length es) h, pick_yes)

-- any other is replayed from the first record on
pub replayed_all : (b : Bench) (answers : List ℕ) (count : ℕ) (file : List ℕ) (es : List Entry) → records_of file ≡ some es
    → 4 * length es ≤ length answers → ending 0 answers (fed es (fresh b)) ≡ replayed b answers count file
unfolding replayed_by
replayed_all b answers count file es e h = rw (e, le-ltb (length answers) (4 * length es) h, pick_no)

-- an answer that is pushed leaves the array as long as it was
pub pushed_grown : (a b : Answers) (x : Answer) → Room a 1 → Pushed a b x → Grown a b 1
pushed_grown a b x h p = record {
  same_numbers = p.same_numbers;
  as_long = ap length p.numbers_after ∙ pasted_length a.numbers.now (4 * a.count) (numbers x) (omega (arith, h));
  at_most = omega (arith, p.one_more);
}

-- answers that grew twice
pub grown_again : (a b d : Answers) (n : ℕ) → Grown a b n → Grown b d 1 → Grown a d (n + 1)
grown_again a b d n g h = record {
  same_numbers = h.same_numbers ∙ g.same_numbers;
  as_long = h.as_long ∙ g.as_long;
  at_most = omega (arith, g.at_most, h.at_most);
}

-- a rig that is lent the same twice
pub same_again : (r s t : Rig) → SameRig r s → SameRig s t → SameRig r t
same_again r s t a b = record {
  same_memory = b.same_memory ∙ a.same_memory;
  same_session = b.same_session ∙ a.same_session;
  same_tag = b.same_tag ∙ a.same_tag;
  same_reader = b.same_reader ∙ a.same_reader;
  same_packet = b.same_packet ∙ a.same_packet;
  same_reply = b.same_reply ∙ a.same_reply;
}

-- a line to the controller is fed, and its answer pushed
pub fed_leads : (r s : Rig) (a b : Answers) (to : Bool) (line : List ℕ) (x : Answer) → to ≡ true → Room a 1
    → ◌≡◌ {A = Fed} (record { says = x; bench = bench_in s }) (feed_line_def (bench_in r) line)
    → Pushed a b x
    → (rest : List Entry) → leads_to s b rest ≡ leads_to r a (record { is_to_controller = to; line = line } ∷ rest)
fed_leads r s a b to line x e h f p rest =
    ap₂ (λ (n : ℕ) (l : List ℕ). ending n l (fed rest (bench_in s))) p.one_more p.numbers_after
    ∙ record_fed a.count a.numbers.now (bench_in r) to line rest _ e (omega (arith, h)) f

-- how far a replay of a file has come: these records are left from a place on, there is room for their answers, and they lead to the end that all lead to
pub record Left (file : List ℕ) (first : First) (r : Rig) (a : Answers) (at left : ℕ) (s : Rig) (b : Answers) : Type 0 where
  pub entries : List Entry
  pub reads : Reads file at entries
  pub many : length entries ≡ left
  pub room : Room b left
  pub leads : (es : List Entry) → Reads file first.place es → length es ≡ first.number → leads_to s b entries ≡ leads_to r a es

-- all are left at the first record
pub left_all : (file : List ℕ) (first : First) (r : Rig) (a : Answers) → Ahead file first.place first.number → Room a first.number
    → Left file first r a first.place (first.number - 0) r a
left_all file first r a f h = record {
  entries = f.entries;
  reads = f.reads;
  many = omega (arith, f.many);
  room = omega (arith, h);
  leads = λ es e m. ap (leads_to r a) (reads_once file first.place f.entries es f.reads e);
}

module _ (file : List ℕ) (first : First) (r : Rig) (a : Answers) (at left : ℕ) (s : Rig) (b : Answers) (l : Left file first r a at left s b) where
  -- one record further
  pub left_next : (to : Bool) (from len less : ℕ) (t : Rig) (d : Answers) → 0 < left → is_record to from len ≡ step_at_def file at
      → ((rest : List Entry) → leads_to t d rest ≡ leads_to s b (record { is_to_controller = to; line = part_of file from len } ∷ rest))
      → Grown b d 1
      → less ≡ left - 1
      → Left file first r a (from + len) less t d
  left_next to from len less t d h e step g n =
      let go = reads_next file at l.entries to from len l.reads (omega (arith, h, l.many)) e in
      record {
        entries = go.rest;
        reads = go.reads;
        many = omega (arith, l.many, ap (λ (x : List Entry). length x) go.are, h, n);
        room = omega (arith, l.room, g.at_most, g.as_long, n, h);
        leads = λ es f m. step go.rest ∙ ap (leads_to s b) (sym go.are) ∙ l.leads es f m;
      }

  -- none is left: this is where the replay ends
  pub left_none : left ≡ 0 → (es : List Entry) → Reads file first.place es → length es ≡ first.number → came_to s b ≡ leads_to r a es
  left_none h es e m = ending_over l.entries b.count b.numbers.now (bench_in s) (l.many ∙ h) ∙ l.leads es e m

-- what a replay comes to, whichever way the numbers and bytes come back
pub came_back : (r : Rig) (a : Answers) {x : Replayed} {session tag reader answers : List ℕ} → session ≡ r.session.now → tag ≡ r.tag.now
    → reader ≡ r.reader.now
    → answers ≡ a.numbers.now
    → came_to r a ≡ x
    → record {
      result = 0;
      bench = bench_of r.memory.now session tag reader r.packet.now r.reply.now;
      answers = answers;
      count = a.count;
    } ≡ x
came_back r a s t q l e = rw (s, t, q, l) e
