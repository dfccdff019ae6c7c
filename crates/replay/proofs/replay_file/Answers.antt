-- `replay::replay_file` meets its contract: the two refusals, or the records from the first one on, fed to a fresh bench.
-- Assumes nothing.
use mathlib.Core.Path.{sym, ap, ◌∙◌}
use mathlib.Core.List.{List}
use Prim.Native.Nat.{ℕ}
use native.Mathlib.Omega.{arith}
use lib.ListN.{replicate}
use Rattle.refusal.specs.Number.{number_of}
use Rattle.recording.proofs.Along.{first_begins, first_none}
use Rattle.replay.specs.Replay.{fed, ending}
use Rattle.replay.proofs.Laws.{bench_of, came_back, replayed_none, replayed_short, replayed_all}
use Rattle.replay.proofs.replay_file.Goals as goal

pub returns-in_default : goal.returns-in_default
returns-in_default c =
    let a = c.args in
    let b = bench_of a.memory.now a.session.now a.tag.now a.reader.now a.packet.now a.reply.now in
    rw c.from.ensures
    (replayed_none b a.answers.now a.count.now a.file.now (first_none a.file.now (number_of c.in_default.field-0) c.in_default.ensures))

pub returns-then-answers-first : goal.returns-then-answers-first
returns-then-answers-first c =
    let a = c.args in
    let f = first_begins a.file.now c.in-Ok.first.place c.in-Ok.first.number c.in-Ok.ensures in
    let b = bench_of a.memory.now a.session.now a.tag.now a.reader.now a.packet.now a.reply.now in
    rw c.from-then-answers-first.ensures
    (replayed_short b a.answers.now a.count.now a.file.now f.entries f.are (omega (arith, c.if-answers-first.true, f.many)))

pub replay_records-requires-clause-ahead : goal.replay_records-requires-clause-ahead
replay_records-requires-clause-ahead c =
    let f = first_begins c.args.file.now c.in-Ok.first.place c.in-Ok.first.number c.in-Ok.ensures in
    record { entries = f.entries; reads = f.reads; many = f.many }

pub returns : goal.returns
returns c =
    let a = c.args in
    let f = first_begins a.file.now c.in-Ok.first.place c.in-Ok.first.number c.in-Ok.ensures in
    let b = bench_of a.memory.now a.session.now a.tag.now a.reader.now a.packet.now a.reply.now in
    let r = c.replay_records in
    let same = r.ensures.same_rig in
    came_back r.new.rig r.new.answers (grind (arith, sym same.same_session)) (grind (arith, sym same.same_tag)) (grind (arith, sym same.same_reader))
    (grind (arith, sym r.ensures.grown.same_numbers))
    (r.ensures.ends f.entries f.reads f.many
    ∙ ap (λ (m : List ℕ). ending 0 a.answers.now (fed f.entries (bench_of m (replicate 4 0) (replicate 32 0) (replicate 4 0) a.packet.now a.reply.now)))
    (c.fill.ensures.after (λ y e. e))
    ∙ replayed_all b a.answers.now a.count.now a.file.now f.entries f.are (omega (arith, c.if-answers-first.false, f.many)))
