-- `history::handle_run` meets its contract: each packet is one call more, and each call keeps the demand.
-- Assumes nothing.
use mathlib.Core.Path.{◌≡◌, refl, sym, ap, subst, ◌∙◌}
use mathlib.Core.List.{List}
use Prim.Native.Nat.{ℕ, ◌+◌, ◌-◌, ◌≤◌}
use native.Mathlib.Omega.{arith}
use lib.ListN.{length, take, drop}
use Rattle.session.specs.declared.Session.{Session}
use Rattle.session.specs.Session.{state_of, no_tag, closed_in}
use Rattle.laws.proofs.Lists.{two_bytes}
use Rattle.controller.specs.Handle.{Outcome, handle}
use Rattle.history.specs.Calls.{size_at}
use Rattle.history.proofs.Calls.{Come, come_none, come_more, come_end, run_cut, run_end}
use Rattle.history.proofs.handle_run.Goals as goal

pub loop-at-init : goal.loop-at-init
loop-at-init c =
    let a = c.args in (
      omega arith,
      come_none a.layout a.memory.now a.run.now a.reply.now no_tag c.closed-session.result
          (ap (λ (s : Session). state_of a.memory.now no_tag s) c.closed-session.ensures),
      refl,
      refl,
    )

pub returns-then-run-start : goal.returns-then-run-start
returns-then-run-start c =
    let l = c.loop-at in
    let a = c.args in
    let k = l.invariant.1 in
    let size = c.be16_at-size.ensures.0 ∙ sym (two_bytes a.run.now l.at) in
    come_end a.layout a.memory.now a.run.now a.reply.now l.memory l.tag l.session l.reply l.at k
    (run_cut a.layout (closed_in a.memory.now) a.run.now a.reply.now k.left l.at k.calls (omega (arith, c.loop-at-test.true))
    (omega (arith, c.if-run-start.true, size)))

pub loop-at-preserved : goal.loop-at-preserved
loop-at-preserved c =
    let l = c.loop-at in
    let a = c.args in
    let run = a.run.now in
    let st = state_of l.memory l.tag l.session in
    let h = c.handle_packet-handled in
    let size : c.be16_at-size.result ≡ size_at run l.at = c.be16_at-size.ensures.0 ∙ sym (two_bytes run l.at) in
    let part : c.of.result.now ≡ take (size_at run l.at) (drop (l.at + 2) run) =
    c.of.ensures ∙ ap (λ (n : ℕ). take n (drop (l.at + 2) run)) size in
    let whole : size_at run l.at ≤ length run - (l.at + 2) = omega (arith, size, c.if-run-start.false) in
    let left = h.ensures ∙ ap (λ (p : List ℕ). handle a.layout st p l.reply) part in (
      omega (arith, l.invariant.0, c.loop-at-test.true, c.if-run-start.false),
      subst (λ (n : ℕ). Come a.layout a.memory.now run a.reply.now h.new.memory h.new.tag h.result.session h.new.reply (l.at + 2 + n)) (sym size)
          (come_more a.layout a.memory.now run a.reply.now l.memory l.tag l.session l.reply l.at h.new.memory h.new.tag h.result.session h.new.reply
          l.invariant.1 (omega (arith, c.loop-at-test.true)) whole
          (ap (λ (o : Outcome). o.state) left) (ap (λ (o : Outcome). o.reply) left)),
      h.auto.memory ∙ l.invariant.2,
      h.auto.reply ∙ l.invariant.3,
    )

pub returns : goal.returns
returns c =
    let l = c.loop-at in
    let a = c.args in
    let k = l.invariant.1 in
    come_end a.layout a.memory.now a.run.now a.reply.now l.memory l.tag l.session l.reply l.at k
    (run_end a.layout (closed_in a.memory.now) a.run.now a.reply.now k.left l.at k.calls (omega (arith, c.loop-at-test.false)))
