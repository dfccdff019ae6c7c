-- `slot::Store::carry_out` meets its contract: what the plan came to is fit to be done, and the request's data is what it names.
-- Assumes nothing.
use mathlib.Core.Path.{◌≡◌, sym, ap, subst, ◌∙◌}
use native.Mathlib.Omega.{arith}
use Rattle.std.specs.Prelude.{Result, Ok}
use Rattle.reason.specs.declared.Reason.{Reason}
use Rattle.rules.specs.declared.Plan.{Plan}
use Rattle.rules.specs.declared.Plan.TheVariants.{Append, Start}
use Rattle.session.proofs.Laws.{session_bounds}
use Rattle.slot.specs.Act.{act_of}
use Rattle.slot.specs.History.{Fit}
use Rattle.slot.specs.Store.{state_in}
use Rattle.slot.proofs.Fit.{data_size, planned_fit, started_tag}
use Rattle.slot.proofs.Store.carry_out.Goals.{Start as Entry}
use Rattle.slot.proofs.Store.carry_out.Goals as goal

-- the act that a plan comes to is fit, for the plan that the function was given
fit : (c : Entry) (p : Result Plan Reason) → c.args.plan ≡ p → Fit c.args.self.now.slot c.args.self.now.session (act_of c.args.source.now c.args.upload p)
fit c p e =
    let a = c.args in
    let s = a.self.now in
    subst (λ (q : Result Plan Reason). Fit s.slot s.session (act_of a.source.now a.upload q)) (sym c.requires.plan_value ∙ e)
    (planned_fit s.slot (state_in s) a.source.now a.upload c.requires.size_in_bounds)

pub append-requires-clause-room : goal.append-requires-clause-room
unfolding act_of Fit
append-requires-clause-room c =
    let s = c.args.self.now in
    let f = fit (goal.at.append-requires-clause-room c).Start (Ok Append) (c.in-Ok.is ∙ ap Ok c.in-Append.is) in
    let b = session_bounds s.slot s.session c.requires.session_value f.0 in
    rw c.of.ensures (omega (arith, f, b))

pub start-requires-clause-data_inside : goal.start-requires-clause-data_inside
unfolding act_of Fit
start-requires-clause-data_inside c =
    let a = c.args in
    let f = fit (goal.at.start-requires-clause-data_inside c).Start (Ok (Start c.in-Start.length)) (c.in-Ok.is ∙ ap Ok c.in-Start.is) in
    (c.requires.size_in_bounds, omega (arith, f, data_size a.source.now a.upload c.requires.size_in_bounds))

pub start-requires-clause-tag_inside : goal.start-requires-clause-tag_inside
start-requires-clause-tag_inside c =
    let a = c.args in (
      c.requires.within,
      started_tag a.self.now.slot (state_in a.self.now) a.source.now a.upload c.requires.size_in_bounds c.in-Start.length
          (sym c.requires.plan_value ∙ c.in-Ok.is ∙ ap Ok c.in-Start.is),
    )

pub returns-in-Append : goal.returns-in-Append
unfolding act_of
returns-in-Append c =
    let a = c.args in
    simp (c.in-Ok.is, c.in-Append.is, ← c.of.ensures) (c.append.ensures a.upload.off)
