-- What a step of the collector gives fits the numbers that C reads.
-- Assumes nothing.
use mathlib.Core.Path.{◌≡◌, refl, sym, subst, ◌∙◌}
use Prim.Native.Nat.{ℕ, ◌≤◌}
use native.Mathlib.Omega.{arith}
use native.Mathlib.Decide.{dec_le}
use mathlib.Core.Bool.{Bool, true, false, false≢true}
use mathlib.Core.List.{List}
use lib.ListN.{length, drop, length-drop}
use Rattle.laws.specs.Choice.{pick}
use Rattle.collector.specs.declared.Collector.{Collector}
use Rattle.collector.specs.declared.Step.{Step}
use Rattle.collector.specs.Collector as collecting
use Rattle.collector.proofs.Laws.{collect_impossible, collect_long}
use Rattle.collector.proofs.Cut.{formed, possible_longer}
use Rattle.collector.proofs.Lumps.{Stepping, to_end, to_line, to_long, stepping}
use Rattle.records.specs.Results.{step_result_def, step_length_def, went_on_def}
use Rattle.widths.specs.Steps.{StepSmall}

-- the refusals 1 and 12 do not go on
kept_small : (n : ℕ) (c : Collector) (at : ℕ) (b : List ℕ) → went_on_def n ≡ false → StepSmall (collecting.keeping n c at b)
unfolding step_result_def
kept_small n c at b e went = absurd (false≢true (sym e ∙ went))

-- a step through a lump
stepping_small : (c : Collector) (lump : List ℕ) (at : ℕ) (b : List ℕ) → (length c.held ≡ collecting.most) × (collecting.impossible c ≡ false)
    → length lump ≤ collecting.longest_lump → Stepping c lump at b → StepSmall (collecting.collect c lump at b)
unfolding step_length_def
stepping_small c lump at b p short (to_end clean o) =
    let next = possible_longer c (drop at lump) p clean in
    rw o (λ went. (omega arith, short, (formed (collecting.longer c (drop at lump)) next).1))
stepping_small c lump at b p short (to_line l h f small o) =
    rw o (λ went. (small.1, omega (arith, h, short, length-drop at lump), omega arith))
stepping_small c lump at b p short (to_long h f o) =
    rw o (λ went. (omega arith, omega (arith, h, short, length-drop at lump), omega arith))

collect_small : (c : Collector) (lump : List ℕ) (at : ℕ) (b : List ℕ) → length c.held ≡ collecting.most → StepSmall (collecting.collect c lump at b)
unfolding pick
collect_small c lump at b l = by-test (collecting.impossible c) refl
  where
    by-test : (t : Bool) → collecting.impossible c ≡ t → StepSmall (collecting.collect c lump at b)
    by-test true e = rw (collect_impossible c lump at b e) (kept_small 1 c at b refl)
    by-test false e = elim (dec_le (length lump) collecting.longest_lump) [
      | no k ↦ rw (collect_long c lump at b e (omega (arith, k))) (kept_small 12 c at b refl)
      | yes k ↦ stepping_small c lump at b (l, e) k (stepping c lump at b (l, e) k)
    ]

-- the same of what the call gave
pub step_small : (c : Collector) (lump : List ℕ) (at : ℕ) (b : List ℕ) (t : Step) (after : List ℕ) → length c.held ≡ collecting.most
    → collecting.outcome t after ≡ collecting.collect c lump at b → StepSmall (collecting.outcome t after)
step_small c lump at b t after l e = subst StepSmall (sym e) (collect_small c lump at b l)
