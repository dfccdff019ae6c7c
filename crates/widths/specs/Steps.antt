-- Only proofs need this crate: which steps of the collector can be handed over in 32-bit numbers.
-- Assumes nothing.
use Rattle.std.specs.Prelude.{◌≤◌, ◌≡◌, true}
use Rattle.frame.specs.Line.{longest}
use Rattle.collector.specs.Collector as collecting
use Rattle.records.specs.Results.{step_result_def, step_length_def, went_on_def}

-- where a step of the collector went on, its numbers fit
abbrev pub StepSmall : collecting.Outcome → Type 0
StepSmall o = went_on_def (step_result_def o.says) ≡ true → (step_length_def o.says ≤ longest) × (o.place ≤ collecting.longest_lump) × (o.collector.count ≤ collecting.most)
