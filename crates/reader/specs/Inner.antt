-- Only proofs need this file: what the inner functions of the reader promise each other.
-- Assumes nothing.
use Rattle.std.specs.Prelude.{ℕ, List, Option, Result, Ok, Err}
use Rattle.refusal.specs.declared.Refusal.{Refusal}
use Rattle.reader.specs.declared.LineError.{LineError}
use Rattle.reader.specs.declared.LineError.TheVariants.{Refused}
use Rattle.reader.specs.declared.Reader.{Reader}
use Rattle.reader.specs.Reader.{Outcome, said}

-- an answer to raw bytes, none of whose refusals is for the text, as one to a line
abbrev pub to_line : Result (Option ℕ) Refusal → Result (Option ℕ) LineError
to_line (Ok n) = Ok n
to_line (Err r) = Err (Refused r)

-- the outcome of an inner function that gave a and left r in the record and p in the packet buffer
abbrev pub left : Result (Option ℕ) Refusal → Reader → List ℕ → Outcome
left a r p = record { says = said (to_line a); reader = r; buffer = p }
