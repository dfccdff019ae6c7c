-- Only proofs need this file: the part of two definitions that a function of its own answers.
-- Assumes nothing.
use Rattle.std.specs.Prelude.{ℕ, List}
use Rattle.cbor.specs.Write.{map_of}
use Rattle.host.specs.Write.{Outcome, put, request_packet}

-- a request of command 5 with the payload A0
abbrev pub empty_request : ℕ → ℕ → List ℕ → Outcome
empty_request group sequence out = put (request_packet group sequence 5 (map_of 0)) out
