-- Only proofs need this file: the part of a definition that a function of its own answers.
-- Assumes nothing.
use Rattle.std.specs.Prelude.{ℕ, List, ◌++◌}
use Rattle.cbor.specs.Write.{unsigned, bytes_of, text_of}
use Rattle.fields.specs.Keys.{name_data, name_len, name_off}

-- the pairs that every upload at offset 0 has
abbrev pub first_pairs : List ℕ → ℕ → List ℕ
first_pairs x size = (text_of name_data ++ bytes_of x) ++ ((text_of name_len ++ unsigned size) ++ (text_of name_off ++ unsigned 0))
