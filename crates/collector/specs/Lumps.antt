-- A stream of bytes that comes in lumps: what it gives, by the paper, and what a caller's steps give, however it was lumped.
-- Assumes nothing.
use Rattle.std.specs.Prelude.{ℕ, ◌≤◌, ◌≡◌, false, List, [], ◌∷◌, ◌++◌, eqb, length, take}
use Rattle.laws.specs.Choice.{pick}
use Rattle.frame.specs.Line.{longest, newline}
use Rattle.collector.specs.declared.Collector.{Collector}
use Rattle.collector.specs.Collector.{most, longest_lump, impossible, empty, longer, Handed, line, too_long_def, ended, line_of, used_up, refusing, collect}

-- a byte before the first of some pieces
unfoldable pub onto : ℕ → List (List ℕ) → List (List ℕ)
onto b [] = []
onto b (p ∷ ps) = (b ∷ p) ∷ ps

-- a stream cut at each 0A: its pieces, without the 0A; the last of them, which may be empty, has none yet
unfoldable pub cut : List ℕ → List (List ℕ)
cut [] = [] ∷ []
cut (b ∷ s) = pick (eqb b newline) ([] ∷ cut s) (onto b (cut s))

-- what a stream gives: the lines and refusals in order, and the record at its end
pub record Gathered : Type 0 where
  pub handed : List Handed
  pub collector : Collector

-- one more before those that come after it
unfoldable pub handing : Handed → Gathered → Gathered
handing h g = record { handed = h ∷ g.handed; collector = g.collector }

-- pieces in order: each ends the line that the record before it has begun, but the last, which is held
unfoldable pub gathered : Collector → List (List ℕ) → Gathered
gathered c [] = record { handed = []; collector = c }
gathered c (p ∷ []) = record { handed = []; collector = longer c p }
gathered c (p ∷ (q ∷ ps)) = handing (ended c p) (gathered empty (q ∷ ps))

-- a whole stream, from a record on
abbrev pub stream : Collector → List ℕ → Gathered
stream c s = gathered c (cut s)

-- a caller's steps through one lump from a place on, until it is used up, with any lent arrays: the lines and refusals in order, and the record then
pub data Steps : Collector → List ℕ → ℕ → List Handed → Collector → Type 0 where
  over : {c : Collector} {lump : List ℕ} {at : ℕ} (b : List ℕ) → length b ≡ longest → (collect c lump at b).says ≡ used_up
      → Steps c lump at [] (collect c lump at b).collector
  lined : {c d : Collector} {lump : List ℕ} {at : ℕ} {hs : List Handed} (b : List ℕ) (n : ℕ) → length b ≡ longest → (collect c lump at b).says ≡ line_of n
      → Steps (collect c lump at b).collector lump (collect c lump at b).place hs d
      → Steps c lump at (line (take n (collect c lump at b).buffer) ∷ hs) d
  long : {c d : Collector} {lump : List ℕ} {at : ℕ} {hs : List Handed} (b : List ℕ) → length b ≡ longest → (collect c lump at b).says ≡ refusing 2
      → Steps (collect c lump at b).collector lump (collect c lump at b).place hs d
      → Steps c lump at (too_long_def ∷ hs) d

-- a caller's steps through lumps of 0 to 256 bytes one after the other, the record untouched between them
pub data Lumps : Collector → List (List ℕ) → List Handed → Collector → Type 0 where
  none : {c : Collector} → Lumps c [] [] c
  next : {c d e : Collector} {lump : List ℕ} {lumps : List (List ℕ)} {hs ks : List Handed} → length lump ≤ longest_lump → Steps c lump 0 hs d
      → Lumps d lumps ks e → Lumps c (lump ∷ lumps) (hs ++ ks) e

-- a record of the collector's form that is not impossible
abbrev pub Possible : Collector → Type 0
Possible c = (length c.held ≡ most) × (impossible c ≡ false)

-- lumps joined in order
unfoldable pub joined : List (List ℕ) → List ℕ
joined [] = []
joined (lump ∷ lumps) = lump ++ joined lumps

-- "One stream gives the same lines and refusals in order, and the same record at its end, however it was lumped": those of the whole stream
abbrev pub LumpsGive : Type 0
LumpsGive = (c : Collector) (lumps : List (List ℕ)) (hs : List Handed) (d : Collector) → Possible c → Lumps c lumps hs d
    → (hs ≡ (stream c (joined lumps)).handed) × (d ≡ (stream c (joined lumps)).collector)

-- lumps of 0 to 256 bytes each
pub data Short : List (List ℕ) → Type 0 where
  short_none : Short []
  short_next : {lump : List ℕ} {lumps : List (List ℕ)} → length lump ≤ longest_lump → Short lumps → Short (lump ∷ lumps)

-- and there are always such steps: no step refuses anything but lines that are too long, and every lump is used up
abbrev pub LumpsEnd : Type 0
LumpsEnd = (c : Collector) (lumps : List (List ℕ)) → Possible c → Short lumps
    → Lumps c lumps (stream c (joined lumps)).handed (stream c (joined lumps)).collector

-- two ways of cutting one stream into lumps give the same
abbrev pub LumpsAgree : Type 0
LumpsAgree = (c : Collector) (ls ms : List (List ℕ)) (hs ks : List Handed) (d e : Collector) → Possible c → joined ls ≡ joined ms → Lumps c ls hs d
    → Lumps c ms ks e → (hs ≡ ks) × (d ≡ e)
