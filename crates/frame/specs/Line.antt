-- A line of the serial port: "marker 06 09 (initial) or 04 14 (partial), text of 0 to 124 characters, then 0A".
-- Assumes nothing.
use Rattle.std.specs.Prelude.{ℕ, ◌-◌, ◌*◌, ◌/◌, Bool, List, [], ◌∷◌, ◌++◌, eqb, length, get_or, take, drop}
use Rattle.laws.specs.Choice.{both}
use Rattle.strict_base64.specs.Base64.{encode}

-- "A line is at most 127 bytes"
abbrev pub longest : ℕ
longest = 127

-- the byte that ends a line
abbrev pub newline : ℕ
newline = 0x0A

-- the marker of a packet's first frame: "06 09 (initial)"
abbrev pub initial : List ℕ
initial = 0x06 ∷ 0x09 ∷ []

-- the marker of its later frames: "04 14 (partial)"
abbrev pub partial : List ℕ
partial = 0x04 ∷ 0x14 ∷ []

-- the longest text, a line less its marker and its end: "text of 0 to 124 characters"
abbrev pub longest_text : ℕ
longest_text = longest - 3

-- the most raw bytes that one frame carries: "N = (127 - 3) / 4 * 3 = 93"
abbrev pub raw_most : ℕ
raw_most = longest_text / 4 * 3

-- the frame that carries some raw bytes: marker, text and 0A
unfoldable pub frame : List ℕ → List ℕ → List ℕ
frame marker raw = marker ++ (encode raw ++ (newline ∷ []))

-- a line begins with the bytes a and b
unfoldable pub marked : ℕ → ℕ → List ℕ → Bool
marked a b line = both (eqb (get_or line 0 0) a) (eqb (get_or line 1 0) b)

-- a line begins with a marker
abbrev pub begins_with : List ℕ → List ℕ → Bool
begins_with marker line = marked (get_or marker 0 0) (get_or marker 1 0) line

-- a line ends with 0A
unfoldable pub ended : List ℕ → Bool
ended line = eqb (get_or line (length line - 1) 0) newline

-- what stands between a line's marker and its 0A
unfoldable pub text_of : List ℕ → List ℕ
text_of line = take (length line - 1 - 2) (drop 2 line)
