-- How many bytes a line takes that a program prints, and a text. Assumes nothing.
use Rattle.std.specs.Prelude.{ℕ, ◌≤◌, List, length}
use Rattle.lines.specs.Lines.{line}
use Rattle.lines.specs.Puts.{Puts}
use Rattle.lines.specs.declared.Page.{Page}

-- the most digits of a number of 64 bits, and no fewer than the bytes of a word that begins a line
abbrev pub word_room : ℕ
word_room = 20

-- the most bytes of a line of such a word and two numbers
abbrev pub line_room : ℕ
line_room = 64

-- behind a word that is no longer, a line with these numbers takes no more
abbrev pub ShortLine : List ℕ → List ℕ → Type 0
ShortLine word numbers = length word ≤ word_room → length (line word numbers) ≤ line_room

-- a text that takes no more than this room is put on a page
abbrev pub TextPut : ℕ → Page → Page → List ℕ → Type 0
TextPut room before after text = Puts text before after × (length text ≤ room)
