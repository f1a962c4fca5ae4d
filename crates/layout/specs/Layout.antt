-- The words of a task and its plan as a text for people: in sections, each under a comment. Assumes nothing.
use Rattle.std.specs.Prelude.{ℕ, ◌-◌, max, List, [], ◌∷◌, ◌++◌, length, take, drop}
use Prim.Native.String.{String}
use Rattle.ascii.specs.Bytes.{ascii, line_end}
use Rattle.lines.specs.Lines.{numeral}
use Rattle.word_rows.specs.Rows.{rows}
use Rattle.sheet.specs.Layout.{variables, actions, offset, goal_start, goal_end, effect_end}
use Rattle.sheet.specs.Decode.{table}

-- a line of comment
abbrev pub comment : List ℕ → List ℕ
comment title = ascii "# " ++ (title ++ (line_end ∷ []))

-- a section: the comment over it, and the index of the word before which it ends
pub record Section : Type 0 where
  pub title : List ℕ
  pub end : ℕ

-- the words from index `at` on, in sections: each takes the words up to its end, none where that is behind; what no
-- section takes stands below them
unfoldable pub laid_out : ℕ → List Section → List ℕ → List ℕ
laid_out at [] ws = rows ws
laid_out at (s ∷ ss) ws =
    comment s.title ++ (rows (take (s.end - at) ws) ++ laid_out (max at s.end) ss (drop (s.end - at) ws))

abbrev pub titled : String → ℕ → Section
titled title end = record { title = ascii title; end = end }

-- the section of an action
abbrev pub action_title : ℕ → List ℕ
action_title a = ascii "action " ++ numeral a

abbrev pub action_section : List ℕ → ℕ → Section
action_section w a = record { title = action_title a; end = effect_end w a }

-- the comment over all of them, which takes no word itself
abbrev pub actions_section : Section
actions_section = titled "actions: price, number of precondition facts, precondition facts, effect facts" 0

-- the sections of a task, by its own layout
unfoldable pub sections : List ℕ → List Section
sections w =
    titled "edition, variables, actions, words of the sheet" 4
    ∷ titled "where each part begins, and its length" (offset w 1 - variables w)
    ∷ titled "domain sizes" (offset w 1)
    ∷ titled "starting values" (goal_start w)
    ∷ titled "goal facts, each variable * 256 + value" (goal_end w)
    ∷ actions_section
    ∷ table (action_section w) 0 (actions w)

-- the sections of a plan behind its length
abbrev pub list_sections : List ℕ → List Section
list_sections l = titled "length of the list" 1 ∷ titled "list" (length l) ∷ []

-- a task of n words, and its plan
unfoldable pub record_text : ℕ → List ℕ → List ℕ
record_text n ws =
    laid_out 0 (sections (take n ws)) (take n ws) ++ laid_out 0 (list_sections (drop n ws)) (drop n ws)
