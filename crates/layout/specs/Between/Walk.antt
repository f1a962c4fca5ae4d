-- A walk along words that puts them section by section. Assumes nothing.
use Rattle.std.specs.Prelude.{ℕ, ◌≡◌, ◌-◌, max, List, ◌∷◌, ◌++◌, take, drop}
use Rattle.lines.specs.Puts.{Puts}
use Rattle.word_rows.specs.Rows.{rows}
use Rattle.sheet.specs.Layout.{actions}
use Rattle.sheet.specs.Decode.{table}
use Rattle.layout.specs.declared.sections.Walk.{Walk}
use Rattle.layout.specs.Layout.{Section, laid_out, actions_section, action_section}

-- a walk that has put the words up to an index, in lines
pub record PutsPart (end : ℕ) (before after : Walk) : Type 0 where
  pub same : after.page.ghost_name ≡ before.page.ghost_name
  pub puts : Puts (rows (take (end - before.at) before.words.now)) before.page.now after.page.now
  pub left : after.words.now ≡ drop (end - before.at) before.words.now
  pub moved : after.at ≡ max before.at end

-- a walk that has put the sections up to those that are left: what they lay out, behind what is put, is all
pub record Goes (ss : List Section) (before : Walk) (left : List Section) (after : Walk) : Type 0 where
  pub text : List ℕ
  pub puts : Puts text before.page.now after.page.now
  pub rest : text ++ laid_out after.at left after.words.now ≡ laid_out before.at ss before.words.now

-- the sections of the actions
abbrev pub action_sections : List ℕ → List Section
action_sections w = actions_section ∷ table (action_section w) 0 (actions w)
