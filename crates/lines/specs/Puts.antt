-- A text put on a page. Assumes nothing.
use Rattle.std.specs.Prelude.{◌≡◌, ℕ, List}
use Rattle.lines.specs.declared.Page.{Page}
use Rattle.lines.specs.Prints.{Prints}

-- a page of the same bytes has a text more, behind what it had
pub record Puts (text : List ℕ) (before after : Page) : Type 0 where
  pub same : after.bytes.ghost_name ≡ before.bytes.ghost_name
  pub prints : Prints text before.end before.bytes.now after.bytes.now after.end
