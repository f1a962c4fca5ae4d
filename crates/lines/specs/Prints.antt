-- A text in a lent slice of bytes. Assumes nothing.
use Rattle.std.specs.Prelude.{ℕ, ◌+◌, min, ◌≡◌, List, length}
use Rattle.std.proofs.lemmas.List.Edits.{sets}

-- a text put behind the first `at` bytes: they hold it, as far as there is room, and every other byte is as it was; it
-- ends there, or where the bytes end
pub record Prints (text : List ℕ) (at : ℕ) (before after : List ℕ) (end : ℕ) : Type 0 where
  pub written : after ≡ sets before at text
  pub ends : end ≡ min (at + length text) (length before)
