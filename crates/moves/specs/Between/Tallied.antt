-- The tallies so far as they are counted, the words of a row that is made of them, and what is written of a list that
-- can be read. Assumes nothing.
use Rattle.std.specs.Prelude.{ℕ, ◌≡◌, Bool, true, false, List, ◌∷◌, ◌++◌}
use Rattle.std.proofs.lemmas.List.Edits.{sets}
use Rattle.tally.specs.declared.Tally.{Tally}
use Rattle.tally.specs.Tally.{nothing, one_more}
use Rattle.mask.specs.Mask.{digit}
use Rattle.lent.specs.Words.{tally_words}
use Rattle.moves.specs.declared.tallies.Tallies.{Tallies}
use Rattle.moves.specs.Moves.{all_rows, saved}

-- the words of a row
abbrev pub row_length : ℕ
row_length = 9

-- those of no step
abbrev pub none_yet : Tallies
none_yet = record { lodged = nothing; left = nothing; struck = nothing }

-- with one step more
abbrev pub with_one : Tallies → ℕ → Bool → Tallies
with_one t c true = record { lodged = one_more t.lodged c; left = one_more t.left c; struck = t.struck }
with_one t c false = record { lodged = one_more t.lodged c; left = t.left; struck = one_more t.struck c }

-- a row of these
abbrev pub row_words : ℕ → Bool → Bool → Tallies → List ℕ
row_words c is_kept is_marked t =
    c ∷ digit is_kept ∷ digit is_marked
    ∷ (tally_words t.lodged ++ (tally_words t.left ++ tally_words t.struck))

-- what is written of a list that can be read
pub record WritesRows (w l mask marks : List ℕ) (given : Tally) (before after : List ℕ) : Type 0 where
  pub tally : given ≡ saved w l mask
  pub rows : after ≡ sets before 0 (all_rows w l mask marks)
