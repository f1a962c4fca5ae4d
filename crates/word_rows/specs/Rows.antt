-- Words as a text for people, in lines of ten. Assumes nothing.
use Rattle.std.specs.Prelude.{ℕ, zero, suc, List, [], ◌∷◌, ◌++◌, length, take, drop}
use Rattle.lines.specs.Lines.{line}

-- words in no more than n lines of ten, each word behind a space
unfoldable pub rows_within : ℕ → List ℕ → List ℕ
rows_within zero ws = []
rows_within (suc n) [] = []
rows_within (suc n) (x ∷ xs) = line [] (take 10 (x ∷ xs)) ++ rows_within n (drop 10 (x ∷ xs))

-- words in lines of ten: there are no more lines than words
unfoldable pub rows : List ℕ → List ℕ
rows ws = rows_within (length ws) ws
