-- An answer put into lent bytes, by the one part that it has: the other is nothing, and is put by doing nothing. Assumes nothing.
use Prim.Native.Nat.{ℕ, ◌≤◌}
use native.Mathlib.Omega.{arith}
use mathlib.Core.Path.{◌≡◌, subst, sym}
use mathlib.Core.List.{List, [], ◌∷◌, ◌++◌}
use lib.ListN.{length}
use lib.Seq.{length-take-le}
use Rattle.io.specs.Counts.{IsPrefixLen}
use Rattle.ascii.specs.Bytes.{line_end}
use Rattle.lines.specs.Prints.{Prints}
use Rattle.lines.proofs.PrintLaws.{prints_nothing, prints_within}
use Rattle.translate.specs.declared.answer.Answered.{Answered}
use Rattle.translate.specs.Answer.{Answer, only_writes, only_says, Gives}

nothing_put : (bytes : List ℕ) → Prints [] 0 bytes bytes 0
nothing_put bytes = prints_nothing 0 bytes 0 (omega arith)

pub answers_writing : {text out out' : List ℕ} {n : ℕ} (errors : List ℕ) → Prints text 0 out out' n → Gives (only_writes text) out out' errors errors (record { written = n; said = 0 })
answers_writing errors p = record { writing = p; saying = nothing_put errors }

pub answers_saying : (what : List ℕ) {errors errors' : List ℕ} {n : ℕ} (out : List ℕ) → Prints (what ++ (line_end ∷ [])) 0 errors errors' n
    → Gives (only_says what) out out errors errors' (record { written = 0; said = n })
answers_saying what out p = record { writing = nothing_put out; saying = p }

-- an answer by its definition
pub answers_as : {a b : Answer} {out out' errors errors' : List ℕ} {r : Answered} → b ≡ a → Gives a out out' errors errors' r → Gives b out out' errors errors' r
answers_as {out = out} {out' = out'} {errors = errors} {errors' = errors'} {r = r} is answers = subst (λ x. Gives x out out' errors errors' r) (sym is) answers

-- what is written and said lies inside the lent bytes
counts : {n : ℕ} (l : List ℕ) → n ≤ length l → IsPrefixLen n l
counts l low = (low, sym (length-take-le _ l low))

pub counts_written : {a : Answer} {out out' errors errors' : List ℕ} {r : Answered} → Gives a out out' errors errors' r → IsPrefixLen r.written out' × IsPrefixLen r.said errors'
counts_written {out' = out'} {errors' = errors'} answers = (counts out' (prints_within answers.writing), counts errors' (prints_within answers.saying))
