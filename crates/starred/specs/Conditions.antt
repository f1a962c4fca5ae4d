-- Sheets of edition 2 (document 02, C-15), computed from their words: a flap gate that closes only if the pond stands
-- high, and a sheet for each cause of refusal that effects with conditions change. Edition 2 is still refused by 2, so
-- each row gives what the checks behind that one say. Assumes nothing.
use Rattle.std.specs.Prelude.{ℕ, ◌≡◌, List, [], ◌∷◌, drop}
use Rattle.std.proofs.Math.Option.{Option, none, some}
use Rattle.refusal.specs.Refusal.{Told}
use Rattle.refusal.specs.Check.{answer}
use Rattle.sheet.specs.Causes.{sheet_checks}

-- flap 0 open, 1 shut; pond 0 low, 1 high; the flap is to be shut, and one action of price 3, whose effects are these n
-- words of so many in all
abbrev pub flap_with : ℕ → ℕ → List ℕ → List ℕ
flap_with all n effects =
    2 ∷ 2 ∷ 1 ∷ all
    ∷ 12 ∷ 2 ∷ 14 ∷ 2 ∷ 16 ∷ 1 ∷ 17 ∷ n
    ∷ 2 ∷ 2 ∷ 0 ∷ 1 ∷ 1 ∷ 3 ∷ 0 ∷ effects

-- "A flap gate closes only if the pond stands high": one effect with one condition
abbrev pub flap : List ℕ
flap = flap_with 22 5 (1 ∷ 257 ∷ 1 ∷ [])

-- what the checks behind that of the edition answer to a sheet
abbrev pub answered : List ℕ → Option Told
answered w = answer (drop 2 (sheet_checks w))

-- a sheet, and what is answered
pub record Row : Type 0 where
  pub sheet : List ℕ
  pub answers : Option Told

abbrev pub refused : ℕ → ℕ → Option Told
refused number place = some (record { number = number; place = place })

abbrev pub rows : List Row
rows =
    record { sheet = flap; answers = none }
    -- an action without effects, and two effects of one fact
    ∷ record { sheet = flap_with 19 2 []; answers = none }
    ∷ record { sheet = flap_with 24 7 (0 ∷ 1 ∷ 1 ∷ 257 ∷ 1 ∷ []); answers = none }
    -- an effect runs past its part: by one word, and by a number that nothing may wrap
    ∷ record { sheet = flap_with 21 4 (1 ∷ 257 ∷ []); answers = refused 4 3 }
    ∷ record { sheet = flap_with 22 5 (4294967295 ∷ 257 ∷ 1 ∷ []); answers = refused 4 3 }
    -- a condition's fact with an unknown value, a condition that does not rise, an unknown effect fact, one that falls
    ∷ record { sheet = flap_with 22 5 (1 ∷ 258 ∷ 1 ∷ []); answers = refused 6 20 }
    ∷ record { sheet = flap_with 23 6 (2 ∷ 257 ∷ 0 ∷ 1 ∷ []); answers = refused 6 21 }
    ∷ record { sheet = flap_with 22 5 (1 ∷ 257 ∷ 2 ∷ []); answers = refused 6 21 }
    ∷ record { sheet = flap_with 23 6 (0 ∷ 1 ∷ 0 ∷ 0 ∷ []); answers = refused 6 22 }
    -- two effects that may act in one state; and two that never do
    ∷ record { sheet = flap_with 25 8 (1 ∷ 257 ∷ 0 ∷ 1 ∷ 257 ∷ 1 ∷ []); answers = refused 16 0 }
    ∷ record { sheet = flap_with 25 8 (1 ∷ 256 ∷ 0 ∷ 1 ∷ 257 ∷ 1 ∷ []); answers = none }
    ∷ []

abbrev pub RowAnswered : Row → Type 0
RowAnswered r = answered r.sheet ≡ r.answers
