-- A service's causes of refusal as a list of checks, each over the whole input before the next. Assumes nothing.
use Rattle.std.specs.Prelude.{ℕ, List, [], ◌∷◌, None, Some}
use Rattle.std.proofs.Math.Option.{Option, none, some}
use Rattle.refusal.specs.Place.{Place}
use Rattle.refusal.specs.Refusal.{Told}

-- a cause of refusal: its number, and the place at which it fires, if it does
pub record Check : Type 0 where
  pub number : ℕ
  pub fires : Place

-- the refusal of the first check that fires
unfoldable pub answer : List Check → Option Told
answer [] = none
answer (c ∷ cs) = elim c.fires [ None ↦ answer cs | Some k ↦ some (record { number = c.number; place = k }) ]

-- the first where nothing is refused, the second on a refusal
abbrev pub unless_refused : {A : Type 0} → Option Told → A → A → A
unless_refused none x y = x
unless_refused (some t) x y = y
