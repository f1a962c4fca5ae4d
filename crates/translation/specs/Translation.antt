-- What is answered to a planner's text, read into a sheet (document 02, C-11). Which of these cases it is, and which
-- text, line or sheet they speak of, is told by the text alone (`text_or_break`, `prints_once`, `breaks_once`,
-- `no_text_breaks`, `sheet_once`, `sheet_or_none`). Assumes nothing.
use Rattle.std.specs.Prelude.{ℕ, ◌+◌, ◌≤◌, ◌<◌, ◌≡◌, Bool, cond, ◌&&◌, List, [], ◌∷◌, ◌++◌, length, drop, eqb}
use Rattle.std.specs.Prelude.{None, Some, Result, Ok, Err}
use Rattle.std.proofs.Math.Option.{Option, none, some}
use Rattle.refusal.specs.Refusal.{Told, told_refusal}
use Rattle.sas.specs.Task.{Fact, Assignment, Effect, Action, Task}
use Rattle.sheet.specs.Decode.{task}
use Rattle.sheet.specs.Causes.{Accepted}
use Rattle.planner.specs.Text.{Text, most_bytes}
use Rattle.planner.specs.Meant.{meant, unsayable}
use Rattle.planner.specs.Broken.{Prints, Breaks}
use Rattle.refusal.specs.declared.Refusal.{Refusal}

-- two facts are the same
abbrev pub alike : Fact → Fact → Bool
alike f g = eqb f.variable g.variable && eqb f.value g.value

-- how often a fact stands among facts
unfoldable pub copies : Fact → Assignment → ℕ
copies f [] = 0
copies f (g ∷ q) = cond (alike f g) 1 0 + copies f q

-- the same facts, in any order
abbrev pub SameFacts : Assignment → Assignment → Type 0
SameFacts fs gs = (f : Fact) → copies f fs ≡ copies f gs

-- the conditions of the effects with this fact, in their order
unfoldable pub conditions_of : Fact → List Effect → List Assignment
conditions_of f [] = []
conditions_of f (e ∷ es) = cond (alike f e.fact) (e.condition ∷ conditions_of f es) (conditions_of f es)

-- the same conditions in the same order, but for the order of the facts in each
pub data SameConditions : List Assignment → List Assignment → Type 0 where
  no_effect : SameConditions [] []
  effect : {q r : Assignment} {qs rs : List Assignment} → SameFacts q r → SameConditions qs rs
      → SameConditions (q ∷ qs) (r ∷ rs)

-- the same effects, in any order, but those of one fact in the same order
abbrev pub SameEffects : List Effect → List Effect → Type 0
SameEffects es ds = (f : Fact) → SameConditions (conditions_of f es) (conditions_of f ds)

-- the same actions in the same order, but for the order of the facts in a group, and of effects
pub data SameActions : List Action → List Action → Type 0 where
  no_action : SameActions [] []
  action : {a b : Action} {p q : List Action} → SameFacts a.precondition b.precondition
      → SameEffects a.effects b.effects → a.cost ≡ b.cost → SameActions p q → SameActions (a ∷ p) (b ∷ q)

-- the same task, but for that order
pub record SameTask (T U : Task) : Type 0 where
  pub domains : T.domains ≡ U.domains
  pub initial : T.initial ≡ U.initial
  pub goal : SameFacts T.goal U.goal
  pub actions : SameActions T.actions U.actions

-- the sheet of a text: it is accepted, so that the facts of each of its groups rise, and means the text's task
pub record SheetOf (t : Text) (w : List ℕ) : Type 0 where
  pub accepted : Accepted w
  pub means : SameTask (meant t) (task w)

-- what is answered to a text, with room for so many words: a refusal or none, and then its sheet
pub record ToldOf (t : Text) (room : ℕ) (refusal : Option Told) (sheet : List ℕ) : Type 0 where
  -- 14: a line that no sheet can say
  pub unsaid : (n : ℕ) → unsayable t ≡ Some n → refusal ≡ some (record { number = 14; place = n })
  -- 15: "the sheet would break a limit or a rule of document 01"
  pub no_sheet : unsayable t ≡ None → ((w : List ℕ) → SheetOf t w → ⊥)
      → refusal ≡ some (record { number = 15; place = 0 })
  -- then 10: its sheet has more words than there is room for
  pub no_room : unsayable t ≡ None → (w : List ℕ) → SheetOf t w → room < length w
      → refusal ≡ some (record { number = 10; place = length w })
  pub answered : unsayable t ≡ None → (w : List ℕ) → SheetOf t w → length w ≤ room → (refusal ≡ none) × (sheet ≡ w)

-- what is answered to bytes
pub record ToldOfBytes (bytes : List ℕ) (room : ℕ) (refusal : Option Told) (sheet : List ℕ) : Type 0 where
  -- 13: more bytes than a text may have, or a line that breaks the form
  pub long : most_bytes < length bytes → refusal ≡ some (record { number = 13; place = 0 })
  pub breaks : length bytes ≤ most_bytes → (n : ℕ) → Breaks bytes n → refusal ≡ some (record { number = 13; place = n })
  pub reads : length bytes ≤ most_bytes → (t : Text) → Prints t bytes → ToldOf t room refusal sheet

-- what the service answers: a refusal, if it is one
abbrev pub told_translated : Result ℕ Refusal → Option Told
told_translated (Err r) = some (told_refusal r)
told_translated (Ok n) = none

-- the lent words behind a refusal, and with a sheet at their front
abbrev pub Leaves : List ℕ → List ℕ → Result ℕ Refusal → List ℕ → Type 0
Leaves sheet before (Err r) after = after ≡ before
Leaves sheet before (Ok n) after = (n ≡ length sheet) × (after ≡ sheet ++ drop n before)

-- the service, for every text and every lent output
pub record Translates (bytes before : List ℕ) (r : Result ℕ Refusal) (after : List ℕ) : Type 0 where
  pub sheet : List ℕ
  pub told : ToldOfBytes bytes (length before) (told_translated r) sheet
  pub leaves : Leaves sheet before r after
