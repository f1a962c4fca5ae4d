-- Document 01's sheet P ("Worked lists"), computed: its words are those of its task, and they mean that task, which can be written since they are accepted.
-- Assumes nothing.
use Prim.Native.Nat.{ℕ}
use mathlib.Core.Path.{◌≡◌, refl}
use mathlib.Core.List.{[], ◌∷◌, flatten}
use Rattle.sas.specs.Task.{Fact, always, Task}
use Rattle.sas.specs.Plan.{written}
use Rattle.sheet.specs.Decode.{table, facts, domains, initial, goal, effects, action, task}
use Rattle.sheet.specs.Between.Encode.{effects_part, action_part, parts, pairs_of, body, sheet_of, encode, Encodable}
use Rattle.sheet.specs.Layout.{first_edition}
use Rattle.sheet.proofs.EncodeTheorem.{accepted_encodable}
use Rattle.starred.specs.Sheets.{sheet_p}
use Rattle.starred.proofs.Starred.{starred}

-- gate 0 shut, 1 open; basin 0 full, 1 empty; lamp 0 off, 1 on
abbrev gate : ℕ → Fact
gate x = record { variable = 0; value = x }

abbrev basin : ℕ → Fact
basin x = record { variable = 1; value = x }

abbrev lamp : ℕ → Fact
lamp x = record { variable = 2; value = x }

abbrev task_p : Task
task_p =
    record {
      domains = 2 ∷ 2 ∷ 2 ∷ [];
      actions =
          -- lift, drain, drop, lamp
          record { precondition = gate 0 ∷ []; effects = always (gate 1) ∷ []; cost = 5 }
          ∷ record { precondition = gate 1 ∷ []; effects = always (basin 1) ∷ []; cost = 2 }
          ∷ record { precondition = gate 1 ∷ []; effects = always (gate 0) ∷ []; cost = 5 }
          ∷ record { precondition = []; effects = always (lamp 1) ∷ []; cost = 1 }
          ∷ [];
      initial = 0 ∷ 0 ∷ 0 ∷ [];
      goal = gate 0 ∷ basin 1 ∷ [];
    }

pub encodes : encode first_edition task_p ≡ sheet_p
unfolding encode sheet_of body pairs_of parts action_part effects_part written flatten
encodes = refl

pub decodes : task sheet_p ≡ task_p
unfolding task domains initial goal action effects facts table
decodes = refl

pub encodable : Encodable first_edition task_p
encodable = rw decodes at (accepted_encodable sheet_p starred.0.0)
