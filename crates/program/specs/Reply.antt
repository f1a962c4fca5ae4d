-- What a program answers to the bytes of its input, from what it answers to a refusal and to a task, a plan and further
-- words. Assumes nothing.
use Rattle.std.specs.Prelude.{ℕ, List}
use Rattle.refusal.specs.Refusal.{Told}
use Rattle.program.specs.Opening.{Refused, Lodged, opening}

-- a program that reads so many further words
unfoldable pub reply_further : {A : Type 0} → ℕ → (Told → A) → (List ℕ → List ℕ → List ℕ → A) → List ℕ → A
reply_further further refused answered bytes =
    elim (opening further bytes) [ Refused t ↦ refused t | Lodged w l rest ↦ answered w l rest ]

-- a program that reads none
abbrev pub reply : {A : Type 0} → (Told → A) → (List ℕ → List ℕ → A) → List ℕ → A
reply refused answered bytes = reply_further 0 refused (λ w l rest. answered w l) bytes
