-- What a program prints for its input, from what the opening of the input found, which is a variable here. Assumes nothing.
use Prim.Native.Nat.{ℕ, ◌+◌}
use mathlib.Core.Path.{◌≡◌, sym, subst}
use mathlib.Core.List.{List}
use lib.ListN.{take, drop}
use Rattle.refusal.specs.Refusal.{Told}
use Rattle.std.specs.Prelude.{Ok}
use Rattle.records.specs.declared.frame.Extent.{Extent}
use Rattle.program.specs.Opening.{Opening, Refused, Lodged, opening}
use Rattle.program.specs.Between.Found.{opening_of}
use Rattle.program.specs.Reply.{reply_further}

module _ (further : ℕ) (bytes : List ℕ) (refused : Told → List ℕ) (answered : List ℕ → List ℕ → List ℕ → List ℕ) where
  -- by what is found
  replied : (f : Opening) → opening further bytes ≡ f → elim f [ Refused t ↦ refused t | Lodged w l rest ↦ answered w l rest ] ≡ reply_further further refused answered bytes
  unfolding reply_further
  replied f is = rw (is, reply_further)

  -- what holds of what is answered holds of the reply: the input is refused
  pub reply_refused : (P : List ℕ → Type 0) (t : Told) → Refused t ≡ opening further bytes → P (refused t) → P (reply_further further refused answered bytes)
  reply_refused P t opens holds = subst P (replied (Refused t) (sym opens)) holds

  -- or a task w, a plan l and further words are answered
  pub reply_lodged : (P : List ℕ → Type 0) (words : List ℕ) (x : Extent) (w l rest : List ℕ) → opening_of further (Ok x) words ≡ opening further bytes → w ≡ take x.task words
      → l ≡ take x.plan (drop (x.task + 1) words) → rest ≡ take further (drop (x.task + 1 + x.plan) words) → P (answered w l rest) → P (reply_further further refused answered bytes)
  reply_lodged P words x w l rest opens task plan behind holds = subst P (replied (Lodged _ _ _) (sym opens)) (rw (task, plan, behind) at holds)
