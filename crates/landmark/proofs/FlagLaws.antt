-- The passes along a list, by the cases of their loop: they begin with start and end alone, one pass more is one round more at least, and they end where one
-- changes nothing or where there were as many as steps. What the code calls is a variable here, with what is known of it as a premise. Assumes nothing.
use Prim.Native.Nat.{ℕ, ◌+◌, ◌≤◌, ◌<◌}
use native.Mathlib.Numerals.{add-one}
use native.Mathlib.Omega.{arith}
use mathlib.Core.Path.{◌≡◌, sym, ◌∙◌}
use mathlib.Core.Bool.{Bool, true}
use mathlib.Core.List.{List}
use lib.ListN.{length}
use Rattle.reduction.specs.Reduction.{Reduction, keeps}
use Rattle.plan.specs.Limits.{most_steps}
use Rattle.plan.specs.Readable.{Readable}
use Rattle.reduced.specs.Between.Held.{flags_of}
use Rattle.landmark.specs.Marks.{marks}
use Rattle.landmark.specs.Between.Passes.{framed_list, pass, ends_up, steps_held}
use Rattle.landmark.proofs.PassTheorem.{Passing, start_flagged, passing_start, passing_more, passed_all, passed_settled}

-- where the loop stands after r passes along the n steps of the list l
pub record Searching (w l : List ℕ) (n r : ℕ) (flags : Reduction) : Type 0 where
  pub counted : n ≡ length l
  pub few : n ≤ most_steps
  pub reached : r ≤ n
  pub passing : (readable : Readable w l) → Passing w l readable r flags

module _ (w l : List ℕ) (n : ℕ) where
  pub searching_start : (flags : Reduction) → n ≡ length l → n ≤ most_steps → flags ≡ ends_up n → Searching w l n 0 flags
  searching_start flags counted few is =
      record { counted = counted; few = few; reached = omega arith; passing = λ readable. rw (is, counted) (passing_start w l readable) }

  module _ (r : ℕ) (flags next : Reduction) (along : Searching w l n r flags)
      (passes : Readable w l → keeps flags 0 → next ≡ pass (framed_list w l) flags) where
    next_is : (readable : Readable w l) → next ≡ pass (framed_list w l) flags
    next_is readable = passes readable (start_flagged w l readable r flags (along.passing readable))

    -- one pass more
    pub searching_more : r < n → Searching w l n (r + 1) next
    searching_more some =
        record {
          counted = along.counted;
          few = along.few;
          reached = omega arith;
          passing = λ readable. rw (add-one r) (passing_more w l readable r flags next (along.passing readable) (next_is readable));
        }

    -- it changed nothing
    pub searching_settled : (steps : Reduction) (b : Bool) → (b ≡ true → next ≡ flags) → b ≡ true → steps ≡ steps_held n flags → Readable w l
        → steps ≡ flags_of l (marks w l)
    searching_settled steps b same up is readable =
        is ∙ rw along.counted (passed_settled w l readable r flags (along.passing readable) (sym (next_is readable) ∙ same up))

  -- there were as many passes as steps
  pub searching_done : (r : ℕ) (flags steps : Reduction) → Searching w l n r flags → n ≤ r → steps ≡ steps_held n flags → Readable w l → steps ≡ flags_of l (marks w l)
  searching_done r flags steps along done is readable =
      is ∙ rw along.counted (passed_all w l readable r flags (along.passing readable) (omega (arith, along.counted, along.reached)))
