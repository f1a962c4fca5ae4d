-- Reading no more bytes than tell the form loses nothing: once they are there, the form of the record is that which it has in the whole input, whatever follows.
-- By how far the bytes go. Assumes nothing.
use Prim.Native.Nat.{ℕ, ◌+◌, ◌≤◌, ◌<◌}
use native.Mathlib.Omega.{arith}
use mathlib.Core.Path.{◌≡◌, refl, sym, ◌∙◌, ap}
use mathlib.Core.Bool.{Bool, true, false}
use mathlib.Core.List.{List, ◌++◌}
use lib.ListN.{length, take, drop, length-append, take-append-drop}
use lib.Seq.{take_all, length-take-le}
use lib.Dec.{ltb}
use borrow.Author.Tests.{ltb-true, ltb-false}
use Rattle.plan.specs.Limits.{most_steps}
use Rattle.records.specs.RecordForm.{word_at, length_at, task_length, plan_length, plan_start, record_end, header_bytes, outside, record_form}
use Rattle.records.specs.Between.Needed.{bytes_to_read}
use Rattle.records.proofs.InputWordLaws.{word_stays}
use Rattle.records.proofs.FormLaws.{form_outside, form_long, form_whole, reads_header, reads_outside, reads_start, reads_long, reads_end}

-- how far bytes go: not to word 3; to a word 3 outside its limits; not to the length of the plan; to a length that is too large; to one that is not
data Reach (bytes : List ℕ) : Type 0 where
  short : length bytes < header_bytes → Reach bytes
  unfit : header_bytes ≤ length bytes → outside (task_length bytes) ≡ true → Reach bytes
  cut : header_bytes ≤ length bytes → outside (task_length bytes) ≡ false → length bytes < plan_start bytes → Reach bytes
  long : header_bytes ≤ length bytes → outside (task_length bytes) ≡ false → plan_start bytes ≤ length bytes → most_steps < plan_length bytes → Reach bytes
  listed : header_bytes ≤ length bytes → outside (task_length bytes) ≡ false → plan_start bytes ≤ length bytes → plan_length bytes ≤ most_steps → Reach bytes

reach : (bytes : List ℕ) → Reach bytes
reach bytes = by_header (ltb (length bytes) header_bytes) refl
  where
    by_plan : header_bytes ≤ length bytes → outside (task_length bytes) ≡ false → plan_start bytes ≤ length bytes → (b : Bool) → ltb most_steps (plan_length bytes) ≡ b → Reach bytes
    by_plan header inside there true e = long header inside there (ltb-true _ _ e)
    by_plan header inside there false e = listed header inside there (ltb-false _ _ e)

    by_start : header_bytes ≤ length bytes → outside (task_length bytes) ≡ false → (b : Bool) → ltb (length bytes) (plan_start bytes) ≡ b → Reach bytes
    by_start header inside true e = cut header inside (ltb-true _ _ e)
    by_start header inside false e = by_plan header inside (ltb-false _ _ e) (ltb most_steps (plan_length bytes)) refl

    by_limits : header_bytes ≤ length bytes → (b : Bool) → outside (task_length bytes) ≡ b → Reach bytes
    by_limits header true e = unfit header e
    by_limits header false e = by_start header e (ltb (length bytes) (plan_start bytes)) refl

    by_header : (b : Bool) → ltb (length bytes) header_bytes ≡ b → Reach bytes
    by_header true e = short (ltb-true _ _ e)
    by_header false e = by_limits (ltb-false _ _ e) (outside (task_length bytes)) refl

module _ (further beyond : ℕ) where
  abbrev needed : List ℕ → ℕ
  needed bytes = bytes_to_read further beyond bytes

  -- once all bytes that must be read are there, no further byte changes the form of the record
  module _ (xs ys : List ℕ) (read : needed xs ≤ length xs) where
    more : length (xs ++ ys) ≡ length xs + length ys
    more = length-append xs ys

    same_task : header_bytes ≤ length xs → task_length xs ≡ task_length (xs ++ ys)
    same_task header = sym (word_stays xs ys length_at header)

    same_plan : plan_start xs ≤ length xs → plan_length xs ≡ word_at (xs ++ ys) (task_length xs)
    same_plan there = sym (word_stays xs ys (task_length xs) there)

    with_more : Reach xs → record_form further (xs ++ ys) ≡ record_form further xs
    with_more (short s) = absurd (omega (arith, reads_header further beyond xs s))
    with_more (unfit header e) =
        form_outside further (xs ++ ys) (task_length xs) (same_task header) (omega (arith, more)) e ∙ sym (form_outside further xs (task_length xs) refl header e)
    with_more (cut header inside s) = absurd (omega (arith, reads_start further beyond xs header (task_length xs) refl inside s))
    with_more (long header inside there l) =
        form_long further (xs ++ ys) (task_length xs) (same_task header) inside (omega (arith, more)) (plan_length xs) (same_plan there) l
        ∙ sym (form_long further xs (task_length xs) refl inside there (plan_length xs) refl l)
    with_more (listed header inside there few) =
        let needs_all : needed xs ≡ record_end further xs + beyond = reads_end further beyond xs header (task_length xs) refl inside there (plan_length xs) refl few in
        form_whole further (xs ++ ys) (task_length xs) (same_task header) inside (omega (arith, more)) (plan_length xs) (same_plan there) few (record_end further xs) refl (omega (arith, more))
        ∙ sym (form_whole further xs (task_length xs) refl inside there (plan_length xs) refl few (record_end further xs) refl (omega arith))

  pub settled : (xs ys : List ℕ) → needed xs ≤ length xs → record_form further (xs ++ ys) ≡ record_form further xs
  settled xs ys h = with_more xs ys h (reach xs)

  -- and until they are there, as many must be read as before
  module _ (xs ys : List ℕ) (less : length (xs ++ ys) < needed xs) where
    longer : length (xs ++ ys) ≡ length xs + length ys
    longer = length-append xs ys

    task_stays : header_bytes ≤ length xs → task_length xs ≡ task_length (xs ++ ys)
    task_stays header = sym (word_stays xs ys length_at header)

    as_before : Reach xs → needed (xs ++ ys) ≡ needed xs
    as_before (short s) = let all : needed xs ≡ header_bytes = reads_header further beyond xs s in reads_header further beyond (xs ++ ys) (omega arith) ∙ sym all
    as_before (unfit header e) = absurd (omega (arith, longer, reads_outside further beyond xs header (task_length xs) refl e))
    as_before (cut header inside s) =
        let all : needed xs ≡ plan_start xs = reads_start further beyond xs header (task_length xs) refl inside s in
        reads_start further beyond (xs ++ ys) (omega (arith, longer)) (task_length xs) (task_stays header) inside (omega arith) ∙ sym all
    as_before (long header inside there l) = absurd (omega (arith, longer, reads_long further beyond xs header (task_length xs) refl inside there (plan_length xs) refl l))
    as_before (listed header inside there few) =
        reads_end further beyond (xs ++ ys) (omega (arith, longer)) (task_length xs) (task_stays header) inside (omega (arith, longer)) (plan_length xs)
        (sym (word_stays xs ys (task_length xs) there)) few
        ∙ sym (reads_end further beyond xs header (task_length xs) refl inside there (plan_length xs) refl few)

  pub still_needed : (xs ys : List ℕ) → length (xs ++ ys) < needed xs → needed (xs ++ ys) ≡ needed xs
  still_needed xs ys less = as_before xs ys less (reach xs)

  -- where that is so of what f tells of bytes, f tells the same of the first k bytes of an input as of all of it, if no more than k must be read
  pub enough : {A : Type 0} (f : List ℕ → A) → ((xs ys : List ℕ) → needed xs ≤ length xs → f (xs ++ ys) ≡ f xs)
      → (k : ℕ) (input : List ℕ) → needed (take k input) ≤ k → f (take k input) ≡ f input
  enough f stays k input h = by_case (ltb (length input) k) refl
    where
      by_case : (b : Bool) → ltb (length input) k ≡ b → f (take k input) ≡ f input
      by_case true e = let all : length input < k = ltb-true _ _ e in ap f (take_all k input (omega arith))
      by_case false e =
          let read : length (take k input) ≡ k = length-take-le k input (ltb-false _ _ e) in
          sym (stays (take k input) (drop k input) (omega arith)) ∙ ap f (take-append-drop k input)
