-- The memory for choices and the list that it holds, by the cases of the code: it is empty, a choice is added where there is room, or a flagged step is written
-- behind the last one or in front of the first. What the code calls is a variable here, with what is known of it as a premise. Assumes nothing.
use Prim.Native.Nat.{ℕ, ◌+◌, ◌-◌, ◌<◌}
use native.Mathlib.Numerals.{add-one}
use native.Mathlib.Omega.{arith}
use mathlib.Core.Path.{◌≡◌, ◌∙◌}
use mathlib.Core.List.{List}
use lib.ListN.{length, get_or, set, take, replicate, length-set, length-replicate, get_or-replicate}
use lib.Seq.{length-take-le, take-suc-set, take-set-lt, get_or-set_other, get_or-take}
use borrow.Author.Tests.{lt-ltb, le-ltb, ne_eqb}
use Rattle.std.proofs.lemmas.List.{get_or_default}
use Rattle.sas.specs.Task.{Assignment}
use Rattle.packed_state.specs.declared.packed.Row.{Row}
use Rattle.packed_state.specs.Between.Chosen.{most_choices}
use Rattle.choice_rows.specs.declared.rows.Choice.{Choice}
use Rattle.choice_rows.specs.Between.Rows.{all_bits, stamped_row, no_choice, passed, passed_last, with_choice, with_passed, ChoicesHeld}

-- at first none is taken
pub memory_empty : ChoicesHeld (replicate most_choices no_choice) 0
memory_empty =
    record {
      sized = length-replicate most_choices no_choice;
      within = omega arith;
      left = λ k above below. get_or-replicate most_choices k no_choice no_choice below;
    }

module _ (all : List Choice) (count : ℕ) (held : ChoicesHeld all count) where
  -- as many are held as are counted
  memory_taken : length (take count all) ≡ count
  memory_taken = length-take-le count all (omega (arith, held.sized, held.within))

  -- where all is taken nothing is added
  pub memory_full : count ≡ most_choices → (start : Row) (c : Choice)
      → record { start = start; steps = take count all } ≡ with_choice (record { start = start; steps = take count all }) c
  unfolding with_choice
  memory_full full start c = rw (memory_taken, le-ltb count most_choices (omega arith))

  -- a choice takes the first place that is not taken, which is that of no step
  module _ (some : count < most_choices) where
    pub memory_next : (d : Choice) → get_or all count d ≡ no_choice
    memory_next d = get_or_default all count d no_choice (omega (arith, held.sized)) ∙ held.left count (omega arith) some

    pub memory_more : (c : Choice) → ChoicesHeld (set all count c) (count + 1)
    memory_more c =
        record {
          sized = length-set all count c ∙ held.sized;
          within = omega arith;
          left = λ k above below. get_or-set_other all count k c no_choice (λ same. omega arith) ∙ held.left k (omega arith) below;
        }

    pub memory_added : (start : Row) (c : Choice)
        → record { start = start; steps = take (count + 1) (set all count c) } ≡ with_choice (record { start = start; steps = take count all }) c
    unfolding with_choice
    memory_added start c =
        rw (memory_taken, lt-ltb count most_choices some, add-one, take-suc-set all count c (omega (arith, held.sized)))

  -- what is written behind the last is written there
  pub memory_passed : 0 < count → (start : Row) (q : Assignment) (c d : Choice) → c ≡ passed (get_or all (count - 1) d) q
      → record { start = start; steps = take count (set all (count - 1) c) } ≡ with_passed (record { start = start; steps = take count all }) q
  unfolding with_passed passed_last
  memory_passed some start q c d passes =
      rw (
        memory_taken,
        ne_eqb count 0 (omega arith),
        take-set-lt count all (count - 1) c (omega arith),
        get_or-take count all (count - 1) no_choice (omega arith),
        passes,
        get_or_default all (count - 1) d no_choice (omega (arith, held.sized, held.within)),
      )

  -- and where there is none, in front of the first
  pub memory_started : count ≡ 0 → (start after : Row) (q : Assignment) → after ≡ stamped_row start all_bits q
      → record { start = after; steps = take count all } ≡ with_passed (record { start = start; steps = take count all }) q
  unfolding with_passed
  memory_started none start after q stamps = rw (memory_taken, none, stamps)
