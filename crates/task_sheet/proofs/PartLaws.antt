-- The parts that hold facts, as the code writes them: a group, the precondition, and an action, by each way to a return. By the laws of groups that are held
-- and of words stored over others. Assumes nothing.
use Prim.Native.Nat.{ℕ, ◌+◌, ◌-◌, ◌≤◌, ◌<◌}
use native.Mathlib.Omega.{arith}
use mathlib.Core.Path.{◌≡◌, refl, sym, ◌∙◌}
use mathlib.Core.Bool.{Bool, true, false, ◌&&◌, false≢true}
use mathlib.Core.List.{List, [], ◌∷◌, ◌++◌}
use lib.ListN.{length, length-append, length-map}
use lib.Seq.{sets}
use lib.Dec.{leb}
use Rattle.std.specs.Prelude.{Option, Some, None}
use Rattle.std.proofs.lemmas.Option.{cond_some, none-some}
use borrow.Author.Tests.{le-leb, lt-leb}
use Rattle.sas.specs.Task.{Assignment}
use Rattle.sas.specs.Plan.{written}
use Rattle.sas.proofs.EffectLaws.{each_written}
use Rattle.sheet.specs.Limits.{limits}
use Rattle.sheet.specs.Layout.{first_edition}
use Rattle.sheet.specs.Between.Encode.{fact_word, fact_words, effects_part, action_part}
use Rattle.access.proofs.StoreLaws.{stores_joined}
use Rattle.meaning.specs.Between.Sections.{ranges, prevail, old_values, new_values, action_at}
use Rattle.meaning.specs.Between.Order.{put_in, in_order, ordered_action}
use Rattle.meaning.specs.Between.Writable.{group_fits, action_fits}
use Rattle.meaning.specs.Between.Gathered.{Joins, Puts}
use Rattle.sheet_writer.specs.Between.Laid.{part_most}
use Rattle.task_sheet.specs.Between.Parts.{ends_if, Writes, WritesGroup}
use Rattle.meaning.proofs.GatherLaws.{and_whole}
use Rattle.meaning.proofs.OrderLaws.{no_conditions}
use Rattle.meaning.proofs.OrderTheorem.{ordered_written}
use Rattle.sheet_writer.proofs.LayLaws.{stores_apart}

pub and_none : (a b : Bool) → b ≡ false → a && b ≡ false
and_none true b none = none
and_none false b none = refl

-- nothing is said of the words of what does not fit
pub writes_unfit : {fit : Bool} {part : List ℕ} {most : ℕ} {before after : List ℕ} {at : ℕ} → fit ≡ false → Writes fit part most before after at None
writes_unfit none =
    record { end = rw none; few = λ fits. absurd (false≢true (sym none ∙ fits)); written = λ fits. absurd (false≢true (sym none ∙ fits)) }

-- a word that is told is the end of what fits, and where none is told it does not
pub ends_some : {fit : Bool} {end told : ℕ} → Some told ≡ ends_if fit end → (fit ≡ true) × (told ≡ end)
ends_some {fit} e = let (fits, same) = cond_some fit _ _ (sym e) in (fits, sym same)

pub ends_none : (fit : Bool) (end : ℕ) → None ≡ ends_if fit end → fit ≡ false
ends_none true end e = absurd (none-some end e)
ends_none false end e = refl

-- what is known of a part that was written
pub record Written (part : List ℕ) (most : ℕ) (before after : List ℕ) (at end : ℕ) : Type 0 where
  pub ends : end ≡ at + length part
  pub few : length part ≤ most
  pub stored : after ≡ sets before at part

pub part_written : {fit : Bool} {part : List ℕ} {most : ℕ} {before after : List ℕ} {at end : ℕ} → Writes fit part most before after at (Some end)
    → Written part most before after at end
part_written writes = let (fits, ends) = ends_some writes.end in record { ends = ends; few = writes.few fits; stored = writes.written fits }

-- a group gathered from nothing, and written where it fits
module _ {ranges : List ℕ} {fs group : Assignment} {before after : List ℕ} {at : ℕ} where
  pub group_unfit : Joins ranges fs [] group false → WritesGroup ranges fs before after at None
  group_unfit joins = writes_unfit (sym joins.fits)

  pub group_written : Joins ranges fs [] group true → {end : ℕ} → Puts group before after at end → WritesGroup ranges fs before after at (Some end)
  group_written joins puts =
      let is : group ≡ in_order fs = joins.joined refl in
      record { end = rw (← joins.fits, ← is, puts.ends); few = λ _. rw (← is) puts.few; written = λ _. rw (← is) puts.written }

-- the part of the operator that begins at number i
module _ (x : List ℕ) (i : ℕ) (before : List ℕ) (at : ℕ) where
  abbrev WritesAction : List ℕ → Option ℕ → Type 0
  WritesAction after r = Writes (action_fits (ranges x) (action_at x i)) (action_part first_edition (ordered_action (action_at x i))) part_most before after at r

  abbrev pre : Assignment
  pre = put_in [] (prevail x i ++ old_values x i)

  abbrev eff : Assignment
  eff = put_in [] (new_values x i)

  -- what it may write
  writes_new : written (action_at x i) ≡ new_values x i
  unfolding written action_at
  writes_new = each_written (new_values x i)

  -- its tests, and its words
  tests : action_fits (ranges x) (action_at x i)
      ≡ group_fits (ranges x) (prevail x i ++ old_values x i) && (group_fits (ranges x) (new_values x i) && leb (action_at x i).cost limits.cost)
  unfolding action_fits action_at
  tests = rw (no_conditions (new_values x i), writes_new)

  words : action_part first_edition (ordered_action (action_at x i)) ≡ (action_at x i).cost ∷ length pre ∷ (fact_words pre ++ fact_words eff)
  unfolding action_part effects_part ordered_action action_at
  words = rw (ordered_written (action_at x i), writes_new)

  pub action_dear : limits.cost < (action_at x i).cost → (after : List ℕ) → WritesAction after None
  action_dear dear after = writes_unfit (tests ∙ and_none (group_fits _ _) _ (and_none (group_fits _ _) _ (lt-leb _ _ dear)))

  abbrev WritesNeeded : List ℕ → Option ℕ → Type 0
  WritesNeeded middle n = WritesGroup (ranges x) (prevail x i ++ old_values x i) before middle (at + 2) n

  pub action_unneeded : {middle : List ℕ} → WritesNeeded middle None → WritesAction middle None
  action_unneeded needed = writes_unfit (tests ∙ rw (ends_none _ _ needed.end))

  pub action_written : {middle : List ℕ} (n : ℕ) → WritesNeeded middle (Some n) → (price : ℕ) → price ≡ (action_at x i).cost → price ≤ limits.cost
      → (headed : List ℕ) → headed ≡ sets middle at (price ∷ (n - (at + 2)) ∷ []) → (after : List ℕ) (r : Option ℕ)
      → WritesGroup (ranges x) (new_values x i) headed after n r → WritesAction after r
  action_written n needed price priced cheap headed stored after r wrote =
      let fits : group_fits (ranges x) (prevail x i ++ old_values x i) ≡ true = (ends_some needed.end).0 in
      let ends : n ≡ at + 2 + length (fact_words pre) = (ends_some needed.end).1 in
      let head : List ℕ = price ∷ length pre ∷ [] in
      let many : length (fact_words pre) ≡ length pre = length-map pre fact_word in
      let count : n - (at + 2) ≡ length pre = omega arith in
      let long : length (fact_words pre ++ fact_words eff) ≡ length (fact_words pre) + length (fact_words eff) =
      length-append (fact_words pre) (fact_words eff) in
      let apart : at + length head ≤ at + 2 = omega arith in
      let heads : headed ≡ sets before at (head ++ fact_words pre) =
      stored ∙ rw (count, needed.written fits) (sym (stores_apart before at head (at + 2) (fact_words pre) apart) ∙ stores_joined before head (fact_words pre) at) in
      let behind : n ≡ at + length (head ++ fact_words pre) = omega arith in
      let whole : action_fits (ranges x) (action_at x i) ≡ group_fits (ranges x) (new_values x i) =
      tests ∙ rw (fits, ← priced, le-leb price limits.cost cheap, and_whole) in
      let end : n + length (fact_words eff) ≡ at + length ((action_at x i).cost ∷ length pre ∷ (fact_words pre ++ fact_words eff)) = omega arith in
      rw words (record {
        end = rw (whole, ← end) wrote.end;
        few = λ done. omega (arith, needed.few fits, wrote.few (sym whole ∙ done));
        written = λ done. wrote.written (sym whole ∙ done) ∙ rw (heads, behind, stores_joined before (head ++ fact_words pre) (fact_words eff) at, ← priced);
      })
