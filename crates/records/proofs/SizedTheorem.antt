-- The words of an accepted sheet and the entries of a list that can be read fit four bytes: a sheet is what its task is written as, and that is within the limits;
-- an entry is the number of an action. Assumes nothing.
use Prim.Native.Nat.{ℕ, suc, ◌+◌, ◌*◌, ◌≤◌, ◌<◌, ◌^◌}
use native.Mathlib.Omega.{arith}
use mathlib.Core.Path.{◌≡◌, refl, subst}
use mathlib.Core.Logic.{◌⊎◌, inl, inr}
use mathlib.Core.Bool.{Bool, true, false, cond}
use mathlib.Core.List.Memᴰ
use mathlib.Core.List.{List, [], ◌∷◌, map, flatten, Memᴰ}
use lib.ListN.{length, get_or, length-append}
use lib.Dec.{eqb}
use Rattle.sas.specs.Task.{Fact, Assignment, Effect, Action, Task}
use Rattle.sas.specs.Plan.{written}
use Rattle.sas.specs.Between.WellFormed.{Known, Rising, ActionFormed}
use Rattle.sas.proofs.WellFormedLaws.{rising_few, rising_known}
use Rattle.sheet.specs.Limits.{limits}
use Rattle.sheet.specs.Layout.{first_edition, second_edition, header, actions}
use Rattle.sheet.specs.Causes.{Accepted}
use Rattle.sheet.specs.Decode.{task}
use Rattle.sheet.specs.Between.Encode.{fact_word, fact_words, effect_part, effects_part, action_part, parts, pairs_of, first_offset, body, sheet_of, encode, Encodable}
use Rattle.sheet.proofs.LaidLaws.{pairs_of_length}
use Rattle.sheet.proofs.Parts.{accepted_measured}
use Rattle.sheet.proofs.EncodeTheorem.{decode_encodes, accepted_encodable}
use Rattle.plan.specs.Readable.{Readable}
use Rattle.records.specs.Bytes.{WordSized, nothing, word}
use Rattle.records.proofs.BytesTheorem.{sized_append}

sized_each : (xs : List ℕ) → ((i : ℕ) → i < length xs → get_or xs i 0 < 2 ^ 32) → WordSized xs
sized_each [] each = nothing
sized_each (x ∷ xs) each = word (each 0 (omega arith)) (sized_each xs (λ i h. each (suc i) (omega (arith, h))))

sized_pairs : (from : ℕ) (ps : List (List ℕ)) → from + length (flatten ps) ≤ limits.words → WordSized (pairs_of from ps)
unfolding pairs_of flatten
sized_pairs from [] fits = nothing
sized_pairs from (p ∷ ps) fits =
    word {x = from} (omega arith)
    (word {x = length p} (omega (arith, length-append p (flatten ps)))
    (sized_pairs (from + length p) ps (omega (arith, length-append p (flatten ps)))))

-- a task that can be written
module _ {edition : ℕ} (T : Task) (can : Encodable edition T) where
  known_sized : {f : Fact} → Known T.domains f → fact_word f < 2 ^ 32
  known_sized {f} known = omega (arith, known.variable, known.value, can.variables, can.values f.variable known.variable)

  sized_facts : (q : Assignment) → ((f : Fact) → Memᴰ f q → Known T.domains f) → WordSized (fact_words q)
  sized_facts [] known = nothing
  sized_facts (f ∷ q) known = word {x = fact_word f} (known_sized (known f (Memᴰ.head refl))) (sized_facts q (λ g m. known g (Memᴰ.tail m)))

  -- facts whose variables rise are no more than there are variables
  sized_group : {q : Assignment} → Rising T.domains 0 q → (length q < 2 ^ 32) × WordSized (fact_words q)
  sized_group {q} rising = (omega (arith, rising_few rising, can.variables), sized_facts q (λ f m. rising_known rising m))

  sized_conditional : (es : List Effect) → ((e : Effect) → Memᴰ e es → Rising T.domains 0 e.condition × Known T.domains e.fact)
      → WordSized (flatten (map effect_part es))
  unfolding flatten effect_part
  sized_conditional [] formed = nothing
  sized_conditional (e ∷ es) formed =
      let (condition, known) = formed e (Memᴰ.head refl) in
      let (few, facts) = sized_group condition in
      sized_append (word {x = length e.condition} few (sized_append facts (word {x = fact_word e.fact} (known_sized known) nothing)))
      (sized_conditional es (λ d m. formed d (Memᴰ.tail m)))

  sized_effects : (a : Action) → ActionFormed T.domains a → WordSized (effects_part edition a)
  unfolding effects_part written
  sized_effects a formed = by_edition (eqb edition second_edition)
    where
      by_edition : (b : Bool) → WordSized (cond b (flatten (map effect_part a.effects)) (fact_words (map (λ e. e.fact) a.effects)))
      by_edition true = sized_conditional a.effects (λ e m. (formed.conditions e m, formed.known e.fact (Memᴰ.map (λ d. d.fact) m)))
      by_edition false = sized_facts (map (λ e. e.fact) a.effects) formed.known

  sized_action : (a : Action) → Memᴰ a T.actions → WordSized (action_part edition a)
  unfolding action_part
  sized_action a is =
      let formed : ActionFormed T.domains a = can.well_formed.actions a is in
      let (few, facts) = sized_group formed.precondition in
      word {x = a.cost} (omega (arith, can.costs a is)) (word {x = length a.precondition} few (sized_append facts (sized_effects a formed)))

  sized_actions : (some : List Action) → ((a : Action) → Memᴰ a some → Memᴰ a T.actions) → WordSized (flatten (map (action_part edition) some))
  unfolding flatten
  sized_actions [] among = nothing
  sized_actions (a ∷ some) among = sized_append (sized_action a (among a (Memᴰ.head refl))) (sized_actions some (λ b is. among b (Memᴰ.tail is)))

  sized_parts : WordSized (flatten (parts edition T))
  unfolding parts flatten
  sized_parts =
      let start = can.well_formed.initial in
      sized_append (sized_each T.domains (λ v h. omega (arith, can.values v h)))
      (sized_append (sized_each T.initial (λ v h. let inside : v < length T.domains = omega (arith, start.complete) in omega (arith, start.below v inside, can.values v inside)))
      (sized_append (sized_group can.well_formed.goal).1 (sized_actions T.actions (λ a is. is))))

  sized_encoded : WordSized (encode edition T)
  unfolding encode sheet_of body
  sized_encoded =
      let all = can.words in
      let number : length (body (parts edition T)) ≡ 2 * length (parts edition T) + length (flatten (parts edition T)) =
      omega (arith, length-append (pairs_of (first_offset (parts edition T)) (parts edition T)) (flatten (parts edition T)), pairs_of_length (first_offset (parts edition T)) (parts edition T)) in
      word {x = edition} (known_edition can.known)
      (word {x = length T.domains} (omega (arith, can.variables))
      (word {x = length T.actions} (omega (arith, can.actions))
      (word {x = header + length (body (parts edition T))} (omega (arith, all))
      (sized_append (sized_pairs (first_offset (parts edition T)) (parts edition T) (omega (arith, all, number))) sized_parts))))
    where
      known_edition : (edition ≡ first_edition) ⊎ (edition ≡ second_edition) → edition < 2 ^ 32
      known_edition (inl one) = omega arith
      known_edition (inr two) = omega arith

accepted_sized : (w : List ℕ) → Accepted w → WordSized w
accepted_sized w accepted = subst WordSized (decode_encodes w accepted) (sized_encoded (task w) (accepted_encodable w accepted))

sized_entries : (n : ℕ) → n ≤ limits.actions → (l : List ℕ) → ((a : ℕ) → Memᴰ a l → a < n) → WordSized l
sized_entries n few [] known = nothing
sized_entries n few (a ∷ l) known = word {x = a} (omega (arith, known a (Memᴰ.head refl))) (sized_entries n few l (λ b is. known b (Memᴰ.tail is)))

pub readable_sized : (w l : List ℕ) → Readable w l → WordSized w × WordSized l
readable_sized w l readable =
    (accepted_sized w readable.accepted, sized_entries (actions w) (accepted_measured w readable.accepted).actions l readable.known)
