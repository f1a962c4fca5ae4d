-- What a program finds of its input, by the form of the input, as the code tells it from the unpacked words: the task, the plan and the further words lie inside them.
-- What the code calls is a variable here, with what is known of it as a premise. Assumes nothing.
use Prim.Native.Nat.{ℕ, suc, ◌+◌, ◌≤◌}
use native.Mathlib.Omega.{arith}
use mathlib.Core.Path.{◌≡◌, refl, sym, ◌∙◌, ap, subst}
use mathlib.Core.List.{List, ◌∷◌, ◌++◌}
use lib.ListN.{length, take, drop, length-drop, take-append-drop}
use lib.Seq.{take_all}
use Rattle.refusal.specs.declared.Refusal.TheVariants.{Length}
use Rattle.refusal.specs.Refusal.{Told, told_refusal}
use Rattle.sheet.specs.Decode.{table}
use Rattle.sheet.proofs.TableLaws.{table_length, table_more, table_take, table_part}
use Rattle.std.specs.Prelude.{Result, Ok, Err}
use Rattle.records.specs.declared.frame.Extent.{Extent}
use Rattle.records.specs.declared.frame.Fault.{Fault}
use Rattle.records.specs.declared.frame.Fault.TheVariants.{Broken, Long}
use Rattle.records.specs.RecordForm.{word_at, unpacked, plan_words, further_words, input_form}
use Rattle.records.specs.Between.Needed.{most_words}
use Rattle.program.specs.Long.{long_refusal}
use Rattle.program.specs.Opening.{Opening, Refused, Lodged, opening}
use Rattle.program.specs.Between.Found.{opening_of}
use Rattle.records.proofs.FormLaws.{inside_limits, EndThere, Says, input_says}

module _ (further : ℕ) (bytes : List ℕ) where
  pub opening_broken : input_form further bytes ≡ Err Broken → opening further bytes ≡ Refused (told_refusal Length)
  unfolding opening
  opening_broken is = rw (is, opening)

  pub opening_long : (n : ℕ) → input_form further bytes ≡ Err (Long n) → opening further bytes ≡ Refused (long_refusal (unpacked bytes n))
  unfolding opening
  opening_long n is = rw (is, opening)

  pub opening_whole : (x : Extent) → input_form further bytes ≡ Ok x
      → opening further bytes ≡ Lodged (unpacked bytes x.task) (plan_words bytes x.task x.plan) (further_words bytes x.task x.plan further)
  unfolding opening
  opening_whole x is = rw (is, opening)

module _ (further : ℕ) (bytes words : List ℕ) (room : ℕ) (roomy : most_words + further ≤ room) (unpacks : words ≡ unpacked bytes room) where
  says : (f : Result Extent Fault) → f ≡ input_form further bytes → Says further bytes f
  says f frames = rw (sym frames) at (input_says further bytes)

  task_part : (n : ℕ) → n ≤ room → take n words ≡ unpacked bytes n
  task_part n low = ap (take n) unpacks ∙ table_take (word_at bytes) 0 n room low

  part : (i m : ℕ) → i + m ≤ room → take m (drop i words) ≡ table (word_at bytes) i m
  part i m low = rw unpacks (table_part (word_at bytes) 0 i m room i low (omega arith))

  pub opens_broken : Err Broken ≡ input_form further bytes → Refused (told_refusal Length) ≡ opening further bytes
  opens_broken frames = sym (opening_broken further bytes (sym frames))

  pub opens_long : (n : ℕ) (w : List ℕ) (t : Told) → Err (Long n) ≡ input_form further bytes → w ≡ take n words → t ≡ long_refusal w → Refused t ≡ opening further bytes
  opens_long n w t frames task refuses =
      let (low, high) = inside_limits n (says (Err (Long n)) frames).inside in
      ap Refused (refuses ∙ ap long_refusal (task ∙ task_part n (omega arith))) ∙ sym (opening_long further bytes n (sym frames))

  pub opens_whole : (x : Extent) → Ok x ≡ input_form further bytes → opening_of further (Ok x) words ≡ opening further bytes
  opens_whole x frames =
      let there = says (Ok x) frames in
      let (low, high) = inside_limits x.task there.task.inside in
      rw (task_part x.task (omega arith), part (x.task + 1) x.plan (omega arith), part (x.task + 1 + x.plan) further (omega arith)) (sym (opening_whole further bytes x (sym frames)))

-- where an input of one record is opened, the record stands at the front of its words
abbrev AtFront : List ℕ → Opening → Type 0
AtFront words (Refused t) = Unit
AtFront words (Lodged w l rest) = take (length w + 1 + length l) words ≡ w ++ (length l ∷ l)

module _ (bytes words : List ℕ) (room : ℕ) (roomy : most_words ≤ room) (unpacks : words ≡ unpacked bytes room) where
  joined : (n m : ℕ) → n + 1 + m ≤ room → take (n + 1 + m) words ≡ unpacked bytes n ++ (word_at bytes n ∷ plan_words bytes n m)
  joined n m low =
      let all = n + 1 + m in
      let ws = unpacked bytes all in
      let behind : drop n ws ≡ word_at bytes n ∷ plan_words bytes n m =
      sym (take_all (suc m) (drop n ws) (omega (arith, length-drop n ws, table_length (word_at bytes) 0 all)))
      ∙ table_part (word_at bytes) 0 n (suc m) all n (omega arith) (omega arith)
      ∙ table_more (word_at bytes) n m in
      ap (take all) unpacks
      ∙ table_take (word_at bytes) 0 all room low
      ∙ sym (take-append-drop n ws)
      ∙ ap (λ l. l ++ drop n ws) (table_take (word_at bytes) 0 n all (omega arith))
      ∙ ap (λ l. unpacked bytes n ++ l) behind

  at_front : (f : Result Extent Fault) → input_form 0 bytes ≡ f → AtFront words (opening 0 bytes)
  at_front (Err Broken) is = subst (AtFront words) (sym (opening_broken 0 bytes is)) tt
  at_front (Err (Long n)) is = subst (AtFront words) (sym (opening_long 0 bytes n is)) tt
  at_front (Ok x) is =
      let n = x.task in
      let m = x.plan in
      let there : EndThere 0 bytes x = rw is at (input_says 0 bytes) in
      let (low, high) = inside_limits n there.task.inside in
      let task : length (unpacked bytes n) ≡ n = table_length (word_at bytes) 0 n in
      let plan : length (plan_words bytes n m) ≡ m = table_length (word_at bytes) (n + 1) m in
      let front : take (n + 1 + m) words ≡ unpacked bytes n ++ (m ∷ plan_words bytes n m) =
      joined n m (omega (arith, there.few)) ∙ ap (λ k. unpacked bytes n ++ (k ∷ plan_words bytes n m)) (sym there.plan) in
      subst (AtFront words) (sym (opening_whole 0 bytes x is)) (rw (task, plan) front)

  pub record_front : (w l rest : List ℕ) → Lodged w l rest ≡ opening 0 bytes → take (length w + 1 + length l) words ≡ w ++ (length l ∷ l)
  record_front w l rest is = subst (AtFront words) (sym is) (at_front (input_form 0 bytes) refl)
