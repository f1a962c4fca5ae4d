-- A fact and its word, and facts among words: they are read where their words stand, and stand where they are read. Assumes nothing.
use Prim.Native.Nat.{ℕ, ◌+◌, ◌-◌, ◌/◌, ◌%◌, ◌<◌}
use native.Mathlib.Nat.{div-add-mod'}
use native.Mathlib.Omega.{arith}
use mathlib.Core.Path.{◌≡◌, refl, sym, ◌∙◌, ap}
use mathlib.Core.List.{List, [], ◌∷◌, Memᴰ}
use lib.ListN.{length, get_or, length-map, get_or-map}
use Rattle.sas.specs.Task.{Fact, Assignment}
use Rattle.sheet.specs.Limits.{limits}
use Rattle.sheet.specs.Layout.{word}
use Rattle.sheet.specs.Decode.{fact_of, facts}
use Rattle.sheet.specs.Between.Encode.{fact_word, fact_words}
use Rattle.sheet.proofs.TableLaws.{table_at, facts_length, facts_over, facts_next}
use Rattle.sheet.proofs.LaidLaws.{Stands, stands_second}

-- a fact's word is the word of that fact only, where its value is below the limit, and each word is that of a fact
pub fact_of_word : (f : Fact) → f.value < limits.values → fact_of (fact_word f) ≡ f
fact_of_word f h =
    let variable : fact_word f / limits.values ≡ f.variable = omega arith in
    let value : fact_word f % limits.values ≡ f.value = omega arith in
    rw (variable, value)

pub word_of_fact : (x : ℕ) → fact_word (fact_of x) ≡ x
word_of_fact x = div-add-mod' x limits.values

pub facts_stand : (w : List ℕ) (i end : ℕ) → Stands w i (fact_words (facts w i end))
unfolding facts
facts_stand w i end =
    record {
      reads = λ n j e h.
          let there : n < end - i = omega (arith, length-map (facts w i end) fact_word, facts_length w i end) in
          let fact_there : get_or (facts w i end) n (fact_of 0) ≡ fact_of (word w j) = table_at (λ m. fact_of (word w m)) i (end - i) n j (fact_of 0) there e in
          sym (get_or-map fact_word (facts w i end) n (fact_of 0) ∙ ap fact_word fact_there ∙ word_of_fact (word w j));
    }

pub facts_read : {w : List ℕ} (q : Assignment) (i end : ℕ) → ((f : Fact) → Memᴰ f q → f.value < limits.values) → Stands w i (fact_words q) → end ≡ i + length q
    → facts w i end ≡ q
facts_read {w} [] i end small s e = facts_over w i end (omega arith)
facts_read {w} (f ∷ q) i end small s e =
    let here : word w i ≡ fact_word f = s.reads 0 i (omega arith) (omega arith) in
    let next : Stands w (i + 1) (fact_words q) = stands_second (fact_word f ∷ []) (fact_words q) s (i + 1) refl in
    facts_next w i end (omega arith)
    ∙ rw (here, fact_of_word f (small f (Memᴰ.head refl)), facts_read q (i + 1) end (λ g m. small g (Memᴰ.tail m)) next (omega arith))
