-- Parts laid out among words: they stand end to end, and the pairs say where. Parts are laid out in just those words that `sheet_of` writes of them, by
-- induction on the parts. Assumes nothing.
use Prim.Native.Nat.{ℕ, zero, suc, ◌+◌, ◌*◌, ◌<◌}
use native.Mathlib.Omega.{arith}
use mathlib.Core.Path.{◌≡◌, refl, sym, ◌∙◌, ap}
use mathlib.Core.List.{List, [], ◌∷◌, ◌++◌, flatten}
use lib.ListN.{length, get_or, length-append, get_or-append}
use lib.Seq.{get_or-append-add, ext_get_or}
use Rattle.sheet.specs.Layout.{word, edition, variables, actions, stated_length, offset, size}
use Rattle.sheet.specs.Between.Encode.{pairs_of, first_offset, body, sheet_of}

-- the words l stand from word i on: word j = i + n is l's word n
pub record Stands (w : List ℕ) (i : ℕ) (l : List ℕ) : Type 0 where
  pub reads : (n j : ℕ) → j ≡ i + n → n < length l → word w j ≡ get_or l n 0

stands_whole : (w : List ℕ) → Stands w 0 w
stands_whole w = record { reads = λ n j e h. ap (word w) (omega arith) }

module _ {w : List ℕ} {i : ℕ} (a b : List ℕ) (s : Stands w i (a ++ b)) where
  pub stands_first : Stands w i a
  stands_first = record { reads = λ n j e h. s.reads n j e (omega (arith, length-append a b)) ∙ get_or-append a b 0 n h }

  pub stands_second : (k : ℕ) → k ≡ i + length a → Stands w k b
  stands_second k there =
      record { reads = λ n j e h. s.reads (length a + n) j (omega arith) (omega (arith, length-append a b)) ∙ get_or-append-add a b n 0 }

-- what stands one after the other stands together
pub stands_word : {w l : List ℕ} {i k x : ℕ} → k ≡ i + 1 → word w i ≡ x → Stands w k l → Stands w i (x ∷ l)
stands_word {w} {l} {i} {k} {x} next here rest = record { reads = at_word }
  where
    at_word : (n j : ℕ) → j ≡ i + n → n < length (x ∷ l) → word w j ≡ get_or (x ∷ l) n 0
    at_word zero j e h = let same : j ≡ i = omega arith in rw same here
    at_word (suc n) j e h = rest.reads n j (omega arith) (omega arith)

pub stands_both : {w : List ℕ} {k : ℕ} (a b : List ℕ) (i : ℕ) → k ≡ i + length a → Stands w i a → Stands w k b → Stands w i (a ++ b)
stands_both {k = k} [] b i e s t = let same : k ≡ i = omega arith in rw same at t
stands_both (x ∷ a) b i e s t =
    stands_word refl (s.reads 0 i (omega arith) (omega arith)) (stands_both a b (i + 1) (omega arith) (stands_second (x ∷ []) a s (i + 1) refl) t)

-- pair k says that the part p begins at word `from`, and there it stands
pub record Part (w : List ℕ) (k from : ℕ) (p : List ℕ) : Type 0 where
  pub in_place : offset w k ≡ from
  pub sized : size w k ≡ length p
  pub stands : Stands w from p

-- from pair k and word `from` on, the parts stand end to end, up to the last word
pub data Laid (w : List ℕ) : ℕ → ℕ → List (List ℕ) → Type 0 where
  over : {k from : ℕ} → from ≡ length w → Laid w k from []
  then : {k from : ℕ} {p : List ℕ} {ps : List (List ℕ)} → Part w k from p → Laid w (k + 1) (from + length p) ps → Laid w k from (p ∷ ps)

-- where the pairs and the parts are spelled out, up to the last word, the parts are laid out
spelled : (w : List ℕ) (k from : ℕ) (ps : List (List ℕ)) → Stands w (4 + 2 * k) (pairs_of from ps) → Stands w from (flatten ps)
    → from + length (flatten ps) ≡ length w → Laid w k from ps
unfolding pairs_of flatten
spelled w k from [] pairs parts end = over {from = from} (omega arith)
spelled w k from (p ∷ ps) pairs parts end =
    let begin : offset w k ≡ from = pairs.reads 0 _ (omega arith) (omega arith) in
    let long : size w k ≡ length p = pairs.reads 1 _ refl (omega arith) in
    let later : List ℕ = pairs_of (from + length p) ps in
    then (record { in_place = begin; sized = long; stands = stands_first p (flatten ps) parts })
    (spelled w (k + 1) (from + length p) ps
    (stands_second (from ∷ length p ∷ []) later pairs _ (omega arith))
    (stands_second p (flatten ps) parts _ refl)
    (omega (arith, length-append p (flatten ps))))

pub pairs_of_length : (from : ℕ) (ps : List (List ℕ)) → length (pairs_of from ps) ≡ 2 * length ps
unfolding pairs_of
pairs_of_length from [] = refl
pairs_of_length from (p ∷ ps) = omega (arith, pairs_of_length (from + length p) ps)

body_length : (ps : List (List ℕ)) → 4 + length (body ps) ≡ first_offset ps + length (flatten ps)
unfolding body
body_length ps = omega (arith, pairs_of_length (first_offset ps) ps, length-append (pairs_of (first_offset ps) ps) (flatten ps))

-- in what `sheet_of` writes, N is the number of words, and the parts are laid out
module _ (edition variables actions : ℕ) (ps : List (List ℕ)) where
  pub sheet_of_length : 4 + length (body ps) ≡ length (sheet_of edition variables actions ps)
  unfolding sheet_of
  sheet_of_length = omega arith

  pub sheet_of_laid : Laid (sheet_of edition variables actions ps) 0 (first_offset ps) ps
  unfolding sheet_of body
  sheet_of_laid =
      let w : List ℕ = sheet_of edition variables actions ps in
      let pairs : List ℕ = pairs_of (first_offset ps) ps in
      let header : List ℕ = edition ∷ variables ∷ actions ∷ (4 + length (body ps)) ∷ [] in
      let rest : Stands w 4 (body ps) = stands_second header (body ps) (stands_whole w) 4 refl in
      spelled w 0 (first_offset ps) ps
      (stands_first pairs (flatten ps) rest)
      (stands_second pairs (flatten ps) rest _ (omega (arith, pairs_of_length (first_offset ps) ps)))
      (sym (body_length ps) ∙ sheet_of_length)

-- words among which parts are laid out are those that `sheet_of` writes of them
laid_pairs : {w : List ℕ} {k from : ℕ} {ps : List (List ℕ)} → Laid w k from ps → Stands w (4 + 2 * k) (pairs_of from ps)
unfolding pairs_of
laid_pairs (over e) = record { reads = λ n j e h. absurd (omega arith) }
laid_pairs (then told rest) = stands_word refl told.in_place (stands_word (omega arith) told.sized (laid_pairs rest))

laid_parts : {w : List ℕ} {k from : ℕ} {ps : List (List ℕ)} → Laid w k from ps → Stands w from (flatten ps)
unfolding flatten
laid_parts (over e) = record { reads = λ n j e h. absurd (omega arith) }
laid_parts {from = from} (then {p = p} {ps = ps} told rest) = stands_both p (flatten ps) from refl told.stands (laid_parts rest)

pub laid_length : {w : List ℕ} {k from : ℕ} {ps : List (List ℕ)} → Laid w k from ps → from + length (flatten ps) ≡ length w
unfolding flatten
laid_length (over e) = omega arith
laid_length (then {p = p} {ps = ps} told rest) = omega (arith, laid_length rest, length-append p (flatten ps))

pub laid_sheet : (w : List ℕ) (ps : List (List ℕ)) → stated_length w ≡ length w → Laid w 0 (first_offset ps) ps
    → sheet_of (edition w) (variables w) (actions w) ps ≡ w
unfolding sheet_of body
laid_sheet w ps stated laid =
    let pairs : List ℕ = pairs_of (first_offset ps) ps in
    let over_pairs : first_offset ps ≡ 4 + length pairs = omega (arith, pairs_of_length (first_offset ps) ps) in
    let rest : Stands w 4 (body ps) = stands_both pairs (flatten ps) 4 over_pairs (laid_pairs laid) (laid_parts laid) in
    let long : 4 + length (body ps) ≡ length w = body_length ps ∙ laid_length laid in
    let s : List ℕ = sheet_of (edition w) (variables w) (actions w) ps in
    let whole : Stands w 0 s = stands_word refl refl (stands_word refl refl (stands_word refl refl (stands_word refl (stated ∙ sym long) rest))) in
    ext_get_or 0 s w (omega arith) (λ n h. sym (whole.reads n n (omega arith) h))
