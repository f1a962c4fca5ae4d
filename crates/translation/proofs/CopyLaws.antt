-- The same facts in another order: how often a fact stands in a group that it is put into, and of groups whose variables
-- rise there is one alone. Assumes nothing.
use Prim.Native.Nat.{ℕ, suc, ◌+◌, ◌≤◌, ◌<◌}
use native.Mathlib.Omega.{arith}
use mathlib.Core.Path.{◌≡◌, refl, sym, ◌∙◌, ap, subst}
use mathlib.Core.Logic.{⊎_elim}
use mathlib.Core.Bool.{Bool, true, false, cond, ◌||◌, false≢true, and-eq-true_iff}
use mathlib.Core.List.Memᴰ
use mathlib.Core.List.{List, [], ◌∷◌, Memᴰ}
use lib.ListN.{length, get_or}
use lib.Dec.{eqb, leb}
use borrow.Author.Tests.{eqb-true, eq-eqb, leb-true, leb-false, lt-ltb}
use Rattle.sas.specs.Task.{Fact, Assignment}
use Rattle.sas.specs.Between.WellFormed.{Known, Rising}
use Rattle.sas.specs.Between.WellFormed.Rising.{empty, fact}
use Rattle.sas.proofs.WellFormedLaws.{rising_known, rising_above}
use Rattle.meaning.specs.Between.Order.{insert, put_in, in_order}
use Rattle.meaning.specs.Between.Writable.{known, has, fit_in, group_fits}
use Rattle.meaning.proofs.OrderLaws.{insert_cases}
use Rattle.meaning.proofs.OrderTheorem.{in_order_same, group_rising}
use Rattle.translation.specs.Translation.{alike, copies, SameFacts}

abbrev one : Bool → ℕ
one b = cond b 1 0

pub alike_self : (f : Fact) → alike f f ≡ true
alike_self f = rw (eq-eqb f.variable f.variable refl, eq-eqb f.value f.value refl)

pub alike_same : (f g : Fact) → alike f g ≡ true → f ≡ g
alike_same f g e =
    let (first, second) = (and-eq-true_iff (eqb f.variable g.variable) (eqb f.value g.value)).0 e in
    ap (λ v. record { variable = v; value = f.value }) (eqb-true f.variable g.variable first)
    ∙ ap (λ v. record { variable = g.variable; value = v }) (eqb-true f.value g.value second)

-- a fact that stands there, and one that does not
copies_self : (f : Fact) (q : Assignment) → copies f (f ∷ q) ≡ 1 + copies f q
unfolding copies
copies_self f q = rw (alike_self f)

copies_more : (f g : Fact) (q : Assignment) → copies f q ≤ copies f (g ∷ q)
unfolding copies
copies_more f g q = omega arith

pub member_copies : (f : Fact) (q : Assignment) → Memᴰ f q → 1 ≤ copies f q
member_copies f [] m = absurd (Memᴰ.not-nil m)
member_copies f (g ∷ q) (Memᴰ.head e) = subst (λ h. 1 ≤ copies f (h ∷ q)) e (omega (arith, copies_self f q))
member_copies f (g ∷ q) (Memᴰ.tail m) = omega (arith, member_copies f q m, copies_more f g q)

pub copies_member : (f : Fact) (q : Assignment) → 1 ≤ copies f q → Memᴰ f q
unfolding copies
copies_member f [] some_one = absurd (omega arith)
copies_member f (g ∷ q) some_one = by_case (copies_member f q) (alike f g) refl some_one
  where
    by_case : (1 ≤ copies f q → Memᴰ f q) → (b : Bool) → alike f g ≡ b → 1 ≤ one b + copies f q → Memᴰ f (g ∷ q)
    by_case rest true e some = Memᴰ.head (alike_same f g e)
    by_case rest false e some = Memᴰ.tail (rest (omega arith))

-- putting a fact into a group
insert_copies : (f g : Fact) (q : Assignment) → copies f (insert g q) ≡ copies f (g ∷ q)
unfolding insert copies
insert_copies f g [] = refl
insert_copies f g (h ∷ q) =
    insert_cases (λ r. copies f r ≡ copies f (g ∷ h ∷ q)) g h q (λ _. let rest = insert_copies f g q in omega arith) (λ _. refl)

put_in_copies : (f : Fact) (q fs : Assignment) → copies f (put_in q fs) ≡ copies f q + copies f fs
unfolding put_in copies
put_in_copies f q [] = omega arith
put_in_copies f q (g ∷ fs) = put_in_copies f (insert g q) fs ∙ ap (λ n. n + copies f fs) (insert_copies f g q) ∙ omega arith

pub in_order_facts : (fs : Assignment) → SameFacts fs (in_order fs)
unfolding copies
in_order_facts fs f = sym (put_in_copies f [] fs ∙ omega arith)

-- in a group whose variables rise no variable stands twice
not_below : {ranges : List ℕ} {from : ℕ} {q : Assignment} (k : Fact) → Rising ranges from q → Memᴰ k q → k.variable < from → ⊥
not_below k rising there low = omega (arith, rising_above rising there)

rising_one : {ranges : List ℕ} {from : ℕ} {q : Assignment} (f g : Fact) → Rising ranges from q → Memᴰ f q → Memᴰ g q → f.variable ≡ g.variable → f ≡ g
rising_one f g empty m n same = absurd (Memᴰ.not-nil m)
rising_one f g (fact {f = h} first lowest rest) m n same =
    ⊎_elim
    (λ e.
    ⊎_elim (λ d. e ∙ sym d) (λ later. absurd (not_below g rest later (let alike_first : f.variable ≡ h.variable = ap (λ k. k.variable) e in omega arith)))
    (Memᴰ.cases_cons n))
    (λ there.
    ⊎_elim (λ d. absurd (not_below f rest there (let alike_first : g.variable ≡ h.variable = ap (λ k. k.variable) d in omega arith)))
    (λ later. rising_one f g rest there later same) (Memᴰ.cases_cons n))
    (Memᴰ.cases_cons m)

rising_copies : {ranges : List ℕ} {from : ℕ} {q : Assignment} (f : Fact) → Rising ranges from q → copies f q ≤ 1
unfolding copies
rising_copies f empty = omega arith
rising_copies f (fact {f = g} {q = q} first lowest rest) = by_case (rising_copies f rest) (alike f g) refl
  where
    none_behind : f ≡ g → 1 ≤ copies f q → ⊥
    none_behind same some_one =
        let alike_first : f.variable ≡ g.variable = ap (λ k. k.variable) same in
        not_below f rest (copies_member f q some_one) (omega arith)

    by_case : copies f q ≤ 1 → (b : Bool) → alike f g ≡ b → one b + copies f q ≤ 1
    by_case few false e = omega arith
    by_case few true e = at_most (leb 1 (copies f q)) refl
      where
        at_most : (c : Bool) → leb 1 (copies f q) ≡ c → 1 + copies f q ≤ 1
        at_most true h = absurd (none_behind (alike_same f g e) (leb-true 1 (copies f q) h))
        at_most false h = omega (arith, leb-false 1 (copies f q) h)

-- a variable that a group has is that of one of its facts
has_member : (v : ℕ) (q : Assignment) → has v q ≡ true → (g : Fact) × Memᴰ g q × (v ≡ g.variable)
unfolding has
has_member v [] e = absurd (false≢true e)
has_member v (g ∷ q) e = by_case (has_member v q) (eqb v g.variable) refl e
  where
    by_case : (has v q ≡ true → (h : Fact) × Memᴰ h q × (v ≡ h.variable)) → (b : Bool) → eqb v g.variable ≡ b → (b || has v q) ≡ true
        → (h : Fact) × Memᴰ h (g ∷ q) × (v ≡ h.variable)
    by_case rest true is either = (g, Memᴰ.head refl, eqb-true v g.variable is)
    by_case rest false is either = let (h, there, same) = rest either in (h, Memᴰ.tail there, same)

-- a group of the same facts as one whose variables rise fits
module _ (ranges : List ℕ) (gs : Assignment) (rising : Rising ranges 0 gs) where
  fits_first : (q : Assignment) (f : Fact) (fs : Assignment) → known ranges f ≡ true → has f.variable q ≡ false → fit_in ranges (insert f q) fs ≡ true
      → fit_in ranges q (f ∷ fs) ≡ true
  unfolding fit_in
  fits_first q f fs is new rest = rw (is, new) rest

  is_known : (f : Fact) → 1 ≤ copies f gs → known ranges f ≡ true
  unfolding known
  is_known f some_one =
      let k : Known ranges f = rising_known rising (copies_member f gs some_one) in
      rw (lt-ltb f.variable (length ranges) k.variable, lt-ltb f.value (get_or ranges f.variable 0) k.value)

  is_new : (q : Assignment) (f : Fact) → ((g : Fact) → copies g q + copies g (f ∷ []) ≤ copies g gs) → has f.variable q ≡ false
  unfolding copies
  is_new q f within = by_case (has f.variable q) refl
    where
      by_case : (b : Bool) → has f.variable q ≡ b → has f.variable q ≡ false
      by_case false e = e
      by_case true e =
          let (g, there, same) = has_member f.variable q e in
          let here : 1 ≤ copies g q = member_copies g q there in
          let self : copies f (f ∷ []) ≡ 1 + copies f [] = copies_self f [] in
          let one_f : 1 ≤ copies f gs = omega (arith, within f) in
          let one_g : 1 ≤ copies g gs = omega (arith, within g) in
          let equal : f ≡ g = rising_one f g rising (copies_member f gs one_f) (copies_member g gs one_g) same in
          let twice : 1 ≤ copies f q = subst (λ h. 1 ≤ copies h q) (sym equal) here in
          absurd (omega (arith, within f, rising_copies f rising))

  fit_same : (q fs : Assignment) → ((g : Fact) → copies g q + copies g fs ≤ copies g gs) → fit_in ranges q fs ≡ true
  unfolding fit_in copies
  fit_same q [] within = refl
  fit_same q (f ∷ fs) within =
      fits_first q f fs (is_known f (omega (arith, within f, copies_self f fs)))
      (is_new q f (λ g. omega (arith, within g)))
      (fit_same (insert f q) fs (λ g. omega (arith, within g, insert_copies g f q)))

  pub group_same : (fs : Assignment) → SameFacts fs gs → group_fits ranges fs ≡ true
  unfolding copies
  group_same fs same = fit_same [] fs (λ g. omega (arith, same g))

-- two groups whose variables rise and that have the same facts are one
first_same : {ranges : List ℕ} (f g : Fact) (p q : Assignment) → Rising ranges (suc f.variable) p → Rising ranges (suc g.variable) q
    → Memᴰ f (g ∷ q) → Memᴰ g (f ∷ p) → f ≡ g
first_same f g p q above also m n =
    ⊎_elim (λ e. e)
    (λ there. ⊎_elim (λ e. sym e) (λ later. absurd (omega (arith, rising_above also there, rising_above above later))) (Memᴰ.cases_cons n))
    (Memᴰ.cases_cons m)

behind_first : {ranges : List ℕ} {p q : Assignment} (f g h : Fact) → f ≡ g → Rising ranges (suc f.variable) p → Memᴰ h p → Memᴰ h (g ∷ q) → Memᴰ h q
behind_first f g h same above there m =
    ⊎_elim
    (λ e. absurd (not_below h above there (let alike_first : h.variable ≡ f.variable = ap (λ k. k.variable) (e ∙ sym same) in omega arith)))
    (λ later. later)
    (Memᴰ.cases_cons m)

rising_unique : {ranges : List ℕ} {from low : ℕ} {p q : Assignment} → Rising ranges from p → Rising ranges low q
    → ((f : Fact) → Memᴰ f p → Memᴰ f q) → ((f : Fact) → Memᴰ f q → Memᴰ f p) → p ≡ q
rising_unique empty empty into back = refl
rising_unique empty (fact {f = g} first lowest rest) into back = absurd (Memᴰ.not-nil (back g (Memᴰ.head refl)))
rising_unique (fact {f = f} first lowest rest) empty into back = absurd (Memᴰ.not-nil (into f (Memᴰ.head refl)))
rising_unique (fact {f = f} {q = p} first lowest rest) (fact {f = g} {q = q} also low more) into back =
    let same : f ≡ g = first_same f g p q rest more (into f (Memᴰ.head refl)) (back g (Memᴰ.head refl)) in
    let others : p ≡ q =
    rising_unique rest more (λ h m. behind_first f g h same rest m (into h (Memᴰ.tail m)))
    (λ h m. behind_first g f h (sym same) more m (back h (Memᴰ.tail m))) in
    ap (λ k. k ∷ p) same ∙ ap (λ ks. g ∷ ks) others

-- so the facts of a group put in order are those of the one that rises
pub in_order_is : (ranges : List ℕ) (fs gs : Assignment) → Rising ranges 0 gs → SameFacts fs gs → in_order fs ≡ gs
in_order_is ranges fs gs rising same =
    rising_unique (group_rising ranges fs (group_same ranges gs rising fs same)) rising
    (λ f m. copies_member f gs (omega (arith, same f, member_copies f fs ((in_order_same fs f).0 m))))
    (λ f m. (in_order_same fs f).1 (copies_member f fs (omega (arith, same f, member_copies f gs m))))
