-- Facts that differ, and facts that contradict each other: those among which two differ, so facts that agree don't. By what is found in a list. Assumes nothing.
use mathlib.Core.Path.{◌≡◌, refl, sym, ◌∙◌}
use mathlib.Core.Logic.{⊎_elim}
use mathlib.Core.Bool.{Bool, true, false, true≢false, not, and-eq-true_iff}
use mathlib.Core.List.Memᴰ
use mathlib.Core.List.{◌++◌, Memᴰ}
use lib.Dec.{eqb}
use borrow.Author.Tests.{eqb-true, eqb-false, eq-eqb, ne_eqb, not-true}
use Rattle.sas.specs.Task.{Fact, Assignment}
use Rattle.sas.specs.Conflict.{some_of, differ, contradictory}
use Rattle.sas.specs.Between.WellFormed.{Agreeing}
use Rattle.sas.proofs.SomeLaws.{found, found_passes, none_found}

-- facts that differ are of one variable, at two values
pub differ_parts : (f g : Fact) → differ f g ≡ true → (f.variable ≡ g.variable) × (f.value ≡ g.value → ⊥)
unfolding differ
differ_parts f g h =
    let (variable, value) = (and-eq-true_iff (eqb f.variable g.variable) (not (eqb f.value g.value))).0 h in
    (eqb-true _ _ variable, eqb-false _ _ (not-true _ value))

-- and such facts differ
pub differ_there : (f g : Fact) → f.variable ≡ g.variable → (f.value ≡ g.value → ⊥) → differ f g ≡ true
unfolding differ
differ_there f g same other = rw (eq-eqb f.variable g.variable same, ne_eqb f.value g.value other)

-- either way round
pub differ_back : (f g : Fact) → differ f g ≡ true → differ g f ≡ true
differ_back f g h = let (same, other) = differ_parts f g h in differ_there g f (sym same) (λ e. other (sym e))

-- facts of two variables don't
pub differ_apart : (f g : Fact) → (f.variable ≡ g.variable → ⊥) → differ f g ≡ false
unfolding differ
differ_apart f g other = rw (ne_eqb f.variable g.variable other)

-- nor do facts of one value
pub differ_alike : (f g : Fact) → f.value ≡ g.value → differ f g ≡ false
differ_alike f g same = by_case (differ f g) refl
  where
    by_case : (b : Bool) → differ f g ≡ b → b ≡ false
    by_case true h = absurd ((differ_parts f g h).1 same)
    by_case false h = refl

-- facts that don't differ, of one variable, have one value
differ_not : (f g : Fact) → differ f g ≡ false → f.variable ≡ g.variable → f.value ≡ g.value
differ_not f g h same = by_case (eqb f.value g.value) refl
  where
    by_case : (b : Bool) → eqb f.value g.value ≡ b → f.value ≡ g.value
    by_case true e = eqb-true _ _ e
    by_case false e = absurd (true≢false (sym (differ_there f g same (eqb-false _ _ e)) ∙ h))

-- two facts that differ are a contradiction
pub contradicted : {f g : Fact} (q : Assignment) → Memᴰ f q → Memᴰ g q → differ f g ≡ true → contradictory q ≡ true
unfolding contradictory
contradicted {f} q m n h = found (λ k. some_of (differ k) q) m (found (differ f) n h)

-- and in a contradiction two differ, so that it stays one among more facts
pub contradicts_among : (q r : Assignment) → ((f : Fact) → Memᴰ f q → Memᴰ f r) → contradictory q ≡ true → contradictory r ≡ true
unfolding contradictory
contradicts_among q r among h =
    let (f, m, some) = found_passes (λ k. some_of (differ k) q) q h in
    let (g, n, both) = found_passes (differ f) q some in
    contradicted r (among f m) (among g n) both

-- facts that agree are none
pub agreeing_not : (q : Assignment) → Agreeing q → contradictory q ≡ false
unfolding contradictory
agreeing_not q agree =
    none_found (λ k. some_of (differ k) q) q (λ f m. none_found (differ f) q (λ g n. pair f g m n (differ f g) refl))
  where
    pair : (f g : Fact) → Memᴰ f q → Memᴰ g q → (b : Bool) → differ f g ≡ b → b ≡ false
    pair f g m n true h = let (same, other) = differ_parts f g h in absurd (other (agree f g m n same))
    pair f g m n false h = refl

-- facts that agree, joined with such of which none differs from one of them, agree
pub joined_agrees : (p q : Assignment) → Agreeing p → Agreeing q → ((f g : Fact) → Memᴰ f q → Memᴰ g p → differ f g ≡ false) → Agreeing (p ++ q)
joined_agrees p q first second between f g m n same =
    ⊎_elim
    (λ one. ⊎_elim (λ two. first f g one two same) (λ two. sym (differ_not g f (between g f two one) (sym same))) (Memᴰ.append_cases p n))
    (λ one. ⊎_elim (λ two. differ_not f g (between f g one two) same) (λ two. second f g one two same) (Memᴰ.append_cases p n))
    (Memᴰ.append_cases p m)
