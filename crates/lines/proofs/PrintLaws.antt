-- A text put behind another is both put at once, also where the room ends within one of them. By walking along the first text. Assumes nothing.
use Prim.Native.Nat.{ℕ, suc, ◌+◌, ◌≤◌, min}
use native.Mathlib.Omega.{arith}
use mathlib.Core.Path.{◌≡◌, refl, sym, ◌∙◌, ap}
use mathlib.Core.Bool.{Bool, true, false}
use mathlib.Core.List.{List, [], ◌∷◌, ◌++◌, append_assoc, append-nil}
use lib.ListN.{length, set, length-append, length-set}
use lib.Seq.{sets, set_out, length-sets}
use lib.Dec.{leb}
use borrow.Author.Tests.{leb-true, leb-false}
use Rattle.ascii.specs.Bytes.{space}
use Rattle.lines.specs.Lines.{numeral, spaced}
use Rattle.lines.specs.Prints.{Prints}

-- past the end nothing is stored
pub sets_past : (l vs : List ℕ) (i : ℕ) → length l ≤ i → sets l i vs ≡ l
sets_past l [] i h = refl
sets_past l (v ∷ vs) i h = rw (set_out l i v h) (sets_past l vs (suc i) (omega arith))

-- storing begins at an index, or at the end where the index is past it
from_end : (l vs : List ℕ) (i : ℕ) → sets l (min i (length l)) vs ≡ sets l i vs
from_end l vs i = by_case (leb i (length l)) refl
  where
    by_case : (b : Bool) → leb i (length l) ≡ b → sets l (min i (length l)) vs ≡ sets l i vs
    by_case true e = let same : min i (length l) ≡ i = omega (arith, leb-true i (length l) e) in rw same
    by_case false e =
        let past : min i (length l) ≡ length l = omega (arith, leb-false i (length l) e) in
        rw past (sets_past l vs (length l) (omega arith) ∙ sym (sets_past l vs i (omega (arith, leb-false i (length l) e))))

pub sets_both : (l ts us : List ℕ) (i : ℕ) → sets (sets l i ts) (min (i + length ts) (length l)) us ≡ sets l i (ts ++ us)
sets_both l [] us i = let same : i + 0 ≡ i = omega arith in rw same (from_end l us i)
sets_both l (t ∷ ts) us i =
    let shifted : i + suc (length ts) ≡ suc i + length ts = omega arith in
    rw (shifted, ← length-set l i t) (sets_both (set l i t) ts us (suc i))

pub prints_both : {t u : List ℕ} {at : ℕ} {before between after : List ℕ} {middle end : ℕ} → Prints t at before between middle → Prints u middle between after end
    → Prints (t ++ u) at before after end
prints_both {t} {u} {at} {before} first second =
    record {
      written = second.written ∙ rw (first.written, first.ends) (sets_both before t u at);
      ends =
          let long : length (t ++ u) ≡ length t + length u = length-append t u in
          second.ends ∙ rw (first.written, length-sets) (omega (arith, first.ends));
    }

pub prints_nothing : (at : ℕ) (before : List ℕ) (end : ℕ) → end ≡ min at (length before) → Prints [] at before before end
prints_nothing at before end is = record { written = refl; ends = is ∙ omega arith }

-- no byte is added or lost, and a text ends within them
pub prints_length : {t : List ℕ} {at : ℕ} {before after : List ℕ} {end : ℕ} → Prints t at before after end → length after ≡ length before
prints_length {t} {at} {before} p = rw p.written (length-sets before at t)

pub prints_within : {t : List ℕ} {at : ℕ} {before after : List ℕ} {end : ℕ} → Prints t at before after end → end ≤ length after
prints_within p = omega (arith, p.ends, prints_length p)

-- the last of numbers that each stand behind a space
pub spaced_last : (xs : List ℕ) (x : ℕ) → spaced (xs ++ (x ∷ [])) ≡ spaced xs ++ (space ∷ numeral x)
unfolding spaced
spaced_last [] x = ap (λ t. space ∷ t) (append-nil (numeral x))
spaced_last (y ∷ xs) x = ap (λ t. space ∷ t) (ap (λ t. numeral y ++ t) (spaced_last xs x) ∙ sym (append_assoc (numeral y) (spaced xs) (space ∷ numeral x)))
