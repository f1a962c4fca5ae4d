-- A text put on a page behind another is both put at once; and a copy of as much of a text as there is room for puts it. Assumes nothing.
use Prim.Native.Nat.{ℕ, ◌+◌, ◌-◌, ◌≤◌, min}
use native.Mathlib.Omega.{arith}
use mathlib.Core.Path.{◌≡◌, refl, sym, ◌∙◌, ap, subst}
use mathlib.Core.List.{List, [], ◌∷◌, ◌++◌}
use lib.ListN.{length}
use lib.Seq.{sets, length-sets}
use Rattle.std.specs.List.{AllZip}
use Rattle.std.proofs.lemmas.List.Elements.{same_from_all_zip}
use Rattle.ascii.specs.Bytes.{space}
use Rattle.lines.specs.Lines.{numeral, spaced}
use Rattle.lines.specs.Prints.{Prints}
use Rattle.lines.specs.Puts.{Puts}
use Rattle.lines.specs.declared.Page.{Page}
use Rattle.lines.proofs.PrintLaws.{prints_nothing, prints_both, spaced_last}

pub puts_nothing : (page : Page) → Puts [] page page
puts_nothing page = record { same = refl; prints = prints_nothing page.end page.bytes.now page.end (omega (arith, page.within)) }

pub puts_as : {t u : List ℕ} {before after : Page} → t ≡ u → Puts t before after → Puts u before after
puts_as {before = before} {after = after} is puts = subst (λ t. Puts t before after) is puts

pub puts_both : {t u : List ℕ} {before between after : Page} → Puts t before between → Puts u between after → Puts (t ++ u) before after
puts_both first second = record { same = second.same ∙ first.same; prints = prints_both first.prints second.prints }

-- what is put on a new page is put at the front of its bytes
pub puts_prints : {text before after : List ℕ} {page page' : Page} → page.bytes.now ≡ before → page.end ≡ 0 → Puts text page page' → after ≡ page'.bytes.now
    → Prints text 0 before after page'.end
puts_prints lent empty puts left = rw left (rw (lent, empty) at puts.prints)

-- and numbers of which each stands behind a space, one more
pub spaced_put : (xs : List ℕ) (x : ℕ) {before between blank after : Page} → Puts (spaced xs) before between → Puts (space ∷ []) between blank → Puts (numeral x) blank after
    → Puts (spaced (xs ++ (x ∷ []))) before after
spaced_put xs x first second third = puts_as (sym (spaced_last xs x)) (puts_both first (puts_both second third))

-- numbers of a type that converts to what it holds
pub of_same : {t : List ℕ → List ℕ} {numbers : List ℕ} {before after : Page} → (xs : List ℕ) × AllZip (λ x y. y ≡ x) numbers xs × Puts (t xs) before after → Puts (t numbers) before after
of_same {t} {numbers} (xs, zipped, puts) = puts_as (ap t (same_from_all_zip (λ x y. y ≡ x) numbers xs zipped (λ x y is. is))) puts

-- where a text ends that is put behind the first `at` bytes, by how much room there is there
pub ends_put : (l after text : List ℕ) (at n : ℕ) → at ≤ length l → after ≡ sets l at text → n ≡ min (length text) (length after - at)
    → at + n ≡ min (at + length text) (length l)
ends_put l after text at n low put few = omega (arith, low, few, ap length put ∙ length-sets l at text)
