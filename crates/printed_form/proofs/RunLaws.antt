-- The runs of bytes: how many and how long they are, and two ways to cut one list. Assumes nothing.
use Prim.Native.Nat.{ℕ, ◌≤◌, ◌<◌}
use native.Mathlib.Omega.{arith}
use mathlib.Core.Path.{◌≡◌, refl, sym, ◌∙◌, ap}
use mathlib.Core.Bool.{Bool, true, false}
use mathlib.Core.List.{List, [], ◌∷◌, ◌++◌, nil≢cons, head-eq_of_cons-eq, tail-eq_of_cons-eq}
use lib.ListN.{length}
use Rattle.ascii.specs.Bytes.{ends_line, runs, split}
use Rattle.ascii.proofs.SplitLaws.{split_at, split_in}
use Rattle.fields.specs.Between.Numbers.{most_number}
use Rattle.printed_form.proofs.WalkLaws.{AllShort}

-- there are no more runs than bytes, and one; and none has more bytes
pub runs_few : (bs : List ℕ) → length (split ends_line bs).others ≤ length bs
unfolding split
runs_few [] = omega arith
runs_few (b ∷ bs) = by_case (runs_few bs) (ends_line b) refl
  where
    by_case : length (split ends_line bs).others ≤ length bs → (t : Bool) → ends_line b ≡ t → length (split ends_line (b ∷ bs)).others ≤ length (b ∷ bs)
    by_case rest true e = rw (split_at ends_line b bs e) (omega arith)
    by_case rest false e = rw (split_in ends_line b bs e) (omega arith)

pub runs_short : (bs : List ℕ) → length bs < most_number → AllShort (runs (split ends_line bs)) × (length (split ends_line bs).first ≤ length bs)
unfolding split
runs_short [] few = ((omega arith, tt), omega arith)
runs_short (b ∷ bs) few = by_case (runs_short bs (omega arith)) (ends_line b) refl
  where
    by_case : AllShort (runs (split ends_line bs)) × (length (split ends_line bs).first ≤ length bs) → (t : Bool) → ends_line b ≡ t
        → AllShort (runs (split ends_line (b ∷ bs))) × (length (split ends_line (b ∷ bs)).first ≤ length (b ∷ bs))
    by_case (short, first) true e = rw (split_at ends_line b bs e) ((omega arith, short), omega arith)
    by_case (short, first) false e = rw (split_in ends_line b bs e) ((omega arith, short.1), omega arith)

pub not_empty : {A : Type 0} (before : List A) (x : A) (behind : List A) → [] ≡ before ++ (x ∷ behind) → ⊥
not_empty [] x behind e = nil≢cons e
not_empty (b ∷ before) x behind e = nil≢cons e

-- a list cut before its last element and elsewhere
pub cut_last : {A : Type 0} (before : List A) (last : A) (front : List A) (here : A) (behind : List A) → before ++ (last ∷ []) ≡ front ++ (here ∷ behind)
    → (rest : List A) × (before ≡ front ++ rest) × (here ∷ behind ≡ rest ++ (last ∷ []))
cut_last before last [] here behind e = (before, refl, sym e)
cut_last [] last (f ∷ front) here behind e = absurd (not_empty front here behind (tail-eq_of_cons-eq e))
cut_last (b ∷ before) last (f ∷ front) here behind e =
    let (rest, first, second) = cut_last before last front here behind (tail-eq_of_cons-eq e) in
    (rest, ap (λ c. c ∷ before) (head-eq_of_cons-eq e) ∙ ap (λ cs. f ∷ cs) first, second)

-- a list cut at two places
pub cut_twice : {A : Type 0} (before : List A) (x : A) (behind : List A) (longer : List A) (y : A) (rest : List A) → before ++ (x ∷ behind) ≡ longer ++ (y ∷ rest)
    → length before < length longer → (middle : List A) × (longer ≡ before ++ (x ∷ middle)) × (behind ≡ middle ++ (y ∷ rest))
cut_twice [] x behind [] y rest e less = absurd (omega arith)
cut_twice [] x behind (l ∷ longer) y rest e less = (longer, ap (λ c. c ∷ longer) (sym (head-eq_of_cons-eq e)), tail-eq_of_cons-eq e)
cut_twice (b ∷ before) x behind [] y rest e less = absurd (omega arith)
cut_twice (b ∷ before) x behind (l ∷ longer) y rest e less =
    let (middle, first, second) = cut_twice before x behind longer y rest (tail-eq_of_cons-eq e) (omega arith) in
    (middle, ap (λ c. c ∷ longer) (sym (head-eq_of_cons-eq e)) ∙ ap (λ cs. b ∷ cs) first, second)
