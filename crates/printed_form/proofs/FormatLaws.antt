-- Formats: data whose printed lines are just the lines that fill what is due, each by one datum alone. Of one line, of two
-- formats in turn, of many, and of how many there are with each. Assumes nothing.
use Prim.Native.Nat.{ℕ, zero, suc}
use native.Mathlib.Omega.{arith}
use mathlib.Core.Path.{◌≡◌, refl, sym, ◌∙◌, ap, subst}
use mathlib.Core.List.{List, [], ◌∷◌, ◌++◌, map, flatten, append-nil}
use mathlib.Core.List.{cons≢nil, head-eq_of_cons-eq, tail-eq_of_cons-eq}
use lib.ListN.{length}
use Rattle.form.specs.Between.Form.{Due, Counted, counts, times, after_count}
use Rattle.planner.specs.Printed.{Line}
use Rattle.planner.specs.Broken.{OneLine}
use Rattle.printed_form.specs.Between.Datum.{Datum, line, adds, keeps}
use Rattle.printed_form.specs.Between.Filled.{Fills}
use Rattle.printed_form.proofs.DatumLaws.{datum_once}
use Rattle.printed_form.proofs.FillLaws.{fills_both, Parts, fills_split}

-- each line is one line
abbrev pub EachOne : List Line → Type 0
EachOne [] = Unit
EachOne (l ∷ ls) = OneLine l.bytes × EachOne ls

pub each_parts : (ls ms : List Line) → EachOne (ls ++ ms) → EachOne ls × EachOne ms
each_parts [] ms each = (tt, each)
each_parts (l ∷ ls) ms (here, there) = let (first, second) = each_parts ls ms there in ((here, first), second)

-- where what is due first is filled, that is told by the lines
pub fills_front : (ls ms : List Line) (ds : List Due) (xs ys : List ℕ) (rest more : List Line) → Fills ds ls xs → Fills ds ms ys → ls ++ rest ≡ ms ++ more
    → (ls ≡ ms) × (rest ≡ more)
fills_front [] [] ds xs ys rest more first second e = (refl, e)
fills_front [] (m ∷ ms) [] xs ys rest more first second e = absurd second
fills_front [] (m ∷ ms) (d ∷ ds) xs ys rest more (same, nothing) second e = absurd (cons≢nil same)
fills_front (l ∷ ls) [] [] xs ys rest more first second e = absurd first
fills_front (l ∷ ls) [] (d ∷ ds) xs ys rest more first (same, nothing) e = absurd (cons≢nil same)
fills_front (l ∷ ls) (m ∷ ms) [] xs ys rest more first second e = absurd first
fills_front (l ∷ ls) (m ∷ ms) (d ∷ ds) xs ys rest more first second e =
    let alike : l ≡ m = head-eq_of_cons-eq e in
    let same : second.datum ≡ first.datum =
    datum_once d second.datum first.datum (ap (λ k. k.bytes) (second.is ∙ sym alike ∙ sym first.is)) in
    let (fronts, behind) =
    fills_front ls ms (adds d first.datum ++ ds) first.others second.others rest more first.rest
    (subst (λ x. Fills (adds d x ++ ds) ms second.others) same second.rest) (tail-eq_of_cons-eq e) in
    (ap (λ k. k ∷ ls) alike ∙ ap (λ ks. m ∷ ks) fronts, behind)

pub record Format (A : Type 0) (ds : List Due) (print : A → List Line) (tape : A → List ℕ) : Type 0 where
  pub sound : (a : A) → EachOne (print a) → Fills ds (print a) (tape a)
  pub whole : (ls : List Line) (xs : List ℕ) → Fills ds ls xs → (a : A) × (print a ≡ ls)
  pub once : (a b : A) → EachOne (print a) → EachOne (print b) → print a ≡ print b → a ≡ b

-- a line that adds nothing to what is due
module _ (d : Due) (alone : (x : Datum d) → adds d x ≡ []) where
  line_sound : (x : Datum d) → EachOne (line d x ∷ []) → Fills (d ∷ []) (line d x ∷ []) (keeps d x)
  line_sound x (one, rest) =
      record {
        datum = x;
        is = refl;
        one_line = one;
        others = [];
        kept = sym (append-nil (keeps d x));
        rest = (ap (λ more. more ++ []) (alone x), refl);
      }

  line_whole : (ls : List Line) (xs : List ℕ) → Fills (d ∷ []) ls xs → (x : Datum d) × (line d x ∷ [] ≡ ls)
  line_whole [] xs (same, nothing) = absurd (cons≢nil same)
  line_whole (l ∷ []) xs fill = (fill.datum, ap (λ k. k ∷ []) fill.is)
  line_whole (l ∷ m ∷ ls) xs fill =
      absurd (subst (λ more. Fills (more ++ []) (m ∷ ls) fill.others) (alone fill.datum) fill.rest)

  pub line_format : Format (Datum d) (d ∷ []) (λ x. line d x ∷ []) (keeps d)
  line_format =
      record {
        sound = line_sound;
        whole = line_whole;
        once = λ x y one also e. datum_once d x y (ap (λ k. k.bytes) (head-eq_of_cons-eq e));
      }

-- two formats in turn
module _ {A B : Type 0} {ds es : List Due} {p : A → List Line} {q : B → List Line} {s : A → List ℕ} {t : B → List ℕ}
    (first : Format A ds p s) (second : Format B es q t) where
  abbrev pub both_lines : A × B → List Line
  both_lines c = p c.0 ++ q c.1

  abbrev pub both_numbers : A × B → List ℕ
  both_numbers c = s c.0 ++ t c.1

  seq_sound : (c : A × B) → EachOne (both_lines c) → Fills (ds ++ es) (both_lines c) (both_numbers c)
  seq_sound (a, b) each =
      let (here, there) = each_parts (p a) (q b) each in
      fills_both ds es (p a) (q b) (s a) (t b) (first.sound a here) (second.sound b there)

  seq_whole : (ls : List Line) (xs : List ℕ) → Fills (ds ++ es) ls xs → (c : A × B) × (both_lines c ≡ ls)
  seq_whole ls xs fill =
      let parts : Parts ds es ls xs = fills_split ls ds es xs fill in
      let (a, is) = first.whole parts.first parts.kept_first parts.fills_first in
      let (b, also) = second.whole parts.second parts.kept_second parts.fills_second in
      ((a, b), ap (λ ms. ms ++ q b) is ∙ ap (λ ms. parts.first ++ ms) also ∙ parts.lines)

  seq_once : (c d : A × B) → EachOne (both_lines c) → EachOne (both_lines d) → both_lines c ≡ both_lines d → c ≡ d
  seq_once (a, b) (a', b') each also e =
      let (here, there) = each_parts (p a) (q b) each in
      let (here', there') = each_parts (p a') (q b') also in
      let (fronts, behind) =
      fills_front (p a) (p a') ds (s a) (s a') (q b) (q b') (first.sound a here) (first.sound a' here') e in
      pairs (first.once a a' here here' fronts) (second.once b b' there there' behind)
    where
      pairs : {c c' : A} {d d' : B} → c ≡ c' → d ≡ d' → ◌≡◌ {A = A × B} (c, d) (c', d')
      pairs u v = cc

  pub seq_format : Format (A × B) (ds ++ es) both_lines both_numbers
  seq_format = record { sound = seq_sound; whole = seq_whole; once = seq_once }

-- the same data by other names
pub as_format : {A B : Type 0} {ds : List Due} {p : A → List Line} {s : A → List ℕ} → Format A ds p s → (to : B → A) (from : A → B)
    → ((a : A) → to (from a) ≡ a) → ((b : B) → from (to b) ≡ b) → (q : B → List Line) → ((b : B) → q b ≡ p (to b)) → (t : B → List ℕ)
    → ((b : B) → t b ≡ s (to b)) → Format B ds q t
as_format {A} {B} {ds} {p} {s} format to from back again q prints t KeepsSame =
    record {
      sound = sound;
      whole = λ ls xs fill. let (a, is) = format.whole ls xs fill in (from a, prints (from a) ∙ ap p (back a) ∙ is);
      once = once;
    }
  where
    sound : (b : B) → EachOne (q b) → Fills ds (q b) (t b)
    sound b each =
        subst (λ ls. Fills ds ls (t b)) (sym (prints b))
        (subst (Fills ds (p (to b))) (sym (KeepsSame b)) (format.sound (to b) (subst EachOne (prints b) each)))

    once : (b c : B) → EachOne (q b) → EachOne (q c) → q b ≡ q c → b ≡ c
    once b c each also e =
        sym (again b)
        ∙ ap from (format.once (to b) (to c) (subst EachOne (prints b) each) (subst EachOne (prints c) also) (sym (prints b) ∙ e ∙ prints c))
        ∙ again c

-- many of a format
module _ {A : Type 0} {ds : List Due} {p : A → List Line} {s : A → List ℕ} (format : Format A ds p s) where
  abbrev pub all_lines : List A → List Line
  all_lines cs = flatten (map p cs)

  abbrev pub all_numbers : List A → List ℕ
  all_numbers cs = flatten (map s cs)

  pub times_sound : (cs : List A) → EachOne (all_lines cs) → Fills (times (length cs) ds) (all_lines cs) (all_numbers cs)
  unfolding times flatten
  times_sound [] each = (refl, refl)
  times_sound (a ∷ cs) each =
      let (here, there) = each_parts (p a) (all_lines cs) each in
      fills_both ds (times (length cs) ds) (p a) (all_lines cs) (s a) (all_numbers cs) (format.sound a here) (times_sound cs there)

  pub times_whole : (n : ℕ) (ls : List Line) (xs : List ℕ) → Fills (times n ds) ls xs → (cs : List A) × (length cs ≡ n) × (all_lines cs ≡ ls)
  unfolding times flatten
  times_whole zero [] xs fill = ([], refl, refl)
  times_whole zero (l ∷ ls) xs fill = absurd fill
  times_whole (suc n) ls xs fill =
      let parts : Parts ds (times n ds) ls xs = fills_split ls ds (times n ds) xs fill in
      let (a, is) = format.whole parts.first parts.kept_first parts.fills_first in
      let (cs, many, are) = times_whole n parts.second parts.kept_second parts.fills_second in
      (a ∷ cs, ap suc many, ap (λ ms. ms ++ all_lines cs) is ∙ ap (λ ms. parts.first ++ ms) are ∙ parts.lines)

  pub times_once : (cs es : List A) → length cs ≡ length es → EachOne (all_lines cs) → EachOne (all_lines es) → all_lines cs ≡ all_lines es → cs ≡ es
  unfolding flatten
  times_once [] [] many each also e = refl
  times_once [] (b ∷ es) many each also e = absurd (omega arith)
  times_once (a ∷ cs) [] many each also e = absurd (omega arith)
  times_once (a ∷ cs) (b ∷ es) many each also e =
      let (here, there) = each_parts (p a) (all_lines cs) each in
      let (here', there') = each_parts (p b) (all_lines es) also in
      let (fronts, behind) =
      fills_front (p a) (p b) ds (s a) (s b) (all_lines cs) (all_lines es) (format.sound a here) (format.sound b here') e in
      let first : a ≡ b = format.once a b here here' fronts in
      let others : cs ≡ es = times_once cs es (omega arith) there there' behind in
      cc

  -- how many there are, and each
  module _ (what : Counted) (each_due : (n : ℕ) → after_count what n ≡ times n ds) where
    abbrev pub counted_lines : List A → List Line
    counted_lines cs = line (counts what) (length cs) ∷ all_lines cs

    abbrev pub counted_numbers : List A → List ℕ
    counted_numbers cs = keeps (counts what) (length cs) ++ all_numbers cs

    counted_sound : (cs : List A) → EachOne (counted_lines cs) → Fills (counts what ∷ []) (counted_lines cs) (counted_numbers cs)
    counted_sound cs (one, others) =
        record {
          datum = length cs;
          is = refl;
          one_line = one;
          others = all_numbers cs;
          kept = refl;
          rest =
              subst (λ due. Fills due (all_lines cs) (all_numbers cs)) (sym (append-nil (after_count what (length cs)) ∙ each_due (length cs)))
              (times_sound cs others);
        }

    counted_whole : (ls : List Line) (xs : List ℕ) → Fills (counts what ∷ []) ls xs → (cs : List A) × (counted_lines cs ≡ ls)
    counted_whole [] xs (same, nothing) = absurd (cons≢nil same)
    counted_whole (l ∷ ls) xs fill =
        let n : ℕ = fill.datum in
        let (cs, many, are) =
        times_whole n ls fill.others
        (subst (λ due. Fills due ls fill.others) (append-nil (after_count what n) ∙ each_due n) fill.rest) in
        (cs, ap (λ k. line (counts what) k ∷ all_lines cs) many ∙ ap (λ k. k ∷ all_lines cs) fill.is ∙ ap (λ ks. l ∷ ks) are)

    counted_once : (cs es : List A) → EachOne (counted_lines cs) → EachOne (counted_lines es) → counted_lines cs ≡ counted_lines es → cs ≡ es
    counted_once cs es (one, each) (also, others) e =
        times_once cs es (datum_once (counts what) (length cs) (length es) (ap (λ k. k.bytes) (head-eq_of_cons-eq e))) each others (tail-eq_of_cons-eq e)

    pub counted_format : Format (List A) (counts what ∷ []) counted_lines counted_numbers
    counted_format = record { sound = counted_sound; whole = counted_whole; once = counted_once }
