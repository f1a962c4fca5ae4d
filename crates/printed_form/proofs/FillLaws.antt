-- Lines that are what they must be: one run behind another, with more due behind them, cut where some of what is due
-- ends, and told by their bytes. Assumes nothing.
use Prim.Native.Nat.{ℕ}
use mathlib.Core.Path.{◌≡◌, refl, sym, ◌∙◌, ap, subst}
use mathlib.Core.List.Memᴰ
use mathlib.Core.List.{List, [], ◌∷◌, ◌++◌, map, append_assoc, Memᴰ}
use mathlib.Core.List.{nil≢cons, cons≢nil, head-eq_of_cons-eq, tail-eq_of_cons-eq}
use Rattle.ascii.specs.Bytes.{ends_line}
use Rattle.form.specs.Between.Form.{Due}
use Rattle.planner.specs.Printed.{Line}
use Rattle.planner.specs.Broken.{OneLine}
use Rattle.printed_form.specs.Between.Datum.{line, adds, keeps}
use Rattle.printed_form.specs.Between.Filled.{Takes, Fills}
use Rattle.printed_form.proofs.JoinLaws.{AllFree, line_free}
use Rattle.printed_form.proofs.DatumLaws.{datum_once}

abbrev pub bytes_each : List Line → List (List ℕ)
bytes_each ls = map (λ l. l.bytes) ls

-- lines behind lines
pub takes_both : (ls ms : List Line) (ds : List Due) (xs ys : List ℕ) (middle end : List Due) → Takes ls ds xs middle → Takes ms middle ys end
    → Takes (ls ++ ms) ds (xs ++ ys) end
takes_both [] ms ds xs ys middle end (same, nothing) more =
    subst (λ zs. Takes ms ds (zs ++ ys) end) (sym nothing) (subst (λ d. Takes ms d ys end) (sym same) more)
takes_both (l ∷ ls) ms [] xs ys middle end first more = first
takes_both (l ∷ ls) ms (d ∷ ds) xs ys middle end first more =
    record {
      datum = first.datum;
      is = first.is;
      one_line = first.one_line;
      others = first.others ++ ys;
      kept = ap (λ zs. zs ++ ys) first.kept ∙ append_assoc (keeps d first.datum) first.others ys;
      rest = takes_both ls ms (adds d first.datum ++ ds) first.others ys middle end first.rest more;
    }

-- with more due behind them
pub takes_under : (ls : List Line) (ds : List Due) (xs : List ℕ) (end more : List Due) → Takes ls ds xs end → Takes ls (ds ++ more) xs (end ++ more)
takes_under [] ds xs end more (same, nothing) = (ap (λ d. d ++ more) same, nothing)
takes_under (l ∷ ls) [] xs end more first = absurd first
takes_under (l ∷ ls) (d ∷ ds) xs end more first =
    record {
      datum = first.datum;
      is = first.is;
      one_line = first.one_line;
      others = first.others;
      kept = first.kept;
      rest =
          subst (λ es. Takes ls es first.others (end ++ more)) (append_assoc (adds d first.datum) ds more)
          (takes_under ls (adds d first.datum ++ ds) first.others end more first.rest);
    }

pub fills_both : (ds es : List Due) (ls ms : List Line) (xs ys : List ℕ) → Fills ds ls xs → Fills es ms ys → Fills (ds ++ es) (ls ++ ms) (xs ++ ys)
fills_both ds es ls ms xs ys first second = takes_both ls ms (ds ++ es) xs ys es [] (takes_under ls ds xs [] es first) second

-- cut where what is due first ends
pub record Parts (ds es : List Due) (ls : List Line) (xs : List ℕ) : Type 0 where
  pub first : List Line
  pub second : List Line
  pub kept_first : List ℕ
  pub kept_second : List ℕ
  pub lines : first ++ second ≡ ls
  pub kept : kept_first ++ kept_second ≡ xs
  pub fills_first : Fills ds first kept_first
  pub fills_second : Fills es second kept_second

none_first : (ls : List Line) (es : List Due) (xs : List ℕ) → Fills es ls xs → Parts [] es ls xs
none_first ls es xs fill =
    record {
      first = [];
      second = ls;
      kept_first = [];
      kept_second = xs;
      lines = refl;
      kept = refl;
      fills_first = (refl, refl);
      fills_second = fill;
    }

pub fills_split : (ls : List Line) (ds es : List Due) (xs : List ℕ) → Fills (ds ++ es) ls xs → Parts ds es ls xs
fills_split [] [] es xs fill = none_first [] es xs fill
fills_split [] (d ∷ ds) es xs (same, nothing) = absurd (cons≢nil same)
fills_split (l ∷ ls) [] es xs fill = none_first (l ∷ ls) es xs fill
fills_split (l ∷ ls) (d ∷ ds) es xs fill =
    let more : List Due = adds d fill.datum in
    let rest : Parts (more ++ ds) es ls fill.others =
    fills_split ls (more ++ ds) es fill.others
    (subst (λ due. Fills due ls fill.others) (sym (append_assoc more ds es)) fill.rest) in
    record {
      first = l ∷ rest.first;
      second = rest.second;
      kept_first = keeps d fill.datum ++ rest.kept_first;
      kept_second = rest.kept_second;
      lines = ap (λ ms. l ∷ ms) rest.lines;
      kept =
          append_assoc (keeps d fill.datum) rest.kept_first rest.kept_second
          ∙ ap (λ zs. keeps d fill.datum ++ zs) rest.kept ∙ sym fill.kept;
      fills_first =
          record {
            datum = fill.datum;
            is = fill.is;
            one_line = fill.one_line;
            others = rest.kept_first;
            kept = refl;
            rest = rest.fills_first;
          };
      fills_second = rest.fills_second;
    }

-- told by their bytes: where lines that are all that is due begin with the bytes of others, they begin with those
pub record GoesOn (ls : List Line) (end : List Due) (xs : List ℕ) (ms : List Line) (ys : List ℕ) (rest : List (List ℕ)) : Type 0 where
  pub behind : List Line
  pub kept_behind : List ℕ
  pub lines : ms ≡ ls ++ behind
  pub bytes : bytes_each behind ≡ rest
  pub kept : ys ≡ xs ++ kept_behind
  pub fills : Fills end behind kept_behind

pub takes_same : (ls : List Line) (ds : List Due) (xs : List ℕ) (end : List Due) (ms : List Line) (ys : List ℕ) (rest : List (List ℕ))
    → Takes ls ds xs end → Fills ds ms ys → bytes_each ms ≡ bytes_each ls ++ rest → GoesOn ls end xs ms ys rest
takes_same [] ds xs end ms ys rest (same, nothing) fill e =
    record {
      behind = ms;
      kept_behind = ys;
      lines = refl;
      bytes = e;
      kept = ap (λ zs. zs ++ ys) (sym nothing);
      fills = subst (λ due. Fills due ms ys) same fill;
    }
takes_same (l ∷ ls) [] xs end ms ys rest first fill e = absurd first
takes_same (l ∷ ls) (d ∷ ds) xs end [] ys rest first fill e = absurd (nil≢cons e)
takes_same (l ∷ ls) (d ∷ ds) xs end (m ∷ ms) ys rest first fill e =
    let same : fill.datum ≡ first.datum =
    datum_once d fill.datum first.datum
    (ap (λ k. k.bytes) fill.is ∙ head-eq_of_cons-eq e ∙ sym (ap (λ k. k.bytes) first.is)) in
    let on : GoesOn ls end first.others ms fill.others rest =
    takes_same ls (adds d first.datum ++ ds) first.others end ms fill.others rest first.rest
    (subst (λ x. Fills (adds d x ++ ds) ms fill.others) same fill.rest) (tail-eq_of_cons-eq e) in
    let line_same : m ≡ l = sym fill.is ∙ ap (line d) same ∙ first.is in
    record {
      behind = on.behind;
      kept_behind = on.kept_behind;
      lines = ap (λ k. k ∷ ms) line_same ∙ ap (λ ks. l ∷ ks) on.lines;
      bytes = on.bytes;
      kept =
          fill.kept ∙ ap (λ x. keeps d x ++ fill.others) same ∙ ap (λ zs. keeps d first.datum ++ zs) on.kept
          ∙ sym (append_assoc (keeps d first.datum) first.others on.kept_behind)
          ∙ ap (λ zs. zs ++ on.kept_behind) (sym first.kept);
      fills = on.fills;
    }

-- no line holds a line end
pub takes_one_line : (ls : List Line) (ds : List Due) (xs : List ℕ) (end : List Due) → Takes ls ds xs end → (l : Line) → Memᴰ l ls → OneLine l.bytes
takes_one_line [] ds xs end takes l m = absurd (Memᴰ.not-nil m)
takes_one_line (k ∷ ls) [] xs end takes l m = absurd takes
takes_one_line (k ∷ ls) (d ∷ ds) xs end takes l (Memᴰ.head e) = subst (λ j. OneLine j.bytes) (sym e) takes.one_line
takes_one_line (k ∷ ls) (d ∷ ds) xs end takes l (Memᴰ.tail m) =
    takes_one_line ls (adds d takes.datum ++ ds) takes.others end takes.rest l m

pub lines_free : (ls : List Line) → ((l : Line) → Memᴰ l ls → OneLine l.bytes) → AllFree ends_line (bytes_each ls)
lines_free [] one = tt
lines_free (l ∷ ls) one = (line_free l.bytes (one l (Memᴰ.head refl)), lines_free ls (λ k m. one k (Memᴰ.tail m)))
