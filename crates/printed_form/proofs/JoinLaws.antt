-- Words joined by spaces and cut at them again, and lines with their line ends. Assumes nothing.
use Prim.Native.Nat.{ℕ}
use mathlib.Core.Path.{◌≡◌, refl, sym, ◌∙◌, ap}
use mathlib.Core.Bool.{Bool, true, false, false≢true}
use mathlib.Core.List.Memᴰ
use mathlib.Core.List.{List, [], ◌∷◌, ◌++◌, append_assoc}
use mathlib.Core.List.{nil≢cons, cons≢nil, head-eq_of_cons-eq, tail-eq_of_cons-eq}
use borrow.Author.Tests.{eqb-true, ne_eqb}
use Rattle.ascii.specs.Bytes.{space, line_end, ends_line, runs, split}
use Rattle.ascii.proofs.SplitLaws.{split_at, split_in}
use Rattle.fields.specs.Between.Fields.{ends_word, words_of}
use Rattle.planner.specs.Printed.{joined, ended}
use Rattle.planner.specs.Broken.{OneLine}

-- a test that holds of none of these bytes
abbrev pub Free : (ℕ → Bool) → List ℕ → Type 0
Free test [] = Unit
Free test (b ∷ bs) = (test b ≡ false) × Free test bs

module _ (test : ℕ → Bool) where
  pub split_free : (bs : List ℕ) → Free test bs → split test bs ≡ record { first = bs; others = [] }
  unfolding split
  split_free [] free = refl
  split_free (b ∷ bs) (here, there) = split_in test b bs here ∙ ap (λ s. record { first = b ∷ s.first; others = s.others }) (split_free bs there)

  pub split_behind : (bs : List ℕ) (c : ℕ) (rest : List ℕ) → Free test bs → test c ≡ true
      → split test (bs ++ (c ∷ rest)) ≡ record { first = bs; others = runs (split test rest) }
  split_behind [] c rest free cuts = split_at test c rest cuts
  split_behind (b ∷ bs) c rest (here, there) cuts =
      split_in test b (bs ++ (c ∷ rest)) here ∙ ap (λ s. record { first = b ∷ s.first; others = s.others }) (split_behind bs c rest there cuts)

  -- each run is free
  abbrev pub AllFree : List (List ℕ) → Type 0
  AllFree [] = Unit
  AllFree (r ∷ rs) = Free test r × AllFree rs

  pub runs_free : (bs : List ℕ) → AllFree (runs (split test bs))
  unfolding split
  runs_free [] = (tt, tt)
  runs_free (b ∷ bs) = by_case (runs_free bs) (test b) refl
    where
      by_case : AllFree (runs (split test bs)) → (t : Bool) → test b ≡ t → AllFree (runs (split test (b ∷ bs)))
      by_case rest true e = rw (split_at test b bs e) (tt, rest)
      by_case rest false e = rw (split_in test b bs e) ((e, rest.0), rest.1)

-- the words of words that are joined
abbrev pub SomeWords : List (List ℕ) → Type 0
SomeWords [] = ⊥
SomeWords (w ∷ ws) = Unit

pub words_joined : (ws : List (List ℕ)) → SomeWords ws → AllFree ends_word ws → words_of (joined ws) ≡ ws
unfolding joined
words_joined [] any _ = elim any [ ]
words_joined (w ∷ []) any (free, tt) = ap (λ s. runs s) (split_free ends_word w free)
words_joined (w ∷ v ∷ ws) any (free, rest) =
    ap (λ s. runs s) (split_behind ends_word w space (joined (v ∷ ws)) free refl) ∙ ap (λ vs. w ∷ vs) (words_joined (v ∷ ws) tt rest)

-- a line is its words, joined
joined_byte : (b : ℕ) (w : List ℕ) (ws : List (List ℕ)) → joined ((b ∷ w) ∷ ws) ≡ b ∷ joined (w ∷ ws)
unfolding joined
joined_byte b w [] = refl
joined_byte b w (v ∷ ws) = refl

joined_space : (ws : List (List ℕ)) (w : List ℕ) → joined ([] ∷ w ∷ ws) ≡ space ∷ joined (w ∷ ws)
unfolding joined
joined_space ws w = refl

pub joined_words : (l : List ℕ) → joined (words_of l) ≡ l
unfolding split joined
joined_words [] = refl
joined_words (b ∷ bs) = by_case (joined_words bs) (ends_word b) refl
  where
    by_case : joined (words_of bs) ≡ bs → (t : Bool) → ends_word b ≡ t → joined (words_of (b ∷ bs)) ≡ b ∷ bs
    by_case rest true e =
        ap (λ s. joined (runs s)) (split_at ends_word b bs e)
        ∙ joined_space (split ends_word bs).others (split ends_word bs).first
        ∙ ap (λ c. c ∷ joined (words_of bs)) (sym (eqb-true b space e)) ∙ ap (λ l. b ∷ l) rest
    by_case rest false e =
        ap (λ s. joined (runs s)) (split_in ends_word b bs e)
        ∙ joined_byte b (split ends_word bs).first (split ends_word bs).others ∙ ap (λ l. b ∷ l) rest

-- a line that is free of line ends, by its bytes and by its elements
pub one_line : (l : List ℕ) → Free ends_line l → OneLine l
one_line [] free m = Memᴰ.not-nil m
one_line (b ∷ bs) (here, there) (Memᴰ.head e) = absurd (false≢true (sym here ∙ ap ends_line (sym e)))
one_line (b ∷ bs) (here, there) (Memᴰ.tail m) = one_line bs there m

pub line_free : (l : List ℕ) → OneLine l → Free ends_line l
line_free [] one = tt
line_free (b ∷ bs) one = (ne_eqb b line_end (λ e. one (Memᴰ.head (sym e))), line_free bs (λ m. one (Memᴰ.tail m)))

-- the runs of lines with their line ends, and what is behind them
pub runs_ended : (ls : List (List ℕ)) (rest : List ℕ) → AllFree ends_line ls
    → runs (split ends_line (ended ls ++ rest)) ≡ ls ++ runs (split ends_line rest)
unfolding ended
runs_ended [] rest free = refl
runs_ended (l ∷ ls) rest (free, others) =
    ap (λ t. runs (split ends_line t)) (append_assoc l (line_end ∷ ended ls) rest)
    ∙ ap (λ s. runs s) (split_behind ends_line l line_end (ended ls ++ rest) free refl)
    ∙ ap (λ rs. l ∷ rs) (runs_ended ls rest others)

-- bytes are their runs, all but the last with a line end
pub joined_runs : List (List ℕ) → List ℕ → List ℕ
joined_runs [] first = first
joined_runs (r ∷ rs) first = first ++ (line_end ∷ joined_runs rs r)

joined_runs_byte : (rs : List (List ℕ)) (b : ℕ) (first : List ℕ) → joined_runs rs (b ∷ first) ≡ b ∷ joined_runs rs first
unfolding joined_runs
joined_runs_byte [] b first = refl
joined_runs_byte (r ∷ rs) b first = refl

pub bytes_of_runs : (bs : List ℕ) → joined_runs (split ends_line bs).others (split ends_line bs).first ≡ bs
unfolding split joined_runs
bytes_of_runs [] = refl
bytes_of_runs (b ∷ bs) = by_case (bytes_of_runs bs) (ends_line b) refl
  where
    by_case : joined_runs (split ends_line bs).others (split ends_line bs).first ≡ bs → (t : Bool) → ends_line b ≡ t
        → joined_runs (split ends_line (b ∷ bs)).others (split ends_line (b ∷ bs)).first ≡ b ∷ bs
    by_case rest true e =
        ap (λ s. joined_runs s.others s.first) (split_at ends_line b bs e)
        ∙ ap (λ c. c ∷ joined_runs (split ends_line bs).others (split ends_line bs).first) (sym (eqb-true b line_end e)) ∙ ap (λ l. b ∷ l) rest
    by_case rest false e =
        ap (λ s. joined_runs s.others s.first) (split_in ends_line b bs e)
        ∙ joined_runs_byte (split ends_line bs).others b (split ends_line bs).first ∙ ap (λ l. b ∷ l) rest

pub runs_bytes : (ls : List (List ℕ)) (last first : List ℕ) (others : List (List ℕ)) → first ∷ others ≡ ls ++ (last ∷ [])
    → joined_runs others first ≡ ended ls ++ last
unfolding joined_runs ended
runs_bytes [] last first [] e = head-eq_of_cons-eq e
runs_bytes [] last first (r ∷ rs) e = absurd (cons≢nil (tail-eq_of_cons-eq e))
runs_bytes (l ∷ ls) last first [] e = absurd (no_runs ls (tail-eq_of_cons-eq e))
  where
    no_runs : (ms : List (List ℕ)) → [] ≡ ms ++ (last ∷ []) → ⊥
    no_runs [] f = nil≢cons f
    no_runs (m ∷ ms) f = nil≢cons f
runs_bytes (l ∷ ls) last first (r ∷ rs) e =
    ap (λ f. f ++ (line_end ∷ joined_runs rs r)) (head-eq_of_cons-eq e)
    ∙ ap (λ t. l ++ (line_end ∷ t)) (runs_bytes ls last r rs (tail-eq_of_cons-eq e))
    ∙ sym (append_assoc l (line_end ∷ ended ls) last)
