-- A line of numbers read word by word: what its first word and what stands behind it tell of its numbers. Assumes nothing.
use Prim.Native.Nat.{ℕ, suc, ◌+◌, ◌≤◌}
use native.Mathlib.Omega.{arith}
use mathlib.Core.Path.{◌≡◌, refl, sym, ◌∙◌, ap, subst}
use mathlib.Core.Bool.{Bool, true, false, ◌&&◌, ◌||◌, false≢true}
use mathlib.Core.List.{List, [], ◌∷◌, ◌++◌, map}
use lib.ListN.{length, drop, length-drop}
use borrow.Author.Tests.{ne_eqb, eqb-true}
use Rattle.ascii.specs.Bytes.{Split, space, ends_line, line_end, runs, split}
use Rattle.ascii.proofs.SplitLaws.{split_at, split_in}
use Rattle.fields.specs.Between.Numbers.{any_value}
use Rattle.fields.specs.Between.Fields.{ends_word, lines_of, words_of, same, is_number, number, minus_one, word_reads, word_number, all_read, line_reads, plain}
use Rattle.fields.specs.declared.word.End.{End}
use Rattle.fields.specs.declared.word.End.TheVariants.{Space, LineEnd}
use Rattle.fields.specs.declared.word.Word.{Word}
use Rattle.fields.specs.Between.Reading.{ends_either, first_word, behind_first, HasWord, LacksWord, HasNumbers, LacksNumbers}
use Rattle.fields.proofs.LineLaws.{fails_either}
use Rattle.fields.proofs.DigitLaws.{number_small}
use Rattle.fields.proofs.WordLaws.{number_word}

word_long : (w : List ℕ) → word_reads w ≡ true → 1 ≤ length w
unfolding word_reads same is_number
word_long [] e = absurd (false≢true e)
word_long (b ∷ bs) e = omega arith

-- a byte before which a word ends is a space or a line end, and not both
module _ (b : ℕ) where
  no_end : ends_either b ≡ false → ends_line b ≡ false
  no_end e = by_case (ends_word b) refl
    where
      by_case : (t : Bool) → ends_word b ≡ t → ends_line b ≡ false
      by_case true is = absurd (false≢true (sym (rw is at e)))
      by_case false is = rw is at e

  no_space : ends_either b ≡ false → ends_word b ≡ false
  no_space e = by_case (ends_word b) refl
    where
      by_case : (t : Bool) → ends_word b ≡ t → ends_word b ≡ false
      by_case true is = absurd (false≢true (sym (rw is at e)))
      by_case false is = is

  space_goes_on : ends_word b ≡ true → ends_line b ≡ false
  space_goes_on e = let is : b ≡ 32 = eqb-true b 32 e in ne_eqb b line_end (λ f. omega arith)

-- by the first byte of what is left
module _ (c : ℕ) (cs : List ℕ) where
  word_here : ends_either c ≡ true → first_word (c ∷ cs) ≡ []
  word_here e = ap (λ s. s.first) (split_at ends_either c cs e)

  stands_here : ends_either c ≡ true → behind_first (c ∷ cs) ≡ c ∷ cs
  stands_here e = ap (λ w. drop (length w) (c ∷ cs)) (word_here e)

  word_longer : ends_either c ≡ false → first_word (c ∷ cs) ≡ c ∷ first_word cs
  word_longer e = ap (λ s. s.first) (split_in ends_either c cs e)

  stands_later : ends_either c ≡ false → behind_first (c ∷ cs) ≡ behind_first cs
  stands_later e = ap (λ w. drop (length w) (c ∷ cs)) (word_longer e)

-- a byte in front of the first run
abbrev in_front : ℕ → Split → Split
in_front b c = record { first = b ∷ c.first; others = c.others }

-- the first line: it does not end, or ends behind the word, or goes on behind the word's space
line_unended : (rest : List ℕ) → behind_first rest ≡ [] → lines_of rest ≡ record { first = first_word rest; others = [] }
unfolding split
line_unended [] e = refl
line_unended (c ∷ cs) e = by_case (line_unended cs) (ends_either c) refl
  where
    by_case : (behind_first cs ≡ [] → lines_of cs ≡ record { first = first_word cs; others = [] }) → (t : Bool) → ends_either c ≡ t
        → lines_of (c ∷ cs) ≡ record { first = first_word (c ∷ cs); others = [] }
    by_case rest true is = absurd (let none : suc (length cs) ≡ 0 = ap length (sym (stands_here c cs is) ∙ e) in omega arith)
    by_case rest false is =
        split_in ends_line c cs (no_end c is) ∙ ap (in_front c) (rest (sym (stands_later c cs is) ∙ e))
        ∙ ap (λ w. record { first = w; others = [] }) (sym (word_longer c cs is))

module _ (b : ℕ) (t : List ℕ) where
  line_ended : ends_line b ≡ true → (rest : List ℕ) → behind_first rest ≡ b ∷ t
      → lines_of rest ≡ record { first = first_word rest; others = runs (lines_of t) }
  unfolding split
  line_ended ends [] e = absurd (let none : 0 ≡ suc (length t) = ap length e in omega arith)
  line_ended ends (c ∷ cs) e = by_case (line_ended ends cs) (ends_either c) refl
    where
      by_case : (behind_first cs ≡ b ∷ t → lines_of cs ≡ record { first = first_word cs; others = runs (lines_of t) }) → (u : Bool) → ends_either c ≡ u
          → lines_of (c ∷ cs) ≡ record { first = first_word (c ∷ cs); others = runs (lines_of t) }
      by_case rest true is =
          let same_rest : c ∷ cs ≡ b ∷ t = sym (stands_here c cs is) ∙ e in
          ap (λ l. lines_of l) same_rest ∙ split_at ends_line b t ends ∙ ap (λ w. record { first = w; others = runs (lines_of t) }) (sym (word_here c cs is))
      by_case rest false is =
          split_in ends_line c cs (no_end c is) ∙ ap (in_front c) (rest (sym (stands_later c cs is) ∙ e))
          ∙ ap (λ w. record { first = w; others = runs (lines_of t) }) (sym (word_longer c cs is))

  line_goes_on : ends_word b ≡ true → (rest : List ℕ) → behind_first rest ≡ b ∷ t
      → lines_of rest ≡ record { first = first_word rest ++ (b ∷ (lines_of t).first); others = (lines_of t).others }
  unfolding split
  line_goes_on blank [] e = absurd (let none : 0 ≡ suc (length t) = ap length e in omega arith)
  line_goes_on blank (c ∷ cs) e = by_case (line_goes_on blank cs) (ends_either c) refl
    where
      by_case : (behind_first cs ≡ b ∷ t → lines_of cs ≡ record { first = first_word cs ++ (b ∷ (lines_of t).first); others = (lines_of t).others })
          → (u : Bool) → ends_either c ≡ u
          → lines_of (c ∷ cs) ≡ record { first = first_word (c ∷ cs) ++ (b ∷ (lines_of t).first); others = (lines_of t).others }
      by_case rest true is =
          let same_rest : c ∷ cs ≡ b ∷ t = sym (stands_here c cs is) ∙ e in
          ap (λ l. lines_of l) same_rest ∙ split_in ends_line b t (space_goes_on b blank)
          ∙ ap (λ w. record { first = w ++ (b ∷ (lines_of t).first); others = (lines_of t).others }) (sym (word_here c cs is))
      by_case rest false is =
          split_in ends_line c cs (no_end c is) ∙ ap (in_front c) (rest (sym (stands_later c cs is) ∙ e))
          ∙ ap (λ w. record { first = w ++ (b ∷ (lines_of t).first); others = (lines_of t).others }) (sym (word_longer c cs is))

-- the words of a line that is one word, or begins with it
one_word : (rest : List ℕ) → words_of (first_word rest) ≡ first_word rest ∷ []
unfolding split
one_word [] = refl
one_word (c ∷ cs) = by_case (one_word cs) (ends_either c) refl
  where
    by_case : words_of (first_word cs) ≡ first_word cs ∷ [] → (t : Bool) → ends_either c ≡ t → words_of (first_word (c ∷ cs)) ≡ first_word (c ∷ cs) ∷ []
    by_case rest true is = rw (word_here c cs is)
    by_case rest false is = rw (word_longer c cs is, split_in ends_word c (first_word cs) (no_space c is)) (longer rest)
      where
        longer : {w : List ℕ} {s : Split} → runs s ≡ w ∷ [] → runs (in_front c s) ≡ (c ∷ w) ∷ []
        longer {w} {s} same_runs =
            let first : s.first ≡ w = ap head_of same_runs in
            let others : s.others ≡ [] = ap tail_of same_runs in
            cc
          where
            head_of : List (List ℕ) → List ℕ
            head_of [] = []
            head_of (v ∷ vs) = v

            tail_of : List (List ℕ) → List (List ℕ)
            tail_of [] = []
            tail_of (v ∷ vs) = vs

first_of_words : (b : ℕ) (l : List ℕ) → ends_word b ≡ true → (rest : List ℕ)
    → split ends_word (first_word rest ++ (b ∷ l)) ≡ record { first = first_word rest; others = words_of l }
unfolding split
first_of_words b l blank [] = split_at ends_word b l blank
first_of_words b l blank (c ∷ cs) = by_case (first_of_words b l blank cs) (ends_either c) refl
  where
    by_case : split ends_word (first_word cs ++ (b ∷ l)) ≡ record { first = first_word cs; others = words_of l } → (t : Bool) → ends_either c ≡ t
        → split ends_word (first_word (c ∷ cs) ++ (b ∷ l)) ≡ record { first = first_word (c ∷ cs); others = words_of l }
    by_case rest true is = rw (word_here c cs is) (split_at ends_word b l blank)
    by_case rest false is = rw (word_longer c cs is) (split_in ends_word c (first_word cs ++ (b ∷ l)) (no_space c is) ∙ ap (in_front c) rest)

-- what is behind the first word begins with a byte before which a word ends
abbrev first_ends : List ℕ → Bool
first_ends [] = true
first_ends (d ∷ ds) = ends_either d

behind_ends : (rest : List ℕ) → first_ends (behind_first rest) ≡ true
unfolding split
behind_ends [] = refl
behind_ends (c ∷ cs) = by_case (behind_ends cs) (ends_either c) refl
  where
    by_case : first_ends (behind_first cs) ≡ true → (u : Bool) → ends_either c ≡ u → first_ends (behind_first (c ∷ cs)) ≡ true
    by_case rest true is = ap first_ends (stands_here c cs is) ∙ is
    by_case rest false is = ap first_ends (stands_later c cs is) ∙ rest

-- whether a line is one of numbers for which a test holds, by its words
abbrev told_by : (List ℕ → Bool) → List (List ℕ) → Bool
told_by test ws = all_read ws && test (map word_number ws)

-- a line of numbers has its first word's number, and those of the words behind it
module _ (rest : List ℕ) (b : ℕ) (t : List ℕ) (stands : behind_first rest ≡ b ∷ t) where
  has_last : ends_line b ≡ true → word_reads (first_word rest) ≡ true → HasNumbers rest (word_number (first_word rest) ∷ []) t
  unfolding all_read
  has_last ends read =
      record {
        line = first_word rest;
        cut = line_ended b t ends rest stands;
        reads = ap all_read (one_word rest) ∙ rw read;
        numbers = ap (map word_number) (one_word rest);
      }

  lacks_last : (test : List ℕ → Bool) → ends_line b ≡ true → test (word_number (first_word rest) ∷ []) ≡ false → LacksNumbers test rest
  lacks_last test ends fails line next others cut =
      let is_line : line ≡ first_word rest = ap (λ s. s.first) (sym cut ∙ line_ended b t ends rest stands) in
      ap (λ l. told_by test (words_of l)) is_line ∙ ap (told_by test) (one_word rest) ∙ rw fails (fails_either (all_read (first_word rest ∷ [])))

  module _ (blank : ends_word b ≡ true) where
    words_on : (l : List ℕ) → words_of (first_word rest ++ (b ∷ l)) ≡ first_word rest ∷ words_of l
    words_on l = ap (λ s. runs s) (first_of_words b l blank rest)

    has_next : (xs behind : List ℕ) → word_reads (first_word rest) ≡ true → HasNumbers t xs behind
        → HasNumbers rest (word_number (first_word rest) ∷ xs) behind
    unfolding all_read
    has_next xs behind read has =
        record {
          line = first_word rest ++ (b ∷ has.line);
          cut =
              line_goes_on b t blank rest stands
              ∙ ap (λ s. record { first = first_word rest ++ (b ∷ s.first); others = s.others }) has.cut;
          reads = ap all_read (words_on has.line) ∙ rw read has.reads;
          numbers = ap (map word_number) (words_on has.line) ∙ ap (λ ys. word_number (first_word rest) ∷ ys) has.numbers;
        }

    -- the line that goes on, where it ends
    module _ (line next : List ℕ) (others : List (List ℕ)) (cut : lines_of rest ≡ record { first = line; others = next ∷ others }) where
      on : lines_of rest ≡ record { first = first_word rest ++ (b ∷ (lines_of t).first); others = (lines_of t).others }
      on = line_goes_on b t blank rest stands

      words_there : words_of line ≡ first_word rest ∷ words_of (lines_of t).first
      words_there = ap (λ s. words_of s.first) (sym cut ∙ on) ∙ words_on (lines_of t).first

      cut_there : lines_of t ≡ record { first = (lines_of t).first; others = next ∷ others }
      cut_there = ap (λ os. record { first = (lines_of t).first; others = os }) (ap (λ s. s.others) (sym on ∙ cut))

    lacks_next : (test : List ℕ → Bool) → LacksNumbers (λ xs. test (word_number (first_word rest) ∷ xs)) t → LacksNumbers test rest
    unfolding all_read
    lacks_next test lacks line next others cut =
        ap (told_by test) (words_there line next others cut)
        ∙ by_case (word_reads (first_word rest)) _ _ (lacks (lines_of t).first next others (cut_there line next others cut))
      where
        by_case : (r s u : Bool) → (s && u) ≡ false → ((r && s) && u) ≡ false
        by_case true s u e = e
        by_case false s u e = refl

-- a line that does not end lacks all numbers
lacks_unended : (test : List ℕ → Bool) (rest : List ℕ) → behind_first rest ≡ [] → LacksNumbers test rest
lacks_unended test rest e line next others cut =
    let none : 0 ≡ suc (length others) = ap (λ s. length s.others) (sym (line_unended rest e) ∙ cut) in
    absurd (omega arith)

-- and so does one of whose numbers a test never holds
pub lacks_all : (test : List ℕ → Bool) → ((x : ℕ) (xs : List ℕ) → test (x ∷ xs) ≡ false) → (rest : List ℕ) → LacksNumbers test rest
lacks_all test fails rest line next others cut = rw (fails _ _) (fails_either (line_reads line))

-- or of none that begin with its first word's number
module _ (test : List ℕ → Bool) (rest : List ℕ) where
  lacks_first : (word_reads (first_word rest) ≡ true → (xs : List ℕ) → test (word_number (first_word rest) ∷ xs) ≡ false) → LacksNumbers test rest
  unfolding all_read
  lacks_first fails = by_stand (behind_first rest) refl
    where
      by_read : (ws : List (List ℕ)) (r : Bool) → word_reads (first_word rest) ≡ r → told_by test (first_word rest ∷ ws) ≡ false
      by_read ws true read = rw (fails read (map word_number ws)) (fails_either (all_read (first_word rest ∷ ws)))
      by_read ws false read = rw read

      by_end : (b : ℕ) (t : List ℕ) → behind_first rest ≡ b ∷ t → (s : Bool) → ends_word b ≡ s → ends_either b ≡ true → LacksNumbers test rest
      by_end b t stands true blank over line next others cut =
          ap (told_by test) (words_there rest b t stands blank line next others cut) ∙ by_read (words_of (lines_of t).first) (word_reads (first_word rest)) refl
      by_end b t stands false blank over line next others cut =
          let ends : ends_line b ≡ true = rw blank at over in
          let is_line : line ≡ first_word rest = ap (λ s. s.first) (sym cut ∙ line_ended b t ends rest stands) in
          ap (λ l. told_by test (words_of l)) is_line ∙ ap (told_by test) (one_word rest) ∙ by_read [] (word_reads (first_word rest)) refl

      by_stand : (l : List ℕ) → behind_first rest ≡ l → LacksNumbers test rest
      by_stand [] e = lacks_unended test rest e
      by_stand (b ∷ t) e = by_end b t e (ends_word b) refl (sym (ap first_ends e) ∙ behind_ends rest)

-- a word that the code has read, of a kind of words that are all among those that read
module _ (reads : List ℕ → Bool) (kind : (w : List ℕ) → reads w ≡ true → word_reads w ≡ true) (bs : List ℕ) where
  module _ (e : End) (w : Word) (has : HasWord reads bs e w) where
    reads_any : word_reads (first_word bs) ≡ true
    reads_any = kind (first_word bs) has.reads_it

    -- it has a byte, and its end another one
    pub word_ahead : length w.rest.now + 2 ≤ length bs
    word_ahead = omega (arith, word_long (first_word bs) reads_any, length-drop (length (first_word bs)) bs, ap length has.stands)

  module _ (w : Word) where
    -- a space behind it: the line goes on
    module _ (has : HasWord reads bs Space w) where
      pub numbers_next : (xs behind : List ℕ) → HasNumbers w.rest.now xs behind → HasNumbers bs (w.value ∷ xs) behind
      numbers_next xs behind more = rw has.value (has_next bs space w.rest.now has.stands refl xs behind (reads_any Space w has) more)

      pub no_numbers_next : (test : List ℕ → Bool) → LacksNumbers (λ xs. test (w.value ∷ xs)) w.rest.now → LacksNumbers test bs
      no_numbers_next test lacks =
          lacks_next bs space w.rest.now has.stands refl test (subst (λ v. LacksNumbers (λ xs. test (v ∷ xs)) w.rest.now) has.value lacks)

    -- the line's end behind it
    module _ (has : HasWord reads bs LineEnd w) where
      pub numbers_last : HasNumbers bs (w.value ∷ []) w.rest.now
      numbers_last = rw has.value (has_last bs line_end w.rest.now has.stands refl (reads_any LineEnd w has))

      pub no_numbers_last : (test : List ℕ → Bool) → test (w.value ∷ []) ≡ false → LacksNumbers test bs
      no_numbers_last test fails = lacks_last bs line_end w.rest.now has.stands test refl (subst (λ v. test (v ∷ []) ≡ false) has.value fails)

  -- no word there: a test that fails on all numbers that a word of another kind begins has none
  module _ (test : List ℕ → Bool) (others : (w : List ℕ) → word_reads w ≡ true → reads w ≡ false → (xs : List ℕ) → test (word_number w ∷ xs) ≡ false) where
    by_first : (reads (first_word bs) ≡ true → (c : ℕ) (t : List ℕ) → behind_first bs ≡ c ∷ t → (s : Bool) → ends_word c ≡ s → ends_either c ≡ true → LacksNumbers test bs)
        → LacksNumbers test bs
    by_first behind = by_case (reads (first_word bs)) refl
      where
        by_stand : reads (first_word bs) ≡ true → (l : List ℕ) → behind_first bs ≡ l → LacksNumbers test bs
        by_stand read [] e = lacks_unended test bs e
        by_stand read (c ∷ t) e = behind read c t e (ends_word c) refl (sym (ap first_ends e) ∙ behind_ends bs)

        by_case : (u : Bool) → reads (first_word bs) ≡ u → LacksNumbers test bs
        by_case true read = by_stand read (behind_first bs) refl
        by_case false e = lacks_first test bs (λ read. others (first_word bs) read e)

    pub no_numbers_ended : LacksWord reads bs Space → ((v : ℕ) → test (v ∷ []) ≡ false) → LacksNumbers test bs
    no_numbers_ended none fails = by_first behind
      where
        behind : reads (first_word bs) ≡ true → (c : ℕ) (t : List ℕ) → behind_first bs ≡ c ∷ t → (s : Bool) → ends_word c ≡ s → ends_either c ≡ true → LacksNumbers test bs
        behind read c t e true blank over = absurd (none read t (e ∙ ap (λ b. b ∷ t) (eqb-true c space blank)))
        behind read c t e false blank over = lacks_last bs c t e test (rw blank at over) (fails (word_number (first_word bs)))

    pub no_numbers_on : LacksWord reads bs LineEnd → ((v x : ℕ) (xs : List ℕ) → test (v ∷ x ∷ xs) ≡ false) → LacksNumbers test bs
    no_numbers_on none fails = by_first behind
      where
        behind : reads (first_word bs) ≡ true → (c : ℕ) (t : List ℕ) → behind_first bs ≡ c ∷ t → (s : Bool) → ends_word c ≡ s → ends_either c ≡ true → LacksNumbers test bs
        behind read c t e true blank over =
            lacks_next bs c t e blank test (lacks_all (λ xs. test (word_number (first_word bs) ∷ xs)) (fails (word_number (first_word bs))) t)
        behind read c t e false blank over = absurd (none read t (e ∙ ap (λ b. b ∷ t) (eqb-true c line_end (rw blank at over))))

-- the words of the two kinds: all that read, and the numbers among them
pub any_kind : (w : List ℕ) → word_reads w ≡ true → word_reads w ≡ true
any_kind w e = e

pub no_other_kind : (test : List ℕ → Bool) (w : List ℕ) → word_reads w ≡ true → word_reads w ≡ false → (xs : List ℕ) → test (word_number w ∷ xs) ≡ false
no_other_kind test w e f xs = absurd (false≢true (sym f ∙ e))

pub number_kind : (w : List ℕ) → is_number w ≡ true → word_reads w ≡ true
unfolding word_reads
number_kind w e = rw e (by_case (same w minus_one))
  where
    by_case : (t : Bool) → (t || true) ≡ true
    by_case true = refl
    by_case false = refl

-- −1 is the one other word
pub sign_kind : (test : List ℕ → Bool) → ((xs : List ℕ) → test (any_value ∷ xs) ≡ false) → (w : List ℕ) → word_reads w ≡ true → is_number w ≡ false
    → (xs : List ℕ) → test (word_number w ∷ xs) ≡ false
unfolding word_reads word_number
sign_kind test fails w e f xs = by_case (same w minus_one) refl
  where
    by_case : (t : Bool) → same w minus_one ≡ t → test (word_number w ∷ xs) ≡ false
    by_case true is = let value : word_number w ≡ any_value = rw (word_number, is) in ap (λ v. test (v ∷ xs)) value ∙ fails xs
    by_case false is = absurd (false≢true (sym f ∙ rw is at e))

-- a number that is there is not −1
pub number_plain : {bs : List ℕ} {e : End} {w : Word} → HasWord is_number bs e w → plain w.value ≡ true
number_plain {bs} {w = w} has =
    let is : w.value ≡ number (first_word bs) = has.value ∙ number_word (first_word bs) has.reads_it in
    rw (ne_eqb w.value any_value (λ e. omega (arith, is, number_small (first_word bs))))
