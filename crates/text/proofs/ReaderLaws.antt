-- How one byte takes a reader on, by where it stands and what the byte is; and what it has read at the end. By the laws of the fields left, and of words by their
-- digits. Assumes nothing.
use Prim.Native.Nat.{ℕ, zero, suc, ◌+◌, ◌-◌, ◌*◌, ◌^◌, ◌≤◌, ◌<◌}
use native.Mathlib.Numerals.{add-one}
use native.Mathlib.Omega.{arith}
use native.Mathlib.Nat.{sub-zero}
use mathlib.Core.Path.{◌≡◌, refl, sym, ◌∙◌, ap, subst}
use mathlib.Core.Bool.{Bool, true, false, cond, ◌&&◌}
use mathlib.Core.Option.{Option, none, some}
use mathlib.Core.List.{List, [], ◌∷◌, ◌++◌, append_assoc, append-nil}
use lib.ListN.{length, take, drop, get_or, set, length-append, length-set, take-append-drop}
use lib.Seq.{take-suc, take-suc-set}
use lib.Dec.{ltb}
use borrow.Author.Tests.{ltb-true, ltb-false, lt-ltb, le-ltb}
use Rattle.refusal.proofs.PlaceLaws.{one_fewer, none_left}
use Rattle.std.specs.Prelude.{Option as Given, Some, None, Result, Ok, Err, IfOk, SomeIff, ok_or}
use Rattle.text.specs.declared.reader.Mode.{Mode}
use Rattle.text.specs.declared.reader.Reader.{Reader}
use Rattle.text.specs.declared.reader.TextError.{TextError}
use Rattle.text.specs.declared.reader.TextError.TheVariants as error
use Rattle.ascii.specs.Bytes.{ascii_zero, ascii_digit, ends_line, split, all_digits, decimal_from}
use Rattle.text.specs.Text.{begins_comment, blank, not_empty, fields, Field, fields_from, word_from, Reading, Words, NoWord, NoRoom, Long, in_front, read, reading, found_in, stopped}
use Rattle.text.specs.Limits.{most_text}
use Rattle.text.specs.Between.Reading.{ends_field, after_blank, field_left, after_field, word_behind, read_field, all_in_front, still, left_of, at_blank, at_comment, at_word, Reads, Starts, Stores}
use Rattle.text.proofs.TextLaws.{none_left_of_field, blank_at_line_end, comment_at_line_end, comment_on, blank_at_comment, blank_at_blank, field_at_other, after_field_at_other, blank_at_other, field_ends, goes_on}

-- more digits make no smaller number
decimal_grows : (v : ℕ) (bs : List ℕ) → v ≤ decimal_from v bs
unfolding decimal_from
decimal_grows v [] = omega arith
decimal_grows v (b ∷ bs) = omega (arith, decimal_grows (10 * v + (b - ascii_zero)) bs)

-- the word that bytes stand for, by the first of them
no_word : (v : ℕ) (bs : List ℕ) → all_digits bs ≡ false → word_from v bs ≡ none
unfolding word_from
no_word v bs e = rw e

module _ (v b : ℕ) (bs : List ℕ) where
  -- it is no digit
  no_digit_no_word : ascii_digit b ≡ false → word_from v (b ∷ bs) ≡ none
  unfolding all_digits
  no_digit_no_word e = no_word v (b ∷ bs) (rw e)

  -- the number is too large
  large_no_word : 2 ^ 32 ≤ 10 * v + (b - ascii_zero) → word_from v (b ∷ bs) ≡ none
  unfolding word_from decimal_from
  large_no_word large = let past : 2 ^ 32 ≤ decimal_from (10 * v + (b - ascii_zero)) bs = omega (arith, decimal_grows (10 * v + (b - ascii_zero)) bs) in by_case (all_digits (b ∷ bs)) past
    where
      by_case : (t : Bool) → 2 ^ 32 ≤ decimal_from (10 * v + (b - ascii_zero)) bs
          → cond (t && ltb (decimal_from (10 * v + (b - ascii_zero)) bs) (2 ^ 32)) (some (decimal_from (10 * v + (b - ascii_zero)) bs)) none ≡ none
      by_case true past = rw (le-ltb (decimal_from (10 * v + (b - ascii_zero)) bs) (2 ^ 32) past)
      by_case false past = refl

  grown_word : ascii_digit b ≡ true → word_from v (b ∷ bs) ≡ word_from (10 * v + (b - ascii_zero)) bs
  unfolding word_from decimal_from all_digits
  grown_word e = rw e

-- the digits so far with one byte more, by what is found of them
pub behind_no_digit : (v b : ℕ) → ascii_digit b ≡ false → (rest : List ℕ) → word_behind None rest ≡ word_from v (b ∷ rest)
behind_no_digit v b e rest = sym (no_digit_no_word v b rest e)

pub behind_large : (v b : ℕ) → 2 ^ 32 ≤ 10 * v → (rest : List ℕ) → word_behind None rest ≡ word_from v (b ∷ rest)
behind_large v b large rest = sym (large_no_word v b rest (omega arith))

pub behind_digit : (v b tens digit : ℕ) (o : Given ℕ) → ascii_digit b ≡ true → tens ≡ v * 10 → digit ≡ b - ascii_zero → SomeIff o (tens + digit < 2 ^ 32) (tens + digit)
    → (rest : List ℕ) → word_behind o rest ≡ word_from v (b ∷ rest)
behind_digit v b tens digit None is ten one large rest = sym (large_no_word v b rest (large_at (ltb (tens + digit) (2 ^ 32)) refl))
  where
    large_at : (t : Bool) → ltb (tens + digit) (2 ^ 32) ≡ t → 2 ^ 32 ≤ 10 * v + (b - ascii_zero)
    large_at true e = absurd (large (ltb-true _ _ e))
    large_at false e = let past : 2 ^ 32 ≤ tens + digit = ltb-false _ _ e in omega arith
behind_digit v b tens digit (Some x) is ten one (fits, counts) rest =
    let grown : 10 * v + (b - ascii_zero) ≡ x = omega (arith, counts) in
    sym (grown_word v b rest is ∙ ap (λ y. word_from y rest) grown)

-- digits alone are a word where their value is
pub whole_word : (v : ℕ) → v < 2 ^ 32 → word_from v [] ≡ some v
unfolding word_from decimal_from all_digits
whole_word v small = rw (lt-ltb v (2 ^ 32) small)

-- reading a list of fields, by the first of them
pub read_next : (room n : ℕ) (bs : List ℕ) (fs : List Field) → read room (record { line = n; bytes = bs } ∷ fs) ≡ read_field room n (word_from 0 bs) fs
unfolding read read_field
read_next room n bs fs = by_case room (word_from 0 bs)
  where
    by_case : (k : ℕ) (o : Option ℕ) → elim o [ none ↦ NoWord n | some x ↦ elim k [ zero ↦ NoRoom n | suc m ↦ in_front x (read m fs) ] ] ≡ read_field k n o fs
    by_case k none = refl
    by_case zero (some x) = refl
    by_case (suc m) (some x) = refl

-- words in front change nothing where the reading found none
all_in_front_no_word : (xs : List ℕ) (n : ℕ) → all_in_front xs (NoWord n) ≡ NoWord n
unfolding all_in_front
all_in_front_no_word [] n = refl
all_in_front_no_word (x ∷ xs) n = ap (in_front x) (all_in_front_no_word xs n)

all_in_front_no_room : (xs : List ℕ) (n : ℕ) → all_in_front xs (NoRoom n) ≡ NoRoom n
unfolding all_in_front
all_in_front_no_room [] n = refl
all_in_front_no_room (x ∷ xs) n = ap (in_front x) (all_in_front_no_room xs n)

-- and otherwise stand in front of its words
pub all_in_front_words : (xs ys : List ℕ) → all_in_front xs (Words ys) ≡ Words (xs ++ ys)
unfolding all_in_front
all_in_front_words [] ys = refl
all_in_front_words (x ∷ xs) ys = ap (in_front x) (all_in_front_words xs ys)

all_in_front_one_more : (xs : List ℕ) (x : ℕ) (r : Reading) → all_in_front xs (in_front x r) ≡ all_in_front (xs ++ (x ∷ [])) r
unfolding all_in_front
all_in_front_one_more [] x r = refl
all_in_front_one_more (y ∷ xs) x r = ap (in_front y) (all_in_front_one_more xs x r)

-- a reader that has read nothing; one that reads bytes after others; and one that stopped, whatever follows
pub reads_nothing : (r : Reader) (ws : List ℕ) → Reads r ws [] (Ok r) ws
reads_nothing r ws = record { same = λ rest. refl; lines = omega arith }

pub reads_both : {r r' : Reader} {o : Result Reader TextError} {ws ws' ws'' xs : List ℕ} (ys : List ℕ) → Reads r ws xs (Ok r') ws' → Reads r' ws' ys o ws'' → Reads r ws (xs ++ ys) o ws''
reads_both {r} {r'} {o} {xs = xs} ys first second =
    record {
      same = λ rest. second.same rest ∙ first.same (ys ++ rest) ∙ ap (still r _) (sym (append_assoc xs ys rest));
      lines = by_case o second.lines;
    }
  where
    by_case : (o : Result Reader TextError) → IfOk o (λ r''. r''.line ≤ r'.line + length ys) → IfOk o (λ r''. r''.line ≤ r.line + length (xs ++ ys))
    by_case (Ok r'') low = rw length-append (omega (arith, first.lines, low))
    by_case (Err e) low = tt

pub reads_no_more : {r : Reader} {e : TextError} {ws ws' xs : List ℕ} (ys : List ℕ) → Reads r ws xs (Err e) ws' → Reads r ws (xs ++ ys) (Err e) ws'
reads_no_more {r} {xs = xs} ys stops = record { same = λ rest. stops.same (ys ++ rest) ∙ ap (still r _) (sym (append_assoc xs ys rest)); lines = tt }

-- a reader behind the digits that were found, or stopped where none were
abbrev pub grown : ℕ → ℕ → Result ℕ TextError → Result Reader TextError
grown n k (Ok x) = Ok (at_word x n k)
grown n k (Err e) = Err e

module _ (n k b : ℕ) (ws : List ℕ) where
  pub skips_line_end : ends_line b ≡ true → Reads (at_blank n k) ws (b ∷ []) (Ok (at_blank (n + 1) k)) ws
  unfolding still
  skips_line_end e = record { same = λ rest. ap (λ fs. all_in_front (take k ws) (read (length ws - k) fs)) (sym (blank_at_line_end n b rest e)); lines = omega arith }

  pub skips_comment : ends_line b ≡ false → begins_comment b ≡ true → Reads (at_blank n k) ws (b ∷ []) (Ok (at_comment n k)) ws
  unfolding still
  skips_comment on e = record { same = λ rest. ap (λ fs. all_in_front (take k ws) (read (length ws - k) fs)) (sym (blank_at_comment n b rest on e)); lines = omega arith }

  pub skips_blank : ends_line b ≡ false → begins_comment b ≡ false → blank b ≡ true → Reads (at_blank n k) ws (b ∷ []) (Ok (at_blank n k)) ws
  unfolding still
  skips_blank on is e = record { same = λ rest. ap (λ fs. all_in_front (take k ws) (read (length ws - k) fs)) (sym (blank_at_blank n b rest on is e)); lines = omega arith }

  pub passes_line_end : ends_line b ≡ true → Reads (at_comment n k) ws (b ∷ []) (Ok (at_blank (n + 1) k)) ws
  unfolding still
  passes_line_end e = record { same = λ rest. ap (λ fs. all_in_front (take k ws) (read (length ws - k) fs)) (sym (comment_at_line_end n b rest e)); lines = omega arith }

  pub passes_on : ends_line b ≡ false → Reads (at_comment n k) ws (b ∷ []) (Ok (at_comment n k)) ws
  unfolding still
  passes_on on = record { same = λ rest. ap (λ fs. all_in_front (take k ws) (read (length ws - k) fs)) (sym (comment_on n b rest on)); lines = omega arith }

  module _ (more : ends_field b ≡ false) where
    -- a field that goes on, by what its first bytes are
    goes : (v : ℕ) (rest : List ℕ)
        → still (at_word v n k) ws (b ∷ rest) ≡ all_in_front (take k ws) (read_field (length ws - k) n (word_from v (b ∷ field_left rest)) (after_field n rest))
    unfolding still
    goes v rest =
        let (on, (is, other)) = goes_on b more in
        ap (λ bs. all_in_front (take k ws) (read_field (length ws - k) n (word_from v bs) (after_field n (b ∷ rest)))) (field_at_other n b rest on is other)
        ∙ ap (λ fs. all_in_front (take k ws) (read_field (length ws - k) n (word_from v (b ∷ field_left rest)) fs)) (after_field_at_other n b rest on is other)

    pub grows_to : (v : ℕ) (o : Given ℕ) → ((rest : List ℕ) → word_behind o rest ≡ word_from v (b ∷ rest)) → (r : Result ℕ TextError) → r ≡ ok_or o (error.NoWord n)
        → Reads (at_word v n k) ws (b ∷ []) (grown n k r) ws
    unfolding still read_field
    grows_to v None nothing r is =
        rw is
        (record {
          same = λ rest. sym (goes v rest ∙ ap (λ w. all_in_front (take k ws) (read_field (length ws - k) n w (after_field n rest))) (sym (nothing (field_left rest))) ∙ all_in_front_no_word (take k ws) n);
          lines = tt;
        })
    grows_to v (Some x) more r is =
        rw is
        (record {
          same = λ rest. sym (goes v rest ∙ ap (λ w. all_in_front (take k ws) (read_field (length ws - k) n w (after_field n rest))) (sym (more (field_left rest))));
          lines = omega arith;
        })

    -- a field begins
    begins : (rest : List ℕ) → still (at_blank n k) ws (b ∷ rest) ≡ still (at_word 0 n k) ws (b ∷ rest)
    unfolding still
    begins rest =
        let (on, (is, other)) = goes_on b more in
        ap (λ fs. all_in_front (take k ws) (read (length ws - k) fs)) (blank_at_other n b rest on is other)
        ∙ ap (all_in_front (take k ws)) (read_next (length ws - k) n (b ∷ field_left rest) (after_field n rest))
        ∙ sym (goes 0 rest)

    pub skips_into_field : (o : Result Reader TextError) → Reads (at_word 0 n k) ws (b ∷ []) o ws → Reads (at_blank n k) ws (b ∷ []) o ws
    skips_into_field o grows = record { same = λ rest. grows.same rest ∙ sym (begins rest); lines = grows.lines }

-- a field that is over: its word is stored where there is room
module _ (v n k : ℕ) (ws rest : List ℕ) (small : v < 2 ^ 32) (over : field_left rest ≡ []) where
  closes_to : still (at_word v n k) ws rest ≡ all_in_front (take k ws) (read_field (length ws - k) n (some v) (after_blank n rest))
  unfolding still
  closes_to =
      ap (λ bs. all_in_front (take k ws) (read_field (length ws - k) n (word_from v bs) (after_field n rest))) over
      ∙ ap (λ o. all_in_front (take k ws) (read_field (length ws - k) n o (after_field n rest))) (whole_word v small)
      ∙ ap (λ fs. all_in_front (take k ws) (read_field (length ws - k) n (some v) fs)) (none_left_of_field n rest over)

  closes : k < length ws → still (at_blank n (k + 1)) (set ws k v) rest ≡ still (at_word v n k) ws rest
  unfolding still read_field
  closes room =
      ap (λ xs. all_in_front xs (read (length (set ws k v) - (k + 1)) (after_blank n rest))) (rw add-one (take-suc-set ws k v room))
      ∙ ap (λ m. all_in_front (take k ws ++ (v ∷ [])) (read (m - (k + 1)) (after_blank n rest))) (length-set ws k v)
      ∙ sym (all_in_front_one_more (take k ws) v (read (length ws - (k + 1)) (after_blank n rest)))
      ∙ ap (λ m. all_in_front (take k ws) (read_field m n (some v) (after_blank n rest))) (sym (one_fewer k (length ws) room))
      ∙ sym closes_to

  closes_full : length ws ≤ k → NoRoom n ≡ still (at_word v n k) ws rest
  unfolding still read_field
  closes_full full =
      sym (closes_to ∙ ap (λ m. all_in_front (take k ws) (read_field m n (some v) (after_blank n rest))) (none_left k (length ws) full) ∙ all_in_front_no_room (take k ws) n)

-- at the end of a text, in white space and in a comment
pub ends_blank : (n k : ℕ) (ws : List ℕ) → Words (take k ws) ≡ still (at_blank n k) ws []
unfolding still split fields fields_from not_empty read
ends_blank n k ws = sym (all_in_front_words (take k ws) [] ∙ ap Words (append-nil (take k ws)))

pub ends_comment : (n k : ℕ) (ws : List ℕ) → Words (take k ws) ≡ still (at_comment n k) ws []
unfolding still split fields_from read
ends_comment n k ws = sym (all_in_front_words (take k ws) [] ∙ ap Words (append-nil (take k ws)))

pub stores_room : (v n k : ℕ) (ws : List ℕ) → v < 2 ^ 32 → k < length ws → Stores n k v ws (Ok (at_blank n (k + 1))) (set ws k v)
stores_room v n k ws small room = record { same = λ rest over. closes v n k ws rest small over room; goes_on = refl }

pub stores_none : (v n k : ℕ) (ws : List ℕ) → v < 2 ^ 32 → length ws ≤ k → Stores n k v ws (Err (error.NoRoom n)) ws
stores_none v n k ws small full = record { same = λ rest over. closes_full v n k ws rest small over full; goes_on = tt }

-- there was no room for a word; or it is stored, and the byte that ends its field is read behind it
module _ (v n k b : ℕ) (ws ws' : List ℕ) where
  module _ (e : TextError) (stores : Stores n k v ws (Err e) ws') where
    pub stores_then_stops : ends_field b ≡ true → Reads (at_word v n k) ws (b ∷ []) (Err e) ws'
    stores_then_stops ends = record { same = λ rest. stores.same (b ∷ rest) (field_ends b rest ends); lines = tt }

    pub ends_full : stopped e ≡ still (at_word v n k) ws []
    unfolding split
    ends_full = stores.same [] refl

  module _ (r : Reader) (stores : Stores n k v ws (Ok r) ws') where
    stored_same : (rest : List ℕ) → field_left rest ≡ [] → still (at_blank r.line r.count) ws' rest ≡ still (at_word v n k) ws rest
    stored_same rest over = ap (λ x. still (at_blank x.line x.count) ws' rest) stores.goes_on ∙ ap (λ x. still x ws' rest) (sym stores.goes_on) ∙ stores.same rest over

    pub stores_then_skips : ends_field b ≡ true → (next : Result Reader TextError) → Reads (at_blank r.line r.count) ws' (b ∷ []) next ws' → Reads (at_word v n k) ws (b ∷ []) next ws'
    stores_then_skips ends next skips =
        record { same = λ rest. skips.same rest ∙ stored_same (b ∷ rest) (field_ends b rest ends); lines = rw (ap (λ x. x.line) stores.goes_on) at skips.lines }

    pub ends_word : Words (take r.count ws') ≡ still (at_word v n k) ws []
    unfolding split
    ends_word = ends_blank r.line r.count ws' ∙ stored_same [] refl

-- where a reader's mode is known
module _ (r : Reader) (m : Mode) (is : r.mode ≡ m) where
  pub reads_in_mode : {ws bytes ws' : List ℕ} {o : Result Reader TextError} → Reads (record { mode = m; line = r.line; count = r.count }) ws bytes o ws' → Reads r ws bytes o ws'
  reads_in_mode {ws} {bytes} {ws'} {o} reads = subst (λ x. Reads (record { mode = x; line = r.line; count = r.count }) ws bytes o ws') (sym is) reads

  pub still_in_mode : (ws rest : List ℕ) → still (record { mode = m; line = r.line; count = r.count }) ws rest ≡ still r ws rest
  still_in_mode ws rest = ap (λ x. still (record { mode = x; line = r.line; count = r.count }) ws rest) (sym is)

-- one byte more of some bytes, or of all of them where the reader stops there
module _ (r r' : Reader) (ws ws' ws'' bytes : List ℕ) (i : ℕ) (low : i < length bytes) (first : Reads r ws (take i bytes) (Ok r') ws') where
  pub reads_one_more : (o : Result Reader TextError) → Reads r' ws' (get_or bytes i 0 ∷ []) o ws'' → Reads r ws (take (i + 1) bytes) o ws''
  reads_one_more o second = rw (add-one, take-suc bytes i 0 low) (reads_both (get_or bytes i 0 ∷ []) first second)

  pub reads_to_stop : (e : TextError) → Reads r' ws' (get_or bytes i 0 ∷ []) (Err e) ws'' → Reads r ws bytes (Err e) ws''
  reads_to_stop e second = rw (take-append-drop (i + 1) bytes) at (reads_no_more (drop (i + 1) bytes) (reads_one_more (Err e) second))

-- at its beginning
pub starts : Starts (at_blank 1 0)
unfolding still reading all_in_front
starts = record { whole = λ ws text. ap (λ m. read m (after_blank 1 text)) (sub-zero (length ws)); line = refl }

-- from its beginning to its end a reader reads what a text means
pub reads_whole : (s : Reader) (o : Result Reader TextError) (ws ws' text : List ℕ) (found : Reading) → Starts s → Reads s ws text o ws' → found ≡ left_of o ws' [] → found ≡ reading (length ws) text
reads_whole s o ws ws' text found starts reads ends = ends ∙ reads.same [] ∙ starts.whole ws (text ++ []) ∙ ap (reading (length ws)) (append-nil text)

-- but for a text that is too long
module _ (room : ℕ) (text : List ℕ) where
  pub found_long : most_text < length text → Long ≡ found_in room text
  unfolding found_in
  found_long long = rw (lt-ltb most_text (length text) long)

  pub found_whole : length text ≤ most_text → reading room text ≡ found_in room text
  unfolding found_in
  found_whole short = rw (le-ltb most_text (length text) short)
