-- The fields of a text whose next byte is a line end, begins a comment, is blank or is any other; each by where that byte splits the text. Assumes nothing.
use Prim.Native.Nat.{ℕ, ◌+◌}
use mathlib.Core.Path.{◌≡◌, refl, sym, ◌∙◌, ap}
use mathlib.Core.Bool.{Bool, true, false, ◌||◌}
use mathlib.Core.List.{List, [], ◌∷◌, ◌++◌}
use Rattle.sheet.proofs.CauseLaws.{neither}
use Rattle.ascii.specs.Bytes.{ends_line, Split, runs, split}
use Rattle.text.specs.Text.{begins_comment, blank, not_empty, uncommented, fields, on_line, fields_from}
use Rattle.ascii.proofs.SplitLaws.{split_at, split_in}
use Rattle.text.specs.Between.Reading.{ends_field, line_left, lines_left, after_blank, after_comment, field_left, after_field}

-- the fields of a line, by its first byte
module _ (b : ℕ) (line : List ℕ) where
  fields_comment : begins_comment b ≡ true → fields (b ∷ line) ≡ []
  unfolding fields not_empty split
  fields_comment e = ap (λ c. not_empty (runs (split blank c.first))) (split_at begins_comment b line e)

  module _ (no_comment : begins_comment b ≡ false) where
    -- the line is split before its comment, and then between white space
    both_splits : split blank (uncommented (b ∷ line)) ≡ split blank (b ∷ uncommented line)
    both_splits = ap (λ c. split blank c.first) (split_in begins_comment b line no_comment)

    fields_blank : blank b ≡ true → fields (b ∷ line) ≡ fields line
    unfolding fields not_empty
    fields_blank e = ap (λ c. not_empty (runs c)) (both_splits ∙ split_at blank b (uncommented line) e)

    split_other : blank b ≡ false
        → split blank (uncommented (b ∷ line)) ≡ record { first = b ∷ (split blank (uncommented line)).first; others = (split blank (uncommented line)).others }
    split_other e = both_splits ∙ split_in blank b (uncommented line) e

    split_blank : blank b ≡ true → (split blank (uncommented (b ∷ line))).first ≡ []
    split_blank e = ap (λ c. c.first) (both_splits ∙ split_at blank b (uncommented line) e)

-- the fields of a text from line n on: those of its first line, and those of the others
after_lines : (n : ℕ) (c : Split) → fields_from n (runs c) ≡ on_line n (fields c.first) ++ fields_from (n + 1) c.others
unfolding fields_from
after_lines n c = refl

-- where no byte of a field is left, the fields left are those behind it
pub none_left_of_field : (n : ℕ) (rest : List ℕ) → field_left rest ≡ [] → after_field n rest ≡ after_blank n rest
unfolding fields fields_from not_empty
none_left_of_field n rest e =
    let others = (split blank (uncommented (line_left rest))).others in
    ap (λ first. on_line n (not_empty (first ∷ others)) ++ fields_from (n + 1) (lines_left rest)) (sym e)

module _ (n b : ℕ) (rest : List ℕ) where
  -- a line end
  module _ (e : ends_line b ≡ true) where
    pub blank_at_line_end : after_blank n (b ∷ rest) ≡ after_blank (n + 1) rest
    unfolding fields fields_from not_empty split
    blank_at_line_end = ap (λ c. fields_from n (runs c)) (split_at ends_line b rest e)

    pub comment_at_line_end : after_comment n (b ∷ rest) ≡ after_blank (n + 1) rest
    comment_at_line_end = ap (λ c. fields_from (n + 1) c.others) (split_at ends_line b rest e)

    field_at_line_end : field_left (b ∷ rest) ≡ []
    unfolding split
    field_at_line_end = ap (λ c. (split blank (uncommented c.first)).first) (split_at ends_line b rest e)

  module _ (on : ends_line b ≡ false) where
    -- the line goes on
    on_with : after_blank n (b ∷ rest) ≡ on_line n (fields (b ∷ line_left rest)) ++ fields_from (n + 1) (lines_left rest)
    on_with = ap (λ c. fields_from n (runs c)) (split_in ends_line b rest on) ∙ after_lines n _

    field_on : field_left (b ∷ rest) ≡ (split blank (uncommented (b ∷ line_left rest))).first
    field_on = ap (λ c. (split blank (uncommented c.first)).first) (split_in ends_line b rest on)

    pub comment_on : after_comment n (b ∷ rest) ≡ after_comment n rest
    comment_on = ap (λ c. fields_from (n + 1) c.others) (split_in ends_line b rest on)

    -- a comment begins
    module _ (e : begins_comment b ≡ true) where
      pub blank_at_comment : after_blank n (b ∷ rest) ≡ after_comment n rest
      blank_at_comment = on_with ∙ ap (λ fs. on_line n fs ++ fields_from (n + 1) (lines_left rest)) (fields_comment b (line_left rest) e)

      field_at_comment : field_left (b ∷ rest) ≡ []
      unfolding split
      field_at_comment = field_on ∙ ap (λ c. (split blank c.first).first) (split_at begins_comment b (line_left rest) e)

    module _ (no_comment : begins_comment b ≡ false) where
      -- white space goes on
      module _ (e : blank b ≡ true) where
        pub blank_at_blank : after_blank n (b ∷ rest) ≡ after_blank n rest
        blank_at_blank = on_with ∙ ap (λ fs. on_line n fs ++ fields_from (n + 1) (lines_left rest)) (fields_blank b (line_left rest) no_comment e) ∙ sym (after_lines n (split ends_line rest))

        field_at_blank : field_left (b ∷ rest) ≡ []
        field_at_blank = field_on ∙ split_blank b (line_left rest) no_comment e

      -- a byte of a field
      module _ (e : blank b ≡ false) where
        pub field_at_other : field_left (b ∷ rest) ≡ b ∷ field_left rest
        field_at_other = field_on ∙ ap (λ c. c.first) (split_other b (line_left rest) no_comment e)

        pub after_field_at_other : after_field n (b ∷ rest) ≡ after_field n rest
        after_field_at_other =
            ap (λ c. on_line n (not_empty (split blank (uncommented c.first)).others) ++ fields_from (n + 1) c.others) (split_in ends_line b rest on)
            ∙ ap (λ c. on_line n (not_empty c.others) ++ fields_from (n + 1) (lines_left rest)) (split_other b (line_left rest) no_comment e)

        pub blank_at_other : after_blank n (b ∷ rest) ≡ record { line = n; bytes = b ∷ field_left rest } ∷ after_field n rest
        unfolding fields not_empty
        blank_at_other = on_with ∙ ap (λ c. on_line n (not_empty (runs c)) ++ fields_from (n + 1) (lines_left rest)) (split_other b (line_left rest) no_comment e)

-- a byte that ends a field leaves nothing of it
pub field_ends : (b : ℕ) (rest : List ℕ) → ends_field b ≡ true → field_left (b ∷ rest) ≡ []
field_ends b rest e = by_case (ends_line b) refl (begins_comment b) refl
  where
    by_case : (t : Bool) → ends_line b ≡ t → (u : Bool) → begins_comment b ≡ u → field_left (b ∷ rest) ≡ []
    by_case true line u is = field_at_line_end 0 b rest line
    by_case false line true is = field_at_comment 0 b rest line is
    by_case false line false is = field_at_blank 0 b rest line is (rw (line, is) at e)

-- and one that does not is neither a line end nor a comment's beginning nor blank
pub goes_on : (b : ℕ) → ends_field b ≡ false → (ends_line b ≡ false) × ((begins_comment b ≡ false) × (blank b ≡ false))
goes_on b e =
    let (front, no_blank) = neither (ends_line b || begins_comment b) (blank b) e in
    let (no_end, no_comment) = neither (ends_line b) (begins_comment b) front in
    (no_end, (no_comment, no_blank))
