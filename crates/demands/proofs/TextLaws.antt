-- A planner's text is refused with t just where t has its cause: the causes are all, and each has its refusal. Assumes
-- nothing.
use Rattle.std.specs.Prelude.{None, Some}
use Prim.Native.Nat.{ℕ, ◌≤◌}
use mathlib.Core.Path.{◌≡◌, refl, sym, ◌∙◌, ap, subst}
use mathlib.Core.Logic.{◌⊎◌, inl, inr, ◌↔◌}
use mathlib.Core.Bool.{Bool, true, false}
use mathlib.Core.Option.{Option, some, get_or, some-ne-none}
use mathlib.Core.List.{List}
use lib.ListN.{length}
use lib.Dec.{ltb}
use borrow.Author.Tests.{ltb-true, ltb-false}
use Rattle.refusal.specs.Place.{Place}
use Rattle.refusal.specs.Refusal.{Told}
use Rattle.planner.specs.Text.{Text, most_bytes}
use Rattle.planner.specs.Meant.{unsayable}
use Rattle.planner.specs.Broken.{Prints, Breaks}
use Rattle.translation.specs.Translation.{SheetOf, ToldOfBytes}
use Rattle.translation.proofs.TranslationTheorem.{text_or_break, sheet_or_none}
use Rattle.demands.specs.One.{TextCause}
use Rattle.demands.specs.One.TextCause.{too_long, broken, unsaid, no_sheet, no_room}

module _ (bytes : List ℕ) (room : ℕ) (refusal : Option Told) (sheet : List ℕ) (answers : ToldOfBytes bytes room refusal sheet) where
  -- each cause has its refusal
  cause_told : (t : Told) → TextCause bytes room t → refusal ≡ some t
  cause_told t (too_long long) = answers.long long
  cause_told t (broken {n} few breaks) = answers.breaks few n breaks
  cause_told t (unsaid {t = u} {n = n} few prints bars) = (answers.reads few u prints).unsaid n bars
  cause_told t (no_sheet {t = u} few prints says none_means) = (answers.reads few u prints).no_sheet says none_means
  cause_told t (no_room {t = u} {w = w} few prints says means less) = (answers.reads few u prints).no_room says w means less

  module _ (t : Told) (refused : refusal ≡ some t) where
    -- the refusal that a cause has is this one
    this_one : (u : Told) → refusal ≡ some u → TextCause bytes room u → TextCause bytes room t
    this_one u is cause = subst (TextCause bytes room) (ap (λ o. get_or o t) (sym is ∙ refused)) cause

    by_cause : (u : Told) → TextCause bytes room u → TextCause bytes room t
    by_cause u cause = this_one u (cause_told u cause) cause

    text_caused : length bytes ≤ most_bytes → (u : Text) → Prints u bytes → TextCause bytes room t
    text_caused few u prints = by_line (unsayable u) refl
      where
        by_room : unsayable u ≡ None → (w : List ℕ) → SheetOf u w → (b : Bool) → ltb room (length w) ≡ b → TextCause bytes room t
        by_room says w means true e = by_cause _ (no_room few prints says means (ltb-true room (length w) e))
        by_room says w means false e = absurd (some-ne-none t (sym refused ∙ ((answers.reads few u prints).answered says w means (ltb-false room (length w) e)).0))

        by_sheet : unsayable u ≡ None → ((w : List ℕ) × SheetOf u w) ⊎ ((w : List ℕ) → SheetOf u w → ⊥) → TextCause bytes room t
        by_sheet says (inl (w, means)) = by_room says w means (ltb room (length w)) refl
        by_sheet says (inr none_means) = by_cause _ (no_sheet few prints says none_means)

        by_line : (p : Place) → unsayable u ≡ p → TextCause bytes room t
        by_line (Some n) bars = by_cause _ (unsaid few prints bars)
        by_line None says = by_sheet says (sheet_or_none u prints.formed)

    refusal_caused : TextCause bytes room t
    refusal_caused = by_length (ltb most_bytes (length bytes)) refl
      where
        by_form : length bytes ≤ most_bytes → ((u : Text) × Prints u bytes) ⊎ ((n : ℕ) × Breaks bytes n) → TextCause bytes room t
        by_form few (inl (u, prints)) = text_caused few u prints
        by_form few (inr (n, breaks)) = by_cause _ (broken few breaks)

        by_length : (b : Bool) → ltb most_bytes (length bytes) ≡ b → TextCause bytes room t
        by_length true e = by_cause _ (too_long (ltb-true most_bytes (length bytes) e))
        by_length false e = let few = ltb-false most_bytes (length bytes) e in by_form few (text_or_break bytes few)

  pub refuses_causes : (t : Told) → refusal ≡ some t ↔ TextCause bytes room t
  refuses_causes t = (refusal_caused t, cause_told t)
