-- What is answered to a text, by what the service tells of it, and to input, by whether a read failed. Assumes nothing.
use Prim.Native.Nat.{ℕ, ◌≤◌}
use native.Mathlib.Omega.{arith}
use mathlib.Core.Path.{◌≡◌, sym, ◌∙◌, ap, subst}
use mathlib.Core.Option.{none, some}
use mathlib.Core.List.{List}
use lib.ListN.{length, take}
use Rattle.std.specs.Prelude.{Result, Ok, Err}
use Rattle.lines.specs.Prints.{Prints}
use Rattle.lines.proofs.PrintLaws.{prints_nothing}
use Rattle.refusal.specs.declared.Refusal.{Refusal}
use Rattle.refusal.specs.Refusal.{told_refusal}
use Rattle.refusal.specs.Check.{answer}
use Rattle.sheet.specs.Limits.{limits}
use Rattle.records.specs.Bytes.{all_bytes}
use Rattle.program.specs.Printed.{refusal_line}
use Rattle.program.specs.Between.Room.{line_room}
use Rattle.translate.specs.declared.answer.Answered.{Answered}
use Rattle.translate.specs.Answer.{Answer, only_writes, Gives}
use Rattle.translate.proofs.SayLaws.{answers_writing, answers_as}
use Rattle.translation.specs.Translation.{told_translated}
use Rattle.translation.specs.Between.Checks.{text_sheet, translation_checks, AnswersChecks}
use Rattle.translate.specs.Translate.{only_refuses, translated}

-- an answer in lent bytes, of which no more is said than a line has room for
abbrev GivesLine : Answer → List ℕ → List ℕ → List ℕ → List ℕ → Answered → Type 0
GivesLine a out out' errors errors' r = Gives a out out' errors errors' r × (length a.said ≤ line_room)

line_as : {a b : Answer} {out out' errors errors' : List ℕ} {r : Answered} → b ≡ a → GivesLine a out out' errors errors' r
    → GivesLine b out out' errors errors' r
line_as is (answers, short) = (answers_as is answers, subst (λ x. length x.said ≤ line_room) (sym is) short)

translated_sheet : (text : List ℕ) → answer (translation_checks text limits.words) ≡ none → translated text ≡ only_writes (all_bytes (text_sheet text))
unfolding translated
translated_sheet text passes = rw (translated, passes)

translated_refusal : (text : List ℕ) (r : Refusal) → answer (translation_checks text limits.words) ≡ some (told_refusal r)
    → translated text ≡ only_refuses (told_refusal r)
unfolding translated
translated_refusal text r fires = rw (translated, fires)

-- what the service tells, with room for as many words as a sheet may have
module _ {text before after : List ℕ} {given : Result ℕ Refusal} (room : length before ≡ limits.words) (translates : AnswersChecks text before given after) where
  told_in_room : told_translated given ≡ answer (translation_checks text limits.words)
  told_in_room = translates.answers ∙ ap (λ n. answer (translation_checks text n)) room

pub gives_refusal : {text before after errors errors' : List ℕ} {r : Refusal} {end : ℕ} (out : List ℕ) → length before ≡ limits.words
    → AnswersChecks text before (Err r) after → Prints (refusal_line (told_refusal r)) 0 errors errors' end → length (refusal_line (told_refusal r)) ≤ line_room
    → GivesLine (translated text) out out errors errors' (record { written = 0; said = end })
gives_refusal {text} {r = r} out room translates prints short =
    line_as (translated_refusal text r (sym (told_in_room room translates)))
    (record { writing = prints_nothing 0 out 0 (omega arith); saying = prints }, short)

pub gives_sheet : {text before after out out' : List ℕ} {n end : ℕ} (errors : List ℕ) → length before ≡ limits.words
    → AnswersChecks text before (Ok n) after → Prints (all_bytes (take n after)) 0 out out' end
    → GivesLine (translated text) out out' errors errors (record { written = end; said = 0 })
gives_sheet {text} {out = out} {out' = out'} {end = end} errors room translates prints =
    line_as (translated_sheet text (sym (told_in_room room translates)))
    (answers_writing errors (subst (λ l. Prints (all_bytes l) 0 out out' end) translates.leaves.sheet prints), omega arith)
