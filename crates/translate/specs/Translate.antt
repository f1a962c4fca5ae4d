-- What the program `translate` answers to a planner's text (document 02, C-11): the words of its sheet, as bytes, or
-- its refusal. Assumes nothing.
use Rattle.std.specs.Prelude.{ℕ, Option, Some, None, List, [], take}
use Rattle.std.proofs.Math.Option.{none, some}
use Rattle.ascii.specs.Bytes.{ascii}
use Rattle.refusal.specs.Refusal.{Told}
use Rattle.refusal.specs.Check.{answer}
use Rattle.sheet.specs.Limits.{limits}
use Rattle.records.specs.Bytes.{all_bytes}
use Rattle.program.specs.Printed.{refusal_line}
use Rattle.translate.specs.declared.translate.Translating.{Translating}
use Rattle.translate.specs.Input.{HasReadText}
use Rattle.translate.specs.Answer.{Answer, only_writes, only_says, Gives}
use Rattle.translation.specs.Between.Checks.{text_sheet, translation_checks}

-- a refusal: nothing is written, and its line is said
abbrev pub only_refuses : Told → Answer
only_refuses t = record { written = []; said = refusal_line t }

-- with room for as many words as a sheet may have: the first check that fires is answered; where none does, the bytes
-- of the sheet's words are written
unfoldable pub translated : List ℕ → Answer
translated text =
    elim (answer (translation_checks text limits.words)) [
      | none ↦ only_writes (all_bytes (text_sheet text))
      | some t ↦ only_refuses t
    ]

-- and to input of which these bytes were read, where the last call of `read` gave so many, or failed
abbrev pub translated_input : Option ℕ → List ℕ → Answer
translated_input (Some k) text = translated text
translated_input None text = only_says (ascii "the text can't be read")

-- what the program has done: what it has read, and its answer, which is that to the bytes read and the last call
pub record HasTranslated (bytes : List ℕ) (done : Translating) (out out' errors errors' : List ℕ) : Type 0 where
  pub read : HasReadText bytes done.input
  pub gives : Gives (translated_input done.input.last (take done.input.count bytes)) out out' errors errors'
      done.answer
