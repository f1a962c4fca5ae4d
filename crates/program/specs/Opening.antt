-- What a program finds of its input before it answers: its refusal, or the task, the plan and the further words that it
-- answers. Assumes nothing.
use Rattle.std.specs.Prelude.{ℕ, List, Ok, Err}
use Rattle.refusal.specs.declared.Refusal.TheVariants.{Length}
use Rattle.refusal.specs.Refusal.{Told, told_refusal}
use Rattle.records.specs.declared.frame.Fault.TheVariants.{Broken, Long}
use Rattle.records.specs.RecordForm.{unpacked, plan_words, further_words, input_form}
use Rattle.program.specs.Long.{long_refusal}

pub data Opening : Type 0 where
  Refused : Told → Opening
  Lodged : List ℕ → List ℕ → List ℕ → Opening

-- of an input of one record with so many further words: refusal 1 where it is broken; where the plan is too long, the
-- task's own refusal or else 8; where it is whole, its words
unfoldable pub opening : ℕ → List ℕ → Opening
opening further bytes =
    elim (input_form further bytes) [
      | Err Broken ↦ Refused (told_refusal Length)
      | Err (Long n) ↦ Refused (long_refusal (unpacked bytes n))
      | Ok x ↦
          Lodged (unpacked bytes x.task) (plan_words bytes x.task x.plan)
          (further_words bytes x.task x.plan further)
    ]
