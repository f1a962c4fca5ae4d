-- What a program finds of the bytes that have been read is what it finds of the whole input, once all that must be read are there; so what it answers to them is right. Assumes nothing.
use Prim.Native.Nat.{ℕ, ◌+◌, ◌≤◌}
use native.Mathlib.Omega.{arith}
use mathlib.Core.Path.{◌≡◌, refl, sym, ◌∙◌, ap}
use mathlib.Core.Bool.{Bool, true, false}
use mathlib.Core.List.{List, ◌++◌}
use lib.ListN.{length, take, length-append}
use lib.Seq.{take_all}
use Rattle.refusal.specs.Refusal.{Told}
use Rattle.std.specs.Prelude.{Result, Ok, Err}
use Rattle.records.specs.declared.frame.Extent.{Extent}
use Rattle.records.specs.declared.frame.Fault.{Fault}
use Rattle.records.specs.declared.frame.Fault.TheVariants.{Broken, Long}
use Rattle.records.specs.RecordForm.{record_form}
use Rattle.records.specs.Between.Needed.{bytes_to_read}
use Rattle.program.specs.Long.{long_refusal}
use Rattle.program.specs.Opening.{Refused, opening}
use Rattle.program.specs.Reply.{reply_further}
use Rattle.program.specs.Printed.{HasRead, ReadFrom}
use Rattle.program.specs.declared.input.Input.{Input}
use Rattle.records.proofs.InputWordLaws.{words_stay}
use Rattle.records.proofs.FormLaws.{input_from, input_runs_on, TaskThere, form_says, whole_reads}
use Rattle.records.proofs.FormTheorem.{settled, enough}
use Rattle.program.proofs.OpeningLaws.{opening_broken, opening_long}

-- once all bytes that must be read are there, with one beyond the record, no further byte changes what is found
module _ (further : ℕ) (xs ys : List ℕ) (read : bytes_to_read further 1 xs ≤ length xs) where
  later : (f : Result Extent Fault) → record_form further xs ≡ f → record_form further (xs ++ ys) ≡ f
  later f is = settled further 1 xs ys read ∙ is

  by_form : (f : Result Extent Fault) → record_form further xs ≡ f → opening further (xs ++ ys) ≡ opening further xs
  by_form (Err Broken) is =
      opening_broken further (xs ++ ys) (input_from further (xs ++ ys) (Err Broken) (sym (later (Err Broken) is))) ∙ sym (opening_broken further xs (input_from further xs (Err Broken) (sym is)))
  by_form (Err (Long n)) is =
      let task : TaskThere xs n = rw is at (form_says further xs) in
      opening_long further (xs ++ ys) n (input_from further (xs ++ ys) (Err (Long n)) (sym (later (Err (Long n)) is)))
      ∙ ap (λ words. Refused (long_refusal words)) (words_stay xs ys n (omega arith))
      ∙ sym (opening_long further xs n (input_from further xs (Err (Long n)) (sym is)))
  by_form (Ok x) is =
      let past_end : bytes_to_read further 1 xs ≡ x.end + 1 = whole_reads further 1 xs x is in
      opening_broken further (xs ++ ys) (input_runs_on further (xs ++ ys) x (sym (later (Ok x) is)) (omega (arith, length-append xs ys)))
      ∙ sym (opening_broken further xs (input_runs_on further xs x (sym is) (omega arith)))

opening_settled : (further : ℕ) (xs ys : List ℕ) → bytes_to_read further 1 xs ≤ length xs → opening further (xs ++ ys) ≡ opening further xs
opening_settled further xs ys read = by_form further xs ys read (record_form further xs) refl

-- so what a program answers to the bytes that it has read is what it answers to the whole input
module _ {A : Type 0} (further : ℕ) (refused : Told → A) (answered : List ℕ → List ℕ → List ℕ → A) (whole bytes : List ℕ) (input : Input)
    (has : HasRead further 1 bytes input) (reads : ReadFrom whole bytes input) where
  pub reply_to_all : reply_further further refused answered (take input.count bytes) ≡ reply_further further refused answered whole
  unfolding reply_further
  reply_to_all = rw (reads.in_order, by_end input.ended refl, reply_further)
    where
      by_end : (b : Bool) → input.ended ≡ b → opening further (take input.count whole) ≡ opening further whole
      by_end true e = ap (opening further) (take_all input.count whole (reads.at_end e))
      by_end false e = enough further 1 (opening further) (opening_settled further) input.count whole (rw reads.in_order at (has.enough e))
