-- What is found in the forms that programs read, written to lent words. Assumes nothing.
use Prim.Native.Nat.{ℕ, ◌+◌, ◌≤◌}
use mathlib.Core.Path.{◌≡◌, refl, ◌∙◌, ap, subst}
use mathlib.Core.List.{List, [], ◌∷◌, ◌++◌}
use lib.ListN.{length, take, drop}
use lib.Seq.{sets}
use Rattle.refusal.specs.declared.Refusal.{Refusal}
use Rattle.refusal.specs.Refusal.{told_refusal}
use Rattle.std.specs.Prelude.{Ok}
use Rattle.records.specs.declared.frame.Extent.{Extent}
use Rattle.records.specs.RecordForm.{unpacked}
use Rattle.program.specs.Opening.{Refused, Lodged, opening}
use Rattle.program.specs.Between.Found.{opening_of}
use Rattle.records.specs.Between.Needed.{most_words}
use Rattle.program.proofs.OpeningLaws.{record_front}
use Rattle.text.specs.declared.reader.TextError.{TextError}
use Rattle.text.specs.declared.reader.TextError.TheVariants as error
use Rattle.text.specs.Text.{Reading, Words, found_in, stopped}
use Rattle.text.specs.Limits.{most}
use Rattle.words.specs.Found.{found_words, ReadLent, ReadsLent, OpenLent, OpensLent}

-- a text that has words, by the end of its reading, with its words at the front of ws; and one in which something is wrong
module _ {words words' out out' : List ℕ} (text : List ℕ) (room : ℕ) (all : room ≡ most) where
  text_lent : (r : Reading) → r ≡ found_in room text → ReadLent r words words' out out' → ReadsLent text words words' out out'
  text_lent r found read = subst (λ x. ReadLent x words words' out out') (found ∙ ap (λ n. found_in n text) all) read

  pub words_lent : (n : ℕ) (ws part : List ℕ) → Words (take n ws) ≡ found_in room text → part ≡ take n ws → words' ≡ sets words 0 part → out' ≡ sets out 0 (0 ∷ length part ∷ [])
      → ReadsLent text words words' out out'
  words_lent n ws part found these stored answered = text_lent _ found (rw (← these) (record { words_left = stored; answered = answered }))

module _ {words out out' : List ℕ} (text : List ℕ) (room : ℕ) (all : room ≡ most) where
  pub error_lent : (e : TextError) (told : List ℕ) → stopped e ≡ found_in room text → told ≡ found_words (stopped e) → out' ≡ sets out 0 told → ReadsLent text words words out out'
  error_lent e told found tells answered = text_lent text room all (stopped e) found (left e (answered ∙ ap (sets out 0) tells))
    where
      left : (e : TextError) → out' ≡ sets out 0 (found_words (stopped e)) → ReadLent (stopped e) words words out out'
      left (error.NoWord n) answered = record { words_left = refl; answered = answered }
      left (error.NoRoom n) answered = record { words_left = refl; answered = answered }
      left error.Long answered = record { words_left = refl; answered = answered }

-- an input, by what the code finds of it, with its words at the front of ws
module _ {words out out' : List ℕ} (bytes : List ℕ) where
  -- its refusal
  pub refusal_lent : (r : Refusal) (number place : ℕ) → Refused (told_refusal r) ≡ opening 0 bytes → number ≡ (told_refusal r).number → place ≡ (told_refusal r).place
      → out' ≡ sets out 0 (number ∷ place ∷ 0 ∷ 0 ∷ []) → OpensLent bytes words words out out'
  refusal_lent r number place found numbered placed told = subst (λ x. OpenLent x words words out out') found (record { words_left = refl; answered = rw (numbered, placed) at told })

  -- the sheet w and its list l
  pub record_lent : {words' : List ℕ} (e : Extent) (room : ℕ) (ws w l part : List ℕ) → opening_of 0 (Ok e) ws ≡ opening 0 bytes → most_words ≤ room → ws ≡ unpacked bytes room → w ≡ take e.task ws → l ≡ take e.plan (drop (e.task + 1) ws)
      → part ≡ take (length w + 1 + length l) ws → words' ≡ sets words 0 part → out' ≡ sets out 0 (0 ∷ 0 ∷ length w ∷ length l ∷ [])
      → OpensLent bytes words words' out out'
  record_lent {words'} e room ws w l part found roomy unpacks sheet list fronts stored told =
      let opens : Lodged w l (take 0 (drop (e.task + 1 + e.plan) ws)) ≡ opening 0 bytes = rw (sheet, list) found in
      let all : part ≡ w ++ (length l ∷ l) = fronts ∙ record_front bytes ws room roomy unpacks w l _ opens in
      subst (λ x. OpenLent x words words' out out') opens (record { words_left = stored ∙ ap (sets words 0) all; answered = told })
