-- The parts of a task laid out behind the first words are the sheet that the task is written as. By the laws of words stored over others. Assumes nothing.
use Prim.Native.Nat.{ℕ, ◌+◌, ◌≤◌}
use native.Mathlib.Omega.{arith}
use mathlib.Core.Path.{◌≡◌, sym, ◌∙◌, ap}
use mathlib.Core.List.{List, [], ◌∷◌, flatten}
use lib.ListN.{length, take, drop, length-map}
use lib.Seq.{sets, sets-eq, take-append_seam}
use Rattle.sas.specs.Task.{Task}
use Rattle.sheet.specs.Layout.{header}
use Rattle.sheet.specs.Between.Encode.{action_part, parts, pairs_of, first_offset, body, sheet_of, encode}
use Rattle.sheet.proofs.LaidLaws.{pairs_of_length, sheet_of_length, sheet_of_laid, laid_length}
use Rattle.access.proofs.StoreLaws.{stores_joined}
use Rattle.sheet_writer.specs.Between.Laid.{first_word, laid}
use Rattle.sheet_writer.proofs.LayLaws.{stores_apart}

module _ (edition variables actions : ℕ) (ps : List (List ℕ)) (w : List ℕ) where
  laid_whole : sets (laid 0 (first_offset ps) ps w) 0 (edition ∷ variables ∷ actions ∷ (header + length (body ps)) ∷ [])
      ≡ sets w 0 (sheet_of edition variables actions ps)
  unfolding laid body sheet_of
  laid_whole =
      let pairs : List ℕ = pairs_of (first_offset ps) ps in
      let first : first_offset ps ≡ header + length pairs = omega (arith, pairs_of_length (first_offset ps) ps) in
      let joined : sets (sets w header pairs) (first_offset ps) (flatten ps) ≡ sets w header (body ps) =
      ap (λ i. sets (sets w header pairs) i (flatten ps)) first ∙ stores_joined w pairs (flatten ps) header in
      let front : List ℕ = edition ∷ variables ∷ actions ∷ (header + length (body ps)) ∷ [] in
      ap (λ l. sets l 0 front) joined ∙ sym (stores_apart w 0 front header (body ps) (omega arith)) ∙ stores_joined w front (body ps) 0

-- words stored at the front, where there is room
pub front_stored : (s w : List ℕ) → length s ≤ length w → take (length s) (sets w 0 s) ≡ s
front_stored s w room = ap (take (length s)) (sets-eq s w 0 (omega arith)) ∙ take-append_seam s (drop (0 + length s) w)

module _ (edition : ℕ) (T : Task) where
  first_same : first_word (length T.actions) ≡ first_offset (parts edition T)
  unfolding parts
  first_same = omega (arith, length-map T.actions (action_part edition))

  -- where its parts end
  pub words_end : first_word (length T.actions) + length (flatten (parts edition T)) ≡ length (encode edition T)
  unfolding encode
  words_end =
      ap (λ i. i + length (flatten (parts edition T))) first_same
      ∙ laid_length (sheet_of_laid edition (length T.domains) (length T.actions) (parts edition T))

  stated : length (encode edition T) ≡ header + length (body (parts edition T))
  unfolding encode
  stated = sym (sheet_of_length edition (length T.domains) (length T.actions) (parts edition T))

  -- its first words stored before its parts
  module _ (before middle after : List ℕ) (laying : middle ≡ laid 0 (first_word (length T.actions)) (parts edition T) before)
      (headed : after ≡ sets middle 0 (edition ∷ length T.domains ∷ length T.actions ∷ length (encode edition T) ∷ [])) where
    whole : after ≡ sets before 0 (encode edition T)
    unfolding encode
    whole = headed ∙ rw (laying, first_same, stated) (laid_whole edition (length T.domains) (length T.actions) (parts edition T) before)

    pub sheet_written : length (encode edition T) ≤ length before → take (length (encode edition T)) after ≡ encode edition T
    sheet_written room = ap (take (length (encode edition T))) whole ∙ front_stored (encode edition T) before room
