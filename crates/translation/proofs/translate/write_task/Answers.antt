-- `write_task` meets its contract: a law for each way to a return. Assumes nothing.
use Rattle.std.proofs.Common.{◌≡◌, ◌∙◌, sym, ap, rules, List, ◌++◌, Err}
use native.Mathlib.Omega.{arith}
use Prim.Native.Nat.{ℕ, ◌+◌, ◌≤◌}
use lib.ListN.{length, take, drop, length-replicate}
use lib.Seq.{sets, sets-eq, length-take-le}
use Rattle.refusal.specs.declared.Refusal.TheVariants as refusal
use Rattle.sheet.specs.Limits.{limits}
use Rattle.translation.proofs.TranslationLaws.{writes_unfit, writes_short, words_inside, writes_sheet}
use Rattle.translation.proofs.translate.write_task.Goals as goal

pub returns-in_err-words : goal.returns-in_err-words
returns-in_err-words c =
    let told : c.from_residual.result ≡ Err refusal.Unwritable = search rules in
    rw told (writes_unfit _ (rw c.in_err-words.ensures.ok_part at c.build.ensures))

pub returns-then-out-words : goal.returns-then-out-words
returns-then-out-words c = writes_short _ (rw c.in_ok-words.ensures.ok_part at c.build.ensures) c.if-out-words.true

-- the sheet has room for its words
inside : (c : goal.After-sheet-3-1) → c.in_ok-words.words ≤ length c.build.new.sheet
inside c =
    words_inside c.args.out.now (rw c.in_ok-words.ensures.ok_part at c.build.ensures)
    (omega (arith, c.build.auto.sheet, length-replicate {A = ℕ} limits.words 0))

pub slice_bounds-sheet-end : goal.slice_bounds-sheet-end
slice_bounds-sheet-end c =
    words_inside c.args.out.now (rw c.in_ok-words.ensures.ok_part at c.build.ensures)
    (omega (arith, c.build.auto.sheet, length-replicate {A = ℕ} limits.words 0))

pub slice_bounds-put_all-end : goal.slice_bounds-put_all-end
slice_bounds-put_all-end c = sym (length-take-le _ _ (inside c))

-- so many words put over the first ones, where there is room
put_over : (n : ℕ) (words out : List ℕ) → n ≤ length words → n ≤ length out
    → sets out 0 (take n words) ≡ take n words ++ drop n out
put_over n words out inside room =
    let long : length (take n words) ≡ n = length-take-le n words inside in
    let end : 0 + length (take n words) ≡ n = omega arith in
    sets-eq (take n words) out 0 (omega arith) ∙ ap (λ k. take n words ++ drop k out) end

pub returns : goal.returns
returns c =
    let room =
    words_inside c.args.out.now (rw c.in_ok-words.ensures.ok_part at c.build.ensures)
    (omega (arith, c.build.auto.sheet, length-replicate {A = ℕ} limits.words 0)) in
    writes_sheet _ (rw c.in_ok-words.ensures.ok_part at c.build.ensures) c.build.auto.sheet room c.if-out-words.false _
    (c.put_all.ensures ∙ put_over _ _ _ room c.if-out-words.false)
