-- A walk along words, section by section: one section, two walks one after the other, the actions, and the words that no section takes. Assumes nothing.
use Prim.Native.Nat.{ℕ, ◌+◌, ◌-◌, ◌≤◌, ◌<◌}
use native.Mathlib.Nat.{sub-zero}
use mathlib.Core.Path.{◌≡◌, refl, ◌∙◌, ap, subst}
use mathlib.Core.List.{List, [], ◌∷◌, ◌++◌, append_assoc}
use lib.ListN.{take}
use Rattle.refusal.proofs.PlaceLaws.{one_fewer, none_left}
use Rattle.ascii.specs.Bytes.{ascii}
use Rattle.lines.specs.Puts.{Puts}
use Rattle.lines.specs.declared.Page.{Page}
use Rattle.lines.proofs.PutsLaws.{puts_nothing, puts_as, puts_both}
use Rattle.sheet.specs.Layout.{variables, offset, goal_start, goal_end}
use Rattle.sheet.specs.Decode.{table}
use Rattle.sheet.proofs.TableLaws.{table_nothing, table_more}
use Rattle.layout.specs.declared.sections.Walk.{Walk}
use Rattle.word_rows.specs.Rows.{rows}
use Rattle.layout.specs.Layout.{comment, Section, laid_out, titled, action_section, sections}
use Rattle.layout.specs.Between.Walk.{PutsPart, Goes, action_sections}

-- a section's comment and its words are put
pub goes_section : (s : Section) {before between after : Walk} → between.words.now ≡ before.words.now → between.at ≡ before.at
    → Puts (comment s.title) before.page.now between.page.now → PutsPart s.end between after → (ss : List Section) → Goes (s ∷ ss) before ss after
unfolding laid_out
goes_section s {before} {between} {after} words at first second ss =
    let title = comment s.title in
    record {
      text = title ++ rows (take (s.end - between.at) between.words.now);
      puts = puts_both first second.puts;
      rest = append_assoc title (rows (take (s.end - between.at) between.words.now)) (laid_out after.at ss after.words.now)
          ∙ rw (second.left, second.moved, words, at);
    }

-- a section that ends where another does
pub goes_ending : {e : ℕ} (e' : ℕ) (title : List ℕ) {p p' : Walk} → e ≡ e' → ((ss : List Section) → Goes (record { title = title; end = e } ∷ ss) p ss p')
    → (ss : List Section) → Goes (record { title = title; end = e' } ∷ ss) p ss p'
goes_ending e' title {p} {p'} is goes ss = subst (λ n. Goes (record { title = title; end = n } ∷ ss) p ss p') is (goes ss)

-- no section, and two walks
goes_nothing : (ss : List Section) (p : Walk) → Goes ss p ss p
goes_nothing ss p = record { text = []; puts = puts_nothing p.page.now; rest = refl }

pub goes_both : {ss left last : List Section} {p p' p'' : Walk} → Goes ss p left p' → Goes left p' last p'' → Goes ss p last p''
goes_both {last = last} {p'' = p''} first second =
    record {
      text = first.text ++ second.text;
      puts = puts_both first.puts second.puts;
      rest = append_assoc first.text second.text (laid_out p''.at last p''.words.now) ∙ ap (λ t. first.text ++ t) second.rest ∙ first.rest;
    }

module _ (w : List ℕ) where
  -- the actions, from the first on and from action a on
  pub goes_first : (n : ℕ) (p : Walk) → Goes (table (action_section w) 0 n) p (table (action_section w) 0 (n - 0)) p
  goes_first n p = rw sub-zero (goes_nothing (table (action_section w) 0 n) p)

  pub goes_action : (a n : ℕ) {ss : List Section} {p p' p'' : Walk} → a < n → Goes ss p (table (action_section w) a (n - a)) p'
      → ((left : List Section) → Goes (action_section w a ∷ left) p' left p'') → Goes ss p (table (action_section w) (a + 1) (n - (a + 1))) p''
  goes_action a n {ss} {p} {p'} low first second =
      let next : table (action_section w) a (n - a) ≡ action_section w a ∷ table (action_section w) (a + 1) (n - (a + 1)) =
      ap (table (action_section w) a) (one_fewer a n low) ∙ table_more (action_section w) a (n - (a + 1)) in
      goes_both (subst (λ l. Goes ss p l p') next first) (second (table (action_section w) (a + 1) (n - (a + 1))))

  pub goes_to_last : (a n : ℕ) {ss : List Section} {p p' : Walk} → n ≤ a → Goes ss p (table (action_section w) a (n - a)) p' → Goes ss p [] p'
  goes_to_last a n {ss} {p} {p'} past goes =
      subst (λ l. Goes ss p l p') (ap (table (action_section w) a) (none_left a n past) ∙ table_nothing (action_section w) a) goes

  -- and all that is left
  pub laid_all : {ss : List Section} {begun p : Walk} {last after : Page} → begun.words.now ≡ w → begun.at ≡ 0 → Goes ss begun [] p → Puts (rows p.words.now) p.page.now last
      → after ≡ last → Puts (laid_out 0 ss w) begun.page.now after
  unfolding laid_out
  laid_all {ss} {begun} words at goes second is = rw is (puts_as (rw (words, at) at goes.rest) (puts_both goes.puts second))

  -- a task: its sections in turn, each with the end that the code finds, and the actions
  pub task_goes : {p₀ p₁ p₂ p₃ p₄ p₅ p₆ : Walk} {e₂ e₃ e₄ e₅ : ℕ} → e₂ ≡ offset w 1 - variables w → e₃ ≡ offset w 1 → e₄ ≡ goal_start w → e₅ ≡ goal_end w
      → ((ss : List Section) → Goes (titled "edition, variables, actions, words of the sheet" 4 ∷ ss) p₀ ss p₁)
      → ((ss : List Section) → Goes (titled "where each part begins, and its length" e₂ ∷ ss) p₁ ss p₂)
      → ((ss : List Section) → Goes (titled "domain sizes" e₃ ∷ ss) p₂ ss p₃)
      → ((ss : List Section) → Goes (titled "starting values" e₄ ∷ ss) p₃ ss p₄)
      → ((ss : List Section) → Goes (titled "goal facts, each variable * 256 + value" e₅ ∷ ss) p₄ ss p₅)
      → Goes (action_sections w) p₅ [] p₆ → Goes (sections w) p₀ [] p₆
  unfolding sections
  task_goes is₂ is₃ is₄ is₅ first second third fourth fifth last =
      let goal = goes_both (goes_ending (goal_end w) (ascii "goal facts, each variable * 256 + value") is₅ fifth (action_sections w)) last in
      let start = goes_both (goes_ending (goal_start w) (ascii "starting values") is₄ fourth _) goal in
      let domains = goes_both (goes_ending (offset w 1) (ascii "domain sizes") is₃ third _) start in
      let pairs = goes_both (goes_ending (offset w 1 - variables w) (ascii "where each part begins, and its length") is₂ second _) domains in
      goes_both (first _) pairs
