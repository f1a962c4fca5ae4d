-- PairLaws: the offset due in a pair, and the place of cause 4, by cases.
pub mod PairLaws
-- CauseLaws: what the checks of an accepted task say, one by one.
pub mod CauseLaws
-- Parts: in an accepted task every part lies inside the words.
pub mod Parts
-- TableLaws: the length, the elements, the parts and the members of a table, and the facts among a task's words by the cases of a loop over them.
pub mod TableLaws
-- GroupLaws: the facts of a group by the cases of a loop along it from either end, and whose facts they are.
pub mod GroupLaws
-- EffectLaws: the same of an action's effects, from the first.
pub mod EffectLaws
-- Accepted: an accepted task means a well-formed SAS+ task.
pub mod Accepted
-- LaidLaws: parts that stand end to end among words, as their pairs say; they do in just the words that `sheet_of` writes.
pub mod LaidLaws
-- FactWords: a fact and its word, and facts among words.
pub mod FactWords
-- ChainLaws: effects of edition 2 that stand one behind the other.
pub mod ChainLaws
-- EncodeLaws: that words among which the parts of a task are laid out mean that task.
pub mod EncodeLaws
-- PassLaws: words that are laid out in order and mean a task that can be written are accepted.
pub mod PassLaws
-- AcceptedLaid: among the words of an accepted sheet the parts of its task are laid out.
pub mod AcceptedLaid
-- EncodeTheorem: a task is written as an accepted sheet that means it, and an accepted sheet is how the task that it means is written.
pub mod EncodeTheorem
-- AssignLaws: what facts write among values.
pub mod AssignLaws
