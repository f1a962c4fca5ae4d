-- `first` of effects meets its contract: the word where its fact stands. Assumes nothing.
use Rattle.sheet.specs.Between.Effects.{first_written}
use Rattle.sheet.proofs.effects.Effects.first.Goals as goal

-- src/effects.rt:30:5
pub returns : goal.returns
unfolding first_written
returns c = (rw (← c.fact_place.ensures) c.get_or.ensures, c.get_or.type_inv)
