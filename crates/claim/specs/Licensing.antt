-- What `license` tells of a list, and what a refusal comes to. Assumes nothing.
use Rattle.std.specs.Prelude.{Result, Ok, Err}
use Rattle.refusal.specs.declared.Refusal.{Refusal}
use Rattle.minimal.specs.Minimised.{Shortening, shortening}
use Rattle.claim.specs.declared.answer.Claim.{Claim}
use Rattle.claim.specs.declared.answer.Claim.TheVariants.{Open}
use Rattle.claim.specs.declared.answer.Licensed.{Licensed}

-- what the licence tells of a list: its claim, and what is told of the list left
pub record Licensing : Type 0 where
  pub claim : Claim
  pub told : Shortening

-- that of an answer: a refusal claims nothing, by an open claim with a zero, which no list that is answered gets
abbrev pub licensing : Result Licensed Refusal → Licensing
licensing (Ok g) = record { claim = g.claim; told = shortening (Ok g.told) }
licensing (Err r) = record { claim = Open 0; told = shortening (Err r) }
