-- What `?` passes on is the refusal that it met. Assumes nothing.
use Rattle.std.proofs.Common.{◌≡◌, ap}
use Rattle.std.specs.Prelude.{Result, Ok, Err, IsErrAnd}
use Rattle.refusal.specs.declared.Refusal.{Refusal}

pub passed_on : {A : Type 0} (v : Result A Refusal) (r : Refusal) → IsErrAnd v (λ e. e ≡ r) → v ≡ Err r
passed_on (Ok a) r h = absurd h
passed_on (Err e) r h = ap Err h
