use Rattle.std.proofs.Common.{◌≡◌, ℕ, List, map, take}
use Rattle.std.specs.Prelude.{is_some}
use Rattle.lp_sig.specs.Pieces.{spelled}
use Rattle.lp_sig.specs.Places.{first_place}
use Rattle.lp_sig.specs.Said.{is_among}
use Rattle.lp_sig.specs.Knowing.{number_of}
use Rattle.lp_sig.proofs.expand.Variables.parameters.Given as goal

abbrev pub invariant-loop-spot : goal.invariant-loop-spot
invariant-loop-spot l = record {
  listed : (name : List ℕ) → is_some (number_of l.variables name) ≡ is_among name (map (λ p. spelled l.source p) (take l.spot-index l.parameters));
  numbered : (name : List ℕ) → number_of l.variables name ≡ first_place name (map (λ p. spelled l.source p) (take l.spot-index l.parameters));
  next : l.variables.next ≡ l.spot-index;
}
