-- What is found of a negated goal goes by what is known alone.
use Rattle.std.proofs.Common.{◌≡◌, ℕ, ◌+◌, List, length, false, Option, Some, subst, ap, ◌∙◌}
use Rattle.lp_term.specs.Nodes.{Nodes}
use Rattle.lp_model.specs.Pair.{Closing}
use Rattle.lp_pattern.specs.Stripping.{IsShut}
use Rattle.lp_pattern.specs.Under.{IsReading}
use Rattle.lp_pattern.specs.declared.bindings.Bindings.{Bindings}
use Rattle.lp_plain.specs.Keeping.{HasOneMore, KeepsKnown}
use Rattle.lp_plain.specs.Negations.{denial, Begins, AreFound}
use Rattle.lp_plain.specs.Standings.{OfFree, OfStanding}
use Rattle.lp_plain.specs.declared.choice.Untried.{Untried}
use Rattle.lp_plain.specs.declared.machine.Machine.{Machine}
use Rattle.lp_plain.specs.declared.openness.Openness.{Openness}
use Rattle.lp_plain.specs.declared.openness.Standing.{Standing}
use Rattle.lp_plain.specs.declared.scope.Scopes.{Scopes}
use Rattle.lp_plain.specs.declared.table.Table.{Table}

abbrev IsFoundBy : Standing → Openness → Nodes → Bindings → Scopes → Table → List Standing → Type 0
IsFoundBy g o b s sc t st = (c : Closing) → IsReading b s c → IsShut c → OfStanding t.frees.items st (OfFree b c sc) (length st) o g

pub found_before : (old new : Machine) (goals : Standing) (o : Openness) → KeepsKnown old new → AreFound new goals o → AreFound old goals o
found_before old new g o k f =
    subst (λ v. IsFoundBy g o old.bank old.bindings old.scopes old.table v.items) k.standings
    (subst (λ t. IsFoundBy g o old.bank old.bindings old.scopes t new.standings.items) k.table
    (subst (λ s. IsFoundBy g o old.bank old.bindings s new.table new.standings.items) k.scopes
    (subst (λ s. IsFoundBy g o old.bank s new.scopes new.table new.standings.items) k.bindings
    (subst (λ b. IsFoundBy g o b new.bindings new.scopes new.table new.standings.items) k.bank f))))

-- the search begins where a step was taken before
pub begins_after : (old mid new : Machine) (behind : Option ℕ) → mid.choices ≡ old.choices → mid.denied ≡ old.denied → mid.counts.lost ≡ old.counts.lost → mid.counts.steps ≡ old.counts.steps + 1 →
    HasOneMore mid.choices.items new.choices.items (Untried.Denied (denial mid behind)) → new.denied ≡ Some (length mid.choices.items) → new.counts.lost ≡ false → new.counts.steps ≡ mid.counts.steps → Begins old new behind
begins_after old mid new behind c d l s m i n e = record {
  step = e ∙ s;
  more = subst (λ v. HasOneMore v.items new.choices.items (Untried.Denied (denial old behind))) c
      (subst (λ y. HasOneMore mid.choices.items new.choices.items (Untried.Denied y)) (λ j. record { behind = behind; around = d j; lost = l j }) m);
  inside = i ∙ ap (λ v. Some (length v.items)) c;
  lost = n;
}
