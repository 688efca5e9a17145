-- A body leads back to its name where the walk over what it uses comes there.
use Rattle.std.proofs.Common.{◌≡◌, ℕ, List, Some, sym, subst, ◌∙◌}
use Rattle.std.specs.Prelude.{Contains}
use Rattle.lp_base.specs.declared.place.Spot.{Spot}
use Rattle.lp_syntax.specs.declared.text.RawType.{RawType}
use Rattle.lp_sig.specs.Pieces.{spelled}
use Rattle.lp_sig.specs.Places.{first_place}
use Rattle.lp_sig.specs.Loading.{Way, LeadsTo, NoneLeads}
use Rattle.lp_sig.specs.Walking.{SomeLeads}
use Rattle.lp_sig.specs.Abbreviations.{abbreviation_names, uses_in, Seen, all_uses, KnowsUses}
use Rattle.lp_sig.specs.Faults.{IsCyclic}

module _ (z : Seen) (uses : List (List Way)) (text : List ℕ) (name : Spot) (ty : RawType) (place : ℕ) (words : List Way) where
  pub leads_back : KnowsUses uses z → first_place (spelled text name) (abbreviation_names z.said) ≡ Some place → words ≡ uses_in (abbreviation_names z.said) text ty.nodes.items → SomeLeads uses words place → IsCyclic text z name ty
  leads_back k at are some = record {
    place = place;
    declared = at;
    way = some.0;
    word = subst (λ ws. Contains ws some.0) are some.1;
    leads = subst (λ u. LeadsTo u some.0.1 place) k.are some.2;
  }

  some_place : (i : ℕ) → Some i ≡ Some place → i ≡ place
  some_place i e = cc

  pub never_back : KnowsUses uses z → first_place (spelled text name) (abbreviation_names z.said) ≡ Some place → words ≡ uses_in (abbreviation_names z.said) text ty.nodes.items → NoneLeads uses words place → IsCyclic text z name ty → ⊥
  never_back k at are none b = none b.way (subst (λ ws. Contains ws b.way) (sym are) b.word)
      (subst (λ u. LeadsTo u b.way.1 place) (sym k.are) (subst (λ i. LeadsTo (all_uses z) b.way.1 i) (some_place b.place (sym b.declared ∙ at)) b.leads))
