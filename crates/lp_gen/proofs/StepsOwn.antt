-- What steps of a term make, one after the other.
use Rattle.std.proofs.Common.{◌≡◌, ◌∙◌, List, [], ◌∷◌, ◌++◌, map, ap, sym}
use Rattle.std.proofs.lemmas.List.{map-append}
use Rattle.lp_term.specs.Nodes.{Nodes}
use Rattle.lp_code.specs.declared.instruction.Instr.{Instr}
use Rattle.lp_gen.specs.declared.term_steps.TermStep.{TermStep}
use Rattle.lp_gen.specs.inner.Listing.{plain_step}
use Rattle.lp_gen.specs.inner.Owned.{makes, makes_types, made_by}
use Rattle.lp_gen.proofs.OwnSet.{makes_both, types_both}
use Rattle.lp_gen.proofs.OwnMadeBy.{made_both}

pub own_more : (b : Nodes) (os : List TermStep) (o : TermStep) (xs ys : List Instr) → makes xs ≡ made_by (map (plain_step b) os) → makes ys ≡ made_by (plain_step b o ∷ []) →
    makes (xs ++ ys) ≡ made_by (map (plain_step b) (os ++ o ∷ []))
own_more b os o xs ys x y = makes_both xs ys ∙ (λ i. x i ++ y i) ∙ sym (ap made_by (map-append (plain_step b) os (o ∷ [])) ∙ made_both (map (plain_step b) os) (plain_step b o ∷ []))

pub no_types_more : (xs ys : List Instr) → makes_types xs ≡ [] → makes_types ys ≡ [] → makes_types (xs ++ ys) ≡ []
no_types_more xs ys x y = types_both xs ys ∙ (λ i. x i ++ y i)
