-- Head reduction ends where leftmost reduction does: each step that it takes is the leftmost one.
use Rattle.std.proofs.Common.{◌≡◌, ◌∙◌, refl, sym, ap, subst as transport, Option, Some, None}
use Rattle.lp_calculus.specs.Term.{Term, index, atom, abs, app}
use Rattle.lp_calculus.specs.Convert.{head_step, leftmost_step, option_term, or_else}
use Rattle.lp_unify_laws.proofs.NormalForms.Ends.{Ends, rests, goes, some_is}

mapped : (f : Term → Term) (o p : Option Term) (s : Term) → ((x : Term) → o ≡ Some x → p ≡ Some x) → option_term f o ≡ Some s → option_term f p ≡ Some s
mapped f None p s ι e = absurd (cc)
mapped f (Some x) p s ι e = ap (option_term f) (ι x refl) ∙ e

chosen : (o p : Option Term) (s : Term) → o ≡ Some s → or_else o p ≡ Some s
chosen o p s e = ap (λ x. or_else x p) e

pub head_is_leftmost : (t s : Term) → head_step t ≡ Some s → leftmost_step t ≡ Some s
head_is_leftmost (index i) s e = absurd (cc)
head_is_leftmost (atom a) s e = absurd (cc)
head_is_leftmost (abs b) s e = mapped abs (head_step b) (leftmost_step b) s (head_is_leftmost b) e
head_is_leftmost (app (abs b) u) s e = e
head_is_leftmost (app (index i) u) s e = absurd (cc)
head_is_leftmost (app (atom a) u) s e = absurd (cc)
head_is_leftmost (app (app t v) u) s e =
    chosen (option_term (λ x. app x u) (leftmost_step (app t v))) (option_term (app (app t v)) (leftmost_step u)) s
    (mapped (λ x. app x u) (head_step (app t v)) (leftmost_step (app t v)) s (head_is_leftmost (app t v)) e)

pub head_ends : {t : Term} → Ends leftmost_step t → Ends head_step t
head_ends (rests {t = t} e) = go (head_step t) refl
  where
    go : (o : Option Term) → head_step t ≡ o → Ends head_step t
    go None k = rests k
    go (Some s) k = let q : Some s ≡ None = sym (head_is_leftmost t s k) ∙ e in absurd (cc)
head_ends (goes {t = t} {s = s} e more) = go (head_step t) refl (head_ends more)
  where
    go : (o : Option Term) → head_step t ≡ o → Ends head_step s → Ends head_step t
    go None k ι = rests k
    go (Some x) k ι = goes k (transport (Ends head_step) (some_is (sym e ∙ head_is_leftmost t x k)) ι)
