-- Rule 2: an opened pair is typed, one level up.
use Rattle.std.proofs.Common.{◌≡◌, ℕ, suc, ◌≤◌, List, [], ◌∷◌, ◌++◌, length, ◌∙◌, ap, subst as transport, arith, Some}
use Rattle.lp_calculus.specs.Types.{Ty, arrow}
use Rattle.lp_calculus.specs.Term.{Term, abs}
use Rattle.lp_calculus.specs.Convert.{ReducesTo}
use Rattle.lp_calculus.specs.Typing.{eigen_type}
use Rattle.lp_calculus.proofs.Subject.{typed_reduces}
use Rattle.lp_model.specs.Pair.{Pair}
use Rattle.lp_model.specs.Rule.{open_with, opened}
use Rattle.lp_model.specs.Proofs.{Declared}
use Rattle.lp_model.specs.Answers.{Variable, PairTyping, IsTypedPair}
use Rattle.lp_unify_laws.proofs.Scopes.{in_scope, eigen_last, prefix_more, length_last}
use Rattle.lp_unify_laws.proofs.TypedBindings.{IsTypedTerm, term_wider}

-- the type of what reduces to an abstraction
pub record IsArrow (T : Ty) : Type 0 where
  pub from : Ty
  pub to : Ty
  pub is : T ≡ arrow from to

pub abs_arrow : (d : Declared) (E : List Ty) (V : List Variable) (t b : Term) (T : Ty) → IsTypedTerm d E V t T → ReducesTo t (abs b) → IsArrow T
abs_arrow d E V t b T h r = let z = typed_reduces (in_scope d E V) [] r T h.typed in record { from = z.0; to = z.1; is = z.2 }

opened_term : (d : Declared) (E : List Ty) (V : List Variable) (n : ℕ) (t : Term) (A B : Ty) → length E ≡ n → IsTypedTerm d E V t (arrow A B) → IsTypedTerm d (E ++ A ∷ []) V (open_with (suc n) t) B
opened_term d E V n t A B e h =
    let F = E ++ A ∷ [] in
    let w = term_wider d E F V (prefix_more E (A ∷ [])) t (arrow A B) h in
    let last : length F ≡ suc n = length_last E A ∙ ap suc e in
    let low : suc n ≤ length F = omega arith in
    record {
      typed = (A, w.typed, transport (λ z. eigen_type F (suc z) ≡ Some A) e (eigen_last E A));
      scoped = (w.scoped, low);
    }

pub opened_pair : (d : Declared) (E : List Ty) (V : List Variable) (p : Pair) (T : Ty) → length E ≡ p.level → IsArrow T → IsTypedTerm d E V p.left T → IsTypedTerm d E V p.right T → (q : PairTyping) × IsTypedPair d V q (opened p)
opened_pair d E V p T e a l r =
    let A = a.from in
    let B = a.to in
    let x = opened_term d E V p.level p.left A B e (transport (IsTypedTerm d E V p.left) a.is l) in
    let y = opened_term d E V p.level p.right A B e (transport (IsTypedTerm d E V p.right) a.is r) in (
      record { eigens = E ++ A ∷ []; type = B },
      record {
        level = length_last E A ∙ ap suc e;
        left = x.typed;
        right = y.typed;
        left_scoped = x.scoped;
        right_scoped = y.scoped;
      },
    )
