-- The head of a clause as the bindings read it, with the values around the clause: its head and its arguments are what those of the written head become.
use Rattle.std.proofs.Common.{◌≡◌, ℕ, List, [], ◌∷◌, map, refl, sym, ap, ◌∙◌, subst}
use Rattle.lp_calculus.specs.Types.{Ty}
use Rattle.lp_calculus.specs.Term.{Term, index, atom, abs, app, constant, integer, text, eigen, logic, param}
use Rattle.lp_calculus.specs.Instance.{instance_term}
use Rattle.lp_calculus.specs.Spine.{head_of, arguments_and, arguments}
use Rattle.lp_term.specs.Spine.{IsNoApplication}
use Rattle.lp_model.specs.Pair.{Closing}
use Rattle.lp_model.specs.Rule.{type_pairs}
use Rattle.lp_plain.specs.Trials.{IsHeadFor, read_in}

own : (h : Term) → IsNoApplication h → head_of h ≡ h
own (index i) n = refl
own (atom a) n = refl
own (abs b) n = refl
own (app f a) n = absurd n

none : (h : Term) (more : List Term) → IsNoApplication h → arguments_and h more ≡ more
none (index i) more n = refl
none (atom a) more n = refl
none (abs b) more n = refl
none (app f a) more n = absurd n

module _ (z : Closing) (τ : ℕ → Term) (θ : ℕ → Ty) where
  pub head_read : (h : Term) → IsNoApplication (read_in z τ θ (head_of h)) → head_of (read_in z τ θ h) ≡ read_in z τ θ (head_of h)
  head_read (index i) n = own (read_in z τ θ (index i)) n
  head_read (atom a) n = own (read_in z τ θ (atom a)) n
  head_read (abs b) n = own (read_in z τ θ (abs b)) n
  head_read (app f a) n = head_read f n

  arguments_read_and : (h : Term) (more : List Term) → IsNoApplication (read_in z τ θ (head_of h)) → arguments_and (read_in z τ θ h)
      (map (read_in z τ θ) more) ≡ map (read_in z τ θ) (arguments_and h more)
  arguments_read_and (index i) more n = none (read_in z τ θ (index i)) (map (read_in z τ θ) more) n
  arguments_read_and (atom a) more n = none (read_in z τ θ (atom a)) (map (read_in z τ θ) more) n
  arguments_read_and (abs b) more n = none (read_in z τ θ (abs b)) (map (read_in z τ θ) more) n
  arguments_read_and (app f a) more n = arguments_read_and f (a ∷ more) n

  pub arguments_read : (h : Term) → IsNoApplication (read_in z τ θ (head_of h)) → arguments (read_in z τ θ h) ≡ map (read_in z τ θ) (arguments h)
  arguments_read h n = arguments_read_and h [] n

  -- a constant, or an eigenconstant for which an index stands
  head_alone : (h : Term) → IsHeadFor z τ θ h → IsNoApplication (read_in z τ θ h)
  head_alone (index i) k = subst IsNoApplication (sym k.1) tt
  head_alone (atom (constant c ts)) k = tt
  head_alone (atom (integer j)) k = absurd k
  head_alone (atom (text s)) k = absurd k
  head_alone (atom (eigen j)) k = absurd k
  head_alone (atom (logic x l)) k = absurd k
  head_alone (atom (param j t)) k = absurd k
  head_alone (abs b) k = absurd k
  head_alone (app f a) k = absurd k

  pub no_application : (h : Term) → IsHeadFor z τ θ (head_of h) → IsNoApplication (read_in z τ θ (head_of h))
  no_application h k = head_alone (head_of h) k

  eigen_untyped : (g : Term) (k : ℕ) → type_pairs g (atom (eigen k)) ≡ []
  eigen_untyped (index i) k = refl
  eigen_untyped (atom (constant c ts)) k = refl
  eigen_untyped (atom (integer j)) k = refl
  eigen_untyped (atom (text s)) k = refl
  eigen_untyped (atom (eigen j)) k = refl
  eigen_untyped (atom (logic x l)) k = refl
  eigen_untyped (atom (param j t)) k = refl
  eigen_untyped (abs b) k = refl
  eigen_untyped (app f a) k = refl

  index_untyped : (g : Term) (i : ℕ) → type_pairs g (index i) ≡ []
  index_untyped (index j) i = refl
  index_untyped (atom (constant c ts)) i = refl
  index_untyped (atom (integer j)) i = refl
  index_untyped (atom (text s)) i = refl
  index_untyped (atom (eigen j)) i = refl
  index_untyped (atom (logic x l)) i = refl
  index_untyped (atom (param j t)) i = refl
  index_untyped (abs b) i = refl
  index_untyped (app f a) i = refl

  alone_typed : (g h : Term) → IsHeadFor z τ θ h → type_pairs g (read_in z τ θ h) ≡ type_pairs g (instance_term z.types (instance_term θ h))
  alone_typed g (index i) k = ap (type_pairs g) k.1 ∙ eigen_untyped g k.0 ∙ sym (index_untyped g i)
  alone_typed g (atom (constant c ts)) k = refl
  alone_typed g (atom (integer j)) k = absurd k
  alone_typed g (atom (text s)) k = absurd k
  alone_typed g (atom (eigen j)) k = absurd k
  alone_typed g (atom (logic x l)) k = absurd k
  alone_typed g (atom (param j t)) k = absurd k
  alone_typed g (abs b) k = absurd k
  alone_typed g (app f a) k = absurd k

  pub head_typed : (g h : Term) → IsHeadFor z τ θ (head_of h) → type_pairs g (head_of (read_in z τ θ h)) ≡ type_pairs g (instance_term z.types (instance_term θ (head_of h)))
  head_typed g h k = ap (type_pairs g) (head_read h (no_application h k)) ∙ alone_typed g (head_of h) k
