-- What arguments take, one after the other.
use Rattle.std.proofs.Common.{◌≡◌, ◌∙◌, ℕ, List, [], ◌∷◌, ◌++◌, length, map, ap, refl, sym, subst, arith}
use Rattle.std.proofs.lemmas.List.{map-append}
use Rattle.lp_calculus.specs.Types.{Ty}
use Rattle.lp_calculus.specs.Term.{Term}
use Rattle.lp_gen.specs.declared.emitter.Emitter.{Emitter}
use Rattle.lp_gen.specs.declared.fault.RecordRefusal.{RecordRefusal}
use Rattle.lp_gen.specs.Registers.{Amount, nothing, both, term_takes, behind_term, terms_take, behind_terms}
use Rattle.lp_gen.specs.Steps.{from_of, to_of, Around}
use Rattle.lp_gen.specs.inner.Using.{Uses, Lacks, AtMost}
use Rattle.lp_gen.specs.inner.Written.{left_by}
use Rattle.lp_gen.proofs.Using.{same_amount, uses_both, uses_same, lacks_behind}

-- sums of amounts

pub both_nothing : (a : Amount) → both a nothing ≡ a
both_nothing a = same_amount _ _ (omega arith) (omega arith) (omega arith) (omega arith)

pub nothing_both : (a : Amount) → both nothing a ≡ a
nothing_both a = same_amount _ _ (omega arith) (omega arith) (omega arith) (omega arith)

pub both_joined : (a b c : Amount) → both (both a b) c ≡ both a (both b c)
both_joined a b c = same_amount _ _ (omega arith) (omega arith) (omega arith) (omega arith)

pub both_first : (a b c : Amount) → AtMost (both a b) (both a (both b c))
both_first a b c = record { types = omega arith; terms = omega arith; bytes = omega arith; misfits = omega arith }

module _ (K : ℕ → List Ty → Ty) where
  -- the next one
  abbrev pub next_takes : Around → Ty → List Term → Term → Amount
  next_takes a F ts u = term_takes K (behind_terms K a F ts) (from_of (left_by F (length ts))) u

  pub terms_split : (a : Around) (F : Ty) (ts : List Term) (u : Term) (us : List Term) →
      terms_take K a F (ts ++ u ∷ us) ≡ both (terms_take K a F ts) (both (next_takes a F ts u)
      (terms_take K (behind_term K (behind_terms K a F ts) (from_of (left_by F (length ts))) u) (to_of (left_by F (length ts))) us))
  terms_split a F [] u us = sym (nothing_both (terms_take K a F (u ∷ us)))
  terms_split a F (t ∷ ts) u us = ap (both (term_takes K a (from_of F) t)) (terms_split (behind_term K a (from_of F) t) (to_of F) ts u us) ∙ sym (both_joined _ _ _)

  pub behind_pushed : (a : Around) (F : Ty) (ts : List Term) (u : Term) → behind_terms K a F (ts ++ u ∷ []) ≡ behind_term K (behind_terms K a F ts) (from_of (left_by F (length ts))) u
  behind_pushed a F [] u = refl
  behind_pushed a F (t ∷ ts) u = behind_pushed (behind_term K a (from_of F) t) (to_of F) ts u

  pub terms_use_next : {A : Type 0} (f : A → Term) (o m n : Emitter) (a : Around) (F : Ty) (xs : List A) (x : A) → Uses o m (terms_take K a F (map f xs)) → Uses m n (next_takes a F (map f xs) (f x)) →
      Uses o n (terms_take K a F (map f (xs ++ x ∷ [])))
  terms_use_next f o m n a F xs x u v =
      uses_same (sym (ap (terms_take K a F) (map-append f xs (x ∷ [])) ∙ terms_split a F (map f xs) (f x) [] ∙ ap (both (terms_take K a F (map f xs))) (both_nothing (next_takes a F (map f xs) (f x))))) (uses_both u v)

  pub terms_lack : {A : Type 0} (f : A → Term) (o m : Emitter) (a : Around) (F : Ty) (xs all : List A) (x : A) (e : RecordRefusal) → ((rest : List A) × (all ≡ xs ++ x ∷ rest)) →
      Uses o m (terms_take K a F (map f xs)) → Lacks m (next_takes a F (map f xs) (f x)) e → Lacks o (terms_take K a F (map f all)) e
  terms_lack f o m a F xs all x e r u p =
      let s = ap (terms_take K a F) (ap (map f) r.1 ∙ map-append f xs (x ∷ r.0)) ∙ terms_split a F (map f xs) (f x) (map f r.0) in
      subst (λ k. Lacks o k e) (sym s) (lacks_behind _ u (both_first (terms_take K a F (map f xs)) (next_takes a F (map f xs) (f x)) _) p)
