-- Rules 1, 2 and 3: the pairs that they give have the solutions of the pair.
use Rattle.std.proofs.Common.{◌≡◌, ℕ, suc, ◌≤◌, List, [], ◌∷◌, length, refl, subst as transport, arith}
use Rattle.lp_calculus.specs.Term.{Term, index, atom, abs, app, apply, Atom, constant, integer, text, eigen, logic, param}
use Rattle.lp_calculus.specs.Convert.{Converts, same, ConvertAll, convert_none, convert_more}
use Rattle.lp_calculus.specs.Fill.{Within, close, at_variables}
use Rattle.lp_model.specs.Pair.{Pair}
use Rattle.lp_unify_laws.specs.Levels.{IsPair, IsPairAtom, IsClosing, IsLevelAtom, UpTo, SolvedBy, AllSolvedBy}
use Rattle.lp_model.specs.Rule.{open_with, opened, argument_pairs}
use Rattle.lp_unify_laws.specs.Right.{ArePairs, IsGiven}
use Rattle.lp_calculus.proofs.Fills.{within_more}
use Rattle.lp_calculus.proofs.Steps.{converts_on, converts_sym, converts_is, converts_app, converts_fill}
use Rattle.lp_unify_laws.proofs.Abstractions.{Not}
use Rattle.lp_unify_laws.proofs.Looks.{converts_spine}
use Rattle.lp_calculus.proofs.Rigid.{IsRigid, AreJoint, rigid_joint}
use Rattle.lp_unify_laws.proofs.Closings.{within_close, closed_not, agree_on, pair_more, WithinAll, close_all, close_apply}

pub pair_up : (next n : ℕ) (a : Atom) → IsPairAtom next n a → UpTo n a
pair_up next n (eigen k) p = p
pair_up next n (logic x l) p = tt
pair_up next n (constant c ts) p = tt
pair_up next n (integer z) p = tt
pair_up next n (text s) p = tt
pair_up next n (param k t) p = tt

-- rule 2
closed_new : (next n : ℕ) (σ : ℕ → ℕ → Term) → IsClosing σ → (t : Term) → Within (IsPairAtom next n) 0 t → Within (Not (suc n)) 0 (close σ t)
closed_new next n σ c t w = within_more (IsLevelAtom n) (Not (suc n)) 0 0 (closed_not n (suc n) (omega arith)) (omega arith) (close σ t) (within_close next n σ c t w)

open_within : (next n : ℕ) (t : Term) → Within (IsPairAtom next n) 0 t → Within (IsPairAtom next (suc n)) 0 (open_with (suc n) t)
open_within next n t w = let q : suc n ≤ suc n = omega arith in (within_more (IsPairAtom next n) (IsPairAtom next (suc n)) 0 0 (pair_more next n (suc n) (omega arith)) (omega arith) t w, q)

pub opened_right : (next : ℕ) (p : Pair) → IsPair next p → IsGiven next p (opened p ∷ [])
opened_right next p w = record {
  pairs = ((open_within next p.level p.left w.0, open_within next p.level p.right w.1), tt);
  keeps = λ σ c s. (converts_app s (same (atom (eigen (suc p.level)))), tt);
  solves = λ σ c s. agree_on (suc p.level) (close σ p.left) (close σ p.right) (closed_new next p.level σ c p.left w.0) (closed_new next p.level σ c p.right w.1) s.0;
}

-- rule 3
arguments_within : (next n : ℕ) (ts us : List Term) → WithinAll (IsPairAtom next n) ts → WithinAll (IsPairAtom next n) us → ArePairs next (argument_pairs n ts us)
arguments_within next n [] us w v = tt
arguments_within next n (t ∷ ts) [] w v = tt
arguments_within next n (t ∷ ts) (u ∷ us) w v = ((w.0, v.0), arguments_within next n ts us w.1 v.1)

arguments_solved : (n : ℕ) (σ : ℕ → ℕ → Term) (ts us : List Term) → ConvertAll (close_all σ ts) (close_all σ us) → AllSolvedBy σ (argument_pairs n ts us)
arguments_solved n σ [] us c = tt
arguments_solved n σ (t ∷ ts) [] c = tt
arguments_solved n σ (t ∷ ts) (u ∷ us) (convert_more h c) = (h, arguments_solved n σ ts us c)

arguments_solve : (n : ℕ) (σ : ℕ → ℕ → Term) (ts us : List Term) → length ts ≡ length us → AllSolvedBy σ (argument_pairs n ts us) → ConvertAll (close_all σ ts) (close_all σ us)
arguments_solve n σ [] [] e s = convert_none
arguments_solve n σ [] (u ∷ us) e s = absurd (omega arith)
arguments_solve n σ (t ∷ ts) [] e s = absurd (omega arith)
arguments_solve n σ (t ∷ ts) (u ∷ us) e s = let q : length ts ≡ length us = omega arith in convert_more s.0 (arguments_solve n σ ts us q s.1)

pub close_rigid : (σ : ℕ → ℕ → Term) (h : Term) → IsRigid h → close σ h ≡ h
close_rigid σ (index i) r = refl
close_rigid σ (atom (logic x l)) r = absurd r
close_rigid σ (atom (constant c ts)) r = refl
close_rigid σ (atom (integer z)) r = refl
close_rigid σ (atom (text s)) r = refl
close_rigid σ (atom (eigen k)) r = refl
close_rigid σ (atom (param k t)) r = refl
close_rigid σ (abs b) r = absurd r
close_rigid σ (app t u) r = absurd r

-- a closing of what is seen of a pair's side
pub close_seen : (σ : ℕ → ℕ → Term) (t h : Term) (ts : List Term) → Converts t (apply h ts) → Converts (close σ t) (apply (close σ h) (close_all σ ts))
close_seen σ t h ts c = converts_on (converts_fill (at_variables σ) c) (converts_is (close_apply σ ts h))

pub close_seen_rigid : (σ : ℕ → ℕ → Term) (t h : Term) (ts : List Term) → IsRigid h → Converts t (apply h ts) → Converts (close σ t) (apply h (close_all σ ts))
close_seen_rigid σ t h ts r c = transport (λ g. Converts (close σ t) (apply g (close_all σ ts))) (close_rigid σ h r) (close_seen σ t h ts c)

pub joint_of : (σ : ℕ → ℕ → Term) (p : Pair) (h g : Term) (ts us : List Term) → IsRigid h → IsRigid g → Converts p.left (apply h ts) → Converts p.right (apply g us) → SolvedBy σ p → AreJoint h g (close_all σ ts) (close_all σ us)
joint_of σ p h g ts us r q f k s =
    rigid_joint h g (close_all σ ts) (close_all σ us) r q
    (converts_on (converts_sym (close_seen_rigid σ p.left h ts r f)) (converts_on s (close_seen_rigid σ p.right g us q k)))

-- one head on as many arguments
pub decomposed_right : (next : ℕ) (p : Pair) (h g : Term) (ts us : List Term) → IsRigid h → IsRigid g → h ≡ g → length ts ≡ length us → Converts
    p.left (apply h ts) → Converts p.right (apply g us) → WithinAll (IsPairAtom next p.level) ts → WithinAll (IsPairAtom next p.level) us → IsGiven
    next p (argument_pairs p.level ts us)
decomposed_right next p h g ts us r q i l f k w v = record {
  pairs = arguments_within next p.level ts us w v;
  keeps = λ σ c s. arguments_solved p.level σ ts us (joint_of σ p h g ts us r q f k s).arguments;
  solves = λ σ c s.
      converts_on (close_seen_rigid σ p.left h ts r f)
      (converts_on (converts_spine (arguments_solve p.level σ ts us l s) (converts_is i))
      (converts_sym (close_seen_rigid σ p.right g us q k)));
}
