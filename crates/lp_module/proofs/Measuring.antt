-- Measures of terms, and which types end in `o`.
use Rattle.std.proofs.Common.{◌≡◌, ℕ, zero, suc, ◌+◌, ◌<◌, [], ◌∷◌, ◌++◌, length, get_or, Bool, true, false, refl, sym, ap, subst, ◌∙◌, arith, inl, inr}
use Rattle.std.specs.Prelude.{◌⊎◌, not, ◌&&◌, ◌||◌, nat_eq}
use Rattle.std.proofs.lemmas.List.{get_or_append_left, length-append}
use Rattle.std.proofs.Math.Seq.{get_or-append_seam}
use Rattle.std.proofs.lemmas.Bool.Decides.{nat_tests}
use Rattle.lp_lemmas.proofs.Numbers.{below_suc}
use Rattle.lp_calculus.specs.Types.{Tys, con}
use Rattle.lp_calculus.specs.Term.{Term, index, atom, abs, app}
use Rattle.lp_calculus.specs.Spine.{head_of}
use Rattle.lp_term.specs.Spine.{head}
use Rattle.lp_term.specs.Nodes.{Nodes, Extends, tree}
use Rattle.lp_model.specs.Flatten.{ends_in_o}
use Rattle.lp_module.specs.declared.measure.Measure.{Measure}
use Rattle.lp_module.specs.declared.measure.Measures.{Measures}
use Rattle.lp_module.specs.inner.Judging.{IsMeasure, no_measure, AreMeasured}

-- a bank that grows keeps them
pub measured_later : (b c : Nodes) (m : Measures) → Extends b c → AreMeasured b m → AreMeasured c m
measured_later b c m e a = record {
  within = omega (arith, a.within, e.more_terms);
  each = λ i h. subst (IsMeasure (get_or m.measured.items i no_measure)) (sym (e.same_terms i (omega (arith, h, a.within)))) (a.each i h);
}

-- one more
pub measured_more : (b : Nodes) (old new : Measures) (id : ℕ) (n : Measure) → new.measured.items ≡ old.measured.items ++ n ∷ [] → id ≡ length old.measured.items → id < length b.terms → IsMeasure n (tree b id) → AreMeasured b old → AreMeasured b new
measured_more b old new id n pushed at h is a =
    let l : length new.measured.items ≡ length old.measured.items + 1 = ap length pushed ∙ length-append old.measured.items (n ∷ []) in
    record { within = omega (arith, l, at, h); each = λ i k. subst (λ ms. IsMeasure (get_or ms i no_measure) (tree b i)) (sym pushed) (by i (below_suc (length old.measured.items) i (omega (arith, l, k)))) }
  where
    by : (i : ℕ) → (i < length old.measured.items) ⊎ (i ≡ length old.measured.items) → IsMeasure (get_or (old.measured.items ++ n ∷ []) i no_measure) (tree b i)
    by i (inl k) = subst (λ m. IsMeasure m (tree b i)) (sym (get_or_append_left old.measured.items (n ∷ []) no_measure i k)) (a.each i k)
    by i (inr e) =
        subst (λ j. IsMeasure (get_or (old.measured.items ++ n ∷ []) j no_measure) (tree b j)) (sym e)
        (subst (λ m. IsMeasure m (tree b (length old.measured.items))) (sym (get_or-append_seam old.measured.items n [] no_measure)) (subst (λ j. IsMeasure n (tree b j)) at is))

-- one more argument
pub positive_both : (x y : Bool) → (not x || not y) ≡ not (x && y)
positive_both true y = refl
positive_both false y = refl

-- the kind of goals is 0
pub ends_by_kind : (k : ℕ) (ts : Tys) → nat_eq k 0 ≡ ends_in_o (con k ts)
ends_by_kind zero ts = refl
ends_by_kind (suc k) ts = grind (arith, nat_tests)

-- a head by either definition
pub heads_same : (t : Term) → head t ≡ head_of t
heads_same (index i) = refl
heads_same (atom a) = refl
heads_same (abs b) = refl
heads_same (app t u) = heads_same t

-- of four tests
pub one_of_four : (a b c d : Bool) → ((a || b) || (c || d)) ≡ not (not (a || b || c || d))
one_of_four true b c d = refl
one_of_four false true c d = refl
one_of_four false false true d = refl
one_of_four false false false true = refl
one_of_four false false false false = refl
