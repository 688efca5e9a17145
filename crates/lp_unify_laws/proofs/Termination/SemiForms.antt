-- A term that weighs something and is as a scan has seen one is scanned so again: what converts to a pattern is found to be one.
use Rattle.std.proofs.Common.{◌≡◌, ℕ, zero, suc, ◌+◌, ◌<◌, ◌≤◌, List, [], ◌∷◌, ◌∙◌, refl, ap, subst as transport, arith, true, false, Option, Some, None, not, if◌then◌else◌}
use Rattle.std.specs.Prelude.{option_map, option_and_then, nat_lt, ◌&&◌}
use Rattle.std.proofs.lemmas.Bool.Decides.{nat_tests}
use Rattle.lp_calculus.specs.Term.{Term, Atom, atom, abs, apply, substitute, constant, integer, text, eigen, logic, param}
use Rattle.lp_calculus.specs.Convert.{Converts, same, here, by_beta, leftmost_step, steps, ConvertAll, convert_none, convert_more}
use Rattle.lp_calculus.specs.Normal.{IsNormal, NormalisesTo, eta_normal}
use Rattle.lp_calculus.specs.Fill.{Within}
use Rattle.lp_calculus.proofs.Fills.{within_more}
use Rattle.lp_calculus.proofs.Steps.{converts_on, converts_sym, converts_step, converts_reduces, within_step, within_reduces}
use Rattle.lp_calculus.proofs.BetaEta.{normal_same}
use Rattle.lp_term.proofs.EtaForms.{form_is}
use Rattle.lp_model.specs.Patterns.{eigens, member}
use Rattle.lp_model.specs.Eigens.{beta_normal, eigen_of, as_eigen}
use Rattle.lp_model.specs.Look.{Look, an_abs, rigid, flexible, as_eigens, only_if, pattern_of, are_distinct, are_above}
use Rattle.lp_model.specs.Scan.{Side, is_side}
use Rattle.lp_unify_laws.specs.Levels.{UpTo}
use Rattle.lp_unify_laws.proofs.Sames.{both_on}
use Rattle.lp_unify_laws.proofs.Abstractions.{Distinct}
use Rattle.lp_unify_laws.proofs.News.{avoids_member}
use Rattle.lp_unify_laws.proofs.Closings.{WithinAll, within_apply}
use Rattle.lp_unify_laws.proofs.Looks.{seen, look_reduces}
use Rattle.lp_unify_laws.proofs.Firm.{IsFirm, look_firm}
use Rattle.lp_unify_laws.proofs.NormalForms.Weights.{Weighs, body_weighs}
use Rattle.lp_unify_laws.proofs.Termination.Looks.{AllWeigh, LookWeighs, look_comes, pattern_comes, normal_comes, behind}
use Rattle.lp_unify_laws.proofs.MoreSteps.Scans.{as_eigen_more, as_eigens_more}
use Rattle.lp_unify_laws.proofs.Termination.Stricts.{Good, GoodAll, GoodLook, good_none, good_more, good_seen, good_rigid, good_flexible, good_pattern, outside_pattern, stricts_good, AllStrict}
use Rattle.lp_unify_laws.proofs.Termination.Semis.{AllAbove, Semi, AllSemi, semi_none, semi_more, semi_like, semi_opens, rigid_semi, FlexSemi, as_pattern, as_strict, flex_semi}

-- what converts to an eigenconstant is found to be one
pub normal_of : (n : ℕ) (t r : Term) → beta_normal n t ≡ Some r → (k : ℕ) × NormalisesTo k t r
normal_of zero t r e = absurd (cc)
normal_of (suc n) t r e = elim (leftmost_step t) as (λ o. leftmost_step t ≡ o → (elim o as (λ x. Option Term) [ None ↦ Some t | Some x ↦ beta_normal n x ]) ≡ Some r → (k : ℕ) × NormalisesTo k t r) [
  | None ↦ λ p q. let z : t ≡ r = cc in transport (λ x. (k : ℕ) × NormalisesTo k t x) z (0, (refl, p))
  | Some x ↦ λ p q. let z = normal_of n x r q in (suc z.0, (ap (λ o. elim o as (λ y. Option Term) [ None ↦ None | Some y ↦ steps leftmost_step z.0 y ]) p ∙ z.1.0, z.1.1))
] refl e

eigen_normal : (k : ℕ) → IsNormal (atom (eigen k))
eigen_normal k s (here x) = elim x [ ]

eigen_full : {t : Term} {w : ℕ} → Weighs t w → (k : ℕ) → Converts t (atom (eigen k)) → (n : ℕ) × (as_eigen n t ≡ Some (Some k))
eigen_full {t} h k c =
    let b = normal_comes h in
    let z = normal_of b.0 t b.1 b.2 in
    let f = form_is z.0 t b.1 z.1 in
    let q : eta_normal b.1 ≡ atom (eigen k) = normal_same (eta_normal b.1) (atom (eigen k)) f.1 (eigen_normal k) (converts_on (converts_sym (converts_reduces f.0)) c) in
    (b.0, ap (option_map (λ s. eigen_of (eta_normal s))) b.2 ∙ ap (λ x. Some (eigen_of x)) q)

eigens_full : (b : List ℕ) (ts : List Term) (w : ℕ) → AllWeigh ts w → {us : List Term} → ConvertAll ts us → us ≡ eigens b → (n : ℕ) × (as_eigens n ts ≡ Some (Some b))
eigens_full [] [] w h c e = (0, refl)
eigens_full [] (t ∷ ts) w h (convert_more c cs) e = absurd (cc)
eigens_full (k ∷ b) [] w h convert_none e = absurd (cc)
eigens_full (k ∷ b) (t ∷ ts) w h (convert_more {u = u} c cs) e =
    let q : u ≡ atom (eigen k) = cc in
    let a = eigen_full h.2.1.0 k (transport (Converts t) q c) in
    let r = eigens_full b ts h.1 h.2.1.1 cs (cc) in
    let j = a.0 + r.0 in
    (j, ap (option_and_then (behind ts j)) (as_eigen_more a.0 j (omega arith) t (Some k) a.1) ∙ ap (option_map (option_map (λ ks. k ∷ ks))) (as_eigens_more r.0 j (omega arith) ts (Some b) r.1))

distinct_true : (b : List ℕ) → Distinct b → are_distinct b ≡ true
distinct_true [] h = refl
distinct_true (c ∷ b) h = both_on (not (member c b)) (are_distinct b) (ap not (avoids_member c b h.0)) (distinct_true b h.1)

above_true : (m : ℕ) (b : List ℕ) → AllAbove m b → are_above m b ≡ true
above_true m [] h = refl
above_true m (c ∷ b) h = both_on (nat_lt m c) (are_above m b) (let l : m < c = h.0 in grind (arith, nat_tests)) (above_true m b h.1)

pattern_full : (m : ℕ) (b : List ℕ) (ts : List Term) (w : ℕ) → AllWeigh ts w → ConvertAll ts (eigens b) → Distinct b → AllAbove m b → (n : ℕ) × (pattern_of n m ts ≡ Some (Some b))
pattern_full m b ts w h c d a =
    let r = eigens_full b ts w h c refl in
    (r.0, ap (option_map (only_if (λ ks. are_distinct ks && are_above m ks))) r.1 ∙ ap (λ z. Some (if z then Some b else None)) (both_on (are_distinct b) (are_above m b) (distinct_true b d) (above_true m b a)))

-- terms
abbrev SemisBelow : ℕ → Type 0
SemisBelow N = (s : Side) (k : ℕ) (t : Term) (w : ℕ) → s.pair ≤ k → Within (UpTo k) 0 t → Weighs t w → w < N → Semi s t → Good s false k t

semis_all : (N : ℕ) → SemisBelow N → (s : Side) (k : ℕ) (ts : List Term) (w : ℕ) → s.pair ≤ k → WithinAll (UpTo k) ts → AllWeigh ts w → w ≤ N → AllSemi s ts → GoodAll s false k ts
semis_all N ι s k [] w p u h l semi_none = good_none s false k
semis_all N ι s k (t ∷ ts) w p u h l (semi_more a as') = let i = h.2.0 in
    good_more s false k t ts (ι s k t h.0 p u.0 h.2.1.0 (omega arith) a) (semis_all N ι s k ts h.1 p u.1 h.2.1.1 (omega arith) as')

semi_look : (N : ℕ) → SemisBelow N → (s : Side) (k : ℕ) (v : Look) (w : ℕ) → s.pair ≤ k → Within (UpTo k) 0 (seen v) → IsFirm v → LookWeighs v w → w ≤ N → Semi s (seen v) → GoodLook s false k v
semi_look N ι s k (an_abs b) w p u f h l z =
    let i = h.1.0 in
    let e = atom (eigen (suc k)) in
    let q : suc k ≤ suc k = omega arith in
    ι s (suc k) (substitute e b) h.0 (omega arith)
    (within_step (UpTo (suc k)) 0 (here (by_beta b e)) (within_more (UpTo k) (UpTo (suc k)) 0 0 (up_more k) (omega arith) (abs b) u, q))
    (body_weighs (eigen (suc k)) b h.1.1) (omega arith)
    (semi_like s (converts_sym (converts_step (here (by_beta b e)))) (semi_opens s k (abs b) p u z))
  where
    up_more : (k : ℕ) (a : Atom) → UpTo k a → UpTo (suc k) a
    up_more k (eigen j) x = let y : j ≤ k = x in let z : j ≤ suc k = omega arith in z
    up_more k (logic x l) y = tt
    up_more k (constant c ts) y = tt
    up_more k (integer z) y = tt
    up_more k (text s) y = tt
    up_more k (param i t) y = tt
semi_look N ι s k (rigid g ts) w p u f h l z =
    let q = rigid_semi s z g ts f (same (apply g ts)) in
    good_rigid s false k g ts q.0 (semis_all N ι s k ts w p (within_apply (UpTo k) ts g u).1 h l q.1)
semi_look N ι s k (flexible y m ts) w p u f h l z = by_flex (flex_semi s z y m ts (same (apply (atom (logic y m)) ts)))
  where
    strict_by : (j : ℕ) (o : Option (List ℕ)) → pattern_of j m ts ≡ Some o → is_side s y m ≡ false → nat_lt s.level m ≡ false → AllStrict s ts → GoodLook s false k (flexible y m ts)
    strict_by j None e a b c = good_flexible s false k y m ts a b j e (stricts_good s true k ts w p h c)
    strict_by j (Some d) e a b c = good_pattern s false k y m ts d j e (outside_pattern s y m d a)

    by_flex : FlexSemi s y m ts → GoodLook s false k (flexible y m ts)
    by_flex (as_pattern b c i j o) = let q = pattern_full m b ts w h c i j in good_pattern s false k y m ts b q.0 q.1 (outside_pattern s y m b o)
    by_flex (as_strict o a c) = let q = pattern_comes m ts w h in strict_by q.0 q.1 q.2 o a c

semis_below : (N : ℕ) → SemisBelow N
semis_below zero s k t w p u h l z = absurd (omega arith)
semis_below (suc N) s k t w p u h l z =
    let a = look_comes h in
    let r = look_reduces a.steps t a.view a.is in
    good_seen s false k t a.steps a.view a.is (semi_look N (semis_below N) s k a.view w p (within_reduces (UpTo k) 0 r u) (look_firm a.steps t a.view a.is) a.parts (omega arith) (semi_like s (converts_sym (converts_reduces r)) z))

pub semi_good : (s : Side) (k : ℕ) (t : Term) (w : ℕ) → s.pair ≤ k → Within (UpTo k) 0 t → Weighs t w → Semi s t → Good s false k t
semi_good s k t w p u h z = semis_below (suc w) s k t w p u h (omega arith) z
